-- Bytes that are put behind those of a block.
use Rattle.std.proofs.Common.{◌≡◌, ℕ, ◌+◌, ◌≤◌, List, ◌++◌, length, length-take-le, take, sym, ap, ◌∙◌}
use Rattle.std.proofs.Math.Seq.{take-append-add, take-append-le}

pub put_behind : (bytes source copied rest now : List ℕ) (len count : ℕ) → len ≤ length bytes → take len bytes ≡ now → copied ≡ source
    → count ≤ length source → take (len + count) (take len bytes ++ (copied ++ rest)) ≡ now ++ take count source
put_behind bytes source copied rest now len count fits is same some =
    let front = take len bytes in
    ap (λ (n : ℕ). take (n + count) (front ++ (copied ++ rest))) (sym (length-take-le len bytes fits))
    ∙ take-append-add front (copied ++ rest) count
    ∙ ap (λ xs. front ++ take count (xs ++ rest)) same
    ∙ ap (λ xs. front ++ xs) (take-append-le count source rest some)
    ∙ ap (λ xs. xs ++ take count source) is
