-- A piece that was copied to the front of a buffer is the next piece of the bytes that it was copied from.
use Rattle.std.proofs.Common.{◌≡◌, ℕ, ◌+◌, ◌≤◌, List, ◌++◌, length, take, drop, sym, arith, length-take, length-drop}
use Rattle.std.proofs.lemmas.List.{drop-drop, take-append-drop, take-append-le, take-take}

pub next_piece : (bytes piece rest : List ℕ) (at n : ℕ) → piece ≡ take n (drop at bytes) → at + n ≤ length bytes
    → drop at bytes ≡ take n (piece ++ rest) ++ drop (at + n) bytes
next_piece bytes piece rest at n e fit =
    let room : n ≤ length (take n (drop at bytes)) = simp (length-take, length-drop) (omega arith) in
    let same : n ≤ n = omega arith in
    rw (e, take-append-le n (take n (drop at bytes)) rest room, take-take n n (drop at bytes) same, ← drop-drop n at bytes)
    (sym (take-append-drop n (drop at bytes)))
