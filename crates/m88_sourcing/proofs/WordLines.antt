-- The line of words, word by word.
use Rattle.std.proofs.Common.{◌≡◌, ℕ, zero, suc, ◌+◌, ◌*◌, ◌-◌, ◌<◌, List, [], ◌∷◌, ◌++◌, take, drop, map, sym, ap, ◌∙◌, append_assoc, append-nil, arith}
use Rattle.std.specs.Prelude.{codes, flat_map}
use Rattle.std.specs.Int.{from_be_bytes, w32}
use Rattle.std.proofs.lemmas.List.{drop-drop}
use Rattle.m88_base.specs.Lines.{line_end}
use Rattle.m88_disasm.specs.Text.{hexadecimal}
use Rattle.m88_sourcing.specs.Data.{whole_words, words_line}

-- further words
abbrev pub further : ℕ → List ℕ → List ℕ
further n bytes = flat_map (λ operand. codes "," ++ operand) (map hexadecimal (whole_words n bytes))

-- a word behind a byte
abbrev word_behind : ℕ → List ℕ → List ℕ
word_behind before bytes = before ∷ hexadecimal (from_be_bytes w32 (take 4 bytes))

pub first_word : (t0 t1 t2 bytes : List ℕ) (count : ℕ) → 0 < count → t1 ≡ t0 ++ codes ".word"
    → t2 ≡ t1 ++ word_behind 32 bytes → t2 ++ further (count - 1) (drop 4 bytes) ≡ t0 ++ words_line count bytes
first_word t0 t1 t2 bytes zero some first second = absurd (omega (arith, some))
first_word t0 t1 t2 bytes (suc n) some first second =
    let e : suc n - 1 ≡ n = omega arith in
    ap (λ (m : ℕ). t2 ++ further m (drop 4 bytes)) e
    ∙ ap (λ (xs : List ℕ). xs ++ further n (drop 4 bytes)) (second ∙ ap (λ (xs : List ℕ). xs ++ word_behind 32 bytes) first)
    ∙ append_assoc (t0 ++ codes ".word") (word_behind 32 bytes) (further n (drop 4 bytes))
    ∙ append_assoc t0 (codes ".word") (word_behind 32 bytes ++ further n (drop 4 bytes))

pub one_more_word : (t1 t2 whole bytes rest : List ℕ) (count index : ℕ) → index < count → rest ≡ drop (4 * index) bytes
    → t1 ++ further (count - index) (drop (4 * index) bytes) ≡ whole → t2 ≡ t1 ++ word_behind 44 rest
    → t2 ++ further (count - (index + 1)) (drop (4 * (index + 1)) bytes) ≡ whole
one_more_word t1 t2 whole bytes rest count index low rest_is so_far more =
    let left : List ℕ = drop (4 * index) bytes in
    let n : ℕ = count - (index + 1) in
    let e : suc n ≡ count - index = omega (arith, low) in
    let on : 4 * index + 4 ≡ 4 * (index + 1) = omega arith in
    let behind : drop (4 * (index + 1)) bytes ≡ drop 4 left =
    sym (drop-drop 4 (4 * index) bytes ∙ ap (λ (k : ℕ). drop k bytes) on) in
    ap (λ (xs : List ℕ). xs ++ further n (drop (4 * (index + 1)) bytes)) (more ∙ ap (λ (xs : List ℕ). t1 ++ word_behind 44 xs) rest_is)
    ∙ ap (λ (xs : List ℕ). (t1 ++ word_behind 44 left) ++ further n xs) behind
    ∙ append_assoc t1 (word_behind 44 left) (further n (drop 4 left))
    ∙ ap (λ (m : ℕ). t1 ++ further m left) e
    ∙ so_far

pub all_words : (t0 t1 t2 bytes : List ℕ) (count index : ℕ) → count ≡ index
    → t1 ++ further (count - index) (drop (4 * index) bytes) ≡ t0 ++ words_line count bytes → t2 ≡ t1 ++ 10 ∷ []
    → t2 ≡ t0 ++ (words_line count bytes ++ line_end)
all_words t0 t1 t2 bytes count index all so_far end =
    let e : count - index ≡ 0 = omega (arith, all) in
    end
    ∙ ap (λ (xs : List ℕ). xs ++ line_end)
    (sym (append-nil t1) ∙ ap (λ (m : ℕ). t1 ++ further m (drop (4 * index) bytes)) (sym e) ∙ so_far)
    ∙ append_assoc t0 (words_line count bytes) line_end
