-- The column of a number, and that of the next one.
use Rattle.std.proofs.Common.{◌≡◌, ℕ, zero, suc, ◌+◌, ◌-◌, ◌/◌, ◌%◌, ◌^◌, ◌<◌, ◌≤◌, List, [], ◌∷◌, ◌++◌, length, take, drop, get_or, set, refl, sym, ap, ◌∙◌, append_assoc, arith, length-append}
use Rattle.std.specs.Prelude.{decimal}
use Rattle.std.proofs.lemmas.Grind.{common_steps}
use Rattle.std.proofs.lemmas.Fmt.{decimal_digit, decimal_step, length-decimal-le}
use Rattle.std.proofs.lemmas.List.{length-replicate}
use Rattle.std.proofs.Math.Seq.{drop-append_seam, get_or-append_seam, set-append_seam, take-append_seam}
use Rattle.m88_base.specs.Lines.{line_end}
use Rattle.m88_listing.specs.Columns.{at_left, at_right, space_byte, blanks, columns, no_address}

-- what stands before the last digit
abbrev front : ℕ → List ℕ
front zero = blanks 6
front (suc tens) = blanks (6 - length (decimal (suc tens))) ++ decimal (suc tens)

-- that is as wide as the column without its last place
wide : (tens : ℕ) → tens < 10 ^ 6 → length (front tens) ≡ 6
wide zero small = refl
wide (suc tens) small =
    let ds = decimal (suc tens) in
    omega (
      arith,
      length-append (blanks (6 - length ds)) ds,
      length-replicate (6 - length ds) space_byte,
      length-decimal-le 6 (suc tens) (omega arith) small (omega (arith, small)),
    )

-- a number in its column is that and the last digit
one_digit : (n : ℕ) → n < 10 → at_right 7 (decimal n) ≡ blanks 6 ++ (48 + n) ∷ []
one_digit n h = ap (at_right 7) (decimal_digit n h)

more_digits : (n : ℕ) → 10 ≤ n → n < 2 ^ 64
    → at_right 7 (decimal n) ≡ (blanks (6 - length (decimal (n / 10))) ++ decimal (n / 10)) ++ (48 + n % 10) ∷ []
more_digits n h small =
    let tens = decimal (n / 10) in
    let last = (48 + n % 10) ∷ [] in
    ap (at_right 7) (decimal_step n h small)
    ∙ ap (λ k. blanks k ++ (tens ++ last)) (omega (arith, length-append tens last))
    ∙ sym (append_assoc (blanks (6 - length tens)) tens last)

parted : (n tens : ℕ) → tens ≡ n / 10 → n < 10 ^ 7 → at_right 7 (decimal n) ≡ front tens ++ (48 + n % 10) ∷ []
parted n zero e small = one_digit n (omega (arith, e)) ∙ ap (λ d. blanks 6 ++ (48 + d) ∷ []) (omega (arith, e))
parted n (suc tens) e small =
    more_digits n (omega (arith, e)) (omega (arith, small))
    ∙ ap (λ q. (blanks (6 - length (decimal q)) ++ decimal q) ++ (48 + n % 10) ∷ []) (sym e)

-- the last digit of the number in a line that begins with its column
pub digit_at : (cell tail : List ℕ) (n : ℕ) → n < 10 ^ 7 → cell ≡ at_right 7 (decimal n) ++ tail → get_or cell 6 0 ≡ 48 + n % 10
digit_at cell tail n small e =
    let f = front (n / 10) in
    let d = 48 + n % 10 in
    let six : length f ≡ 6 = wide (n / 10) (omega (arith, small)) in
    let is : cell ≡ f ++ d ∷ tail = e ∙ ap (λ t. t ++ tail) (parted n (n / 10) refl small) ∙ append_assoc f (d ∷ []) tail in
    ap (λ c. get_or c 6 0) is ∙ ap (λ k. get_or (f ++ d ∷ tail) k 0) (sym six) ∙ get_or-append_seam f d tail 0

-- where it is below 9, one more there is the next number
pub counted : (cell tail : List ℕ) (n d : ℕ) → n + 1 < 10 ^ 7 → d ≡ 48 + n % 10 → d < 57 → cell ≡ at_right 7 (decimal n) ++ tail
    → set cell 6 (d + 1) ≡ at_right 7 (decimal (n + 1)) ++ tail
counted cell tail n d small last below e =
    let f = front (n / 10) in
    let six : length f ≡ 6 = wide (n / 10) (omega (arith, small)) in
    let is : cell ≡ f ++ d ∷ tail =
    e ∙ ap (λ t. t ++ tail) (parted n (n / 10) refl (omega (arith, small)) ∙ ap (λ x. f ++ x ∷ []) (sym last)) ∙ append_assoc f (d ∷ []) tail in
    let next : at_right 7 (decimal (n + 1)) ≡ f ++ (48 + (n + 1) % 10) ∷ [] = parted (n + 1) (n / 10) (omega (arith, last, below)) small in
    ap (λ c. set c 6 (d + 1)) is
    ∙ ap (λ k. set (f ++ d ∷ tail) k (d + 1)) (sym six)
    ∙ set-append_seam f d tail (d + 1)
    ∙ ap (λ x. f ++ x ∷ tail) (omega (arith, last, below))
    ∙ sym (append_assoc f ((48 + (n + 1) % 10) ∷ []) tail)
    ∙ ap (λ t. t ++ tail) (sym next)

-- the columns of a line that gives no bytes are its number and blanks
regroup : (a b c d e f : List ℕ) → a ++ (b ++ (c ++ (d ++ (e ++ f)))) ≡ ((((a ++ b) ++ c) ++ d) ++ e) ++ f
regroup a b c d e f = grind (arith, common_steps)

pub head_is : (n : ℕ) → at_right 7 (decimal n) ++ blanks 33 ≡ columns n no_address []
head_is n = regroup (at_right 7 (decimal n)) (blanks 2) no_address (blanks 2) (at_left 16 []) (blanks 5)

-- the number alone takes the first seven bytes
seven : (n : ℕ) → n < 10 ^ 7 → 7 ≡ length (at_right 7 (decimal n))
seven n small =
    let f = front (n / 10) in
    let last = (48 + n % 10) ∷ [] in
    omega (arith, ap length (parted n (n / 10) refl small), length-append f last, wide (n / 10) (omega (arith, small)))

-- so the columns begin as the line of the number alone does
pub begun : (line : List ℕ) (n : ℕ) → n < 10 ^ 7 → line ≡ at_right 7 (decimal n) ++ line_end → take 7 line ++ blanks 33 ≡ columns n no_address []
begun line n small is =
    let cell = at_right 7 (decimal n) in
    let number : take 7 line ≡ cell = ap (take 7) is ∙ ap (λ k. take k (cell ++ line_end)) (seven n small) ∙ take-append_seam cell line_end in
    ap (λ xs. xs ++ blanks 33) number ∙ head_is n

-- and blanks stand behind it
pub blank_behind : (head : List ℕ) (n : ℕ) → n < 10 ^ 7 → head ≡ columns n no_address [] → drop 7 head ≡ blanks 33
blank_behind head n small is =
    let cell = at_right 7 (decimal n) in
    ap (drop 7) (is ∙ sym (head_is n)) ∙ ap (λ k. drop k (cell ++ blanks 33)) (seven n small) ∙ drop-append_seam cell (blanks 33)
