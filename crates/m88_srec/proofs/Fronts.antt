-- A line by what is kept of it.
use Rattle.std.proofs.Common.{◌≡◌, ℕ, suc, ◌+◌, ◌-◌, ◌*◌, ◌/◌, ◌%◌, ◌<◌, ◌≤◌, ◌==◌, ◌&&◌, Bool, true, false, List, [], ◌∷◌, ◌++◌, Option, Some, None, is_some, length, take, drop, nat_le, if◌then◌else◌, refl, arith, ap, sym, ◌∙◌, inl, inr, length-append}
use Rattle.std.specs.Prelude.{Err}
use Rattle.std.specs.Char.{digit_value, is_digit}
use Rattle.std.specs.List.{list_all}
use Rattle.std.proofs.lemmas.Bool.{false≢true}
use Rattle.std.proofs.lemmas.Bool.Decides.{nat_tests}
use Rattle.std.proofs.lemmas.Bool.{cases_lt}
use Rattle.std.proofs.lemmas.List.{drop_all, drop-append-le, take-append-drop, take-append-le, take_all, length-drop, length-take-le}
use Rattle.std.proofs.lemmas.List.Folds.{list_all-append}
use Rattle.m88_base.proofs.Laws.{and_true}
use Rattle.m88_srec.proofs.Cases.{by_bool}
use Rattle.m88_srec.proofs.Framing.{pairs_halved}
use Rattle.m88_srec.specs.Front.{front_of, is_hexadecimal}
use Rattle.m88_srec.specs.Inside.Taking.{front_with, judged_front, overlong, overlong_fault}
use Rattle.m88_srec.specs.Records.{RecordType, are_more_pairs, bytes_in, letter_s, type_of}
use Rattle.m88_srec.specs.Verdict.{Load, formed_as, formed_on, framed_on, is_miscounted, judged, record_form}
use Rattle.m88_srec.specs.declared.fault.SrecKind.TheVariants.{AfterEnd, Count, Form}

-- pairs of a front of pairs and of what is left
step_and : (p q r s : Bool) → (p && q && (r && s)) ≡ ((p && q && r) && s)
step_and true true r s = refl
step_and true false r s = refl
step_and false q r s = refl

pairs_split : (xs ys : List ℕ) → length xs % 2 ≡ 0 → are_more_pairs (xs ++ ys) ≡ (are_more_pairs xs && are_more_pairs ys)
pairs_split [] ys h = refl
pairs_split (a ∷ []) ys h = absurd (omega arith)
pairs_split (a ∷ b ∷ xs) ys h =
    let even : length xs % 2 ≡ 0 = omega arith in
    ap (λ rest. is_digit a 16 && is_digit b 16 && rest) (pairs_split xs ys even)
    ∙ step_and (is_digit a 16) (is_digit b 16) (are_more_pairs xs) (are_more_pairs ys)

turned : (p q r : Bool) → (p && q && r) ≡ (p && (q && r))
turned true q r = refl
turned false q r = refl

-- pairs are hexadecimal digits, as many as are even
pairs_as_digits : (ys : List ℕ) → are_more_pairs ys ≡ (list_all is_hexadecimal ys && length ys % 2 == 0)
pairs_as_digits [] = refl
pairs_as_digits (a ∷ []) = one (is_digit a 16)
  where
    one : (p : Bool) → false ≡ ((p && true) && 1 % 2 == 0)
    one true = refl
    one false = refl
pairs_as_digits (a ∷ b ∷ ys) =
    let even : suc (suc (length ys)) % 2 ≡ length ys % 2 = omega arith in
    ap (λ rest. is_digit a 16 && is_digit b 16 && rest) (pairs_as_digits ys)
    ∙ step_and (is_digit a 16) (is_digit b 16) (list_all is_hexadecimal ys) (length ys % 2 == 0)
    ∙ ap (λ n. (is_digit a 16 && is_digit b 16 && list_all is_hexadecimal ys) && n == 0) (sym even)
    ∙ ap (λ w. w && suc (suc (length ys)) % 2 == 0) (turned (is_digit a 16) (is_digit b 16) (list_all is_hexadecimal ys))

-- a byte that a pair writes is at most 255
byte_below : (high low : ℕ) → (is_digit high 16 && is_digit low 16) ≡ true → digit_value high * 16 + digit_value low ≤ 255
byte_below high low h = grind (arith, nat_tests)

-- numbers on two sides of a bound
apart : (n m : ℕ) → n ≤ 255 → 256 ≤ m → (n == m) ≡ false
apart n m h k = grind (arith, nat_tests)

-- where all digits are pairs, the count can't be right
pub miscounted : (t : RecordType) (x y : ℕ) (rest : List ℕ) → are_more_pairs (x ∷ y ∷ rest) ≡ true → 512 ≤ length rest →
    is_miscounted (record { purpose = t.purpose; width = t.width; bytes = bytes_in (x ∷ y ∷ rest) }) ≡ true
miscounted t x y rest pairs long =
    let few : digit_value x * 16 + digit_value y ≤ 255 =
    byte_below x y (front (is_digit x 16) (is_digit y 16) (are_more_pairs rest) pairs) in
    let size : length (bytes_in (x ∷ y ∷ rest)) - 1 ≡ length rest / 2 = omega (arith, pairs_halved rest) in
    let other : (digit_value x * 16 + digit_value y == length (bytes_in (x ∷ y ∷ rest)) - 1) ≡ false =
    apart (digit_value x * 16 + digit_value y) (length (bytes_in (x ∷ y ∷ rest)) - 1) few (omega (arith, size, long)) in
    rw other refl
  where
    front : (p q r : Bool) → (p && q && r) ≡ true → (p && q) ≡ true
    front true true r h = refl
    front true false r h = h
    front false q r h = h

-- the digits of a line, cut where a front of them is kept
pub pairs_cut : (ds : List ℕ) → 512 ≤ length ds →
    are_more_pairs ds
    ≡ (are_more_pairs (take 512 ds) && (list_all is_hexadecimal (drop 512 ds) && length (drop 512 ds) % 2 == 0))
pairs_cut ds long =
    let size : length (take 512 ds) ≡ 512 = length-take-le 512 ds long in
    ap are_more_pairs (sym (take-append-drop 512 ds))
    ∙ pairs_split (take 512 ds) (drop 512 ds) (ap (λ n. n % 2) size)
    ∙ ap (λ more. are_more_pairs (take 512 ds) && more) (pairs_as_digits (drop 512 ds))

-- without digits alone it has no form
formless : (t : Option RecordType) (bytes : List ℕ) (n : ℕ) → overlong false n (formed_as t bytes) ≡ Form
formless None bytes n = refl
formless (Some t) bytes n = refl

-- with them its count can't be right
counted : (load : Load) (t : Option RecordType) (x y : ℕ) (rest front : List ℕ)
    → are_more_pairs (x ∷ y ∷ rest) ≡ true → 512 ≤ length rest →
    Err (overlong true (length rest / 2) (formed_as t (bytes_in (x ∷ y ∷ front))))
    ≡ formed_on load (formed_as t (bytes_in (x ∷ y ∷ rest)))
unfolding framed_on
counted load None x y rest front pairs long = refl
counted load (Some t) x y rest front pairs long =
    let size : length (bytes_in (x ∷ y ∷ rest)) - 1 ≡ length rest / 2 = omega (arith, pairs_halved rest) in
    rw (miscounted t x y rest pairs long) (ap (λ n. Err (Count (digit_value x * 16 + digit_value y) n)) (sym size))

-- the verdict on a line that is longer than what is kept, by its front
pub overlong_judged : (load : Load) (s d x y : ℕ) (rest : List ℕ) (fits : Bool) (front : List ℕ) →
    511 ≤ length rest →
    are_more_pairs (x ∷ y ∷ rest) ≡ (are_more_pairs (x ∷ y ∷ front) && fits) → (fits ≡ true → 512 ≤ length rest) →
    Err (overlong fits (length rest / 2) (record_form (s ∷ d ∷ x ∷ y ∷ front)))
    ≡ formed_on load (record_form (s ∷ d ∷ x ∷ y ∷ rest))
unfolding record_form framed_on
overlong_judged load s d x y rest fits front long cut even = by_bool (s == letter_s)
    (λ letter. by_bool (are_more_pairs (x ∷ y ∷ front))
    (λ pairs. by_bool fits
    (λ yes.
    let all : are_more_pairs (x ∷ y ∷ rest) ≡ true = cut ∙ rw (pairs, yes) refl in
    rw (letter, pairs, all, yes) (counted load (type_of d) x y rest front all (even yes)))
    (λ no.
    let none : are_more_pairs (x ∷ y ∷ rest) ≡ false = cut ∙ rw (pairs, no) refl in
    rw (letter, pairs, none, no) (ap Err (formless (type_of d) (bytes_in (x ∷ y ∷ front)) (length rest / 2)))))
    (λ no. let none : are_more_pairs (x ∷ y ∷ rest) ≡ false = cut ∙ ap (λ b. b && fits) no in rw (letter, no, none) refl))
    (λ other. rw other refl)

long_front : (load : Load) (line : List ℕ) → nat_le (length line) 514 ≡ false
    → judged_front load (front_of line) ≡ judged load line
unfolding judged_front judged overlong_fault
long_front load [] h = absurd (false≢true (sym h))
long_front load (s ∷ []) h = absurd (grind (arith, nat_tests))
long_front load (s ∷ d ∷ []) h = absurd (grind (arith, nat_tests))
long_front load (s ∷ d ∷ x ∷ []) h = absurd (grind (arith, nat_tests))
long_front load (s ∷ d ∷ x ∷ y ∷ rest) h =
    let long : 511 ≤ length rest = grind (arith, nat_tests) in
    let size : length (drop 510 rest) + 510 ≡ length rest = omega (arith, length-drop 510 rest) in
    let parity : suc (suc (suc (suc (length rest)))) % 2 ≡ length (drop 510 rest) % 2 = omega (arith, size) in
    let half : suc (suc (suc (suc (length rest)))) / 2 - 2 ≡ length rest / 2 = omega arith in
    rw (h, half, parity)
    (ap (λ r. if is_some load.start then Err AfterEnd else r)
    (overlong_judged load s d x y rest _ (take 510 rest) long (pairs_cut (x ∷ y ∷ rest) (omega (arith, long)))
    (λ fits. even (list_all is_hexadecimal (drop 510 rest)) (length (drop 510 rest)) (length rest) size long fits)))
  where
    even : (p : Bool) (n m : ℕ) → n + 510 ≡ m → 511 ≤ m → (p && n % 2 == 0) ≡ true → 512 ≤ m
    even true n m size long h = grind (arith, nat_tests)
    even false n m size long h = absurd (false≢true h)

short_front : (load : Load) (line : List ℕ) → nat_le (length line) 514 ≡ true
    → judged_front load (front_of line) ≡ judged load line
unfolding judged_front
short_front load line h =
    let few : length line ≤ 514 = grind (arith, nat_tests) in
    rw h (ap (judged load) (take_all 514 line few))

-- what is kept of a line judges it
pub front_judges : (load : Load) (line : List ℕ) → judged_front load (front_of line) ≡ judged load line
front_judges load line = by_bool (nat_le (length line) 514) (short_front load line) (long_front load line)

-- one byte more of a line that is kept whole
pushed_short : (line : List ℕ) (b : ℕ) → length line < 514 → front_with (front_of line) b ≡ front_of (line ++ b ∷ [])
pushed_short line b short =
    let more : List ℕ = line ++ b ∷ [] in
    let size : length more ≡ length line + 1 = length-append line (b ∷ []) in
    let all : take 514 line ≡ line = take_all 514 line (omega (arith, short)) in
    let none : drop 514 line ≡ [] = drop_all 514 line (omega (arith, short)) in
    let all_more : take 514 more ≡ more = take_all 514 more (omega (arith, size, short)) in
    let none_more : drop 514 more ≡ [] = drop_all 514 more (omega (arith, size, short)) in
    let open_end : (length line == 514) ≡ false = grind (arith, nat_tests) in
    rw (all, none, all_more, none_more, open_end, size) refl

-- and of a longer one
pushed_long : (line : List ℕ) (b : ℕ) → 514 ≤ length line → front_with (front_of line) b ≡ front_of (line ++ b ∷ [])
pushed_long line b long =
    let size : length (line ++ b ∷ []) ≡ length line + 1 = length-append line (b ∷ []) in
    let full : length (take 514 line) ≡ 514 = length-take-le 514 line long in
    let kept : take 514 (line ++ b ∷ []) ≡ take 514 line = take-append-le 514 line (b ∷ []) long in
    let rest : drop 514 (line ++ b ∷ []) ≡ drop 514 line ++ b ∷ [] = drop-append-le 514 line (b ∷ []) long in
    let digits : list_all is_hexadecimal (drop 514 line ++ b ∷ [])
    ≡ (list_all is_hexadecimal (drop 514 line) && (is_hexadecimal b && true)) =
    list_all-append is_hexadecimal (drop 514 line) (b ∷ []) in
    rw (full, kept, rest, digits, size)
    (ap
    (λ (d : Bool). record { kept = take 514 line; len = length line + 1; digits = list_all is_hexadecimal (drop 514 line) && d })
    (sym (and_true (is_hexadecimal b))))

-- what is kept of a line with one byte more
pub pushed_front : (line : List ℕ) (b : ℕ) → front_with (front_of line) b ≡ front_of (line ++ b ∷ [])
pushed_front line b =
    elim (cases_lt (length line) 514) [ inl short ↦ pushed_short line b short | inr long ↦ pushed_long line b long ]
