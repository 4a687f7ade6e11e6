-- What a word of the program writes: a number has neither `-` nor `/`, so a word of places is cut in one way.
use Rattle.std.proofs.Common.{◌≡◌, ◌∙◌, ◌+◌, ◌*◌, ◌<◌, ◌≤◌, ℕ, zero, suc, Bool, true, false, List, [], ◌∷◌, ◌++◌, Option, None, Some, ap, append-nil, arith, eq-eqb, get_or, refl, subst, sym, true≢false, inl, inr}
use Rattle.std.specs.Prelude.{◌==◌, ◌&&◌, IfSome, MatchOption, codes, nat_lt, not}
use Rattle.std.specs.Char.{digit_value}
use Rattle.std.specs.List.{list_all}
use Rattle.std.proofs.lemmas.Bool.{and_parts}
use Rattle.std.proofs.lemmas.Bool.Decides.{nat_tests}
use Rattle.m88_base.specs.Cut.{lacks, split_at_byte}
use Rattle.m88_base.proofs.Laws.{cut_found, is_other, lacks_by, split_first}
use Rattle.m88_parse.specs.Language.Bytes.{are_digits}
use Rattle.m88_sourcing.specs.Places.{IsNumberWord, IsPlacesWord, IsRangeEnd, spaced, up_to, word_step}
use Rattle.m88_sourcing.specs.Places.IsPlacesWord.{one, range}
use Rattle.m88_sourcing.specs.Places.IsRangeEnd.{words, steps}
use Rattle.m88_sourcing.specs.declared.place.Places.{Places}

-- a byte that is no digit, and not the x of a hexadecimal number
record IsMark (at : ℕ) : Type 0 where
  no_digit : digit_value at ≡ 36
  no_x : not (120 == at) ≡ true

minus : IsMark 45
minus = record { no_digit = refl; no_x = refl }

slash : IsMark 47
slash = record { no_digit = refl; no_x = refl }

digits_lack : (at base : ℕ) → IsMark at → base ≤ 16 → (ds : List ℕ) → are_digits base ds ≡ true → lacks at ds ≡ true
digits_lack at base mark low ds h = lacks_by (λ d. nat_lt (digit_value d) base) at (λ b is. other b (b == at) refl is) ds h
  where
    other : (b : ℕ) (v : Bool) → (b == at) ≡ v → nat_lt (digit_value b) base ≡ true → not v ≡ true
    other b false e is = refl
    other b true e is =
        let same : b ≡ at = grind (arith, nat_tests) in
        let none : digit_value b ≡ 36 = ap digit_value same ∙ mark.no_digit in
        let few : digit_value b < base = grind (arith, nat_tests) in
        absurd (omega (arith, none, few, low))

zero_is_other : (at : ℕ) → IsMark at → is_other at 48 ≡ true
zero_is_other at mark = by_value (48 == at) refl
  where
    by_value : (v : Bool) → (48 == at) ≡ v → not v ≡ true
    by_value false e = refl
    by_value true e =
        let same : 48 ≡ at = grind (arith, nat_tests) in
        let none : 0 ≡ 36 = ap digit_value same ∙ mark.no_digit in
        absurd (omega (arith, none))

number_lacks : (at : ℕ) → IsMark at → (word : List ℕ) (n : ℕ) → IsNumberWord word n → lacks at word ≡ true
number_lacks at mark word n (inl d, low) = digits_lack at 10 mark (omega arith) word d.digits
number_lacks at mark word n (inr h, low) =
    subst (λ (w : List ℕ). lacks at w ≡ true) (sym h.bytes)
    (ap (λ (t : Bool). t && lacks at (120 ∷ h.digits)) (zero_is_other at mark)
    ∙ ap (λ (t : Bool). t && lacks at h.digits) mark.no_x
    ∙ digits_lack at 16 mark (omega arith) h.digits h.hexadecimal)

has : (at : ℕ) (xs ys : List ℕ) → lacks at (xs ++ at ∷ ys) ≡ false
has at [] ys = ap (λ (v : Bool). not v && lacks at ys) (eq-eqb at at refl)
has at (x ∷ xs) ys = ap (λ (t : Bool). not (x == at) && t) (has at xs ys) ∙ none (not (x == at))
  where
    none : (v : Bool) → (v && false) ≡ false
    none true = refl
    none false = refl

-- a text that is cut doesn't lack the byte
cut_has : (at : ℕ) (text : List ℕ) (p : List ℕ × List ℕ) → lacks at text ≡ true → split_at_byte at text ≡ Some p → ⊥
cut_has at text p h e =
    true≢false (sym h ∙ ap (lacks at) (cut_found at text p e).text_is ∙ has at p.0 p.1)

-- a range's end is written with the address and the step that stand around a `/`
abbrev pub IsCutRange : ℕ → Places → List ℕ × List ℕ → Type 0
IsCutRange first p s =
    (last : ℕ) × (step : ℕ) × IsNumberWord s.0 last × IsNumberWord s.1 step × (first ≤ last) × (0 < step)
    × (p ≡ up_to first last step)

-- the two ways to write a range's end, by the first `/`
pub range_cut : (first : ℕ) (text : List ℕ) (p : Places) (cut : Option (List ℕ × List ℕ)) → split_at_byte 47 text ≡ cut
    → IsRangeEnd first text p
    → MatchOption cut ((last : ℕ) × IsNumberWord text last × (first ≤ last) × (p ≡ up_to first last word_step))
    (IsCutRange first p)
range_cut first text _ None e (words {last = last} is low) = (last, is, low, refl)
range_cut first text _ (Some s) e (words {last = last} is low) =
    absurd (cut_has 47 text s (number_lacks 47 slash text last is) e)
range_cut first _ _ None e (steps {word = word} {apart = apart} {last = last} is apart_is low some) =
    let cut = split_first 47 word apart (number_lacks 47 slash word last is) in absurd cc
range_cut first _ _ (Some s) e (steps {word = word} {apart = apart} {last = last} {step = step} is apart_is low some) =
    let cut = split_first 47 word apart (number_lacks 47 slash word last is) in
    let same : (word, apart) ≡ s = cc in
    subst (IsCutRange first (up_to first last step)) same (last, step, is, apart_is, low, some, refl)

-- the two ways to write places, by the first `-`
pub places_cut : (text : List ℕ) (p : Places) (cut : Option (List ℕ × List ℕ)) → split_at_byte 45 text ≡ cut
    → IsPlacesWord text p
    → MatchOption cut ((at : ℕ) × IsNumberWord text at × (p ≡ up_to at at word_step))
    (λ s. (first : ℕ) × IsNumberWord s.0 first × IsRangeEnd first s.1 p)
places_cut text _ None e (one {at = at} is) = (at, is, refl)
places_cut text _ (Some s) e (one {at = at} is) = absurd (cut_has 45 text s (number_lacks 45 minus text at is) e)
places_cut _ p None e (range {word = word} {behind = behind} {first = first} is end) =
    let cut = split_first 45 word behind (number_lacks 45 minus word first is) in absurd cc
places_cut _ p (Some s) e (range {word = word} {behind = behind} {first = first} is end) =
    let cut = split_first 45 word behind (number_lacks 45 minus word first is) in
    let same : (word, behind) ≡ s = cc in
    subst (λ (s : List ℕ × List ℕ). (first : ℕ) × IsNumberWord s.0 first × IsRangeEnd first s.1 p) same (first, is, end)

-- a word of places begins with a digit
number_head : (word rest : List ℕ) (n : ℕ) → IsNumberWord word n
    → nat_lt (digit_value (get_or (word ++ rest) 0 0)) 10 ≡ true
number_head [] rest n (inl d, low) = absurd (omega (arith, d.some))
number_head (x ∷ xs) rest n (inl d, low) =
    (and_parts (nat_lt (digit_value x) 10) (list_all (λ d. nat_lt (digit_value d) 10) xs) d.digits).0
number_head word rest n (inr h, low) =
    subst (λ (w : List ℕ). nat_lt (digit_value (get_or (w ++ rest) 0 0)) 10 ≡ true) (sym h.bytes) refl

pub places_head : (text : List ℕ) (p : Places) → IsPlacesWord text p → nat_lt (digit_value (get_or text 0 0)) 10 ≡ true
places_head text _ (one {at = at} is) =
    subst (λ (w : List ℕ). nat_lt (digit_value (get_or w 0 0)) 10 ≡ true) (append-nil text) (number_head text [] at is)
places_head _ p (range {word = word} {behind = behind} {first = first} is end) =
    number_head word (codes "-" ++ behind) first is

-- what holds of a value that is there
pub if_some : {T : Type 0} (o : Option T) (P Q : T → Type 0) → ((x : T) → P x → Q x) → IfSome o P → IfSome o Q
if_some None P Q f h = tt
if_some (Some x) P Q f h = f x h

-- one address more
pub spaced_more : (first step n : ℕ) → spaced first step (n + 1) ≡ spaced first step n ++ (first + step * n) ∷ []
spaced_more first step n = ap (spaced first step) one ∙ more first n
  where
    one : n + 1 ≡ suc n
    one = omega arith

    more : (at k : ℕ) → spaced at step (suc k) ≡ spaced at step k ++ (at + step * k) ∷ []
    more at zero = let none : at ≡ at + step * 0 = omega arith in ap (λ (a : ℕ). let l : List ℕ = a ∷ [] in l) none
    more at (suc k) =
        let same : at + step + step * k ≡ at + step * suc k = omega arith in
        ap (λ (l : List ℕ). at ∷ l)
        (more (at + step) k ∙ ap (λ (a : ℕ). spaced (at + step) step k ++ a ∷ []) same)
