-- A text is cut at the first byte of a value.
use Rattle.std.proofs.Common.{◌≡◌, ℕ, suc, ◌+◌, ◌<◌, ◌≤◌, Bool, true, false, cond, List, [], ◌∷◌, ◌++◌, length, take, drop, refl, sym, ap, ◌∙◌, subst, arith, eq-eqb}
use Rattle.std.specs.Prelude.{Option, None, Some, ◌==◌, not, option_map, ◌&&◌, if◌then◌else◌}
use Rattle.std.specs.List.{list_all, prefix_len}
use Rattle.std.proofs.lemmas.Bool.{and_parts}
use Rattle.std.proofs.lemmas.Bool.Decides.{nat_tests}
use Rattle.std.proofs.lemmas.List.Sums.{prefix_len-le-length}
use Rattle.m88_base.specs.Cut.{lacks, split_at_byte, with_first}

-- the byte has another value
abbrev pub is_other : ℕ → ℕ → Bool
is_other at b = not (b == at)

-- how many bytes stand before the first of a value
abbrev pub len_to : ℕ → List ℕ → ℕ
len_to at [] = 0
len_to at (b ∷ bs) = cond (not (b == at)) (suc (len_to at bs)) 0

pub len_to_is : (at : ℕ) (bs : List ℕ) → prefix_len (is_other at) bs ≡ len_to at bs
len_to_is at [] = refl
len_to_is at (b ∷ bs) =
    let ih = len_to_is at bs in
    let e : 1 + prefix_len (is_other at) bs ≡ suc (len_to at bs) = omega (arith, ih) in
    ap (λ (n : ℕ). cond (not (b == at)) n 0) e

-- a text without the byte
none_step : (at b : ℕ) (bs : List ℕ) (v : Bool) → (length (drop (len_to at bs) bs) < 1 → split_at_byte at bs ≡ None)
    → length (drop (cond (not v) (suc (len_to at bs)) 0) (b ∷ bs)) < 1
    → (if v then Some ([], bs) else option_map (with_first b) (split_at_byte at bs)) ≡ None
none_step at b bs true ih h = absurd (omega arith)
none_step at b bs false ih h = ap (option_map (with_first b)) (ih h)

none_at : (at : ℕ) (bs : List ℕ) → length (drop (len_to at bs) bs) < 1 → split_at_byte at bs ≡ None
none_at at [] h = refl
none_at at (b ∷ bs) h = none_step at b bs (b == at) (none_at at bs) h

-- a text with the byte
some_step : (at b : ℕ) (bs : List ℕ) (v : Bool)
    → (1 ≤ length (drop (len_to at bs) bs) → split_at_byte at bs ≡ Some (take (len_to at bs) bs, drop 1 (drop (len_to at bs) bs)))
    → 1 ≤ length (drop (cond (not v) (suc (len_to at bs)) 0) (b ∷ bs))
    → (if v then Some ([], bs) else option_map (with_first b) (split_at_byte at bs))
    ≡ Some (take (cond (not v) (suc (len_to at bs)) 0) (b ∷ bs), drop 1 (drop (cond (not v) (suc (len_to at bs)) 0) (b ∷ bs)))
some_step at b bs true ih h = refl
some_step at b bs false ih h = ap (option_map (with_first b)) (ih h)

some_at : (at : ℕ) (bs : List ℕ) → 1 ≤ length (drop (len_to at bs) bs) → split_at_byte at bs ≡ Some (take (len_to at bs) bs, drop 1 (drop (len_to at bs) bs))
some_at at [] h = absurd (omega arith)
some_at at (b ∷ bs) h = some_step at b bs (b == at) (some_at at bs) h

module _ (at n : ℕ) (text : List ℕ) (is : n ≡ prefix_len (is_other at) text) where
  n_is : n ≡ len_to at text
  n_is = is ∙ len_to_is at text

  pub within : n ≤ length text
  within = rw is (prefix_len-le-length (is_other at) text)

  pub cut_none : (behind : List ℕ) → behind ≡ drop n text → length behind < 1 → split_at_byte at text ≡ None
  cut_none behind b h =
      none_at at text (subst (λ (xs : List ℕ). length xs < 1) (b ∙ ap (λ (k : ℕ). drop k text) n_is) h)

  pub cut_some : (before behind : List ℕ) → before ≡ take n text → behind ≡ drop n text → 1 ≤ length behind
      → split_at_byte at text ≡ Some (before, drop 1 behind)
  cut_some before behind f b h =
      let same = b ∙ ap (λ (k : ℕ). drop k text) n_is in
      let front = f ∙ ap (λ (k : ℕ). take k text) n_is in
      some_at at text (subst (λ (xs : List ℕ). 1 ≤ length xs) same h)
      ∙ sym (ap (λ (xs : List ℕ). Some (xs, drop 1 (drop (len_to at text) text))) front ∙ refl)
      ∙ ap (λ (xs : List ℕ). Some (before, drop 1 xs)) (sym same)

pub lacks-append : (at : ℕ) (xs ys : List ℕ) → lacks at xs ≡ true → lacks at ys ≡ true → lacks at (xs ++ ys) ≡ true
lacks-append at [] ys h k = k
lacks-append at (x ∷ xs) ys h k =
    let b = and_parts (is_other at x) (lacks at xs) h in
    ap (λ (t : Bool). t && lacks at (xs ++ ys)) b.0 ∙ lacks-append at xs ys b.1 k

-- a text that lacks what no byte that passes a test is
pub lacks_by : (p : ℕ → Bool) (at : ℕ) → ((b : ℕ) → p b ≡ true → is_other at b ≡ true) → (text : List ℕ) → list_all p text ≡ true → lacks at text ≡ true
lacks_by p at other [] h = refl
lacks_by p at other (x ∷ xs) h =
    let b = and_parts (p x) (list_all p xs) h in
    ap (λ (t : Bool). t && lacks at xs) (other x b.0) ∙ lacks_by p at other xs b.1

pub other_false : (at b : ℕ) → is_other at b ≡ true → (b == at) ≡ false
other_false at b h = by_value (b == at) h
  where
    by_value : (v : Bool) → not v ≡ true → v ≡ false
    by_value true h = absurd cc
    by_value false h = refl

-- a text is cut at the first byte of the value
pub split_first : (at : ℕ) (word rest : List ℕ) → lacks at word ≡ true → split_at_byte at (word ++ at ∷ rest) ≡ Some (word, rest)
split_first at [] rest h = ap (λ (v : Bool). if v then Some ([], rest) else option_map (with_first at) (split_at_byte at rest)) (eq-eqb at at refl)
split_first at (x ∷ xs) rest h =
    let b = and_parts (is_other at x) (lacks at xs) h in
    ap (λ (v : Bool). if v then Some ([], xs ++ at ∷ rest) else option_map (with_first x) (split_at_byte at (xs ++ at ∷ rest))) (other_false at x b.0)
    ∙ ap (option_map (with_first x)) (split_first at xs rest b.1)

-- what a cut finds
pub record Cut (at : ℕ) (text : List ℕ) (p : List ℕ × List ℕ) : Type 0 where
  pub text_is : text ≡ p.0 ++ at ∷ p.1
  pub lacking : lacks at p.0 ≡ true

cut_step : (at x : ℕ) (xs : List ℕ) (p : List ℕ × List ℕ) (o : Option (List ℕ × List ℕ)) → (x == at) ≡ false → split_at_byte at xs ≡ o
    → ((q : List ℕ × List ℕ) → split_at_byte at xs ≡ Some q → Cut at xs q)
    → option_map (with_first x) o ≡ Some p → Cut at (x ∷ xs) p
cut_step at x xs p None e f ih h = absurd cc
cut_step at x xs p (Some q) e f ih h =
    let k = ih q f in
    let same : with_first x q ≡ p = cc in
    rw (← same) (record {
      text_is = ap (λ l. x ∷ l) k.text_is;
      lacking = ap (λ (v : Bool). not v && lacks at q.0) e ∙ k.lacking;
    })

cut_first : (at x : ℕ) (xs : List ℕ) (p : List ℕ × List ℕ) (v : Bool) → (x == at) ≡ v
    → ((q : List ℕ × List ℕ) → split_at_byte at xs ≡ Some q → Cut at xs q)
    → (if v then Some ([], xs) else option_map (with_first x) (split_at_byte at xs)) ≡ Some p → Cut at (x ∷ xs) p
cut_first at x xs p true e ih h =
    let is : x ≡ at = grind (arith, nat_tests) in
    let same : ([], xs) ≡ p = cc in
    rw (← same) (record { text_is = ap (λ (y : ℕ). let l : List ℕ = y ∷ xs in l) is; lacking = refl })
cut_first at x xs p false e ih h = cut_step at x xs p (split_at_byte at xs) e refl ih h

pub cut_found : (at : ℕ) (text : List ℕ) (p : List ℕ × List ℕ) → split_at_byte at text ≡ Some p → Cut at text p
cut_found at [] p h = absurd cc
cut_found at (x ∷ xs) p h = cut_first at x xs p (x == at) refl (cut_found at xs) h

uncut_step : (at x : ℕ) (xs : List ℕ) (v : Bool) (o : Option (List ℕ × List ℕ)) → (x == at) ≡ v → split_at_byte at xs ≡ o
    → (split_at_byte at xs ≡ None → lacks at xs ≡ true)
    → (if v then Some ([], xs) else option_map (with_first x) o) ≡ None → lacks at (x ∷ xs) ≡ true
uncut_step at x xs true o e f ih h = absurd cc
uncut_step at x xs false None e f ih h = ap (λ (v : Bool). not v && lacks at xs) e ∙ ih f
uncut_step at x xs false (Some q) e f ih h = absurd cc

-- a text that isn't cut lacks the byte
pub uncut : (at : ℕ) (text : List ℕ) → split_at_byte at text ≡ None → lacks at text ≡ true
uncut at [] h = refl
uncut at (x ∷ xs) h = uncut_step at x xs (x == at) (split_at_byte at xs) refl refl (uncut at xs) h
