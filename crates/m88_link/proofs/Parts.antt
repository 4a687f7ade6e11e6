-- A function of a list that goes over its parts, one element on; and a search in a list, part by part.
use Rattle.std.proofs.Common.{◌≡◌, ℕ, ◌+◌, ◌<◌, List, [], ◌∷◌, ◌++◌, length, take, drop, get_or, map, filter, refl, sym, ap, ◌∙◌, append_assoc}
use Rattle.std.proofs.lemmas.List.{append-nil, drop_more, map-append, take-append-drop, take_more}
use Rattle.std.proofs.lemmas.List.Elements.{filter-append}
use Rattle.std.proofs.lemmas.List.Concat.{flat_map-append}
use Rattle.std.specs.Prelude.{Option, None, Some, flat_map}
use Rattle.std.specs.Option.{option_or}
use Rattle.m88_base.proofs.Laws.{option_or_assoc}
use Rattle.m88_link.specs.declared.fault.LinkFault.{LinkFault}
use Rattle.m88_link.specs.declared.object.Symbol.{Symbol}
use Rattle.m88_link.specs.Refusal.{first_fault}
use Rattle.m88_link.specs.Symbols.{absolute, exported, repeated_after, repetition}

module _ {X Y : Type 0} (H : List X → List Y) (add : (xs ys : List X) → H (xs ++ ys) ≡ H xs ++ H ys) (xs : List X) (i : ℕ) (x : X)
    (within : i < length xs) (is : x ≡ get_or xs i x) where
  -- the front that is one element longer
  pub one_more : H (take (i + 1) xs) ≡ H (take i xs) ++ H (x ∷ [])
  one_more = ap H (take_more xs i x within ∙ ap (λ y. take i xs ++ y ∷ []) (sym is)) ∙ add (take i xs) (x ∷ [])

  -- the front, the element behind it, and the rest
  pub parts_at : H xs ≡ H (take i xs) ++ (H (x ∷ []) ++ H (drop (i + 1) xs))
  parts_at =
      ap H (sym (take-append-drop i xs) ∙ ap (λ l. take i xs ++ l) (drop_more xs i x within ∙ ap (λ y. y ∷ drop (i + 1) xs) (sym is)))
      ∙ add (take i xs) (x ∷ drop (i + 1) xs)
      ∙ ap (λ l. H (take i xs) ++ l) (add (x ∷ []) (drop (i + 1) xs))

module _ {X Y : Type 0} (h : X → List Y) (xs : List X) (i : ℕ) (x : X) (within : i < length xs) (is : x ≡ get_or xs i x) where
  pub flat_more : flat_map h (take (i + 1) xs) ≡ flat_map h (take i xs) ++ h x
  flat_more =
      one_more (flat_map h) (flat_map-append h) xs i x within is ∙ ap (λ l. flat_map h (take i xs) ++ l) (append-nil (h x))

  pub flat_parts : flat_map h xs ≡ flat_map h (take i xs) ++ (h x ++ flat_map h (drop (i + 1) xs))
  flat_parts =
      parts_at (flat_map h) (flat_map-append h) xs i x within is
      ∙ ap (λ l. flat_map h (take i xs) ++ (l ++ flat_map h (drop (i + 1) xs))) (append-nil (h x))

pub exported-append : (base : ℕ → ℕ) (xs ys : List Symbol) → exported base (xs ++ ys) ≡ exported base xs ++ exported base ys
exported-append base xs ys =
    ap (λ l. map (absolute base) l) (filter-append (λ (s : Symbol). s.global) xs ys)
    ∙ map-append (absolute base) (filter (λ (s : Symbol). s.global) xs) (filter (λ (s : Symbol). s.global) ys)

pub repeated_after-append : (before xs ys : List Symbol)
    → repeated_after before (xs ++ ys) ≡ option_or (repeated_after before xs) (repeated_after (before ++ xs) ys)
repeated_after-append before [] ys = ap (λ l. repeated_after l ys) (sym (append-nil before))
repeated_after-append before (x ∷ xs) ys =
    ap (λ o. option_or (repetition before x) o) (repeated_after-append (before ++ x ∷ []) xs ys)
    ∙ sym (option_or_assoc (repetition before x) (repeated_after (before ++ x ∷ []) xs) (repeated_after ((before ++ x ∷ []) ++ xs) ys))
    ∙ ap (λ l. option_or (option_or (repetition before x) (repeated_after (before ++ x ∷ []) xs)) (repeated_after l ys)) (append_assoc before (x ∷ []) xs)

pub first_fault-append : {A : Type 0} (find_in : A → Option LinkFault) (xs ys : List A)
    → first_fault find_in (xs ++ ys) ≡ option_or (first_fault find_in xs) (first_fault find_in ys)
first_fault-append find_in [] ys = refl
first_fault-append find_in (x ∷ xs) ys =
    ap (λ o. option_or (find_in x) o) (first_fault-append find_in xs ys)
    ∙ sym (option_or_assoc (find_in x) (first_fault find_in xs) (first_fault find_in ys))

pub some_first : {A : Type 0} (o r : Option A) (e : A) → o ≡ Some e → option_or o r ≡ Some e
some_first None r e h = cc
some_first (Some x) r e h = h

-- a part that repeats no name behind one that repeats none
pub repeats_none : (old done one : List Symbol) → repeated_after old done ≡ None → repeated_after (old ++ done) one ≡ None
    → repeated_after old (done ++ one) ≡ None
repeats_none old done one clean h =
    repeated_after-append old done one ∙ ap (λ o. option_or o (repeated_after (old ++ done) one)) clean ∙ h

-- a part has the first fault where none before it has one
pub fault_within : {A : Type 0} (find_in : A → Option LinkFault) (done one rest : List A) (e : LinkFault) → first_fault find_in done ≡ None
    → first_fault find_in one ≡ Some e → first_fault find_in (done ++ (one ++ rest)) ≡ Some e
fault_within find_in done one rest e clean h =
    first_fault-append find_in done (one ++ rest) ∙ ap (λ o. option_or o (first_fault find_in (one ++ rest))) clean
    ∙ first_fault-append find_in one rest ∙ some_first (first_fault find_in one) (first_fault find_in rest) e h
