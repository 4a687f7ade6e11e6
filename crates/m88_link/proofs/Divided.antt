-- The names that bytes are.
use Rattle.std.proofs.Common.{◌≡◌, ℕ, Bool, true, false, List, [], ◌∷◌, length, refl, ap, ◌∙◌}
use Rattle.std.specs.Prelude.{Option, None, Some, nat_lt, ◌&&◌, IsTrue, IsSome, IfSome, if◌then◌else◌, ◌↔◌}
use Rattle.std.specs.List.{AllByRecursion, list_all}
use Rattle.std.proofs.lemmas.Bool.{and_parts, lt-ltb, ltb-true}
use Rattle.std.proofs.lemmas.List.Elements.{All-from_recursion, recursion_from_All}
use Rattle.m88_base.specs.Name.{IsName, begins_name, continues_name}
use Rattle.m88_link.specs.Inside.Rows.{is_name_text, name_written}

-- the test of names
all_true : (p : ℕ → Bool) (bs : List ℕ) → AllByRecursion (λ b. IsTrue (p b)) bs → list_all p bs ≡ true
all_true p [] h = refl
all_true p (b ∷ bs) h = ap (λ (x : Bool). x && list_all p bs) h.0 ∙ all_true p bs h.1

pub true_all : (p : ℕ → Bool) (bs : List ℕ) → list_all p bs ≡ true → AllByRecursion (λ b. IsTrue (p b)) bs
true_all p [] h = tt
true_all p (b ∷ bs) h = let k = and_parts (p b) (list_all p bs) h in (k.0, true_all p bs k.1)

all_three : (a b c : Bool) → a ≡ true → b ≡ true → c ≡ true → (a && b && c) ≡ true
all_three true true true e f g = refl
all_three false b c e f g = absurd cc
all_three true false c e f g = absurd cc
all_three true true false e f g = absurd cc

pub name_is : (text : List ℕ) → IsName text → is_name_text text ≡ true
name_is [] h = absurd h
name_is (b ∷ bs) h =
    all_three (begins_name b) (list_all continues_name bs) (nat_lt (length bs) 64) h.0
    (all_true continues_name bs (recursion_from_All (λ b. IsTrue (continues_name b)) bs h.1)) (lt-ltb (length bs) 64 h.2)

pub is_named : (text : List ℕ) → is_name_text text ≡ true → IsName text
is_named [] e = absurd cc
is_named (b ∷ bs) e =
    let k = and_parts (begins_name b && list_all continues_name bs) (nat_lt (length bs) 64) e in
    let l = and_parts (begins_name b) (list_all continues_name bs) k.0 in
    (l.0, All-from_recursion (λ b. IsTrue (continues_name b)) bs (true_all continues_name bs l.1), ltb-true (length bs) 64 k.1)

-- a call that tells a name exactly where the bytes are one
pub told_name : (r : Option (List ℕ)) (text : List ℕ) → (IsSome r ↔ IsName text) → IfSome r (λ name. name ≡ text) → r ≡ name_written text
told_name r text valid value = by_test (is_name_text text) refl r valid value
  where
    by_test : (t : Bool) → is_name_text text ≡ t → (r : Option (List ℕ)) → (IsSome r ↔ IsName text) → IfSome r (λ name. name ≡ text)
        → r ≡ (if t then Some text else None)
    by_test true e None valid value = absurd (let h = valid.1 (is_named text e) in cc)
    by_test true e (Some name) valid value = ap Some value
    by_test false e None valid value = refl
    by_test false e (Some name) valid value = absurd (let h = name_is text (valid.0 refl) in cc)
