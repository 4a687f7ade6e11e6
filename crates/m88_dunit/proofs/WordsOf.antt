-- Words as those of the access that they tell.
use Rattle.std.proofs.Common.{◌≡◌, ◌≢◌, ◌%◌, ◌↔◌, ◌==◌, ◌&&◌, Bool, true, false, not, IsTrue, Some, None, is_some, unwrap_or, refl, ap, sym, ◌∙◌, subst, arith}
use Rattle.std.proofs.lemmas.Bool.{false≢true}
use Rattle.std.proofs.lemmas.Bool.Decides.{nat_tests}
use Rattle.m88_base.specs.declared.triple.Triple.{Triple}
use Rattle.m88_isa.proofs.Laws.{told_of}
use Rattle.m88_isa.specs.Lanes.{IsEnable}
use Rattle.m88_isa.specs.Memory.{IsWordAccess}
use Rattle.m88_isa.specs.Operands.{no_register}
use Rattle.m88_isa.specs.Triples.{access_in, triple_of}
use Rattle.m88_isa.specs.declared.planned.Access.{Access}

-- the words of an access tell it
pub told_in : (t : Triple) (a : Access) → IsWordAccess a → triple_of a ≡ t → access_in t ≡ a
told_in t a made words = ap access_in (sym words) ∙ told_of a made

-- a store that the data unit can make has no sign mark
not_true : (b : Bool) → IsTrue (not b) → b ≡ false
not_true true t = absurd (false≢true t)
not_true false t = refl

not_false : (b : Bool) → b ≡ false → IsTrue (not b)
not_false true f = absurd (false≢true (sym f))
not_false false f = refl

pub store_made : (a : Access) → a.addr % 4 ≡ 0 → IsEnable a.en → a.write ≡ true → a.reg ≡ no_register →
    IsTrue (not a.signed) ↔ IsWordAccess a
store_made a place enable write none = (
  (λ t. (place, enable, (λ w. (none, not_true a.signed t)), (λ l. absurd (false≢true (sym l ∙ write))))),
  (λ m. not_false a.signed (m.2 write).1),
)

-- no test is met and not met
pub no_both : (b : Bool) → b ≡ true → b ≡ false → ⊥
no_both b t f = false≢true (sym f ∙ t)

-- words that are the same don't differ
pub same_words : (t : Triple) → not (t.dmt == t.dmt && (t.dmd == t.dmd && t.dma == t.dma)) ≡ false
same_words t =
    let marks : (t.dmt == t.dmt) ≡ true = grind (arith, nat_tests) in
    let value : (t.dmd == t.dmd) ≡ true = grind (arith, nat_tests) in
    let place : (t.dma == t.dma) ≡ true = grind (arith, nat_tests) in
    rw (marks, value, place) refl

-- words that don't differ are the same
pub same_triple : (s t : Triple) → not (s.dmt == t.dmt && (s.dmd == t.dmd && s.dma == t.dma)) ≡ false → s ≡ t
same_triple s t h =
    let marks : s.dmt ≡ t.dmt = grind (arith, nat_tests, h) in
    let value : s.dmd ≡ t.dmd = grind (arith, nat_tests, h) in
    let place : s.dma ≡ t.dma = grind (arith, nat_tests, h) in
    λ i. record { dmt = marks i; dmd = value i; dma = place i }

-- no access is both there and not there
pub none_some : (a : Access) → None ≡ Some a → ⊥
none_some a e = false≢true (ap is_some e)

pub some_none : (a : Access) → Some a ≡ None → ⊥
some_none a e = none_some a (sym e)

-- words that no access has have none of them
pub has_none : (t : Triple) → ((a : Access) → IsWordAccess a → triple_of a ≢ t) →
    (a : Access) → (None ≡ Some a) ↔ (IsWordAccess a × (triple_of a ≡ t))
has_none t none a = ((λ e. absurd (none_some a e)), (λ h. absurd (none a h.0 h.1)))

-- words that an access has have that one alone
pub has_one : (t : Triple) (b : Access) → IsWordAccess b → triple_of b ≡ t →
    (a : Access) → (Some b ≡ Some a) ↔ (IsWordAccess a × (triple_of a ≡ t))
has_one t b made words a = (
  (λ e. subst (λ x. IsWordAccess x × (triple_of x ≡ t)) (ap (λ o. unwrap_or o b) e) (made, words)),
  (λ h. ap Some (sym (told_in t b made words) ∙ told_in t a h.0 h.1)),
)

-- there is one, so it isn't so that no access has them
pub is_there : (t : Triple) (b : Access) → IsWordAccess b → triple_of b ≡ t →
    (Some b ≡ None) ↔ ((a : Access) → IsWordAccess a → triple_of a ≢ t)
is_there t b made words = ((λ e. absurd (some_none b e)), (λ none. absurd (none b made words)))
