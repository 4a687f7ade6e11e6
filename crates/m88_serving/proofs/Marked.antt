-- The registers that the transactions of a record load, one transaction after the other.
use Rattle.std.specs.Prelude.{ℕ, Bool, true, false, not, List, [], ◌∷◌, ◌≡◌, ◌≢◌, ◌==◌, ◌&&◌, ◌||◌, if◌then◌else◌}
use Rattle.std.proofs.Common.{arith, refl, ap, ◌∙◌}
use Rattle.std.proofs.Math.Path.{fun_ext}
use Rattle.std.proofs.lemmas.Bool.{eqb-false, eqb-true}
use Rattle.std.proofs.lemmas.Bool.Decides.{nat_tests}
use Rattle.m88_base.specs.RegisterSet.{with_member}
use Rattle.m88_base.specs.Reg.{number_of}
use Rattle.m88_base.specs.declared.triple.Triple.{Triple}
use Rattle.m88_isa.proofs.Laws.{by_test, stored_first}
use Rattle.m88_isa.specs.Bus.{loads, waits_for}
use Rattle.m88_isa.specs.Triples.{access_in, accesses_in, is_valid_triple}
use Rattle.m88_isa.specs.declared.planned.Access.{Access}
use Rattle.m88_scoreboard.specs.Registers.{none_waits}
use Rattle.m88_serving.specs.Inside.Loads.{with_load}

-- a member put in, as a register that is loaded
member : (n r : ℕ) (b : Bool) → (if r == n && not (n == 0) then true else b) ≡ ((not (r == 0) && n == r) || b)
member n r b = by_test (r == n)
    (λ same. let is : r ≡ n = eqb-true r n same in
    let back : (n == r) ≡ true = grind (arith, nat_tests) in
    let zeros : (r == 0) ≡ (n == 0) = ap (λ x. x == 0) is in
    rw (same, back, zeros) (by (n == 0)))
    (λ other. let apart : r ≢ n = eqb-false r n other in
    let back : (n == r) ≡ false = grind (arith, nat_tests) in
    rw (other, back) (none (r == 0)))
  where
    by : (z : Bool) → (if true && not z then true else b) ≡ ((not z && true) || b)
    by true = refl
    by false = refl

    none : (z : Bool) → (if false && not (n == 0) then true else b) ≡ ((not z && false) || b)
    none true = refl
    none false = refl

-- a valid load puts its register into the set
pub load_marked : (t : Triple) (set : ℕ → Bool) → is_valid_triple t ≡ true → (access_in t).write ≡ false
    → with_member (number_of (access_in t).reg) true set ≡ with_load t set
unfolding with_load
load_marked t set valid reads = rw (valid, reads) (fun_ext (λ r. member (number_of (access_in t).reg) r (set r)))

-- a store, or what isn't valid, puts none into it
pub none_marked : (t : Triple) (set : ℕ → Bool) → (is_valid_triple t && not (access_in t).write) ≡ false → set ≡ with_load t set
unfolding with_load
none_marked t set none = rw none refl

-- a choice whose test is known
pub then_is : {A : Type 0} (b : Bool) (x y : A) → b ≡ true → x ≡ (if b then x else y)
then_is true x y e = refl
then_is false x y e = absurd cc

pub else_is : {A : Type 0} (b : Bool) (x y : A) → b ≡ false → y ≡ (if b then x else y)
else_is true x y e = absurd cc
else_is false x y e = refl

-- one more access in front of others
access_first : (a : Access) (others : List Access) → waits_for (a ∷ others) ≡ (if not a.write then (λ r. loads a r || waits_for others r) else waits_for others)
unfolding waits_for
access_first a others = by_test a.write
    (λ writes. stored_first a others writes ∙ else_is (not a.write) (λ r. loads a r || waits_for others r) (waits_for others) (ap not writes))
    (λ reads. let e : waits_for (a ∷ others) ≡ (λ r. loads a r || waits_for others r) = fun_ext (λ r. refl) in
    e ∙ then_is (not a.write) (λ r. loads a r || waits_for others r) (waits_for others) (ap not reads))

-- one more transaction in front of others
pub loads_first : (t : Triple) (ts : List Triple) → waits_for (accesses_in (t ∷ ts)) ≡ with_load t (waits_for (accesses_in ts))
unfolding with_load
loads_first t ts = by_test (is_valid_triple t)
    (λ valid. rw valid (access_first (access_in t) (accesses_in ts)))
    (λ not_valid. rw not_valid refl)

-- of no transactions none waits
nothing : waits_for (accesses_in []) ≡ none_waits
unfolding waits_for
nothing = fun_ext (λ r. refl)

-- those of three
pub loads_all : (t0 t1 t2 : Triple) → waits_for (accesses_in (t0 ∷ t1 ∷ t2 ∷ [])) ≡ with_load t0 (with_load t1 (with_load t2 none_waits))
loads_all t0 t1 t2 =
    loads_first t0 (t1 ∷ t2 ∷ [])
    ∙ ap (with_load t0) (loads_first t1 (t2 ∷ []) ∙ ap (with_load t1) (loads_first t2 [] ∙ ap (with_load t2) nothing))

-- what isn't valid, and a store, is no valid load
pub no_load : (t : Triple) → is_valid_triple t ≡ false → (is_valid_triple t && not (access_in t).write) ≡ false
no_load t none = rw none refl

pub no_load_by : (t : Triple) → (access_in t).write ≡ true → (is_valid_triple t && not (access_in t).write) ≡ false
no_load_by t writes = rw writes (neither (is_valid_triple t))
  where
    neither : (b : Bool) → (b && false) ≡ false
    neither true = refl
    neither false = refl
