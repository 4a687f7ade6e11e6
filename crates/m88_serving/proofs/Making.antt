-- Each transaction of a record without a fault can be made.
use Rattle.std.specs.Int.{bit_at}
use Rattle.std.specs.Prelude.{ℕ, List, [], ◌∷◌, Bool, true, false, not, ◌≡◌, ◌%◌, ◌==◌, ◌&&◌, ◌||◌, Option, Some, None, if◌then◌else◌}
use Rattle.std.specs.Option.{option_or}
use Rattle.std.proofs.Common.{refl, inl, inr, ap, ◌∙◌}
use Rattle.std.proofs.lemmas.Bool.{eqb-true}
use Rattle.m88_base.specs.declared.triple.Triple.{Triple}
use Rattle.m88_event.specs.declared.record.Record.{Record}
use Rattle.m88_base.proofs.Laws.{bit_of_set}
use Rattle.m88_isa.proofs.Laws.{beyond_waits_not, by_test, r0_waits_not}
use Rattle.m88_isa.specs.Bus.{waits_for}
use Rattle.m88_isa.specs.Lanes.{IsEnable}
use Rattle.m88_isa.specs.Triples.{accesses_in, dmt_of, is_valid_triple}
use Rattle.m88_isa.specs.declared.planned.Access.{Access}
use Rattle.m88_monitor.specs.Serving.{CanServeAll, CanServeTriple}
use Rattle.m88_serving.specs.Faults.{access_of_dmt, at_first, fault_of_kind, first_behind, first_line, first_transaction, has_datum, has_odd_access, has_odd_address, is_dmt, is_fit, is_fit_byte, is_fit_half, is_fit_size, is_fit_store, is_fit_word, is_status, is_unempty, awaited_set, record_fault, triple_of_record}
use Rattle.m88_serving.specs.Serving.{control_left}
use Rattle.m88_serving.specs.declared.fault.ServeFault.{ServeFault}
use Rattle.m88_serving.specs.declared.fault.ServeKind.{ServeKind}
use Rattle.m88_serving.specs.declared.fault.ServeKind.TheVariants as kind

-- of two none is there
pub none_of_two : (a b : Option ServeFault) → option_or a b ≡ None → (a ≡ None) × (b ≡ None)
none_of_two None b e = (refl, e)
none_of_two (Some fault) b e = absurd cc

pub no_line : (k : ServeKind) (line : Option ℕ) → fault_of_kind k line ≡ None → line ≡ None
no_line k None e = refl
no_line k (Some number) e = absurd cc

-- none of three marks is set
pub record NoneOf (a b c : Bool) : Type 0 where
  pub first : a ≡ false
  pub second : b ≡ false
  pub third : c ≡ false

pub none_of_three : (a b c : Bool) → first_line a b c ≡ None → NoneOf a b c
none_of_three true b c e = absurd cc
none_of_three false true c e = absurd cc
none_of_three false false true e = absurd cc
none_of_three false false false e = record { first = refl; second = refl; third = refl }

pub holds_at_first : (holds : Bool) → at_first holds ≡ None → holds ≡ true
holds_at_first true e = refl
holds_at_first false e = absurd cc

-- what holds of a record without a fault
pub record IsFaultless (r : Record) : Type 0 where
  pub status : is_status r.epsr ≡ true
  pub access : NoneOf (has_odd_access (triple_of_record 0 r)) (has_odd_access (triple_of_record 1 r)) (has_odd_access (triple_of_record 2 r))
  pub address : NoneOf (has_odd_address (triple_of_record 0 r)) (has_odd_address (triple_of_record 1 r)) (has_odd_address (triple_of_record 2 r))
  pub loaded : (r.ssbr == awaited_set r) ≡ true

-- its reasons from each on
abbrev from_ssbr : Record → Option ServeFault
from_ssbr r = fault_of_kind kind.Ssbr (at_first (r.ssbr == awaited_set r))

abbrev from_order : Record → Option ServeFault
from_order r = option_or (fault_of_kind kind.Order (first_behind r)) (from_ssbr r)

abbrev from_empty : Record → Option ServeFault
from_empty r = option_or (fault_of_kind kind.Empty (first_transaction is_unempty r)) (from_order r)

abbrev from_datum : Record → Option ServeFault
from_datum r = option_or (fault_of_kind kind.Datum (first_transaction has_datum r)) (from_empty r)

abbrev from_address : Record → Option ServeFault
from_address r = option_or (fault_of_kind kind.Address (first_transaction has_odd_address r)) (from_datum r)

abbrev from_access : Record → Option ServeFault
from_access r = option_or (fault_of_kind kind.Access (first_transaction has_odd_access r)) (from_address r)

pub faultless_record : (r : Record) → record_fault r ≡ None → IsFaultless r
unfolding record_fault
faultless_record r none =
    let epsr = none_of_two (fault_of_kind kind.Epsr (at_first (is_status r.epsr))) (from_access r) none in
    let access = none_of_two (fault_of_kind kind.Access (first_transaction has_odd_access r)) (from_address r) epsr.1 in
    let address = none_of_two (fault_of_kind kind.Address (first_transaction has_odd_address r)) (from_datum r) access.1 in
    let datum = none_of_two (fault_of_kind kind.Datum (first_transaction has_datum r)) (from_empty r) address.1 in
    let empty = none_of_two (fault_of_kind kind.Empty (first_transaction is_unempty r)) (from_order r) datum.1 in
    let order = none_of_two (fault_of_kind kind.Order (first_behind r)) (from_ssbr r) empty.1 in
    record {
      status = holds_at_first (is_status r.epsr) (no_line kind.Epsr (at_first (is_status r.epsr)) epsr.0);
      access = none_of_three (has_odd_access (triple_of_record 0 r)) (has_odd_access (triple_of_record 1 r)) (has_odd_access (triple_of_record 2 r))
          (no_line kind.Access (first_transaction has_odd_access r) access.0);
      address = none_of_three (has_odd_address (triple_of_record 0 r)) (has_odd_address (triple_of_record 1 r)) (has_odd_address (triple_of_record 2 r))
          (no_line kind.Address (first_transaction has_odd_address r) address.0);
      loaded = holds_at_first (r.ssbr == awaited_set r) (no_line kind.Ssbr (at_first (r.ssbr == awaited_set r)) order.1);
    }

-- the two parts of a test, and the rest of one
pub both : (a b : Bool) → (a && b) ≡ true → (a ≡ true) × (b ≡ true)
both true true e = (refl, refl)
both true false e = absurd cc
both false b e = absurd cc

pub not_odd : (a b : Bool) → (a && not b) ≡ false → a ≡ true → b ≡ true
not_odd true true e valid = refl
not_odd true false e valid = absurd cc
not_odd false b e valid = absurd cc

-- an access of a size has one of the enables
enable_by : (en : ℕ) (w h b : Bool)
    → (if en == 15 then w else if en == 12 || en == 3 then h else if en == 8 || en == 4 || en == 2 || en == 1 then b else false) ≡ true
    → IsEnable en
enable_by en w h b e =
    by_test (en == 15) (λ t. inl (eqb-true en 15 t)) (λ f15.
    by_test (en == 12) (λ t. inr (inl (eqb-true en 12 t))) (λ f12.
    by_test (en == 3) (λ t. inr (inr (inl (eqb-true en 3 t)))) (λ f3.
    by_test (en == 8) (λ t. inr (inr (inr (inl (eqb-true en 8 t))))) (λ f8.
    by_test (en == 4) (λ t. inr (inr (inr (inr (inl (eqb-true en 4 t)))))) (λ f4.
    by_test (en == 2) (λ t. inr (inr (inr (inr (inr (inl (eqb-true en 2 t))))))) (λ f2.
    by_test (en == 1) (λ t. inr (inr (inr (inr (inr (inr (eqb-true en 1 t))))))) (λ f1.
    let no : false ≡ true = rw (f15, f12, f3, f8, f4, f2, f1) at e in absurd cc)))))))

pub enable_of_size : (a : Access) → is_fit_size a ≡ true → IsEnable a.en
enable_of_size a e = enable_by a.en (is_fit_word a) (is_fit_half a) (is_fit_byte a) e

-- a word that is taken as a DMT has the fields of an access that fits
pub fit_of_dmt : (dmt : ℕ) → is_dmt dmt ≡ true → is_fit (access_of_dmt dmt) ≡ true
unfolding is_dmt
fit_of_dmt dmt e = (both (is_fit (access_of_dmt dmt)) (dmt_of (access_of_dmt dmt) == dmt) e).0

pub size_of_fit : (a : Access) → is_fit a ≡ true → is_fit_size a ≡ true
unfolding is_fit
size_of_fit a e = (both (is_fit_store a) (is_fit_size a) e).1

can_make : (t : Triple) → has_odd_access t ≡ false → has_odd_address t ≡ false → CanServeTriple (λ page. true) t
unfolding has_odd_access has_odd_address
can_make t access address = λ valid. record {
  word = eqb-true (t.dma % 4) 0 (not_odd (is_valid_triple t) (t.dma % 4 == 0) address valid);
  enable = enable_of_size (access_of_dmt t.dmt) (size_of_fit (access_of_dmt t.dmt) (fit_of_dmt t.dmt (not_odd (is_valid_triple t) (is_dmt t.dmt) access valid)));
  prepared = λ writes. refl;
}

pub can_make_all : (r : Record) → record_fault r ≡ None → CanServeAll (λ page. true) (control_left r)
can_make_all r none =
    let fits = faultless_record r none in
    record {
      first = can_make (triple_of_record 0 r) fits.access.first fits.address.first;
      second = can_make (triple_of_record 1 r) fits.access.second fits.address.second;
      third = can_make (triple_of_record 2 r) fits.access.third fits.address.third;
    }

-- bit 0 of its SSBR is clear, since r0 is never loaded
pub ssbr_clear : (r : Record) → record_fault r ≡ None → bit_at r.ssbr 0 ≡ 0
ssbr_clear r none =
    let awaited : List Access = accesses_in (triple_of_record 0 r ∷ triple_of_record 1 r ∷ triple_of_record 2 r ∷ []) in
    ap (λ (word : ℕ). bit_at word 0) (eqb-true r.ssbr (awaited_set r) (faultless_record r none).loaded)
    ∙ bit_of_set (waits_for awaited) (beyond_waits_not awaited) 0
    ∙ ap (λ (there : Bool). if there then 1 else 0) (r0_waits_not awaited)
