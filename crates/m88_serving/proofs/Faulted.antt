-- The record that a data fault leaves at a moment has no fault, and its lines tell it.
use Rattle.std.specs.Prelude.{ℕ, zero, suc, Bool, true, false, not, IfSome, Option, Some, slice_get, slice_index_or, List, [], ◌∷◌, ◌++◌, ◌≡◌, ◌≤◌, ◌%◌, ◌==◌, ◌&&◌, All, None, Result, Ok, codes, flat_map, length, map}
use Rattle.std.specs.List.{enumerate_from}
use Rattle.std.specs.Option.{option_or}
use Rattle.std.proofs.Common.{refl, sym, ap, ◌∙◌, arith, subst}
use Rattle.std.proofs.lemmas.Bool.Decides.{nat_tests}
use Rattle.std.proofs.lemmas.List.{length-drop}
use Rattle.std.proofs.lemmas.List.Elements.{All-drop, All-head, All-tail}
use Rattle.m88_base.specs.Lines.{lines_of}
use Rattle.m88_base.specs.RegisterSet.{register_bits}
use Rattle.m88_base.specs.Triple.{no_triple}
use Rattle.m88_base.specs.declared.triple.Triple.{Triple}
use Rattle.m88_event.proofs.Laws.{past_after}
use Rattle.m88_event.specs.Past.{HasPast}
use Rattle.m88_event.specs.Run.{moment_after}
use Rattle.m88_event.specs.Shadow.{status_of}
use Rattle.m88_event.specs.Situation.{record_of}
use Rattle.m88_event.specs.Timeline.{Moment, Run, record_at, situation_at}
use Rattle.m88_event.specs.declared.record.Record.{Record}
use Rattle.m88_isa.proofs.Laws.{by_test, told_of, valid_of}
use Rattle.m88_isa.specs.Bus.{waits_for}
use Rattle.m88_isa.specs.History.{bus_at, pending_at, transactions}
use Rattle.m88_isa.specs.Machine.{state}
use Rattle.m88_isa.specs.Triples.{access_in, accesses_in, dmt_of, is_valid_triple, triple_of, triple_or_none, triples_of}
use Rattle.m88_isa.specs.declared.planned.Access.{Access}
use Rattle.m88_report.specs.Report.{status_line, triple_line, word_line}
use Rattle.m88_serving.proofs.Alike.{Agrees, same_text}
use Rattle.m88_serving.proofs.Readback.{case_read, fault_lines, status_of_record, status_read, status_text, triple_read, triple_text, word_text, words_read}
use Rattle.m88_serving.proofs.Touched.{IsCalled, transactions_told}
use Rattle.m88_serving.proofs.Verdicts.{accepted}
use Rattle.m88_serving.specs.Cases.{Case, case_in, record_with}
use Rattle.m88_serving.specs.Faults.{at_first, fault_of_kind, first_behind, first_line, has_datum, has_odd_access, has_odd_address, is_dmt, is_status, is_unempty, awaited_set, record_fault, triple_of_record}
use Rattle.m88_serving.specs.Laws.{AreWordsAt, EachFaultIsServed, IsRecordOfWords, IsTripleOfWords, shown_fault}
use Rattle.m88_serving.specs.Served.{IsServed, served_text}
use Rattle.m88_serving.specs.Serving.{named_bus, serving_with}
use Rattle.m88_serving.specs.declared.fault.ServeKind.TheVariants as kind

-- a transaction without a fault
record IsFit (t : Triple) : Type 0 where
  pub access : has_odd_access t ≡ false
  pub address : has_odd_address t ≡ false
  pub datum : has_datum t ≡ false
  pub empty : is_unempty t ≡ false

fit_none : IsFit no_triple
unfolding has_odd_access has_odd_address has_datum is_unempty
fit_none = record { access = refl; address = refl; datum = refl; empty = refl }

fit_of : (a : Access) → IsCalled a → IsFit (triple_of a)
unfolding has_odd_access has_odd_address has_datum is_unempty
fit_of a told =
    let valid : is_valid_triple (triple_of a) ≡ true = valid_of a told.made in
    let writes : (access_in (triple_of a)).write ≡ a.write = ap (λ (x : Access). x.write) (told_of a told.made) in
    let aligned : (a.addr % 4 == 0) ≡ true = ap (λ n. n == 0) told.made.0 in
    let taken : is_dmt (dmt_of a) ≡ true = told.taken in
    record {
      access = λ i. valid i && not (taken i);
      address = λ i. valid i && not (aligned i);
      datum = (λ i. valid i && not (writes i) && not (a.value == 0)) ∙ no_datum a told;
      empty = λ i. not (valid i) && not (dmt_of a == 0 && a.value == 0 && a.addr == 0);
    }
  where
    no_datum : (a : Access) → IsCalled a → (true && not a.write && not (a.value == 0)) ≡ false
    no_datum a told = by_test a.write
        (λ w. rw w refl)
        (λ r. let none : (a.value == 0) ≡ true = ap (λ n. n == 0) (told.made.3 r) in rw (r, none) refl)

-- the transactions of a record, one behind the other
fits_status : (carry mxm : Bool) → is_status (status_of carry mxm) ≡ true
unfolding is_status
fits_status true true = refl
fits_status true false = refl
fits_status false true = refl
fits_status false false = refl

-- a record of these transactions without a fault
no_fault : (r : Record) → is_status r.epsr ≡ true → IsFit (triple_of_record 0 r) → IsFit (triple_of_record 1 r) → IsFit (triple_of_record 2 r)
    → first_behind r ≡ None → r.ssbr ≡ awaited_set r → record_fault r ≡ None
unfolding record_fault
no_fault r status f0 f1 f2 order ssbr =
    let same : (r.ssbr == awaited_set r) ≡ true = grind (arith, nat_tests) in
    λ i. option_or (fault_of_kind kind.Epsr (at_first (status i)))
    (option_or (fault_of_kind kind.Access (first_line (f0.access i) (f1.access i) (f2.access i)))
    (option_or (fault_of_kind kind.Address (first_line (f0.address i) (f1.address i) (f2.address i)))
    (option_or (fault_of_kind kind.Datum (first_line (f0.datum i) (f1.datum i) (f2.datum i)))
    (option_or (fault_of_kind kind.Empty (first_line (f0.empty i) (f1.empty i) (f2.empty i)))
    (option_or (fault_of_kind kind.Order (order i))
    (fault_of_kind kind.Ssbr (at_first (same i))))))))

-- of up to three accesses
at_most_three : (xs : List Access) (r : Record) → length xs ≤ 3 → All IsCalled xs → is_status r.epsr ≡ true → r.triples ≡ triples_of xs
    → r.ssbr ≡ register_bits (waits_for xs) → record_fault r ≡ None
at_most_three [] r few told status are ssbr =
    subst (λ ts. record_fault (record r { triples = ts }) ≡ None) (sym are)
    (no_fault (record r { triples = triples_of [] }) status fit_none fit_none fit_none refl ssbr)
at_most_three (a ∷ []) r few told status are ssbr =
    let first : IsCalled a = All-head IsCalled a [] told in
    let valid : is_valid_triple (triple_of a) ≡ true = valid_of a first.made in
    subst (λ ts. record_fault (record r { triples = ts }) ≡ None) (sym are)
    (no_fault (record r { triples = triples_of (a ∷ []) }) status (fit_of a first) fit_none fit_none refl
    (ssbr ∙ sym (ap (λ ys. register_bits (waits_for ys)) (let e : accesses_in (triples_of (a ∷ [])) ≡ a ∷ [] = rw (valid, told_of a first.made) refl in e))))
at_most_three (a ∷ b ∷ []) r few told status are ssbr =
    let first : IsCalled a = All-head IsCalled a (b ∷ []) told in
    let second : IsCalled b = All-head IsCalled b [] (All-tail IsCalled a (b ∷ []) told) in
    let va : is_valid_triple (triple_of a) ≡ true = valid_of a first.made in
    let vb : is_valid_triple (triple_of b) ≡ true = valid_of b second.made in
    subst (λ ts. record_fault (record r { triples = ts }) ≡ None) (sym are)
    (no_fault (record r { triples = triples_of (a ∷ b ∷ []) }) status (fit_of a first) (fit_of b second) fit_none
    (rw (va, vb) refl)
    (ssbr ∙ sym (ap (λ ys. register_bits (waits_for ys))
    (let e : accesses_in (triples_of (a ∷ b ∷ [])) ≡ a ∷ b ∷ [] = rw (va, told_of a first.made, vb, told_of b second.made) refl in e))))
at_most_three (a ∷ b ∷ c ∷ []) r few told status are ssbr =
    let rest : All IsCalled (b ∷ c ∷ []) = All-tail IsCalled a (b ∷ c ∷ []) told in
    let first : IsCalled a = All-head IsCalled a (b ∷ c ∷ []) told in
    let second : IsCalled b = All-head IsCalled b (c ∷ []) rest in
    let third : IsCalled c = All-head IsCalled c [] (All-tail IsCalled b (c ∷ []) rest) in
    let va : is_valid_triple (triple_of a) ≡ true = valid_of a first.made in
    let vb : is_valid_triple (triple_of b) ≡ true = valid_of b second.made in
    let vc : is_valid_triple (triple_of c) ≡ true = valid_of c third.made in
    subst (λ ts. record_fault (record r { triples = ts }) ≡ None) (sym are)
    (no_fault (record r { triples = triples_of (a ∷ b ∷ c ∷ []) }) status (fit_of a first) (fit_of b second) (fit_of c third)
    (rw (va, vb, vc) refl)
    (ssbr ∙ sym (ap (λ ys. register_bits (waits_for ys))
    (let e : accesses_in (triples_of (a ∷ b ∷ c ∷ [])) ≡ a ∷ b ∷ c ∷ [] =
    rw (va, told_of a first.made, vb, told_of b second.made, vc, told_of c third.made) refl in e))))
at_most_three (a ∷ b ∷ c ∷ d ∷ xs) r few told status are ssbr = absurd (omega (arith, few))

-- of a moment
pub few_pending : (r : Run) (m : Moment) → HasPast r m → length (pending_at r.program m.retired m.done) ≤ 3
few_pending r m past =
    let size = length-drop m.done (transactions r.program m.retired) in omega (arith, size, past.pending)

sound_record : (r : Run) (m : Moment) → HasPast r m → record_fault (record_at r m) ≡ None
unfolding record_of situation_at
sound_record r m past =
    at_most_three (pending_at r.program m.retired m.done) (record_at r m) (few_pending r m past)
    (All-drop IsCalled m.done (transactions r.program m.retired) (transactions_told r.program m.retired))
    (fits_status (state r.program m.retired).carry (state r.program m.retired).mxm) refl refl

-- its lines, and those of the words, are accepted
told_again : (r : Record) (t0 t1 t2 : Triple) → r.triples ≡ t0 ∷ t1 ∷ t2 ∷ [] → record_with (status_of_record r) t0 t1 t2 ≡ record r { event = 0 }
told_again r t0 t1 t2 are = ap (λ ts. record { event = 0; epsr = r.epsr; sxip = r.sxip; snip = r.snip; sfip = r.sfip; ssbr = r.ssbr; triples = ts }) (sym are)

again : (r : Record) → record_fault r ≡ None → record_fault (record r { event = 0 }) ≡ None
unfolding record_fault
again r none = none

abbrev case_of_fault : List (ℕ × ℕ) → Record → Result Case ℕ
case_of_fault words fault = Ok (record { fault = fault; words = words })

-- the words agree with memory at the transactions of the record
agrees_at : (words : List (ℕ × ℕ)) (bus : ℕ → ℕ) (o : Option Access) → IfSome o IsCalled → IfSome o (λ a. named_bus words a.addr ≡ bus a.addr)
    → Agrees bus (named_bus words) (triple_or_none o)
agrees_at words bus None called same = record { aligned = λ v. absurd cc; same = λ v. absurd cc }
agrees_at words bus (Some a) called same = record { aligned = λ v. called.made.0; same = λ v. sym same }

at_place : (P : Access → Type 0) (xs : List Access) (k : ℕ) → All P xs → IfSome (slice_get xs k) P
at_place P [] k h = tt
at_place P (x ∷ xs) zero h = All-head P x xs h
at_place P (x ∷ xs) (suc k) h = at_place P xs k (All-tail P x xs h)

agrees : (words : List (ℕ × ℕ)) (bus : ℕ → ℕ) (xs : List Access) (k : ℕ) → All IsCalled xs → All (λ (a : Access). named_bus words a.addr ≡ bus a.addr) xs
    → Agrees bus (named_bus words) (triple_or_none (slice_get xs k))
agrees words bus xs k called same =
    agrees_at words bus (slice_get xs k) (at_place IsCalled xs k called) (at_place (λ (a : Access). named_bus words a.addr ≡ bus a.addr) xs k same)

served : (r : Record) (xs : List Access) (bus : ℕ → ℕ) (words : List (ℕ × ℕ)) → r.triples ≡ triples_of xs → record_fault r ≡ None
    → IsRecordOfWords r → All IsCalled xs → AreWordsAt xs bus words → IsServed (shown_fault r words) (served_text (serving_with r bus))
served r xs bus words are none small called shown =
    let t0 : Triple = triple_or_none (slice_get xs 0) in
    let t1 : Triple = triple_or_none (slice_get xs 1) in
    let t2 : Triple = triple_or_none (slice_get xs 2) in
    let triples : All IsTripleOfWords (t0 ∷ t1 ∷ t2 ∷ []) = subst (All IsTripleOfWords) are small.triples in
    let rest : All IsTripleOfWords (t1 ∷ t2 ∷ []) = All-tail IsTripleOfWords t0 (t1 ∷ t2 ∷ []) triples in
    let told : Case = record { fault = record r { event = 0 }; words = words } in
    let place : (k : ℕ) → slice_index_or (triples_of xs) k no_triple ≡ slice_index_or r.triples k no_triple =
    λ k. ap (λ (ts : List Triple). slice_index_or ts k no_triple) (sym are) in
    record {
      told = told;
      accepted = accepted (shown_fault r words) told
          (ap (λ ts. case_in (lines_of ((status_line r ++ flat_map triple_line (enumerate_from 0 ts)) ++ flat_map word_line words))) are
          ∙ ap case_in (fault_lines r t0 t1 t2 words are)
          ∙ case_read (status_text r) (triple_text (codes "t0 ") t0) (triple_text (codes "t1 ") t1) (triple_text (codes "t2 ") t2) (map word_text words)
          (status_of_record r) t0 t1 t2 words (status_read r small)
          (triple_read (codes "t0 ") t0 (All-head IsTripleOfWords t0 (t1 ∷ t2 ∷ []) triples))
          (triple_read (codes "t1 ") t1 (All-head IsTripleOfWords t1 (t2 ∷ []) rest))
          (triple_read (codes "t2 ") t2 (All-head IsTripleOfWords t2 [] (All-tail IsTripleOfWords t1 (t2 ∷ []) rest)))
          (words_read 5 words shown.shown)
          ∙ ap (case_of_fault words) (told_again r t0 t1 t2 are))
          (again r none) shown.once;
      is_text = sym (same_text (serving_with r bus) (named_bus words)
          (subst (Agrees bus (named_bus words)) (place 0) (agrees words bus xs 0 called shown.agree))
          (subst (Agrees bus (named_bus words)) (place 1) (agrees words bus xs 1 called shown.agree))
          (subst (Agrees bus (named_bus words)) (place 2) (agrees words bus xs 2 called shown.agree)));
    }

pub each_fault_is_served : EachFaultIsServed
unfolding record_of situation_at
each_fault_is_served = λ r k words small shown.
    let m : Moment = moment_after r k in
    served (record_at r m) (pending_at r.program m.retired m.done) (bus_at r.program m.retired m.done) words refl
    (sound_record r m (past_after r k)) small
    (All-drop IsCalled m.done (transactions r.program m.retired) (transactions_told r.program m.retired)) shown
