-- A machine with software behind it is the board alone where software has nothing to do.
use Rattle.std.specs.Prelude.{ℕ, zero, suc, Bool, true, false, List, [], ◌∷◌, ◌++◌, Option, Some, None, ◌≡◌, ◌≤◌, ◌+◌, ◌==◌, ◌&&◌, ◌||◌, ◌-◌, drop, length, nat_lt, unwrap_or, if◌then◌else◌}
use Rattle.std.proofs.Common.{arith, refl, sym, ap, ap₂, subst, ◌∙◌}
use Rattle.std.proofs.lemmas.Bool.{eqb-false, eqb-true, ltb-false, ltb-true}
use Rattle.m88_isa.proofs.Laws.{by_test, second_of}
use Rattle.m88_isa.specs.Bus.{changed_words, in_words}
use Rattle.m88_isa.specs.Held.{instruction_at, is_stop}
use Rattle.m88_isa.specs.History.{pending_at, transaction_count, transactions}
use Rattle.m88_isa.specs.Machine.{Program, State, Turn, by_vector, changes, exits, opening, outputs, state, state_after, stepped, stops, turn_at}
use Rattle.m88_isa.specs.declared.instr.Instr.{Instr}
use Rattle.m88_isa.specs.declared.planned.Access.{Access}
use Rattle.m88_event.proofs.Laws.{Fits, fits, past_after}
use Rattle.m88_event.specs.Choice.{Choice, choice_of, finishes, issues, serves}
use Rattle.m88_event.specs.Letters.{letter_at}
use Rattle.m88_event.specs.Past.{HasPast}
use Rattle.m88_event.specs.Run.{IsOutcome, moment_after, moment_along, outcome_at}
use Rattle.m88_event.specs.Shadow.{retired_pointer}
use Rattle.m88_event.specs.Situation.{Situation, record_of}
use Rattle.m88_event.specs.Timeline.{Moment, Run, after_choice, after_letter, end_of_turn, is_over, is_over_along, situation_along, situation_at, with_event, xip_along, xip_at}
use Rattle.m88_event.specs.declared.happened.End.TheVariants.{Limit}
use Rattle.m88_event.specs.declared.letter.Letter.{Letter}
use Rattle.m88_event.specs.declared.record.Record.{Record}
use Rattle.m88_emul.proofs.Standing.{stands_first, stands_on}
use Rattle.m88_emul.specs.Aid.{Aid}
use Rattle.m88_emul.specs.Extended.{Deed, IsAlone, after_deed, aid_at, aided, alone, deed_accesses, deed_at, deed_of, extended_history, extended_state, transactions_before, where_aided}
use Rattle.m88_emul.specs.Inside.Settled.{LiesBehind}
use Rattle.m88_emul.specs.Timeline.{ExtendedMoment, IsExtendedOutcome, after_chosen, after_event, after_stop, extended_after, extended_outcome, with_event_counted}
use Rattle.m88_emul.specs.Unaided.{IsPlainUnaided, IsUnaided}
use Rattle.m88_emul.specs.declared.emulation.EmulOutcome.{EmulOutcome}
use Rattle.m88_emul.specs.declared.emulation.Emulation.{Emulation}

-- a deed without an aid is the turn
no_aid : (vector at : ℕ) (aid : Option Aid) → IsAlone (where_aided vector at aid) → where_aided vector at aid ≡ alone (stops (by_vector vector at))
no_aid vector at None h = refl
no_aid vector at (Some aid) h = absurd h

own_turn : (t : Turn) (i : Option Instr) (regs : List ℕ) (memory : ℕ → ℕ) → IsAlone (deed_of t i regs memory) → deed_of t i regs memory ≡ alone t
own_turn (stops (by_vector vector at)) i regs memory h = no_aid vector at (aid_at i vector regs memory) h
own_turn _ i regs memory h = refl

turn_alone : (p : Program) (s : State) → IsAlone (deed_at p s) → deed_at p s ≡ alone (turn_at p s)
turn_alone p s h = own_turn (turn_at p s) (instruction_at p s.pc) s.regs s.memory h

fewer_unaided : (p : Program) (m n : ℕ) → m ≤ n → IsUnaided p n → IsUnaided p m
fewer_unaided p m n h none = λ k less. none k (omega (arith, h, less))

-- so the histories are one
same_state : (p : Program) (n : ℕ) → IsUnaided p n → extended_state p n ≡ state p n
unfolding extended_state state
same_state p zero none = refl
same_state p (suc n) none =
    ap (λ (s : State). after_deed (deed_at p s) s) (same_state p n (fewer_unaided p n (suc n) (omega arith) none))
    ∙ ap (λ (d : Deed). after_deed d (state p n)) (turn_alone p (state p n) (none n (omega arith)))

same_deed : (p : Program) (n : ℕ) → IsUnaided p n → deed_at p (extended_state p n) ≡ deed_at p (state p n)
same_deed p n none = ap (deed_at p) (same_state p n none)

-- and so are their transactions
same_transactions : (p : Program) (n : ℕ) → IsUnaided p n → transactions_before p n ≡ transactions p n
unfolding transactions_before transactions
same_transactions p zero none = refl
same_transactions p (suc n) none =
    ap₂ (λ (xs : List Access) (d : Deed). xs ++ deed_accesses d) (same_transactions p n (fewer_unaided p n (suc n) (omega arith) none))
    (same_deed p n (fewer_unaided p n (suc n) (omega arith) none) ∙ turn_alone p (state p n) (none n (omega arith)))

same_xip : (p : Program) (n : ℕ) → IsUnaided p n → xip_along (extended_history p) n ≡ xip_at p n
unfolding xip_along
same_xip p zero none = refl
same_xip p (suc n) none =
    ap (λ (s : State). retired_pointer s.pc) (same_state p n (fewer_unaided p n (suc n) (omega arith) none))

-- what the next event depends on
same_next : (r : Run) (m : Moment) → IsUnaided r.program m.retired →
    situation_along (extended_history r.program) r m ≡ situation_at r m
unfolding situation_at
same_next r m none =
    let states = same_state r.program m.retired none in
    let made = same_transactions r.program m.retired none in
    let xip = same_xip r.program m.retired none in
    λ i. record (situation_at r m) {
      regs = (states i).regs;
      carry = (states i).carry;
      mxm = (states i).mxm;
      pc = (states i).pc;
      next = (states i).next;
      xip = xip i;
      pending = drop m.done (made i);
    }

-- a moment with no emulation
abbrev plain : Moment → ExtendedMoment
plain m = record { moment = m; emulated = [] }

-- the choice ends the program
abbrev Ends : Choice → Type 0
Ends (finishes stop) = Unit {0}
Ends _ = ⊥

-- what a choice makes of it
ended_plain : (p : Program) (m : Moment) (d : Deed) → IsAlone d → after_stop d p (plain m) ≡ plain (record m { ended = true })
ended_plain p m (alone t) h = refl
ended_plain p m (aided vector aid) h = absurd h

plain_choice : (p : Program) (m : Moment) (choice : Choice) (fault : Record) → IsUnaided p m.retired →
    (Ends choice → IsAlone (deed_at p (state p m.retired))) →
    after_chosen p choice fault (plain m) ≡ plain (after_choice (pending_at p m.retired m.done) choice fault m)
plain_choice p m (finishes stop) fault none ends =
    ended_plain p m (deed_at p (extended_state p m.retired)) (subst IsAlone (sym (same_deed p m.retired none)) (ends tt))
plain_choice p m choice fault none ends =
    ap (λ (xs : List Access). plain (after_choice (drop m.done xs) choice fault m)) (same_transactions p m.retired none)

-- and a letter
abbrev choice_there : Run → Letter → Moment → Choice
choice_there r letter m = choice_of r.program letter (situation_at r m)

plain_letter : (r : Run) (letter : Letter) (m : Moment) → IsUnaided r.program m.retired →
    (Ends (choice_there r letter m) → IsAlone (deed_at r.program (state r.program m.retired))) →
    after_event r letter (plain m) ≡ plain (after_letter r letter m)
unfolding after_event after_letter
plain_letter r letter m none ends =
    ap (λ (s : Situation). with_event_counted (after_chosen r.program (choice_of r.program letter s) (record_of r.program s) (plain m)))
    (same_next r m none)
    ∙ ap with_event_counted (plain_choice r.program m (choice_there r letter m) (record_of r.program (situation_at r m)) none ends)

-- where software has no aid up to the limit, a program that ends does so before the limit
ends_early : (r : Run) (m : Moment) (choice : Choice) (fault : Record) → IsUnaided r.program r.limit →
    HasPast r (with_event (after_choice (pending_at r.program m.retired m.done) choice fault m)) → Ends choice →
    IsAlone (deed_at r.program (state r.program m.retired))
ends_early r m (finishes stop) fault none past ends = none m.retired (past.ended refl).early
ends_early r m choice fault none past ends = absurd ends

ends_there : (r : Run) (k : ℕ) → IsUnaided r.program r.limit →
    Ends (choice_there r (letter_at r.schedule k) (moment_after r k)) →
    IsAlone (deed_at r.program (state r.program (moment_after r k).retired))
unfolding moment_along after_letter
ends_there r k none =
    let m : Moment = moment_after r k in
    let s : Situation = situation_at r m in
    ends_early r m (choice_of r.program (letter_at r.schedule k) s) (record_of r.program s) none (past_after r (suc k))

plain_moments : (r : Run) → IsUnaided r.program r.limit → (k : ℕ) →
    extended_after r k ≡ plain (moment_after r k)
unfolding extended_after moment_along
plain_moments r none zero = refl
plain_moments r none (suc k) =
    let m : Moment = moment_after r k in
    let within = (past_after r k).within in
    ap (after_event r (letter_at r.schedule k)) (plain_moments r none k)
    ∙ plain_letter r (letter_at r.schedule k) m (fewer_unaided r.program m.retired r.limit within none)
    (ends_there r k none)

-- what the run comes to
plain_outcome : (p : Program) (m : Moment) → IsUnaided p m.retired → extended_outcome p (plain m) ≡ record { outcome = outcome_at p m; emulated = [] }
unfolding extended_outcome outcome_at
plain_outcome p m none =
    let states = same_state p m.retired none in
    λ i. record {
      outcome = record (outcome_at p m) {
        end = unwrap_or (if m.ended then Some (end_of_turn (turn_at p (states i))) else None) Limit;
        regs = (states i).regs;
        carry = (states i).carry;
        out = (states i).out;
        changed = changed_words (in_words (opening p).memory) (in_words (states i).memory);
      };
      emulated = [];
    }

over_plain : (r : Run) (x : ExtendedMoment) (m : Moment) → x ≡ plain m → IsUnaided r.program m.retired →
    is_over_along (extended_history r.program) r x.moment ≡ is_over r m
over_plain r x m same none =
    ap (λ (y : ExtendedMoment). is_over_along (extended_history r.program) r y.moment) same
    ∙ ap (λ (xs : List Access). m.done == length xs && (m.ended || m.retired == r.limit)) (same_transactions r.program m.retired none)

plain_run : (r : Run) (o : EmulOutcome) → IsUnaided r.program r.limit →
    (run : IsExtendedOutcome r o) →
    o ≡ record { outcome = outcome_at r.program (moment_after r run.events); emulated = [] }
plain_run r o none run =
    let m : Moment = moment_after r run.events in
    let within = (past_after r run.events).within in
    run.value
    ∙ ap (extended_outcome r.program) (plain_moments r none run.events)
    ∙ plain_outcome r.program m (fewer_unaided r.program m.retired r.limit within none)

plain_is : (r : Run) (o : EmulOutcome) → IsUnaided r.program r.limit →
    IsExtendedOutcome r o → IsOutcome r o.outcome
plain_is r o none run = record {
  events = run.events;
  run = record {
    here = sym (same_over run.events) ∙ run.run.here;
    first = λ k less. sym (same_over k) ∙ run.run.first k less;
  };
  value = ap (λ (x : EmulOutcome). x.outcome) (plain_run r o none run);
}
  where
    same_over : (k : ℕ) → is_over_along (extended_history r.program) r (extended_after r k).moment
        ≡ is_over r (moment_after r k)
    same_over k =
        let m : Moment = moment_after r k in
        let within = (past_after r k).within in
        over_plain r (extended_after r k) m (plain_moments r none k)
        (fewer_unaided r.program m.retired r.limit within none)

-- where no emulation is listed, none was before
not_one : (xs : List Emulation) (e : Emulation) → xs ++ (e ∷ []) ≡ [] → ⊥
not_one [] e h = cc
not_one (x ∷ xs) e h = cc

none_by_stop : (p : Program) (x : ExtendedMoment) (d : Deed) → (after_stop d p x).emulated ≡ [] → x.emulated ≡ []
none_by_stop p x (alone t) h = h
none_by_stop p x (aided vector aid) h = absurd (not_one x.emulated _ h)

none_before : (p : Program) (x : ExtendedMoment) (choice : Choice) (fault : Record) → (after_chosen p choice fault x).emulated ≡ [] →
    x.emulated ≡ []
none_before p x (finishes stop) fault h = none_by_stop p x (deed_at p (extended_state p x.moment.retired)) h
none_before p x choice fault h = h

none_earlier : (r : Run) (letter : Letter) (x : ExtendedMoment) →
    (after_event r letter x).emulated ≡ [] → x.emulated ≡ []
unfolding after_event
none_earlier r letter x h = none_before r.program x _ _ h

-- then the machine alone ended the program, if it did
alone_by_stop : (p : Program) (m : Moment) (d : Deed) → (after_stop d p (plain m)).emulated ≡ [] → IsAlone d
alone_by_stop p m (alone t) h = tt
alone_by_stop p m (aided vector aid) h = absurd (not_one [] _ h)

ends_alone : (p : Program) (m : Moment) (choice : Choice) (fault : Record) → IsUnaided p m.retired →
    (after_chosen p choice fault (plain m)).emulated ≡ [] → Ends choice → IsAlone (deed_at p (state p m.retired))
ends_alone p m (finishes stop) fault none h ends =
    subst IsAlone (same_deed p m.retired none) (alone_by_stop p m (deed_at p (extended_state p m.retired)) h)
ends_alone p m choice fault none h ends = absurd ends

letter_alone : (r : Run) (letter : Letter) (m : Moment) → IsUnaided r.program m.retired →
    (after_event r letter (plain m)).emulated ≡ [] →
    Ends (choice_there r letter m) → IsAlone (deed_at r.program (state r.program m.retired))
unfolding after_event
letter_alone r letter m none h =
    let s : Situation = situation_at r m in
    ends_alone r.program m (choice_of r.program letter s) (record_of r.program s) none
    (sym (ap (λ (s : Situation). (after_chosen r.program (choice_of r.program letter s) (record_of r.program s) (plain m)).emulated)
    (same_next r m none)) ∙ h)

-- and each instruction that was retired
one_unaided : (p : Program) (n : ℕ) → IsUnaided p n → IsAlone (deed_at p (state p n)) → IsUnaided p (n + 1)
one_unaided p n none here = λ k less. by_test (k == n)
    (λ last. subst (λ (j : ℕ). IsAlone (deed_at p (state p j))) (sym (eqb-true k n last)) here)
    (λ earlier. let other = eqb-false k n earlier in none k (omega (arith, less, other)))

turn_is_alone : (p : Program) (s : State) (t : Turn) → turn_at p s ≡ t → IsAlone (deed_of t (instruction_at p s.pc) s.regs s.memory) →
    IsAlone (deed_at p s)
turn_is_alone p s t e h = subst (λ (u : Turn). IsAlone (deed_of u (instruction_at p s.pc) s.regs s.memory)) (sym e) h

retired_alone : (p : Program) (m : Moment) (choice : Choice) (fault : Record) → Fits p m choice → IsUnaided p m.retired →
    IsUnaided p (after_choice (pending_at p m.retired m.done) choice fault m).retired
retired_alone p m (issues change) fault fit none =
    one_unaided p m.retired none (turn_is_alone p (state p m.retired) (changes change) fit.0 tt)
retired_alone p m (serves byte) fault fit none =
    one_unaided p m.retired none (turn_is_alone p (state p m.retired) (outputs byte) fit.0 tt)
retired_alone p m choice fault fit none = none

letter_retires : (r : Run) (letter : Letter) (m : Moment) → IsUnaided r.program m.retired →
    IsUnaided r.program (after_letter r letter m).retired
unfolding after_letter
letter_retires r letter m none =
    let s : Situation = situation_at r m in
    retired_alone r.program m (choice_of r.program letter s) (record_of r.program s) (fits r letter m) none

-- so that the run was plain
record IsPlainTo (r : Run) (k : ℕ) : Type 0 where
  pub none : IsUnaided r.program (moment_after r k).retired
  pub same : extended_after r k ≡ plain (moment_after r k)

plain_to : (r : Run) (k : ℕ) →
    (extended_after r k).emulated ≡ [] → IsPlainTo r k
unfolding extended_after moment_along
plain_to r zero h = record { none = λ k less. absurd (omega (arith, less)); same = refl }
plain_to r (suc k) h =
    let letter : Letter = letter_at r.schedule k in
    let x : ExtendedMoment = extended_after r k in
    let m : Moment = moment_after r k in
    let before = plain_to r k (none_earlier r letter x h) in
    let still = subst (λ (y : ExtendedMoment). (after_event r letter y).emulated ≡ []) before.same h in
    record {
      none = letter_retires r letter m before.none;
      same =
          ap (after_event r letter) before.same
          ∙ plain_letter r letter m before.none (letter_alone r letter m before.none still);
    }

-- from the end on nothing comes
stop_stays : (t : Turn) (s : State) → is_stop t ≡ true → state_after (stepped t s) s ≡ s
stop_stays (stops stop) s h = refl
stop_stays _ s h = absurd cc

stays_ended : (p : Program) (n more : ℕ) → is_stop (turn_at p (state p n)) ≡ true → state p (n + more) ≡ state p n
unfolding state
stays_ended p n zero h = let e : n + 0 ≡ n = omega arith in ap (state p) e
stays_ended p n (suc more) h =
    let e : n + suc more ≡ suc (n + more) = omega arith in
    ap (state p) e
    ∙ ap (λ (s : State). state_after (stepped (turn_at p s) s) s) (stays_ended p n more h)
    ∙ stop_stays (turn_at p (state p n)) (state p n) h

ended_unaided : (p : Program) (n limit : ℕ) → IsUnaided p n → is_stop (turn_at p (state p n)) ≡ true →
    IsAlone (deed_at p (state p n)) → IsUnaided p limit
ended_unaided p n limit none stop here = λ k less. by_test (nat_lt k n)
    (λ earlier. none k (ltb-true k n earlier))
    (λ later.
    let behind = ltb-false k n later in
    let e : n + (k - n) ≡ k = omega (arith, behind) in
    subst (λ (s : State). IsAlone (deed_at p s)) (sym (ap (state p) (sym e) ∙ stays_ended p n (k - n) stop)) here)

stands_along : (r : Run) (k : ℕ) →
    LiesBehind r.program (extended_after r k).moment
unfolding extended_after
stands_along r zero = stands_first r.program
stands_along r (suc k) =
    stands_on r (letter_at r.schedule k) (extended_after r k) (stands_along r k)

over_by : (r : Run) (m : Moment) (ended : Bool) → m.ended ≡ ended → HasPast r m → IsUnaided r.program m.retired →
    (m.ended ≡ true → IsAlone (deed_at r.program (state r.program m.retired))) → (ended || m.retired == r.limit) ≡ true →
    IsUnaided r.program r.limit
over_by r m true is past none here idle = ended_unaided r.program m.retired r.limit none (past.ended is).next (here is)
over_by r m false is past none here idle = subst (IsUnaided r.program) (eqb-true m.retired r.limit idle) none

none_listed : (r : Run) (o : EmulOutcome) →
    IsExtendedOutcome r o → o.emulated ≡ [] → IsUnaided r.program r.limit
unfolding extended_outcome
none_listed r o run h =
    let k = run.events in
    let x : ExtendedMoment = extended_after r k in
    let m : Moment = moment_after r k in
    let listed : x.emulated ≡ [] = sym (ap (λ (y : EmulOutcome). y.emulated) run.value) ∙ h in
    let to = plain_to r k listed in
    let over : is_over r m ≡ true = sym (over_plain r x m to.same to.none) ∙ run.run.here in
    let stands : LiesBehind r.program m = subst (λ (y : ExtendedMoment). LiesBehind r.program y.moment) to.same (stands_along r k) in
    over_by r m m.ended refl (past_after r k) to.none
    (λ ended. subst IsAlone (same_deed r.program m.retired to.none) (stands.ended ended))
    (second_of (m.done == transaction_count r.program m.retired) (m.ended || m.retired == r.limit) over)

-- the law
pub plain_unaided : (r : Run) (o : EmulOutcome) →
    IsExtendedOutcome r o → IsPlainUnaided r o
plain_unaided r o run = record {
  none = (
    none_listed r o run,
    λ none. ap (λ (x : EmulOutcome). x.emulated) (plain_run r o none run),
  );
  moments = plain_moments r;
  outcome = λ none. plain_is r o none run;
}
