-- The last record is that of the fault.
use Rattle.std.specs.Prelude.{List, [], ◌∷◌, ◌++◌, Some, ◌≡◌, ◌-◌, length, slice_get}
use Rattle.std.proofs.lemmas.List.{length-append}
use Rattle.std.proofs.Common.{arith, refl, sym, ap, ◌∙◌, subst}
use Rattle.m88_event.specs.Choice.{Choice, faults}
use Rattle.m88_event.specs.declared.happened.Happened.TheVariants.{Faulted}
use Rattle.m88_event.specs.declared.record.Record.{Record}
use Rattle.m88_board.specs.Board.{BoardView, event_counted}
use Rattle.m88_board.specs.Inside.Briefly.{by_fault, happened_of}
use Rattle.m88_board.specs.Inside.Events.{Did, Does}
use Rattle.m88_board.specs.declared.brief.Brief.{Brief}
use Rattle.m88_board.specs.declared.brief.Brief.TheVariants as brief

end_is : (before : List Record) (fault : Record) → slice_get (before ++ fault ∷ []) (length before) ≡ Some fault
end_is [] fault = refl
end_is (one ∷ before) fault = end_is before fault

last_is : (before : List Record) (fault : Record) →
    slice_get (before ++ fault ∷ []) (length (before ++ fault ∷ []) - 1) ≡ Some fault
last_is before fault =
    let count = length-append before (fault ∷ []) in
    let place : length (before ++ fault ∷ []) - 1 ≡ length before = omega (arith, count) in
    ap (slice_get (before ++ fault ∷ [])) place ∙ end_is before fault

pub last_told : (fault : Record) (old new : BoardView) → new.records ≡ old.records ++ fault ∷ [] →
    happened_of brief.Faulted new ≡ Faulted fault
last_told fault old new kept =
    ap (λ (records : List Record). by_fault (slice_get records (length records - 1))) kept
    ∙ ap by_fault (last_is old.records fault)

-- what a fault does, and says by its record
pub fault_did : (record_now fault : Record) (old new : BoardView) → new.records ≡ old.records ++ fault ∷ [] →
    fault ≡ record_now → Does faults fault old new → Did faults record_now old (happened_of brief.Faulted new) new
fault_did record_now fault old new kept same does = record {
  says = last_told fault old new kept ∙ ap Faulted same;
  does = subst (λ (f : Record). Does faults f old new) same does;
}

-- the count of events is no record
uncounted : (brief : Brief) (b : BoardView) → happened_of brief (event_counted b) ≡ happened_of brief b
uncounted brief.Issued b = refl
uncounted _ b = refl

pub told_counted : (brief : Brief) (middle new : BoardView) → new ≡ event_counted middle →
    happened_of brief middle ≡ happened_of brief new
told_counted brief middle new is = sym (ap (happened_of brief) is ∙ uncounted brief middle)

pub did_counted : (choice : Choice) (fault : Record) (old middle new : BoardView) (brief : Brief) →
    new ≡ event_counted middle →
    Did choice fault old (happened_of brief middle) middle →
    Did choice fault old (happened_of brief new) middle
did_counted choice fault old middle new brief is did =
    subst (λ h. Did choice fault old h middle) (told_counted brief middle new is) did
