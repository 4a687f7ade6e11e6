-- The timeline of a machine with software behind it, along the extended history: the moments of a run, and what a
-- letter makes of one. What a letter makes the board do is what it makes any board do there; where that would end the
-- program by an instruction that software has an aid for, one more is retired.
use Rattle.std.specs.Prelude.{ℕ, zero, suc, Bool, true, false, List, [], ◌∷◌, ◌++◌, ◌≡◌, ◌+◌, ◌==◌, ◌||◌}
use Rattle.m88_base.specs.Pages.{page_number}
use Rattle.m88_isa.specs.Machine.{Program}
use Rattle.m88_event.specs.Choice.{Choice, choice_of, finishes}
use Rattle.m88_event.specs.Letters.{letter_at}
use Rattle.m88_event.specs.Run.{IsFirst, outcome_along}
use Rattle.m88_event.specs.Situation.{record_of}
use Rattle.m88_event.specs.Timeline.{Moment, Run, after_choice, is_over_along, opening_moment, pending_along, situation_along, with_event}
use Rattle.m88_event.specs.declared.letter.Letter.{Letter}
use Rattle.m88_event.specs.declared.record.Record.{Record}
use Rattle.m88_emul.specs.Extended.{Deed, aided, alone, deed_at, extended_history, extended_state}
use Rattle.m88_emul.specs.declared.emulation.EmulOutcome.{EmulOutcome}
use Rattle.m88_emul.specs.declared.emulation.Emulation.{Emulation}

-- a moment, whose counts are those of the extended history, and the emulations so far
pub record ExtendedMoment : Type 0 where
  pub moment : Moment
  pub emulated : List Emulation

-- before the first event
abbrev pub opening_extended : ExtendedMoment
opening_extended = record { moment = opening_moment; emulated = [] }

-- a page is that of one of some places
unfoldable pub has_place_in : List ℕ → ℕ → Bool
has_place_in [] page = false
has_place_in (a ∷ places) page = page_number a == page || has_place_in places page

-- the moment where the machine alone would end the program: it ends, or by what software does one more instruction is
-- retired, the pages of its bytes are supplied, and this event joins the emulations with the address and the vector
abbrev pub after_stop : Deed → Program → ExtendedMoment → ExtendedMoment
after_stop (alone turn) p x = record x { moment = record x.moment { ended = true } }
after_stop (aided vector aid) p x = record {
  moment = record x.moment {
    retired = x.moment.retired + 1;
    supplied = λ page. x.moment.supplied page || has_place_in aid.places page;
  };
  emulated =
      x.emulated
      ++ (record { event = x.moment.events + 1; at = (extended_state p x.moment.retired).pc; vector = vector } ∷ []);
}

-- what a choice makes of a moment, but for the count of events: the same as without software, but where it would end
-- the program
abbrev pub after_chosen : Program → Choice → Record → ExtendedMoment → ExtendedMoment
after_chosen p (finishes stop) fault x =
    after_stop (deed_at p (extended_state p x.moment.retired)) p x
after_chosen p choice fault x =
    record x { moment = after_choice (pending_along (extended_history p) x.moment) choice fault x.moment }

-- one more event is counted
abbrev pub with_event_counted : ExtendedMoment → ExtendedMoment
with_event_counted x = record x { moment = with_event x.moment }

-- the moment after a letter
unfoldable pub after_event : Run → Letter → ExtendedMoment → ExtendedMoment
after_event r letter x = with_event_counted (after_chosen r.program
    (choice_of r.program letter (situation_along (extended_history r.program) r x.moment))
    (record_of r.program (situation_along (extended_history r.program) r x.moment)) x)

-- the moment of a run after as many events
unfoldable pub extended_after : Run → ℕ → ExtendedMoment
extended_after r zero = opening_extended
extended_after r (suc k) = after_event r (letter_at r.schedule k) (extended_after r k)

-- what a run comes to that is over at a moment
unfoldable pub extended_outcome : Program → ExtendedMoment → EmulOutcome
extended_outcome p x = record { outcome = outcome_along (extended_history p) x.moment; emulated = x.emulated }

-- what a run comes to: it is over after so many events and not before, and this is the outcome there
pub record IsExtendedOutcome (r : Run) (o : EmulOutcome) : Type 0 where
  pub events : ℕ
  pub run : IsFirst (λ k. is_over_along (extended_history r.program) r (extended_after r k).moment) events
  pub value : o ≡ extended_outcome r.program (extended_after r events)
