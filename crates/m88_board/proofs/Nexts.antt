-- An event that is told in brief, as a whole value: of a board, and of the next letter of a walk.
use Rattle.std.specs.Prelude.{List, Option, Ok, Err, ◌≡◌}
use Rattle.std.proofs.Common.{◌∙◌, ap, subst, sym}
use Rattle.m88_base.specs.declared.failing.NoMemory.{NoMemory}
use Rattle.m88_event.specs.Letters.{letter_at}
use Rattle.m88_event.specs.declared.happened.Happened.{Happened}
use Rattle.m88_event.specs.declared.letter.Letter.{Letter}
use Rattle.m88_event.specs.declared.letter.Letter.TheVariants.{Evict}
use Rattle.m88_board.specs.Board.{BoardView}
use Rattle.m88_board.specs.Calls.{MakesNext, TakesLetter}
use Rattle.m88_board.specs.Inside.Briefly.{happened_of}
use Rattle.m88_board.specs.Inside.Events.{EvictsAll}
use Rattle.m88_board.specs.Moves.{Happens, MakesEvent}
use Rattle.m88_board.specs.declared.brief.Brief.{Brief}
use Rattle.m88_board.specs.declared.brief.Brief.TheVariants.{Evicted}
use Rattle.m88_board.specs.declared.glance.Glance.{Glance}
use Rattle.m88_board.specs.declared.walk.Walk.{Walk}

-- `e` says so
says_evicted : (old new : BoardView) (brief : Brief) → EvictsAll old (Ok brief) new → brief ≡ Evicted
says_evicted old new brief evicts = let says = evicts.says in cc

pub event_made : (letter : Letter) (old new : BoardView) (brief : Brief) (happened : Happened) →
    happened ≡ happened_of brief new →
    Happens letter old (happened_of brief new) new →
    (letter ≡ Evict → EvictsAll old (Ok brief) new) →
    MakesEvent letter old (Ok happened) new
event_made letter old new brief happened is event evicts = record {
  happens = subst (λ (x : Happened). Happens letter old x new) (sym is) event;
  evicts = λ letter.
      ap (λ h. Ok h) (is ∙ ap (λ b. happened_of b new) (says_evicted old new brief (evicts letter)));
  evicted = λ letter. (evicts letter).evicted;
  err = tt;
}

-- memory refuses it, and so it isn't `e`
never_evicted : {A : Type 0} (old new : BoardView) (e : NoMemory) → EvictsAll old (Err e) new → A
never_evicted old new e evicts = let says = evicts.says in absurd cc

pub event_not_made : (letter : Letter) (old new : BoardView) (e : NoMemory) →
    new ≡ old →
    (letter ≡ Evict → EvictsAll old (Err e) new) →
    MakesEvent letter old (Err e) new
event_not_made letter old new e still evicts = record {
  happens = tt;
  evicts = λ letter. never_evicted old new e (evicts letter);
  evicted = λ letter. (evicts letter).evicted;
  err = still;
}

-- and so the next event of a walk isn't made
pub next_not_made : (old new : Walk) (before after : Option (List Glance)) (e : NoMemory) →
    new.board.now ≡ old.board.now →
    (letter_at old.schedule.now old.taken ≡ Evict → EvictsAll old.board.now (Err e) new.board.now) →
    TakesLetter {T = Brief} old new (Err e) →
    MakesNext old new before after (Err e)
next_not_made old new before after e still evicts takes = record {
  event = event_not_made (letter_at old.schedule.now old.taken) old.board.now new.board.now e still evicts;
  ok = tt;
  takes = record { taken = tt; lighter = tt; untaken = takes.untaken; stays = takes.stays };
}
