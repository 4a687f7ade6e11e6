-- The letter of an event is the schedule's, or comes in turn.
use Rattle.std.specs.Prelude.{ℕ, Option, unwrap_or, ◌-◌, length}
use Rattle.std.proofs.Common.{ap, arith, sym, ◌∙◌}
use Rattle.m88_event.specs.Letters.{in_turn}
use Rattle.m88_tasks.proofs.Letters.{in_turn_behind}
use Rattle.m88_tasks.specs.Letters.{share_letter_at}
use Rattle.m88_tasks.specs.declared.letter.ShareLetter.{ShareLetter}
use Rattle.m88_tasks.specs.declared.letter.ShareLetter.TheVariants.{Own}
use Rattle.m88_tasks.proofs.schedule.ShareSchedule.letter_at.Goals as goal

pub returns-then-k-len : goal.returns-then-k-len
unfolding share_letter_at
returns-then-k-len c =
    sym (ap (λ (letter : Option ShareLetter). unwrap_or letter (Own (in_turn (c.args.k - length c.args.self.now)))) c.letter.ensures)

pub returns-else-k-len : goal.returns-else-k-len
returns-else-k-len c =
    ap Own (c.in_turn.ensures ∙ ap (λ (n : ℕ). in_turn (c.args.k - n)) c.len-else-k-len.ensures.value)
    ∙ sym (in_turn_behind c.args.self.now c.args.k (omega arith))
