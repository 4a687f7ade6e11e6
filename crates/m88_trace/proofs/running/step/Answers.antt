-- What was seen, the event, and what it adds.
use Rattle.std.proofs.Common.{◌≡◌, ap, sym, subst, ◌∙◌}
use Rattle.m88_board.specs.Board.{BoardView}
use Rattle.m88_board.specs.Moves.{IsAt}
use Rattle.m88_event.specs.Letters.{letter_at}
use Rattle.m88_event.specs.Timeline.{after_letter, said_at}
use Rattle.m88_event.specs.declared.letter.Letter.{Letter}
use Rattle.m88_event.specs.declared.letter.Letter.TheVariants.{Issue, Answer, Evict}
use Rattle.m88_trace.proofs.Noting.{data_at, evicted_note, few_wait}
use Rattle.m88_trace.proofs.Writing.{ok_both}
use Rattle.m88_trace.specs.Inside.Running.{IsTraced}
use Rattle.m88_trace.proofs.running.step.Goals as goal

pub returns-in_ok-happened-in-Issue : goal.returns-in_ok-happened-in-Issue
returns-in_ok-happened-in-Issue c = ok_both c.note_issue.result c.note_issue.ensures.made c.note_issue.ensures.traced
    (λ made noted.
    let w = c.args.walk.now in
    let letter : letter_at w.schedule.now w.taken ≡ Issue = sym c.letter.ensures ∙ c.in-Issue.is in
    let next = c.in_ok-happened-in-Issue.ensures in
    record {
      made = made;
      at = λ r m at. (next.goes.ok r m at).at;
      traced = λ r m is at traced.
          let there = subst (λ (b : BoardView). IsAt r m b) (sym c.board.ensures) at in
          subst (λ (l : Letter). IsTraced r.program (after_letter r l m) c.note_issue.new.self) (sym letter)
          (noted r m is at.past at.within (c.upcoming_on-next.ensures r m there)
          (next.told letter r m at)
          (next.goes.event.happens.said r m at ∙ ap (λ (l : Letter). said_at r l m) letter) traced);
      taken = next.goes.takes.taken;
      lighter = next.goes.takes.lighter;
      stays = next.goes.takes.stays;
    })

pub returns-in_ok-happened-in-Answer : goal.returns-in_ok-happened-in-Answer
returns-in_ok-happened-in-Answer c =
    let w = c.args.walk.now in
    let letter : letter_at w.schedule.now w.taken ≡ Answer = sym c.letter.ensures ∙ c.in-Answer.is in
    let next = c.in_ok-happened-in-Answer.ensures in
    record {
      made = c.note_answer.ensures.made;
      at = λ r m at. (next.goes.ok r m at).at;
      traced = λ r m is at traced.
          let there = subst (λ (b : BoardView). IsAt r m b) (sym c.board-in-Answer.ensures) at in
          let due = data_at r m c.board-in-Answer.result.now c.args.sheet.now c.data-due.result there traced
          (c.data-due.ensures (few_wait r m at.past c.args.sheet.now traced)) in
          subst (λ (l : Letter). IsTraced r.program (after_letter r l m) c.note_answer.new.self) (sym letter)
          (c.note_answer.ensures.traced r m at.past at.within due
          (next.goes.event.happens.said r m at ∙ ap (λ (l : Letter). said_at r l m) letter) traced);
      taken = next.goes.takes.taken;
      lighter = next.goes.takes.lighter;
      stays = next.goes.takes.stays;
    }

pub returns-in_ok-next-in-Evict : goal.returns-in_ok-next-in-Evict
returns-in_ok-next-in-Evict c =
    let w = c.args.walk.now in
    let letter : letter_at w.schedule.now w.taken ≡ Evict = sym c.letter.ensures ∙ c.in-Evict.is in
    let next = c.in_ok-next-in-Evict.ensures in
    record {
      made = c.requires.made;
      at = λ r m at. (next.goes.ok r m at).at;
      traced = λ r m is at traced.
          subst (λ (l : Letter). IsTraced r.program (after_letter r l m) c.args.sheet.now) (sym letter)
          (evicted_note r m c.args.sheet.now traced);
      taken = next.goes.takes.taken;
      lighter = next.goes.takes.lighter;
      stays = next.goes.takes.stays;
    }
