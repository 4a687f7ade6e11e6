-- The event, behind which software may have something to do only where the program ended by a vector.
use Rattle.std.proofs.Common.{ℕ, [], ap, sym, subst, ◌∙◌}
use Rattle.m88_base.specs.Image.{ProgramImage}
use Rattle.m88_event.specs.Local.{move}
use Rattle.m88_isa.specs.ImageProgram.{IsProgramOf}
use Rattle.m88_board.specs.Board.{local_of}
use Rattle.m88_board.specs.Moves.{end_after}
use Rattle.m88_emul.proofs.OnBoards.{board_stays, ends_if, lives_none, none_joins, not_by_vector}
use Rattle.m88_emul.proofs.running.advance.Goals as goal

pub returns : goal.returns
returns c =
    let event = c.in_ok-happened.ensures.happens in
    let lives = lives_none c.args.limit c.args.board.now c.events.ensures.kept c.requires.going in
    let ended = event.ended ∙ ap (end_after c.in_ok-happened.happened) lives in
    record {
      moved = λ p of.
          (event.moved p of).moved
          ∙ ap (λ (n : ℕ). move p n c.args.letter (local_of c.args.board.now)) c.requires.limit_is;
      ended = ends_if c.vector_of.result c.in_ok-happened.happened c.event.new.self.ended c.vector_of.ensures ended;
      alone = λ none p of.
          let alone =
          not_by_vector p c.event.new.self c.in_ok-happened.happened
          (subst (λ (image : ProgramImage). IsProgramOf image p) (sym event.same.image) of) event.kept
          ended (sym c.vector_of.ensures ∙ none) in
          (board_stays p c.event.new.self alone, none_joins p c.event.new.self [] alone);
      counted = event.counted;
      same = event.same;
      kept = (c.events.ensures.kept, event.kept);
    }
