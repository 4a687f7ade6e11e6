-- The program has ended.
use Rattle.std.proofs.Common.{ap}
use Rattle.m88_ctrl.specs.ControlRegisters.{ControlRegisters}
use Rattle.m88_event.specs.Choice.{finishes}
use Rattle.m88_event.specs.declared.happened.Happened.TheVariants as happened
use Rattle.m88_event.specs.declared.letter.Letter.TheVariants.{Issue}
use Rattle.m88_board.proofs.Brought.{brought}
use Rattle.m88_board.proofs.Carry.{carry_entered}
use Rattle.m88_board.proofs.Finished.{kept_finished}
use Rattle.m88_board.proofs.Steps.{finished}
use Rattle.m88_board.specs.contracts.board.Board.{the_view}
use Rattle.m88_board.specs.declared.brief.Brief.TheVariants.{Ended}
use Rattle.m88_board.proofs.board.Board.finish.Goals as goal

pub invariant_of-self : goal.invariant_of-self
invariant_of-self c =
    let due = rw (← c.self.view_is) at c.requires.due in
    let ends = rw (← c.self.view_is) at c.requires.ends in
    kept_finished (the_view c.self.inside) c.enter.new.ctrl c.args.end c.self.invariant due ends
    (ap (λ (r : ControlRegisters). r.psr) c.enter.ensures.state) (ap (λ (r : ControlRegisters). r.epsr) c.enter.ensures.state)
    c.enter.ensures.mxm

pub returns : goal.returns
returns c =
    let ends = rw (← c.self.view_is) at c.requires.ends in
    let b = the_view c.self.inside in
    rw (← c.self.view_is)
    (brought Issue (finishes ends.stop) b Ended _ ends.comes
    (λ fault. record {
      says = ap happened.Ended ends.ends_by;
      does = finished fault ends.stop b c.enter.new.ctrl c.args.end ends.ends_by
          (carry_entered c.self.inside.ctrl c.enter.new.ctrl (ap (λ (r : ControlRegisters). r.psr) c.enter.ensures.state)) c.enter.ensures.mxm;
    })
    (λ still. absurd still) c.enter.ensures.state)
