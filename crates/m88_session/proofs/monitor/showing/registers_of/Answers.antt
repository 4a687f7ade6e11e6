-- All 32 are.
use Rattle.std.specs.List.{range_with_len}
use Rattle.std.proofs.Common.{None, arith, map, sym, ◌∙◌}
use Rattle.std.proofs.lemmas.List.{ext_get_or}
use Rattle.std.proofs.lemmas.List.FromFn.{get_or-map-range_with_len, length-map-range_with_len}
use Rattle.m88_board.proofs.Laws.{registers_seen}
use Rattle.m88_board.specs.Board.{completed_of}
use Rattle.m88_event.specs.Local.{register_seen}
use Rattle.m88_session.specs.MonitorLines.{registers_at}
use Rattle.m88_session.proofs.monitor.showing.registers_of.Goals as goal

pub returns-clause-value : goal.returns-clause-value
returns-clause-value c =
    let f = register_seen c.args.board.now.pending (completed_of c.args.board.now).regs in
    ext_get_or None c.loop-n.registers (map f (range_with_len 0 32)) (c.loop-n.invariant.long ∙ sym (length-map-range_with_len f 0 32))
    (λ i below.
    let long = c.loop-n.invariant.long in
    c.loop-n.invariant.shown i (omega (arith, below, long))
    ∙ sym (get_or-map-range_with_len f 0 32 i i None (omega (arith, below, long)) (omega arith)))

pub returns-clause-moment : goal.returns-clause-moment
unfolding registers_at
returns-clause-moment c = λ r m at. returns-clause-value c ∙ registers_seen r m c.args.board.now at
