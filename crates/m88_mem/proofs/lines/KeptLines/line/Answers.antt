-- What is kept has its place.
use Rattle.std.proofs.Common.{ap, arith, ◌∙◌, ◌/◌, ◌%◌}
use Rattle.std.specs.Prelude.{Some}
use Rattle.m88_mem.proofs.Kept.{stands_there}
use Rattle.m88_mem.specs.Inside.Lines.{AreLines}
use Rattle.m88_mem.proofs.lines.KeptLines.line.Goals as goal

pub returns-then-line-addr : goal.returns-then-line-addr
returns-then-line-addr c = (
  c.if-line-addr.true,
  λ image are.
      let here : AreLines image c.self.inside.lines.items = rw c.self.view_is are in
      here (c.args.addr / 4 % 4096) c.in_ok-line.line
      (stands_there c.self.inside.lines.items (c.args.addr / 4 % 4096) c.index.result.now (omega (arith, c.self.invariant)) c.index.ensures
      ∙ ap Some c.in_ok-line.was),
)
