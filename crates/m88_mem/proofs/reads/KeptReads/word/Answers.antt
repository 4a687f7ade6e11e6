-- What is kept has its place.
use Rattle.std.proofs.Common.{ap, arith, ◌∙◌, ◌/◌, ◌%◌}
use Rattle.std.specs.Prelude.{Some}
use Rattle.m88_mem.proofs.Kept.{stands_there}
use Rattle.m88_mem.specs.DataBus.{image_bus}
use Rattle.m88_mem.specs.Inside.Reads.{AreReads}
use Rattle.m88_mem.proofs.reads.KeptReads.word.Goals as goal

pub returns-then-read-addr : goal.returns-then-read-addr
returns-then-read-addr c = λ image are.
    let here : AreReads image c.self.inside.reads.items = rw c.self.view_is are in
    here (c.args.addr / 4 % 1024) c.in_ok-read.read
    (stands_there c.self.inside.reads.items (c.args.addr / 4 % 1024) c.index.result.now (omega (arith, c.self.invariant)) c.index.ensures
    ∙ ap Some c.in_ok-read.was)
    ∙ ap (image_bus image) c.if-read-addr.true
