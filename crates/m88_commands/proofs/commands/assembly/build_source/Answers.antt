-- The records of the image answer the source, and so does the line that refuses it.
use Rattle.m88_asm.specs.Held.{HoldsUnit}
use Rattle.m88_commands.specs.Command.{build}
use Rattle.m88_commands.proofs.OneText.Linked.{recorded}
use Rattle.m88_commands.proofs.Refusing.{refused_reply}
use Rattle.m88_commands.proofs.commands.assembly.build_source.Goals as goal

pub returns-in-Err : goal.returns-in-Err
returns-in-Err c =
    refused_reply build c.args.source.now c.in-Err.refusal c.refuse.result
    (rw c.in-Err.is at c.in_ok-image.ensures)
    c.refuse.ensures

pub returns : goal.returns
returns c =
    let h : HoldsUnit c.args.source.now c.in-Ok.image = rw c.in-Ok.is at c.in_ok-image.ensures in
    rw c.accept.ensures (recorded c.args.source.now c.in_ok-text.text.items h.unit c.in-Ok.image h.is_unit h.is_accepted
    h.is_image c.in_ok-text.ensures.value)
