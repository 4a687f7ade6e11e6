-- The text of the objects answers the source, and so does the line that refuses it.
use Rattle.std.proofs.Common.{ap, ◌∙◌}
use Rattle.m88_link.specs.ObjectText.{objects_text}
use Rattle.m88_asm.specs.Sources.{AreSourceObjects}
use Rattle.m88_commands.specs.Command.{asm}
use Rattle.m88_commands.proofs.Refusing.{refused_reply}
use Rattle.m88_commands.proofs.commands.assembly.assemble_source.Goals as goal

pub returns-in-Err : goal.returns-in-Err
returns-in-Err c =
    refused_reply asm c.args.source.now c.in-Err.refusal c.refuse.result
    (rw c.in-Err.is at c.in_ok-objects.ensures.objects)
    c.refuse.ensures

pub returns : goal.returns
returns c =
    let own : AreSourceObjects c.args.source.now c.in-Ok.objects.items = rw c.in-Ok.is at c.in_ok-objects.ensures.objects in
    rw c.accept.ensures (record {
      accepted = record { unit = own.unit; is_unit = own.is_unit; is_assembled = own.is_assembled };
      output = record {
        unit = own.unit;
        is_unit = own.is_unit;
        is_text = c.in_ok-text.ensures.text ∙ ap objects_text (c.as_slice.ensures.value ∙ own.objects_are);
      };
    })
