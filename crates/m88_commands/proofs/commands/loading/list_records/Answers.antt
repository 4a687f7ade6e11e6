-- The listing of the image answers the records, and so does the line that refuses them.
use Rattle.std.proofs.Common.{arith, subst}
use Rattle.m88_base.proofs.Laws.{few_parts}
use Rattle.m88_srec.specs.Accepted.{whole_of}
use Rattle.m88_srec.specs.Refused.{AreRecordsOf}
use Rattle.m88_commands.specs.Command.{dis}
use Rattle.m88_commands.proofs.Refusing.{refused_reply}
use Rattle.m88_commands.proofs.commands.loading.list_records.Goals as goal

pub returns-in-Err : goal.returns-in-Err
returns-in-Err c = λ text are.
    let first = subst (λ records. AreRecordsOf records text) c.in-Err.is are in
    refused_reply dis text c.in-Err.refusal c.refuse.result first c.refuse.ensures

pub returns : goal.returns
returns c = λ text are.
    let written = subst (λ records. AreRecordsOf records text) c.in-Ok.is are in
    rw c.accept.ensures (record {
      accepted = (whole_of c.in-Ok.image, written);
      output = record {
        image = c.in-Ok.image;
        is_image = c.part_count.ensures.image;
        is_written = written;
        is_listing = c.in_ok-text.ensures.value;
      };
    })

-- each part has a byte
pub prove-unreachable-requires : goal.prove-unreachable-requires
prove-unreachable-requires c =
    let few = few_parts _ c.part_count.ensures.image in
    absurd (omega (arith, few, c.if-prove.true, c.part_count.ensures.value, c.len.ensures.value))
