-- `link` of what `asm` writes of a source answers as `build` does of the source.
use Rattle.std.proofs.Common.{ℕ, List, subst}
use Rattle.m88_asm.proofs.Laws.{LinksAlike, links_alike}
use Rattle.m88_asm.specs.Faults.{IsAssembled}
use Rattle.m88_parse.proofs.Laws.{one_source_verdict}
use Rattle.m88_commands.specs.Answer.{IsAnswerToAccepted}
use Rattle.m88_commands.specs.Bridge.{AssembledLinksAlike, FitsInput}
use Rattle.m88_commands.specs.Command.{asm}
use Rattle.m88_commands.proofs.OneText.Linked.{readable}

-- the objects that `asm` writes link as the source does
alike : (source objects : List ℕ) → FitsInput source → IsAnswerToAccepted asm source objects → LinksAlike source objects
alike source objects short a =
    let o = a.output in
    links_alike source objects o.unit (readable source short) o.is_unit
    (subst IsAssembled ((one_source_verdict source).one_value a.accepted.unit o.unit a.accepted.is_unit o.is_unit) a.accepted.is_assembled)
    o.is_text

-- so the two commands answer alike
pub assembled_links_alike : AssembledLinksAlike
assembled_links_alike source objects short a =
    let l = alike source objects short a in
    record {
      records = λ text. (
        λ h. record {
          accepted = l.accepted.0 h.accepted;
          output = record {
            image = h.output.image;
            of_objects = (l.images h.output.image h.accepted).0 h.output.of_source;
            is_output = h.output.is_text;
          };
        },
        λ h. let accepted = l.accepted.1 h.accepted in record {
          accepted = accepted;
          output = record {
            image = h.output.image;
            of_source = (l.images h.output.image accepted).1 h.output.of_objects;
            is_text = h.output.is_output;
          };
        },
      );
      refusals = λ text. (
        λ h. record { refusal = h.refusal; refused = (l.refusals h.refusal).0 h.refused; line = h.line },
        λ h. record { refusal = h.refusal; refused = (l.refusals h.refusal).1 h.refused; line = h.line },
      );
    }
