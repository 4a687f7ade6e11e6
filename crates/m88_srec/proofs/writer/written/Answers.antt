-- The header, the parts and the end are the whole text.
use Rattle.m88_srec.proofs.Cutting.{whole_text}
use Rattle.m88_srec.proofs.writer.written.Goals as goal

pub returns-clause-text : goal.returns-clause-text
returns-clause-text c =
    whole_text c.args.image.now c.start.result _ _ _ _ c.start.ensures c.new-text.ensures.items c.in_ok-push_header.ensures c.in_ok-push_parts.ensures.text c.in_ok-push_end.ensures
