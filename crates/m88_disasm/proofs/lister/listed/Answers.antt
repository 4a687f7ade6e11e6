-- The listing is short enough.
use Rattle.m88_disasm.proofs.Sizes.{short_text}
use Rattle.m88_disasm.proofs.lister.listed.Goals as goal

pub returns-clause-short : goal.returns-clause-short
returns-clause-short c =
    short_text c.args.image.now c.start.result _ _ _ c.in_ok-push_parts.ensures.image c.new-text.ensures.items
    c.in_ok-push_start.ensures c.in_ok-push_parts.ensures.room
