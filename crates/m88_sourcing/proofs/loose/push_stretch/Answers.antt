-- The label, and the lines of the bytes up to the next one.
use Rattle.std.proofs.Common.{◌∙◌, sym}
use Rattle.m88_sourcing.proofs.Cutting.{lines_where, stretch_front, stretch_of}
use Rattle.m88_sourcing.proofs.Told.{label_whole}
use Rattle.m88_sourcing.proofs.loose.push_stretch.Goals as goal

pub stretch_len-len-requires-clause-whole : goal.stretch_len-len-requires-clause-whole
stretch_len-len-requires-clause-whole c = λ a labelled.
    let o = c.requires.outlined in
    label_whole o.0 o.1.0 a ((o.1.1.labels a).0 labelled)

pub returns-clause-lines : goal.returns-clause-lines
returns-clause-lines c = λ image said is.
    stretch_front image said c.args.at c.stretch_len-len.result c.args.bytes.now c.args.text.now.items
    c.push_label_at.new.text.items c.push_data.new.text.items
    (stretch_of _ _ c.args.at c.args.bytes.now c.stretch_len-len.result is.labels c.stretch_len-len.ensures)
    (lines_where _ _ _ _ _
    (λ h. (is.labels c.args.at).0 (sym c.contains.ensures ∙ h), λ h. c.contains.ensures ∙ (is.labels c.args.at).1 h)
    c.in_ok-push_label_at.ensures)
    c.in_ok-push_data.ensures
