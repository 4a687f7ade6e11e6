-- One byte line more, and no byte is left behind the last one.
use Rattle.std.proofs.Common.{◌∙◌}
use Rattle.m88_link.proofs.Chunks.{all_lines, one_line_more}
use Rattle.m88_link.proofs.text.push_byte_lines.Goals as goal

pub loop-line-preserved : goal.loop-line-preserved
loop-line-preserved c =
    let steps = c.in-Some.ensures.steps in
    let size = rw c.loop-line.invariant.size at steps.1.1 in
    record {
      size = steps.0 ∙ c.loop-line.invariant.size;
      left = one_line_more _ _ _ _ _ _ steps.1.0 size steps.1.2 c.in_ok-push_byte_line.ensures c.loop-line.invariant.left;
    }

pub returns-clause-text : goal.returns-clause-text
returns-clause-text c = all_lines _ _ _ c.in-None.ensures.steps.1.0 c.loop-line.invariant.left
