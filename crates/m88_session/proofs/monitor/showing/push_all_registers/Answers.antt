-- The registers and the carry are those of the moment.
use Rattle.std.proofs.Common.{ap, ap₂, append_assoc, ◌++◌, ◌∙◌}
use Rattle.m88_report.specs.Report.{carry_line, register_lines}
use Rattle.m88_session.specs.MonitorLines.{registers_text}
use Rattle.m88_session.proofs.monitor.showing.push_all_registers.Goals as goal

pub returns : goal.returns
unfolding registers_text
returns c = λ r m at.
    let old = c.args.text.now.items in
    c.in_ok-push_carry.ensures
    ∙ ap (λ front. front ++ carry_line c.carry.result) c.in_ok-push_registers.ensures
    ∙ append_assoc old (register_lines c.registers_of.result) (carry_line c.carry.result)
    ∙ ap₂ (λ registers carry. old ++ (register_lines registers ++ carry_line carry)) (c.registers_of.ensures.moment r m at)
    (c.carry.ensures.moment r m at)
