-- How many lines of its trace stand behind a source answers the input, and so does the line that refuses it.
use Rattle.std.proofs.Common.{◌≡◌, ◌+◌, ◌∙◌, ◌++◌, ap, arith, codes, inl, inr, subst, sym}
use Rattle.m88_asm.proofs.Laws.{accepted_source, holds_by_image}
use Rattle.m88_asm.specs.Held.{HoldsUnit}
use Rattle.m88_asm.specs.Sources.{HoldsOfProgram}
use Rattle.m88_report.specs.Report.{count_line}
use Rattle.m88_trace.specs.Texts.{FaultOf, IsText}
use Rattle.m88_trace.specs.Trace.{trace_line}
use Rattle.m88_trace.specs.declared.fault.TraceFault.TheVariants.{Differs}
use Rattle.m88_commands.specs.Answer.{Refuses}
use Rattle.m88_commands.specs.Command.{check}
use Rattle.m88_commands.specs.TracedSources.{DiffersFromTrace, HasTrace, TraceParts, differs_refusal}
use Rattle.m88_commands.proofs.Refusing.{refused_reply}
use Rattle.m88_commands.proofs.commands.traces.check_source.Goals as goal

pub returns-in-Err-2 : goal.returns-in-Err-2
returns-in-Err-2 c =
    refused_reply check c.args.input.now c.in-Err-2.refusal c.refuse-in-Err-2.result
    (inr (inl (record {
      parts = record { source = c.in-Ok.parted.before.now; lines = c.in-Ok.parted.lines; text = c.in-Ok.parted.behind.now };
      are_parts = c.in-Ok.ensures.parted;
      is_refused = rw c.in-Err-2.is at c.in_ok-image.ensures;
    })))
    c.refuse-in-Err-2.ensures

pub returns-in-Ok-check_trace : goal.returns-in-Ok-check_trace
returns-in-Ok-check_trace c =
    let p = c.check_trace.ensures.program in
    let n = c.in-Ok-check_trace.lines in
    let told : c.push_count.new.text.items ≡ count_line (codes "ok") n =
    c.in_ok-push_count-in-Ok-check_trace.ensures
    ∙ ap (λ bytes. bytes ++ count_line (codes "ok") c.from.result) c.new-text.ensures.items
    ∙ ap (count_line (codes "ok")) c.from.ensures in
    let parts : TraceParts =
    record { source = c.in-Ok.parted.before.now; lines = c.in-Ok.parted.lines; text = c.in-Ok.parted.behind.now } in
    let holds : HoldsUnit parts.source c.in-Ok-2.image = rw c.in-Ok-2.is at c.in_ok-image.ensures in
    let begins : HoldsOfProgram parts.source (λ q. IsText (trace_line q) parts.text n) =
    holds_by_image parts.source c.in-Ok-2.image p.0 _ holds p.1 c.in-Ok-check_trace.ensures.ok in
    let has : HasTrace c.args.input.now n = record {
      parts = parts;
      are_parts = c.in-Ok.ensures.parted;
      is_program = accepted_source parts.source c.in-Ok-2.image holds;
      begins = begins;
    } in
    rw c.accept.ensures (record { accepted = (n, has); output = (n, has, told) })

pub returns-in-Err-Differs : goal.returns-in-Err-Differs
returns-in-Err-Differs c =
    let p = c.check_trace.ensures.program in
    let parts : TraceParts =
    record { source = c.in-Ok.parted.before.now; lines = c.in-Ok.parted.lines; text = c.in-Ok.parted.behind.now } in
    let holds : HoldsUnit parts.source c.in-Ok-2.image = rw c.in-Ok-2.is at c.in_ok-image.ensures in
    let line = c.in-Err-Differs.line in
    let fault : HoldsOfProgram parts.source (λ q. FaultOf (trace_line q) parts.text (Differs line)) =
    holds_by_image parts.source c.in-Ok-2.image p.0 _ holds p.1 (λ q of mode.
    subst (FaultOf (trace_line q) parts.text) c.in-Err-Differs.field-0-is (c.in-Err-Differs.ensures.fault q of mode)) in
    let place : parts.lines + line ≡ parts.lines + fault.holds.0 + 1 = (let e = fault.holds.1 in omega (arith, e)) in
    let late : DiffersFromTrace c.args.input.now (differs_refusal (parts.lines + line)) = record {
      parts = parts;
      are_parts = c.in-Ok.ensures.parted;
      is_program = accepted_source parts.source c.in-Ok-2.image holds;
      before = fault.holds.0;
      leaves = record { program = fault.program; of_source = fault.of_source; mode = fault.mode; holds = fault.holds.2 };
      refusal = ap differs_refusal place;
    } in
    refused_reply check c.args.input.now c.in_ok-differs-in-Err-Differs.field-0 c.refuse-in-Err-Differs-2.result
    (subst (Refuses check c.args.input.now) (sym c.in_ok-differs-in-Err-Differs.ensures) (inr (inr late)))
    c.refuse-in-Err-Differs-2.ensures
