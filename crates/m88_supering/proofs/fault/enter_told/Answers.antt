-- The text of the entry answers the input, and so does the line that refuses it.
use Rattle.std.proofs.Common.{◌≡◌, inl, inr}
use Rattle.m88_asm.proofs.Laws.{accepted_source}
use Rattle.m88_asm.specs.Held.{HoldsUnit}
use Rattle.m88_entries.specs.Left.{fault_text}
use Rattle.m88_entries.specs.Told.{Told}
use Rattle.m88_entries.specs.ToldFaults.{told_by}
use Rattle.m88_supering.specs.Answer.{IsEntryText}
use Rattle.m88_supering.specs.Inputs.{Parts}
use Rattle.m88_supering.specs.declared.request.Request.TheVariants.{Fault}
use Rattle.m88_supering.proofs.Entered.{holds_of_source}
use Rattle.m88_supering.proofs.Verdicts.{refused_reply}
use Rattle.m88_supering.proofs.fault.enter_told.Goals as goal

pub returns-in-Err-Refused : goal.returns-in-Err-Refused
returns-in-Err-Refused c =
    refused_reply (Fault c.args.steps) c.args.input.now c.in_ok-refusal_of-in-Err-Refused.field-0 c.refuse-in-Err-Refused-2.result
    (inr (inl (record {
      parts = record { before = c.in-Ok.parted.before.now; lines = c.in-Ok.parted.lines; source = c.in-Ok.parted.behind.now };
      are_parts = c.in-Ok.ensures.parted;
      fault = c.in-Err-Refused.fault;
      is_fault = rw c.in-Err-Refused.field-0-is at c.in-Err-Refused.ensures.refused;
      refusal = rw c.in-Err-Refused.field-0-is at c.in_ok-refusal_of-in-Err-Refused.ensures;
    })))
    c.refuse-in-Err-Refused-2.ensures

pub returns-in-Err-2 : goal.returns-in-Err-2
returns-in-Err-2 c =
    refused_reply (Fault c.args.steps) c.args.input.now c.in-Err-2.refusal c.refuse-in-Err-2.result
    (inr (inr (record {
      parts = record { before = c.in-Ok.parted.before.now; lines = c.in-Ok.parted.lines; source = c.in-Ok.parted.behind.now };
      are_parts = c.in-Ok.ensures.parted;
      told = told_by c.in-Ok-told_fault.told;
      is_told = c.in-Ok-told_fault.ensures.ok;
      is_refused = rw c.in-Err-2.is at c.in_ok-image.ensures;
    })))
    c.refuse-in-Err-2.ensures

pub returns : goal.returns
returns c =
    let told : Told = told_by c.in-Ok-told_fault.told in
    let parts : Parts =
    record { before = c.in-Ok.parted.before.now; lines = c.in-Ok.parted.lines; source = c.in-Ok.parted.behind.now } in
    let holds : HoldsUnit parts.source c.in-Ok-2.image = rw c.in-Ok-2.is at c.in_ok-image.ensures in
    let made : IsEntryText c.args.steps c.args.input.now c.in_ok-text.text.items = record {
      told = told;
      tells = record {
        parts = parts;
        are_parts = c.in-Ok.ensures.parted;
        is_told = c.in-Ok-told_fault.ensures.ok;
        is_program = accepted_source parts.source c.in-Ok-2.image holds;
      };
      is_text = holds_of_source parts.source c.in-Ok-2.image (λ p. c.in_ok-text.text.items ≡ fault_text p c.args.steps told) holds
          c.in_ok-text.ensures;
    } in
    rw c.accept.ensures (made, tt)
