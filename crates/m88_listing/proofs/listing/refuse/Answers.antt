-- The text of the refusal lists the source, and the refusal is the source's.
use Rattle.std.proofs.Common.{◌≡◌, ◌∙◌, ℕ, List, ap, arith, map, subst, sym}
use Rattle.std.specs.Prelude.{string_bytes}
use Rattle.std.proofs.lemmas.Grind.{common_steps}
use Rattle.m88_base.specs.Image.{byte_at}
use Rattle.m88_base.specs.Refusal.{Refusal}
use Rattle.m88_asm.specs.Sources.{IsRefusedProgram}
use Rattle.m88_listing.specs.Refused.{refused_text}
use Rattle.m88_listing.specs.Rows.{Row}
use Rattle.m88_listing.specs.Inside.Slots.{kept_row}
use Rattle.m88_listing.proofs.Verdict.{refused_plainly}
use Rattle.m88_listing.proofs.listing.refuse.Goals as goal

pub returns : goal.returns
returns c = λ refused.
    let source = c.args.source.now in
    let rows : List Row = map (kept_row (byte_at c.args.image.now)) c.args.slots.now in
    let refusal : Refusal = record { line = c.args.line; column = c.args.column; reason = string_bytes c.args.reason } in
    let with_reason = λ (t : List ℕ). refused_text rows source (record { line = c.args.line; column = c.args.column; reason = t }) in
    let reason : c.as_bytes.result.now ≡ string_bytes c.args.reason = grind (arith, common_steps) in
    let told : c.new-refusal.result ≡ refusal = grind (arith, common_steps) in (
      record {
        refusal = refusal;
        rows = rows;
        refused = refused;
        is_text = (rw c.in_ok-text.ensures.items at c.in_ok-push_refusal.ensures) ∙ ap with_reason reason;
      },
      rw c.unshown.ensures (subst (IsRefusedProgram 0 source) (sym told) (refused_plainly source refusal rows refused)),
    )
