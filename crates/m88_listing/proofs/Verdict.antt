-- A source has one text that lists it.
use Rattle.std.proofs.Common.{◌≡◌, ℕ, List, inl, inr, arith, sym, ap, ◌∙◌, subst}
use Rattle.m88_base.proofs.Laws.{AreVerdicts}
use Rattle.m88_base.specs.Refusal.{Refusal}
use Rattle.m88_base.specs.Lines.{text_of_lines}
use Rattle.m88_parse.proofs.Laws.{one_source_verdict}
use Rattle.m88_parse.specs.declared.unit.Unit.{Unit as Source}
use Rattle.m88_link.proofs.Laws.{one_refusal}
use Rattle.m88_link.specs.Refusal.{IsRefused}
use Rattle.m88_link.specs.declared.fault.LinkFault.{LinkFault}
use Rattle.m88_link.specs.declared.fault.LinkKind.{LinkKind}
use Rattle.m88_asm.proofs.Laws.{not_linked, one_assembly_verdict, same_program_refusal}
use Rattle.m88_asm.specs.Sources.{IsAssemblySource, IsRefusedProgram, IsUnlinked, asm_kind_behind, link_kind_behind}
use Rattle.m88_asm.specs.Units.{unit_layout}
use Rattle.m88_asm.specs.declared.fault.AsmKind.{AsmKind}
use Rattle.m88_listing.specs.Answer.{IsRefusedWith, Lists, ListsRefused}
use Rattle.m88_listing.specs.Entries.{AreInOrder, labels_of}
use Rattle.m88_listing.specs.Listing.{ListsAccepted, listing_lines}
use Rattle.m88_listing.specs.Refused.{refused_text}
use Rattle.m88_listing.specs.Rows.{Row}
use Rattle.m88_listing.specs.Settled.{unlinked_rows}
use Rattle.m88_listing.specs.declared.entries.Entry.{Entry}
use Rattle.m88_listing.proofs.Ordered.{ordered_once}

-- behind no lines it is told as it is why a source can't be laid out or linked
pub asm_told : (kind : AsmKind) → asm_kind_behind 0 kind ≡ kind
asm_told kind = grind arith

pub link_told : (kind : LinkKind) → link_kind_behind 0 kind ≡ kind
link_told kind = grind arith

-- a source that is accepted has one listing
one_listing : (source a b : List ℕ) → ListsAccepted source a → ListsAccepted source b → a ≡ b
one_listing source a b x y =
    let x_unit = x.accepted.unit in
    let y_unit = y.accepted.unit in
    let same : x_unit ≡ y_unit = (one_source_verdict source).one_value x_unit y_unit x.accepted.is_unit y.accepted.is_unit in
    let labels : x.labels ≡ y.labels =
    ordered_once (labels_of y_unit) x.labels y.labels (subst (λ (u : Source). AreInOrder (labels_of u) x.labels) same x.in_order) y.in_order in
    x.is_text ∙ ap (λ (u : Source). text_of_lines (listing_lines source u x.labels)) same
    ∙ ap (λ (es : List Entry). text_of_lines (listing_lines source y_unit es)) labels ∙ sym y.is_text

-- a source that is refused with rows is refused
pub refused_plainly : (source : List ℕ) (r : Refusal) (rows : List Row) → IsRefusedWith source r rows → IsRefusedProgram 0 source r
refused_plainly source r rows (inl h) = inl h.0
refused_plainly source r rows (inr h) = inr h.0

-- a source whose layout is refused can be assembled
assembled : (source : List ℕ) (r : Refusal) → IsUnlinked 0 source r → IsAssemblySource source
assembled source r h = record { unit = h.unit; is_unit = h.is_unit; is_assembled = h.is_assembled }

-- and its rows are the same
same_rows : (source : List ℕ) (r s : Refusal) (xs ys : List Row) → IsRefusedWith source r xs → IsRefusedWith source s ys → xs ≡ ys
same_rows source r s xs ys (inl a) (inl b) = a.1 ∙ sym b.1
same_rows source r s xs ys (inl a) (inr b) = absurd ((one_assembly_verdict 0 source).not_both tt r (assembled source s b.0) a.0)
same_rows source r s xs ys (inr a) (inl b) = absurd ((one_assembly_verdict 0 source).not_both tt s (assembled source r a.0) b.0)
same_rows source r s xs ys (inr a) (inr b) =
    let unit : a.0.unit ≡ b.0.unit = (one_source_verdict source).one_value a.0.unit b.0.unit a.0.is_unit b.0.is_unit in
    let fault : a.0.fault ≡ b.0.fault =
    one_refusal (unit_layout b.0.unit) a.0.fault b.0.fault (subst (λ (u : Source). IsRefused (unit_layout u) a.0.fault) unit a.0.is_refused) b.0.is_refused in
    a.1 ∙ ap (λ (u : Source). unlinked_rows u a.0.fault.kind) unit ∙ ap (λ (f : LinkFault). unlinked_rows b.0.unit f.kind) fault ∙ sym b.1

-- a source has one text that lists it
pub one_text : (source a b : List ℕ) → Lists source a → Lists source b → a ≡ b
one_text source a b (inl x) (inl y) = one_listing source a b x y
one_text source a b (inl x) (inr y) = absurd (not_linked 0 source y.refusal x.accepted (refused_plainly source y.refusal y.rows y.refused))
one_text source a b (inr x) (inl y) = absurd (not_linked 0 source x.refusal y.accepted (refused_plainly source x.refusal x.rows x.refused))
one_text source a b (inr x) (inr y) =
    let plain = same_program_refusal 0 source x.refusal y.refusal (refused_plainly source x.refusal x.rows x.refused) (refused_plainly source y.refusal y.rows y.refused) in
    x.is_text ∙ ap (refused_text x.rows source) plain
    ∙ ap (λ (rows : List Row). refused_text rows source y.refusal) (same_rows source x.refusal y.refusal x.rows y.rows x.refused y.refused) ∙ sym y.is_text

-- a source isn't accepted and refused, and one that is refused has one text
pub list_verdicts : AreVerdicts ListsAccepted ListsRefused
list_verdicts = record {
  not_both = λ source a b accepted refused.
      not_linked 0 source refused.refusal accepted.accepted (refused_plainly source refused.refusal refused.rows refused.refused);
  one_refusal = λ source a b x y. one_text source a b (inr x) (inr y);
}
