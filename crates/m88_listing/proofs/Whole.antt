-- The whole text of a listing.
use Rattle.std.proofs.Common.{◌≡◌, ℕ, ◌<◌, ◌≤◌, List, ◌++◌, false, length, length-append, take, drop, ap, sym, ◌∙◌, subst, arith}
use Rattle.std.specs.Prelude.{codes}
use Rattle.std.proofs.lemmas.Bool.{ltb-false}
use Rattle.std.proofs.lemmas.List.{append-nil}
use Rattle.m88_base.specs.Image.{ProgramImage, byte_at, most_bytes}
use Rattle.m88_base.specs.Lines.{line_end, lines_of, text_of_lines}
use Rattle.m88_base.specs.Refusal.{Refusal}
use Rattle.m88_base.specs.Refused.{refused_line}
use Rattle.m88_parse.specs.Language.Units.{IsUnit}
use Rattle.m88_parse.specs.declared.unit.Unit.{Unit as Source}
use Rattle.m88_link.proofs.Laws.{too_large_is}
use Rattle.m88_link.specs.Refusal.{is_too_large}
use Rattle.m88_link.specs.Sizes.{total_size}
use Rattle.m88_link.specs.declared.object.Object.{Object}
use Rattle.m88_asm.proofs.Laws.{extents_law, modules_sound}
use Rattle.m88_asm.specs.Accepted.{IsAcceptedUnit}
use Rattle.m88_asm.specs.Faults.{IsAssembled}
use Rattle.m88_asm.specs.Images.{IsUnitImage, unit_start}
use Rattle.m88_asm.specs.Objects.{objects_of}
use Rattle.m88_asm.specs.Units.{based, unit_layout}
use Rattle.m88_listing.specs.Answer.{ListsRefused}
use Rattle.m88_listing.specs.Entries.{numbers_of}
use Rattle.m88_listing.specs.Listing.{entry_lines, listing_lines}
use Rattle.m88_listing.specs.Refused.{line_at, mark_line, refused_text, text_with}
use Rattle.m88_listing.specs.Rows.{Row, numbered_lines, rows_of_unit, source_lines}
use Rattle.m88_listing.specs.Sums.{sum_line, sum_lines}
use Rattle.m88_listing.specs.Inside.Slots.{slots_of, walked}
use Rattle.m88_listing.specs.declared.entries.Entry.{Entry}
use Rattle.m88_listing.specs.declared.slots.Slot.{Slot}
use Rattle.m88_listing.proofs.Climbing.{climbs, unit_climbs, walked_lines}
use Rattle.m88_listing.proofs.Fitting.{unit_kept}
use Rattle.m88_listing.proofs.Texts.{text_append}

-- the objects of a unit that isn't too large have no more bytes than an image may have
pub size_low : (u : Source) → IsAssembled u → is_too_large (unit_layout u).extents ≡ false → total_size (objects_of u) ≤ most_bytes
size_low u clean fits =
    ltb-false most_bytes (total_size (objects_of u))
    (sym (too_large_is (objects_of u) (modules_sound u.modules clean)) ∙ ap is_too_large (extents_law u) ∙ fits)

pub size_fits : (u : Source) → IsAcceptedUnit u → total_size (objects_of u) ≤ most_bytes
size_fits u accepted = size_low u accepted.assembled accepted.linkable.fits

-- the parts of a listing are the listing
pub listing_whole : (source t1 t2 t3 t4 : List ℕ) (u : Source) (image : ProgramImage) (slots : List Slot) (labels numbers : List Entry)
    (objects : List Object) → IsUnit source u → IsAcceptedUnit u → IsUnitImage u image → slots ≡ slots_of (based u) → numbers ≡ numbers_of u
    → t1 ≡ text_of_lines (walked (byte_at image) 1 (lines_of source) slots)
    → t2 ≡ t1 ++ text_of_lines (entry_lines (codes "labels") labels)
    → t3 ≡ t2 ++ text_of_lines (entry_lines (codes "numbers") numbers)
    → objects ≡ objects_of u → t4 ≡ t3 ++ (line_end ++ (sum_line objects image.start ++ line_end))
    → t4 ≡ text_of_lines (listing_lines source u labels)
listing_whole source t1 t2 t3 t4 u image slots labels numbers objects is accepted own kept named e1 e2 e3 made e4 =
    let found = byte_at image in
    let ss = slots_of (based u) in
    let a = source_lines (rows_of_unit u) source in
    let b = entry_lines (codes "labels") labels in
    let c = entry_lines (codes "numbers") (numbers_of u) in
    let lines : walked found 1 (lines_of source) slots ≡ a =
    ap (walked found 1 (lines_of source)) kept ∙ walked_lines found source ss (climbs _ _ ss (unit_climbs source u is))
    ∙ ap (λ rows. source_lines rows source) (sym (unit_kept u found accepted.linkable.disjoint own.bytes)) in
    let before : t3 ≡ text_of_lines ((a ++ b) ++ c) =
    e3 ∙ ap (λ ns. t2 ++ text_of_lines (entry_lines (codes "numbers") ns)) named
    ∙ ap (λ t. t ++ text_of_lines c) (e2 ∙ ap (λ t. t ++ text_of_lines b) (e1 ∙ ap text_of_lines lines) ∙ sym (text_append a b))
    ∙ sym (text_append (a ++ b) c) in
    let sums : sum_line objects image.start ≡ sum_line (objects_of u) (unit_start u) = ap (λ os. sum_line os image.start) made ∙ ap (sum_line (objects_of u)) own.start in
    e4 ∙ ap (λ s. t3 ++ (line_end ++ (s ++ line_end))) sums ∙ ap (λ t. t ++ (line_end ++ (sum_line (objects_of u) (unit_start u) ++ line_end))) before
    ∙ ap (λ t. text_of_lines ((a ++ b) ++ c) ++ (line_end ++ t)) (sym (append-nil (sum_line (objects_of u) (unit_start u) ++ line_end)))
    ∙ sym (text_append ((a ++ b) ++ c) (sum_lines u))

-- a text that refuses a source has bytes
pub refusal_some : (rows : List Row) (source : List ℕ) (r : Refusal) → 0 < length (refused_text rows source r)
refusal_some rows source r =
    let a = text_with rows (take r.line (numbered_lines source)) in
    let mark = mark_line r.column (line_at source r.line) in
    let told = refused_line r.line r.column r.reason in
    omega (
      arith,
      length-append mark line_end,
      length-append a (mark ++ line_end),
      length-append (a ++ (mark ++ line_end)) told,
      length-append ((a ++ (mark ++ line_end)) ++ told) (text_with rows (drop r.line (numbered_lines source))),
    )

pub text_some : (source text : List ℕ) → ListsRefused source text → 0 < length text
text_some source text h = subst (λ (t : List ℕ). 0 < length t) (sym h.is_text) (refusal_some h.rows source h.refusal)
