-- The text of an entry by a fault that was told.
use Rattle.std.specs.Prelude.{ℕ, ◌≡◌, false, List}
use Rattle.std.proofs.Common.{ap, subst, sym, ◌∙◌}
use Rattle.std.proofs.Math.Path.{fun_ext}
use Rattle.m88_asm.proofs.Laws.{accepted_source, source_program}
use Rattle.m88_asm.specs.Held.{HoldsUnit}
use Rattle.m88_asm.specs.Images.{IsUnitProgram}
use Rattle.m88_asm.specs.Sources.{HoldsOfProgram}
use Rattle.m88_base.specs.Image.{ProgramImage}
use Rattle.m88_entries.specs.Left.{entry_text, fault_of, fault_text}
use Rattle.m88_entries.specs.Told.{Told}
use Rattle.m88_handler.specs.Entering.{Faulted, entering}
use Rattle.m88_handler.specs.Handled.{handling_of}
use Rattle.m88_handler.specs.Judging.{IsEntry, came_of, judged}
use Rattle.m88_handler.specs.Machine.{Handling}
use Rattle.m88_handler.specs.declared.entering.Entry.{Entry}
use Rattle.m88_handler.specs.declared.remark.Remark.{Remark}
use Rattle.m88_isa.specs.ImageProgram.{IsProgramOf}
use Rattle.m88_isa.specs.Machine.{Program}
use Rattle.m88_parse.proofs.Laws.{one_source_verdict}
use Rattle.m88_parse.specs.declared.unit.Unit.{Unit as Source}

-- the text of an entry is that of its fault
pub text_by : (p : Program) (steps : ℕ) (t : Told) (f : Faulted) (entry : Entry) (text : List ℕ) → f ≡ fault_of t → IsEntry p steps f entry
    → text ≡ entry_text entry.remark f (entering p f) (handling_of entry.left) → text ≡ fault_text p steps t
unfolding fault_text
text_by p steps t f entry text of is e =
    e
    ∙ ap (λ (r : Remark). entry_text r f (entering p f) (handling_of entry.left)) is.went
    ∙ ap (λ (h : Handling). entry_text (judged (came_of p steps f) f) f (entering p f) h) is.left
    ∙ ap (λ (g : Faulted). entry_text (judged (came_of p steps g) g) g (entering p g) (came_of p steps g).1) of

-- what holds of each program that an image holds which holds the unit of a source holds of the source's program
pub holds_of_source : (source : List ℕ) (image : ProgramImage) (Holds : Program → Type 0) → HoldsUnit source image
    → ((p : Program) → IsProgramOf image p → Holds p) → HoldsOfProgram source Holds
holds_of_source source image Holds holds each =
    let own = source_program false source (accepted_source source image holds) in
    let same = (one_source_verdict source).one_value own.of_source.unit holds.unit own.of_source.is_unit holds.is_unit in
    let is : IsUnitProgram holds.unit own.program = subst (λ (u : Source). IsUnitProgram u own.program) same own.of_source.is_program in
    let of : IsProgramOf image own.program = record {
      start = is.start ∙ sym holds.is_image.start;
      bytes = fun_ext (λ a. is.bytes a ∙ sym (holds.is_image.bytes a));
      instructions = λ a. holds.instructions a (own.program.instruction a) (is.instructions a);
    } in
    record { program = own.program; of_source = own.of_source; mode = own.mode; holds = each own.program of }
