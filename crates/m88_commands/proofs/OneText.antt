-- A command writes one text for an input. What a command writes answers its input by a module of its own.
pub mod Linked
pub mod Listed
pub mod Paged
use Rattle.std.proofs.Common.{◌≡◌, ℕ, List, ap, codes, subst, sym, ◌∙◌}
use Rattle.m88_asm.proofs.Laws.{holds_of_same, one_image_of, one_list, one_source_image, one_source_program, same_programs}
use Rattle.m88_asm.specs.Objects.{objects_of}
use Rattle.m88_asm.specs.Several.{AreSourcePrograms, PlacedSource}
use Rattle.m88_asm.specs.Sources.{IsSourceProgram}
use Rattle.m88_disasm.proofs.Laws.{one_listing}
use Rattle.m88_disasm.specs.Listing.{IsImageListing}
use Rattle.m88_emul.proofs.Laws.{one_extended_outcome}
use Rattle.m88_event.proofs.Laws.{one_outcome}
use Rattle.m88_event.specs.Run.{IsOutcome}
use Rattle.m88_event.specs.declared.outcome.Outcome.{Outcome}
use Rattle.m88_isa.specs.Machine.{Program}
use Rattle.m88_link.specs.ObjectText.{objects_text}
use Rattle.m88_parse.proofs.Laws.{one_source_verdict}
use Rattle.m88_parse.specs.declared.unit.Unit.{Unit as Source}
use Rattle.m88_report.specs.Report.{count_line, report_of}
use Rattle.m88_srec.specs.Written.{srec_text}
use Rattle.m88_tasks.proofs.Laws.{shared_only}
use Rattle.m88_tasks.specs.Shared.{IsShared}
use Rattle.m88_commands.specs.Answer.{IsOutput}
use Rattle.m88_commands.specs.Command.{Command, run, exec, asm, link, build, dis, mon, soak, share, emu, page, trace, check}
use Rattle.m88_commands.specs.Answer.Emulation.{told_of_emulated}
use Rattle.m88_commands.specs.Answer.Paging.{told_of_paged}
use Rattle.m88_commands.specs.Answer.Runs.{IsLoadedProgram, IsReport, workload_settings}
use Rattle.m88_session.specs.Settings.{Settings, run_by}
use Rattle.m88_commands.specs.Answer.Sharing.{group_of, told_of_shared}
use Rattle.m88_commands.specs.Answer.Workload.{summary_of, workload_source}
use Rattle.m88_session.proofs.Laws.{one_session_text}
use Rattle.m88_commands.proofs.OneText.Listed.{one_written}
use Rattle.m88_commands.proofs.OneText.Paged.{one_paged}
use Rattle.m88_commands.proofs.Programs.{one_loaded_program}
use Rattle.m88_commands.proofs.TracedInputs.{one_trace}

-- what is told of the run of the one program in a mode is one text
one_report : (told_of : Outcome → List ℕ) (IsSuch : Program → Type 0) (s : Settings) (a b : List ℕ)
    → ((p q : Program) → IsSuch p → IsSuch q → p.mxm ≡ q.mxm → p ≡ q) → IsReport told_of IsSuch s a → IsReport told_of IsSuch s b → a ≡ b
one_report told_of IsSuch s a b one x y =
    let same = one x.program y.program x.is_such y.is_such (x.mode ∙ sym y.mode) in
    x.is_text
    ∙ ap told_of (one_outcome (run_by y.program s) x.outcome y.outcome
    (subst (λ q. IsOutcome (run_by q s) x.outcome) same x.is_outcome) y.is_outcome)
    ∙ sym y.is_text

pub one_text : (command : Command) (input a b : List ℕ) → IsOutput command input a → IsOutput command input b → a ≡ b
one_text (run s) input a b x y = one_report report_of (IsSourceProgram input) s a b (one_source_program input) x y
one_text (exec s) input a b x y = one_report report_of (IsLoadedProgram input) s a b (one_loaded_program input) x y
one_text asm input a b x y =
    x.is_text ∙ ap (λ (u : Source). objects_text (objects_of u)) ((one_source_verdict input).one_value x.unit y.unit x.is_unit y.is_unit)
    ∙ sym y.is_text
one_text link input a b x y =
    x.is_output ∙ ap srec_text (one_image_of input x.image y.image x.of_objects y.of_objects) ∙ sym y.is_output
one_text build input a b x y =
    x.is_text ∙ ap srec_text (one_source_image input x.image y.image x.of_source y.of_source) ∙ sym y.is_text
one_text dis input a b x y =
    let same = one_written input x.image y.image x.is_image y.is_image x.is_written y.is_written in
    one_listing y.image a b (subst (λ image. IsImageListing image a) same x.is_listing) y.is_listing
one_text (mon s) input a b x y = one_session_text input s a b x.0 y.0 x.1 y.1
one_text (soak number count) input a b x y =
    one_report (summary_of number count) (IsSourceProgram (workload_source number count)) (workload_settings number count) a b
    (one_source_program (workload_source number count)) x y
one_text (share limit absent schedule) input a b x y =
    let sources = one_list 0 input x.sources y.sources x.are_sources y.are_sources in
    let programs = same_programs y.sources x.programs y.programs
    (subst (λ (ss : List PlacedSource). AreSourcePrograms ss x.programs) sources x.are_programs) y.are_programs in
    x.is_text
    ∙ ap told_of_shared (shared_only (group_of y.programs limit absent) schedule x.shared y.shared
    (subst (λ (ps : List Program). IsShared (group_of ps limit absent) schedule x.shared) programs x.is_shared) y.is_shared)
    ∙ sym y.is_text
one_text (emu s) input a b x y =
    let own = holds_of_same input _ _ x y in
    own.2 ∙ ap told_of_emulated (one_extended_outcome (run_by y.program s) own.0 y.holds.0 own.1 y.holds.1) ∙ sym y.holds.2
one_text (page frames s) input a b x y =
    x.is_text ∙ ap (told_of_paged frames) (one_paged input frames s x.paged y.paged x.comes y.comes) ∙ sym y.is_text
one_text (trace s) input a b x y = let own = holds_of_same input _ _ x y in own.1 ∙ sym y.holds.1
one_text check input a b x y = x.2 ∙ ap (count_line (codes "ok")) (one_trace input x.0 y.0 x.1 y.1) ∙ sym y.2
