-- A source and the S-records that `build` writes of it have one program, so they run alike.
use Rattle.std.proofs.Common.{ℕ, Bool, List, refl, sym, subst}
use Rattle.m88_base.specs.Image.{ProgramImage}
use Rattle.m88_isa.specs.Machine.{Program}
use Rattle.m88_asm.proofs.Laws.{Held, held_by, holds_unit}
use Rattle.m88_srec.proofs.Laws.{image_is_accepted}
use Rattle.m88_srec.specs.Accepted.{IsAccepted, whole_of}
use Rattle.m88_report.specs.Report.{report_of}
use Rattle.m88_commands.specs.Answer.{IsAnswerToAccepted}
use Rattle.m88_commands.specs.Bridge.{BuiltRunsAlike, FitsInput}
use Rattle.m88_commands.specs.Command.{build}
use Rattle.m88_commands.specs.Answer.Runs.{IsLoadedProgram, IsReport}
use Rattle.m88_asm.specs.Sources.{IsSourceProgram}
use Rattle.m88_session.specs.Settings.{Settings}
use Rattle.m88_commands.proofs.OneText.Linked.{readable}
use Rattle.m88_commands.proofs.Programs.{one_loaded_program}

-- the image that records hold, and its program in each mode, which is the source's
record Built (source records : List ℕ) : Type 0 where
  image : ProgramImage
  written : IsAccepted records (whole_of image)
  held : (mxm : Bool) → Held (IsSourceProgram source) mxm image

built : (source records : List ℕ) → FitsInput source → IsAnswerToAccepted build source records → Built source records
built source records short answer =
    let own = answer.output.of_source in
    let image = answer.output.image in
    record {
      image = image;
      written = image_is_accepted image records own.is_image.is_image answer.output.is_text;
      held = λ mxm. held_by mxm source image
          (holds_unit source image (readable source short) answer.accepted own) own.is_image.is_image;
    }

loaded : (source records : List ℕ) (b : Built source records) (mxm : Bool) → IsLoadedProgram records (b.held mxm).program
loaded source records b mxm = record { image = b.image; is_written = b.written; is_program = (b.held mxm).of_image }

-- a program of the one is a program of the other
to_loaded : (source records : List ℕ) → Built source records → (p : Program) → IsSourceProgram source p
    → IsLoadedProgram records p
to_loaded source records b p is =
    let own = b.held p.mxm in
    subst (IsLoadedProgram records) (sym (own.only p is refl))
    (loaded source records b p.mxm)

from_loaded : (source records : List ℕ) → Built source records → (p : Program) → IsLoadedProgram records p
    → IsSourceProgram source p
from_loaded source records b p is =
    let own = b.held p.mxm in
    subst (IsSourceProgram source)
    (sym (one_loaded_program records p own.program is (loaded source records b p.mxm) (sym own.mode))) own.is_such

-- the report of a program is that of one that is such too
report_by : (A B : Program → Type 0) (s : Settings) (text : List ℕ) → ((p : Program) → A p → B p) → IsReport report_of A s text
    → IsReport report_of B s text
report_by A B s text to r = record {
  program = r.program;
  is_such = to r.program r.is_such;
  mode = r.mode;
  outcome = r.outcome;
  is_outcome = r.is_outcome;
  is_text = r.is_text;
}

-- what `build` writes runs as its source does
pub built_runs_alike : BuiltRunsAlike
built_runs_alike source records short answer =
    let b = built source records short answer in
    let to = to_loaded source records b in
    let from = from_loaded source records b in
    record {
      programs = λ p. (to p, from p);
      reports = λ s report. (
        λ h. record {
          accepted = (whole_of b.image, b.written);
          output = report_by (IsSourceProgram source)
              (IsLoadedProgram records) s report to h.output;
        },
        λ h. record {
          accepted = answer.accepted;
          output = report_by (IsLoadedProgram records)
              (IsSourceProgram source) s report from h.output;
        },
      );
      shows = λ s glances. (
        λ h. (h.0, to h.0 h.1, h.2),
        λ h. (h.0, from h.0 h.1, h.2),
      );
    }
