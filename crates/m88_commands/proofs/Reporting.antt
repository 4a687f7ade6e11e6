-- A run of the one program of an input comes to one outcome, and its report answers the input.
use Rattle.std.proofs.Common.{◌≡◌, ℕ, ◌+◌, Bool, List, [], Option, Result, Ok, Err, inr, refl, ap, sym, ◌∙◌, subst, arith}
use Rattle.std.specs.Prelude.{OnOk}
use Rattle.m88_base.specs.Image.{IsImage, ProgramImage}
use Rattle.m88_base.specs.declared.failing.NoMemory.{NoMemory}
use Rattle.m88_isa.specs.Machine.{Program}
use Rattle.m88_event.specs.Letters.{letter_at}
use Rattle.m88_event.specs.Run.{IsOutcome, moment_after, outcome_at}
use Rattle.m88_event.specs.Timeline.{Run, opening_moment}
use Rattle.m88_event.specs.declared.outcome.Outcome.{Outcome}
use Rattle.m88_board.proofs.Laws.{along_events, saw_none}
use Rattle.m88_board.specs.Glances.{Saw, glances_along}
use Rattle.m88_board.specs.declared.glance.Glance.{Glance}
use Rattle.m88_report.specs.Report.{report_of}
use Rattle.m88_asm.proofs.Laws.{Held, accepted_source, held_by}
use Rattle.m88_asm.specs.Held.{HoldsUnit}
use Rattle.m88_asm.specs.Sources.{IsSourceProgram}
use Rattle.m88_srec.specs.Accepted.{IsAccepted, whole_of}
use Rattle.m88_isa.proofs.Laws.{program_of_image}
use Rattle.m88_commands.proofs.RunEnds.{run_goes_on}
use Rattle.m88_session.proofs.Laws.{no_glance}
use Rattle.m88_commands.proofs.Programs.{records_held}
use Rattle.m88_commands.specs.Answer.{Accepts, IsAnswerToAccepted, IsOutput}
use Rattle.m88_commands.specs.Command.{Command, exec, run}
use Rattle.m88_commands.specs.Inside.Reply.{AnswersShown, WatchesFront}
use Rattle.m88_session.specs.Running.{OfImage}
use Rattle.m88_commands.specs.Inside.Running.{Reports, RunsImage, TellsOutcome}
use Rattle.m88_commands.specs.Answer.Runs.{IsLoadedProgram, IsReport}
use Rattle.m88_session.specs.Settings.{Settings, run_by}
use Rattle.m88_commands.specs.Inside.Fronts.{SawFront, SawRun}
use Rattle.m88_commands.specs.Watching.{FrontOfAccepted, Shown, ShowsGlances, ShowsRun}
use Rattle.m88_base.specs.declared.reply.Reply.{Reply}

-- an outcome has as many events as the run
pub outcome_counts : (r : Run) (o : Outcome) (is : IsOutcome r o) → o.events ≡ is.events
unfolding outcome_at
outcome_counts r o is =
    let made : (moment_after r is.events).events ≡ 0 + is.events = along_events r (letter_at r.schedule) opening_moment is.events in
    ap (λ (x : Outcome). x.events) is.value ∙ omega (arith, made)

-- what was seen of as many events as the outcome has was seen of the run
pub saw_run : (p : Program) (s : Settings) (before after : Option (List Glance)) (o : Outcome) → p.mxm ≡ s.mxm
    → IsOutcome (run_by p s) o → Saw before after (glances_along p (moment_after (run_by p s)) o.events) → SawRun p s before after
saw_run p s before after o mode is saw = (
  glances_along p (moment_after (run_by p s)) is.events,
  record { mode = mode; events = is.events; is_run = is.run; glances_are = refl },
  subst (λ k. Saw before after (glances_along p (moment_after (run_by p s)) k)) (outcome_counts (run_by p s) o is) saw,
)

-- and of its front
pub front_of_run : (p : Program) (s : Settings) (before after : Option (List Glance))
    → SawRun p s before after → SawFront p s before after
front_of_run p s before after (glances, whole, saw) = record {
  mode = whole.mode;
  events = whole.events;
  is_running = whole.is_run.first;
  saw = subst (λ shown. Saw before after shown) whole.glances_are saw;
}

-- before the first event nothing was seen
pub no_front : (p : Program) (s : Settings) (seen : Option (List Glance)) → p.mxm ≡ s.mxm → SawFront p s seen seen
no_front p s seen mode = record {
  mode = mode;
  events = 0;
  is_running = λ k below. absurd (omega arith);
  saw = subst (λ glances. Saw seen seen glances) (sym (no_glance p (moment_after (run_by p s)))) (saw_none seen);
}

-- the text is what is told of a run of the program of an image
abbrev pub TellsOf : (Outcome → List ℕ) → ProgramImage → Settings → List ℕ → Type 0
TellsOf told_of image s text = OfImage image s (TellsOutcome (λ told o. told ≡ told_of o) s text)

-- a command that accepts its input carries out the one program of that, which an image holds: what is told of its run
-- is what the command writes, and what it shows is what the command shows
pub record RunsBy (told_of : Outcome → List ℕ) (IsSuch : Program → Type 0) (command : Command) (input : List ℕ) (s : Settings)
    (image : ProgramImage) : Type 0 where
  pub accepted : Accepts command input
  pub held : Held IsSuch s.mxm image
  pub is_output : (text : List ℕ) → IsReport told_of IsSuch s text → IsOutput command input text
  pub shows : (p : Program) (glances : List Glance) → IsSuch p → ShowsRun p s glances → ShowsGlances command input glances
  pub is_image : IsImage image

module _ (told_of : Outcome → List ℕ) (IsSuch : Program → Type 0) (command : Command) (input : List ℕ) (s : Settings) (image : ProgramImage)
    (r : RunsBy told_of IsSuch command input s image) where
  -- so what is told answers the input
  pub run_answer : (text : List ℕ) → TellsOf told_of image s text → IsAnswerToAccepted command input text
  run_answer text tells =
      let h = r.held in
      let told = tells h.program h.of_image h.mode in
      record {
        accepted = r.accepted;
        output = r.is_output text (record {
          program = h.program;
          is_such = h.is_such;
          mode = h.mode;
          outcome = told.outcome;
          is_outcome = told.is_outcome;
          is_text = told.is_told;
        });
      }

  -- and a watch was shown all of the run, or a front
  pub run_shown : (before after : Option (List Glance)) → OfImage image s (λ p. SawRun p s before after)
      → Shown command input before after
  run_shown before after saw =
      let h = r.held in
      let seen = saw h.program h.of_image h.mode in (seen.0, r.shows h.program seen.0 h.is_such seen.1, seen.2)

  pub run_front : (before after : Option (List Glance)) → OfImage image s (λ p. SawFront p s before after)
      → FrontOfAccepted command input before after
  run_front before after saw =
      let h = r.held in
      let seen = saw h.program h.of_image h.mode in
      let on = run_goes_on h.program s before after (program_of_image image h.program r.is_image h.of_image) seen in
      record {
        accepted = r.accepted;
        glances = glances_along h.program (moment_after (run_by h.program s)) seen.events;
        others = on.0;
        shows = r.shows h.program _ h.is_such on.1;
        saw = seen.saw;
      }

-- so a reply with the report of a run answers the input
pub run_answers : (IsSuch : Program → Type 0) (command : Command) (input : List ℕ) (s : Settings) (image : ProgramImage)
    (r : RunsBy report_of IsSuch command input s image) {W : Type 0} (seen : W → Option (List Glance)) (old new : W)
    (result : Result Reply NoMemory) → RunsImage image s (seen old) (seen new) Reports result → AnswersShown seen old new command input result
run_answers IsSuch command input s image r seen old new (Err e) ran =
    record { reply = tt; watched = tt; front = inr (run_front report_of IsSuch command input s image r (seen old) (seen new) ran.front) }
run_answers IsSuch command input s image r seen old new (Ok reply) ran =
    let h = r.held in
    let accepted = (ran.made h.program h.of_image h.mode).0.is_told.0 in
    record {
      reply = rw accepted (run_answer report_of IsSuch command input s image r reply.text.items (λ p of mode.
          let own = (ran.made p of mode).0 in
          record { outcome = own.outcome; is_outcome = own.is_outcome; is_told = own.is_told.1 }));
      watched = rw accepted (run_shown report_of IsSuch command input s image r (seen old) (seen new) (λ p of mode. (ran.made p of mode).1));
      front = tt;
    }

-- `run` carries out the program of its source, and `exec` that of its records
pub runs_source : (source : List ℕ) (s : Settings) (image : ProgramImage) → HoldsUnit source image → IsImage image
    → RunsBy report_of (IsSourceProgram source) (run s) source s image
runs_source source s image unit is = record {
  accepted = accepted_source source image unit;
  held = held_by s.mxm source image unit is;
  is_output = λ text report. report;
  shows = λ p glances such run. (p, such, run);
  is_image = is;
}

pub runs_records : (text : List ℕ) (s : Settings) (image : ProgramImage) → IsAccepted text (whole_of image) → IsImage image
    → RunsBy report_of (IsLoadedProgram text) (exec s) text s image
runs_records text s image written is = record {
  accepted = (whole_of image, written);
  held = records_held s.mxm text image written is;
  is_output = λ text report. report;
  shows = λ p glances such run. (p, such, run);
  is_image = is;
}

-- where there is no reply
pub answers_none : {W E : Type 0} {seen : W → Option (List Glance)} {old new : W} {command : Command} {input : List ℕ} (r : Result Reply E)
    → OnOk r ⊥ → WatchesFront seen old new command input → AnswersShown seen old new command input r
answers_none (Ok reply) none front = absurd none
answers_none (Err e) none front = record { reply = tt; watched = tt; front = front }
