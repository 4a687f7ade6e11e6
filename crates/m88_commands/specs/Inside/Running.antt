-- Runs of the program that an image holds.
use Rattle.std.specs.Prelude.{◌≡◌, List, Option, None, Result}
use Rattle.m88_base.specs.Image.{ProgramImage}
use Rattle.m88_base.specs.declared.reply.Reply.{Reply}
use Rattle.m88_board.specs.declared.glance.Glance.{Glance}
use Rattle.m88_event.specs.Run.{IsOutcome}
use Rattle.m88_event.specs.declared.outcome.Outcome.{Outcome}
use Rattle.m88_isa.specs.Machine.{Program}
use Rattle.m88_report.specs.Report.{report_of}
use Rattle.m88_session.specs.Running.{GoesAlong}
use Rattle.m88_session.specs.Settings.{Settings, run_by}
use Rattle.m88_commands.specs.Inside.Fronts.{SawFront, SawRun}

-- a run comes to an outcome of which something is told
pub record TellsOutcome {T : Type 0} (IsTold : T → Outcome → Type 0) (s : Settings) (x : T) (p : Program) : Type 0 where
  pub outcome : Outcome
  pub is_outcome : IsOutcome (run_by p s) outcome
  pub is_told : IsTold x outcome

-- the program of an image is run: what its run comes to is told, and a watch was shown the run
abbrev pub RunsImage : {T E : Type 0} → ProgramImage → Settings → (before after : Option (List Glance))
    → (T → Outcome → Type 0) → Result T E → Type 0
RunsImage image s before after IsTold result =
    GoesAlong image s (λ x p. TellsOutcome IsTold s x p × SawRun p s before after)
    (λ p. SawFront p s before after) result

-- a reply accepts its input, with the report of the outcome
abbrev pub Reports : Reply → Outcome → Type 0
Reports reply o = (reply.refused ≡ None) × (reply.text.items ≡ report_of o)
