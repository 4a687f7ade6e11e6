-- An input has one session: one script, one program of the source behind it, and one text.
use Rattle.std.proofs.Common.{◌≡◌, ℕ, List, [], ◌∷◌, Option, ap, inl, refl, sym, ◌∙◌, subst, arith}
use Rattle.m88_base.specs.Image.{IsImage, ProgramImage}
use Rattle.m88_isa.specs.Machine.{Program}
use Rattle.m88_board.specs.declared.glance.Glance.{Glance}
use Rattle.m88_asm.specs.Held.{HoldsUnit}
use Rattle.m88_session.specs.Inside.Fronts.{IsSessionFront}
use Rattle.m88_session.specs.Monitoring.{IsMonitorInput}
use Rattle.m88_session.specs.MonitorText.{IsFrontOfSession, IsInputSession, IsShownSession, Scripted}
use Rattle.m88_asm.specs.Sources.{IsSourceProgram}
use Rattle.m88_session.specs.Running.{OfImage}
use Rattle.m88_session.specs.Inside.SessionKept.{ShowsFront, TellsSession}
use Rattle.m88_session.specs.Script.{IsScript, ScriptParts}
use Rattle.m88_session.specs.Session.{IsSession, Session, moments_of, opening_session}
use Rattle.m88_session.specs.Settings.{Settings, run_by}
use Rattle.m88_session.specs.declared.script.MonitorCommand.{MonitorCommand}
use Rattle.m88_isa.proofs.Laws.{program_of_image}
use Rattle.m88_session.proofs.Carrying.{one_session}
use Rattle.m88_session.proofs.Ends.{opens_sound}
use Rattle.m88_session.proofs.SessionEnds.{session_goes_on}
use Rattle.m88_asm.proofs.Laws.{Held, accepted_source, held_by, one_source_program}
use Rattle.m88_session.proofs.Unmade.{no_glance}
use Rattle.m88_session.proofs.Scripts.{one_script}
use Rattle.m88_event.specs.Timeline.{Run}

-- the session of another script and program is that of these
moved : (s : Settings) (cs ds : List MonitorCommand) (p q : Program) (text : List ℕ) (glances : List Glance)
    → cs ≡ ds → p ≡ q → IsSession (run_by p s) cs opening_session text glances
    → IsSession (run_by q s) ds opening_session text glances
moved s cs ds p q text glances e f h =
    subst (λ r. IsSession (run_by r s) ds opening_session text glances) f
    (subst (λ xs. IsSession (run_by p s) xs opening_session text glances) e h)

pub one_session_text : (input : List ℕ) (s : Settings) (a b : List ℕ) (glances others : List Glance)
    → IsInputSession input s a glances → IsInputSession input s b others → a ≡ b
one_session_text input s a b glances others x y =
    let xs = x.scripted in
    let ys = y.scripted in
    let script = one_script input (record { commands = x.commands; lines = xs.lines; source = xs.source })
    (record { commands = y.commands; lines = ys.lines; source = ys.source }) xs.is_script ys.is_script in
    let commands = ap (λ (p : ScriptParts). p.commands) script in
    let program = one_source_program ys.source x.program y.program
    (subst (λ (p : ScriptParts). IsSourceProgram p.source x.program) script xs.is_program) ys.is_program
    (xs.mode ∙ sym ys.mode) in
    (one_session (run_by y.program s) y.commands opening_session a b glances others
    (moved s x.commands y.commands x.program y.program a glances commands program x.is_session) y.is_session).0

-- before the first event nothing was seen
pub no_session_front : (c : Run) (commands : List MonitorCommand) (s : Session) → IsSessionFront c commands s []
no_session_front c [] s = refl
no_session_front c (command ∷ commands) s = inl (record {
  events = 0;
  each = λ k below. absurd (omega arith);
  glances_are = sym (no_glance c.program (moments_of c s command));
})

-- an input with a script and a source that an image holds is accepted
accepted_input : (input : List ℕ) (cs : List MonitorCommand) (n : ℕ) (source : List ℕ) (image : ProgramImage) → IsScript input cs n source
    → HoldsUnit source image → IsMonitorInput input
accepted_input input cs n source image is holds = record {
  parts = record { commands = cs; lines = n; source = source };
  is_script = is;
  is_program = accepted_source source image holds;
}

-- what a session over that image writes and shows is the session of the input
module _ (input : List ℕ) (s : Settings) (cs : List MonitorCommand) (n : ℕ) (source : List ℕ) (image : ProgramImage)
    (before after : Option (List Glance)) (is : IsScript input cs n source) (holds : HoldsUnit source image) (sound : IsImage image) where
  held : Held (IsSourceProgram source) s.mxm image
  held = held_by s.mxm source image holds sound

  scripted : Scripted input s.mxm cs held.program
  scripted = record { lines = n; source = source; is_script = is; is_program = held.is_such; mode = held.mode }

  pub shown_session : (text : List ℕ) → OfImage image s (TellsSession s cs before after text) → IsShownSession input s text before after
  shown_session text told =
      let own = told held.program held.of_image held.mode in
      record {
        accepted = accepted_input input cs n source image is holds;
        glances = own.glances;
        is_session = record { commands = cs; program = held.program; scripted = scripted; is_session = own.is_session };
        saw = own.saw;
      }

  -- and where it broke off, a front of that
  pub front_of_session : OfImage image s (ShowsFront s cs before after) → IsFrontOfSession input s before after
  front_of_session told =
      let own = told held.program held.of_image held.mode in
      let on = session_goes_on (run_by held.program s) (program_of_image image held.program sound held.of_image) cs opening_session
      own.glances (opens_sound (run_by held.program s)) own.is_front in
      record {
        accepted = accepted_input input cs n source image is holds;
        glances = own.glances;
        others = on.0;
        text = on.1;
        is_session = record { commands = cs; program = held.program; scripted = scripted; is_session = on.2 };
        saw = own.saw;
      }
