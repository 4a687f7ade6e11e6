-- Every command of a session makes its events, so a front of a session goes on to its end.
use Rattle.std.specs.Prelude.{ℕ, Bool, true, List, [], ◌∷◌, ◌++◌, ◌≡◌}
use Rattle.std.proofs.Common.{append_assoc, append-nil, inl, inr, refl, sym, ap, ◌∙◌}
use Rattle.m88_event.specs.Run.{letters_from}
use Rattle.m88_event.specs.Timeline.{Moment, Run}
use Rattle.m88_event.specs.declared.letter.Letter.TheVariants.{Answer}
use Rattle.m88_isa.specs.Machine.{IsProgram, Program}
use Rattle.m88_board.specs.Walks.{is_halt, is_made}
use Rattle.m88_board.specs.declared.glance.Glance.{Glance}
use Rattle.m88_session.proofs.Ends.{IsSound, draining_ends, first_of, glances_go_on, no_later, sound_along, walk_ends}
use Rattle.m88_session.proofs.MonitorWalks.{or_true}
use Rattle.m88_session.specs.Inside.Fronts.{IsSessionFront}
use Rattle.m88_session.specs.Session.{IsSession, Makes, Session, after_command, glances_of, moment_on, moments_of, session_on, stops_command, stops_on, text_of_command}
use Rattle.m88_session.specs.declared.script.MonitorCommand.{MonitorCommand}
use Rattle.m88_session.specs.declared.script.MonitorCommand.TheVariants.{Step, Go, Drain, Trace}

module _ (c : Run) (is : IsProgram c.program) where
  abbrev pub StandsSound : Session → Type 0
  StandsSound s = IsSound c s.moment

  -- a walk stops where the run is over, if not before
  stops : (s : Session) → StandsSound s → (enough : Program → ℕ → Moment → Bool) → (n : ℕ) × (stops_on c s enough n ≡ true)
  stops s sound enough =
      let over = walk_ends c is s.taken s.moment sound (letters_from c.schedule s.taken) (λ k. refl) in
      (over.0, or_true (enough c.program over.0 (moment_on c s over.0)) _ over.1)

  makes : (s : Session) → StandsSound s → (command : MonitorCommand) → (n : ℕ) × Makes c s command n
  makes s sound (Step most) = let n = stops s sound (is_made most) in first_of _ n.0 n.1
  makes s sound (Trace most) = let n = stops s sound (is_made most) in first_of _ n.0 n.1
  makes s sound Go = let n = stops s sound (is_halt s.breakpoints) in first_of _ n.0 n.1
  makes s sound Drain = let n = draining_ends c is s.taken s.moment sound in first_of _ n.0 n.1
  makes s sound _ = first_of _ 0 refl

  walked : (s : Session) → StandsSound s → (n : ℕ) → StandsSound (session_on c s n)
  unfolding session_on
  walked s sound n = sound_along c is (letters_from c.schedule s.taken) s.moment n sound

  stays_sound : (s : Session) → StandsSound s → (command : MonitorCommand) (n : ℕ) → StandsSound (after_command c s command n)
  stays_sound s sound Drain n = sound_along c is (λ k. Answer) s.moment n sound
  stays_sound s sound (Step most) n = walked s sound n
  stays_sound s sound (Trace most) n = walked s sound n
  stays_sound s sound Go n = walked s sound n
  stays_sound s sound _ n = sound

  -- so commands have a session
  session_ends : (commands : List MonitorCommand) (s : Session) → StandsSound s → (text : List ℕ) × (glances : List Glance) × IsSession c commands s text glances
  session_ends [] s sound = ([], [], (refl, refl))
  session_ends (command ∷ commands) s sound =
      let n = makes s sound command in
      let rest = session_ends commands (after_command c s command n.0) (stays_sound s sound command n.0) in (
        text_of_command c s command n.0 ++ rest.0,
        glances_of c s command n.0 ++ rest.1,
        record { events = n.0; makes = n.1; rest = rest.0; others = rest.1; is_rest = rest.2; text_is = refl; glances_are = refl },
      )

  -- and a front of it goes on to its end
  pub session_goes_on : (commands : List MonitorCommand) (s : Session) (glances : List Glance) → StandsSound s → IsSessionFront c commands s glances
      → (others : List Glance) × (text : List ℕ) × IsSession c commands s text (glances ++ others)
  session_goes_on [] s glances sound none = ([], [], (refl, append-nil glances ∙ none))
  session_goes_on (command ∷ commands) s glances sound (inl begun) =
      let n = makes s sound command in
      let on = glances_go_on c.program (moments_of c s command) begun.events n.0 (no_later (stops_command c s command) begun.events n.0 begun.each n.1.here) in
      let rest = session_ends commands (after_command c s command n.0) (stays_sound s sound command n.0) in (
        on.0 ++ rest.1,
        text_of_command c s command n.0 ++ rest.0,
        record {
          events = n.0;
          makes = n.1;
          rest = rest.0;
          others = rest.1;
          is_rest = rest.2;
          text_is = refl;
          glances_are = ap (λ gs. gs ++ (on.0 ++ rest.1)) begun.glances_are
              ∙ sym (append_assoc (glances_of c s command begun.events) on.0 rest.1) ∙ ap (λ gs. gs ++ rest.1) on.1;
        },
      )
  session_goes_on (command ∷ commands) s glances sound (inr whole) =
      let rest = session_goes_on commands (after_command c s command whole.events) whole.others (stays_sound s sound command whole.events) whole.is_rest in (
        rest.0,
        text_of_command c s command whole.events ++ rest.1,
        record {
          events = whole.events;
          makes = whole.makes;
          rest = rest.1;
          others = whole.others ++ rest.0;
          is_rest = rest.2;
          text_is = refl;
          glances_are = ap (λ gs. gs ++ rest.0) whole.glances_are ∙ append_assoc (glances_of c s command whole.events) whole.others rest.0;
        },
      )
