-- An input is a script with a source behind it, or has none at one line.
use Rattle.std.proofs.Common.{◌≡◌, ℕ, ◌+◌, List, [], ◌∷◌, ◌++◌, Bool, true, false, length, append_assoc, inl, inr, refl, sym, ◌∙◌, subst}
use Rattle.std.specs.Prelude.{◌⊎◌}
use Rattle.std.proofs.lemmas.List.{append-nil}
use Rattle.m88_base.proofs.Laws.{parted_told}
use Rattle.m88_base.specs.Lines.{lines_of}
use Rattle.m88_base.specs.OneVerdict.{HasOneVerdict}
use Rattle.m88_session.specs.Script.{AreScriptLines, HasNoScript, IsScriptOf, ScriptParts, StopsScript, WritesCommand, source_line, stopped, stopped_alone, unended}
use Rattle.m88_session.specs.Inside.ScriptWords.{has_room}
use Rattle.m88_session.specs.declared.script.MonitorCommand.{MonitorCommand}
use Rattle.m88_session.proofs.ScriptReading.{stops_behind}
use Rattle.m88_session.proofs.ScriptTold.{command_told}
use Rattle.m88_session.proofs.Scripts.{no_command, no_lines_yet, not_both, one_empty_more, one_more_fits, one_more_is_none, one_script, one_stop}

module _ (all : List (List ℕ)) where
  -- what lines come to
  abbrev AreTold : Type 0
  AreTold = ((commands : List MonitorCommand) × AreScriptLines all commands) ⊎ ((n : ℕ) × StopsScript all n)

  -- at a line that stops
  stopped_at : (lines later : List (List ℕ)) (line : List ℕ) (commands : List MonitorCommand) → all ≡ lines ++ line ∷ later
      → AreScriptLines lines commands → ((others : List MonitorCommand) → AreScriptLines (lines ++ line ∷ []) others → ⊥) → AreTold
  stopped_at lines later line commands e are none = inr (length lines + 1, stops_behind all lines later line commands (length lines) e refl are none)

  -- line by line
  read_on : (lines later : List (List ℕ)) (commands : List MonitorCommand) → all ≡ lines ++ later → AreScriptLines lines commands → AreTold
  read_on lines [] commands e are = inl (commands, subst (λ ls. AreScriptLines ls commands) (sym (e ∙ append-nil lines)) are)
  read_on lines (line ∷ later) commands e are = by_line line later e (λ more commands are. read_on (lines ++ line ∷ []) later commands more are)
    where
      by_line : (line : List ℕ) (later : List (List ℕ)) → all ≡ lines ++ line ∷ later
          → (all ≡ (lines ++ line ∷ []) ++ later → (commands : List MonitorCommand) → AreScriptLines (lines ++ line ∷ []) commands → AreTold)
          → AreTold
      by_line [] later e on = on (e ∙ sym (append_assoc lines ([] ∷ []) later)) commands (one_empty_more lines commands are)
      by_line (b ∷ bs) later e on = elim (command_told (b ∷ bs)) [
        | inr none ↦ stopped_at lines later (b ∷ bs) commands e are (λ others all. no_command lines (b ∷ bs) others (λ empty. absurd cc) none all)
        | inl command ↦ by_room command.0 command.1 (has_room commands command.0) refl
      ]
        where
          by_room : (c : MonitorCommand) → WritesCommand c (b ∷ bs) → (room : Bool) → has_room commands c ≡ room → AreTold
          by_room c is true room =
              on (e ∙ sym (append_assoc lines ((b ∷ bs) ∷ []) later)) (commands ++ c ∷ []) (one_more_fits lines commands (b ∷ bs) c room is are)
          by_room c is false room =
              stopped_at lines later (b ∷ bs) commands e are (λ others all. one_more_is_none lines commands others (b ∷ bs) c room is are all)

lines_told : (text : List ℕ) → AreTold (lines_of text)
lines_told text = read_on (lines_of text) [] (lines_of text) [] refl no_lines_yet

module _ (input : List ℕ) where
  told : ((s : ScriptParts) × IsScriptOf input s) ⊎ ((n : ℕ) × HasNoScript input n)
  told = elim (parted_told source_line input) [
    | inl p ↦ elim (lines_told p.before) [
      | inl script ↦ inl (
        record { commands = script.0; lines = p.lines; source = p.behind },
        record { script = p.before; is_parted = p.is_parted; are_script = script.1 },
      )
      | inr stop ↦ inr (stop.0, stopped p.before p.lines p.behind p.is_parted stop.1)
    ]
    | inr none ↦ elim (lines_told input) [
      | inl script ↦ inr (none.0 + 1, unended none.0 script.0 none.1 script.1 refl)
      | inr stop ↦ inr (stop.0, stopped_alone none.0 none.1 stop.1)
    ]
  ]

  pub one_verdict : HasOneVerdict (IsScriptOf input) (HasNoScript input)
  one_verdict = record {
    some = told;
    not_both = not_both input;
    one_value = one_script input;
    one_fault = one_stop input;
  }
