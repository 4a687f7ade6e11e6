-- The lines of a script read one by one.
use Rattle.std.proofs.Common.{◌≡◌, ℕ, ◌+◌, ◌-◌, ◌==◌, Bool, true, false, List, [], ◌∷◌, ◌++◌, length, length-append, append_assoc, take, ap, sym, ◌∙◌, subst, arith}
use Rattle.std.specs.Prelude.{◌≢◌}
use Rattle.std.proofs.lemmas.List.{append-nil}
use Rattle.std.proofs.Math.Seq.{take-append_seam}
use Rattle.m88_base.specs.Lines.{lines_of}
use Rattle.m88_session.specs.Script.{AreScriptLines, StopsScript}
use Rattle.m88_session.specs.declared.script.MonitorCommand.{MonitorCommand}

-- lines by which a front of them stops to be a script's
pub stops_behind : (all lines later : List (List ℕ)) (line : List ℕ) (cs : List MonitorCommand) (n : ℕ) → all ≡ lines ++ line ∷ later → n ≡ length lines
    → AreScriptLines lines cs → ((es : List MonitorCommand) → AreScriptLines (lines ++ line ∷ []) es → ⊥) → StopsScript all (n + 1)
stops_behind all lines later line cs n e number are none =
    let less : n + 1 - 1 ≡ length lines = omega (arith, number) in
    let more : n + 1 ≡ length (lines ++ line ∷ []) = omega (arith, number, length-append lines (line ∷ [])) in
    record {
      commands = cs;
      are_script = subst (λ ls. AreScriptLines ls cs) (sym (ap (λ k. take k all) less ∙ ap (take (length lines)) e ∙ take-append_seam lines (line ∷ later))) are;
      stops = λ es h. none es (subst (λ ls. AreScriptLines ls es)
          (ap (λ k. take k all) more ∙ ap (take (length (lines ++ line ∷ []))) (e ∙ sym (append_assoc lines (line ∷ []) later))
          ∙ take-append_seam (lines ++ line ∷ []) later) h);
    }

-- what is known while a script is read: so many lines are those of a script with the commands so far, before the rest
pub record HasRead (text rest : List ℕ) (commands : List MonitorCommand) (passed : ℕ) : Type 0 where
  pub lines : List (List ℕ)
  pub lines_are : lines_of text ≡ lines ++ lines_of rest
  pub are_script : AreScriptLines lines commands
  pub number : passed ≡ length lines

module _ (text rest line behind : List ℕ) (cs : List MonitorCommand) (passed : ℕ) (h : HasRead text rest cs passed) (e : lines_of rest ≡ line ∷ lines_of behind) where
  -- one line more
  pub one_line_more : (ds : List MonitorCommand) → ((lines : List (List ℕ)) → AreScriptLines lines cs → AreScriptLines (lines ++ line ∷ []) ds)
      → HasRead text behind ds (passed + 1)
  one_line_more ds more = record {
    lines = h.lines ++ line ∷ [];
    lines_are = h.lines_are ∙ ap (λ ls. h.lines ++ ls) e ∙ sym (append_assoc h.lines (line ∷ []) (lines_of behind));
    are_script = more h.lines h.are_script;
    number = ap (λ n. n + 1) h.number ∙ sym (length-append h.lines (line ∷ []));
  }

  -- at a line that stops
  pub stopped : ((lines : List (List ℕ)) → AreScriptLines lines cs → (es : List MonitorCommand) → AreScriptLines (lines ++ line ∷ []) es → ⊥)
      → StopsScript (lines_of text) (passed + 1)
  stopped none =
      stops_behind (lines_of text) h.lines (lines_of behind) line cs passed (h.lines_are ∙ ap (λ ls. h.lines ++ ls) e) h.number h.are_script
      (none h.lines h.are_script)

-- behind the last line
pub all_read : (text rest : List ℕ) (cs : List MonitorCommand) (passed : ℕ) → HasRead text rest cs passed → rest ≡ [] → AreScriptLines (lines_of text) cs
unfolding lines_of
all_read text rest cs passed h none =
    subst (λ ls. AreScriptLines ls cs) (sym (h.lines_are ∙ ap (λ bs. h.lines ++ lines_of bs) none ∙ append-nil h.lines)) h.are_script

-- what tests say
pub not_empty : (xs : List ℕ) (b : Bool) → b ≡ (length xs == 0) → b ≡ false → xs ≢ []
not_empty xs b e f none = absurd (let k : false ≡ true = sym f ∙ e ∙ ap (λ (ys : List ℕ). length ys == 0) none in cc)
