-- Which inputs `mon` accepts, and where and why it refuses any other: the faults of a script come before those of the
-- source behind it.
use Rattle.std.specs.Prelude.{ℕ, ◌≡◌, ◌⊎◌, List}
use Rattle.m88_asm.specs.Sources.{IsProgramSource, IsRefusedProgram}
use Rattle.m88_base.specs.Refusal.{Refusal}
use Rattle.m88_session.specs.Script.{HasNoScript, IsScriptOf, ScriptParts, script_refusal}

-- the input is a script and a source behind it that can be assembled and linked
pub record IsMonitorInput (input : List ℕ) : Type 0 where
  pub parts : ScriptParts
  pub is_script : IsScriptOf input parts
  pub is_program : IsProgramSource parts.source

-- an input is refused where it has no script
pub record IsUnscripted (input : List ℕ) (r : Refusal) : Type 0 where
  pub line : ℕ
  pub has_none : HasNoScript input line
  pub refusal : r ≡ script_refusal line

-- and where it has one, at the first fault of the source behind it
pub record IsRefusedAfterScript (input : List ℕ) (r : Refusal) : Type 0 where
  pub parts : ScriptParts
  pub is_script : IsScriptOf input parts
  pub is_refused : IsRefusedProgram parts.lines parts.source r

-- an input is refused so
abbrev pub IsRefusedMonitor : List ℕ → Refusal → Type 0
IsRefusedMonitor input r = IsUnscripted input r ⊎ IsRefusedAfterScript input r
