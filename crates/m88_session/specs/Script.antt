-- The script of the monitor: lines that are commands or empty, then a line `source`, and a source behind that line.
use Rattle.std.specs.Prelude.{ℕ, ◌≡◌, ◌+◌, ◌-◌, ◌≤◌, ◌++◌, Bool, true, false, List, [], ◌∷◌, codes, count_by, length, take}
use Rattle.m88_base.specs.Lines.{lines_of}
use Rattle.m88_base.specs.Parted.{IsParted, IsUnparted}
use Rattle.m88_session.specs.Numbers.{IsShortNumber}
use Rattle.m88_base.specs.Refusal.{Refusal}
use Rattle.m88_session.specs.declared.script.MonitorCommand.{MonitorCommand}
use Rattle.m88_session.specs.declared.script.MonitorCommand.TheVariants.{Step, Go, Break, Regs, Pipe, Memory, Drain, Trace}

-- the most commands of a script
abbrev pub most_commands : ℕ
most_commands = 64

-- and the most of them that set a breakpoint
abbrev pub most_breaks : ℕ
most_breaks = 16

-- the most events that a command may ask for
abbrev pub most_steps : ℕ
most_steps = 1000000

-- the most words
abbrev pub most_words : ℕ
most_words = 1024

-- a text writes a number from 1 to `most`, in one to seven decimal digits
pub record IsCount (most : ℕ) (text : List ℕ) (n : ℕ) : Type 0 where
  pub number : IsShortNumber 10 7 text n
  pub some : 1 ≤ n
  pub few : n ≤ most

-- a text writes an address in one to eight hexadecimal digits
abbrev pub WritesAddress : List ℕ → ℕ → Type 0
WritesAddress text address = IsShortNumber 16 8 text address

-- a text writes an address, a blank, and a number of words
pub record AreMemoryOperands (text : List ℕ) (address count : ℕ) : Type 0 where
  pub place : List ℕ
  pub digits : List ℕ
  pub text_is : text ≡ place ++ codes " " ++ digits
  pub is_place : WritesAddress place address
  pub is_count : IsCount most_words digits count

-- a line is a name, a blank, and an operand of some kind
pub record HasOperand (name : List ℕ) (IsSuch : List ℕ → Type 0) (line : List ℕ) : Type 0 where
  pub operand : List ℕ
  pub line_is : line ≡ name ++ codes " " ++ operand
  pub is_such : IsSuch operand

-- a line writes a command
abbrev pub WritesCommand : MonitorCommand → List ℕ → Type 0
WritesCommand (Step n) line = HasOperand (codes "step") (λ text. IsCount most_steps text n) line
WritesCommand Go line = line ≡ codes "go"
WritesCommand (Break address) line = HasOperand (codes "break") (λ text. WritesAddress text address) line
WritesCommand Regs line = line ≡ codes "regs"
WritesCommand Pipe line = line ≡ codes "pipe"
WritesCommand (Memory address count) line = HasOperand (codes "mem") (λ text. AreMemoryOperands text address count) line
WritesCommand Drain line = line ≡ codes "drain"
WritesCommand (Trace n) line = HasOperand (codes "trace") (λ text. IsCount most_steps text n) line

-- the command sets a breakpoint
abbrev pub is_break : MonitorCommand → Bool
is_break (Break address) = true
is_break _ = false

-- lines write commands: an empty one none, and each other one the next of them
abbrev pub WriteCommands : List (List ℕ) → List MonitorCommand → Type 0
WriteCommands [] commands = commands ≡ []
WriteCommands ([] ∷ lines) commands = WriteCommands lines commands
WriteCommands ((b ∷ bs) ∷ lines) [] = ⊥
WriteCommands ((b ∷ bs) ∷ lines) (command ∷ commands) = WritesCommand command (b ∷ bs) × WriteCommands lines commands

-- the lines are those of a script with these commands
pub record AreScriptLines (lines : List (List ℕ)) (commands : List MonitorCommand) : Type 0 where
  pub write : WriteCommands lines commands
  pub few : length commands ≤ most_commands
  pub few_breaks : count_by is_break commands ≤ most_breaks

-- the line behind a script, which is the line of no command
abbrev pub source_line : List ℕ
source_line = codes "source"

-- the input is a script with these commands and a source: it is parted at the first line `source`, which is the last
-- of so many lines, and the lines before it are those of the script
pub record IsScript (input : List ℕ) (commands : List MonitorCommand) (n : ℕ) (source : List ℕ) : Type 0 where
  pub script : List ℕ
  pub is_parted : IsParted source_line input script n source
  pub are_script : AreScriptLines (lines_of script) commands

-- what an input with a script says: its commands, how many lines stand before the source, and the source
pub record ScriptParts : Type 0 where
  pub commands : List MonitorCommand
  pub lines : ℕ
  pub source : List ℕ

-- the input says that
abbrev pub IsScriptOf : List ℕ → ScriptParts → Type 0
IsScriptOf input s = IsScript input s.commands s.lines s.source

-- with the n-th line, and no line before it, the lines are none of a script
pub record StopsScript (lines : List (List ℕ)) (n : ℕ) : Type 0 where
  pub commands : List MonitorCommand
  pub are_script : AreScriptLines (take (n - 1) lines) commands
  pub stops : (others : List MonitorCommand) → ¬ AreScriptLines (take n lines) others

-- the input has no script: a line before the first line `source` stops it, or a line of an input that has no line
-- `source`; where none stops such an input, the line behind the last is missing
pub data HasNoScript (input : List ℕ) (n : ℕ) : Type 0 where
  stopped : (script : List ℕ) (m : ℕ) (source : List ℕ) → IsParted source_line input script m source
      → StopsScript (lines_of script) n → HasNoScript input n
  stopped_alone : (m : ℕ) → IsUnparted source_line input m → StopsScript (lines_of input) n → HasNoScript input n
  unended : (m : ℕ) (commands : List MonitorCommand) → IsUnparted source_line input m
      → AreScriptLines (lines_of input) commands → n ≡ m + 1 → HasNoScript input n

-- the refusal of an input without a script, at a line
abbrev pub script_refusal : ℕ → Refusal
script_refusal n = record { line = n; column = 1; reason = codes "script" }
