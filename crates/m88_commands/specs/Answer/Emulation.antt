-- What `emu` writes: the report of a run whose monitor emulates, and what it emulated (the format of emulations,
-- docs/FORMATS.md).
use Rattle.std.specs.Prelude.{ℕ, ◌≡◌, ◌++◌, List, codes, decimal, length}
use Rattle.std.specs.List.{enumerate_from, flat_map}
use Rattle.m88_base.specs.Hex.{hex8}
use Rattle.m88_base.specs.Lines.{line_end}
use Rattle.m88_report.specs.Report.{count_line, report_of}
use Rattle.m88_emul.specs.Timeline.{IsExtendedOutcome}
use Rattle.m88_emul.specs.declared.emulation.EmulOutcome.{EmulOutcome}
use Rattle.m88_emul.specs.declared.emulation.Emulation.{Emulation}
use Rattle.m88_commands.specs.Answer.Numbered.{numbered_event}
use Rattle.m88_session.specs.Settings.{Settings, run_by}
use Rattle.m88_asm.specs.Sources.{HoldsOfProgram}

-- the line of an emulation with its number: its event, the address of the instruction, and the vector that it raised
unfoldable pub emulation_line : ℕ × Emulation → List ℕ
emulation_line e =
    numbered_event (codes "emulate") e.0 e.1.event
    ++ codes " at " ++ hex8 e.1.at ++ codes " vector " ++ decimal e.1.vector ++ line_end

-- what is told of such a run: its report, the count of emulations, and each of them, from 1
unfoldable pub told_of_emulated : EmulOutcome → List ℕ
told_of_emulated o =
    report_of o.outcome
    ++ count_line (codes "emulated") (length o.emulated)
    ++ flat_map emulation_line (enumerate_from 1 o.emulated)

-- the text is what is told of what a run of the source's program comes to, MXM clear
abbrev pub IsEmulatedText : List ℕ → Settings → List ℕ → Type 0
IsEmulatedText source s text = HoldsOfProgram source (λ p.
    (o : EmulOutcome) × IsExtendedOutcome (run_by p s) o × (text ≡ told_of_emulated o))
