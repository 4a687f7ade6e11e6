-- What `share` writes: the report of each program of an input of sources, and how the board came to switch from one to
-- another (the format of shared runs, docs/FORMATS.md).
use Rattle.std.specs.Prelude.{ℕ, Bool, false, ◌≡◌, ◌≤◌, ◌+◌, ◌++◌, List, None, codes, decimal, length, slice_get, unwrap_or}
use Rattle.std.specs.List.{enumerate_from, flat_map}
use Rattle.m88_base.specs.Lines.{line_end}
use Rattle.m88_event.specs.declared.outcome.Outcome.{Outcome}
use Rattle.m88_isa.specs.Machine.{Program}
use Rattle.m88_report.specs.Report.{count_line, named_word, report_of}
use Rattle.m88_tasks.specs.Shared.{AreOwnOutcomes, Group, IsShared}
use Rattle.m88_tasks.specs.Tasks.{most_shared_events}
use Rattle.m88_tasks.specs.declared.letter.ShareLetter.{ShareLetter}
use Rattle.m88_tasks.specs.declared.shared.Shared.{Shared}
use Rattle.m88_tasks.specs.declared.shared.Switch.{Switch}
use Rattle.m88_commands.specs.Answer.Numbered.{numbered_event}
use Rattle.m88_asm.specs.Several.{AreSourcePrograms, AreSources, PlacedSource}

-- a program's number, from 1, and its report
unfoldable pub numbered_report : ℕ × Outcome → List ℕ
numbered_report program = count_line (codes "program") program.0 ++ report_of program.1

-- the line of a switch with its number: its event and both programs, numbered from 1
unfoldable pub switch_line : ℕ → Switch → List ℕ
switch_line number s =
    numbered_event (codes "switch") number s.event
    ++ codes " from " ++ decimal (s.from + 1) ++ codes " to " ++ decimal (s.to + 1) ++ line_end

-- the line of the words that it saved: EPSR, SXIP, SNIP and SFIP
unfoldable pub saved_line : Switch → List ℕ
saved_line s =
    named_word (codes "epsr") s.epsr ++ named_word (codes " sxip") s.sxip ++ named_word (codes " snip") s.snip
    ++ named_word (codes " sfip") s.sfip ++ line_end

-- both lines
unfoldable pub switch_lines : ℕ × Switch → List ℕ
switch_lines switch = switch_line switch.0 switch.1 ++ saved_line switch.1

-- what is told of a shared run: the report of each program, numbered from 1, the counts of events and of switches, and
-- each switch, from 1
unfoldable pub told_of_shared : Shared → List ℕ
told_of_shared s =
    flat_map numbered_report (enumerate_from 1 s.outcomes)
    ++ count_line (codes "events") s.events
    ++ count_line (codes "switches") (length s.switches)
    ++ flat_map switch_lines (enumerate_from 1 s.switches)

-- a program without a byte: it stands behind the last of some programs, and never runs
abbrev pub no_program : Program
no_program = record { mxm = false; start = 0; byte = λ a. None; instruction = λ a. None }

-- the programs that share a board, by their numbers from 0, with the limit and the absent pages of each
abbrev pub group_of : List Program → ℕ → (ℕ → Bool) → Group
group_of programs limit absent = record {
  count = length programs;
  programs = λ k. unwrap_or (slice_get programs k) no_program;
  absent = absent;
  limit = limit;
}

-- the text is what is told of what the programs of an input's sources come to on one board; what each comes to is what
-- its own run comes to under the letters that it took, and there are no more events than are told here
pub record IsSharedText (input : List ℕ) (limit : ℕ) (absent : ℕ → Bool) (schedule : List ShareLetter)
    (text : List ℕ) : Type 0 where
  pub sources : List PlacedSource
  pub are_sources : AreSources input sources
  pub programs : List Program
  pub are_programs : AreSourcePrograms sources programs
  pub shared : Shared
  pub is_shared : IsShared (group_of programs limit absent) schedule shared
  pub own : AreOwnOutcomes (group_of programs limit absent) schedule shared
  pub within : shared.events ≤ most_shared_events (length schedule) (length sources) limit
  pub is_text : text ≡ told_of_shared shared
