-- What a run or a session is asked for besides its program, and as the code keeps it.
use Rattle.std.specs.Prelude.{ℕ, Bool, ◌≤◌, List}
use Rattle.m88_base.specs.declared.absent.Absent.{Absent}
use Rattle.m88_board.specs.Kept.{most_retired}
use Rattle.m88_event.specs.Timeline.{Run, run_with}
use Rattle.m88_event.specs.declared.letter.Letter.{Letter}
use Rattle.m88_isa.specs.Machine.{Program}
use Rattle.m88_mem.specs.Marks.{NamesPages, absent_in}
use Rattle.m88_session.specs.declared.settings.Settings.{Settings as Kept}

-- the settings of a run or a session: it retires at most so many instructions, these pages are absent at first, its
-- events begin with these letters, and MXM, the bit by which misaligned addresses are rounded down, is set or clear
pub record Settings : Type 0 where
  pub limit : ℕ
  pub absent : ℕ → Bool
  pub schedule : List Letter
  pub mxm : Bool

-- the run of a program with settings
abbrev pub run_by : Program → Settings → Run
run_by p s = run_with p s.absent s.limit s.schedule

-- the settings of a limit, absent pages, a schedule and a mode
abbrev pub settings_of : ℕ → Absent → List Letter → Bool → Settings
settings_of limit absent schedule mxm =
    record { limit = limit; absent = absent_in absent; schedule = schedule; mxm = mxm }

-- the settings that they are
abbrev pub settings_in : Kept → Settings
settings_in s = settings_of s.limit s.absent s.schedule s.mxm

-- the most instructions that a run may be allowed: as many as a board can retire
abbrev pub most_limit : ℕ
most_limit = most_retired

-- a limit is one that a run may have, and there are the pages that are named
abbrev pub AreBounded : ℕ → Absent → Type 0
AreBounded limit absent = (limit ≤ most_limit) × NamesPages absent
