-- What `page` writes: the report of a run whose memory stands a second time in a few frames before a store of pages,
-- and how often pages came in and went out (the format of paged runs, docs/FORMATS.md).
use Rattle.std.specs.Prelude.{ℕ, ◌≡◌, ◌++◌, List, codes}
use Rattle.m88_event.specs.Run.{IsOutcome}
use Rattle.m88_pager.specs.Paged.{AreCounts}
use Rattle.m88_pager.specs.declared.paged.Paged.{Paged}
use Rattle.m88_report.specs.Report.{count_line, report_of}
use Rattle.m88_asm.specs.Sources.{HoldsOfProgram}
use Rattle.m88_session.specs.Settings.{Settings, run_by}

-- what is told of such a run: its report, the number of frames, how often a page came into one, and how often one that
-- was written went out
unfoldable pub told_of_paged : ℕ → Paged → List ℕ
told_of_paged frames o =
    report_of o.outcome
    ++ count_line (codes "frames") frames
    ++ count_line (codes "ins") o.ins
    ++ count_line (codes "outs") o.outs

-- a run of the source's program comes to this before so many frames, MXM clear
abbrev pub PagesTo : List ℕ → ℕ → Settings → Paged → Type 0
PagesTo source frames s o =
    HoldsOfProgram source (λ p. IsOutcome (run_by p s) o.outcome × AreCounts p frames o)

-- the text is what is told of that, and every run of the source with that limit and so many frames has these counts,
-- whatever pages are absent and whatever the schedule is
pub record IsPagedText (source : List ℕ) (frames : ℕ) (settings : Settings) (text : List ℕ) : Type 0 where
  pub paged : Paged
  pub comes : PagesTo source frames settings paged
  pub alone : (others : Settings) (other : Paged) → others.limit ≡ settings.limit → PagesTo source frames others other
      → (other.ins ≡ paged.ins) × (other.outs ≡ paged.outs)
  pub is_text : text ≡ told_of_paged frames paged
