-- What a paged run comes to.
use Rattle.std.specs.Prelude.{ℕ, Bool, List, Option, Some, None, ◌≡◌}
use Rattle.std.specs.FinMap.{empty}
use Rattle.m88_event.specs.Run.{IsOutcome}
use Rattle.m88_event.specs.declared.letter.Letter.{Letter}
use Rattle.m88_event.specs.declared.outcome.Outcome.{Outcome}
use Rattle.m88_isa.specs.History.{transactions}
use Rattle.m88_isa.specs.Machine.{Program, state}
use Rattle.m88_pager.specs.Frames.{ins_along, outs_along}
use Rattle.m88_pager.specs.Pages.{HoldsWhereTold, writes_page}
use Rattle.m88_pager.specs.Store.{PageMap, WritesMore}
use Rattle.m88_pager.specs.declared.paged.Paged.{Paged}
use Rattle.m88_event.specs.Timeline.{Run}

-- the most frames that there may be
abbrev pub most_frames : ℕ
most_frames = 64

-- a store that tells its pages holds none
abbrev pub HoldsNoneWhereTold : Option PageMap → Type 0
HoldsNoneWhereTold None = Unit {0}
HoldsNoneWhereTold (Some pages) = pages ≡ empty

-- a store tells its pages
abbrev pub Tells : Option PageMap → Type 0
Tells None = ⊥
Tells (Some pages) = Unit {0}

-- the counts are those of so many frames along the transactions of the instructions that were retired
pub record AreCounts (p : Program) (frames : ℕ) (o : Paged) : Type 0 where
  pub ins : o.ins ≡ ins_along frames (transactions p o.outcome.retired)
  pub outs : o.outs ≡ outs_along frames (transactions p o.outcome.retired)

-- it is the outcome of the run but for the words that changed
abbrev pub IsOutcomeButWords : Run → Outcome → Type 0
IsOutcomeButWords r o = (words : List (ℕ × ℕ)) × IsOutcome r (record o { changed = words })

-- what a paged run of a program came to: its outcome, in full where the store tells its pages and else but for the
-- words that changed; its counts; as many instructions are retired in every run of the program with this limit,
-- whatever pages are absent and whatever the schedule, so that the counts are those of the program, the limit and the
-- frames alone; the pages that the store holds; and that a page was put in as often as one is counted that went out
pub record IsPagedRun (r : Run) (frames : ℕ) (told told' : Option PageMap) (writes writes' : Option ℕ) (o : Paged)
    : Type 0 where
  pub outcome : Tells told → IsOutcome r o.outcome
  pub but_words : IsOutcomeButWords r o.outcome
  pub counts : AreCounts r.program frames o
  pub alone : (others : ℕ → Bool) (letters : List Letter) (other : Outcome)
      → IsOutcome (record r { absent = others; schedule = letters }) other → other.retired ≡ o.outcome.retired
  pub held :
      HoldsWhereTold (writes_page (transactions r.program o.outcome.retired)) (state r.program o.outcome.retired).memory
      told'
  pub written : WritesMore o.outs writes writes'
