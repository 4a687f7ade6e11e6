-- What an event makes of a paged run, and what the run came to at a moment that is over.
use Rattle.std.specs.Prelude.{ℕ, true, false, Option, ◌≡◌, ◌≤◌, ◌+◌, ◌<◌, ◌-◌, take}
use Rattle.m88_base.specs.Image.{ProgramImage}
use Rattle.m88_board.specs.Board.{BoardView, local_of}
use Rattle.m88_board.specs.Calls.{StaysOnRun}
use Rattle.m88_board.specs.Moves.{IsAt}
use Rattle.m88_board.specs.declared.walk.Walk.{Walk}
use Rattle.m88_event.specs.Bound.{weight}
use Rattle.m88_event.specs.Local.{is_over_by}
use Rattle.m88_event.specs.Letters.{letter_at}
use Rattle.m88_event.specs.Run.{outcome_at}
use Rattle.m88_event.specs.Timeline.{Moment, Run, after_letter, is_over}
use Rattle.m88_isa.specs.History.{transactions}
use Rattle.m88_isa.specs.Bus.{in_words}
use Rattle.m88_isa.specs.Machine.{IsProgram, Program, opening, state}
use Rattle.m88_mem.specs.DataBus.{image_bus, image_bytes}
use Rattle.m88_pager.specs.Inside.Calls.{AreCarriedOn, PutsOut}
use Rattle.m88_pager.specs.Inside.Seen.{AreCarried, AreWithin}
use Rattle.m88_pager.specs.Paged.{AreCounts, Tells, most_frames}
use Rattle.m88_pager.specs.Pages.{HoldsWhereTold, writes_page}
use Rattle.m88_pager.specs.Store.{PageMap}
use Rattle.m88_pager.specs.declared.frames.Frames.{Frames}
use Rattle.m88_pager.specs.declared.paged.Paged.{Paged}

-- its outcome but for the words that changed, and these too where the store tells its pages; its counts; and the pages
-- that the store holds
pub record CameTo (p : Program) (frames : ℕ) (m : Moment) (o : Paged) (told : Option PageMap) : Type 0 where
  pub but_words : record o.outcome { changed = (outcome_at p m).changed } ≡ outcome_at p m
  pub outcome : Tells told → o.outcome ≡ outcome_at p m
  pub counts : AreCounts p frames o
  pub pages : HoldsWhereTold (writes_page (transactions p o.outcome.retired)) (state p o.outcome.retired).memory told

-- a board isn't over and stands at a moment of a run, and no more came in or went out than transactions are done
pub record MayStep (b : BoardView) (f : Frames) : Type 0 where
  pub going : is_over_by b.limit (local_of b) ≡ false
  pub there : (r : Run) × (m : Moment) × IsAt r m b
  pub within : AreWithin b.done f

-- there are no more frames than there may be, and no more came in or went out than transactions are done
pub record MayFinish (b : BoardView) (f : Frames) : Type 0 where
  pub within : AreWithin b.done f
  pub cap : f.cache.cap ≤ most_frames

-- the next event of a walk is made, and what it answered or finished is carried out in the frames
pub record HasPagedStep (original : ℕ → ℕ) (w v : Walk) (f g : Frames) (told told' : Option PageMap) : Type 0 where
  pub at : (r : Run) (m : Moment) → IsAt r m w.board.now
      → IsAt r (after_letter r (letter_at w.schedule.now w.taken) m) v.board.now
  pub taken : v.taken ≡ w.taken + 1
  pub lighter : weight v.schedule.now v.board.now.limit v.taken (local_of v.board.now)
      < weight w.schedule.now w.board.now.limit w.taken (local_of w.board.now)
  pub stays : StaysOnRun w v
  pub within : AreWithin v.board.now.done g
  pub carried : AreCarriedOn original (take (v.board.now.done - w.board.now.done) w.board.now.pending) f g told told'

-- what a run comes to at a board that is over, by the frames and the store there
pub record IsFinished (image : ProgramImage) (b : BoardView) (f : Frames) (told told' : Option PageMap)
    (writes writes' : Option ℕ) (o : Paged) : Type 0 where
  pub came : (r : Run) (m : Moment) (most : ℕ) → IsProgram r.program
      → image_bus image ≡ in_words (opening r.program).memory → IsAt r m b → is_over r m ≡ true
      → AreCarried (image_bytes image) most (transactions r.program m.retired) f told → CameTo r.program most m o told'
  pub events : o.outcome.events ≡ b.events
  pub written : PutsOut f.outs o.outs writes writes'
