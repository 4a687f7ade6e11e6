-- What the parts of a board show of the next instruction.
use Rattle.std.specs.Prelude.{ℕ, Bool, true, false, not, Option, ◌≡◌, if◌then◌else◌}
use Rattle.std.proofs.Common.{refl, sym, ap, ◌∙◌}
use Rattle.m88_board.specs.Board.{BoardView, completed_of, local_of}
use Rattle.m88_board.specs.Moves.{IsAt}
use Rattle.m88_event.specs.Choice.{issue_choice, issues, serves}
use Rattle.m88_event.specs.Local.{Local, local_at}
use Rattle.m88_event.specs.Timeline.{Moment, Run, absent_at, choice_at, is_idle, situation_at}
use Rattle.m88_event.specs.declared.letter.Letter.TheVariants.{Issue}
use Rattle.m88_isa.specs.Effect.{Change}
use Rattle.m88_isa.specs.Held.{Hold, held, instruction_at}
use Rattle.m88_isa.specs.History.{bus_at, completed_state, pending_at}
use Rattle.m88_isa.specs.Machine.{Turn, state, turn_at}
use Rattle.m88_mem.specs.DataBus.{absent_of, bus_of}

-- an instruction is issued, or puts a byte out, only where no bubble is before it
issued_by : (idle bubble : Bool) (why : Option Hold) (turn : Turn) (change : Change) →
    issue_choice idle bubble why turn ≡ issues change → bubble ≡ false
issued_by true bubble why turn change e = absurd cc
issued_by false true why turn change e = absurd cc
issued_by false false why turn change e = refl

served_by : (idle bubble : Bool) (why : Option Hold) (turn : Turn) (byte : ℕ) →
    issue_choice idle bubble why turn ≡ serves byte → bubble ≡ false
served_by true bubble why turn byte e = absurd cc
served_by false true why turn byte e = absurd cc
served_by false false why turn byte e = refl

module _ (r : Run) (m : Moment) where
  -- the choice of the letter `i` at a moment
  pub choice_shown : choice_at r Issue m
      ≡ issue_choice (is_idle r m) m.bubble
      (held (instruction_at r.program (state r.program m.retired).pc) (turn_at r.program (state r.program m.retired)) (pending_at r.program m.retired m.done))
      (turn_at r.program (state r.program m.retired))
  unfolding situation_at
  choice_shown = refl

  -- where it issues or puts a byte out, there is no bubble
  pub not_over_bubble : (change : Change) → choice_at r Issue m ≡ issues change → m.bubble ≡ false
  not_over_bubble change e = issued_by (is_idle r m) m.bubble _ (turn_at r.program (state r.program m.retired)) change (sym choice_shown ∙ e)

  pub not_over_bubble_served : (byte : ℕ) → choice_at r Issue m ≡ serves byte → m.bubble ≡ false
  not_over_bubble_served byte e = served_by (is_idle r m) m.bubble _ (turn_at r.program (state r.program m.retired)) byte (sym choice_shown ∙ e)

-- a board that stands at a moment with no bubble shows the next instruction
unmarked : (v bubble : Bool) → not v ≡ bubble → bubble ≡ false → v ≡ true
unmarked true bubble e f = refl
unmarked false bubble e f = absurd cc

module _ (r : Run) (m : Moment) (b : BoardView) (at : IsAt r m b) where
  valid_at : m.bubble ≡ false → b.slots.nip.v ≡ true
  unfolding local_of local_at
  valid_at straight = unmarked b.slots.nip.v m.bubble (ap (λ (l : Local). l.bubble) at.seen) straight

  pub pc_at : m.bubble ≡ false → b.slots.nip.addr ≡ (state r.program m.retired).pc
  unfolding local_of local_at completed_of completed_state
  pc_at straight =
      sym (ap (λ (v : Bool). if v then b.slots.nip.addr else b.slots.fip.addr) (valid_at straight))
      ∙ ap (λ (l : Local). l.completed.pc) at.seen

  -- the words of the data bus at a moment
  pub words_at : bus_of b.memory ≡ bus_at r.program m.retired m.done
  unfolding local_of local_at
  words_at = ap (λ (l : Local). l.bus) at.seen

  -- and the absent pages
  pub pages_at : absent_of b.memory ≡ absent_at r m
  unfolding local_of local_at
  pages_at = ap (λ (l : Local). l.absent) at.seen
