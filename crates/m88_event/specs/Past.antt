-- What lies behind each moment that a run comes to: facts about the history up to it, and about the limit.
use Rattle.std.specs.Prelude.{ℕ, true, false, ◌≡◌, ◌<◌, ◌≤◌, ◌+◌, length}
use Rattle.m88_isa.specs.Effect.{Change}
use Rattle.m88_isa.specs.Held.{is_stop, most_pending}
use Rattle.m88_isa.specs.History.{transaction_count}
use Rattle.m88_isa.specs.Machine.{Program, changes, state, turn_at}
use Rattle.m88_event.specs.Timeline.{Moment, Run}

-- a history has so many instructions at least: the program ends by none of them
abbrev pub HasInstructions : Program → ℕ → Type 0
HasInstructions p count = (k : ℕ) → k < count → is_stop (turn_at p (state p k)) ≡ false

-- the last of so many instructions changed the flow with no delay slot, so that the one fetched behind it is
-- passed over
pub record IsBehindBranch (p : Program) (count : ℕ) : Type 0 where
  pub before : ℕ
  pub change : Change
  pub last : count ≡ before + 1
  pub turn : turn_at p (state p before) ≡ changes change
  pub flows : change.bubble ≡ true

-- behind so many instructions the program ends by the next one, the limit isn't reached, and all transactions are done
pub record IsAtEnd (r : Run) (retired done : ℕ) : Type 0 where
  pub next : is_stop (turn_at r.program (state r.program retired)) ≡ true
  pub early : retired < r.limit
  pub drained : done ≡ transaction_count r.program retired

-- what lies behind a moment: at most as many instructions are retired as the limit, and the program ends by none of
-- them; at most three transactions are pending; the mark of the end is there only at the end, that of a bubble only
-- behind a branch without a delay slot, and never both; as many transactions are done at least as were answered with
-- data and as data faults have records; at most as many bytes were put out as instructions are retired
pub record HasPast (r : Run) (m : Moment) : Type 0 where
  pub within : m.retired ≤ r.limit
  pub retired : HasInstructions r.program m.retired
  pub pending : transaction_count r.program m.retired ≤ m.done + most_pending
  pub ended : m.ended ≡ true → IsAtEnd r m.retired m.done
  pub bubbled : m.bubble ≡ true → IsBehindBranch r.program m.retired
  pub unbubbled : m.ended ≡ true → m.bubble ≡ false
  pub counted : m.answers + length m.records ≤ m.done
  pub put_out : length (state r.program m.retired).out ≤ m.retired
