-- The exception that the letter `i` takes, if it takes one.
use Rattle.std.proofs.Common.{ap, not, refl, sym, ◌∙◌}
use Rattle.m88_base.specs.declared.slot.Slot.{Slot}
use Rattle.m88_event.specs.Choice.{idles, passes}
use Rattle.std.specs.Prelude.{ℕ, [], Option, Some, None, IfSome, ◌≡◌}
use Rattle.m88_board.proofs.Choosing.{none_pending}
use Rattle.m88_board.proofs.Fetching.{idles_by, next_due, passes_by}
use Rattle.m88_board.proofs.Handing.{pending_takes_none, raise_taken, takes_by}
use Rattle.m88_board.proofs.Going.{not_ended}
use Rattle.m88_board.specs.Board.{BoardView}
use Rattle.m88_board.specs.Handed.{IsMidway}
use Rattle.m88_board.specs.Inside.Turns.{IsDue}
use Rattle.m88_board.proofs.board.Board.next_vector.Goals as goal

pub returns-then-is_idle-clause-takes : goal.returns-then-is_idle-clause-takes
returns-then-is_idle-clause-takes c =
    takes_by c.args.self.now idles None (λ p of. idles_by p c.args.self.now (sym c.is_idle.ensures ∙ c.if-is_idle.true)) refl

pub returns-then-is_pending-clause-takes : goal.returns-then-is_pending-clause-takes
returns-then-is_pending-clause-takes c = pending_takes_none c.args.self.now (sym c.is_pending.ensures ∙ c.if-is_pending.true)

pub returns-then-not-candidate-clause-takes : goal.returns-then-not-candidate-clause-takes
returns-then-not-candidate-clause-takes c =
    let b = c.args.self.now in
    let seen = ap (λ (s : Slot). s.v) c.candidate.ensures.value ∙ ap (λ (x : BoardView). x.slots.nip.v) c.self.view_is in
    takes_by b passes None (λ p of. passes_by p b (sym c.is_idle.ensures ∙ c.if-is_idle.false)
    (ap not (sym seen) ∙ c.if-not-candidate.true)) refl

pub upcoming-requires : goal.upcoming-requires
upcoming-requires c =
    next_due _ c.args.self.now c.candidate.result c.self.view_is c.candidate.ensures.value c.if-not-candidate.false
    (sym c.is_idle.ensures ∙ c.if-is_idle.false)

pub vector_in_turn-requires-clause-empty : goal.vector_in_turn-requires-clause-empty
vector_in_turn-requires-clause-empty c = none_pending c.args.self.now.pending (sym c.is_pending.ensures ∙ c.if-is_pending.false)

pub returns-in-Err-clause-takes : goal.returns-in-Err-clause-takes
returns-in-Err-clause-takes c =
    raise_taken c.args.self.now c.in-Err.vector
    (none_pending c.args.self.now.pending (sym c.is_pending.ensures ∙ c.if-is_pending.false)) c.in-Err.ensures

-- a fact about a value, if there is one
if_some : {A : Type 0} (o : Option ℕ) → A → IfSome o (λ n. A)
if_some None fact = tt
if_some (Some n) fact = fact

-- where it takes one, it stands between two instructions
due : (b : BoardView) → IsDue b → b.pending ≡ [] → IsMidway b
due b is none = record { going = not_ended b is.going; empty = none; valid = is.valid }

pub returns-in-Ok-clause-midway : goal.returns-in-Ok-clause-midway
returns-in-Ok-clause-midway c =
    if_some c.vector_in_turn.result (due c.args.self.now (next_due _ c.args.self.now c.candidate.result c.self.view_is c.candidate.ensures.value
    c.if-not-candidate.false (sym c.is_idle.ensures ∙ c.if-is_idle.false))
    (none_pending c.args.self.now.pending (sym c.is_pending.ensures ∙ c.if-is_pending.false)))

pub returns-in-Err-clause-midway : goal.returns-in-Err-clause-midway
returns-in-Err-clause-midway c =
    due c.args.self.now (next_due _ c.args.self.now c.candidate.result c.self.view_is c.candidate.ensures.value
    c.if-not-candidate.false (sym c.is_idle.ensures ∙ c.if-is_idle.false))
    (none_pending c.args.self.now.pending (sym c.is_pending.ensures ∙ c.if-is_pending.false))
