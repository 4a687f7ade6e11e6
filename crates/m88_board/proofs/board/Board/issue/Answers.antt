-- What the letter `i` comes to.
use Rattle.std.proofs.Common.{◌≡◌, ◌<◌, ◌^◌, ◌∙◌, ℕ, Bool, Some, ap, arith, not, refl, subst, sym, true}
use Rattle.std.specs.Int.{to_be_bytes, w32}
use Rattle.m88_base.specs.Image.{byte_at}
use Rattle.m88_base.specs.declared.slot.Slot.{Slot}
use Rattle.m88_event.specs.Choice.{idles, passes}
use Rattle.m88_event.specs.Local.{choice_by, record_by}
use Rattle.m88_event.specs.declared.letter.Letter.TheVariants.{Issue}
use Rattle.m88_isa.specs.Machine.{by_vector, four_bytes}
use Rattle.m88_board.proofs.Brought.{brought, stopping_issues_none, tells_none}
use Rattle.m88_board.proofs.Choosing.{did_by}
use Rattle.m88_board.proofs.Fetching.{idles_by, next_due, passes_by, raise_found, turn_found, vector_small}
use Rattle.m88_board.proofs.Telling.{stopped_stays, word_told}
use Rattle.m88_board.specs.Board.{BoardView, local_of, pc_of}
use Rattle.m88_board.specs.Inside.Briefly.{happened_of}
use Rattle.m88_board.specs.Inside.Turns.{stopping}
use Rattle.m88_board.specs.contracts.board.Board.{the_view}
use Rattle.m88_board.specs.declared.brief.Brief.TheVariants as brief
use Rattle.m88_board.proofs.board.Board.issue.Goals as goal

pub returns-then-is_idle-clause-brings : goal.returns-then-is_idle-clause-brings
returns-then-is_idle-clause-brings c =
    let b = c.args.self.now in
    brought Issue idles b brief.Idle b (λ p of. idles_by p b (sym c.is_idle.ensures ∙ c.if-is_idle.true))
    (λ fault. record { says = refl; does = record { moved = refl; same = record { limit = refl; mxm = refl; named = refl; image = refl; begun = refl } } })
    (λ still. refl) refl

pub returns-then-is_idle-clause-tells : goal.returns-then-is_idle-clause-tells
returns-then-is_idle-clause-tells c = record {
  word = λ p of went. absurd went;
  changes = tells_none idles c.args.self.now c.args.told.now
      (λ p of. idles_by p c.args.self.now (sym c.is_idle.ensures ∙ c.if-is_idle.true)) (λ change issued. absurd cc);
}

pub returns-then-not-candidate-clause-tells : goal.returns-then-not-candidate-clause-tells
returns-then-not-candidate-clause-tells c =
    let b = c.args.self.now in
    let seen = ap (λ (s : Slot). s.v) c.candidate.ensures.value
    ∙ ap (λ (x : BoardView). x.slots.nip.v) c.self.view_is in
    record {
      word = λ p of went. absurd went;
      changes = tells_none passes b c.args.told.now
          (λ p of. passes_by p b (sym c.is_idle.ensures ∙ c.if-is_idle.false)
          (subst (λ (v : Bool). not v ≡ true) seen c.if-not-candidate.true)) (λ change issued. absurd cc);
    }

pub fetch-requires : goal.fetch-requires
fetch-requires c =
    next_due (the_view c.self.inside) c.args.self.now c.candidate.result c.self.view_is c.candidate.ensures.value
    c.if-not-candidate.false (sym c.is_idle.ensures ∙ c.if-is_idle.false)

pub take_turn-taken-requires-clause-turn : goal.take_turn-taken-requires-clause-turn
take_turn-taken-requires-clause-turn c =
    rw (c.fetch.ensures.stays)
    (turn_found c.in-Ok.line c.args.self.now (rw (c.in-Ok.is) at c.fetch.ensures.found) (omega arith))

pub raise-requires-clause-vector : goal.raise-requires-clause-vector
raise-requires-clause-vector c =
    let found = rw (c.in-Err.is) at c.fetch.ensures.found in
    vector_small c.args.self.now.memory.image (pc_of c.args.self.now.slots) c.in-Err.vector found.found_there

pub raise-requires-clause-due : goal.raise-requires-clause-due
raise-requires-clause-due c = rw (c.fetch.ensures.stays) c.fetch.ensures.found.due

pub raise-requires-clause-comes : goal.raise-requires-clause-comes
raise-requires-clause-comes c =
    rw (c.fetch.ensures.stays) (raise_found c.in-Err.vector c.args.self.now (rw (c.in-Err.is) at c.fetch.ensures.found))

pub returns-in-Err-clause-brings : goal.returns-in-Err-clause-brings
returns-in-Err-clause-brings c = rw (← c.fetch.ensures.stays) c.raise.ensures

pub returns-in-Err-clause-tells : goal.returns-in-Err-clause-tells
returns-in-Err-clause-tells c =
    let b = c.args.self.now in
    let stop = by_vector c.in-Err.vector (pc_of b.slots) in
    let comes = raise_found c.in-Err.vector b (rw (c.in-Err.is) at c.fetch.ensures.found) in
    let raised = rw (c.fetch.ensures.stays) at c.raise.ensures in
    record {
      word = λ p of went. absurd (stopped_stays stop b.pending (record_by p b.limit (local_of b)) b c.raise.new.self
          (happened_of c.raise.result c.raise.new.self)
          (did_by (stopping stop b.pending) (choice_by p b.limit Issue (local_of b)) _ b _ c.raise.new.self
          (sym (comes p of))
          (raised.did p of)) went);
      changes = tells_none (stopping stop b.pending) b c.args.told.now comes (stopping_issues_none stop b.pending);
    }

pub returns-in-Ok-clause-brings : goal.returns-in-Ok-clause-brings
returns-in-Ok-clause-brings c = rw (← c.fetch.ensures.stays) c.take_turn-taken.ensures.brings

pub returns-in-Ok-clause-tells : goal.returns-in-Ok-clause-tells
returns-in-Ok-clause-tells c =
    let image = c.args.self.now.memory.image in
    let line = c.in-Ok.line in
    let found = rw (c.in-Ok.is) at c.fetch.ensures.found.found_there in
    let tells = rw (c.fetch.ensures.stays) at c.take_turn-taken.ensures.tells in
    let small : line.word < 2 ^ 32 = omega arith in
    record {
      word = λ p of. word_told c.take_turn-taken.result c.take_turn-taken.new.self _ line.word
          (small, subst (λ (a : ℕ). four_bytes (byte_at image) a ≡ Some (to_be_bytes w32 line.word)) found.0 found.1.word);
      changes = record { plan = tells.plan; made = tells.made };
    }
