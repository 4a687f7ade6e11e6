-- A move takes what a moment of the sequential machine's history looks like to what the next looks like.
use Rattle.std.specs.Prelude.{ℕ, zero, suc, List, [], ◌∷◌, ◌++◌, ◌≡◌, ◌≤◌, ◌+◌, drop, is_some, take}
use Rattle.std.proofs.Common.{arith, add-one, refl, sym, ap, ◌∙◌}
use Rattle.std.proofs.lemmas.List.{take-append-drop, take-append-le, take_all}
use Rattle.m88_isa.proofs.Laws.{bus_of_append, state_agrees}
use Rattle.m88_isa.specs.Bus.{bus_after_all, in_words}
use Rattle.m88_isa.specs.History.{after_turn, bus_at, completed_state, pending_at, transaction_count, transactions, turn_accesses}
use Rattle.m88_isa.specs.Machine.{IsProgram, Program, Turn, changes, opening, outputs, state, turn_at}
use Rattle.m88_isa.specs.declared.planned.Access.{Access}
use Rattle.m88_event.proofs.Histories.{FitsAlong, IsStep, end_seen, fits_along, law_along, situation_seen, within_along}
use Rattle.m88_event.specs.Choice.{Choice, choice_of, said}
use Rattle.m88_event.specs.Letters.{letter_at}
use Rattle.m88_event.specs.Local.{local_at, move, said_by, situation_of}
use Rattle.m88_event.specs.Run.{moment_after, moment_along}
use Rattle.m88_event.specs.Situation.{Situation, record_of}
use Rattle.m88_event.specs.Timeline.{DoneWereMade, Moment, Run, after_letter, end_at, history, opening_moment, said_at, situation_at}
use Rattle.m88_event.specs.declared.letter.Letter.{Letter}

pub ended_is : (p : Program) (m : Moment) → is_some (end_at p m) ≡ m.ended
ended_is p = end_seen (history p)

-- what the next event depends on is what is seen of it
pub same_situation : (r : Run) (m : Moment) → situation_of r.limit (local_at r m) ≡ situation_at r m
unfolding situation_at local_at
same_situation r = situation_seen (history r.program) (bus_at r.program) r

-- a choice is one that a moment may have
abbrev pub Fits : Program → Moment → Choice → Type 0
Fits p = FitsAlong (history p)

pub fits : (r : Run) (letter : Letter) (m : Moment) → Fits r.program m (choice_of r.program letter (situation_at r m))
unfolding situation_at
fits r letter m = fits_along (history r.program) m r letter

-- the transactions behind one more step
pub more_transactions : (p : Program) (n : ℕ) (turn : Turn) → turn_at p (state p n) ≡ turn →
    transactions p (n + 1) ≡ transactions p n ++ turn_accesses turn
unfolding transactions
more_transactions p n turn e = rw (add-one, e) refl

more_state : (p : Program) (n : ℕ) (turn : Turn) → IsProgram p → turn_at p (state p n) ≡ turn →
    completed_state (state p (n + 1)) ≡ after_turn turn (completed_state (state p n))
more_state p n turn bytes e = rw (add-one, ← e) (state_agrees p n bytes)

-- where the first so many are done, a turn's accesses leave memory as it is
same_bus : (p : Program) (n done : ℕ) (turn : Turn) → turn_at p (state p n) ≡ turn → done ≤ transaction_count p n →
    bus_at p n done ≡ bus_at p (n + 1) done
same_bus p n done turn e h =
    ap (λ xs. bus_after_all xs (in_words (opening p).memory))
    (sym (take-append-le done (transactions p n) (turn_accesses turn) h) ∙ ap (take done) (sym (more_transactions p n turn e)))

one_step : (p : Program) (m : Moment) (turn : Turn) → IsProgram p → DoneWereMade p m → turn_at p (state p m.retired) ≡ turn →
    IsStep (history p) (bus_at p) m turn
one_step p m turn bytes made e = record {
  reached = more_state p m.retired turn bytes e;
  made = more_transactions p m.retired turn e;
  kept = same_bus p m.retired m.done turn e made;
}

-- one transaction more is done
split_take : (done : ℕ) (xs : List Access) → take (suc done) xs ≡ take done xs ++ take 1 (drop done xs)
split_take zero xs = refl
split_take (suc done) [] = refl
split_take (suc done) (x ∷ xs) = ap (λ ys. x ∷ ys) (split_take done xs)

pub answered_bus : (p : Program) (n done : ℕ) → bus_after_all (take 1 (pending_at p n done)) (bus_at p n done) ≡ bus_at p n (done + 1)
answered_bus p n done = rw add-one (
    sym (bus_of_append (take done (transactions p n)) (take 1 (pending_at p n done)) (in_words (opening p).memory))
    ∙ ap (λ xs. bus_after_all xs (in_words (opening p).memory)) (sym (split_take done (transactions p n))))

-- all that were pending are done
finished_bus : (p : Program) (n done : ℕ) → bus_after_all (pending_at p n done) (bus_at p n done) ≡ bus_at p n (transaction_count p n)
finished_bus p n done =
    sym (bus_of_append (take done (transactions p n)) (pending_at p n done) (in_words (opening p).memory))
    ∙ ap (λ xs. bus_after_all xs (in_words (opening p).memory)) (take-append-drop done (transactions p n) ∙ sym (take_all (transaction_count p n) (transactions p n) (omega arith)))

pub law : (r : Run) (letter : Letter) (m : Moment) → IsProgram r.program → DoneWereMade r.program m →
    move r.program r.limit letter (local_at r m) ≡ local_at r (after_letter r letter m)
unfolding local_at after_letter situation_at
law r letter m bytes made = law_along (history r.program) (bus_at r.program) r m (record {
  within = made;
  changed = λ change e. one_step r.program m (changes change) bytes made e;
  put_out = λ byte e. one_step r.program m (outputs byte) bytes made e;
  answered = λ some. answered_bus r.program m.retired m.done;
  finished = finished_bus r.program m.retired m.done;
}) letter

-- and it says the same
pub same_said : (r : Run) (letter : Letter) (m : Moment) →
    said_by r.program r.limit letter (local_at r m) ≡ said_at r letter m
unfolding said_by said_at
same_said r letter m =
    ap (λ (s : Situation). said (choice_of r.program letter s) (record_of r.program s)) (same_situation r m)

-- no more transactions are done than were made, at first and after each letter
pub stays_within : (r : Run) (letter : Letter) (m : Moment) → DoneWereMade r.program m →
    DoneWereMade r.program (after_letter r letter m)
unfolding after_letter
stays_within r letter m made =
    within_along (history r.program) m (choice_of r.program letter (situation_at r m)) (record_of r.program (situation_at r m)) made
    (fits r letter m) (more_transactions r.program m.retired)

pub begins_within : (p : Program) → DoneWereMade p opening_moment
begins_within p = omega arith

pub reached_within : (r : Run) (k : ℕ) → DoneWereMade r.program (moment_after r k)
unfolding moment_along
reached_within r zero = begins_within r.program
reached_within r (suc k) = stays_within r (letter_at r.schedule k) (moment_after r k) (reached_within r k)
