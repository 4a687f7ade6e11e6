-- What lies behind a moment stays so: it holds of the first moment, and each letter keeps it; and each letter is one event.
use Rattle.std.specs.Prelude.{ℕ, zero, suc, Bool, true, false, List, [], ◌∷◌, Option, Some, None, ◌≡◌, ◌≢◌, ◌<◌, ◌≤◌, ◌+◌, ◌==◌, ◌&&◌, ◌||◌, length, if◌then◌else◌}
use Rattle.std.proofs.Common.{arith, refl, sym, ap, subst, length-append}
use Rattle.std.proofs.lemmas.Bool.{eqb-false, eqb-true, ltb-false}
use Rattle.std.proofs.lemmas.List.{length-drop, length-map}
use Rattle.m88_isa.proofs.Laws.{by_test}
use Rattle.m88_base.specs.Pages.{page_number}
use Rattle.m88_isa.specs.Held.{Hold, busy_register, exceeds, first_reason, held, instruction_at, is_pending, is_stop, most_pending, needs_empty}
use Rattle.m88_isa.specs.History.{pending_at, transaction_count, transactions, turn_accesses}
use Rattle.m88_isa.specs.Effect.{Change}
use Rattle.m88_isa.specs.Machine.{Program, State, Turn, after_change, after_touch, after_touches, changes, opening, outputs, state, state_after, stepped, stops, turn_at, with_written}
use Rattle.m88_isa.specs.Memory.{Touch, access_of}
use Rattle.m88_isa.specs.declared.instr.Instr.{Instr}
use Rattle.m88_isa.specs.declared.planned.Access.{Access}
use Rattle.m88_event.proofs.Follows.{Fits, fits, more_transactions, reached_within}
use Rattle.m88_event.proofs.Precise.{IsLastChoice, all_done}
use Rattle.m88_event.specs.Choice.{Choice, answer_choice, choice_of, evicts, faults, finishes, holds, idles, issue_choice, issues, next_choice, passes, replies, serves, turn_choice}
use Rattle.m88_event.specs.Letters.{letter_at}
use Rattle.m88_event.specs.Past.{HasInstructions, HasPast}
use Rattle.m88_event.specs.Run.{moment_after, moment_along}
use Rattle.m88_event.specs.Situation.{record_of}
use Rattle.m88_event.specs.Timeline.{DoneWereMade, Moment, Run, absent_at, after_choice, after_letter, is_idle, opening_moment, situation_at}
use Rattle.m88_event.specs.declared.letter.Letter.{Letter}
use Rattle.m88_event.specs.declared.letter.Letter.TheVariants.{Issue, Answer, Evict}
use Rattle.m88_event.specs.declared.record.Record.{Record}

-- a history has put out at most as many bytes as it made steps
touches_out : (ts : List Touch) (s : State) → (after_touches ts s).out ≡ s.out
touches_out [] s = refl
touches_out (t ∷ ts) s = touches_out ts (after_touch t s)

change_out : (c : Change) (s : State) → (after_change c s).out ≡ s.out
change_out c s =
    touches_out c.touches (record s {
      regs = with_written c.register s.regs;
      carry = c.carry;
      pc = c.after.0;
      next = c.after.1;
    })

turn_out : (turn : Turn) (s : State) (n : ℕ) → length s.out ≤ n → length (state_after (stepped turn s) s).out ≤ suc n
turn_out (changes change) s n h = let same = ap length (change_out change s) in omega (arith, h, same)
turn_out (outputs byte) s n h = let more = length-append s.out (byte ∷ []) in omega (arith, h, more)
turn_out (stops stop) s n h = omega (arith, h)

pub out_within : (p : Program) (n : ℕ) → length (state p n).out ≤ n
unfolding state opening
out_within p zero = omega arith
out_within p (suc n) = turn_out (turn_at p (state p n)) (state p n) n (out_within p n)

-- an instruction is issued, served or ended by only where more may be issued, and its accesses have room; the program
-- ends by none that is passed over
abbrev HasRoom : Run → Moment → Choice → Type 0
HasRoom r m (issues change) =
    (is_idle r m ≡ false) × (length (pending_at r.program m.retired m.done) + length change.touches ≤ most_pending)
HasRoom r m (serves byte) = is_idle r m ≡ false
HasRoom r m (finishes stop) = (is_idle r m ≡ false) × (m.bubble ≡ false)
HasRoom r m _ = Unit {0}

-- where nothing holds it, its accesses aren't too many
not_full : (least : Option ℕ) (no_room some : Bool) → first_reason least no_room some ≡ None → no_room ≡ false
not_full (Some register) no_room some h = absurd cc
not_full None true some h = absurd cc
not_full None false some h = refl

module _ (r : Run) (m : Moment) where
  room_of_turn : (turn : Turn) → is_idle r m ≡ false → m.bubble ≡ false →
      exceeds turn (length (pending_at r.program m.retired m.done)) ≡ false → HasRoom r m (turn_choice turn)
  room_of_turn (changes change) goes straight room =
      (goes, ltb-false most_pending (length (pending_at r.program m.retired m.done) + length change.touches) room)
  room_of_turn (outputs byte) goes straight room = goes
  room_of_turn (stops stop) goes straight room = (goes, straight)

  room_of_next : (i : Option Instr) (turn : Turn) (why : Option Hold) →
      held i turn (pending_at r.program m.retired m.done) ≡ why → is_idle r m ≡ false → m.bubble ≡ false →
      HasRoom r m (next_choice why turn)
  room_of_next i turn None free goes straight =
      let pending : List Access = pending_at r.program m.retired m.done in
      room_of_turn turn goes straight
      (not_full (busy_register i pending) (exceeds turn (length pending)) (is_pending pending && needs_empty i turn) free)
  room_of_next i turn (Some why) free goes straight = tt

  room_of_issue : (i : Option Instr) (turn : Turn) (idle bubble : Bool) → is_idle r m ≡ idle → m.bubble ≡ bubble →
      HasRoom r m (issue_choice idle bubble (held i turn (pending_at r.program m.retired m.done)) turn)
  room_of_issue i turn true bubble goes passed = tt
  room_of_issue i turn false true goes passed = tt
  room_of_issue i turn false false goes straight =
      room_of_next i turn (held i turn (pending_at r.program m.retired m.done)) refl goes straight

  room_of_page : (absent : Bool) → HasRoom r m (if absent then faults else replies)
  room_of_page true = tt
  room_of_page false = tt

  room_of_answer : (pending : List Access) (absent : ℕ → Bool) → HasRoom r m (answer_choice pending absent)
  room_of_answer [] absent = tt
  room_of_answer (x ∷ xs) absent = room_of_page (absent (page_number x.addr))

  has_room : (letter : Letter) → HasRoom r m (choice_of r.program letter (situation_at r m))
  unfolding situation_at
  has_room Issue =
      room_of_issue (instruction_at r.program (state r.program m.retired).pc) (turn_at r.program (state r.program m.retired))
      (is_idle r m) m.bubble refl refl
  has_room Answer = room_of_answer (pending_at r.program m.retired m.done) (absent_at r m)
  has_room Evict = tt

-- where more may be issued, fewer instructions are retired than the limit
not_reached : (ended reached : Bool) → (ended || reached) ≡ false → reached ≡ false
not_reached true reached h = absurd cc
not_reached false reached h = h

fewer : (r : Run) (m : Moment) → m.retired ≤ r.limit → is_idle r m ≡ false → m.retired < r.limit
fewer r m within goes =
    let apart : m.retired ≢ r.limit = eqb-false m.retired r.limit (not_reached m.ended (m.retired == r.limit) goes) in
    omega (arith, within, apart)

-- one instruction more, by which the program doesn't end
one_more : (p : Program) (n : ℕ) → HasInstructions p n → is_stop (turn_at p (state p n)) ≡ false → HasInstructions p (n + 1)
one_more p n before here = λ k h. by_test (k == n)
    (λ last. subst (λ j. is_stop (turn_at p (state p j)) ≡ false) (sym (eqb-true k n last)) here)
    (λ earlier. let other = eqb-false k n earlier in before k (omega (arith, h, other)))

-- its accesses are pending then
more_pending : (p : Program) (m : Moment) (turn : Turn) → turn_at p (state p m.retired) ≡ turn →
    length (pending_at p m.retired m.done) + length (turn_accesses turn) ≤ most_pending →
    transaction_count p (m.retired + 1) ≤ m.done + most_pending
more_pending p m turn is room =
    let more = ap length (more_transactions p m.retired turn is) in
    let split = length-append (transactions p m.retired) (turn_accesses turn) in
    let left = length-drop m.done (transactions p m.retired) in
    omega (arith, more, split, left, room)

-- a choice keeps it
by_choice : (r : Run) (m : Moment) (choice : Choice) (fault : Record) → HasPast r m → Fits r.program m choice → HasRoom r m choice →
    (IsLastChoice choice → m.done ≡ transaction_count r.program m.retired) →
    HasPast r (after_choice (pending_at r.program m.retired m.done) choice fault m)
by_choice r m idles fault past fit room drained = past
by_choice r m passes fault past fit room drained = record {
  within = past.within;
  retired = past.retired;
  pending = past.pending;
  ended = past.ended;
  bubbled = λ bubble. absurd cc;
  unbubbled = λ ended. refl;
  counted = past.counted;
  put_out = past.put_out;
}
by_choice r m (holds why) fault past fit room drained = past
by_choice r m (issues change) fault past fit room drained =
    let less = fewer r m past.within room.0 in
    let accesses = length-map change.touches access_of in
    let most = room.1 in
    record {
      within = omega (arith, less);
      retired = one_more r.program m.retired past.retired (ap is_stop fit.0);
      pending = more_pending r.program m (changes change) fit.0 (omega (arith, accesses, most));
      ended = λ ended. absurd (let lives = fit.1 in cc);
      bubbled = λ bubble. record { before = m.retired; change = change; last = refl; turn = fit.0; flows = bubble };
      unbubbled = λ ended. absurd (let lives = fit.1 in cc);
      counted = past.counted;
      put_out = out_within r.program (m.retired + 1);
    }
by_choice r m (serves byte) fault past fit room drained =
    let less = fewer r m past.within room in
    let left = length-drop m.done (transactions r.program m.retired) in
    let most = past.pending in
    record {
      within = omega (arith, less);
      retired = one_more r.program m.retired past.retired (ap is_stop fit.0);
      pending = more_pending r.program m (outputs byte) fit.0 (omega (arith, left, most));
      ended = λ ended. absurd (let lives = fit.1 in cc);
      bubbled = λ bubble. absurd cc;
      unbubbled = λ ended. refl;
      counted = past.counted;
      put_out = out_within r.program (m.retired + 1);
    }
by_choice r m (finishes stop) fault past fit room drained = record {
  within = past.within;
  retired = past.retired;
  pending = past.pending;
  ended = λ ended. record { next = ap is_stop fit.0; early = fewer r m past.within room.0; drained = drained tt };
  bubbled = past.bubbled;
  unbubbled = λ ended. room.1;
  counted = past.counted;
  put_out = past.put_out;
}
by_choice r m replies fault past fit room drained =
    let most = past.pending in
    let told = past.counted in
    record {
      within = past.within;
      retired = past.retired;
      pending = omega (arith, most);
      ended = λ ended. absurd (let all = (past.ended ended).drained in omega (arith, all, fit));
      bubbled = past.bubbled;
      unbubbled = past.unbubbled;
      counted = omega (arith, told);
      put_out = past.put_out;
    }
by_choice r m faults fault past fit room drained =
    let told = past.counted in
    let more = length-append m.records (fault ∷ []) in
    let left = length-drop m.done (transactions r.program m.retired) in
    let most = past.pending in
    record {
      within = past.within;
      retired = past.retired;
      pending = omega (arith, most);
      ended = λ ended. let all = (past.ended ended).drained in absurd (omega (arith, all, fit));
      bubbled = past.bubbled;
      unbubbled = past.unbubbled;
      counted = omega (arith, told, more, left, fit);
      put_out = past.put_out;
    }
by_choice r m evicts fault past fit room drained = record {
  within = past.within;
  retired = past.retired;
  pending = past.pending;
  ended = past.ended;
  bubbled = past.bubbled;
  unbubbled = past.unbubbled;
  counted = past.counted;
  put_out = past.put_out;
}

pub keeps_past : (r : Run) (letter : Letter) (m : Moment) → DoneWereMade r.program m → HasPast r m → HasPast r (after_letter r letter m)
unfolding after_letter
keeps_past r letter m made past =
    let next = by_choice r m (choice_of r.program letter (situation_at r m)) (record_of r.program (situation_at r m)) past
    (fits r letter m) (has_room r m letter) (all_done r letter m made) in
    record {
      within = next.within;
      retired = next.retired;
      pending = next.pending;
      ended = next.ended;
      bubbled = next.bubbled;
      unbubbled = next.unbubbled;
      counted = next.counted;
      put_out = next.put_out;
    }

pub opens_with : (r : Run) → HasPast r opening_moment
unfolding transactions
opens_with r = record {
  within = omega arith;
  retired = λ k h. absurd (omega (arith, h));
  pending = omega arith;
  ended = λ ended. absurd cc;
  bubbled = λ bubble. absurd cc;
  unbubbled = λ ended. refl;
  counted = omega arith;
  put_out = out_within r.program 0;
}

-- what lies behind each moment of a run
pub past_after : (r : Run) (k : ℕ) → HasPast r (moment_after r k)
unfolding moment_along
past_after r zero = opens_with r
past_after r (suc k) = keeps_past r (letter_at r.schedule k) (moment_after r k) (reached_within r k) (past_after r k)

-- each event is counted
choice_events : (pending : List Access) (choice : Choice) (fault : Record) (m : Moment) →
    (after_choice pending choice fault m).events ≡ m.events
choice_events pending idles fault m = refl
choice_events pending _ fault m = refl

pub letter_events : (r : Run) (letter : Letter) (m : Moment) →
    (after_letter r letter m).events ≡ m.events + 1
unfolding after_letter
letter_events r letter m =
    ap (λ (n : ℕ). n + 1)
    (choice_events (pending_at r.program m.retired m.done) (choice_of r.program letter (situation_at r m))
    (record_of r.program (situation_at r m)) m)
