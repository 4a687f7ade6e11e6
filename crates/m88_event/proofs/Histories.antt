-- Along any history, a choice takes what a moment looks like to what the next looks like.
use Rattle.std.specs.Prelude.{ℕ, zero, suc, Bool, true, false, not, List, [], ◌∷◌, ◌++◌, Option, Some, None, ◌≡◌, ◌≢◌, ◌<◌, ◌≤◌, ◌+◌, ◌-◌, ◌==◌, ◌&&◌, ◌||◌, drop, is_some, length, take, if◌then◌else◌}
use Rattle.std.proofs.Common.{arith, add-one, length-append, refl, sym, ap, ap₂, ◌∙◌}
use Rattle.std.proofs.Math.Path.{fun_ext}
use Rattle.std.proofs.lemmas.Bool.Decides.{nat_tests}
use Rattle.std.proofs.lemmas.List.{append-nil, drop-append-le, drop_all, length-drop}
use Rattle.m88_base.specs.Pages.{every_page, page_number}
use Rattle.m88_isa.specs.Bus.{bus_after_all, in_words}
use Rattle.m88_isa.specs.Effect.{Change}
use Rattle.m88_isa.specs.Held.{Hold, is_pending}
use Rattle.m88_isa.specs.History.{after_turn, completed_state, turn_accesses}
use Rattle.m88_isa.specs.Machine.{Turn, changes, opening, outputs, stops, turn_at}
use Rattle.m88_isa.specs.declared.planned.Access.{Access}
use Rattle.m88_event.specs.Choice.{Choice, answer_choice, choice_of, evicts, faults, finishes, issue_choice, issues, next_choice, replies, serves, touches_page, turn_choice}
use Rattle.m88_event.specs.Local.{is_over_by, local_along, move, move_by, situation_of, with_move_counted}
use Rattle.m88_event.specs.Run.{HasEventsBy, IsFirst, outcome_by, outcome_along}
use Rattle.m88_event.specs.Shadow.{retired_pointer}
use Rattle.m88_event.specs.Situation.{Situation, record_of}
use Rattle.m88_event.specs.Timeline.{History, Moment, Run, absent_at, after_choice, end_along, end_of_turn, is_over_along, pending_along, situation_along, with_event, xip_along}
use Rattle.m88_event.specs.declared.happened.End.{End}
use Rattle.m88_event.specs.declared.letter.Letter.{Letter}
use Rattle.m88_event.specs.declared.letter.Letter.TheVariants.{Issue, Answer, Evict}
use Rattle.m88_event.specs.declared.record.Record.{Record}

-- whether the program has ended is seen
ended_seen : (ended : Bool) (end : End) → is_some (if ended then Some end else None) ≡ ended
ended_seen true end = refl
ended_seen false end = refl

pub end_seen : (h : History) (m : Moment) → is_some (end_along h m) ≡ m.ended
end_seen h m = ended_seen m.ended (end_of_turn (turn_at h.program (h.state m.retired)))

-- nothing is pending exactly where all transactions are done
pub none_left : (done : ℕ) (xs : List Access) → done ≤ length xs → not (is_pending (drop done xs)) ≡ (done == length xs)
none_left done xs within = by_left (drop done xs) (length-drop done xs)
  where
    by_left : (left : List Access) → length left ≡ length xs - done → not (is_pending left) ≡ (done == length xs)
    by_left [] e = let all : done ≡ length xs = omega (arith, e, within) in grind (arith, nat_tests)
    by_left (x ∷ left) e = let some : done ≢ length xs = omega (arith, e) in grind (arith, nat_tests)

-- what is seen of a moment of a run along a history
module _ (h : History) (words : ℕ → ℕ → ℕ → ℕ) (r : Run) (m : Moment) where
  -- what the next event depends on is what is seen of it
  pub situation_seen : situation_of r.limit (local_along h words r m) ≡ situation_along h r m
  unfolding situation_of completed_state
  situation_seen = ap (λ (ended : Bool). record (situation_along h r m) { idle = ended || m.retired == r.limit }) (end_seen h m)

  -- whether a run is over is seen, and what it comes to
  pub over_seen : m.done ≤ length (h.made m.retired) → is_over_by r.limit (local_along h words r m) ≡ is_over_along h r m
  over_seen within =
      ap₂ (λ none ended. none && (ended || m.retired == r.limit)) (none_left m.done (h.made m.retired) within) (end_seen h m)

  pub outcome_is_seen : outcome_by (in_words (opening h.program).memory) (local_along h words r m) ≡ outcome_along h m
  unfolding outcome_by completed_state
  outcome_is_seen = refl

pub run_is_seen : (h : History) (words : ℕ → ℕ → ℕ → ℕ) (r : Run) (moments : ℕ → Moment) (events : ℕ) →
    ((k : ℕ) → (moments k).done ≤ length (h.made (moments k).retired)) →
    IsFirst (λ k. is_over_along h r (moments k)) events → HasEventsBy r.limit (λ k. local_along h words r (moments k)) events
run_is_seen h words r moments events within run = record {
  here = over_seen h words r (moments events) (within events) ∙ run.here;
  first = λ k less. over_seen h words r (moments k) (within k) ∙ run.first k less;
}

-- a choice is one that a moment of a history may have: what is issued, served or ended by is the program's turn there, which
-- goes on only where the program hasn't ended, and something is pending where the oldest transaction is answered
abbrev pub FitsAlong : History → Moment → Choice → Type 0
FitsAlong h m (issues change) = (turn_at h.program (h.state m.retired) ≡ changes change) × (m.ended ≡ false)
FitsAlong h m (serves byte) = (turn_at h.program (h.state m.retired) ≡ outputs byte) × (m.ended ≡ false)
FitsAlong h m (finishes stop) = (turn_at h.program (h.state m.retired) ≡ stops stop) × (m.ended ≡ false)
FitsAlong h m replies = m.done < length (h.made m.retired)
FitsAlong h m faults = m.done < length (h.made m.retired)
FitsAlong h m _ = Unit {0}

-- where instructions may be issued, the program lives
lives_of : (ended reached : Bool) → (ended || reached) ≡ false → ended ≡ false
lives_of true reached h = h
lives_of false reached h = refl

some_left : (xs : List Access) (n : ℕ) → 1 ≤ length (drop n xs) → n < length xs
some_left xs n h = let e = length-drop n xs in omega (arith, e)

module _ (h : History) (m : Moment) where
  by_turn : (turn : Turn) → turn_at h.program (h.state m.retired) ≡ turn → m.ended ≡ false → FitsAlong h m (turn_choice turn)
  by_turn (changes change) e lives = (e, lives)
  by_turn _ e lives = (e, lives)

  by_hold : (why : Option Hold) (turn : Turn) → turn_at h.program (h.state m.retired) ≡ turn → m.ended ≡ false →
      FitsAlong h m (next_choice why turn)
  by_hold None turn e lives = by_turn turn e lives
  by_hold (Some why) turn e lives = tt

  by_issue : (idle bubble : Bool) (why : Option Hold) (turn : Turn) → turn_at h.program (h.state m.retired) ≡ turn →
      (idle ≡ false → m.ended ≡ false) → FitsAlong h m (issue_choice idle bubble why turn)
  by_issue true bubble why turn e lives = tt
  by_issue false true why turn e lives = tt
  by_issue false false why turn e lives = by_hold why turn e (lives refl)

  by_page : (absent : Bool) → m.done < length (h.made m.retired) → FitsAlong h m (if absent then faults else replies)
  by_page true some = some
  by_page false some = some

  by_oldest : (pending : List Access) (absent : ℕ → Bool) → (1 ≤ length pending → m.done < length (h.made m.retired)) →
      FitsAlong h m (answer_choice pending absent)
  by_oldest [] absent some = tt
  by_oldest (x ∷ xs) absent some = by_page (absent (page_number x.addr)) (some (omega arith))

  pub fits_along : (r : Run) (letter : Letter) → FitsAlong h m (choice_of h.program letter (situation_along h r m))
  fits_along r Issue = by_issue _ _ _ _ refl (lives_of m.ended (m.retired == r.limit))
  fits_along r Answer = by_oldest _ _ (some_left (h.made m.retired) m.done)
  fits_along r Evict = tt

-- a step of a history is that of the machine alone by a turn: so are the state, the transactions and the words
pub record IsStep (h : History) (words : ℕ → ℕ → ℕ → ℕ) (m : Moment) (turn : Turn) : Type 0 where
  pub reached : completed_state (h.state (m.retired + 1)) ≡ after_turn turn (completed_state (h.state m.retired))
  pub made : h.made (m.retired + 1) ≡ h.made m.retired ++ turn_accesses turn
  pub kept : words m.retired m.done ≡ words (m.retired + 1) m.done

-- the words of a history at a moment: no more transactions are done than were made, instructions that change something or
-- put a byte out are the machine's, and transactions change the words as they are done
pub record AreWords (h : History) (words : ℕ → ℕ → ℕ → ℕ) (m : Moment) : Type 0 where
  pub within : m.done ≤ length (h.made m.retired)
  pub changed : (change : Change) → turn_at h.program (h.state m.retired) ≡ changes change → IsStep h words m (changes change)
  pub put_out : (byte : ℕ) → turn_at h.program (h.state m.retired) ≡ outputs byte → IsStep h words m (outputs byte)
  pub answered : m.done < length (h.made m.retired)
      → bus_after_all (take 1 (pending_along h m)) (words m.retired m.done) ≡ words m.retired (m.done + 1)
  pub finished : bus_after_all (pending_along h m) (words m.retired m.done) ≡ words m.retired (length (h.made m.retired))

-- the instruction retired last
pub next_xip : (h : History) (n : ℕ) → retired_pointer (h.state n).pc ≡ xip_along h (n + 1)
unfolding xip_along
next_xip h n = rw add-one refl

-- one transaction more is done
pub split_drop : (done : ℕ) (xs : List Access) → drop 1 (drop done xs) ≡ drop (suc done) xs
split_drop zero xs = refl
split_drop (suc done) [] = refl
split_drop (suc done) (x ∷ xs) = split_drop done xs

-- a page is absent that was and isn't supplied now
supplied_more : (named supplied touched : Bool) → (named && not supplied) && not touched ≡ named && not (supplied || touched)
supplied_more true true touched = refl
supplied_more true false touched = refl
supplied_more false true touched = refl
supplied_more false false touched = refl

pub supplied : (r : Run) (m : Moment) (touched : ℕ → Bool) →
    (λ page. absent_at r m page && not (touched page))
    ≡ absent_at r (record m { supplied = λ page. m.supplied page || touched page })
supplied r m touched =
    fun_ext (λ page. supplied_more (if m.evicted then every_page page else r.absent page) (m.supplied page) (touched page))

-- every page is absent where none was supplied
all_absent : (page : Bool) → page ≡ page && not false
all_absent true = refl
all_absent false = refl

-- as long as the program goes on, it has no end
no_end : (ended : Bool) (here next : End) → ended ≡ false →
    (if ended then Some here else None) ≡ (if ended then Some next else None)
no_end true here next h = absurd cc
no_end false here next h = refl

module _ (h : History) (words : ℕ → ℕ → ℕ → ℕ) (r : Run) (m : Moment) (are : AreWords h words m) where
  -- an instruction is retired: its accesses join the pending ones
  goes_on : (turn : Turn) (bubble : Bool) (pending : List Access) → m.ended ≡ false → IsStep h words m turn →
      pending ≡ pending_along h m ++ turn_accesses turn →
      record (local_along h words r m) {
        completed = after_turn turn (completed_state (h.state m.retired));
        pending = pending;
        xip = retired_pointer (h.state m.retired).pc;
        bubble = bubble;
        retired = m.retired + 1;
      }
      ≡ local_along h words r (record m { retired = m.retired + 1; bubble = bubble })
  goes_on turn bubble pending lives step joined =
      let pends = joined ∙ sym (drop-append-le m.done (h.made m.retired) (turn_accesses turn) are.within)
      ∙ ap (drop m.done) (sym step.made) in
      let xip = next_xip h m.retired in
      let ended = no_end m.ended (end_of_turn (turn_at h.program (h.state m.retired)))
      (end_of_turn (turn_at h.program (h.state (m.retired + 1)))) lives in
      λ i. record (local_along h words r m) {
        completed = sym step.reached i;
        bus = step.kept i;
        pending = pends i;
        xip = xip i;
        bubble = bubble;
        ended = ended i;
        retired = m.retired + 1;
      }

  -- what a choice makes of what is seen of a moment is what is seen of what it makes of the moment
  pub choice_seen : (choice : Choice) (fault : Record) → FitsAlong h m choice →
      move_by choice fault (local_along h words r m) ≡ local_along h words r (after_choice (pending_along h m) choice fault m)
  unfolding completed_state
  choice_seen (issues change) fault fit =
      goes_on (changes change) change.bubble _ fit.1 (are.changed change fit.0) refl
  choice_seen (serves byte) fault fit =
      goes_on (outputs byte) false _ fit.1 (are.put_out byte fit.0) (sym (append-nil (pending_along h m)))
  choice_seen (finishes stop) fault fit =
      ap (λ (turn : Turn). record (local_along h words r m) { ended = Some (end_of_turn turn) }) (sym fit.0)
  choice_seen replies fault fit =
      let pending = split_drop m.done (h.made m.retired) ∙ ap (λ k. drop k (h.made m.retired)) (sym (add-one m.done)) in
      λ i. record (local_along h words r m) {
        bus = are.answered fit i;
        pending = pending i;
        done = m.done + 1;
        answers = m.answers + 1;
      }
  choice_seen faults fault fit =
      let left = length-drop m.done (h.made m.retired) in
      let within = are.within in
      let done : length (h.made m.retired) ≡ m.done + length (pending_along h m) = omega (arith, left, within) in
      let bus = are.finished ∙ ap (words m.retired) done in
      let pending = sym (drop_all (m.done + length (pending_along h m)) (h.made m.retired) (omega (arith, done))) in
      let absent = supplied r m (touches_page (pending_along h m)) in
      λ i. record (local_along h words r m) {
        bus = bus i;
        pending = pending i;
        absent = absent i;
        done = m.done + length (pending_along h m);
        records = m.records ++ (fault ∷ []);
      }
  choice_seen evicts fault fit =
      ap (λ (absent : ℕ → Bool). record (local_along h words r m) { absent = absent }) (fun_ext (λ page. all_absent (every_page page)))
  choice_seen _ fault fit = refl

  -- the moment behind a letter, and what is seen of it
  pub law_along : (letter : Letter) →
      move h.program r.limit letter (local_along h words r m)
      ≡ local_along h words r (with_event (after_choice (pending_along h m) (choice_of h.program letter (situation_along h r m))
      (record_of h.program (situation_along h r m)) m))
  unfolding move
  law_along letter =
      ap (λ (s : Situation). with_move_counted (move_by (choice_of h.program letter s) (record_of h.program s) (local_along h words r m)))
      (situation_seen h words r m)
      ∙ ap with_move_counted (choice_seen (choice_of h.program letter (situation_along h r m))
      (record_of h.program (situation_along h r m)) (fits_along h m r letter))

-- no more transactions are done than were made, at the next moment too
pub within_along : (h : History) (m : Moment) (choice : Choice) (fault : Record) →
    m.done ≤ length (h.made m.retired) →
    FitsAlong h m choice →
    ((turn : Turn) → turn_at h.program (h.state m.retired) ≡ turn → h.made (m.retired + 1) ≡ h.made m.retired ++ turn_accesses turn) →
    (after_choice (pending_along h m) choice fault m).done ≤ length (h.made (after_choice (pending_along h m) choice fault m).retired)
within_along h m (issues change) fault kept fit more =
    let longer = ap length (more (changes change) fit.0) in
    let split = length-append (h.made m.retired) (turn_accesses (changes change)) in
    omega (arith, longer, split, kept)
within_along h m (serves byte) fault kept fit more =
    let longer = ap length (more (outputs byte) fit.0) in
    let split = length-append {A = Access} (h.made m.retired) [] in
    omega (arith, longer, split, kept)
within_along h m replies fault kept fit more = omega (arith, fit)
within_along h m faults fault kept fit more =
    let left = length-drop m.done (h.made m.retired) in omega (arith, left, kept)
within_along h m _ fault kept fit more = kept
