-- A run is over within the length of its schedule, eight events for each instruction that it may retire, and eight more.
use Rattle.std.specs.Prelude.{ℕ, suc, Bool, true, false, not, List, [], ◌∷◌, Option, Some, None, ◌≡◌, ◌≢◌, ◌<◌, ◌≤◌, ◌+◌, ◌-◌, ◌*◌, ◌%◌, ◌==◌, ◌&&◌, ◌||◌, is_some, length, map, nat_lt, if◌then◌else◌}
use Rattle.std.proofs.Common.{arith, length-append, refl, sym, ap, ◌∙◌, subst}
use Rattle.std.proofs.lemmas.Bool.{eqb-false, eqb-true, le-ltb, lt-ltb, ltb-false, ltb-true}
use Rattle.std.proofs.lemmas.List.{length-drop}
use Rattle.std.proofs.lemmas.Option.{slice_get_past}
use Rattle.m88_isa.proofs.Laws.{TurnFits, by_test, nothing_held, turn_fits}
use Rattle.m88_base.specs.Pages.{page_number}
use Rattle.m88_isa.specs.Held.{Hold, held, instruction_at, is_pending}
use Rattle.m88_isa.specs.History.{change_accesses}
use Rattle.m88_isa.specs.Machine.{IsProgram, Program, Turn, changes, outputs, stops}
use Rattle.m88_isa.specs.Memory.{Touch, access_of}
use Rattle.m88_isa.specs.declared.planned.Access.{Access}
use Rattle.m88_event.specs.Bound.{fuel, one_if, phase, turns_left, weight}
use Rattle.m88_event.specs.Choice.{Choice, answer_choice, choice_of, evicts, faults, finishes, holds, idles, issue_choice, issues, next_choice, next_turn, passes, replies, serves, turn_choice}
use Rattle.m88_event.specs.Letters.{letter_at}
use Rattle.m88_event.specs.Local.{Local, is_over_by, move, move_by, situation_of}
use Rattle.m88_event.specs.Situation.{record_of}
use Rattle.m88_event.specs.declared.letter.Letter.{Letter}
use Rattle.m88_event.specs.declared.letter.Letter.TheVariants.{Issue, Answer, Evict}
use Rattle.m88_event.specs.declared.record.Record.{Record}

-- a choice that makes the fuel less, and why it does; or, where it may, one that leaves the fuel as it is
abbrev pub Spends : Bool → ℕ → Local → Choice → Type 0
Spends may_stay limit l idles = may_stay ≡ true
Spends may_stay limit l passes = l.bubble ≡ true
Spends may_stay limit l (holds why) = may_stay ≡ true
Spends may_stay limit l (issues change) = (l.retired < limit) × (length change.touches ≤ 2)
Spends may_stay limit l (serves byte) = l.retired < limit
Spends may_stay limit l (finishes stop) = is_some l.ended ≡ false
Spends may_stay limit l replies = 1 ≤ length l.pending
Spends may_stay limit l faults = 1 ≤ length l.pending
Spends may_stay limit l evicts = may_stay ≡ true

pub one_at_most : (mark : Bool) → one_if mark ≤ 1
one_at_most true = omega arith
one_at_most false = omega arith

map_length : (ts : List Touch) → length (map access_of ts) ≡ length ts
map_length [] = refl
map_length (t ∷ ts) = ap suc (map_length ts)

never : {A : Type 0} → false ≡ true → A
never h = absurd cc

-- it takes at least one off the fuel, where it may not stay
spent : (may_stay : Bool) (limit : ℕ) (l : Local) (choice : Choice) (fault : Record) → Spends may_stay limit l choice →
    fuel limit (move_by choice fault l) + one_if (not may_stay) ≤ fuel limit l
unfolding fuel
spent true limit l idles fault h = omega arith
spent false limit l idles fault h = never h
spent may_stay limit l passes fault h = let most = one_at_most (not may_stay) in rw h (omega (arith, most))
spent true limit l (holds why) fault h = omega arith
spent false limit l (holds why) fault h = never h
spent may_stay limit l (issues change) fault h =
    let room = h.0 in
    let short = h.1 in
    let made = map_length change.touches in
    let joined = length-append l.pending (change_accesses change) in
    let new = one_at_most change.bubble in
    let most = one_at_most (not may_stay) in
    omega (arith, room, short, made, joined, new, most)
spent may_stay limit l (serves byte) fault h = let most = one_at_most (not may_stay) in omega (arith, h, most)
spent may_stay limit l (finishes stop) fault h = let most = one_at_most (not may_stay) in rw h (omega (arith, most))
spent may_stay limit l replies fault h =
    let left = length-drop 1 l.pending in
    let most = one_at_most (not may_stay) in
    omega (arith, left, h, most)
spent may_stay limit l faults fault h = let most = one_at_most (not may_stay) in omega (arith, h, most)
spent true limit l evicts fault h = omega arith
spent false limit l evicts fault h = never h

-- it is held, but then it may stay
abbrev pub MayBeHeld : Bool → Option Hold → Type 0
MayBeHeld may_stay None = Unit {0}
MayBeHeld may_stay (Some why) = may_stay ≡ true

-- where instructions may be issued, the program lives and the limit isn't reached
goes_of : (ended reached : Bool) → (ended || reached) ≡ false → (ended ≡ false) × (reached ≡ false)
goes_of true reached h = absurd cc
goes_of false reached h = (refl, h)

room_of : (limit : ℕ) (l : Local) → l.retired ≤ limit → (is_some l.ended || l.retired == limit) ≡ false → l.retired < limit
room_of limit l within h =
    let apart : l.retired ≢ limit = eqb-false l.retired limit (goes_of (is_some l.ended) (l.retired == limit) h).1 in
    omega (arith, within, apart)

module _ (may_stay : Bool) (limit : ℕ) (l : Local) where
  -- the letter `i`: what it does is the turn of the next instruction, unless something holds it
  turn_spends : (turn : Turn) → l.retired < limit → is_some l.ended ≡ false → TurnFits turn →
      Spends may_stay limit l (turn_choice turn)
  turn_spends (changes change) room lives fits = (room, fits.short)
  turn_spends (outputs byte) room lives short = room
  turn_spends (stops stop) room lives short = lives

  next_spends : (why : Option Hold) (turn : Turn) → l.retired < limit → is_some l.ended ≡ false → TurnFits turn →
      MayBeHeld may_stay why → Spends may_stay limit l (next_choice why turn)
  next_spends None turn room lives short may = turn_spends turn room lives short
  next_spends (Some why) turn room lives short may = may

  issue_spends : (idle bubble : Bool) (why : Option Hold) (turn : Turn) → l.retired ≤ limit →
      (is_some l.ended || l.retired == limit) ≡ idle → l.bubble ≡ bubble → TurnFits turn →
      (idle ≡ true → may_stay ≡ true) → MayBeHeld may_stay why →
      Spends may_stay limit l (issue_choice idle bubble why turn)
  issue_spends true bubble why turn within e b short may held = may refl
  issue_spends false true why turn within e b short may held = b
  issue_spends false false why turn within e b short may held =
      next_spends why turn (room_of limit l within e) (goes_of (is_some l.ended) (l.retired == limit) e).0 short held

  -- the letter `r` answers the oldest transaction, unless none is pending
  page_spends : (absent : Bool) → 1 ≤ length l.pending → Spends may_stay limit l (if absent then faults else replies)
  page_spends true h = h
  page_spends false h = h

  answer_spends : (pending : List Access) (absent : ℕ → Bool) → length l.pending ≡ length pending →
      (is_pending pending ≡ false → may_stay ≡ true) → Spends may_stay limit l (answer_choice pending absent)
  answer_spends [] absent e may = may refl
  answer_spends (x ∷ xs) absent e may = page_spends (absent (page_number x.addr)) (omega (arith, e))

always_may : (why : Option Hold) → MayBeHeld true why
always_may None = tt
always_may (Some why) = refl

free : (why : Option Hold) → why ≡ None → MayBeHeld false why
free None e = tt
free (Some why) e = absurd cc

empty : (pending : List Access) → is_pending pending ≡ false → pending ≡ []
empty [] h = refl
empty (x ∷ xs) h = absurd cc

-- no letter makes the fuel more
letter_stays : (p : Program) (limit : ℕ) (letter : Letter) (l : Local) → IsProgram p → l.retired ≤ limit →
    Spends true limit l (choice_of p letter (situation_of limit l))
unfolding situation_of
letter_stays p limit Issue l is within =
    issue_spends true limit l _ _ _ _ within refl refl (turn_fits p l.completed.regs l.completed.carry l.completed.mxm l.completed.pc l.completed.next is)
    (λ e. refl) (always_may _)
letter_stays p limit Answer l is within = answer_spends true limit l l.pending l.absent refl (λ e. refl)
letter_stays p limit Evict l is within = refl

-- `r` makes it less where something is pending
answer_less : (p : Program) (limit : ℕ) (l : Local) → is_pending l.pending ≡ true →
    Spends false limit l (choice_of p Answer (situation_of limit l))
unfolding situation_of
answer_less p limit l some = answer_spends false limit l l.pending l.absent refl (λ none. absurd cc)

-- `i` makes it less where nothing is pending and instructions may be issued
issue_less : (p : Program) (limit : ℕ) (l : Local) → IsProgram p → l.retired ≤ limit → is_pending l.pending ≡ false →
    (is_some l.ended || l.retired == limit) ≡ false →
    Spends false limit l (choice_of p Issue (situation_of limit l))
unfolding situation_of
issue_less p limit l is within none lives =
    let short = turn_fits p l.completed.regs l.completed.carry l.completed.mxm l.completed.pc l.completed.next is in
    let turn : Turn = next_turn p (situation_of limit l) in
    issue_spends false limit l _ _ _ _ within refl refl short
    (λ idle. absurd cc)
    (free _ (subst (λ xs. held (instruction_at p l.completed.pc) turn xs ≡ None) (sym (empty l.pending none))
    (nothing_held (instruction_at p l.completed.pc) turn short)))

-- the phases of the letters
inside_phase : (schedule : List Letter) (k : ℕ) (l : Local) → k < length schedule → phase schedule k l ≡ 1
inside_phase schedule k l h = rw (lt-ltb k (length schedule) h) refl

outside_phase : (schedule : List Letter) (k : ℕ) (l : Local) (answer pending : Bool) → length schedule ≤ k →
    ((k - length schedule) % 2 == 0) ≡ answer → is_pending l.pending ≡ pending →
    phase schedule k l ≡ turns_left false answer pending
outside_phase schedule k l answer pending h e some = rw (le-ltb k (length schedule) h, e, some) refl

next_phase : (schedule : List Letter) (k : ℕ) (l : Local) → k < length schedule → phase schedule (k + 1) l ≡ 1
next_phase schedule k l h = by_test (nat_lt (k + 1) (length schedule))
    (λ inside. inside_phase schedule (k + 1) l (ltb-true (k + 1) (length schedule) inside))
    (λ outside.
    let last : k + 1 - length schedule ≡ 0 = omega (arith, ltb-false (k + 1) (length schedule) outside) in
    outside_phase schedule (k + 1) l true (is_pending l.pending) (ltb-false (k + 1) (length schedule) outside)
    (ap (λ n. n % 2 == 0) last) refl)

-- behind the schedule `r` and `i` come in turn
pub behind : (schedule : List Letter) (k : ℕ) (answer : Bool) → length schedule ≤ k → ((k - length schedule) % 2 == 0) ≡ answer →
    letter_at schedule k ≡ (if answer then Answer else Issue)
unfolding letter_at
behind schedule k answer h e = rw (slice_get_past schedule k h, e) refl

other_turn : (k len : ℕ) (answer : Bool) → len ≤ k → ((k - len) % 2 == 0) ≡ answer → ((k + 1 - len) % 2 == 0) ≡ not answer
other_turn k len true h e =
    let even : (k - len) % 2 ≡ 0 = eqb-true ((k - len) % 2) 0 e in
    let odd : (k + 1 - len) % 2 ≡ 1 = omega (arith, even, h) in
    rw odd refl
other_turn k len false h e =
    let odd : (k - len) % 2 ≢ 0 = eqb-false ((k - len) % 2) 0 e in
    let even : (k + 1 - len) % 2 ≡ 0 = omega (arith, odd, h) in
    rw even refl

-- what a choice leaves of a view whose events are counted
after : Program → ℕ → Letter → Local → Local
after p limit letter l = move_by (choice_of p letter (situation_of limit l)) (record_of p (situation_of limit l)) l

same_fuel : (p : Program) (limit : ℕ) (letter : Letter) (l : Local) → fuel limit (move p limit letter l) ≡ fuel limit (after p limit letter l)
unfolding fuel move after
same_fuel p limit letter l = refl

pub fuel_stays : (p : Program) (limit : ℕ) (letter : Letter) (l : Local) → IsProgram p → l.retired ≤ limit →
    fuel limit (move p limit letter l) ≤ fuel limit l
unfolding after
fuel_stays p limit letter l is within =
    let less = spent true limit l (choice_of p letter (situation_of limit l)) (record_of p (situation_of limit l)) (letter_stays p limit letter l is within) in
    let same = same_fuel p limit letter l in
    omega (arith, less, same)

fuel_answered : (p : Program) (limit : ℕ) (l : Local) → is_pending l.pending ≡ true →
    fuel limit (move p limit Answer l) + 1 ≤ fuel limit l
unfolding after
fuel_answered p limit l some =
    let less = spent false limit l (choice_of p Answer (situation_of limit l)) (record_of p (situation_of limit l)) (answer_less p limit l some) in
    let same = same_fuel p limit Answer l in
    omega (arith, less, same)

fuel_issued : (p : Program) (limit : ℕ) (l : Local) → IsProgram p → l.retired ≤ limit → is_pending l.pending ≡ false →
    (is_some l.ended || l.retired == limit) ≡ false →
    fuel limit (move p limit Issue l) + 1 ≤ fuel limit l
unfolding after
fuel_issued p limit l is within none lives =
    let less = spent false limit l (choice_of p Issue (situation_of limit l)) (record_of p (situation_of limit l)) (issue_less p limit l is within none lives) in
    let same = same_fuel p limit Issue l in
    omega (arith, less, same)

-- an answer with nothing pending leaves it so
answer_none : (pending : List Access) (absent : ℕ → Bool) (fault : Record) (l : Local) → is_pending pending ≡ false →
    move_by (answer_choice pending absent) fault l ≡ l
answer_none [] absent fault l h = refl
answer_none (x ∷ xs) absent fault l h = absurd cc

still_none : (p : Program) (limit : ℕ) (l : Local) → is_pending l.pending ≡ false →
    is_pending (move p limit Answer l).pending ≡ false
unfolding move situation_of
still_none p limit l none =
    ap (λ (x : Local). is_pending x.pending) (answer_none l.pending l.absent (record_of p (situation_of limit l)) l none) ∙ none

at_most_two : (inside answer pending : Bool) → turns_left inside answer pending ≤ 2
at_most_two true answer pending = omega arith
at_most_two false true pending = omega arith
at_most_two false false true = omega arith
at_most_two false false false = omega arith

only_idle : (pending idle : Bool) → pending ≡ false → (not pending && idle) ≡ false → idle ≡ false
only_idle true idle e h = absurd cc
only_idle false idle e h = h

-- each letter takes 1 off the weight: inside the schedule, and behind it
module _ (p : Program) (limit : ℕ) (schedule : List Letter) (k : ℕ) (l : Local) (is : IsProgram p) (within : l.retired ≤ limit)
  where
    inside_lessens : (letter : Letter) → k < length schedule →
        weight schedule limit (k + 1) (move p limit letter l) < weight schedule limit k l
    unfolding weight
    inside_lessens letter h =
        let fuels = fuel_stays p limit letter l is within in
        let old = inside_phase schedule k l h in
        let new = next_phase schedule k (move p limit letter l) h in
        rw (old, new) (omega (arith, fuels, h))

    answer_lessens : (pending next : Bool) → length schedule ≤ k → ((k - length schedule) % 2 == 0) ≡ true →
        is_pending l.pending ≡ pending → is_pending (move p limit Answer l).pending ≡ next →
        weight schedule limit (k + 1) (move p limit Answer l) < weight schedule limit k l
    unfolding weight
    answer_lessens true next h e some later =
        let fuels = fuel_answered p limit l some in
        let old = outside_phase schedule k l true true h e some in
        let new = outside_phase schedule (k + 1) (move p limit Answer l) false next (omega (arith, h)) (other_turn k (length schedule) true h e) later in
        let most = at_most_two false false next in
        rw (old, new) (omega (arith, fuels, h, most))
    answer_lessens false next h e none later =
        let fuels = fuel_stays p limit Answer l is within in
        let old = outside_phase schedule k l true false h e none in
        let new = outside_phase schedule (k + 1) (move p limit Answer l) false false (omega (arith, h)) (other_turn k (length schedule) true h e)
        (still_none p limit l none) in
        rw (old, new) (omega (arith, fuels, h))

    issue_lessens : (pending : Bool) → length schedule ≤ k → ((k - length schedule) % 2 == 0) ≡ false →
        is_pending l.pending ≡ pending → is_over_by limit l ≡ false →
        weight schedule limit (k + 1) (move p limit Issue l) < weight schedule limit k l
    unfolding weight
    issue_lessens true h e some goes =
        let fuels = fuel_stays p limit Issue l is within in
        let old = outside_phase schedule k l false true h e some in
        let new = outside_phase schedule (k + 1) (move p limit Issue l) true (is_pending (move p limit Issue l).pending) (omega (arith, h))
        (other_turn k (length schedule) false h e) refl in
        rw (old, new) (omega (arith, fuels, h))
    issue_lessens false h e none goes =
        let fuels = fuel_issued p limit l is within none (only_idle (is_pending l.pending) (is_some l.ended || l.retired == limit) none goes) in
        let old = outside_phase schedule k l false false h e none in
        let new = outside_phase schedule (k + 1) (move p limit Issue l) true (is_pending (move p limit Issue l).pending) (omega (arith, h))
        (other_turn k (length schedule) false h e) refl in
        rw (old, new) (omega (arith, fuels, h))

    pub lessens : is_over_by limit l ≡ false →
        weight schedule limit (k + 1) (move p limit (letter_at schedule k) l) < weight schedule limit k l
    lessens goes = by_test (nat_lt k (length schedule))
        (λ inside. inside_lessens (letter_at schedule k) (ltb-true k (length schedule) inside))
        (λ outside. let h = ltb-false k (length schedule) outside in
        by_test ((k - length schedule) % 2 == 0)
        (λ answer. rw (behind schedule k true h answer)
        (answer_lessens (is_pending l.pending) (is_pending (move p limit Answer l).pending) h answer refl refl))
        (λ issue. rw (behind schedule k false h issue) (issue_lessens (is_pending l.pending) h issue refl goes)))

-- an answer beside the run's letters takes some off as well, where something is pending
no_later : (inside answer pending : Bool) → turns_left inside answer pending ≤ turns_left inside answer true
no_later true answer pending = omega arith
no_later false true pending = omega arith
no_later false false true = omega arith
no_later false false false = omega arith

pub answered_lessens : (p : Program) (limit : ℕ) (schedule : List Letter) (k : ℕ) (l : Local) → is_pending l.pending ≡ true →
    weight schedule limit k (move p limit Answer l) < weight schedule limit k l
unfolding weight
answered_lessens p limit schedule k l some =
    let fuels = fuel_answered p limit l some in
    let phases = no_later (nat_lt k (length schedule)) ((k - length schedule) % 2 == 0) (is_pending (move p limit Answer l).pending) in
    rw some (omega (arith, fuels, phases))

-- the weight of what is seen of any board
pub least_of : (mark : Bool) (n : ℕ) → (mark ≡ true → 1 ≤ n) → one_if mark ≤ n
least_of true n h = h refl
least_of false n h = omega arith

pub weight_most : (limit : ℕ) (schedule : List Letter) (k : ℕ) (l : Local) → l.retired ≤ limit → length l.pending ≤ 2 * l.retired →
    (l.bubble ≡ true → 1 ≤ l.retired) →
    weight schedule limit k l ≤ length schedule + 8 * limit + 8
unfolding weight fuel
weight_most limit schedule k l within made bubbled =
    let bubble = least_of l.bubble l.retired bubbled in
    let ended = one_at_most (not (is_some l.ended)) in
    let most = at_most_two (nat_lt k (length schedule)) ((k - length schedule) % 2 == 0) (is_pending l.pending) in
    omega (arith, within, made, bubble, ended, most)

-- the weight at the start
pub weight_at_start : (limit : ℕ) (schedule : List Letter) (l : Local) → l.pending ≡ [] →
    weight schedule limit 0 l ≤ length schedule + 8 * limit + 8
unfolding weight fuel
weight_at_start limit schedule l none =
    let pending : length l.pending ≡ 0 = ap length none in
    let bubble = one_at_most l.bubble in
    let ended = one_at_most (not (is_some l.ended)) in
    let most = at_most_two (nat_lt 0 (length schedule)) ((0 - length schedule) % 2 == 0) (is_pending l.pending) in
    omega (arith, pending, bubble, ended, most)

-- no more instructions are retired than the limit
retired_by : (limit : ℕ) (l : Local) (choice : Choice) (fault : Record) → l.retired ≤ limit → Spends true limit l choice →
    (move_by choice fault l).retired ≤ limit
retired_by limit l (issues change) fault within h = let room = h.0 in omega (arith, room)
retired_by limit l (serves byte) fault within h = omega (arith, h)
retired_by limit l _ fault within h = within

pub stays_in_limit : (p : Program) (limit : ℕ) (letter : Letter) (l : Local) → IsProgram p → l.retired ≤ limit →
    (move p limit letter l).retired ≤ limit
unfolding move
stays_in_limit p limit letter l is within =
    retired_by limit l (choice_of p letter (situation_of limit l)) (record_of p (situation_of limit l)) within
    (letter_stays p limit letter l is within)
