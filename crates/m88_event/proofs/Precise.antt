-- A trap is served and the program ends only where nothing is pending.
use Rattle.std.specs.Prelude.{ℕ, Bool, true, false, List, [], ◌∷◌, Option, Some, None, ◌≡◌, ◌≤◌, ◌-◌, ◌&&◌, ◌||◌, drop, length, if◌then◌else◌}
use Rattle.std.proofs.Common.{arith, refl}
use Rattle.std.proofs.lemmas.List.{length-drop}
use Rattle.m88_isa.proofs.Laws.{traps_wait}
use Rattle.m88_base.specs.Pages.{page_number}
use Rattle.m88_isa.specs.Effect.{Meaning, goes, meaning_of, raises, traps}
use Rattle.m88_isa.specs.Held.{Hold, busy_register, exceeds, fetched_instruction, first_reason, held, instruction_at, is_pending, needs_empty}
use Rattle.m88_isa.specs.History.{transaction_count, transactions}
use Rattle.m88_isa.specs.Machine.{Program, Turn, carried_out, changes, fetched, four_bytes, outputs, stops, turn}
use Rattle.m88_isa.specs.Operands.{waits_for_empty}
use Rattle.m88_isa.specs.declared.instr.Instr.{Instr}
use Rattle.m88_isa.specs.declared.planned.Access.{Access}
use Rattle.m88_event.specs.Choice.{Choice, ServesOrEnds, answer_choice, choice_of, evicts, faults, finishes, holds, idles, issue_choice, issues, next_choice, next_turn, passes, replies, said, serves, turn_choice}
use Rattle.m88_event.specs.Local.{Local, said_by, situation_of}
use Rattle.m88_event.specs.Timeline.{DoneWereMade, Moment, Run, situation_at}
use Rattle.m88_event.specs.Situation.{Situation, record_of}
use Rattle.m88_event.specs.declared.letter.Letter.{Letter}
use Rattle.m88_event.specs.declared.letter.Letter.TheVariants.{Issue, Answer, Evict}
use Rattle.m88_event.specs.declared.record.Record.{Record}

-- a turn that is served or ends the program
abbrev pub IsLast : Turn → Type 0
IsLast (changes change) = ⊥
IsLast (outputs byte) = Unit {0}
IsLast (stops stop) = Unit {0}

last_is_true : (a : Bool) → (a || true) ≡ true
last_is_true true = refl
last_is_true false = refl

-- an instruction whose turn is one of these waits for an empty data unit
by_meaning : (i : Instr) (regs : List ℕ) (carry mxm : Bool) (pc next : ℕ) (m : Meaning) →
    meaning_of i regs carry mxm pc next ≡ m →
    IsLast (carried_out m regs pc) →
    needs_empty (Some i) (carried_out m regs pc) ≡ true
by_meaning i regs carry mxm pc next (raises vector) e last = last_is_true (waits_for_empty i)
by_meaning i regs carry mxm pc next (traps vector) e last = rw (traps_wait i regs carry mxm pc next vector e) refl
by_meaning i regs carry mxm pc next (goes change) e last = absurd last

by_fetch : (word : Option (List ℕ)) (i : Option Instr) (regs : List ℕ) (carry mxm : Bool) (pc next : ℕ) →
    IsLast (fetched word i regs carry mxm pc next) →
    needs_empty (fetched_instruction word i) (fetched word i regs carry mxm pc next) ≡ true
by_fetch None i regs carry mxm pc next last = refl
by_fetch (Some word) None regs carry mxm pc next last = refl
by_fetch (Some word) (Some i) regs carry mxm pc next last =
    by_meaning i regs carry mxm pc next (meaning_of i regs carry mxm pc next) refl last

waits_alone : (p : Program) (regs : List ℕ) (carry mxm : Bool) (pc next : ℕ) →
    IsLast (turn p regs carry mxm pc next) →
    needs_empty (instruction_at p pc) (turn p regs carry mxm pc next) ≡ true
waits_alone p regs carry mxm pc next = by_fetch (four_bytes p.byte pc) (p.instruction pc) regs carry mxm pc next

-- where nothing holds it, nothing is pending
no_reason : (least : Option ℕ) (no_room some : Bool) → first_reason least no_room some ≡ None → some ≡ false
no_reason (Some register) no_room some h = absurd cc
no_reason None true some h = absurd cc
no_reason None false true h = absurd cc
no_reason None false false h = refl

not_first : (a b : Bool) → b ≡ true → (a && b) ≡ false → a ≡ false
not_first true b e h = absurd cc
not_first false b e h = refl

-- what is served or ends the program
abbrev pub IsLastChoice : Choice → Type 0
IsLastChoice idles = ⊥
IsLastChoice passes = ⊥
IsLastChoice (holds why) = ⊥
IsLastChoice (issues change) = ⊥
IsLastChoice (serves byte) = Unit {0}
IsLastChoice (finishes stop) = Unit {0}
IsLastChoice replies = ⊥
IsLastChoice faults = ⊥
IsLastChoice evicts = ⊥

by_turn : (t : Turn) → IsLastChoice (turn_choice t) → IsLast t
by_turn (changes change) last = last
by_turn _ last = tt

by_hold : (i : Option Instr) (t : Turn) (pending : List Access) (why : Option Hold) → held i t pending ≡ why →
    (IsLast t → needs_empty i t ≡ true) →
    IsLastChoice (next_choice why t) →
    is_pending pending ≡ false
by_hold i t pending None e waits last =
    not_first (is_pending pending) (needs_empty i t) (waits (by_turn t last))
    (no_reason (busy_register i pending) (exceeds t (length pending)) (is_pending pending && needs_empty i t) e)
by_hold i t pending (Some why) e waits last = absurd last

by_mark : (p : Program) (s : Situation) (idle bubble : Bool) →
    IsLastChoice (issue_choice idle bubble (held (instruction_at p s.pc) (next_turn p s) s.pending) (next_turn p s)) →
    is_pending s.pending ≡ false
by_mark p s true bubble last = absurd last
by_mark p s false true last = absurd last
by_mark p s false false last =
    by_hold (instruction_at p s.pc) (next_turn p s) s.pending (held (instruction_at p s.pc) (next_turn p s) s.pending) refl
    (waits_alone p s.regs s.carry s.mxm s.pc s.next) last

by_page : (absent : Bool) → IsLastChoice (if absent then faults else replies) → ⊥
by_page true last = last
by_page false last = last

by_answer : (pending : List Access) (absent : ℕ → Bool) → IsLastChoice (answer_choice pending absent) → ⊥
by_answer [] absent last = last
by_answer (x ∷ xs) absent last = by_page (absent (page_number x.addr)) last

pub precise_choice : (p : Program) (letter : Letter) (s : Situation) → IsLastChoice (choice_of p letter s) → is_pending s.pending ≡ false
precise_choice p Issue s last = by_mark p s s.idle s.bubble last
precise_choice p Answer s last = absurd (by_answer s.pending s.absent last)
precise_choice p Evict s last = absurd last

last_said : (choice : Choice) (fault : Record) → ServesOrEnds (said choice fault) → IsLastChoice choice
last_said idles fault h = h
last_said _ fault h = h

-- on a board
pub precise_by : (p : Program) (limit : ℕ) (letter : Letter) (l : Local) → ServesOrEnds (said_by p limit letter l) →
    is_pending l.pending ≡ false
unfolding said_by situation_of
precise_by p limit letter l h =
    precise_choice p letter (situation_of limit l)
    (last_said (choice_of p letter (situation_of limit l)) (record_of p (situation_of limit l)) h)

-- at a moment
pub nothing_left : (done : ℕ) (xs : List Access) → done ≤ length xs → is_pending (drop done xs) ≡ false → done ≡ length xs
nothing_left done xs within none = by_left (drop done xs) (length-drop done xs) none
  where
    by_left : (left : List Access) → length left ≡ length xs - done → is_pending left ≡ false → done ≡ length xs
    by_left [] e none = omega (arith, e, within)
    by_left (x ∷ left) e none = absurd cc

pub all_done : (r : Run) (letter : Letter) (m : Moment) → DoneWereMade r.program m →
    IsLastChoice (choice_of r.program letter (situation_at r m)) →
    m.done ≡ transaction_count r.program m.retired
unfolding situation_at
all_done r letter m within last =
    nothing_left m.done (transactions r.program m.retired) within (precise_choice r.program letter (situation_at r m) last)
