-- What the letter `i` comes to, by what is fetched for it.
use Rattle.std.specs.Prelude.{ℕ, Bool, true, false, not, List, [], ◌∷◌, Option, Some, None, Result, Ok, Err, MatchOption, ◌≡◌, ◌<◌, ◌%◌, ◌^◌, ◌&&◌, bit_or, if◌then◌else◌, is_none}
use Rattle.std.specs.Int.{to_be_bytes, w32}
use Rattle.m88_codec.proofs.Laws.{one_reading}
use Rattle.m88_isa.specs.Address.{after_bytes}
use Rattle.m88_isa.specs.Operands.{uses_of, writes_of}
use Rattle.m88_mem.specs.Lines.{IsLine}
use Rattle.m88_mem.specs.declared.lines.Line.{Line}
use Rattle.std.proofs.Common.{arith, inl, inr, refl, sym, ap, ap₂, ◌∙◌, subst}
use Rattle.m88_base.specs.Image.{ProgramImage, byte_at}
use Rattle.m88_base.specs.Slot.{squashed_slot, valid_slot}
use Rattle.m88_base.specs.declared.slot.Slot.{Slot}
use Rattle.m88_event.specs.Choice.{Choice, idles, issue_choice, next_choice, passes}
use Rattle.m88_event.specs.Local.{choice_by, situation_of}
use Rattle.m88_event.specs.declared.letter.Letter.TheVariants.{Issue}
use Rattle.m88_isa.proofs.Laws.{instruction_at_word, none_passes}
use Rattle.m88_isa.specs.Bus.{waits_for}
use Rattle.m88_isa.specs.Held.{Hold, busy_register, fetched_instruction, held}
use Rattle.m88_isa.specs.History.{Completed}
use Rattle.m88_isa.specs.ImageProgram.{IsProgramOf}
use Rattle.m88_isa.specs.Machine.{Program, Stop, Turn, by_vector, fetched, four_bytes, stops}
use Rattle.m88_isa.specs.Vector.{instruction_access, unimplemented}
use Rattle.m88_isa.specs.Word.{IsWord}
use Rattle.m88_isa.specs.declared.instr.Instr.{Instr}
use Rattle.m88_isa.specs.declared.planned.Access.{Access}
use Rattle.m88_iunit.specs.Pointers.{word_behind}
use Rattle.m88_board.specs.Board.{BoardView, completed_of, is_idle_board, local_of, pc_of}
use Rattle.m88_board.specs.Kept.{IsKept, SlotsAgree, lacks_word}
use Rattle.m88_board.proofs.Choosing.{at_pc}
use Rattle.m88_board.specs.Inside.NoInstruction.{HasNoInstruction, IsFoundAt, IsFoundNext, IsReadAt}
use Rattle.m88_board.specs.Inside.Turns.{HasTurn, IsDue, IssueComesTo, choice_for, stopping}

-- no more may be issued
pub idles_by : (p : Program) (b : BoardView) → is_idle_board b ≡ true →
    choice_by p b.limit Issue (local_of b) ≡ idles
unfolding situation_of local_of
idles_by p b idle = rw idle refl

-- the choice where the next fetched instruction is passed over
passed_over : (idle bubble : Bool) (why : Option Hold) (turn : Turn) → idle ≡ false → bubble ≡ true →
    issue_choice idle bubble why turn ≡ passes
passed_over idle bubble why turn goes over = rw (goes, over) refl

-- a bubble
pub passes_by : (p : Program) (b : BoardView) → is_idle_board b ≡ false → not b.slots.nip.v ≡ true →
    choice_by p b.limit Issue (local_of b) ≡ passes
unfolding situation_of local_of
passes_by p b goes bubble = passed_over (is_idle_board b) (not b.slots.nip.v) _ _ goes bubble

-- the choice by the four bytes that are fetched and the instruction that the program has there
abbrev choice_fetched : Option (List ℕ) → Option Instr → Completed → List Access → Choice
choice_fetched word i c pending =
    next_choice (held (fetched_instruction word i) (fetched word i c.regs c.carry c.mxm c.pc c.next) pending)
    (fetched word i c.regs c.carry c.mxm c.pc c.next)

-- the choice where the next instruction has its turn
goes_next : (idle bubble : Bool) (why : Option Hold) (turn : Turn) → idle ≡ false → bubble ≡ false →
    issue_choice idle bubble why turn ≡ next_choice why turn
goes_next idle bubble why turn goes valid = rw (goes, valid) refl

-- it has its turn by the bytes and the instruction that the program has there
nexts_by : (p : Program) (b : BoardView) → is_idle_board b ≡ false → b.slots.nip.v ≡ true →
    choice_by p b.limit Issue (local_of b)
    ≡ choice_fetched (four_bytes p.byte (pc_of b.slots)) (p.instruction (pc_of b.slots)) (completed_of b) b.pending
unfolding situation_of local_of completed_of
nexts_by p b goes valid = goes_next (is_idle_board b) (not b.slots.nip.v) _ _ goes (ap not valid)

-- and by what is known of these
fetches_by : (p : Program) (b : BoardView) (word : Option (List ℕ)) (i : Option Instr) → is_idle_board b ≡ false →
    b.slots.nip.v ≡ true →
    four_bytes p.byte (pc_of b.slots) ≡ word →
    p.instruction (pc_of b.slots) ≡ i →
    choice_by p b.limit Issue (local_of b) ≡ choice_fetched word i (completed_of b) b.pending
fetches_by p b word i goes valid bytes there =
    nexts_by p b goes valid
    ∙ ap₂ (λ (w : Option (List ℕ)) (o : Option Instr). choice_fetched w o (completed_of b) b.pending) bytes there

-- a word that isn't there, or is no instruction, uses no register
none_involved : (pending : List Access) → busy_register None pending ≡ None
unfolding busy_register
none_involved pending = none_passes 1 31 (λ register. false && waits_for pending register) (λ k. refl)

-- so nothing but the pending transactions holds it
stopped_early : (stop : Stop) (pending : List Access) →
    next_choice (held None (stops stop) pending) (stops stop) ≡ stopping stop pending
stopped_early stop [] = rw (none_involved []) refl
stopped_early stop (a ∷ pending) = rw (none_involved (a ∷ pending)) refl

-- the bytes that the image has are the program's
bytes_of : (p : Program) (b : BoardView) (a : ℕ) → IsProgramOf b.memory.image p →
    four_bytes p.byte a ≡ four_bytes (byte_at b.memory.image) a
bytes_of p b a of = ap (λ (byte : ℕ → Option ℕ). four_bytes byte a) of.bytes

-- NIP is to be carried out, and these are the bytes there, if all four of them are
record NextAt (b : BoardView) (word : Option (List ℕ)) : Type 0 where
  pub valid : b.slots.nip.v ≡ true
  pub aligned : pc_of b.slots % 4 ≡ 0
  pub bytes : four_bytes (byte_at b.memory.image) (pc_of b.slots) ≡ word

-- a value that isn't unset is set
set_where_not_unset : (v : Bool) → not v ≡ false → v ≡ true
set_where_not_unset true h = refl
set_where_not_unset false h = absurd cc

-- the next instruction isn't passed over
pub next_due : (inside b : BoardView) (slot : Slot) → inside ≡ b → slot ≡ inside.slots.nip → not slot.v ≡ false →
    is_idle_board b ≡ false →
    IsDue b
next_due inside b slot same is marked going = record {
  going = going;
  valid = sym (ap (λ (s : Slot). s.v) is ∙ ap (λ (x : BoardView). x.slots.nip.v) same) ∙ set_where_not_unset slot.v marked;
}

-- the word can't be fetched
lacks_by : (p : Program) (b : BoardView) → IsProgramOf b.memory.image p → is_idle_board b ≡ false →
    NextAt b None →
    choice_by p b.limit Issue (local_of b) ≡ stopping (by_vector instruction_access (pc_of b.slots)) b.pending
unfolding completed_of
lacks_by p b of goes next =
    fetches_by p b None (p.instruction (pc_of b.slots)) goes next.valid
    (bytes_of p b (pc_of b.slots) of ∙ next.bytes) refl
    ∙ stopped_early (by_vector instruction_access (pc_of b.slots)) b.pending

-- the program has no instruction where the word is none
pub none_there : (o : Option Instr) (word : ℕ) →
    MatchOption o ((j : Instr) → ¬ IsWord j word) (λ j. IsWord j word) →
    ((j : Instr) → ¬ IsWord j word) →
    o ≡ None
none_there None word found none = refl
none_there (Some j) word found none = absurd (none j found)

-- the word is no instruction
unimplemented_by : (p : Program) (b : BoardView) (word : ℕ) → IsProgramOf b.memory.image p →
    is_idle_board b ≡ false →
    NextAt b (Some (to_be_bytes w32 word)) →
    word < 2 ^ 32 →
    ((j : Instr) → ¬ IsWord j word) →
    choice_by p b.limit Issue (local_of b) ≡ stopping (by_vector unimplemented (pc_of b.slots)) b.pending
unfolding completed_of
unimplemented_by p b word of goes next small none =
    fetches_by p b (Some (to_be_bytes w32 word)) None goes next.valid (bytes_of p b (pc_of b.slots) of ∙ next.bytes)
    (none_there (p.instruction (pc_of b.slots)) word
    (instruction_at_word b.memory.image p (pc_of b.slots) word of next.aligned small next.bytes) none)
    ∙ stopped_early (by_vector unimplemented (pc_of b.slots)) b.pending

-- the program has the one instruction of the word
pub found_there : (o : Option Instr) (i : Instr) (word : ℕ) →
    MatchOption o ((j : Instr) → ¬ IsWord j word) (λ j. IsWord j word) →
    IsWord i word →
    ((j : Instr) → IsWord j word → j ≡ i) →
    o ≡ Some i
found_there None i word none is only = absurd (none i is)
found_there (Some j) i word found is only = ap Some (only j found)

-- the word is an instruction's, which has its turn
turns_by : (p : Program) (b : BoardView) (word : ℕ) (i : Instr) → IsProgramOf b.memory.image p →
    is_idle_board b ≡ false →
    NextAt b (Some (to_be_bytes w32 word)) →
    word < 2 ^ 32 →
    IsWord i word →
    ((j : Instr) → IsWord j word → j ≡ i) →
    choice_by p b.limit Issue (local_of b) ≡ choice_for (Some i) b
turns_by p b word i of goes next small is only =
    fetches_by p b (Some (to_be_bytes w32 word)) (Some i) goes next.valid (bytes_of p b (pc_of b.slots) of ∙ next.bytes)
    (found_there (p.instruction (pc_of b.slots)) i word
    (instruction_at_word b.memory.image p (pc_of b.slots) word of next.aligned small next.bytes) is only)

-- the instruction that was found there, which has its turn
line_by : (b : BoardView) (line : Line) → IsDue b → line.addr ≡ pc_of b.slots → IsLine b.memory.image line →
    line.word < 2 ^ 32 →
    IssueComesTo (choice_for (Some line.instr) b) b
line_by b line due here is small = λ p of.
    turns_by p b line.word line.instr of due.going (record {
      valid = due.valid;
      aligned = subst (λ (a : ℕ). a % 4 ≡ 0) here is.aligned;
      bytes = subst (λ (a : ℕ). four_bytes (byte_at b.memory.image) a ≡ Some (to_be_bytes w32 line.word)) here is.word;
    })
    small is.instruction
    (λ j other. one_reading line.word j line.instr other is.instruction)

-- and the vector that is raised where none was found
vector_by : (b : BoardView) (vector : ℕ) → IsDue b → pc_of b.slots % 4 ≡ 0 →
    HasNoInstruction b.memory.image (pc_of b.slots) vector →
    IssueComesTo (stopping (by_vector vector (pc_of b.slots)) b.pending) b
vector_by b vector due aligned (inl lacks) = λ p of.
    lacks_by p b of due.going (record { valid = due.valid; aligned = aligned; bytes = lacks.0 })
    ∙ ap (λ (v : ℕ). stopping (by_vector v (pc_of b.slots)) b.pending) (sym lacks.1)
vector_by b vector due aligned (inr none) = λ p of.
    unimplemented_by p b none.0 of due.going (record { valid = due.valid; aligned = aligned; bytes = none.1.1 }) none.1.0 none.2
    ∙ ap (λ (v : ℕ). stopping (by_vector v (pc_of b.slots)) b.pending) (sym none.3)

-- a vector that is raised is one
pub vector_small : (image : ProgramImage) (addr vector : ℕ) → HasNoInstruction image addr vector → vector < 512
vector_small image addr vector (inl lacks) = subst (λ (v : ℕ). v < 512) (sym lacks.1) (omega arith)
vector_small image addr vector (inr none) = subst (λ (v : ℕ). v < 512) (sym none.3) (omega arith)

-- NIP isn't marked where an instruction was found there
found_unmarked : (b : BoardView) (line : Line) → SlotsAgree b.memory.image b.slots → b.slots.nip.v ≡ true →
    line.addr ≡ pc_of b.slots →
    IsLine b.memory.image line →
    b.slots.nip.e ≡ false
found_unmarked b line agree valid here is =
    let at : line.addr ≡ b.slots.nip.addr =
    here ∙ ap (λ (v : Bool). if v then b.slots.nip.addr else b.slots.fip.addr) valid in
    ap (λ (s : Slot). s.e) agree.nip
    ∙ ap (λ (v : Bool). (if v then valid_slot b.slots.nip.addr (lacks_word b.memory.image b.slots.nip.addr)
    else squashed_slot (word_behind b.slots.xip.addr)).e) valid
    ∙ ap (λ (a : ℕ). lacks_word b.memory.image a) (sym at)
    ∙ ap (λ (o : Option (List ℕ)). is_none o) is.word

next_found : (found : Result Line ℕ) (b : BoardView) → IsDue b → SlotsAgree b.memory.image b.slots →
    pc_of b.slots % 4 ≡ 0 →
    IsFoundAt b.memory.image (pc_of b.slots) found →
    IsFoundNext found b
next_found (Ok line) b due agree aligned there = record {
  due = due;
  aligned = aligned;
  found_there = there;
  unmarked = found_unmarked b line agree due.valid there.0 there.1;
}
next_found (Err vector) b due agree aligned there =
    record { due = due; aligned = aligned; found_there = there; unmarked = tt }

-- what is found at the address of NIP is that
pub found_next : (inside b : BoardView) (slot : Slot) (found : Result Line ℕ) → inside ≡ b → IsKept inside → IsDue b →
    slot ≡ inside.slots.nip →
    slot.addr % 4 ≡ 0 →
    IsFoundAt b.memory.image slot.addr found →
    IsFoundNext found b
found_next inside b slot found same kept due is word there =
    let here : slot.addr ≡ pc_of b.slots =
    at_pc inside.slots b.slots slot is (ap (λ (x : BoardView). x.slots) same) due.valid in
    next_found found b due (subst IsKept same kept).slots (subst (λ (a : ℕ). a % 4 ≡ 0) here word)
    (subst (λ (a : ℕ). IsFoundAt b.memory.image a found) here there)

-- the instruction that was found has its turn
pub turn_found : (line : Line) (b : BoardView) → IsFoundNext (Ok line) b → line.word < 2 ^ 32 → HasTurn line.instr b
turn_found line b found small = record {
  next = record { due = found.due; fetched = found.unmarked };
  instr = found.found_there.1.instruction.0;
  comes = line_by b line found.due found.found_there.0 found.found_there.1 small;
}

-- and the vector is raised
pub raise_found : (vector : ℕ) (b : BoardView) → IsFoundNext (Err vector) b →
    IssueComesTo (stopping (by_vector vector (pc_of b.slots)) b.pending) b
raise_found vector b found = vector_by b vector found.due found.aligned found.found_there

-- the line that would be kept of what was read
abbrev pub line_read : ProgramImage → ℕ → ℕ × Instr → Line
line_read image addr read = record {
  addr = addr;
  word = read.0;
  instr = read.1;
  involved = bit_or (uses_of read.1) (writes_of read.1);
  lacks_behind = is_none (four_bytes (byte_at image) (after_bytes addr 4));
}

-- what was read is found there
pub read_found : (image : ProgramImage) (addr : ℕ) (read : ℕ × Instr) → addr % 4 ≡ 0 → IsReadAt image addr (Ok read) →
    IsFoundAt image addr (Ok (line_read image addr read))
read_found image addr read aligned is = (
  refl,
  record { aligned = aligned; word = is.0.1; instruction = is.1; involved = refl; behind = refl },
)
