-- A board that ended, and the one that goes on behind an instruction that software did.
use Rattle.std.specs.Prelude.{ℕ, Bool, true, false, not, List, [], ◌∷◌, ◌++◌, Option, Some, None, IfOk, IfSome, MatchOption, Result, Ok, Err, ◌≡◌, ◌<◌, ◌+◌, ◌%◌, ◌^◌, ◌==◌, ◌&&◌, is_some, map, slice_index, if◌then◌else◌}
use Rattle.std.specs.Int.{to_be_bytes, w32}
use Rattle.std.proofs.Common.{arith, refl, sym, ap, ap₂, ◌∙◌, subst}
use Rattle.std.proofs.lemmas.Bool.{eqb-false}
use Rattle.std.proofs.lemmas.List.{get_or-set_other}
use Rattle.m88_base.specs.Image.{ProgramImage, byte_at}
use Rattle.m88_base.specs.Reg.{number_of, with_register}
use Rattle.m88_base.specs.declared.reg.Reg.{Reg}
use Rattle.m88_base.specs.declared.slot.Slot.{Slot}
use Rattle.m88_ctrl.specs.ControlRegisters.{carry_of, mxm_of}
use Rattle.m88_codec.proofs.Laws.{one_reading}
use Rattle.m88_event.specs.Local.{Local, is_over_by}
use Rattle.m88_event.specs.Shadow.{retired_pointer}
use Rattle.m88_event.specs.Timeline.{end_of_turn}
use Rattle.m88_event.specs.declared.happened.End.{End}
use Rattle.m88_event.specs.declared.happened.End.TheVariants.{Exit, Limit, Vector}
use Rattle.m88_event.specs.declared.happened.Happened.{Happened}
use Rattle.m88_event.specs.declared.happened.Happened.TheVariants as happened
use Rattle.m88_isa.proofs.Laws.{by_test, instruction_at_word}
use Rattle.m88_isa.specs.Address.{after_bytes}
use Rattle.m88_isa.specs.Bus.{after_accesses, bus_after_all, in_words}
use Rattle.m88_isa.specs.Held.{fetched_instruction, instruction_at, is_pending}
use Rattle.m88_isa.specs.History.{Completed}
use Rattle.m88_isa.specs.ImageProgram.{IsProgramOf}
use Rattle.m88_isa.specs.Machine.{Program, Turn, by_vector, changes, exits, four_bytes, opening, outputs, stops}
use Rattle.m88_isa.specs.Memory.{access_of}
use Rattle.m88_isa.specs.Word.{IsWord}
use Rattle.m88_isa.specs.declared.instr.Instr.{Instr}
use Rattle.m88_isa.specs.declared.planned.Access.{Access}
use Rattle.m88_mem.specs.DataBus.{MemoryView, absent_of, bus_of, image_bus}
use Rattle.m88_iunit.specs.Pointers.{Pointers}
use Rattle.m88_scoreboard.specs.Registers.{Registers}
use Rattle.m88_board.proofs.Laws.{same_bytes}
use Rattle.m88_event.specs.Run.{outcome_by}
use Rattle.m88_event.specs.declared.outcome.Outcome.{Outcome}
use Rattle.m88_board.specs.Board.{BoardView, completed_of, local_of, next_of, pc_of}
use Rattle.m88_board.specs.Kept.{EndsSo, IsKept, turn_by}
use Rattle.m88_board.specs.Moves.{end_after}
use Rattle.m88_board.specs.Parts.{MayBegin, parts_of, seen_of_parts}
use Rattle.m88_board.specs.declared.parts.Parts.{Parts}
use Rattle.m88_emul.proofs.Following.{NoAid, none_new, stays}
use Rattle.m88_emul.proofs.Weighing.{still_lives}
use Rattle.m88_emul.specs.Aid.{Aid, aid_of, with_all}
use Rattle.m88_emul.specs.Emulating.{IsAided}
use Rattle.m88_emul.specs.Extended.{Deed, IsAlone, aid_at, aided, byte_seen, deed_of, where_aided}
use Rattle.m88_emul.specs.Inside.Boards.{KeepsRun, with_one_retired, vector_in}
use Rattle.m88_emul.specs.Inside.Settled.{completed_by, deed_seen, emulated_by, newly_emulated, settled, settled_by}
use Rattle.m88_emul.specs.Inside.Tasks.{aid_by}
use Rattle.m88_emul.specs.Timeline.{has_place_in}
use Rattle.m88_emul.specs.declared.task.Task.{Task}
use Rattle.m88_emul.specs.declared.emulation.Emulation.{Emulation}

-- how a board ended, by what its event said
abbrev NoVector : Option End → Type 0
NoVector (Some (Vector vector at)) = ⊥
NoVector _ = Unit {0}

by_said : (h : Happened) → vector_in h ≡ None → NoVector (end_after h None)
by_said (happened.Ended (Vector vector at)) none = absurd cc
by_said _ none = tt

pub vector_there : (h : Happened) (vector : ℕ) → vector_in h ≡ Some vector → (at : ℕ) × (end_after h None ≡ Some (Vector vector at))
vector_there (happened.Ended (Vector v at)) vector e = let same : v ≡ vector = cc in (at, ap (λ (n : ℕ). Some (Vector n at)) same)
vector_there _ vector e = absurd cc

pub ends_if : (v : Option ℕ) (h : Happened) (end : Option End) → v ≡ vector_in h → end ≡ end_after h None →
    IfSome v (λ vector. (at : ℕ) × (end ≡ Some (Vector vector at)))
ends_if None h end is ended = tt
ends_if (Some vector) h end is ended =
    let found = vector_there h vector (sym is) in
    (found.0, ended ∙ found.1)

-- a turn that ends a program otherwise than by a vector is the machine's alone
alone_turn : (t : Turn) (i : Option Instr) (regs : List ℕ) (memory : ℕ → ℕ) → NoVector (Some (end_of_turn t)) → IsAlone (deed_of t i regs memory)
alone_turn (stops (by_vector vector at)) i regs memory h = absurd h
alone_turn _ i regs memory h = tt

no_aid_by : (p : Program) (b : BoardView) (end : Option End) → IsProgramOf b.memory.image p → IfSome end (EndsSo b) → NoVector end →
    NoAid end (deed_seen p (local_of b))
unfolding local_of
no_aid_by p b None of so h = tt
no_aid_by p b (Some end) of so h =
    alone_turn (turn_by p (completed_of b)) (instruction_at p (completed_of b).pc) (completed_of b).regs (byte_seen (completed_of b).bus)
    (subst (λ (e : End). NoVector (Some e)) (sym (so p of)) h)

pub not_by_vector : (p : Program) (b : BoardView) (h : Happened) → IsProgramOf b.memory.image p → IsKept b →
    b.ended ≡ end_after h None → vector_in h ≡ None →
    NoAid b.ended (deed_seen p (local_of b))
not_by_vector p b h of kept ended none =
    no_aid_by p b b.ended of kept.ends_so (subst NoVector (sym ended) (by_said h none))

-- a board that software has no aid for stays, and nothing joins the emulations
pub board_stays : (p : Program) (b : BoardView) → NoAid b.ended (deed_seen p (local_of b)) → settled p (local_of b) ≡ local_of b
unfolding settled local_of
board_stays p b none = stays b.ended (deed_seen p (local_of b)) (local_of b) none

pub none_joins : (p : Program) (b : BoardView) (xs : List Emulation) → NoAid b.ended (deed_seen p (local_of b)) →
    xs ++ newly_emulated p (local_of b) ≡ xs
unfolding newly_emulated local_of
none_joins p b xs none = none_new xs b.ended (deed_seen p (local_of b)) (local_of b) none

-- what becomes of the instruction at which a board ended by a vector
ends_by : (t : Turn) (vector at : ℕ) → end_of_turn t ≡ Vector vector at → t ≡ stops (by_vector vector at)
ends_by (stops (by_vector v here)) vector at e =
    let one : v ≡ vector = cc in
    let two : here ≡ at = cc in
    ap₂ (λ (n m : ℕ). stops (by_vector n m)) one two
ends_by _ vector at e = absurd cc

pub completed_empty : (b : BoardView) → b.pending ≡ [] →
    completed_of b ≡ record {
      regs = b.file.numbers;
      carry = carry_of b.control;
      mxm = mxm_of b.control;
      pc = pc_of b.slots;
      next = next_of b.slots;
      bus = bus_of b.memory;
      out = b.out;
    }
unfolding completed_of after_accesses
completed_empty b none = rw none refl

pub none_pending : (b : BoardView) (end : End) → IsKept b → b.ended ≡ Some end → b.pending ≡ []
none_pending b end kept ended = kept.drained (ap is_some ended)

pub deed_there : (p : Program) (b : BoardView) (vector at : ℕ) → IsProgramOf b.memory.image p → IsKept b →
    b.ended ≡ Some (Vector vector at) →
    deed_seen p (local_of b)
    ≡ where_aided vector at (aid_at (instruction_at p (pc_of b.slots)) vector b.file.numbers (byte_seen (bus_of b.memory)))
unfolding local_of
deed_there p b vector at of kept ended =
    let none = none_pending b (Vector vector at) kept ended in
    let so : EndsSo b (Vector vector at) = subst (λ (e : Option End). IfSome e (EndsSo b)) ended kept.ends_so in
    let stop : turn_by p (completed_of b) ≡ stops (by_vector vector at) = ends_by (turn_by p (completed_of b)) vector at (so p of) in
    ap (λ (t : Turn). deed_of t (instruction_at p (completed_of b).pc) (completed_of b).regs (byte_seen (completed_of b).bus)) stop
    ∙ ap (λ (c : Completed). where_aided vector at (aid_at (instruction_at p c.pc) vector c.regs (byte_seen c.bus))) (completed_empty b none)

none_alone : (vector at : ℕ) (end : Option End) (d : Deed) (aid : Option Aid) → d ≡ where_aided vector at aid → aid ≡ None → NoAid end d
none_alone vector at None d aid e none = tt
none_alone vector at (Some end) d aid e none = subst IsAlone (sym (e ∙ ap (where_aided vector at) none)) tt

pub left_to_end : (p : Program) (b : BoardView) (vector at : ℕ) → IsProgramOf b.memory.image p → IsKept b →
    b.ended ≡ Some (Vector vector at) →
    aid_at (instruction_at p (pc_of b.slots)) vector b.file.numbers (byte_seen (bus_of b.memory)) ≡ None →
    NoAid b.ended (deed_seen p (local_of b))
left_to_end p b vector at of kept ended none =
    none_alone vector at b.ended (deed_seen p (local_of b)) _ (deed_there p b vector at of kept ended) none

-- the instruction there, by its word
pub unread : (image : ProgramImage) (p : Program) (a : ℕ) → IsProgramOf image p → None ≡ four_bytes (byte_at image) a →
    instruction_at p a ≡ None
unread image p a of none =
    ap (λ (w : Option (List ℕ)). fetched_instruction w (p.instruction a)) (ap (λ byte. four_bytes byte a) of.bytes ∙ sym none)

pub read : (image : ProgramImage) (p : Program) (a word : ℕ) → IsProgramOf image p →
    Some (to_be_bytes w32 word) ≡ four_bytes (byte_at image) a →
    instruction_at p a ≡ p.instruction a
read image p a word of there =
    ap (λ (w : Option (List ℕ)). fetched_instruction w (p.instruction a)) (ap (λ byte. four_bytes byte a) of.bytes ∙ sym there)

none_of : (aid : Option Aid) → is_some aid ≡ false → aid ≡ None
none_of None h = refl
none_of (Some aid) h = absurd cc

no_aid_at : (i : Option Instr) (word vector : ℕ) (regs : List ℕ) (memory : ℕ → ℕ) →
    MatchOption i ((j : Instr) → ¬ IsWord j word) (λ j. IsWord j word) →
    ((j : Instr) → IsWord j word → is_some (aid_of j vector regs memory) ≡ false) →
    aid_at i vector regs memory ≡ None
no_aid_at None word vector regs memory h none = refl
no_aid_at (Some i) word vector regs memory h none = none_of (aid_of i vector regs memory) (none i h)

-- where software has no aid for the word
pub no_aid_for_word : (image : ProgramImage) (p : Program) (a word vector : ℕ) (regs : List ℕ) (memory : ℕ → ℕ) → IsProgramOf image p →
    a % 4 ≡ 0 → word < 2 ^ 32 → Some (to_be_bytes w32 word) ≡ four_bytes (byte_at image) a →
    ((j : Instr) → IsWord j word → is_some (aid_of j vector regs memory) ≡ false) →
    aid_at (instruction_at p a) vector regs memory ≡ None
no_aid_for_word image p a word vector regs memory of aligned small there none =
    ap (λ (i : Option Instr). aid_at i vector regs memory) (read image p a word of there)
    ∙ no_aid_at (p.instruction a) word vector regs memory (instruction_at_word image p a word of aligned small (sym there)) none

some_of : (aid : Option Aid) → is_some aid ≡ true → (found : Aid) × (aid ≡ Some found)
some_of None h = absurd cc
some_of (Some aid) h = (aid, refl)

-- an aid for the instruction at an address, and the word of that
pub record HasAid (p : Program) (a word vector : ℕ) (regs : List ℕ) (memory : ℕ → ℕ) : Type 0 where
  pub i : Instr
  pub is : IsWord i word
  pub aid : Aid
  pub by_word : aid_of i vector regs memory ≡ Some aid
  pub there : aid_at (instruction_at p a) vector regs memory ≡ Some aid

aid_found : (o : Option Instr) (p : Program) (a word vector : ℕ) (regs : List ℕ) (memory : ℕ → ℕ) → instruction_at p a ≡ o →
    MatchOption o ((j : Instr) → ¬ IsWord j word) (λ j. IsWord j word) →
    ((j : Instr) → IsWord j word → is_some (aid_of j vector regs memory) ≡ true) →
    (i : Instr) → IsWord i word →
    HasAid p a word vector regs memory
aid_found None p a word vector regs memory e h some i is = absurd (h i is)
aid_found (Some j) p a word vector regs memory e h some i is =
    let found = some_of (aid_of j vector regs memory) (some j h) in
    record {
      i = j;
      is = h;
      aid = found.0;
      by_word = found.1;
      there = ap (λ (o : Option Instr). aid_at o vector regs memory) e ∙ found.1;
    }

pub aid_for_word : (image : ProgramImage) (p : Program) (a word vector : ℕ) (regs : List ℕ) (memory : ℕ → ℕ) → IsProgramOf image p →
    a % 4 ≡ 0 → word < 2 ^ 32 → Some (to_be_bytes w32 word) ≡ four_bytes (byte_at image) a →
    ((j : Instr) → IsWord j word → is_some (aid_of j vector regs memory) ≡ true) →
    (i : Instr) → IsWord i word →
    HasAid p a word vector regs memory
aid_for_word image p a word vector regs memory of aligned small there some i is =
    aid_found (p.instruction a) p a word vector regs memory (read image p a word of there)
    (instruction_at_word image p a word of aligned small (sym there)) some i is

-- a board whose instruction software did
done_by : (end : Option End) (e : End) (vector : ℕ) (aid : Aid) (d : Deed) (l : Local) → end ≡ Some e → d ≡ aided vector aid →
    settled_by end d l ≡ completed_by aid l
done_by end e vector aid d l ended is = ap₂ (λ (x : Option End) (y : Deed). settled_by x y l) ended is

pub board_done : (p : Program) (b : BoardView) (vector at : ℕ) (aid : Aid) → IsProgramOf b.memory.image p → IsKept b →
    b.ended ≡ Some (Vector vector at) →
    aid_at (instruction_at p (pc_of b.slots)) vector b.file.numbers (byte_seen (bus_of b.memory)) ≡ Some aid →
    settled p (local_of b) ≡ completed_by aid (local_of b)
unfolding settled local_of
board_done p b vector at aid of kept ended some =
    done_by b.ended (Vector vector at) vector aid (deed_seen p (local_of b)) (local_of b) ended
    (deed_there p b vector at of kept ended ∙ ap (where_aided vector at) some)

new_by : (end : Option End) (e : End) (vector : ℕ) (aid : Aid) (d : Deed) (l : Local) → end ≡ Some e → d ≡ aided vector aid →
    emulated_by end d l ≡ record { event = l.events; at = l.completed.pc; vector = vector } ∷ []
new_by end e vector aid d l ended is = ap₂ (λ (x : Option End) (y : Deed). emulated_by x y l) ended is

pub board_joins : (p : Program) (b : BoardView) (vector at : ℕ) (aid : Aid) → IsProgramOf b.memory.image p → IsKept b →
    b.ended ≡ Some (Vector vector at) →
    aid_at (instruction_at p (pc_of b.slots)) vector b.file.numbers (byte_seen (bus_of b.memory)) ≡ Some aid →
    newly_emulated p (local_of b) ≡ record { event = b.events; at = pc_of b.slots; vector = vector } ∷ []
unfolding newly_emulated local_of
board_joins p b vector at aid of kept ended some =
    new_by b.ended (Vector vector at) vector aid (deed_seen p (local_of b)) (local_of b) ended
    (deed_there p b vector at of kept ended ∙ ap (where_aided vector at) some)
    ∙ ap (λ (c : Completed). record { event = b.events; at = c.pc; vector = vector } ∷ [])
    (completed_empty b (none_pending b (Vector vector at) kept ended))

-- the next instruction is that of NIP
by_valid : (slots_valid : Bool) (a b : ℕ) → slots_valid ≡ true → a ≡ (if slots_valid then a else b)
by_valid true a b h = refl
by_valid false a b h = absurd cc

pub at_nip : (b : BoardView) (end : End) → IsKept b → b.ended ≡ Some end → b.slots.nip.addr ≡ pc_of b.slots
at_nip b end kept ended = by_valid b.slots.nip.v b.slots.nip.addr b.slots.fip.addr (kept.unbubbled (ap is_some ended))

-- r0 stays
zero_stays : (r : Reg) (value : ℕ) (regs : List ℕ) → slice_index regs 0 ≡ 0 → slice_index (with_register r value regs) 0 ≡ 0
zero_stays r value regs first = by_test (number_of r == 0)
    (λ none. rw none first)
    (λ some.
    let other = eqb-false (number_of r) 0 some in
    rw some (get_or-set_other regs (number_of r) 0 value 0 (λ e. other (sym e)) ∙ first))

pub zeros_stay : (writes : List (Reg × ℕ)) (regs : List ℕ) → slice_index regs 0 ≡ 0 → slice_index (with_all writes regs) 0 ≡ 0
unfolding with_all
zeros_stay [] regs first = first
zeros_stay (w ∷ writes) regs first = zeros_stay writes (with_register w.0 w.1 regs) (zero_stays w.0 w.1 regs first)

-- another board may begin behind the instruction
pub may_go_on : (parts : Parts) (regs : List ℕ) (memory : MemoryView) (limit : ℕ) → MayBegin parts limit → parts.retired < limit →
    slice_index regs 0 ≡ 0 →
    MayBegin (with_one_retired (record parts { regs = regs; memory = memory })) limit
may_go_on parts regs memory limit may early first =
    let next = may.next in
    let made = may.made in
    let put_out = may.put_out in
    record {
      zero = first;
      pc = may.next;
      next = omega (arith, next);
      last = may.pc;
      within = omega (arith, early);
      small = may.small;
      counted = may.counted;
      made = omega (arith, made);
      told = may.told;
      put_out = omega (arith, put_out);
    }

-- and looks as software left it
pub goes_on_so : (parts : Parts) (regs : List ℕ) (memory : MemoryView) (aid : Aid) (l : Local) → seen_of_parts parts ≡ record l { ended = None } →
    IsAided aid parts.regs regs parts.memory memory →
    seen_of_parts (with_one_retired (record parts { regs = regs; memory = memory })) ≡ completed_by aid l
unfolding seen_of_parts
goes_on_so parts regs memory aid l seen is =
    let regs_is : regs ≡ with_all aid.writes l.completed.regs = is.regs ∙ ap (λ (x : Local). with_all aid.writes x.completed.regs) seen in
    let words : bus_of memory ≡ bus_after_all (map access_of aid.stores) l.completed.bus =
    is.bus ∙ ap (λ (x : Local). bus_after_all (map access_of aid.stores) x.completed.bus) seen in
    let bus : bus_of memory ≡ bus_after_all (map access_of aid.stores) l.bus =
    is.bus ∙ ap (λ (x : Local). bus_after_all (map access_of aid.stores) x.bus) seen in
    let absent : absent_of memory ≡ (λ page. l.absent page && not (has_place_in aid.places page)) =
    is.absent ∙ ap {B = ℕ → Bool} (λ (x : Local) (page : ℕ). x.absent page && not (has_place_in aid.places page)) seen in
    let carry = ap (λ (x : Local). x.completed.carry) seen in
    let mxm = ap (λ (x : Local). x.completed.mxm) seen in
    let pc = ap (λ (x : Local). x.completed.pc) seen in
    let next = ap (λ (x : Local). x.completed.next) seen in
    let out = ap (λ (x : Local). x.completed.out) seen in
    let pending = ap (λ (x : Local). x.pending) seen in
    let bubble = ap (λ (x : Local). x.bubble) seen in
    let retired = ap (λ (x : Local). x.retired) seen in
    let done = ap (λ (x : Local). x.done) seen in
    let events = ap (λ (x : Local). x.events) seen in
    let answers = ap (λ (x : Local). x.answers) seen in
    let records = ap (λ (x : Local). x.records) seen in
    λ i. record {
      completed = record {
        regs = regs_is i;
        carry = carry i;
        mxm = mxm i;
        pc = next i;
        next = after_bytes (next i) 4;
        bus = words i;
        out = out i;
      };
      bus = bus i;
      pending = pending i;
      xip = retired_pointer (pc i);
      bubble = bubble i;
      ended = None;
      absent = absent i;
      retired = retired i + 1;
      done = done i;
      events = events i;
      answers = answers i;
      records = records i;
    }

-- the instruction of a word for which there is a task has an aid
pub task_aid : (task : Task) (word vector : ℕ) (regs : List ℕ) →
    ((i : Instr) × IsWord i word × ((bytes : ℕ → ℕ) → aid_of i vector regs bytes ≡ Some (aid_by task bytes))) →
    (j : Instr) → IsWord j word → (bytes : ℕ → ℕ) → is_some (aid_of j vector regs bytes) ≡ true
task_aid task word vector regs some j is bytes =
    let same : some.0 ≡ j = one_reading word some.0 j some.1 is in
    ap is_some (ap (λ (k : Instr). aid_of k vector regs bytes) (sym same) ∙ some.2 bytes)

-- one word has one aid
pub same_aid : (i j : Instr) (word vector : ℕ) (regs others : List ℕ) (memory bytes : ℕ → ℕ) (a b : Aid) → IsWord i word → IsWord j word →
    regs ≡ others → memory ≡ bytes → aid_of i vector regs memory ≡ Some a → aid_of j vector others bytes ≡ Some b →
    a ≡ b
same_aid i j word vector regs others memory bytes a b is js same_regs same_memory one two =
    let same : i ≡ j = one_reading word i j is js in
    let e : Some a ≡ Some b =
    sym one
    ∙ ap (λ (k : Instr). aid_of k vector regs memory) same
    ∙ ap₂ (λ (xs : List ℕ) (m : ℕ → ℕ). aid_of j vector xs m) same_regs same_memory
    ∙ two in cc

pub parts_bytes : (parts : Parts) (b : BoardView) → parts ≡ parts_of b → byte_seen (bus_of parts.memory) ≡ byte_seen (bus_of b.memory)
parts_bytes parts b e = ap (λ (x : Parts). byte_seen (bus_of x.memory)) e

pub begun_clear : (b : BoardView) (parts : Parts) → local_of b ≡ seen_of_parts parts → mxm_of b.control ≡ false
unfolding local_of completed_of seen_of_parts
begun_clear b parts e = ap (λ (l : Local). l.completed.mxm) e

no_end : (end : Option End) → is_some end ≡ false → end ≡ None
no_end None h = refl
no_end (Some end) h = absurd cc

pub lives_none : (limit : ℕ) (b : BoardView) → IsKept b → is_over_by limit (local_of b) ≡ false → b.ended ≡ None
lives_none limit b kept goes = no_end b.ended (still_lives limit b kept goes)

-- what follows of an Ok
pub ok_then : {A E : Type 0} {P Q : A → Type 0} (r : Result A E) → IfOk r P → ((a : A) → P a → Q a) → IfOk r Q
ok_then (Ok a) h f = f a h
ok_then (Err e) h f = tt

-- a board that is left as it is
pub keeps_run : {limit : ℕ} (b : BoardView) → b.limit ≡ limit → mxm_of b.control ≡ false → KeepsRun limit b b
keeps_run b limit clear = record { limit_is = limit; image = refl; clear = clear; counted = refl }

-- what the registers hold
pub numbers_are : (b : BoardView) (numbers : List ℕ) (file : Registers) → file ≡ b.file → numbers ≡ file.numbers → numbers ≡ b.file.numbers
numbers_are b numbers file same is = is ∙ ap (λ (f : Registers). f.numbers) same

-- by what the board shows: a word that can't be fetched, one without an aid, one with an aid
pub unread_no_aid : (p : Program) (b : BoardView) (vector at place : ℕ) → IsProgramOf b.memory.image p → IsKept b →
    b.ended ≡ Some (Vector vector at) → place ≡ pc_of b.slots → None ≡ four_bytes (byte_at b.memory.image) place →
    NoAid b.ended (deed_seen p (local_of b))
unread_no_aid p b vector at place of kept ended here none =
    left_to_end p b vector at of kept ended
    (ap (λ (i : Option Instr). aid_at i vector b.file.numbers (byte_seen (bus_of b.memory)))
    (unread b.memory.image p (pc_of b.slots) of (none ∙ ap (λ a. four_bytes (byte_at b.memory.image) a) here)))

pub word_no_aid : (p : Program) (b : BoardView) (vector at place word : ℕ) (values : List ℕ) → IsProgramOf b.memory.image p → IsKept b →
    b.ended ≡ Some (Vector vector at) → place ≡ pc_of b.slots → values ≡ b.file.numbers → place % 4 ≡ 0 → word < 2 ^ 32 →
    Some (to_be_bytes w32 word) ≡ four_bytes (byte_at b.memory.image) place →
    ((j : Instr) → IsWord j word → (bytes : ℕ → ℕ) → is_some (aid_of j vector values bytes) ≡ false) →
    NoAid b.ended (deed_seen p (local_of b))
word_no_aid p b vector at place word values of kept ended here same aligned small there none =
    left_to_end p b vector at of kept ended
    (no_aid_for_word b.memory.image p (pc_of b.slots) word vector b.file.numbers (byte_seen (bus_of b.memory)) of
    (subst (λ (a : ℕ). a % 4 ≡ 0) here aligned) small (there ∙ ap (λ a. four_bytes (byte_at b.memory.image) a) here)
    (λ j is. ap (λ (xs : List ℕ). is_some (aid_of j vector xs (byte_seen (bus_of b.memory)))) (sym same)
    ∙ none j is (byte_seen (bus_of b.memory))))

pub word_aid : (p : Program) (b : BoardView) (vector place word : ℕ) (values : List ℕ) → IsProgramOf b.memory.image p →
    place ≡ pc_of b.slots → values ≡ b.file.numbers → place % 4 ≡ 0 → word < 2 ^ 32 →
    Some (to_be_bytes w32 word) ≡ four_bytes (byte_at b.memory.image) place →
    ((j : Instr) → IsWord j word → (bytes : ℕ → ℕ) → is_some (aid_of j vector values bytes) ≡ true) →
    (i : Instr) → IsWord i word →
    HasAid p (pc_of b.slots) word vector b.file.numbers (byte_seen (bus_of b.memory))
word_aid p b vector place word values of here same aligned small there some i is =
    aid_for_word b.memory.image p (pc_of b.slots) word vector b.file.numbers (byte_seen (bus_of b.memory)) of
    (subst (λ (a : ℕ). a % 4 ≡ 0) here aligned) small (there ∙ ap (λ a. four_bytes (byte_at b.memory.image) a) here)
    (λ j js. ap (λ (xs : List ℕ). is_some (aid_of j vector xs (byte_seen (bus_of b.memory)))) (sym same)
    ∙ some j js (byte_seen (bus_of b.memory))) i is

pub place_is : (b : BoardView) (end : End) (slot : Slot) (slots : Pointers) → IsKept b → b.ended ≡ Some end → slot ≡ slots.nip →
    slots ≡ b.slots →
    slot.addr ≡ pc_of b.slots
place_is b end slot slots kept ended first second =
    ap (λ (s : Slot). s.addr) first ∙ ap (λ (x : Pointers). x.nip.addr) second ∙ at_nip b end kept ended

-- the emulation that joins
pub pushed : (before after : List Emulation) (event events place at vector : ℕ) →
    after ≡ before ++ (record { event = event; at = place; vector = vector } ∷ []) → event ≡ events → place ≡ at →
    after ≡ before ++ (record { event = events; at = at; vector = vector } ∷ [])
pushed before after event events place at vector joined one two =
    joined ∙ ap₂ (λ (n a : ℕ). before ++ (record { event = n; at = a; vector = vector } ∷ [])) one two

-- a board that is over
over_by : (pending : List Access) (idle : Bool) → (not (is_pending pending) && idle) ≡ true → pending ≡ []
over_by [] idle h = refl
over_by (x ∷ xs) idle h = absurd cc

pub over_empty : (limit : ℕ) (b : BoardView) → is_over_by limit (local_of b) ≡ true → b.pending ≡ []
unfolding local_of
over_empty limit b over = over_by b.pending _ over

-- against the words of its program
pub came_to : (p : Program) (b : BoardView) (o : Outcome) → IsProgramOf b.memory.image p →
    o ≡ outcome_by (image_bus b.memory.image) (local_of b) →
    o ≡ outcome_by (in_words (opening p).memory) (local_of b)
unfolding opening
came_to p b o of value = value ∙ ap (λ (bus : ℕ → ℕ). outcome_by bus (local_of b)) (same_bytes p b.memory.image of)
