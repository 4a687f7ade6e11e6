-- A follower goes from a state of the history to the next.
use Rattle.std.specs.Prelude.{ℕ, suc, Bool, true, false, List, [], ◌++◌, Option, Some, None, IfOk, OnOk, Result, Ok, Err, ◌≡◌, ◌<◌, ◌+◌, ◌%◌, ◌^◌, option_map, replicate, unwrap_or}
use Rattle.std.specs.Int.{from_be_bytes, to_be_bytes, w32}
use Rattle.std.proofs.Common.{add-one, refl, sym, ap, ap₂, ◌∙◌}
use Rattle.std.proofs.lemmas.Nat.{from_be_bytes-to_be_bytes_4}
use Rattle.m88_base.specs.Image.{ProgramImage, byte_at}
use Rattle.m88_base.specs.Lines.{line_end}
use Rattle.m88_board.proofs.Laws.{found_there, mode_stays, none_there}
use Rattle.m88_isa.proofs.Laws.{TurnFits, instruction_at_word, listed_recorded, state_agrees, turn_fits}
use Rattle.m88_base.specs.Reg.{with_register}
use Rattle.m88_event.specs.declared.happened.End.{End}
use Rattle.m88_isa.specs.Address.{after_bytes, word_address}
use Rattle.m88_isa.specs.Bus.{after_access, after_accesses, in_words, loaded}
use Rattle.m88_isa.specs.Lanes.{datum_of}
use Rattle.m88_mem.specs.DataBus.{image_bus, image_bytes}
use Rattle.m88_isa.specs.Effect.{meaning_of}
use Rattle.m88_isa.specs.Held.{is_stop}
use Rattle.m88_isa.specs.History.{Completed, after_turn, completed_state}
use Rattle.m88_isa.specs.ImageProgram.{IsProgramOf}
use Rattle.m88_isa.specs.Machine.{IsProgram, Program, State, Turn, by_vector, carried_out, changes, executed, fetched, four_bytes, opening, outputs, state, stops, turn, turn_at, with_written}
use Rattle.m88_isa.specs.Vector.{unimplemented}
use Rattle.m88_isa.specs.Word.{IsWord}
use Rattle.m88_isa.specs.declared.instr.Instr.{Instr}
use Rattle.m88_isa.specs.declared.planned.Access.{Access}
use Rattle.m88_trace.specs.Inside.Doings.{Seen, after_doing, doing_line, doing_of, ends_by, seen_at_state}
use Rattle.m88_trace.specs.Lines.{accesses_text, datum_by, head_text, turn_line, written_text}
use Rattle.m88_trace.specs.Trace.{trace_line_at, program_word_at}
use Rattle.m88_trace.specs.declared.doing.Doing.{Doing}
use Rattle.m88_trace.specs.declared.doing.Doing.TheVariants.{Ends}

-- the line of what the code has is that of the turn
pub same_line : (number at word : ℕ) (turn : Turn) (bus : ℕ → ℕ) → TurnFits turn →
    doing_line number at word (doing_of turn) bus ≡ turn_line number at word turn bus
same_line number at word (changes change) bus fits =
    ap (λ (xs : List Access). head_text number at word ++ written_text change.register ++ accesses_text xs bus
    ++ line_end)
    (listed_recorded change.touches fits.short)
same_line number at word _ bus fits = refl

-- and so is whether the program ends by it
pub same_end : (turn : Turn) → ends_by (doing_of turn) ≡ is_stop turn
same_end (changes change) = refl
same_end _ = refl

-- of a state by words, what a follower has
abbrev seen_by : Completed → Seen
seen_by c = record { regs = c.regs; carry = c.carry; pc = c.pc; next = c.next; bus = c.bus }

seen_completed : (s : State) → seen_at_state s ≡ seen_by (completed_state s)
unfolding seen_at_state completed_state
seen_completed s = refl

after_by : (turn : Turn) (c : Completed) → TurnFits turn →
    seen_by (after_turn turn c) ≡ after_doing (doing_of turn) (seen_by c)
unfolding after_turn after_doing
after_by (changes change) c fits =
    ap (λ (xs : List Access).
    let cells = after_accesses xs (record { regs = with_written change.register c.regs; bus = c.bus }) in
    record { regs = cells.regs; carry = change.carry; pc = change.after.0; next = change.after.1; bus = cells.bus })
    (sym (listed_recorded change.touches fits.short))
after_by _ c fits = refl

pub doing_fits : (p : Program) (n : ℕ) → IsProgram p → TurnFits (turn_at p (state p n))
doing_fits p n is = turn_fits p (state p n).regs (state p n).carry (state p n).mxm (state p n).pc (state p n).next is

-- what the code has of the next instruction goes on to the next state
pub next_seen : (p : Program) (n : ℕ) → IsProgram p →
    seen_at_state (state p (n + 1)) ≡ after_doing (doing_of (turn_at p (state p n))) (seen_at_state (state p n))
next_seen p n is =
    ap (λ k. seen_at_state (state p k)) (add-one n)
    ∙ seen_completed (state p (suc n))
    ∙ ap seen_by (state_agrees p n is)
    ∙ after_by (turn_at p (state p n)) (completed_state (state p n)) (doing_fits p n is)
    ∙ ap (after_doing (doing_of (turn_at p (state p n)))) (sym (seen_completed (state p n)))

-- the turn by what a follower has is that of the state
pub turn_seen : (p : Program) (n : ℕ) (f : Seen) → p.mxm ≡ false → f ≡ seen_at_state (state p n) →
    turn p f.regs f.carry false f.pc f.next ≡ turn_at p (state p n)
unfolding seen_at_state
turn_seen p n f clear same =
    ap (λ (s : Seen). turn p s.regs s.carry false s.pc s.next) same
    ∙ ap (λ (mxm : Bool). turn p (state p n).regs (state p n).carry mxm (state p n).pc (state p n).next)
    (sym (mode_stays p n ∙ clear))

-- the word at an address is the one that was fetched, or 0 where none was
pub word_is : (p : Program) (image : ProgramImage) (a : ℕ) (word : Option ℕ) → IsProgramOf image p →
    unwrap_or word 0 < 2 ^ 32 →
    option_map (λ w. to_be_bytes w32 w) word ≡ four_bytes (byte_at image) a →
    unwrap_or word 0 ≡ program_word_at p a
unfolding program_word_at
word_is p image a None of small fetched =
    ap (λ (o : Option (List ℕ)). from_be_bytes w32 (unwrap_or o []))
    (fetched ∙ ap (λ (byte : ℕ → Option ℕ). four_bytes byte a) (sym of.bytes))
word_is p image a (Some w) of small fetched =
    sym (from_be_bytes-to_be_bytes_4 w small)
    ∙ ap (λ (o : Option (List ℕ)). from_be_bytes w32 (unwrap_or o []))
    (fetched ∙ ap (λ (byte : ℕ → Option ℕ). four_bytes byte a) (sym of.bytes))

-- the bytes and the instruction of a word that was fetched
bytes_there : (p : Program) (image : ProgramImage) (pc word : ℕ) (fetch : Option ℕ) → IsProgramOf image p →
    fetch ≡ Some word →
    option_map (λ w. to_be_bytes w32 w) fetch ≡ four_bytes (byte_at image) pc →
    four_bytes (byte_at image) pc ≡ Some (to_be_bytes w32 word)
bytes_there p image pc word fetch of some h = sym h ∙ ap (option_map (λ w. to_be_bytes w32 w)) some

turn_by_word : (p : Program) (image : ProgramImage) (regs : List ℕ) (carry : Bool) (pc next word : ℕ)
    (i : Option Instr) →
    IsProgramOf image p →
    four_bytes (byte_at image) pc ≡ Some (to_be_bytes w32 word) →
    p.instruction pc ≡ i →
    turn p regs carry false pc next ≡ executed i regs carry false pc next
turn_by_word p image regs carry pc next word i of there is =
    ap₂ (λ (o : Option (List ℕ)) (j : Option Instr). fetched o j regs carry false pc next)
    (ap (λ (byte : ℕ → Option ℕ). four_bytes byte pc) of.bytes ∙ there) is

-- the turn where the word is no instruction
pub turn_unread : (p : Program) (image : ProgramImage) (regs : List ℕ) (carry : Bool) (pc next word : ℕ)
    (fetch : Option ℕ) →
    IsProgramOf image p →
    pc % 4 ≡ 0 →
    word < 2 ^ 32 →
    fetch ≡ Some word →
    option_map (λ w. to_be_bytes w32 w) fetch ≡ four_bytes (byte_at image) pc →
    ((j : Instr) → ¬ IsWord j word) →
    turn p regs carry false pc next ≡ stops (by_vector unimplemented pc)
turn_unread p image regs carry pc next word fetch of aligned small some h none =
    let there = bytes_there p image pc word fetch of some h in
    turn_by_word p image regs carry pc next word None of there
    (none_there (p.instruction pc) word (instruction_at_word image p pc word of aligned small there) none)

-- the turn of the instruction of the word
pub turn_read : (p : Program) (image : ProgramImage) (regs : List ℕ) (carry : Bool) (pc next word : ℕ)
    (fetch : Option ℕ) (i : Instr) →
    IsProgramOf image p →
    pc % 4 ≡ 0 →
    word < 2 ^ 32 →
    fetch ≡ Some word →
    option_map (λ w. to_be_bytes w32 w) fetch ≡ four_bytes (byte_at image) pc →
    IsWord i word →
    ((j : Instr) → IsWord j word → j ≡ i) →
    turn p regs carry false pc next ≡ carried_out (meaning_of i regs carry false pc next) regs pc
turn_read p image regs carry pc next word fetch i of aligned small some h is only =
    let there = bytes_there p image pc word fetch of some h in
    turn_by_word p image regs carry pc next word (Some i) of there
    (found_there (p.instruction pc) i word (instruction_at_word image p pc word of aligned small there) is only)

-- what a follower wrote and sees behind a step
pub line_is : (p : Program) (n : ℕ) (f : Seen) (word : ℕ) → IsProgram p → p.mxm ≡ false → f ≡ seen_at_state (state p n) →
    word ≡ program_word_at p f.pc →
    doing_line n f.pc word (doing_of (turn p f.regs f.carry false f.pc f.next)) f.bus ≡ trace_line_at p n (state p n)
unfolding seen_at_state
line_is p n f word is clear same words =
    same_line n f.pc word (turn p f.regs f.carry false f.pc f.next) f.bus
    (turn_fits p f.regs f.carry false f.pc f.next is)
    ∙ ap₂ (λ (w : ℕ) (t : Turn). turn_line n f.pc w t f.bus) words (turn_seen p n f clear same)
    ∙ ap (λ (s : Seen). turn_line n s.pc (program_word_at p s.pc) (turn_at p (state p n)) s.bus) same

-- what is seen behind a step
pub seen_is : (p : Program) (n : ℕ) (f new : Seen) → IsProgram p → p.mxm ≡ false → f ≡ seen_at_state (state p n) →
    new ≡ after_doing (doing_of (turn p f.regs f.carry false f.pc f.next)) f →
    new ≡ seen_at_state (state p (n + 1))
seen_is p n f new is clear same goes =
    goes
    ∙ ap₂ (λ (t : Turn) (s : Seen). after_doing (doing_of t) s) (turn_seen p n f clear same) same
    ∙ sym (next_seen p n is)

pub end_is : (p : Program) (n : ℕ) (f : Seen) → p.mxm ≡ false → f ≡ seen_at_state (state p n) →
    ends_by (doing_of (turn p f.regs f.carry false f.pc f.next)) ≡ is_stop (turn_at p (state p n))
end_is p n f clear same = same_end (turn p f.regs f.carry false f.pc f.next) ∙ ap is_stop (turn_seen p n f clear same)

-- at the end nothing changes
pub ends_stay : (d : Doing) (end : End) (s : Seen) → d ≡ Ends end → s ≡ after_doing d s
unfolding after_doing
ends_stay d end s e = rw e refl

-- a follower begins at the opening state
pub opens : (p : Program) (image : ProgramImage) (start : ℕ) (bus : ℕ → ℕ) → IsProgramOf image p → start ≡ image.start →
    bus ≡ image_bus image →
    record {
      regs = replicate 32 0;
      carry = false;
      pc = word_address start;
      next = after_bytes (word_address start) 4;
      bus = bus;
    } ≡ seen_at_state (opening p)
unfolding seen_at_state opening image_bytes
opens p image start bus of starts words =
    let here = starts ∙ sym of.start in
    let bytes = words ∙ ap (λ (byte : ℕ → Option ℕ). in_words (λ a. unwrap_or (byte a) 0)) (sym of.bytes) in
    λ i. record {
      regs = replicate 32 0;
      carry = false;
      pc = word_address (here i);
      next = after_bytes (word_address (here i)) 4;
      bus = bytes i;
    }

-- the datum of a load
pub loads : (a : Access) (bus : ℕ → ℕ) (word datum : ℕ) → a.write ≡ false → word ≡ bus a.addr →
    datum ≡ datum_of a.en a.signed word →
    datum ≡ datum_by a bus
unfolding datum_by loaded
loads a bus word datum read is gets = rw read (gets ∙ ap (datum_of a.en a.signed) is)

-- that of a store
pub stores : (a : Access) (bus : ℕ → ℕ) → a.write ≡ true → a.value ≡ datum_by a bus
unfolding datum_by
stores a bus write = rw write refl

-- registers and words after a load
pub load_cells : (a : Access) (regs : List ℕ) (bus : ℕ → ℕ) (datum : ℕ) → a.write ≡ false → datum ≡ datum_by a bus →
    record { regs = with_register a.reg datum regs; bus = bus } ≡ after_access a (record { regs = regs; bus = bus })
unfolding datum_by loaded
load_cells a regs bus datum read is =
    let gets : datum ≡ loaded a bus = is ∙ rw read refl in
    rw read (ap (λ (d : ℕ). record { regs = with_register a.reg d regs; bus = bus }) gets)

-- what is said of an answer that is there
pub ok_both_of : {T E A : Type 0} (r : Result T E) (P Q : T → Type 0) → IfOk r P → OnOk r A →
    ((x : T) → P x → A → Q x) → IfOk r Q
ok_both_of (Ok x) P Q p a h = h x p a
ok_both_of (Err e) P Q p a h = tt
