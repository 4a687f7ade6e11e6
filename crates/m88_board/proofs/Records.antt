-- The record that a data fault leaves, from the parts.
use Rattle.std.specs.Prelude.{ℕ, Bool, true, false, not, List, Option, ◌≡◌, ◌≢◌, ◌+◌, is_none, if◌then◌else◌}
use Rattle.std.specs.Int.{bit_at}
use Rattle.std.proofs.Common.{arith, sym, ap, ap₂, ◌∙◌}
use Rattle.std.proofs.lemmas.Bool.{eqb-false}
use Rattle.std.proofs.lemmas.Nat.Bits.{bit_at-lt}
use Rattle.m88_base.proofs.Laws.{bit_of_member}
use Rattle.m88_base.specs.Image.{byte_at}
use Rattle.m88_base.specs.RegisterSet.{register_bits}
use Rattle.m88_base.specs.Slot.{squashed_slot, valid_slot, slot_word}
use Rattle.m88_base.specs.declared.slot.Slot.{Slot}
use Rattle.m88_base.specs.declared.triple.Triple.{Triple}
use Rattle.m88_event.proofs.Laws.{same_situation}
use Rattle.m88_event.specs.Local.{Local, record_by, situation_of}
use Rattle.m88_event.specs.Shadow.{fip_of, nip_of}
use Rattle.m88_event.specs.Situation.{record_of}
use Rattle.m88_event.specs.Timeline.{Moment, Run, record_at}
use Rattle.m88_event.specs.declared.record.Record.{Record}
use Rattle.m88_isa.specs.Address.{after_bytes}
use Rattle.m88_isa.specs.Machine.{Program, four_bytes}
use Rattle.m88_isa.specs.Triples.{triples_of}
use Rattle.m88_iunit.specs.Pointers.{word_behind}
use Rattle.m88_scoreboard.specs.Registers.{waiting_of}
use Rattle.m88_board.specs.Board.{BoardView, completed_of, local_of}
use Rattle.m88_isa.specs.ImageProgram.{IsProgramOf}
use Rattle.m88_board.specs.Kept.{IsKept, epsr_of}
use Rattle.m88_board.specs.Moves.{IsAt}
use Rattle.m88_board.proofs.Agree.{zero_waits_not}

-- NIP is the next instruction, or the one that is passed over
pub nip_is : (byte : ℕ → Option ℕ) (p : Program) (xip : Slot) (a : ℕ) (v e : Bool) (f : ℕ) → p.byte ≡ byte →
    record { addr = a; v = v; e = e }
    ≡ (if v then valid_slot a (is_none (four_bytes byte a)) else squashed_slot (word_behind xip.addr)) →
    (record { addr = a; v = v; e = e }) ≡ nip_of p (not v) xip (if v then a else f)
nip_is byte p xip a true e f of h =
    h ∙ ap (λ (b : ℕ → Option ℕ). valid_slot a (is_none (four_bytes b a))) (sym of)
nip_is byte p xip a false e f of h = h

-- FIP is behind it
pub fip_is : (byte : ℕ → Option ℕ) (p : Program) (fip : Slot) (a : ℕ) (v : Bool) → p.byte ≡ byte →
    fip ≡ valid_slot fip.addr (is_none (four_bytes byte fip.addr)) →
    fip
    ≡ fip_of p (not v) (if v then a else fip.addr) (if v then fip.addr else after_bytes fip.addr 4)
fip_is byte p fip a true of h =
    h
    ∙ ap (λ (b : ℕ → Option ℕ). valid_slot fip.addr (is_none (four_bytes b fip.addr))) (sym of)
fip_is byte p fip a false of h =
    h
    ∙ ap (λ (b : ℕ → Option ℕ). valid_slot fip.addr (is_none (four_bytes b fip.addr))) (sym of)

pub piped : (p : Program) (b : BoardView) → IsProgramOf b.memory.image p → IsKept b →
    record {
      event = b.events + 1;
      epsr = epsr_of b;
      sxip = slot_word b.slots.xip;
      snip = slot_word b.slots.nip;
      sfip = slot_word b.slots.fip;
      ssbr = register_bits (waiting_of b.file);
      triples = triples_of b.pending;
    } ≡ record_by p b.limit (local_of b)
unfolding record_of situation_of local_of completed_of
piped p b of kept =
    let nip = nip_is (byte_at b.memory.image) p b.slots.xip b.slots.nip.addr b.slots.nip.v b.slots.nip.e b.slots.fip.addr of.bytes kept.slots.nip in
    let fip = fip_is (byte_at b.memory.image) p b.slots.fip b.slots.nip.addr b.slots.nip.v of.bytes kept.slots.fip in
    λ i. record {
      event = b.events + 1;
      epsr = kept.status i;
      sxip = slot_word b.slots.xip;
      snip = slot_word (nip i);
      sfip = slot_word (fip i);
      ssbr = register_bits (kept.parts.waiting i);
      triples = triples_of b.pending;
    }

-- SSBR never has bit 0
pub zero_bit : (b : BoardView) → IsKept b → bit_at (register_bits (waiting_of b.file)) 0 ≡ 0
zero_bit b kept =
    let no = bit_of_member (waiting_of b.file) 32 0 (omega arith) ∙ zero_waits_not b.pending b.file b.memory kept.parts in
    let other : bit_at (register_bits (waiting_of b.file)) 0 ≢ 1 = eqb-false (bit_at (register_bits (waiting_of b.file)) 0) 1 no in
    let small = bit_at-lt (register_bits (waiting_of b.file)) 0 in
    omega (arith, other, small)

-- the same of what the parts answer
pub piped_by : (p : Program) (b : BoardView) (epsr sxip snip sfip ssbr : ℕ) (triples : List Triple) →
    IsProgramOf b.memory.image p →
    IsKept b →
    epsr ≡ epsr_of b →
    sxip ≡ slot_word b.slots.xip →
    snip ≡ slot_word b.slots.nip →
    sfip ≡ slot_word b.slots.fip →
    ssbr ≡ register_bits (waiting_of b.file) →
    triples ≡ triples_of b.pending →
    record {
      event = b.events + 1;
      epsr = epsr;
      sxip = sxip;
      snip = snip;
      sfip = sfip;
      ssbr = ssbr;
      triples = triples;
    } ≡ record_by p b.limit (local_of b)
piped_by p b epsr sxip snip sfip ssbr triples of kept status first second third waits all =
    (λ i. record {
      event = b.events + 1;
      epsr = status i;
      sxip = first i;
      snip = second i;
      sfip = third i;
      ssbr = waits i;
      triples = all i;
    }) ∙ piped p b of kept

-- and at a moment
pub piped_at : (r : Run) (m : Moment) (b : BoardView) (fault : Record) → IsAt r m b →
    fault ≡ record_by r.program b.limit (local_of b) → fault ≡ record_at r m
piped_at r m b fault at is =
    is ∙ ap₂ (λ (n : ℕ) (l : Local). record_by r.program n l) at.limit at.seen ∙ ap (record_of r.program) (same_situation r m)
