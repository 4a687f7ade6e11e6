-- The instruction pointers ("Exception Processing": XIP, NIP and FIP, the addresses of the instruction retired last,
-- the next one and the one being fetched).
use Rattle.std.specs.Prelude.{ℕ, Bool, ◌+◌, ◌%◌, ◌^◌}
use Rattle.m88_base.specs.Slot.{IsWordSlot, no_slot, slot_of, valid_slot}
use Rattle.m88_base.specs.declared.slot.Slot.{Slot}

-- the three pointers
pub record Pointers : Type 0 where
  pub xip : Slot
  pub nip : Slot
  pub fip : Slot

-- the address of the word behind one, modulo 2^32
abbrev pub word_behind : ℕ → ℕ
word_behind address = (address + 4) % 2 ^ 32

-- each of the pointers has the address of a word
pub record AreWordSlots (pointers : Pointers) : Type 0 where
  pub xip : IsWordSlot pointers.xip
  pub nip : IsWordSlot pointers.nip
  pub fip : IsWordSlot pointers.fip

-- the pointers at the start of a program, when no instruction is retired yet
abbrev pub at_entry : ℕ → Bool → Bool → Pointers
at_entry entry entry_e behind_e = record {
  xip = no_slot;
  nip = valid_slot entry entry_e;
  fip = valid_slot (word_behind entry) behind_e;
}

-- the pointers after the next instruction was retired, with NIP and FIP as they are given
abbrev pub advanced : Pointers → Slot → Slot → Pointers
advanced p nip fip = record { xip = p.nip; nip = nip; fip = fip }

-- NIP and FIP of two words, with XIP as it is
abbrev pub resumed : Pointers → ℕ → ℕ → Pointers
resumed p snip sfip = record { xip = p.xip; nip = slot_of snip; fip = slot_of sfip }
