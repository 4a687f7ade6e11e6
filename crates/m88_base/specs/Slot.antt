-- An instruction pointer and its word ("Exception Processing": the words of XIP, NIP and FIP).
use Rattle.std.specs.Prelude.{ℕ, Bool, true, false, ◌≡◌, ◌+◌, ◌*◌, ◌/◌, ◌%◌, ◌==◌, if◌then◌else◌}
use Rattle.std.specs.Int.{bit_at}
use Rattle.m88_base.specs.declared.slot.Slot.{Slot}

-- the pointer to nothing, which XIP is before the first instruction
abbrev pub no_slot : Slot
no_slot = record { addr = 0; v = false; e = false }

-- the pointer to an instruction that counts; E says that it can't be fetched
abbrev pub valid_slot : ℕ → Bool → Slot
valid_slot address e = record { addr = address; v = true; e = e }

-- the pointer to an instruction that is passed over
abbrev pub squashed_slot : ℕ → Slot
squashed_slot address = record { addr = address; v = false; e = false }

-- the number of a mark: 1 where it is set
abbrev pub mark_bit : Bool → ℕ
mark_bit mark = if mark then 1 else 0

-- the word of a pointer: the address in bits 31 to 2, V in bit 1, E in bit 0
abbrev pub slot_word : Slot → ℕ
slot_word slot = slot.addr + 2 * mark_bit slot.v + mark_bit slot.e

-- the pointer of a word
abbrev pub slot_of : ℕ → Slot
slot_of word = record { addr = word / 4 * 4; v = bit_at word 1 == 1; e = bit_at word 0 == 1 }

-- a pointer has the address of a word
abbrev pub IsWordSlot : Slot → Type 0
IsWordSlot slot = slot.addr % 4 ≡ 0
