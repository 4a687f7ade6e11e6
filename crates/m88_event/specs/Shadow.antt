-- The three instruction pointers and the processor status, as the control registers show them ("Control Registers").
use Rattle.std.specs.Prelude.{ℕ, Bool, false, ◌+◌, ◌^◌, is_none, if◌then◌else◌}
use Rattle.m88_base.specs.Slot.{squashed_slot, valid_slot}
use Rattle.m88_base.specs.declared.slot.Slot.{Slot}
use Rattle.m88_isa.specs.Compute.{weight_if}
use Rattle.m88_isa.specs.Address.{after_bytes}
use Rattle.m88_isa.specs.Machine.{Program, four_bytes}

-- XIP after an instruction was retired
abbrev pub retired_pointer : ℕ → Slot
retired_pointer a = valid_slot a false

-- an instruction that is to be issued; E where the image lacks one of its bytes
abbrev pub fetched_pointer : Program → ℕ → Slot
fetched_pointer p a = valid_slot a (is_none (four_bytes p.byte a))

-- NIP: the next instruction, or the one behind a taken branch that is passed over
abbrev pub nip_of : Program → Bool → Slot → ℕ → Slot
nip_of p bubble xip pc = if bubble then squashed_slot (after_bytes xip.addr 4) else fetched_pointer p pc

-- FIP: the instruction behind that one
abbrev pub fip_of : Program → Bool → ℕ → ℕ → Slot
fip_of p bubble pc next = fetched_pointer p (if bubble then pc else next)

-- the processor status: a user's program, the carry in bit 28 and MXM in bit 2
abbrev pub status_of : Bool → Bool → ℕ
status_of carry mxm = 0x3F8 + weight_if carry (2 ^ 28) + weight_if mxm (2 ^ 2)
