-- The accesses of the load, store and exchange instructions ("Instruction Set": load, store and exchange instructions;
-- "Control Registers": the registers of a data transaction).
use Rattle.std.specs.Prelude.{ℕ, Bool, true, false, List, [], ◌∷◌, ◌*◌, ◌/◌, ◌%◌, ◌≡◌, ◌<◌}
use Rattle.m88_base.specs.declared.reg.Reg.{Reg}
use Rattle.m88_isa.specs.Address.{after_bytes, word_address}
use Rattle.m88_isa.specs.Lanes.{IsEnable, enable_of}
use Rattle.m88_isa.specs.Operands.{no_register, register_after}
use Rattle.m88_isa.specs.declared.planned.Access.{Access}
use Rattle.m88_isa.specs.declared.planned.Accesses.{Accesses}
use Rattle.m88_isa.specs.declared.instr.MemOp.{MemOp}
use Rattle.m88_isa.specs.declared.instr.MemOp.TheVariants as memop

-- one access to 1, 2 or 4 bytes of memory at a place; of a store the value is the whole register
pub record Touch : Type 0 where
  pub place : ℕ
  pub size : ℕ
  pub write : Bool
  pub register : Reg
  pub signed : Bool
  pub value : ℕ
  pub first_half : Bool
  pub lock : Bool

-- a load of some bytes into a register
abbrev pub load : ℕ → Bool → Reg → ℕ → Touch
load size signed d place = record {
  place = place;
  size = size;
  write = false;
  register = d;
  signed = signed;
  value = 0;
  first_half = false;
  lock = false;
}

-- a store of the low bytes of a value
abbrev pub store : ℕ → ℕ → ℕ → Touch
store size value place = record {
  place = place;
  size = size;
  write = true;
  register = no_register;
  signed = false;
  value = value;
  first_half = false;
  lock = false;
}

-- the first word of a double word
abbrev pub first_half : Touch → Touch
first_half t = record t { first_half = true }

-- one half of an exchange
abbrev pub locked : Touch → Touch
locked t = record t { lock = true }

-- the bytes of the datum: the place is a multiple of them, and a scaled index counts them
abbrev pub size_of : MemOp → ℕ
size_of memop.XmemBu = 1
size_of memop.Xmem = 4
size_of memop.LdHu = 2
size_of memop.LdBu = 1
size_of memop.LdD = 8
size_of memop.Ld = 4
size_of memop.LdH = 2
size_of memop.LdB = 1
size_of memop.StD = 8
size_of memop.St = 4
size_of memop.StH = 2
size_of memop.StB = 1

-- an address rounded down to a multiple of that size
abbrev pub rounded : MemOp → ℕ → ℕ
rounded op place = place / size_of op * size_of op

-- the accesses of a memory mnemonic at a place, in order; `value` is what D holds and `second` what the register after
-- D holds
abbrev pub touches_of : MemOp → Reg → ℕ → ℕ → ℕ → List Touch
touches_of memop.XmemBu d value second place = locked (load 1 false d place) ∷ locked (store 1 value place) ∷ []
touches_of memop.Xmem d value second place = locked (load 4 false d place) ∷ locked (store 4 value place) ∷ []
touches_of memop.LdHu d value second place = load 2 false d place ∷ []
touches_of memop.LdBu d value second place = load 1 false d place ∷ []
touches_of memop.LdD d value second place =
    first_half (load 4 false d place) ∷ load 4 false (register_after d) (after_bytes place 4) ∷ []
touches_of memop.Ld d value second place = load 4 false d place ∷ []
touches_of memop.LdH d value second place = load 2 true d place ∷ []
touches_of memop.LdB d value second place = load 1 true d place ∷ []
touches_of memop.StD d value second place = first_half (store 4 value place) ∷ store 4 second (after_bytes place 4) ∷ []
touches_of memop.St d value second place = store 4 value place ∷ []
touches_of memop.StH d value second place = store 2 value place ∷ []
touches_of memop.StB d value second place = store 1 value place ∷ []

-- an access as the data unit records it: the word's address and the enable of the touched bytes
abbrev pub access_of : Touch → Access
access_of t = record {
  write = t.write;
  addr = word_address t.place;
  en = enable_of t.place t.size;
  reg = t.register;
  signed = t.signed;
  doub1 = t.first_half;
  lock = t.lock;
  value = t.value;
}

-- an access that isn't there
abbrev pub no_access : Access
no_access = record {
  write = false;
  addr = 0;
  en = 0;
  reg = no_register;
  signed = false;
  doub1 = false;
  lock = false;
  value = 0;
}

-- up to two accesses as the data unit records them
abbrev pub recorded : List Touch → Accesses
recorded [] = record { count = 0; first = no_access; second = no_access }
recorded (t ∷ []) = record { count = 1; first = access_of t; second = no_access }
recorded (t ∷ u ∷ _) = record { count = 2; first = access_of t; second = access_of u }

-- an access that the data unit can make: the address of a word and one of its enables; a write has no register to load
-- and no sign to extend, a read has no value to store
abbrev pub IsWordAccess : Access → Type 0
IsWordAccess a =
    (a.addr % 4 ≡ 0)
    × IsEnable a.en
    × (a.write ≡ true → (a.reg ≡ no_register) × (a.signed ≡ false))
    × (a.write ≡ false → a.value ≡ 0)

-- that many accesses, each of which the data unit can make, and nothing in the places behind them
abbrev pub AreWordAccesses : ℕ → Accesses → Type 0
AreWordAccesses count accesses =
    (accesses.count ≡ count)
    × (0 < count → IsWordAccess accesses.first)
    × (1 < count → IsWordAccess accesses.second)
    × (count < 1 → accesses.first ≡ no_access)
    × (count < 2 → accesses.second ≡ no_access)
