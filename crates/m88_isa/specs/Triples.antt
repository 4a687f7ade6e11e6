-- The three words that the data unit keeps of an access, DMT, DMD and DMA, bit by bit ("Control Registers": data unit
-- transaction registers). That BO and DAS, bits 15 and 14 of DMT, are never set is this project's profile: memory is
-- big-endian and programs run in user mode.
use Rattle.std.specs.Prelude.{ℕ, Bool, List, [], ◌∷◌, Option, Some, None, ◌+◌, ◌*◌, ◌/◌, ◌%◌, ◌^◌, ◌==◌, slice_get, if◌then◌else◌}
use Rattle.std.specs.Int.{bit_at}
use Rattle.m88_base.specs.declared.triple.Triple.{Triple}
use Rattle.m88_base.specs.Reg.{number_of, reg_of}
use Rattle.m88_base.specs.Triple.{no_triple}
use Rattle.m88_isa.specs.Compute.{weight_if}
use Rattle.m88_isa.specs.declared.planned.Access.{Access}

-- DMT: bit 13 DOUB1 marks the first half of a double word, 12 LOCKBAR both halves of an exchange, 11 to 7 DREG are
-- the register that a load writes, 6 SIGNED asks for its sign, 5 to 2 EN are the enables, bit 5 that of the byte at
-- offset 0, 1 WRITE marks a store, and 0 VALID that there is an access
abbrev pub dmt_of : Access → ℕ
dmt_of a =
    weight_if a.doub1 (2 ^ 13)
    + weight_if a.lock (2 ^ 12)
    + number_of a.reg * 2 ^ 7
    + weight_if a.signed (2 ^ 6)
    + a.en * 2 ^ 2
    + weight_if a.write (2 ^ 1)
    + 1

-- the words of an access: DMD has the whole register that a store writes, 0 of a load; DMA is the address of the word
abbrev pub triple_of : Access → Triple
triple_of a = record { dmt = dmt_of a; dmd = a.value; dma = a.addr }

-- the words of an access, if there is one
abbrev pub triple_or_none : Option Access → Triple
triple_or_none None = no_triple
triple_or_none (Some a) = triple_of a

-- triples 0, 1 and 2 of the accesses that are pending, of which triple 0 has the oldest
abbrev pub triples_of : List Access → List Triple
triples_of pending =
    triple_or_none (slice_get pending 0)
    ∷ triple_or_none (slice_get pending 1)
    ∷ triple_or_none (slice_get pending 2)
    ∷ []

-- VALID: there is an access that isn't done
abbrev pub is_valid_triple : Triple → Bool
is_valid_triple t = bit_at t.dmt 0 == 1

-- a triple whose access is done: VALID is cleared
abbrev pub finished : Triple → Triple
finished t = record t { dmt = t.dmt / 2 * 2 }

-- the access of a triple, field by field
abbrev pub access_in : Triple → Access
access_in t = record {
  write = bit_at t.dmt 1 == 1;
  addr = t.dma;
  en = t.dmt / 2 ^ 2 % 2 ^ 4;
  reg = reg_of (t.dmt / 2 ^ 7);
  signed = bit_at t.dmt 6 == 1;
  doub1 = bit_at t.dmt 13 == 1;
  lock = bit_at t.dmt 12 == 1;
  value = t.dmd;
}

-- the accesses of those of some triples that are valid, in order
abbrev pub accesses_in : List Triple → List Access
accesses_in [] = []
accesses_in (t ∷ triples) = if is_valid_triple t then access_in t ∷ accesses_in triples else accesses_in triples
