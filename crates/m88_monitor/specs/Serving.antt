-- How the monitor finishes the data transactions that a fault left ("Exception Processing": data access exception).
use Rattle.std.specs.Prelude.{ℕ, Bool, true, false, List, Option, Some, None, ◌≡◌, ◌+◌, ◌-◌, ◌*◌, ◌%◌, ◌^◌, ◌==◌, if◌then◌else◌}
use Rattle.std.specs.Int.{bit_at}
use Rattle.m88_base.specs.Pages.{page_number}
use Rattle.m88_base.specs.Reg.{number_of, with_register}
use Rattle.m88_base.specs.declared.triple.Triple.{Triple}
use Rattle.m88_ctrl.specs.ControlRegisters.{ControlRegisters}
use Rattle.m88_isa.specs.Bus.{bus_after, loaded}
use Rattle.m88_isa.specs.Lanes.{IsEnable}
use Rattle.m88_isa.specs.Triples.{access_in, finished, is_valid_triple}
use Rattle.m88_isa.specs.declared.planned.Access.{Access}
use Rattle.m88_mem.specs.DataBus.{MemoryView, absent_of, bus_of, ready_of}
use Rattle.m88_mem.specs.Marks.{with_page}
use Rattle.m88_monitor.specs.declared.served.ServedAccess.{ServedAccess}
use Rattle.m88_scoreboard.specs.Registers.{Registers, waiting_of}

-- what the service changes: the control registers, the numbers in the registers, the words of the data bus, the absent
-- pages
pub record Serving : Type 0 where
  pub control : ControlRegisters
  pub numbers : List ℕ
  pub bus : ℕ → ℕ
  pub absent : ℕ → Bool

-- the words of a transaction by its place, 0 the oldest
abbrev pub triple_at : ℕ → ControlRegisters → Triple
triple_at index c = if index == 0 then c.t0 else if index == 1 then c.t1 else c.t2

-- the control registers with VALID of one triple cleared, by its place
abbrev pub with_finished : ℕ → ControlRegisters → ControlRegisters
with_finished index c =
    if index == 0 then record c { t0 = finished c.t0 }
    else if index == 1 then record c { t1 = finished c.t1 }
    else record c { t2 = finished c.t2 }

-- a word with one bit cleared
abbrev pub without_bit : ℕ → ℕ → ℕ
without_bit n word = word - bit_at word n * 2 ^ n

-- the control registers once the bit of a load's register in SSBR is cleared
abbrev pub with_loaded : Access → ControlRegisters → ControlRegisters
with_loaded a c = if a.write then c else record c { ssbr = without_bit (number_of a.reg) c.ssbr }

-- an access is made with its page supplied, and its triple is finished
abbrev pub after_access_at : ℕ → Access → Serving → Serving
after_access_at index a s = record {
  control = with_finished index (with_loaded a s.control);
  numbers = if a.write then s.numbers else with_register a.reg (loaded a s.bus) s.numbers;
  bus = bus_after a s.bus;
  absent = with_page (page_number a.addr) false s.absent;
}

-- a triple that isn't valid changes nothing
abbrev pub after_triple : ℕ → Serving → Serving
after_triple index s =
    if is_valid_triple (triple_at index s.control)
    then after_access_at index (access_in (triple_at index s.control)) s
    else s

-- the three triples in order, the oldest first
abbrev pub after_service : Serving → Serving
after_service s = after_triple 2 (after_triple 1 (after_triple 0 s))

-- what a load puts into its register, of the words as they are before; 0 of a store
abbrev pub datum_put : Access → (ℕ → ℕ) → ℕ
datum_put a bus = if a.write then 0 else loaded a bus

-- the access of a triple that is valid, and what it puts into a register
abbrev pub served_access : Triple → (ℕ → ℕ) → Option ServedAccess
served_access t bus =
    if is_valid_triple t then Some (record { access = access_in t; datum = datum_put (access_in t) bus }) else None

-- an access that can be made: the page of a store is ready
pub record CanServe (ready : ℕ → Bool) (a : Access) : Type 0 where
  pub word : a.addr % 4 ≡ 0
  pub enable : IsEnable a.en
  pub prepared : a.write ≡ true → ready (page_number a.addr) ≡ true

-- a triple that is valid has such an access
abbrev pub CanServeTriple : (ℕ → Bool) → Triple → Type 0
CanServeTriple ready t = is_valid_triple t ≡ true → CanServe ready (access_in t)

-- and so has each of the three triples that is
pub record CanServeAll (ready : ℕ → Bool) (c : ControlRegisters) : Type 0 where
  pub first : CanServeTriple ready c.t0
  pub second : CanServeTriple ready c.t1
  pub third : CanServeTriple ready c.t2

-- what the service leaves as it is: which registers wait, the image and which pages are ready
pub record KeepsRest (file : Registers) (memory : MemoryView) (file' : Registers) (memory' : MemoryView) : Type 0 where
  pub waiting : waiting_of file' ≡ waiting_of file
  pub image : memory'.image ≡ memory.image
  pub ready : ready_of memory' ≡ ready_of memory

-- 1 for a triple that is valid, 0 for another
abbrev pub valid_count_of : Triple → ℕ
valid_count_of t = if is_valid_triple t then 1 else 0

-- how many of the three triples are valid
abbrev pub valid_count : ControlRegisters → ℕ
valid_count c = valid_count_of c.t0 + valid_count_of c.t1 + valid_count_of c.t2

-- control registers, register file and memory as the service sees them
abbrev pub serving_of : ControlRegisters → Registers → MemoryView → Serving
serving_of control regs memory = record {
  control = control;
  numbers = regs.numbers;
  bus = bus_of memory;
  absent = absent_of memory;
}
