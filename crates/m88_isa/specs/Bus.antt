-- Data memory as the data unit sees it: words, and the accesses that load and store their bytes ("Data Unit").
use Rattle.std.specs.Prelude.{ℕ, zero, suc, Bool, true, false, not, List, [], ◌∷◌, ◌++◌, ◌≡◌, ◌*◌, ◌^◌, ◌==◌, ◌&&◌, ◌||◌, if◌then◌else◌}
use Rattle.m88_base.specs.Reg.{number_of, with_register}
use Rattle.m88_isa.specs.Address.{word_address}
use Rattle.m88_isa.specs.Lanes.{datum_of, merged, number_at}
use Rattle.m88_isa.specs.declared.planned.Access.{Access}
use Rattle.m88_isa.specs.declared.planned.Accesses.{Accesses}

-- memory by words: at each address the big-endian word that the address lies in
unfoldable pub in_words : (ℕ → ℕ) → ℕ → ℕ
in_words memory a = number_at memory (word_address a) 4

-- the words after the one at an address, a multiple of 4, is changed
unfoldable pub with_word : (ℕ → ℕ) → ℕ → ℕ → ℕ → ℕ
with_word bus address word a = if word_address a == address then word else bus a

-- what a load gets of the words
unfoldable pub loaded : Access → (ℕ → ℕ) → ℕ
loaded a bus = datum_of a.en a.signed (bus a.addr)

-- the words after a store
unfoldable pub stored : Access → (ℕ → ℕ) → ℕ → ℕ
stored a bus = with_word bus a.addr (merged a.en a.value (bus a.addr))

-- the words after an access, which a load leaves as they are
abbrev pub bus_after : Access → (ℕ → ℕ) → ℕ → ℕ
bus_after a bus = if a.write then stored a bus else bus

-- the words after some accesses, in order
unfoldable pub bus_after_all : List Access → (ℕ → ℕ) → ℕ → ℕ
bus_after_all [] bus = bus
bus_after_all (a ∷ accesses) bus = bus_after_all accesses (bus_after a bus)

-- what accesses change: the registers and the words
pub record Cells : Type 0 where
  pub regs : List ℕ
  pub bus : ℕ → ℕ

-- both after an access: a load writes its register, a store its word
abbrev pub after_access : Access → Cells → Cells
after_access a c = record {
  regs = if a.write then c.regs else with_register a.reg (loaded a c.bus) c.regs;
  bus = bus_after a c.bus;
}

-- both after some accesses, in order
unfoldable pub after_accesses : List Access → Cells → Cells
after_accesses [] c = c
after_accesses (a ∷ accesses) c = after_accesses accesses (after_access a c)

-- up to two accesses as a list
abbrev pub listed : Accesses → List Access
listed accesses =
    if accesses.count == 0 then []
    else if accesses.count == 1 then accesses.first ∷ []
    else accesses.first ∷ accesses.second ∷ []

-- an access loads a register; what is loaded into r0 is lost
abbrev pub loads : Access → ℕ → Bool
loads a register = not a.write && not (register == 0) && number_of a.reg == register

-- a register waits for one of some accesses to load it
unfoldable pub waits_for : List Access → ℕ → Bool
waits_for [] register = false
waits_for (a ∷ accesses) register = loads a register || waits_for accesses register

-- the words that differ between two contents of memory, among the first so many words: each with its address and its
-- later value, in order of address
unfoldable pub changed_among : ℕ → (ℕ → ℕ) → (ℕ → ℕ) → List (ℕ × ℕ)
changed_among zero old new = []
changed_among (suc words) old new =
    changed_among words old new
    ++ (if old (4 * words) == new (4 * words) then [] else (4 * words, new (4 * words)) ∷ [])

-- the same among all words
unfoldable pub changed_words : (ℕ → ℕ) → (ℕ → ℕ) → List (ℕ × ℕ)
changed_words old new = changed_among (2 ^ 30) old new

-- no two accesses load one register, r0 aside
abbrev pub LoadApart : List Access → Type 0
LoadApart [] = Unit {0}
LoadApart (a ∷ accesses) =
    (loads a (number_of a.reg) ≡ true → waits_for accesses (number_of a.reg) ≡ false) × LoadApart accesses
