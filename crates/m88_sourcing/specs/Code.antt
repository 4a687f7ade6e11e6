-- The words of an image that are code: the least set that has the words at which code begins, and with a word those to
-- which its instruction leads; and the delay slots of these. The zero word is no code, though it is an instruction:
-- padding isn't a program.
use Rattle.std.specs.Prelude.{◌≡◌, ◌≢◌, ◌⊎◌, ℕ, true, ◌-◌, ◌^◌, List, ◌∷◌, map, Some, Contains}
use Rattle.m88_base.specs.Image.{ProgramImage, byte_at}
use Rattle.m88_isa.specs.Address.{after_bytes, word_address}
use Rattle.m88_isa.specs.ImageProgram.{HasWordOf}
use Rattle.m88_isa.specs.Word.{word_of}
use Rattle.m88_isa.specs.declared.instr.Instr.{Instr}
use Rattle.m88_sourcing.specs.Flow.{asks_for_end, goes_on_to, calls_monitor, slot, branch_target}
use Rattle.m88_sourcing.specs.Said.{Said}

-- an instruction stands at an address: its word, which isn't 0, at a multiple of 4
abbrev pub HoldsInstruction : ProgramImage → ℕ → Instr → Type 0
HoldsInstruction image a i = HasWordOf (byte_at image) a i × (word_of i ≢ 0)

-- some instruction stands there
abbrev pub HasInstruction : ProgramImage → ℕ → Type 0
HasInstruction image a = (i : Instr) × HoldsInstruction image a i

-- an instruction leads to an address: it is the one behind it, or its target
abbrev pub GoesTo : ℕ → Instr → ℕ → Type 0
GoesTo a i b = (goes_on_to a i ≡ Some b) ⊎ (branch_target a i ≡ Some b)

-- the program ends at an address: it calls the monitor, right behind the word that asks for the end
pub record IsExit (image : ProgramImage) (a : ℕ) : Type 0 where
  pub call : Instr
  pub ask : Instr
  pub stands : HoldsInstruction image a call
  pub before : HoldsInstruction image (after_bytes a (2 ^ 32 - 4)) ask
  pub calls : calls_monitor call ≡ true
  pub asks : asks_for_end ask ≡ true

-- an instruction stands at an address to which the one at another leads, which doesn't end the program
abbrev pub IsReachedFrom : ProgramImage → ℕ → ℕ → Type 0
IsReachedFrom image a b =
    (i : Instr) × HoldsInstruction image a i × ¬ IsExit image a × GoesTo a i b × HasInstruction image b

-- the addresses that are reached, where code begins at these
pub data IsReached (image : ProgramImage) (seeds : List ℕ) : ℕ → Type 0 where
  begins : {a : ℕ} → Contains seeds a → HasInstruction image a → IsReached image seeds a
  leads : {a b : ℕ} → IsReached image seeds a → IsReachedFrom image a b → IsReached image seeds b

-- the words at which code begins: the start's, and those of further addresses
abbrev pub seeds_of : ProgramImage → Said → List ℕ
seeds_of image said = word_address image.start ∷ map word_address said.entries

-- an instruction stands in the delay slot of the one at another address
abbrev pub IsSlotOf : ProgramImage → ℕ → ℕ → Type 0
IsSlotOf image a b = (i : Instr) × HoldsInstruction image a i × (slot a i ≡ Some b) × HasInstruction image b

-- the addresses of the words that are code: those that are reached, and the delay slots of branches and jumps that are;
-- a slot is led to by its own branch alone, and leads nowhere as a slot
pub data IsCode (image : ProgramImage) (said : Said) (b : ℕ) : Type 0 where
  reached : IsReached image (seeds_of image said) b → IsCode image said b
  in_slot : (a : ℕ) → IsReached image (seeds_of image said) a → IsSlotOf image a b → IsCode image said b

-- the byte at an address belongs to a word that is code
abbrev pub InCode : ProgramImage → Said → ℕ → Type 0
InCode image said a = IsCode image said (word_address a)
