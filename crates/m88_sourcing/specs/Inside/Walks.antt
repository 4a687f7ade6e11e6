-- What a walk through a program has found.
use Rattle.std.specs.Prelude.{◌≡◌, ◌⊎◌, ◌↔◌, ℕ, ◌+◌, ◌<◌, List, ◌++◌, length, slice_get, None, Some, Contains, IsSome, IsTrue}
use Rattle.std.specs.FinSet.{contains}
use Rattle.m88_base.specs.Image.{ProgramImage, byte_at}
use Rattle.m88_isa.specs.declared.instr.Instr.{Instr}
use Rattle.m88_sourcing.specs.Code.{GoesTo, HasInstruction, HoldsInstruction, IsExit, IsReached, IsReachedFrom}
use Rattle.m88_sourcing.specs.Flow.{slot}
use Rattle.m88_sourcing.specs.Labels.{BranchesTo}
use Rattle.m88_sourcing.specs.declared.outline.Outline.{Outline}
use Rattle.m88_sourcing.specs.declared.reaching.Walk.{Walk}

-- the bytes of an image from an address on, up to the first address without one
pub record AreRest (image : ProgramImage) (at : ℕ) (bytes : List ℕ) : Type 0 where
  pub there : (k : ℕ) → k < length bytes → byte_at image (at + k) ≡ slice_get bytes k
  pub end : byte_at image (at + length bytes) ≡ None

-- one of the words of code that were found branches to an address
abbrev pub IsNamedBy : ProgramImage → Outline → ℕ → Type 0
IsNamedBy image o t = (from : ℕ) × IsTrue (contains o.code from) × BranchesTo image from t

-- the labels and the far targets that were found are the targets of the words of code that were
pub record NamesTargets (image : ProgramImage) (o : Outline) : Type 0 where
  pub labels : (a : ℕ) → IsTrue (contains o.labels a) ↔ (IsNamedBy image o a × IsSome (byte_at image a))
  pub far : (a : ℕ) → Contains o.far.items a ↔ (IsNamedBy image o a × (byte_at image a ≡ None))

-- the instruction at an address has its delay slot at another, where one may stand or not
abbrev pub HasSlot : ProgramImage → ℕ → ℕ → Type 0
HasSlot image a b = (i : Instr) × HoldsInstruction image a i × (slot a i ≡ Some b)

-- the instruction at an address, which doesn't end the program, leads to another, where one may stand or not
abbrev pub MayLeadTo : ProgramImage → ℕ → ℕ → Type 0
MayLeadTo image a b = (i : Instr) × HoldsInstruction image a i × ¬ IsExit image a × GoesTo a i b

-- an address is reached, where an instruction stands there
abbrev pub IsReachedIfCode : ProgramImage → List ℕ → ℕ → Type 0
IsReachedIfCode image seeds a = HasInstruction image a → IsReached image seeds a

-- what a walk has found is reached from these addresses
pub record IsWalkSound (image : ProgramImage) (seeds : List ℕ) (w : Walk) : Type 0 where
  pub code : (a : ℕ) → IsTrue (contains w.outline.code a) → IsReached image seeds a
  pub heads : (a : ℕ) → Contains w.heads.items a → IsReachedIfCode image seeds a
  pub slots : (b : ℕ) → Contains w.slots.items b → (a : ℕ) × IsReached image seeds a × HasSlot image a b

-- a word of code that it has found leads to words that it has found, to heads of ways, or to addresses that are left;
-- and each label is a head
pub record IsClosed (image : ProgramImage) (w : Walk) (Left : ℕ → Type 0) : Type 0 where
  pub leads : (a b : ℕ) → IsTrue (contains w.outline.code a) → IsReachedFrom image a b
      → IsTrue (contains w.outline.code b) ⊎ (Contains w.heads.items b ⊎ Left b)
  pub slots : (a b : ℕ) → IsTrue (contains w.outline.code a) → HasSlot image a b
      → Contains w.slots.items b ⊎ MayLeadTo image a b
  pub names : NamesTargets image w.outline
  pub labels : (a : ℕ) → IsTrue (contains w.outline.labels a) → Contains w.heads.items a

-- what was found stays
pub record Keeps (old new : Walk) : Type 0 where
  pub code : (a : ℕ) → IsTrue (contains old.outline.code a) → IsTrue (contains new.outline.code a)
  pub more : List ℕ
  pub heads : new.heads.items ≡ old.heads.items ++ more
