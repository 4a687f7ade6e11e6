-- Several sources in one input, parted by its lines `program`: which such inputs are accepted, and where and why any
-- other is refused. Too many sources come before every fault of a source, and the faults of a source before those of
-- the next.
use Rattle.std.specs.Prelude.{ℕ, false, ◌≡◌, ◌+◌, ◌++◌, ◌≤◌, ◌⊎◌, List, [], ◌∷◌, Some, codes, length, slice_get}
use Rattle.std.specs.List.{All}
use Rattle.m88_base.specs.Parted.{IsParted, LacksLine}
use Rattle.m88_base.specs.Refusal.{Refusal}
use Rattle.m88_isa.specs.Machine.{Program}
use Rattle.m88_asm.specs.Sources.{IsProgramSource, IsRefusedProgram, IsSourceProgram}

-- the line between two sources
abbrev pub program_line : List ℕ
program_line = codes "program"

-- a source, and how many lines of its input stand before it
pub record PlacedSource : Type 0 where
  pub lines : ℕ
  pub source : List ℕ

-- what stands behind so many lines of an input is these sources: it is parted at each line `program`
unfoldable pub AreSourcesBehind : ℕ → List ℕ → List PlacedSource → Type 0
AreSourcesBehind n text [] = ⊥
AreSourcesBehind n text (last ∷ []) = (last.lines ≡ n) × (last.source ≡ text) × LacksLine program_line text
AreSourcesBehind n text (first ∷ second ∷ more) =
    (first.lines ≡ n) × (lines : ℕ) × (behind : List ℕ) × IsParted program_line text first.source lines behind
    × AreSourcesBehind (n + lines) behind (second ∷ more)

-- the input is these sources
abbrev pub AreSources : List ℕ → List PlacedSource → Type 0
AreSources input sources = AreSourcesBehind 0 input sources

-- a source can be assembled and linked
abbrev pub IsPlacedProgram : PlacedSource → Type 0
IsPlacedProgram s = IsProgramSource s.source

-- the input is no more sources than `most`, each of which can be assembled and linked
pub record HasPrograms (most : ℕ) (input : List ℕ) : Type 0 where
  pub sources : List PlacedSource
  pub are_sources : AreSources input sources
  pub few : length sources ≤ most
  pub are_programs : All IsPlacedProgram sources

-- the refusal of too many sources, at the line `program` before the first that is one too many
abbrev pub sources_refusal : ℕ → Refusal
sources_refusal n = record { line = n; column = 1; reason = codes "programs" }

-- an input is refused where it has a source more than `most`: the lines before that end with a line `program`
pub record HasTooMany (most : ℕ) (input : List ℕ) (r : Refusal) : Type 0 where
  pub sources : List PlacedSource
  pub are_sources : AreSources input sources
  pub one_more : PlacedSource
  pub is_one_more : slice_get sources most ≡ Some one_more
  pub refusal : r ≡ sources_refusal one_more.lines

-- and where it has none, at the first fault of the first source that can't be assembled and linked
pub record HasRefusedSource (most : ℕ) (input : List ℕ) (r : Refusal) : Type 0 where
  pub before : List PlacedSource
  pub refused : PlacedSource
  pub behind : List PlacedSource
  pub are_sources : AreSources input (before ++ refused ∷ behind)
  pub few : length (before ++ refused ∷ behind) ≤ most
  pub are_programs : All IsPlacedProgram before
  pub is_refused : IsRefusedProgram refused.lines refused.source r

-- an input is refused so
abbrev pub LacksPrograms : ℕ → List ℕ → Refusal → Type 0
LacksPrograms most input r = HasTooMany most input r ⊎ HasRefusedSource most input r

-- the programs of some sources, one of each in its place, with MXM clear
unfoldable pub AreSourcePrograms : List PlacedSource → List Program → Type 0
AreSourcePrograms [] [] = Unit {0}
AreSourcePrograms (s ∷ sources) (p ∷ programs) =
    IsSourceProgram s.source p × (p.mxm ≡ false) × AreSourcePrograms sources programs
AreSourcePrograms _ _ = ⊥
