-- Objects gone through part by part, to the first part by which one of them isn't sound, and the number of lines that
-- stand before it in their text.
use Rattle.std.specs.Prelude.{◌≡◌, ℕ, ◌+◌, ◌⊎◌, List, [], ◌∷◌, ◌++◌, All, length, sum_by}
use Rattle.m88_base.specs.Pieces.{piece_count}
use Rattle.m88_link.specs.declared.object.Object.{Object}
use Rattle.m88_link.specs.declared.object.Reloc.{Reloc}
use Rattle.m88_link.specs.declared.object.Section.{Section}
use Rattle.m88_link.specs.declared.object.Symbol.{Symbol}
use Rattle.m88_link.specs.declared.walk.Walked.{Walked}
use Rattle.m88_link.specs.declared.walk.Walked.TheVariants.{Sound, Unsound}
use Rattle.m88_link.specs.ObjectRead.{AreSoundSymbols}
use Rattle.m88_link.specs.ObjectText.{line_bytes}
use Rattle.m88_link.specs.Sound.{HasRoom, IsPatchIn}

-- the number of lines of a section: its head and its byte lines
abbrev pub section_count : Section → ℕ
section_count s = 1 + piece_count line_bytes s.bytes

-- of sections
abbrev pub sections_count : List Section → ℕ
sections_count sections = sum_by section_count sections

-- of an object: those of its name and its end besides
abbrev pub object_count : Object → ℕ
object_count o = 2 + sections_count o.sections + length o.symbols + length o.relocs

-- of objects
abbrev pub objects_count : List Object → ℕ
objects_count objects = sum_by object_count objects

-- the first part of a list that fails, and how many lines the parts before it have
pub record IsFound {A : Type 0} (Good : List A → Type 0) (count : List A → ℕ) (all : List A) (n : ℕ) : Type 0 where
  pub before : List A
  pub part : A
  pub after : List A
  pub parts : all ≡ before ++ part ∷ after
  pub good : Good before
  pub bad : Good (before ++ part ∷ []) → ⊥
  pub count_is : n ≡ count before

-- sections that have room
abbrev pub HaveRoom : List Section → Type 0
HaveRoom sections = All HasRoom sections

-- relocations that patch words of these sections
abbrev pub ArePatches : List Section → List Reloc → Type 0
ArePatches sections relocs = All (IsPatchIn sections) relocs

-- the first section of an object by which it isn't sound
abbrev pub IsFoundSection : List Section → ℕ → Type 0
IsFoundSection sections n = IsFound HaveRoom sections_count sections n

-- the first symbol
abbrev pub IsFoundSymbol : List Section → List Symbol → ℕ → Type 0
IsFoundSymbol sections symbols n = IsFound (AreSoundSymbols sections) length symbols n

-- the first relocation
abbrev pub IsFoundReloc : List Section → List Reloc → ℕ → Type 0
IsFoundReloc sections relocs n = IsFound (ArePatches sections) length relocs n

-- the parts of an object are sound
pub record AreSoundParts (o : Object) : Type 0 where
  pub room : HaveRoom o.sections
  pub symbols : AreSoundSymbols o.sections o.symbols
  pub relocs : ArePatches o.sections o.relocs

-- n lines stand in an object before the first part by which it isn't sound
abbrev pub IsFoundPart : Object → ℕ → Type 0
IsFoundPart o n =
    ((k : ℕ) × IsFoundSection o.sections k × (n ≡ 1 + k))
    ⊎ (HaveRoom o.sections × ((k : ℕ) × IsFoundSymbol o.sections o.symbols k × (n ≡ 1 + sections_count o.sections + k)))
    ⊎ (HaveRoom o.sections × AreSoundSymbols o.sections o.symbols
    × ((k : ℕ) × IsFoundReloc o.sections o.relocs k × (n ≡ 1 + sections_count o.sections + length o.symbols + k)))

-- n lines stand before that part in the text of objects
pub record IsFoundObject (objects : List Object) (n : ℕ) : Type 0 where
  pub before : List Object
  pub object : Object
  pub after : List Object
  pub parts : objects ≡ before ++ object ∷ after
  pub sound : All AreSoundParts before
  pub within : ℕ
  pub part : IsFoundPart object within
  pub count_is : n ≡ objects_count before + within

-- all parts are sound and have n lines, or n lines stand before the first that isn't
abbrev pub Walks : Walked → (ℕ → Type 0) → (ℕ → Type 0) → Type 0
Walks (Sound n) good bad = good n
Walks (Unsound n) good bad = bad n
