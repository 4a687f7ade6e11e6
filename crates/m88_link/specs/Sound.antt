-- Soundness of an object file (object file formats: sections, symbol table, relocation entries): what every object
-- keeps that the assembler makes and the linker takes.
use Rattle.std.specs.Prelude.{◌≡◌, ℕ, ◌+◌, ◌%◌, ◌^◌, ◌≤◌, List, [], ◌∷◌, length, slice_get, All, IfSome, IsSomeAnd, IsTrue, None, codes}
use Rattle.m88_base.specs.Image.{most_bytes}
use Rattle.m88_link.specs.declared.object.Object.{Object}
use Rattle.m88_link.specs.declared.object.Place.{Place}
use Rattle.m88_link.specs.declared.object.Place.TheVariants.{Text, DataSection, At}
use Rattle.m88_link.specs.declared.object.Reloc.{Reloc}
use Rattle.m88_link.specs.declared.object.Section.{Section}
use Rattle.m88_link.specs.declared.object.Symbol.{Symbol}
use Rattle.m88_link.specs.Symbols.{first_repeated}

-- the place is an address of its own
abbrev pub IsOwnAddress : Place → Type 0
IsOwnAddress Text = ⊥
IsOwnAddress DataSection = ⊥
IsOwnAddress (At a) = Unit {0}

-- section 0 is text, section 1 is data, and each other one has an address of its own
abbrev pub AreSections : List Section → Type 0
AreSections [] = ⊥
AreSections (text ∷ []) = ⊥
AreSections (text ∷ datas ∷ others) =
    (text.place ≡ Text) × (datas.place ≡ DataSection) × All (λ s. IsOwnAddress s.place) others

-- the number from which alignment counts in a section: its address, or 0 in text and data, whose bases are multiples
-- of 8
abbrev pub origin : Place → ℕ
origin Text = 0
origin DataSection = 0
origin (At a) = a

-- a section has at most 1,048,576 bytes, none past 0xFFFFFFFF
abbrev pub HasRoom : Section → Type 0
HasRoom s = (length s.bytes ≤ most_bytes) × (origin s.place + length s.bytes ≤ 2 ^ 32)

-- the section of a symbol exists, and the symbol's offset is at most its length
abbrev pub IsDefinedIn : List Section → Symbol → Type 0
IsDefinedIn sections symbol =
    IfSome symbol.section (λ k. IsSomeAnd (slice_get sections k) (λ s. symbol.value ≤ length s.bytes))

-- the section of a relocation exists, and the word's four bytes lie in it at a multiple of 4
abbrev pub IsPatchIn : List Section → Reloc → Type 0
IsPatchIn sections reloc =
    IsSomeAnd (slice_get sections reloc.section)
    (λ s. (reloc.offset + 4 ≤ length s.bytes) × ((origin s.place + reloc.offset) % 4 ≡ 0))

-- the name of the symbol at which a program starts
abbrev pub start_name : List ℕ
start_name = codes "_start"

-- a symbol named `_start` is global
abbrev pub IsGlobalIfStart : Symbol → Type 0
IsGlobalIfStart symbol = symbol.name ≡ start_name → IsTrue symbol.global

-- an object is sound
pub record IsSound (object : Object) : Type 0 where
  pub sections : AreSections object.sections
  pub room : All HasRoom object.sections
  pub symbols : All (IsDefinedIn object.sections) object.symbols
  pub relocs : All (IsPatchIn object.sections) object.relocs
  -- no two symbols have one name
  pub names : first_repeated object.symbols ≡ None
  pub start : All IsGlobalIfStart object.symbols
