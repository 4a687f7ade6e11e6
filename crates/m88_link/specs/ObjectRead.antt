-- Object texts as an input (object file formats: text form): which objects have a text, at which line a text is none
-- of theirs, and at which line one gives an object that isn't sound.
use Rattle.std.specs.Prelude.{◌≡◌, ℕ, ◌+◌, ◌-◌, ◌<◌, ◌^◌, ◌==◌, ◌⊎◌, List, [], ◌∷◌, ◌++◌, All, IfSome, None, Result, Ok, Err, flat_map, length, take, if◌then◌else◌}
use Rattle.std.specs.List.{AllByRecursion}
use Rattle.m88_base.specs.Lines.{line_end, line_feed, on_first_line}
use Rattle.m88_base.specs.Name.{IsName}
use Rattle.m88_link.specs.declared.object.Object.{Object}
use Rattle.m88_link.specs.declared.object.Reloc.{Reloc}
use Rattle.m88_link.specs.declared.object.Section.{Section}
use Rattle.m88_link.specs.declared.object.Symbol.{Symbol}
use Rattle.m88_link.specs.declared.object_fault.ObjectFault.{ObjectFault}
use Rattle.m88_link.specs.declared.object_fault.ObjectFault.TheVariants.{Form, Range, Memory}
use Rattle.m88_link.specs.ObjectText.{object_line, objects_text, reloc_line, section_lines, symbol_line}
use Rattle.m88_link.specs.Sound.{AreSections, HasRoom, IsDefinedIn, IsGlobalIfStart, IsPatchIn, IsSound, origin}
use Rattle.m88_link.specs.Symbols.{first_repeated}

-- the lines of a text, each with the LF that ends it; where the text ends with another byte, its last line has none
unfoldable pub ended_lines : List ℕ → List (List ℕ)
ended_lines [] = []
ended_lines (b ∷ bs) = if b == line_feed then line_end ∷ ended_lines bs else on_first_line b (ended_lines bs)

-- a section that a text can give: its address and its length in eight digits, its line below 2^32, and its bytes
pub record HasSectionText (s : Section) : Type 0 where
  pub address : origin s.place < 2 ^ 32
  pub few : length s.bytes < 2 ^ 32
  pub line : s.line < 2 ^ 32
  pub bytes : AllByRecursion (λ b. b < 2 ^ 8) s.bytes

-- a symbol that a text can give
pub record HasSymbolText (s : Symbol) : Type 0 where
  pub name : IsName s.name
  pub section : IfSome s.section (λ k. k < 2 ^ 32)
  pub value : s.value < 2 ^ 32
  pub line : s.line < 2 ^ 32
  pub col : s.col < 2 ^ 32

-- a relocation that a text can give
pub record HasRelocText (r : Reloc) : Type 0 where
  pub section : r.section < 2 ^ 32
  pub offset : r.offset < 2 ^ 32
  pub symbol : IsName r.symbol
  pub addend : r.addend < 2 ^ 32
  pub line : r.line < 2 ^ 32
  pub col : r.col < 2 ^ 32

-- an object that has a text, sound or not: its first two sections are text and data, and each other one has an address
pub record HasText (object : Object) : Type 0 where
  pub name : IsName object.name
  pub order : AreSections object.sections
  pub sections : AllByRecursion HasSectionText object.sections
  pub symbols : AllByRecursion HasSymbolText object.symbols
  pub relocs : AllByRecursion HasRelocText object.relocs

-- one or more objects that have a text
pub record HaveText (objects : List Object) : Type 0 where
  pub some : 0 < length objects
  pub each : AllByRecursion HasText objects

-- the text is that of one or more sound objects
pub record IsSoundText (objects : List Object) (text : List ℕ) : Type 0 where
  pub have : HaveText objects
  pub sound : All IsSound objects
  pub text_is : text ≡ objects_text objects

-- some objects have a text whose first n lines are those of this text; where this text has fewer lines, it is theirs
pub record IsContinued (text : List ℕ) (n : ℕ) : Type 0 where
  pub objects : List Object
  pub have : HaveText objects
  pub same : take n (ended_lines (objects_text objects)) ≡ take n (ended_lines text)

-- line n is the first that no objects' text continues; where the text stops early that is the line behind its last one
pub record IsFormLine (text : List ℕ) (n : ℕ) : Type 0 where
  pub before : IsContinued text (n - 1)
  pub here : IsContinued text n → ⊥

-- symbols by which an object with these sections is sound
pub record AreSoundSymbols (sections : List Section) (symbols : List Symbol) : Type 0 where
  pub defined : All (IsDefinedIn sections) symbols
  pub names : first_repeated symbols ≡ None
  pub start : All IsGlobalIfStart symbols

-- a section is the first part of the object by which it isn't sound, and this stands before it
pub record IsUnsoundSection (o : Object) (front : List ℕ) : Type 0 where
  pub before : List Section
  pub section : Section
  pub after : List Section
  pub parts : o.sections ≡ before ++ section ∷ after
  pub sound : All HasRoom before
  pub unsound : HasRoom section → ⊥
  pub front_is : front ≡ object_line o.name ++ flat_map section_lines before

-- a symbol is the first such part, with those before it
pub record IsUnsoundSymbol (o : Object) (front : List ℕ) : Type 0 where
  pub before : List Symbol
  pub symbol : Symbol
  pub after : List Symbol
  pub parts : o.symbols ≡ before ++ symbol ∷ after
  pub room : All HasRoom o.sections
  pub sound : AreSoundSymbols o.sections before
  pub unsound : AreSoundSymbols o.sections (before ++ symbol ∷ []) → ⊥
  pub front_is : front ≡ object_line o.name ++ flat_map section_lines o.sections ++ flat_map symbol_line before

-- a relocation is the first such part
pub record IsUnsoundReloc (o : Object) (front : List ℕ) : Type 0 where
  pub before : List Reloc
  pub reloc : Reloc
  pub after : List Reloc
  pub parts : o.relocs ≡ before ++ reloc ∷ after
  pub room : All HasRoom o.sections
  pub symbols : AreSoundSymbols o.sections o.symbols
  pub sound : All (IsPatchIn o.sections) before
  pub unsound : IsPatchIn o.sections reloc → ⊥
  pub front_is : front
      ≡ object_line o.name ++ flat_map section_lines o.sections ++ flat_map symbol_line o.symbols
      ++ flat_map reloc_line before

-- the object isn't sound, and this stands before the first part of its text by which it isn't
abbrev pub IsUnsoundPart : Object → List ℕ → Type 0
IsUnsoundPart o front = IsUnsoundSection o front ⊎ IsUnsoundSymbol o front ⊎ IsUnsoundReloc o front

-- the number of the line that begins behind some whole lines
abbrev pub line_behind : List ℕ → ℕ
line_behind front = length (ended_lines front) + 1

-- in the text of these objects line n is the first that gives a section, a symbol or a relocation by which its object
-- isn't sound
pub record IsFirstUnsound (objects : List Object) (n : ℕ) : Type 0 where
  pub before : List Object
  pub object : Object
  pub after : List Object
  pub parts : objects ≡ before ++ object ∷ after
  pub sound : All IsSound before
  pub front : List ℕ
  pub part : IsUnsoundPart object front
  pub line_is : n ≡ line_behind (objects_text before ++ front)

-- the text is that of objects, and line n is the first by which one of them isn't sound
pub record IsRangeLine (text : List ℕ) (n : ℕ) : Type 0 where
  pub objects : List Object
  pub have : HaveText objects
  pub text_is : text ≡ objects_text objects
  pub first : IsFirstUnsound objects n

-- the fault is the text's first one: Range is looked for only where no line is Form; want of memory is no text's
abbrev pub IsTextFault : List ℕ → ObjectFault → Type 0
IsTextFault text (Form n) = IsFormLine text n
IsTextFault text (Range n) = IsRangeLine text n
IsTextFault text Memory = ⊥

-- a call refuses with this fault, or memory ran out
abbrev pub RefusesText : {X : Type 0} → Result X ObjectFault → ObjectFault → Type 0
RefusesText (Ok x) fault = ⊥
RefusesText (Err e) fault = (e ≡ fault) ⊎ (e ≡ Memory)
