-- The objects of a unit: of each module its sections, its symbols in order of definition, and one relocation for
-- each use of a symbol, whose field is 0 in the bytes.
use Rattle.std.specs.Prelude.{ℕ, ◌+◌, ◌==◌, ◌||◌, if◌then◌else◌, Bool, false, List, [], ◌∷◌, ◌++◌, map, flat_map, bytes_eq, Option, Some, None}
use Rattle.std.specs.List.{enumerate_from, list_any}
use Rattle.m88_base.specs.declared.fixup.Fixup.{Fixup}
use Rattle.m88_base.specs.declared.fixup.Kind.{Kind}
use Rattle.m88_base.specs.declared.fixup.Kind.TheVariants.{Abs32}
use Rattle.m88_parse.specs.declared.unit.Body.{Body}
use Rattle.m88_parse.specs.declared.unit.Body.TheVariants.{At, Word, Code, Global, Set}
use Rattle.m88_parse.specs.declared.unit.Module.{Module}
use Rattle.m88_parse.specs.declared.unit.Statement.{Statement}
use Rattle.m88_parse.specs.declared.unit.Unit.{Unit as Source}
use Rattle.m88_parse.specs.declared.unit.Value.{Value}
use Rattle.m88_parse.specs.declared.unit.Value.TheVariants.{Number, Symbol as Symbolic}
use Rattle.m88_link.specs.Sound.{start_name}
use Rattle.m88_link.specs.declared.object.Object.{Object}
use Rattle.m88_link.specs.declared.object.Place.{Place}
use Rattle.m88_link.specs.declared.object.Place.TheVariants as place
use Rattle.m88_link.specs.declared.object.Reloc.{Reloc}
use Rattle.m88_link.specs.declared.object.Section.{Section}
use Rattle.m88_link.specs.declared.object.Symbol.{Symbol}
use Rattle.m88_asm.specs.Counters.{Counters, Located, at_begin, located, offset_here, offset_of, place_of, section_of}
use Rattle.m88_asm.specs.Filled.{waiting_bytes}

-- the statements of a module with their counters
abbrev pub lines_in : Module → List Located
lines_in m = located at_begin m.statements

-- where a section stands and the line that it begins with
pub record Head : Type 0 where
  pub place : Place
  pub line : ℕ

-- a statement opens a section where it is `.at`; the section has its line
abbrev pub opened_by : ℕ → Body → List Head
opened_by line (At address) = record { place = place.At address; line = line } ∷ []
opened_by line _ = []

-- the section that a statement opens
abbrev pub opens : Located → List Head
opens r = opened_by r.statement.line r.statement.body

-- text and data, which have the line of the module
abbrev pub first_heads : ℕ → List Head
first_heads line =
    record { place = place.Text; line = line } ∷ record { place = place.DataSection; line = line } ∷ []

-- the sections of a module in order: text, data, and one for each `.at`
abbrev pub heads_in : Module → List Head
heads_in m = first_heads m.line ++ flat_map opens (lines_in m)

-- what a statement gives to section k
abbrev pub waiting_in : ℕ → Located → List ℕ
waiting_in k r = if section_of r == k then waiting_bytes (place_of r) r.statement.body else []

-- the bytes of section k
abbrev pub section_bytes : Module → ℕ → List ℕ
section_bytes m k = flat_map (waiting_in k) (lines_in m)

-- a section by its number and its head
abbrev pub section_under : Module → ℕ × Head → Section
section_under m e = record { place = e.1.place; bytes = section_bytes m e.0; line = e.1.line }

-- the sections of a module by their numbers
abbrev pub sections_in : Module → List Section
sections_in m = map (section_under m) (enumerate_from 0 (heads_in m))

-- a label is the next byte of its section, before what else its line does
abbrev pub labels_at : Counters → ℕ → Option (List ℕ × ℕ) → List Symbol
labels_at c line None = []
labels_at c line (Some label) =
    record { name = label.0; global = false; section = Some c.here; value = offset_here c; line = line; col = label.1 }
    ∷ []

-- the symbol of a `.set` is its number
abbrev pub sets_at : ℕ → Body → List Symbol
sets_at line (Set name col value) =
    record { name = name; global = false; section = None; value = value; line = line; col = col } ∷ []
sets_at line _ = []

-- the symbols that a statement defines: its label, and then that of its `.set`
abbrev pub symbols_of : Located → List Symbol
symbols_of r = labels_at r.before r.statement.line r.statement.label ++ sets_at r.statement.line r.statement.body

-- a statement is the `.global` of a name, by its body
abbrev pub declares : List ℕ → Body → Bool
declares name (Global declared) = bytes_eq declared name
declares name _ = false

-- a name is global: `_start` always is, another where a `.global` of the module names it, before or after its
-- definition
abbrev pub is_global : List Statement → List ℕ → Bool
is_global statements name = bytes_eq name start_name || list_any (λ x. declares name x.body) statements

-- a symbol of a module, marked as global or not
abbrev pub marked : List Statement → Symbol → Symbol
marked statements s = record s { global = is_global statements s.name }

-- the symbols of a module in order of definition
abbrev pub symbols_in : Module → List Symbol
symbols_in m = map (marked m.statements) (flat_map symbols_of (lines_in m))

-- the use of a symbol in a word
abbrev pub use_at : Kind → ℕ → ℕ → ℕ → Fixup → Reloc
use_at kind k offset line f =
    record { kind = kind; section = k; offset = offset; symbol = f.symbol; addend = f.addend; line = line; col = f.col }

-- the use of a symbol in a word of `.word`
abbrev pub use_in_value : ℕ → ℕ → ℕ → Value → List Reloc
use_in_value section offset line (Number n) = []
use_in_value section offset line (Symbolic f) = use_at Abs32 section offset line f ∷ []

-- the uses of symbols in the words of a `.word`
abbrev pub uses_in_values : ℕ → ℕ → ℕ → List Value → List Reloc
uses_in_values section offset line [] = []
uses_in_values section offset line (v ∷ vs) =
    use_in_value section offset line v ++ uses_in_values section (offset + 4) line vs

-- the use of a symbol in an instruction
abbrev pub use_in_code : ℕ → ℕ → ℕ → Option Fixup → List Reloc
use_in_code section offset line None = []
use_in_code section offset line (Some f) = use_at f.kind section offset line f ∷ []

-- the uses of symbols in a body at an offset of a section
abbrev pub uses_in_body : ℕ → ℕ → ℕ → Body → List Reloc
uses_in_body section offset line (Word values) = uses_in_values section offset line values
uses_in_body section offset line (Code instr fixup) = use_in_code section offset line fixup
uses_in_body section offset line _ = []

-- the uses of symbols in a statement
abbrev pub symbol_uses : Located → List Reloc
symbol_uses r = uses_in_body (section_of r) (offset_of r) r.statement.line r.statement.body

-- the object of a module
abbrev pub object_of : Module → Object
object_of m =
    record { name = m.name; sections = sections_in m; symbols = symbols_in m; relocs = flat_map symbol_uses (lines_in m) }

-- the objects of a unit, one for each module
abbrev pub objects_of : Source → List Object
objects_of u = map object_of u.modules
