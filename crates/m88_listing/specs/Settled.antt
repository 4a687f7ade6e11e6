-- A unit that the linker refuses for a name or a distance, without what can't be carried out of it: a reference is 0
-- where its name doesn't mean just one thing, or its field can't take the distance. The listing of the source shows the
-- rows of that unit.
use Rattle.std.specs.Prelude.{ℕ, ◌&&◌, Bool, if◌then◌else◌, List, [], map, None, Some}
use Rattle.m88_base.specs.declared.fixup.Fixup.{Fixup}
use Rattle.m88_parse.specs.declared.unit.Body.{Body}
use Rattle.m88_parse.specs.declared.unit.Body.TheVariants.{Code, Word}
use Rattle.m88_parse.specs.declared.unit.Module.{Module}
use Rattle.m88_parse.specs.declared.unit.Statement.{Statement}
use Rattle.m88_parse.specs.declared.unit.Unit.{Unit as Source}
use Rattle.m88_parse.specs.declared.unit.Value.{Value}
use Rattle.m88_parse.specs.declared.unit.Value.TheVariants.{Number, Symbol as Symbolic}
use Rattle.m88_link.specs.Bases.{Placement}
use Rattle.m88_link.specs.Field.{is_in_reach}
use Rattle.m88_link.specs.Symbols.{is_known}
use Rattle.m88_link.specs.declared.fault.LinkKind.{LinkKind}
use Rattle.m88_link.specs.declared.fault.LinkKind.TheVariants as kind
use Rattle.m88_link.specs.declared.object.Symbol.{Symbol}
use Rattle.m88_asm.specs.Counters.{Located}
use Rattle.m88_asm.specs.Filled.{target}
use Rattle.m88_asm.specs.Objects.{lines_in, symbols_in}
use Rattle.m88_asm.specs.Units.{address_in, based, unit_layout, value_in_module}
use Rattle.m88_listing.specs.Rows.{Row, rows_of_unit}

-- a reference of a module can be carried out at an address: its name means one thing, and its field can take that
abbrev pub is_carried_out : List Symbol → Placement Module → ℕ → Fixup → Bool
is_carried_out globals b address f =
    is_known globals (symbols_in b.part) f.symbol
    && is_in_reach f.kind (target (value_in_module globals b) f) address

-- a word of `.word`, which takes any value
abbrev pub settled_value : List Symbol → Placement Module → Value → Value
settled_value globals b (Number n) = Number n
settled_value globals b (Symbolic f) = if is_known globals (symbols_in b.part) f.symbol then Symbolic f else Number 0

-- a body at an address; an instruction without a reference has 0 in its field
abbrev pub settled_body : List Symbol → Placement Module → ℕ → Body → Body
settled_body globals b address (Word values) = Word (map (settled_value globals b) values)
settled_body globals b address (Code instr (Some f)) =
    Code instr (if is_carried_out globals b address f then Some f else None)
settled_body globals b address body = body

-- a statement, a module, and a unit
abbrev pub settled_statement : List Symbol → Placement Module → Located → Statement
settled_statement globals b r =
    record r.statement { body = settled_body globals b (address_in b r) r.statement.body }

-- the module with each of its statements so
abbrev pub settled_module : List Symbol → Placement Module → Module
settled_module globals b = record b.part { statements = map (settled_statement globals b) (lines_in b.part) }

-- and the unit with each of its modules
abbrev pub settled_unit : Source → Source
settled_unit u = record { modules = map (settled_module (unit_layout u).globals) (based u) }

-- the rows that are shown of a unit that the linker refuses: none where its sections don't have their room
abbrev pub unlinked_rows : Source → LinkKind → List Row
unlinked_rows u kind.TooLarge = []
unlinked_rows u (kind.Overlap at) = []
unlinked_rows u _ = rows_of_unit (settled_unit u)
