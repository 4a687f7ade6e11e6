-- What is kept of a row while the image has its bytes, and the lines as they are written from the first on.
use Rattle.std.specs.Prelude.{ℕ, ◌≡◌, ◌+◌, ◌<◌, ◌≤◌, ◌^◌, ◌==◌, if◌then◌else◌, List, [], ◌∷◌, ◌++◌, flat_map, length, map, nat_lt, Option, IsSome, slice_index_or, unwrap_or}
use Rattle.std.specs.List.{range_with_len}
use Rattle.std.specs.Option.{option_map_or}
use Rattle.m88_base.specs.Image.{most_bytes}
use Rattle.m88_parse.specs.WellFormed.{IsFormedBody}
use Rattle.m88_parse.specs.declared.unit.Statement.{Statement}
use Rattle.m88_asm.specs.Counters.{Counters, Located, after, at_begin, length_of, offset_of}
use Rattle.m88_link.specs.Bases.{Placement}
use Rattle.m88_link.specs.Symbols.{value_in}
use Rattle.m88_link.specs.declared.object.Symbol.{Symbol}
use Rattle.m88_link.specs.declared.object.Object.{Object}
use Rattle.m88_parse.specs.declared.unit.Module.{Module}
use Rattle.m88_asm.specs.Units.{address_in, base_in}
use Rattle.m88_listing.specs.Columns.{bare_line}
use Rattle.m88_listing.specs.Inside.Parts.{Parts}
use Rattle.m88_listing.specs.Rows.{Row, named_by, row_lines, shown_as}
use Rattle.m88_listing.specs.declared.cursor.Part.{Part}
use Rattle.m88_listing.specs.declared.slots.Shown.TheVariants.{Bytes, Value}
use Rattle.m88_listing.specs.declared.slots.Slot.{Slot}

-- a section that isn't there
abbrev pub no_part : Part
no_part = record { start = 0; len = 0 }

-- a section by its number
abbrev pub part_at : List Part → ℕ → Part
part_at parts k = slice_index_or parts k no_part

-- the counters that the sections so far show
abbrev pub counters_in : Parts → Counters
counters_in p = record {
  here = p.here;
  count = length p.parts;
  starts = λ k. (part_at p.parts k).start;
  lengths = λ k. (part_at p.parts k).len;
}

-- a module where its object stands
abbrev pub standing : Module → Placement Object → Placement Module
standing part object = record { part = part; text_at = object.text_at; data_at = object.data_at }

-- what a slot keeps lies among the addresses where it has bytes, and a byte is found at each of its own
pub record IsSlot (found : ℕ → Option ℕ) (s : Slot) : Type 0 where
  pub within : 0 < s.len → s.at + s.len ≤ 2 ^ 32
  pub has : (k : ℕ) → k < s.len → IsSome (found (s.at + k))

-- so many bytes from an address on, 0 where there is none
abbrev pub found_bytes : (ℕ → Option ℕ) → ℕ → ℕ → List ℕ
found_bytes found at n = map (λ k. unwrap_or (found (at + k)) 0) (range_with_len 0 n)

-- the row that is kept so, where these bytes are found
abbrev pub kept_row : (ℕ → Option ℕ) → Slot → Row
kept_row found s = record {
  line = s.line;
  run = record { at = s.at; bytes = found_bytes found s.at s.len };
  shown = s.shown;
}

-- what is kept of a symbol whose line gives no byte
abbrev pub symbol_slot : Placement Module → Symbol → Slot
symbol_slot b s = record {
  line = s.line;
  at = value_in (base_in b) s;
  len = 0;
  shown = option_map_or (λ _. Bytes) s.section Value;
}

-- what is kept of a statement: of its bytes, or where it gives none of what it names
abbrev pub slots_at : Placement Module → Located → List Slot
slots_at b r =
    if length_of r == 0 then option_map_or (λ s. symbol_slot b s ∷ []) (named_by r) []
    else record {
      line = r.statement.line;
      at = address_in b r;
      len = length_of r;
      shown = shown_as r.statement.body;
    } ∷ []

-- what is kept of statements, from counters on
abbrev pub slots_from : Placement Module → Counters → List Statement → List Slot
slots_from b c [] = []
slots_from b c (x ∷ xs) = slots_at b (record { before = c; statement = x }) ++ slots_from b (after c x.body) xs

-- what is kept of modules
abbrev pub slots_of : List (Placement Module) → List Slot
slots_of bs = flat_map (λ b. slots_from b at_begin b.part.statements) bs

-- the lines for lines of a source, from a number on, where the first of the slots is that of the next line that has one
abbrev pub walked : (ℕ → Option ℕ) → ℕ → List (List ℕ) → List Slot → List (List ℕ)
walked found number [] slots = []
walked found number (line ∷ lines) [] = bare_line number line ∷ walked found (number + 1) lines []
walked found number (line ∷ lines) (s ∷ ss) =
    if s.line == number then row_lines number line (kept_row found s) ++ walked found (number + 1) lines ss
    else bare_line number line ∷ walked found (number + 1) lines (s ∷ ss)

-- slots stand in the order of their lines, each in one of its own, from a number on
abbrev pub Climb : ℕ → List Slot → Type 0
Climb from [] = Unit {0}
Climb from (s ∷ ss) = (from ≤ s.line) × Climb (s.line + 1) ss

-- the slots of the lines from a number on
abbrev pub slots_behind : ℕ → List Slot → List Slot
slots_behind number [] = []
slots_behind number (s ∷ ss) = if nat_lt s.line number then slots_behind number ss else s ∷ ss

-- a statement can be laid out, its section has room for its bytes, and these lie among the addresses
pub record StandsWithin (b : Placement Module) (r : Located) : Type 0 where
  pub formed : IsFormedBody r.statement.body
  pub room : offset_of r + length_of r ≤ most_bytes
  pub within : 0 < length_of r → address_in b r + length_of r ≤ 2 ^ 32

-- each of the statements does, from counters on
abbrev pub AllFit : Placement Module → Counters → List Statement → Type 0
AllFit b c [] = Unit {0}
AllFit b c (x ∷ xs) = StandsWithin b (record { before = c; statement = x }) × AllFit b (after c x.body) xs

-- and those of a module that stands somewhere
abbrev pub ModuleFits : Placement Module → Type 0
ModuleFits b = AllFit b at_begin b.part.statements

-- the counters go on behind a statement, and what is kept of it was added
pub record PutsSlot (b : Placement Module) (r : Located) (later : Counters) (first now : List Slot) : Type 0 where
  pub cursor : later ≡ after r.before r.statement.body
  pub slots : now ≡ first ++ slots_at b r
