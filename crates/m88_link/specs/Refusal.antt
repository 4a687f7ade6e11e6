-- Faults of linking (manuals of linkers: diagnostics), or why a layout has no image: five kinds of refusal, each with
-- its own search, in the order in which they are tried.
use Rattle.std.specs.Prelude.{◌≡◌, ℕ, ◌+◌, ◌^◌, ◌<◌, ◌≤◌, ◌⊎◌, Bool, true, false, ◌&&◌, ◌||◌, nat_lt, nat_le, List, [], ◌∷◌, filter, slice_get, sum_by, count_by, if◌then◌else◌, Option, None, Some}
use Rattle.std.specs.Int.{w32, cast_signed}
use Rattle.std.specs.List.{list_any}
use Rattle.std.specs.Option.{option_map, option_map_or, option_or}
use Rattle.m88_link.specs.declared.fault.LinkFault.{LinkFault}
use Rattle.m88_link.specs.declared.fault.LinkKind.TheVariants as kind
use Rattle.m88_link.specs.declared.object.Symbol.{Symbol}
use Rattle.m88_link.specs.Field.{distance, is_in_reach}
use Rattle.m88_link.specs.Layout.{Extent, Layout, Reference}
use Rattle.m88_base.specs.Image.{most_bytes}
use Rattle.m88_link.specs.Symbols.{Repetition, first_repeated}

-- 1. TooLarge: the bytes are more than 1,048,576, or reach past 0xFFFFFFFF
abbrev pub is_too_large : List Extent → Bool
is_too_large extents =
    nat_lt most_bytes (sum_by (λ e. e.len) extents) || list_any (λ e. nat_lt (2 ^ 32) (e.at + e.len)) extents

-- it is told at line 1, column 1
abbrev pub too_large : LinkFault
too_large = record { line = 1; col = 1; kind = kind.TooLarge }

-- the section has a byte at the address
abbrev pub covers : ℕ → Extent → Bool
covers a e = nat_le e.at a && nat_lt a (e.at + e.len)

-- the number of bytes at an address
abbrev pub hits : List Extent → ℕ → ℕ
hits extents a = count_by (covers a) extents

-- no address has two bytes
abbrev pub AreDisjoint : List Extent → Type 0
AreDisjoint extents = (a : ℕ) → hits extents a < 2

-- 2. Overlap: the least address that has two bytes, told at column 1 of the line of the second section that has it
pub record IsOverlap (extents : List Extent) (fault : LinkFault) : Type 0 where
  pub at : ℕ
  pub second : Extent
  pub double : 2 ≤ hits extents at
  pub least : (a : ℕ) → a < at → hits extents a < 2
  pub is_second : slice_get (filter (covers at) extents) 1 ≡ Some second
  pub told : fault ≡ record { line = second.line; col = 1; kind = kind.Overlap at }

-- a repeated definition as a fault at its place
abbrev pub duplicate_fault : Repetition → LinkFault
duplicate_fault r = record { line = r.symbol.line; col = r.symbol.col; kind = kind.Duplicate r.symbol.name r.first }

-- 3. Duplicate: the first global definition of a name that an earlier one has
abbrev pub duplicate : List Symbol → Option LinkFault
duplicate globals = option_map duplicate_fault (first_repeated globals)

-- the first fault that is found in a list
abbrev pub first_fault : {A : Type 0} → (A → Option LinkFault) → List A → Option LinkFault
first_fault find_in [] = None
first_fault find_in (x ∷ xs) = option_or (find_in x) (first_fault find_in xs)

-- a name that means nothing
abbrev pub undefined_in : Reference → Option LinkFault
undefined_in r =
    option_map_or (λ _. None) r.target
    (Some (record { line = r.line; col = r.col; kind = kind.Undefined r.name }))

-- 4. Undefined: the first use of a name that means nothing
abbrev pub undefined : List Reference → Option LinkFault
undefined references = first_fault undefined_in references

-- a target that the field can't take the displacement to
abbrev pub far_from : Reference → ℕ → Option LinkFault
far_from r target =
    if is_in_reach r.kind target r.at then None
    else Some (record { line = r.line; col = r.col; kind = kind.TooFar (cast_signed w32 (distance target r.at)) })

-- a use whose name means something and whose field can't take the displacement
abbrev pub too_far_in : Reference → Option LinkFault
too_far_in r = option_map_or (far_from r) r.target None

-- 5. TooFar: the first use whose field can't take the displacement
abbrev pub too_far : List Reference → Option LinkFault
too_far references = first_fault too_far_in references

-- the first of the last three kinds, which each name a symbol
abbrev pub symbol_fault : Layout → Option LinkFault
symbol_fault l = option_or (duplicate l.globals) (option_or (undefined l.references) (too_far l.references))

-- the fault is the layout's: the first kind that occurs, where that kind is told
abbrev pub IsRefused : Layout → LinkFault → Type 0
IsRefused l fault =
    ((is_too_large l.extents ≡ true) × (fault ≡ too_large))
    ⊎ ((is_too_large l.extents ≡ false) × IsOverlap l.extents fault)
    ⊎ ((is_too_large l.extents ≡ false) × AreDisjoint l.extents × (symbol_fault l ≡ Some fault))

-- no kind of refusal occurs
pub record IsLinkable (l : Layout) : Type 0 where
  pub fits : is_too_large l.extents ≡ false
  pub disjoint : AreDisjoint l.extents
  pub named : symbol_fault l ≡ None
