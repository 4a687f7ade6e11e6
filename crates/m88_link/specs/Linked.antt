-- The image of a program (manuals of linkers: output file, entry point) that a layout is linked into.
use Rattle.std.specs.Prelude.{◌≡◌, ℕ, List}
use Rattle.std.specs.Option.{option_map_or}
use Rattle.m88_base.specs.Image.{ProgramImage, byte_at, byte_count}
use Rattle.m88_base.specs.Placed.{byte_among, count_among}
use Rattle.m88_link.specs.declared.object.Symbol.{Symbol}
use Rattle.m88_link.specs.Bases.{first_text}
use Rattle.m88_link.specs.Layout.{Layout}
use Rattle.m88_link.specs.Sound.{start_name}
use Rattle.m88_link.specs.Symbols.{symbol_of}

-- the address at which a program starts: the value of `_start`, or the first text where that isn't defined
abbrev pub start_address : List Symbol → ℕ
start_address globals = option_map_or (λ g. g.value) (symbol_of globals start_name) first_text

-- the image has the bytes of the sections at their addresses and no others, and starts at `_start`
pub record IsLinked (l : Layout) (image : ProgramImage) : Type 0 where
  pub bytes : (a : ℕ) → byte_at image a ≡ byte_among l.spots a
  pub count : byte_count image ≡ count_among l.spots
  pub start : image.start ≡ start_address l.globals
