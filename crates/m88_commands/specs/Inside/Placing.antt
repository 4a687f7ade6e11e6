-- The sources of an input as the code keeps them, and the images that hold them.
use Rattle.std.specs.Prelude.{ℕ, ◌≤◌, List, length, map}
use Rattle.m88_base.specs.Image.{ProgramImage}
use Rattle.m88_commands.specs.Limits.{most_input}
use Rattle.m88_asm.specs.Held.{HoldEach}
use Rattle.m88_asm.specs.Several.{AreSources, PlacedSource}
use Rattle.m88_commands.specs.Sources.{most_sources}
use Rattle.m88_commands.specs.declared.commands.sources.PlacedSource.{PlacedSource as Kept}

-- the source that it is
abbrev pub source_in : Kept → PlacedSource
source_in s = record { lines = s.lines; source = s.source.now }

-- the sources that they are
abbrev pub all_placed : List Kept → List PlacedSource
all_placed sources = map source_in sources

-- it is short enough for the assembler
abbrev pub IsShort : Kept → Type 0
IsShort s = length s.source.now ≤ most_input

-- the images hold the sources of an input, one to eight
pub record HoldSources (input : List ℕ) (images : List ProgramImage) : Type 0 where
  pub sources : List PlacedSource
  pub are_sources : AreSources input sources
  pub few : length sources ≤ most_sources
  pub hold : HoldEach sources images
