-- The image of a program: addresses with a byte each, and the address at which the program starts.
use Rattle.std.specs.Prelude.{ℕ, ◌+◌, ◌^◌, ◌<◌, ◌≤◌, ◌⊎◌, List, Option}
use Rattle.m88_base.specs.Found.{FindsBytes}
use Rattle.m88_base.specs.Placed.{Placed, AreApart, byte_among, count_among}
use Rattle.m88_base.specs.declared.image.ImageFault.{ImageFault}
use Rattle.m88_base.specs.declared.image.ImageFault.TheVariants.{TooLarge, Overlap, Memory}

-- the most bytes that an image has
abbrev pub most_bytes : ℕ
most_bytes = 2 ^ 20

-- where a program's first text stands, and where one starts that doesn't say: this project's profile
abbrev pub first_text : ℕ
first_text = 0x1000

-- an image, its bytes in runs of consecutive addresses
pub record ProgramImage : Type 0 where
  pub runs : List Placed
  -- the address at which the program starts
  pub start : ℕ

-- the byte at an address, where there is one
unfoldable pub byte_at : ProgramImage → ℕ → Option ℕ
byte_at image = byte_among image.runs

-- the number of addresses that have a byte
unfoldable pub byte_count : ProgramImage → ℕ
byte_count image = count_among image.runs

-- the parts of an image, its runs in ascending order
abbrev pub parts : ProgramImage → List Placed
parts image = image.runs

-- what every image satisfies
pub record IsImage (image : ProgramImage) : Type 0 where
  -- its runs ascend, each with an address without a byte behind it
  pub apart : AreApart 0 image.runs
  pub bytes : FindsBytes (byte_at image)
  pub few : byte_count image ≤ most_bytes
  pub start : image.start < 2 ^ 32

-- n bytes from `at` on would reach past the last address, or be more than an image may have
abbrev pub IsTooLarge : ProgramImage → ℕ → ℕ → Type 0
IsTooLarge image at n = (2 ^ 32 < at + n) ⊎ (most_bytes < byte_count image + n)

-- a refusal because of an address with a byte is one for which P holds of that address
abbrev pub WhereOverlap : (ℕ → Type 0) → ImageFault → Type 0
WhereOverlap P TooLarge = Unit {0}
WhereOverlap P (Overlap a) = P a
WhereOverlap P Memory = Unit {0}
