-- Words of an image that are kept by their addresses.
use Rattle.std.specs.Prelude.{ℕ, List, Option, Some, ◌≡◌, slice_get}
use Rattle.m88_base.specs.Image.{ProgramImage}
use Rattle.m88_mem.specs.DataBus.{image_bus}
use Rattle.m88_mem.specs.declared.reads.Read.{Read}

-- how many are kept at most
abbrev pub read_count : ℕ
read_count = 1024

-- each that is kept is the image's
abbrev pub AreReads : ProgramImage → List (Option Read) → Type 0
AreReads image reads =
    (k : ℕ) (read : Read) → slice_get reads k ≡ Some (Some read) → read.word ≡ image_bus image read.addr
