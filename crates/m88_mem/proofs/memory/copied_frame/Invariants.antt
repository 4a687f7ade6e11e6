-- The words so far are those of the image.
use Rattle.std.proofs.Common.{◌≡◌, ◌<◌, ◌+◌, ◌*◌, ℕ, List, Some, length, slice_get}
use Rattle.m88_mem.specs.DataBus.{image_bus}
use Rattle.m88_mem.proofs.memory.copied_frame.Given as goal

-- the first so many words of a page
pub record Copied (image : ℕ → ℕ) (words : List ℕ) (page count : ℕ) : Type 0 where
  pub long : length words ≡ count
  pub each : (k : ℕ) → k < count → slice_get words k ≡ Some (image (page * 4096 + k * 4))

abbrev pub invariant-loop-place : goal.invariant-loop-place
invariant-loop-place l = Copied (image_bus l.image) l.words.items l.page l.place
