-- Memory over two buses ("Data Unit"; "Instruction Unit"): the instruction bus fetches the image as it was linked, and
-- the data bus starts with the same bytes and zeros elsewhere. Pages and their absence are for the data bus alone.
use Rattle.std.specs.Prelude.{ℕ, ◌≡◌, Bool, false, true, ◌/◌, ◌%◌, List, Option, Some, None, is_some, slice_get, slice_index_or, unwrap_or}
use Rattle.m88_base.specs.Image.{ProgramImage, byte_at}
use Rattle.m88_base.specs.Pages.{page_number}
use Rattle.m88_isa.specs.Bus.{in_words}

-- how many words a page has
abbrev pub page_words : ℕ
page_words = 1024

-- the image, and by the numbers of the pages: the words of a page where it is ready, and whether it is absent
pub record MemoryView : Type 0 where
  pub image : ProgramImage
  pub pages : List (Option (List ℕ))
  pub absent : List Bool

-- the bytes of an image, and 0 where it has none
unfoldable pub image_bytes : ProgramImage → ℕ → ℕ
image_bytes image a = unwrap_or (byte_at image a) 0

-- the same by words: at each address the big-endian word that the address lies in
abbrev pub image_bus : ProgramImage → ℕ → ℕ
image_bus image = in_words (image_bytes image)

-- a word of a page by its place, where the page is ready
abbrev pub word_in_page : Option (List ℕ) → ℕ → Option ℕ
word_in_page None place = None
word_in_page (Some words) place = slice_get words place

-- the data bus: at each address the word that the address lies in
unfoldable pub bus_of : MemoryView → ℕ → ℕ
bus_of m a =
    unwrap_or (word_in_page (slice_index_or m.pages (page_number a) None) (a / 4 % page_words)) (image_bus m.image a)

-- a page is ready: no store to it needs memory
unfoldable pub ready_of : MemoryView → ℕ → Bool
ready_of m page = is_some (slice_index_or m.pages page None)

-- a page is absent for the data bus
unfoldable pub absent_of : MemoryView → ℕ → Bool
absent_of m page = slice_index_or m.absent page false

-- a page that is ready stays so
abbrev pub StaysReady : MemoryView → MemoryView → Type 0
StaysReady old new = (page : ℕ) → ready_of old page ≡ true → ready_of new page ≡ true

-- pages may have become ready, and nothing else of memory changed
pub record GainsReady (old new : MemoryView) : Type 0 where
  pub image : new.image ≡ old.image
  pub bus : bus_of new ≡ bus_of old
  pub absent : absent_of new ≡ absent_of old
  pub ready : StaysReady old new
