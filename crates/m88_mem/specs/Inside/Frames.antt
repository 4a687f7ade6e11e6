-- The frames of the pages that are ready, behind a table of two levels of 1,024 entries each, and how they are seen
-- beside the pages that are absent.
use Rattle.std.specs.Prelude.{ℕ, zero, suc, Bool, true, List, [], ◌∷◌, Option, None, Some, ◌≡◌, ◌<◌, ◌+◌, ◌*◌, ◌/◌, ◌%◌, ◌==◌, ◌&&◌, is_some, length, slice_get, slice_index_or, slice_set, unwrap_or, if◌then◌else◌, IfSome, OnErr, OnOk, Result}
use Rattle.m88_base.specs.Image.{ProgramImage}
use Rattle.m88_base.specs.Pages.{IsPage, page_count}
use Rattle.m88_isa.specs.Lanes.{IsEnable, merged}
use Rattle.m88_mem.specs.DataBus.{MemoryView, image_bus, page_words}
use Rattle.m88_mem.specs.Inside.Lines.{AreLines}
use Rattle.m88_mem.specs.Inside.Reads.{AreReads}
use Rattle.m88_mem.specs.declared.lines.Line.{Line}
use Rattle.m88_mem.specs.declared.frames.FrameTable.{FrameTable}
use Rattle.m88_mem.specs.declared.frames.PageFrame.{PageFrame}
use Rattle.m88_mem.specs.declared.reads.Read.{Read}

-- how many entries a table of either level has
abbrev pub table_entries : ℕ
table_entries = 1024

-- the frame at a place of a table, where there are both
unfoldable pub frame_in : Option FrameTable → ℕ → Option PageFrame
frame_in None low = None
frame_in (Some table) low = slice_index_or table.frames.items low None

-- the frame of a page, where it is ready
abbrev pub frame_at : List (Option FrameTable) → ℕ → Option PageFrame
frame_at tables page = frame_in (slice_index_or tables (page / table_entries) None) (page % table_entries)

-- the word at a place of a frame, where there are both
unfoldable pub word_in : Option PageFrame → ℕ → Option ℕ
word_in None place = None
word_in (Some frame) place = slice_get frame.words.items place

-- a word of a page by its place, where the page is ready
abbrev pub word_at : List (Option FrameTable) → ℕ → ℕ → Option ℕ
word_at tables page place = word_in (frame_at tables page) place

-- there is a table for a page
unfoldable pub has_table : List (Option FrameTable) → ℕ → Bool
has_table tables page = is_some (slice_index_or tables (page / table_entries) None)

-- the frames with one page's put in or taken out
abbrev pub with_frame : ℕ → Option PageFrame → (ℕ → Option PageFrame) → ℕ → Option PageFrame
with_frame page frame other p = if p == page then frame else other p

-- a frame with a word changed
pub record IsPut (after : Option PageFrame) (f : PageFrame) (place word : ℕ) : Type 0 where
  pub frame : PageFrame
  pub is : after ≡ Some frame
  pub words : frame.words.items ≡ slice_set f.words.items place word

-- a table with a word of one of its frames changed
pub record HasPut (after : Option FrameTable) (t : FrameTable) (f : PageFrame) (low place word : ℕ) : Type 0 where
  pub table : FrameTable
  pub frame : PageFrame
  pub is : after ≡ Some table
  pub frames : table.frames.items ≡ slice_set t.frames.items low (Some frame)
  pub words : frame.words.items ≡ slice_set f.words.items place word

-- what holds of the frames: each table has its entries, and each frame its words
pub record AreFrames (tables : List (Option FrameTable)) : Type 0 where
  pub entries : length tables ≡ table_entries
  pub long : (high : ℕ) (table : FrameTable) → slice_index_or tables high None ≡ Some table →
      length table.frames.items ≡ table_entries
  pub words : (page : ℕ) (frame : PageFrame) → frame_at tables page ≡ Some frame →
      length frame.words.items ≡ page_words

-- no page has a frame, behind a whole table
pub record AreBare (tables : List (Option FrameTable)) : Type 0 where
  pub none : (page : ℕ) → frame_at tables page ≡ None
  pub entries : length tables ≡ table_entries

-- a page has a table, where one was to be had, and where none was nothing changed; each frame stays
pub record GivesTable {T E : Type 0} (before after : List (Option FrameTable)) (page : ℕ) (given : Result T E) : Type 0 where
  pub same : (p : ℕ) → frame_at after p ≡ frame_at before p
  pub entries : length after ≡ length before
  pub there : OnOk given (has_table after page ≡ true)
  pub err : OnErr given (after ≡ before)

-- a frame may be put in a page's place: it is whole, and there is a table for it
pub record CanHold (tables : List (Option FrameTable)) (page : ℕ) (frame : PageFrame) : Type 0 where
  pub is_page : IsPage page
  pub there : has_table tables page ≡ true
  pub words : length frame.words.items ≡ page_words

-- a page has a frame, and every other the one it had
pub record HoldsFrame (before after : List (Option FrameTable)) (page : ℕ) (frame : PageFrame) : Type 0 where
  pub frames : (p : ℕ) → frame_at after p ≡ with_frame page (Some frame) (frame_at before) p
  pub entries : length after ≡ length before

-- bytes of a word may be written in the frame of a page: the page is ready
pub record CanPut (tables : List (Option FrameTable)) (page place en : ℕ) : Type 0 where
  pub is_page : IsPage page
  pub within : place < page_words
  pub ready : is_some (frame_at tables page) ≡ true
  pub enable : IsEnable en

-- bytes of one word were written, whatever stands for a word that isn't there; the same pages are ready
pub record PutsWord (before after : List (Option FrameTable)) (page place en value : ℕ) : Type 0 where
  pub word : (other p k : ℕ) → word_at after p k ≡ (if p == page && k == place
      then Some (merged en value (unwrap_or (word_at before page place) other))
      else word_at before p k)
  pub ready : (p : ℕ) → is_some (frame_at after p) ≡ is_some (frame_at before p)
  pub entries : length after ≡ length before

-- the same in a frame that is there
pub record CanPutInFrame (frame : Option PageFrame) (place en : ℕ) : Type 0 where
  pub ready : is_some frame ≡ true
  pub within : IfSome frame (λ f. place < length f.words.items)
  pub enable : IsEnable en

-- the same in a table that is there and whole
pub record CanPutInTable (table : Option FrameTable) (low place en : ℕ) : Type 0 where
  pub within : low < table_entries
  pub long : IfSome table (λ t. length t.frames.items ≡ table_entries)
  pub there : CanPutInFrame (frame_in table low) place en

-- as many values as said, those of a function from 0 on
unfoldable pub tabulated : {X : Type 0} → ℕ → (ℕ → X) → List X
tabulated zero f = []
tabulated (suc n) f = f 0 ∷ tabulated n (λ i. f (suc i))

-- a value for each page
unfoldable pub by_page : {X : Type 0} → (ℕ → X) → List X
by_page f = tabulated page_count f

-- the words of a frame, where it is there
abbrev pub words_in : Option PageFrame → Option (List ℕ)
words_in None = None
words_in (Some frame) = Some frame.words.items

-- what a memory with such frames and such absent pages is seen as
abbrev pub seen_as : ProgramImage → List (Option FrameTable) → List Bool → MemoryView
seen_as image tables absent = record {
  image = image;
  pages = by_page (λ page. words_in (frame_at tables page));
  absent = absent;
}

-- what holds of every memory: its upper table has all its entries, and the instructions and the words that it keeps are
-- its image's
pub record IsMemory (image : ProgramImage) (tables : List (Option FrameTable)) (kept : List (Option Line))
    (read : List (Option Read)) : Type 0 where
  pub entries : length tables ≡ table_entries
  pub lines : AreLines image kept
  pub reads : AreReads image read

-- a frame has the words that an image has at a page, and 0 where that has none
pub record IsImageFrame (image : ProgramImage) (page : ℕ) (frame : PageFrame) : Type 0 where
  pub long : length frame.words.items ≡ page_words
  pub each : (k : ℕ) → k < page_words → slice_get frame.words.items k ≡ Some (image_bus image (page * 4096 + k * 4))
