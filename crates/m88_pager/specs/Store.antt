-- What a store of pages promises, by the pages that it holds and by how often one was put in, where it tells them.
use Rattle.std.specs.Prelude.{ℕ, Bool, true, false, List, Option, Some, None, Result, IfOk, IsErrOf, OnErr, OnOk, ◌≡◌, ◌≤◌, ◌+◌, length, option_map}
use Rattle.std.specs.FinMap.{FinMap, get, insert}
use Rattle.std.specs.Ordering.{nat_cmp}
use Rattle.m88_base.specs.Causes.{Rose}
use Rattle.m88_base.specs.Pages.{IsPage, page_bytes}
use Rattle.m88_pager.specs.declared.store.StoreError.{StoreError}
use Rattle.m88_pager.specs.declared.store.StoreError.TheVariants.{Failed}

-- pages by their numbers, each with its bytes
abbrev pub PageMap : Type 0
PageMap = FinMap nat_cmp (List ℕ)

-- a number is a page's, and the bytes are as many as a page has
pub record IsPageOf (page : ℕ) (bytes : List ℕ) : Type 0 where
  pub number : IsPage page
  pub size : length bytes ≡ page_bytes

-- a page that is held comes with its bytes; where one isn't held, what is there stays
abbrev pub Finds : Option (List ℕ) → Bool → List ℕ → List ℕ → Type 0
Finds None held before after = (held ≡ false) × (after ≡ before)
Finds (Some bytes) held before after = (held ≡ true) × (after ≡ bytes)

-- what a read of a page answers and leaves. Of a store that doesn't tell its pages it is known only that what is there
-- stays where it says that the page isn't held.
abbrev pub ReadsPage : Option PageMap → ℕ → Bool → List ℕ → List ℕ → Type 0
ReadsPage None page held before after = held ≡ false → after ≡ before
ReadsPage (Some pages) page held before after = Finds (get pages page) held before after

-- so many pages more were put in, where a store tells how often one was
abbrev pub WritesMore : ℕ → Option ℕ → Option ℕ → Type 0
WritesMore count writes writes' = writes' ≡ option_map (λ n. n + count) writes

-- a call fails only where the count of faults rose in it
abbrev pub FailsByCount : {T : Type 0} → ℕ → ℕ → Result T StoreError → Type 0
FailsByCount before after result = IsErrOf result Failed → Rose before after

-- a page is read: the bytes that come, the pages and the count of writes, which stay, and the count of faults, which
-- doesn't fall, and stays where no error is answered
pub record IsPageRead (told told' : Option PageMap) (writes writes' : Option ℕ) (faults faults' page : ℕ)
    (before after : List ℕ) (result : Result Bool StoreError) : Type 0 where
  pub reads : IfOk result (λ held. ReadsPage told page held before after)
  pub same : told' ≡ told
  pub unwritten : writes' ≡ writes
  pub clean : OnOk result (faults' ≡ faults)
  pub grows : faults ≤ faults'
  pub fault : FailsByCount faults faults' result

-- a page is put in, in place of one of this number, and counted: the pages and the count of writes, which stay where an
-- error is answered, and the count of faults, which doesn't fall, and stays where none is
pub record IsPageWritten {T : Type 0} (told told' : Option PageMap) (writes writes' : Option ℕ) (faults faults' : ℕ)
    (page : ℕ) (bytes : List ℕ) (result : Result T StoreError) : Type 0 where
  pub put : OnOk result (told' ≡ option_map (λ held. insert held page bytes) told)
  pub counted : OnOk result (WritesMore 1 writes writes')
  pub same : OnErr result (told' ≡ told)
  pub uncounted : OnErr result (writes' ≡ writes)
  pub clean : OnOk result (faults' ≡ faults)
  pub grows : faults ≤ faults'
  pub fault : FailsByCount faults faults' result
