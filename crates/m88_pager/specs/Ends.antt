-- Why a paged run ended without an outcome.
use Rattle.std.specs.Prelude.{ℕ, Option, Result, IsErrOf, OnOk, ◌≡◌, ◌≤◌, is_some}
use Rattle.m88_base.specs.Causes.{Rose}
use Rattle.m88_pager.specs.Store.{PageMap}
use Rattle.m88_pager.specs.declared.paged.PageEnd.{PageEnd}
use Rattle.m88_pager.specs.declared.paged.PageEnd.TheVariants as end
use Rattle.m88_pager.specs.declared.store.StoreError.{StoreError}
use Rattle.m88_pager.specs.declared.store.StoreError.TheVariants as error

-- where a store answered an error
abbrev pub end_by_store : StoreError → PageEnd
end_by_store error.Failed = end.StoreFault
end_by_store error.Memory = end.Memory

-- it ends by a fault of the store only where the count of faults rose
abbrev pub EndsByCount : {T : Type 0} → ℕ → ℕ → Result T PageEnd → Type 0
EndsByCount before after result = IsErrOf result end.StoreFault → Rose before after

-- a call that uses a store: the store tells its pages where it did before; the count of faults doesn't fall, and stays
-- where no error is answered; and the call ends by a fault of the store only where the count rose
pub record UsesStore {T : Type 0} (told told' : Option PageMap) (faults faults' : ℕ) (result : Result T PageEnd) :
    Type 0 where
  pub tells : is_some told' ≡ is_some told
  pub clean : OnOk result (faults' ≡ faults)
  pub grows : faults ≤ faults'
  pub fault : EndsByCount faults faults' result
