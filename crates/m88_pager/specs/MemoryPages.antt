-- The store of pages in memory, as its users see it.
use Rattle.std.specs.Prelude.{ℕ, List, Vec, Result, Contains, Ok, Err, ◌≡◌, ◌≤◌, ◌↔◌, map, refl}
use Rattle.std.specs.Coded.{Coded, code_by, coded×, coded_list, coded_ℕ}
use Rattle.std.specs.FinMap.{code, from_entries}
use Rattle.m88_base.specs.Causes.{one_more}
use Rattle.m88_pager.specs.Store.{PageMap}
use Rattle.m88_pager.specs.declared.store.StoreError.{StoreError}
use Rattle.m88_pager.specs.declared.store.StoreError.TheVariants.{Failed, Memory}

-- a store of pages in memory
pub record MemoryPages : Type 0 where
  -- the pages that it holds
  pub held : PageMap
  -- how often a page was put in
  pub writes : ℕ
  -- how often it has failed
  pub faults : ℕ
  -- how many calls were made
  pub calls : ℕ
  -- the numbers of the calls that fail, from 0
  pub failing : List ℕ

-- it is stored as its parts
abbrev pub memory_pages_code : Coded MemoryPages
memory_pages_code =
    code_by (PageMap × (ℕ × (ℕ × (ℕ × List ℕ))))
    (coded× (code coded_ℕ (coded_list coded_ℕ))
    (coded× coded_ℕ (coded× coded_ℕ (coded× coded_ℕ (coded_list coded_ℕ)))))
    (λ s. (s.held, (s.writes, (s.faults, (s.calls, s.failing)))))
    (λ p. record { held = p.0; writes = p.1.0; faults = p.1.1.0; calls = p.1.1.1.0; failing = p.1.1.1.1 }) (λ _. refl)

-- the pages of entries, each a page's number and its bytes
abbrev pub held_in : {A : Type 0} → List (ℕ × Vec ℕ A) → PageMap
held_in entries = from_entries (map (λ e. (e.0, e.1.items)) entries)

-- the count of faults after a call: one more where the store failed in it
abbrev pub faults_by : {T : Type 0} → ℕ → Result T StoreError → ℕ
faults_by before (Ok value) = before
faults_by before (Err Failed) = one_more before
faults_by before (Err Memory) = before

-- a call fails where its number is among those that fail; it is counted, and so is its fault
pub record IsCallCounted {T : Type 0} (old new : MemoryPages) (result : Result T StoreError) : Type 0 where
  pub fails : (result ≡ Err Failed) ↔ Contains old.failing old.calls
  pub grows : old.faults ≤ new.faults
  pub stays : new ≡ record old {
    held = new.held;
    writes = new.writes;
    faults = faults_by old.faults result;
    calls = one_more old.calls;
  }
