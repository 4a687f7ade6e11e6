-- Bytes in which items are looked for, and what is kept of them.
use Rattle.std.specs.Prelude.{◌≡◌, ℕ, ◌<◌, ◌≤◌, drop}
use Rattle.m88_sourcing.specs.Data.{text_here}
use Rattle.m88_sourcing.specs.declared.item.Finding.{Finding}

-- no text begins where none is said to begin
pub record IsFinding (f : Finding) : Type 0 where
  pub none : (k : ℕ) → f.from ≤ k → k < f.to → text_here (drop k f.bytes.now) ≡ 0

-- the same bytes from the same address on
pub record SameBytes (old new : Finding) : Type 0 where
  pub at : new.at ≡ old.at
  pub bytes : new.bytes ≡ old.bytes
