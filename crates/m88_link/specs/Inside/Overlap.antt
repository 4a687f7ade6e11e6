-- The search for the least address that two sections have.
use Rattle.std.specs.Prelude.{ℕ, ◌<◌, ◌≤◌, List}
use Rattle.m88_link.specs.Layout.{Extent}
use Rattle.m88_link.specs.Refusal.{hits}

-- the least address that has two bytes
pub record IsLeastDouble (extents : List Extent) (at : ℕ) : Type 0 where
  pub double : 2 ≤ hits extents at
  pub least : (a : ℕ) → a < at → hits extents a < 2
