-- The sections of a module so far.
use Rattle.std.specs.Prelude.{ℕ, List}
use Rattle.m88_listing.specs.declared.cursor.Part.{Part}

-- the sections so far, and the one that stands
pub record Parts : Type 0 where
  pub parts : List Part
  pub here : ℕ
