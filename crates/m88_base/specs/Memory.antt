-- The source and the sink in memory, as their users see them.
use Rattle.std.specs.Prelude.{ℕ, List}

-- a source in memory
pub record MemoryIn : Type 0 where
  -- the bytes still to come
  pub left : List ℕ
  -- how often it has failed
  pub faults : ℕ
  -- how often it was read
  pub calls : ℕ
  -- the most bytes that a call gives
  pub piece : ℕ
  -- the numbers of the calls that fail, from 0
  pub failing : List ℕ

-- a sink in memory
pub record MemoryOut : Type 0 where
  -- the bytes taken so far
  pub held : List ℕ
  -- how often it has failed
  pub faults : ℕ
  -- how often it was written to
  pub calls : ℕ
  -- the most bytes that it holds
  pub room : ℕ
  -- the most bytes that a call takes
  pub piece : ℕ
  -- the numbers of the calls that fail, from 0
  pub failing : List ℕ
