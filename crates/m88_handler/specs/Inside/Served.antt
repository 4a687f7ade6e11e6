-- The pages of transactions that are to be served.
use Rattle.std.specs.Prelude.{ℕ, Bool, true, ◌≡◌}
use Rattle.m88_base.specs.Pages.{page_number}
use Rattle.m88_base.specs.declared.triple.Triple.{Triple}
use Rattle.m88_ctrl.specs.ControlRegisters.{ControlRegisters}
use Rattle.m88_isa.specs.Triples.{access_in}

-- the page of a transaction is ready, if it is a store
abbrev pub IsReadyFor : (ℕ → Bool) → Triple → Type 0
IsReadyFor ready t = (access_in t).write ≡ true → ready (page_number t.dma) ≡ true

-- so it is of all three
pub record AreReady (ready : ℕ → Bool) (c : ControlRegisters) : Type 0 where
  pub first : IsReadyFor ready c.t0
  pub second : IsReadyFor ready c.t1
  pub third : IsReadyFor ready c.t2
