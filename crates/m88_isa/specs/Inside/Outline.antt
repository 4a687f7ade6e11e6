-- Outlines of what instructions mean.
use Rattle.std.specs.Prelude.{ℕ, List, ◌≡◌}
use Rattle.m88_base.specs.declared.reg.Reg.{Reg}
use Rattle.m88_isa.specs.Effect.{Meaning, plan_for, plan_of_outline, register}
use Rattle.m88_isa.specs.Operands.{reads_d, register_after, register_if, stores_double}
use Rattle.m88_isa.specs.declared.instr.MemOp.{MemOp}
use Rattle.m88_isa.specs.declared.planned.Inputs.{Inputs}
use Rattle.m88_isa.specs.declared.planned.Outline.{Outline}

-- an outline stands for the plan of a meaning, whatever the registers hold
abbrev pub IsOutline : Outline → Inputs → (List ℕ → Meaning) → Type 0
IsOutline outline x meaning =
    (regs : List ℕ) → plan_of_outline outline regs x.carry x.next ≡ plan_for (meaning regs)

-- the inputs with the values that a memory mnemonic stores
abbrev pub with_stored : MemOp → Reg → List ℕ → Inputs → Inputs
with_stored op d regs x = record x {
  d = register regs (register_if (reads_d op) d);
  after_d = register regs (register_if (stores_double op) (register_after d));
}
