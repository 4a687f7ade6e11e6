-- The word loses the bit of a register.
use Rattle.m88_base.specs.Reg.{number_of}
use Rattle.m88_scoreboard.specs.Registers.{waiting_of}
use Rattle.m88_scoreboard.proofs.Waits.{even_without, fits_without, named_without}
use Rattle.m88_scoreboard.proofs.reg_file.RegFile.clear.Goals as goal

pub invariant_of-self : goal.invariant_of-self
invariant_of-self c = record {
  numbers = c.self.invariant.numbers;
  waits = fits_without c.self.inside.waits _ c.self.invariant.waits;
  zero_value = c.self.invariant.zero_value;
  zero_ready = even_without c.self.inside.waits _ c.self.invariant.zero_ready;
}

pub returns-clause-waiting : goal.returns-clause-waiting
unfolding waiting_of
returns-clause-waiting c =
    rw (← c.self.view_is, c.number.ensures.value)
    (named_without c.self.inside.waits (number_of c.args.r) c.args.r.in_range c.self.invariant.waits c.self.invariant.zero_ready)
