-- The word gains the bit of a register other than r0.
use Rattle.std.proofs.Common.{◌≡◌, ◌==◌, false, arith}
use Rattle.std.proofs.lemmas.Bool.Decides.{nat_tests}
use Rattle.m88_base.specs.Reg.{number_of}
use Rattle.m88_scoreboard.specs.Registers.{waiting_of}
use Rattle.m88_scoreboard.proofs.Waits.{even_with, fits_with, named_with}
use Rattle.m88_scoreboard.proofs.reg_file.RegFile.mark.Goals as goal

pub invariant_of-self : goal.invariant_of-self
invariant_of-self c =
    let ne : (c.number.result == 0) ≡ false = grind (arith, nat_tests) in
    record {
      numbers = c.self.invariant.numbers;
      waits = fits_with c.self.inside.waits c.number.result c.self.invariant.waits;
      zero_value = c.self.invariant.zero_value;
      zero_ready = even_with c.self.inside.waits c.number.result c.number.ensures.bound ne c.self.invariant.zero_ready;
    }

pub returns-then-ne-clause-waiting : goal.returns-then-ne-clause-waiting
unfolding waiting_of
returns-then-ne-clause-waiting c =
    let ne : (number_of c.args.r == 0) ≡ false = grind (arith, nat_tests) in
    rw (← c.self.view_is, c.number.ensures.value) (named_with c.self.inside.waits (number_of c.args.r) c.args.r.in_range ne)
