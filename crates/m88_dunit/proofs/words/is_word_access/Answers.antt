-- A store that the data unit can make has neither a register nor a sign mark.
use Rattle.std.proofs.Common.{arith}
use Rattle.m88_isa.specs.Operands.{no_register}
use Rattle.std.proofs.lemmas.Bool.Decides.{nat_tests}
use Rattle.m88_base.proofs.Laws.{same_reg}
use Rattle.m88_dunit.proofs.WordsOf.{store_made}
use Rattle.m88_dunit.proofs.words.is_word_access.Goals as goal

pub returns-then-eq : goal.returns-then-eq
returns-then-eq c =
    store_made c.args.access.now (grind (arith, nat_tests)) (c.is_enable.ensures.0 c.if-not-is_enable.false)
    c.if-not-access.false (same_reg c.args.access.now.reg no_register (grind (arith, nat_tests)))
