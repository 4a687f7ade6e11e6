-- A valid load puts its register into the set, and nothing else does.
use Rattle.std.proofs.Common.{◌∙◌, true, ap, arith}
use Rattle.std.proofs.lemmas.Bool.Decides.{nat_tests}
use Rattle.m88_base.specs.Reg.{number_of}
use Rattle.m88_base.specs.RegisterSet.{with_member}
use Rattle.m88_isa.specs.declared.planned.Access.{Access}
use Rattle.m88_scoreboard.specs.Registers.{waiting_of}
use Rattle.m88_serving.proofs.Marked.{load_marked, none_marked, no_load, no_load_by}
use Rattle.m88_serving.proofs.loads.mark.Goals as goal

pub returns-then-not-is_valid_triple : goal.returns-then-not-is_valid_triple
returns-then-not-is_valid_triple c =
    none_marked c.args.triple.now (waiting_of c.args.waiting.now) (no_load c.args.triple.now (grind (arith, nat_tests)))

pub returns-then-not-access : goal.returns-then-not-access
returns-then-not-access c =
    c.mark.ensures.waiting
    ∙ ap (λ (a : Access). with_member (number_of a.reg) true (waiting_of c.args.waiting.now)) c.access_in-access.ensures
    ∙ load_marked c.args.triple.now (waiting_of c.args.waiting.now) (grind (arith, nat_tests)) (grind (arith, nat_tests))

pub returns-else-not-access : goal.returns-else-not-access
returns-else-not-access c =
    none_marked c.args.triple.now (waiting_of c.args.waiting.now) (no_load_by c.args.triple.now (grind (arith, nat_tests)))
