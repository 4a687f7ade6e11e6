-- The parts of a valid triple's service make the whole.
use Rattle.std.proofs.Common.{ℕ, ◌≡◌, ◌∙◌, true, if◌then◌else◌, ap, sym, arith}
use Rattle.std.proofs.lemmas.Bool.Decides.{nat_tests}
use Rattle.m88_base.specs.Reg.{with_register}
use Rattle.m88_isa.specs.Bus.{bus_after, loaded}
use Rattle.m88_isa.specs.Triples.{is_valid_triple}
use Rattle.m88_monitor.proofs.Steps.{same_triple, served_valid}
use Rattle.m88_monitor.specs.Serving.{serving_of, triple_at}
use Rattle.m88_monitor.proofs.served.serve_triple.Goals as goal

pub finish-requires-clause-words : goal.finish-requires-clause-words
finish-requires-clause-words c =
    ap (triple_at c.args.index) c.make-datum.ensures.made.control
    ∙ same_triple c.args.index c.access_in-access.result c.args.ctrl.now
    ∙ sym c.triple_at-triple.ensures

pub returns-clause-served : goal.returns-clause-served
returns-clause-served c =
    let valid : is_valid_triple c.triple_at-triple.result ≡ true = grind (arith, nat_tests) in
    served_valid c.args.index (serving_of c.args.ctrl.now c.args.regs.now c.args.memory.now) c.triple_at-triple.result
    c.access_in-access.result c.make-datum.new.ctrl c.finish.new.ctrl _ _ _ c.triple_at-triple.ensures valid
    c.access_in-access.ensures c.make-datum.ensures.made.control c.finish.ensures
    (c.make-datum.ensures.made.numbers
    ∙ ap (λ (words : ℕ → ℕ). if c.access_in-access.result.write then c.args.regs.now.numbers
    else with_register c.access_in-access.result.reg (loaded c.access_in-access.result words) c.args.regs.now.numbers)
    c.supply.ensures.bus)
    (c.make-datum.ensures.made.bus ∙ ap (bus_after c.access_in-access.result) c.supply.ensures.bus)
    (c.make-datum.ensures.made.absent ∙ c.supply.ensures.absent)
