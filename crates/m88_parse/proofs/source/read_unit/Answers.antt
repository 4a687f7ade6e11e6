-- An empty draft begins the unit; behind the last line the draft's modules are those of the unit.
use Rattle.std.proofs.Common.{List, Result, Ok, ap, sym, ◌∙◌, arith, ◌≡◌, length}
use Rattle.std.proofs.lemmas.Grind.{common_steps}
use Rattle.m88_parse.specs.declared.fault.ParseFault.{ParseFault}
use Rattle.m88_parse.specs.declared.unit.Module.{Module}
use Rattle.m88_parse.specs.declared.unit.Unit.{Unit as Source}
use Rattle.m88_parse.specs.Inside.Source.{unit_of}
use Rattle.m88_parse.proofs.GrowingUnit.{starts, ends_all}
use Rattle.m88_parse.proofs.source.read_unit.Goals as goal

pub loop-rest-init : goal.loop-rest-init
loop-rest-init c = rw c.new-draft.ensures (record { leads = starts c.args.source.now; place = omega arith; from_one = omega arith })

pub returns : goal.returns
returns c =
    let none : length c.loop-rest.rest.now ≡ 0 = grind (arith, common_steps) in
    ends_all c.loop-rest.number c.loop-rest.rest.now c.loop-rest.draft (unit_of c.args.source.now) none c.loop-rest.invariant.leads
    ∙ ap (λ (ms : List Module). let u : Result Source ParseFault = Ok (record { modules = ms }) in u) (sym (c.new.ensures ∙ c.in_ok-modules.ensures))
