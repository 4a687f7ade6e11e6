-- A stage by its place.
use Rattle.std.proofs.Common.{◌≡◌, sym, subst, length, nat_lt, false, ◌≤◌, arith}
use Rattle.std.proofs.lemmas.Bool.Decides.{nat_tests}
use Rattle.std.proofs.lemmas.List.{length-map}
use Rattle.std.proofs.lemmas.Option.{slice_get_past}
use Rattle.m88_dunit.proofs.Stages.{pending_in}
use Rattle.m88_dunit.specs.Inside.Stages.{ArePending, staged}
use Rattle.m88_dunit.proofs.data_unit.DataUnit.stage.Goals as goal

pub returns-in-Some-clause-pending : goal.returns-in-Some-clause-pending
returns-in-Some-clause-pending c = subst ArePending c.self.view_is (pending_in c.self.inside.stages.items c.self.invariant)

pub returns-in-None-clause-pending : goal.returns-in-None-clause-pending
returns-in-None-clause-pending c = subst ArePending c.self.view_is (pending_in c.self.inside.stages.items c.self.invariant)

pub returns-in-None-clause-value : goal.returns-in-None-clause-value
returns-in-None-clause-value c =
    let outside : false ≡ nat_lt c.args.place (length c.as_slice.result.now) = c.in-None.ensures.lookup.0 in
    let past : length c.self.inside.stages.items ≤ c.args.place = grind (arith, nat_tests) in
    rw (← c.self.view_is) (sym (slice_get_past (staged c.self.inside.stages.items) c.args.place (rw length-map past)))
