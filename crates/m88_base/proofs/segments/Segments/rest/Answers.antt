use Rattle.std.proofs.Common.{◌≡◌, ◌+◌, ◌-◌, ◌∙◌, ap, length, drop, arith}
use Rattle.std.proofs.lemmas.Option.{slice_get_past}
use Rattle.m88_base.specs.Placed.{Placed}
use Rattle.m88_base.specs.Inside.Blocks.{all_runs}
use Rattle.m88_base.proofs.Apart.{none_below}
use Rattle.m88_base.proofs.Cuts.{rest_by_last}
use Rattle.m88_base.proofs.segments.Segments.rest.Goals as goal

pub returns-in-None-clause-end : goal.returns-in-None-clause-end
returns-in-None-clause-end c =
    let z : c.args.at + 0 ≡ c.args.at = omega arith in
    rw (z, ← c.self.view_is) (none_below _ (all_runs c.self.inside.runs) c.args.at c.in-None.ensures.none (omega arith))

pub returns-in-Some-clause-there : goal.returns-in-Some-clause-there
returns-in-Some-clause-there c = λ k few.
    rw (← c.self.view_is, c.bytes_from.ensures)
    (rest_by_last (all_runs c.self.inside.runs) c.args.at c.in-Some.run'.now c.self.invariant c.in-Some.ensures.some k
    (omega (arith, few, ap length c.bytes_from.ensures)))

pub returns-in-Some-clause-end : goal.returns-in-Some-clause-end
returns-in-Some-clause-end c =
    let run : Placed = c.in-Some.run'.now in
    let rest = drop (c.args.at - run.at) run.bytes in
    let all = rest_by_last (all_runs c.self.inside.runs) c.args.at run c.self.invariant c.in-Some.ensures.some (length rest) (omega arith) in
    rw (← c.self.view_is, c.bytes_from.ensures) (all ∙ slice_get_past rest (length rest) (omega arith))
