use Rattle.std.proofs.Common.{sym, ◌∙◌, arith}
use Rattle.m88_base.specs.Inside.Blocks.{all_runs}
use Rattle.m88_base.proofs.Apart.{none_below}
use Rattle.m88_base.proofs.Cuts.{found_by_last}
use Rattle.m88_base.proofs.segments.Segments.find.Goals as goal

pub returns-in-None : goal.returns-in-None
returns-in-None c =
    rw (← c.self.view_is) (sym (none_below _ (all_runs c.self.inside.runs) c.args.at c.in-None.ensures.none (omega arith)))

pub returns-in-Some : goal.returns-in-Some
returns-in-Some c =
    rw (← c.self.view_is)
    (c.byte.ensures ∙ sym (found_by_last (all_runs c.self.inside.runs) c.args.at c.in-Some.run'.now c.self.invariant c.in-Some.ensures.some))
