-- The program that runs and that of another place change places.
use Rattle.std.proofs.Common.{◌<◌, sym, subst, Some, None, length}
use Rattle.std.specs.Prelude.{◌≢◌}
use Rattle.m88_tasks.proofs.Places.{exchanged_by, place_some, place_stands, taken_place}
use Rattle.m88_tasks.specs.Tasks.{ArePrograms, ProgramsView}
use Rattle.m88_tasks.proofs.programs.Programs.exchange.Goals as goal

pub unreachable-requires : goal.unreachable-requires
unreachable-requires c =
    let inside = subst (λ (v : ProgramsView). c.args.to < length v.contexts) (sym c.self.view_is) c.requires.inside in
    let other = subst (λ (v : ProgramsView). c.args.to ≢ v.current) (sym c.self.view_is) c.requires.other in
    let some = c.self.invariant in
    place_some some.group some.moments some.current
    (record { board = c.self.inside.board; contexts = c.self.inside.contexts.items; current = c.self.inside.current }) c.args.to some.are other
    (taken_place c.self.inside.contexts.items c.args.to c.index_mut.result.now c.take.result None inside
    c.index_mut.ensures.value c.take.ensures.value c.in_default.is)

pub interrupt-requires : goal.interrupt-requires
interrupt-requires c =
    let inside = subst (λ (v : ProgramsView). c.args.to < length v.contexts) (sym c.self.view_is) c.requires.inside in
    record {
      stands =
          place_stands (record { board = c.self.inside.board; contexts = c.self.inside.contexts.items; current = c.self.inside.current })
          c.args.to c.in-Some.other c.self.invariant
          (taken_place c.self.inside.contexts.items c.args.to c.index_mut.result.now c.take.result (Some c.in-Some.other) inside
          c.index_mut.ensures.value c.take.ensures.value c.in-Some.is);
      begun = c.self.invariant.are.begun;
    }

pub invariant_of-self : goal.invariant_of-self
invariant_of-self c =
    let inside = subst (λ (v : ProgramsView). c.args.to < length v.contexts) (sym c.self.view_is) c.requires.inside in
    let other = subst (λ (v : ProgramsView). c.args.to ≢ v.current) (sym c.self.view_is) c.requires.other in
    let at = taken_place c.self.inside.contexts.items c.args.to c.index_mut.result.now c.take.result (Some c.in-Some.other) inside
    c.index_mut.ensures.value c.take.ensures.value c.in-Some.is in
    let some = c.self.invariant in
    record {
      group = some.group;
      moments = some.moments;
      current = c.args.to;
      are = exchanged_by some.group some.moments some.current c.args.to
          (record { board = c.self.inside.board; contexts = c.self.inside.contexts.items; current = c.self.inside.current })
          c.interrupt.new.self c.in-Some.other c.interrupt.new.other c.take.new.self c.take.ensures.after some.are other at inside
          c.in-Ok.ensures.resumed c.in-Ok.ensures.suspended c.in-Ok.ensures.run c.in-Ok.ensures.other_run c.in-Ok.ensures.unbegun;
    }

pub returns : goal.returns
returns c = λ g moments current held.
    let inside = subst (λ (v : ProgramsView). c.args.to < length v.contexts) (sym c.self.view_is) c.requires.inside in
    let other = subst (λ (v : ProgramsView). c.args.to ≢ v.current) (sym c.self.view_is) c.requires.other in
    let at = taken_place c.self.inside.contexts.items c.args.to c.index_mut.result.now c.take.result (Some c.in-Some.other) inside
    c.index_mut.ensures.value c.take.ensures.value c.in-Some.is in
    exchanged_by g moments current c.args.to
    (record { board = c.self.inside.board; contexts = c.self.inside.contexts.items; current = c.self.inside.current })
    c.interrupt.new.self c.in-Some.other c.interrupt.new.other c.take.new.self c.take.ensures.after
    (subst (ArePrograms g moments current) (sym c.self.view_is) held) other at inside
    c.in-Ok.ensures.resumed c.in-Ok.ensures.suspended c.in-Ok.ensures.run c.in-Ok.ensures.other_run c.in-Ok.ensures.unbegun
