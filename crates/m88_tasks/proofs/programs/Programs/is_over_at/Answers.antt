-- The program of a place is over where its context says so, or the board.
use Rattle.std.proofs.Common.{◌≡◌, ◌<◌, sym, subst, Some, None, length, slice_get}
use Rattle.m88_tasks.proofs.Places.{at_place, board_over, place_over}
use Rattle.m88_tasks.specs.Tasks.{ArePrograms, ProgramsView}
use Rattle.m88_tasks.proofs.programs.Programs.is_over_at.Goals as goal

pub returns-in-Some : goal.returns-in-Some
returns-in-Some c = λ g moments current held.
    let are = subst (ArePrograms g moments current) (sym c.self.view_is) held in
    let inside = subst (λ (v : ProgramsView). c.args.q < length v.contexts) (sym c.self.view_is) c.requires in
    let at : slice_get c.self.inside.contexts.items c.args.q ≡ Some (Some c.in-Some.context) =
    at_place c.self.inside.contexts.items c.args.q c.index.result.now (Some c.in-Some.context) inside c.index.ensures c.in-Some.is in
    place_over g moments current c.args.q c.in-Some.context c.is_over.result (are.places c.args.q (Some c.in-Some.context) at)
    c.is_over.ensures

pub returns-in-None : goal.returns-in-None
returns-in-None c = λ g moments current held.
    let are = subst (ArePrograms g moments current) (sym c.self.view_is) held in
    let inside = subst (λ (v : ProgramsView). c.args.q < length v.contexts) (sym c.self.view_is) c.requires in
    let at : slice_get c.self.inside.contexts.items c.args.q ≡ Some None =
    at_place c.self.inside.contexts.items c.args.q c.index.result.now None inside c.index.ensures c.in-None.is in
    board_over g moments current _ c.args.q c.is_over-in-None.result are (are.places c.args.q None at) c.is_over-in-None.ensures.moment
