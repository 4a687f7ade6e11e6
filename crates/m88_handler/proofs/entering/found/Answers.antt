-- One transaction after the other.
use Rattle.std.proofs.Common.{◌∙◌, ap, sym}
use Rattle.m88_handler.proofs.Found.{found_of_three}
use Rattle.m88_handler.specs.Inside.Entered.{found_behind}
use Rattle.m88_handler.proofs.entering.found.Goals as goal

pub returns : goal.returns
returns c =
    c.forget-3.ensures
    ∙ ap (found_behind _) (c.forget-2.ensures ∙ ap (found_behind _) c.forget.ensures)
    ∙ sym (found_of_three c.args.triples.now c.args.given.now _ c.told-triples)
