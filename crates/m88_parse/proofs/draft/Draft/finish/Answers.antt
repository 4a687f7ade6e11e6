-- The modules at the end are those closed, and the open one, which is there even where no row was.
use Rattle.std.proofs.Common.{◌≡◌, [], ◌∷◌, ◌++◌, sym, ap, ◌∙◌}
use Rattle.m88_parse.specs.declared.unit.Module.{Module}
use Rattle.m88_parse.specs.Inside.Drafts.{Drafted, modules_after, begun}
use Rattle.m88_parse.proofs.GrowingUnit.{at_end}
use Rattle.m88_parse.proofs.draft.Draft.finish.Goals as goal

all_at_end : (c : goal.In_ok-push) → c.push.new.self.items ≡ c.self.inside.closed.items ++ begun c.self.inside.current ∷ []
all_at_end c = c.in_ok-push.ensures.items ∙ ap (λ (m : Module). c.self.inside.closed.items ++ m ∷ []) (c.close.ensures ∙ c.begun.ensures)

pub returns : goal.returns
returns c =
    all_at_end c
    ∙ sym (at_end c.self.inside.closed.items c.self.inside.current)
    ∙ ap (λ (d : Drafted). modules_after d []) c.self.view_is
