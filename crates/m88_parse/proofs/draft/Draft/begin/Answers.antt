-- A module that begins closes the one that was open, if any was.
use Rattle.std.proofs.Common.{Option, [], ◌∷◌, ◌++◌, sym, ap, ◌∙◌}
use Rattle.m88_parse.specs.declared.unit.Module.{Module}
use Rattle.m88_parse.specs.Inside.Drafts.{Drafted, modules_with}
use Rattle.m88_parse.proofs.GrowingUnit.{head_follows, first_head_follows}
use Rattle.m88_parse.proofs.draft.Draft.begin.Goals as goal

pub returns-in_ok-push-in-Some-clause-after : goal.returns-in_ok-push-in-Some-clause-after
returns-in_ok-push-in-Some-clause-after c = λ rows.
    let closed = c.self.inside.closed.items in
    let next : Module = record { name = c.args.name; line = c.args.line; statements = c.new.result.items } in
    ap (λ (o : Option Module). modules_with c.push.new.self.items o rows) c.replace.ensures.after
    ∙ head_follows closed c.push.new.self.items c.in-Some.open next c.args.self.now c.new.ensures.items
    (c.in_ok-push-in-Some.ensures.items ∙ ap (λ (m : Module). closed ++ m ∷ []) c.close.ensures)
    (ap (λ (o : Option Module). let d : Drafted = record { closed = closed; current = o } in d) (sym c.in-Some.is ∙ c.replace.ensures.value) ∙ c.self.view_is)
    rows

pub returns-in-None-clause-after : goal.returns-in-None-clause-after
returns-in-None-clause-after c = λ rows.
    let closed = c.self.inside.closed.items in
    let next : Module = record { name = c.args.name; line = c.args.line; statements = c.new.result.items } in
    ap (λ (o : Option Module). modules_with closed o rows) c.replace.ensures.after
    ∙ first_head_follows closed next c.args.self.now c.new.ensures.items
    (ap (λ (o : Option Module). let d : Drafted = record { closed = closed; current = o } in d) (sym c.in-None.is ∙ c.replace.ensures.value) ∙ c.self.view_is)
    rows
