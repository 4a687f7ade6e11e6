-- A statement goes to the end of the open module, or of the module main where none has begun.
use Rattle.std.proofs.Common.{◌≡◌, Option, [], ◌∷◌, sym, ap, ◌∙◌}
use Rattle.m88_parse.specs.declared.unit.Module.{Module}
use Rattle.m88_parse.specs.Inside.Drafts.{Drafted, with_more, begun}
use Rattle.m88_parse.proofs.GrowingUnit.{follows_statement, pushed_follows}
use Rattle.m88_parse.proofs.draft.Draft.push.Goals as goal

pub returns-in-Some-clause-after : goal.returns-in-Some-clause-after
returns-in-Some-clause-after c =
    let closed = c.self.inside.closed.items in
    pushed_follows c.push.result closed c.in-Some.open c.push.new.self c.args.self.now c.args.statement c.push.ensures.value
    (ap (λ (o : Option Module). let d : Drafted = record { closed = closed; current = o } in d) (sym c.in-Some.is) ∙ c.self.view_is)

pushed_to_main : (c : goal.Joined-self-2) → c.push-in-None.new.self ≡ with_more (begun c.self.inside.current) (c.args.statement ∷ [])
pushed_to_main c = c.in_ok-push-in-None.ensures.value ∙ ap (λ (m : Module). with_more m (c.args.statement ∷ [])) (c.main-open.ensures ∙ sym (ap begun c.in-None.is))

pub returns-in_ok-push-in-None-clause-after : goal.returns-in_ok-push-in-None-clause-after
returns-in_ok-push-in-None-clause-after c =
    let closed = c.self.inside.closed.items in
    follows_statement closed c.self.inside.current c.push-in-None.new.self c.args.self.now c.args.statement
    (pushed_to_main c) c.self.view_is
