-- A layout has one verdict, so what is answered is answered both ways.
use Rattle.m88_link.specs.Layout.{layout_of}
use Rattle.m88_link.proofs.OneRefusal.{linkable_told, one_verdict, refusal_told}
use Rattle.m88_link.proofs.linking.link.Goals as goal

pub returns-clause-linked : goal.returns-clause-linked
returns-clause-linked c = linkable_told (layout_of c.args.objects.now) c.image_or_refusal.result c.image_or_refusal.ensures.err

pub returns-clause-refused : goal.returns-clause-refused
returns-clause-refused c =
    refusal_told (layout_of c.args.objects.now) c.image_or_refusal.result c.image_or_refusal.ensures.linkable c.image_or_refusal.ensures.err

pub returns-clause-one_verdict : goal.returns-clause-one_verdict
returns-clause-one_verdict c = one_verdict (layout_of c.args.objects.now)
