-- Where there is no fault nothing is left out.
use Rattle.std.proofs.Common.{◌∙◌, refl, sym, subst}
use Rattle.m88_link.specs.Layout.{Layout}
use Rattle.m88_link.specs.Linked.{IsLinked}
use Rattle.m88_link.proofs.Forced.{forced_whole}
use Rattle.m88_link.proofs.linking.image_or_refusal.Goals as goal

pub returns-clause-image : goal.returns-clause-image
returns-clause-image c =
    subst (λ (l : Layout). IsLinked l c.in_ok-image.image)
    (forced_whole c.args.objects.now (sym c.in_ok-image.ensures.fault ∙ c.in_ok-image.ensures.ended refl)) c.in_ok-image.ensures.image
