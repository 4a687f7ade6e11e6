-- Where there is no fault nothing is left out.
use Rattle.std.proofs.Common.{◌≡◌, ◌∙◌, sym, subst}
use Rattle.std.specs.Prelude.{Err, IfOk, List, None, Ok, Option, Result}
use Rattle.m88_base.specs.Image.{ProgramImage}
use Rattle.m88_link.specs.Forced.{forced_layout}
use Rattle.m88_link.specs.Layout.{Layout, layout_of}
use Rattle.m88_link.specs.Linked.{IsLinked}
use Rattle.m88_link.specs.Refusal.{symbol_fault}
use Rattle.m88_link.specs.declared.fault.LinkFault.{LinkFault}
use Rattle.m88_link.specs.declared.object.Object.{Object}
use Rattle.m88_link.proofs.Forced.{forced_whole}
use Rattle.m88_link.proofs.linking.link_forced.Goals as goal

whole : (os : List Object) (result : Result (ProgramImage × Option LinkFault) LinkFault) → IfOk result (λ r. IsLinked (forced_layout os) r.0)
    → IfOk result (λ r. r.1 ≡ symbol_fault (layout_of os)) → IfOk result (λ r. r.1 ≡ None → IsLinked (layout_of os) r.0)
whole os (Ok r) linked fault = λ clean. subst (λ (l : Layout). IsLinked l r.0) (forced_whole os (sym fault ∙ clean)) linked
whole os (Err e) linked fault = tt

pub returns-clause-whole : goal.returns-clause-whole
returns-clause-whole c = whole c.args.objects.now c.link_all.result c.link_all.ensures.image c.link_all.ensures.fault
