use Rattle.std.proofs.Common.{arith, ap, ◌∙◌}
use Rattle.std.specs.Prelude.{ℕ, Bool, true, ◌-◌}
use Rattle.m88_base.specs.Pages.{page_number}
use Rattle.m88_isa.specs.Address.{after_bytes}
use Rattle.m88_mem.specs.DataBus.{ready_of}
use Rattle.m88_mem.specs.Marks.{with_page}
use Rattle.m88_emul.proofs.PageEnds.{both_ready}
use Rattle.m88_emul.proofs.places.prepare.Goals as goal

pub returns-clause-ready : goal.returns-clause-ready
returns-clause-ready c = λ page inside.
    let some = c.requires.0 in
    let few = c.requires.1 in
    ap (λ (ready : ℕ → Bool). ready page)
    (c.in_ok-prepare-2.ensures.ready
    ∙ ap (with_page (page_number (after_bytes c.args.place (c.args.count - 1))) true) c.in_ok-prepare.ensures.ready)
    ∙ both_ready c.args.place c.args.count page (ready_of c.args.memory.now) (omega arith) some few inside
