-- The text of the entry is that of the fault that was told.
use Rattle.std.proofs.Common.{ap, refl, sym}
use Rattle.m88_entries.specs.ToldFaults.{told_by}
use Rattle.m88_handler.specs.Entering.{Faulted, entering, faulted}
use Rattle.m88_mem.specs.DataBus.{image_bus}
use Rattle.m88_supering.proofs.Entered.{text_by}
use Rattle.m88_supering.proofs.fault.text_of.Goals as goal

pub returns : goal.returns
returns c = λ p of.
    let told = c.args.told.now in
    let f : Faulted = faulted told.case.fault told.given (image_bus told.case.image) in
    let is = c.in_ok-entry.ensures.entry p of in
    text_by p c.args.steps (told_by told) f c.in_ok-entry.entry c.in_ok-text.text.items
    (ap (faulted told.case.fault told.given) c.requires.usable.image) is
    (c.in_ok-text.ensures f (entering p f) refl (ap image_bus (sym c.in_ok-entry.ensures.image)) is.found)
