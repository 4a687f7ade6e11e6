-- The page is looked up.
use Rattle.std.proofs.Common.{◌∙◌}
use Rattle.m88_pager.proofs.Held.{finds, misses}
use Rattle.m88_pager.proofs.mem_store.give.Goals as goal

pub returns-in-Some : goal.returns-in-Some
returns-in-Some c =
    finds c.args.pages.now c.args.page c.in-Some.bytes.now c.args.into.now c.copy_from_slice.new.self c.in-Some.ensures.value
    (c.copy_from_slice.ensures.after ∙ c.deref.ensures.value)

pub returns-in-None : goal.returns-in-None
returns-in-None c = misses c.args.pages.now c.args.page c.args.into.now c.in-None.ensures.value
