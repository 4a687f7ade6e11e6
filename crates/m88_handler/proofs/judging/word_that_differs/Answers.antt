-- A word of the next page differs, or none does, or no page is left.
use Rattle.std.proofs.Common.{◌≡◌, ◌-◌, ◌+◌, ◌*◌, ◌^◌, ◌∙◌, ℕ, arith, ap, sym}
use Rattle.m88_handler.proofs.Searching.{found_first, none_left, skipped_none}
use Rattle.m88_handler.specs.Judging.{word_differs}
use Rattle.m88_isa.specs.Held.{first_from}
use Rattle.m88_mem.specs.DataBus.{bus_of}
use Rattle.m88_handler.proofs.judging.word_that_differs.Goals as goal

pub returns-in-Some-clause-place : goal.returns-in-Some-clause-place
returns-in-Some-clause-place c =
    sym (found_first 1024 (1024 * c.loop-page.page) (2 ^ 30 - 1024 * c.loop-page.page) c.in-Some.place
    (word_differs (bus_of c.args.left.now) (bus_of c.args.wanted.now)) (omega arith)
    (sym c.word_of_page.ensures.place ∙ c.in-Some.is)) ∙ c.loop-page.invariant

pub loop-page-preserved : goal.loop-page-preserved
loop-page-preserved c =
    let next : 1024 * (c.loop-page.page + 1) ≡ 1024 * c.loop-page.page + 1024 = omega arith in
    ap (λ (n : ℕ). first_from n (2 ^ 30 - 1024 * (c.loop-page.page + 1)) (word_differs (bus_of c.args.left.now) (bus_of c.args.wanted.now))) next
    ∙ sym (skipped_none 1024 (1024 * c.loop-page.page) (2 ^ 30 - 1024 * c.loop-page.page) (2 ^ 30 - 1024 * (c.loop-page.page + 1))
    (word_differs (bus_of c.args.left.now) (bus_of c.args.wanted.now)) (omega arith)
    (sym c.word_of_page.ensures.place ∙ c.in_default.is)) ∙ c.loop-page.invariant

pub returns-clause-place : goal.returns-clause-place
returns-clause-place c =
    sym (none_left (1024 * c.loop-page.page) (2 ^ 30 - 1024 * c.loop-page.page)
    (word_differs (bus_of c.args.left.now) (bus_of c.args.wanted.now)) (omega arith)) ∙ c.loop-page.invariant
