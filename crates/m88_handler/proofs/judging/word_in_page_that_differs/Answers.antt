-- The first of the page's words that are left differs or doesn't, or none is left.
use Rattle.std.proofs.Common.{◌≡◌, ◌-◌, ◌+◌, ◌*◌, ◌∙◌, ℕ, arith, ap, sym, subst, Some, true, false}
use Rattle.m88_handler.proofs.Searching.{fails, none_left, passes}
use Rattle.m88_handler.specs.Judging.{word_differs}
use Rattle.m88_isa.specs.Held.{first_from}
use Rattle.m88_mem.specs.DataBus.{bus_of}
use Rattle.m88_handler.proofs.judging.word_in_page_that_differs.Goals as goal

pub returns-then-word_differs-clause-place : goal.returns-then-word_differs-clause-place
returns-then-word_differs-clause-place c =
    let place : c.args.page * 1024 + c.loop-offset.offset ≡ 1024 * c.args.page + c.loop-offset.offset = omega arith in
    let there : word_differs (bus_of c.args.left.now) (bus_of c.args.wanted.now) (c.args.page * 1024 + c.loop-offset.offset) ≡ true =
    sym c.word_differs.ensures ∙ c.if-word_differs.true in
    ap Some place
    ∙ sym (passes (1024 * c.args.page + c.loop-offset.offset) (1024 - c.loop-offset.offset)
    (word_differs (bus_of c.args.left.now) (bus_of c.args.wanted.now)) (omega arith)
    (subst (λ (n : ℕ). word_differs (bus_of c.args.left.now) (bus_of c.args.wanted.now) n ≡ true) place there)) ∙ c.loop-offset.invariant

pub loop-offset-preserved : goal.loop-offset-preserved
loop-offset-preserved c =
    let place : c.args.page * 1024 + c.loop-offset.offset ≡ 1024 * c.args.page + c.loop-offset.offset = omega arith in
    let next : 1024 * c.args.page + (c.loop-offset.offset + 1) ≡ (1024 * c.args.page + c.loop-offset.offset) + 1 = omega arith in
    let there : word_differs (bus_of c.args.left.now) (bus_of c.args.wanted.now) (c.args.page * 1024 + c.loop-offset.offset) ≡ false =
    sym c.word_differs.ensures ∙ c.if-word_differs.false in
    ap (λ (n : ℕ). first_from n (1024 - (c.loop-offset.offset + 1)) (word_differs (bus_of c.args.left.now) (bus_of c.args.wanted.now))) next
    ∙ sym (fails (1024 * c.args.page + c.loop-offset.offset) (1024 - c.loop-offset.offset) (1024 - (c.loop-offset.offset + 1))
    (word_differs (bus_of c.args.left.now) (bus_of c.args.wanted.now)) (omega arith)
    (subst (λ (n : ℕ). word_differs (bus_of c.args.left.now) (bus_of c.args.wanted.now) n ≡ false) place there)) ∙ c.loop-offset.invariant

pub returns-clause-place : goal.returns-clause-place
returns-clause-place c =
    sym (none_left (1024 * c.args.page + c.loop-offset.offset) (1024 - c.loop-offset.offset)
    (word_differs (bus_of c.args.left.now) (bus_of c.args.wanted.now)) (omega arith)) ∙ c.loop-offset.invariant
