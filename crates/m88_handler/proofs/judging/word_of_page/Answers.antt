-- No word of a page that is ready in neither memory differs.
use Rattle.std.proofs.Common.{◌≡◌, ◌∙◌, ◌*◌, ℕ, arith, false, subst, sym}
use Rattle.std.proofs.lemmas.Bool.Decides.{nat_tests}
use Rattle.m88_base.specs.Pages.{page_number}
use Rattle.m88_mem.specs.DataBus.{ready_of}
use Rattle.m88_handler.proofs.Unready.{none_unready}
use Rattle.m88_handler.proofs.judging.word_of_page.Goals as goal

pub returns-then-not-is_ready-2-clause-place : goal.returns-then-not-is_ready-2-clause-place
returns-then-not-is_ready-2-clause-place c =
    let here : page_number (c.args.page * 4096) ≡ c.args.page = omega arith in
    let first : c.is_ready.result ≡ false = grind (arith, nat_tests) in
    let second : c.is_ready-then-not-is_ready.result ≡ false = grind (arith, nat_tests) in
    sym (none_unready c.args.left.now c.args.wanted.now c.args.page c.requires.image
    (subst (λ (page : ℕ). ready_of c.args.left.now page ≡ false) here (sym c.is_ready.ensures ∙ first))
    (subst (λ (page : ℕ). ready_of c.args.wanted.now page ≡ false) here (sym c.is_ready-then-not-is_ready.ensures ∙ second)))
