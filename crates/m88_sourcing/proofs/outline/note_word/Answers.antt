-- One word of code more, with its target, or none.
use Rattle.std.proofs.Common.{◌≡◌, ◌∙◌, Bool, IsTrue, None, Some, false, not, refl, sym, true}
use Rattle.std.specs.FinSet.{contains}
use Rattle.m88_sourcing.specs.Flow.{branch_target}
use Rattle.m88_sourcing.specs.declared.outline.Outline.{Outline}
use Rattle.m88_sourcing.proofs.Walking.{names_more, names_same, notes_again, notes_as, notes_none, once_more}
use Rattle.m88_sourcing.proofs.outline.note_word.Goals as goal

was_there : (b : Bool) → not b ≡ false → b ≡ true
was_there true e = refl
was_there false e = absurd cc

pub returns-then-not-branch-clause-named : goal.returns-then-not-branch-clause-named
returns-then-not-branch-clause-named c =
    names_same c.args.image.now c.args.outline.now c.insert.new.self
    (once_more c.args.outline.now.code c.insert.new.self c.args.at
    (was_there (contains c.args.outline.now.code c.args.at) (sym c.in_ok-insert.ensures.new ∙ c.if-not-branch.true))
    c.in_ok-insert.ensures.has)
    c.requires.named

pub returns-then-not-branch-clause-again : goal.returns-then-not-branch-clause-again
returns-then-not-branch-clause-again c = λ e.
    was_there (contains c.args.outline.now.code c.args.at) (sym c.in_ok-insert.ensures.new ∙ c.if-not-branch.true)

pub returns-in_default-clause-named : goal.returns-in_default-clause-named
returns-in_default-clause-named c =
    let old = c.args.outline.now in
    let with : Outline = record old { code = c.insert.new.self } in
    let none : branch_target c.args.at c.args.instr.now ≡ None = sym c.branch_target.ensures ∙ c.in_default.is in
    names_more c.args.image.now old c.insert.new.self with c.args.at c.args.instr.now c.requires.holds c.requires.named
    c.in_ok-insert.ensures.has (notes_none c.args.image.now with c.args.at c.args.instr.now none)

pub returns-then-contains-clause-named : goal.returns-then-contains-clause-named
returns-then-contains-clause-named c =
    let old = c.args.outline.now in
    let with : Outline = record old { code = c.insert.new.self } in
    let to : branch_target c.args.at c.args.instr.now ≡ Some c.in-Some.target = sym c.branch_target.ensures ∙ c.in-Some.is in
    let there : IsTrue (contains old.labels c.in-Some.target) = sym c.contains.ensures ∙ c.if-contains.true in
    names_more c.args.image.now old c.insert.new.self with c.args.at c.args.instr.now c.requires.holds c.requires.named
    c.in_ok-insert.ensures.has
    (notes_again c.args.image.now with c.args.at c.in-Some.target c.args.instr.now to there
    ((c.requires.named.labels c.in-Some.target).0 there).1)

pub returns-clause-named : goal.returns-clause-named
returns-clause-named c =
    let old = c.args.outline.now in
    let with : Outline = record old { code = c.insert.new.self } in
    let to : branch_target c.args.at c.args.instr.now ≡ Some c.in-Some.target = sym c.branch_target.ensures ∙ c.in-Some.is in
    names_more c.args.image.now old c.insert.new.self c.note_target.new.outline c.args.at c.args.instr.now c.requires.holds
    c.requires.named c.in_ok-insert.ensures.has
    (notes_as c.args.image.now with c.note_target.new.outline c.args.at c.in-Some.target c.args.instr.now to
    c.in_ok-label.ensures.notes)
