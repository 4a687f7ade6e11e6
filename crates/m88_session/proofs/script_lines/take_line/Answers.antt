-- A line goes on with the lines of a script, or is none of one.
use Rattle.std.proofs.Common.{◌≡◌, [], ◌∷◌, ◌++◌, None, Some, length, rules, sym, subst, ◌∙◌, true, false}
use Rattle.m88_session.specs.Script.{AreScriptLines}
use Rattle.m88_session.specs.Inside.ScriptWords.{has_room}
use Rattle.std.proofs.lemmas.Bool.{eqb-true}
use Rattle.m88_base.proofs.Laws.{empty_of}
use Rattle.m88_session.proofs.ScriptReading.{not_empty}
use Rattle.m88_session.proofs.Scripts.{no_command, one_empty_more, one_more_fits, one_more_is_none}
use Rattle.m88_session.proofs.script_lines.take_line.Goals as goal

pub returns-then-is_empty-clause-goes_on : goal.returns-then-is_empty-clause-goes_on
returns-then-is_empty-clause-goes_on c = λ yes lines are.
    let empty = empty_of c.args.line.now (eqb-true (length c.args.line.now) 0 (sym c.is_empty.ensures ∙ c.if-is_empty.true)) in
    subst (λ l. AreScriptLines (lines ++ l ∷ []) c.args.commands.now.items) (sym empty) (one_empty_more lines c.args.commands.now.items are)

pub returns-in_default-clause-stops : goal.returns-in_default-clause-stops
returns-in_default-clause-stops c = λ no lines are others all.
    let some = not_empty c.args.line.now c.is_empty.result c.is_empty.ensures c.if-is_empty.false in
    no_command lines c.args.line.now others some
    (λ k is. absurd (let clash : None ≡ Some k = sym c.in_default.is ∙ c.command_in.ensures.only k is in cc)) all

pub returns-then-not-has_room-clause-stops : goal.returns-then-not-has_room-clause-stops
returns-then-not-has_room-clause-stops c = λ no lines are others all.
    let room : has_room c.args.commands.now.items c.in-Some.command ≡ false = search rules in
    one_more_is_none lines c.args.commands.now.items others c.args.line.now c.in-Some.command
    room c.in-Some.ensures.found are all

pub returns-clause-goes_on : goal.returns-clause-goes_on
returns-clause-goes_on c = λ yes lines are.
    let room : has_room c.args.commands.now.items c.in-Some.command ≡ true = search rules in
    subst (λ cs. AreScriptLines (lines ++ c.args.line.now ∷ []) cs) (sym c.push.ensures.items)
    (one_more_fits lines c.args.commands.now.items c.args.line.now c.in-Some.command room c.in-Some.ensures.found are)
