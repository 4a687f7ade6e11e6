-- The lines so far are a script's, up to one that stops them.
use Rattle.std.proofs.Common.{◌≡◌, length, rules, sym, ◌∙◌, true, false, arith}
use Rattle.std.proofs.lemmas.Bool.{eqb-true}
use Rattle.m88_base.proofs.Laws.{empty_of}
use Rattle.m88_session.proofs.ScriptReading.{all_read, one_line_more, stopped}
use Rattle.m88_session.proofs.script.commands_in.Goals as goal

pub returns-then-not-take_line-clause-fault : goal.returns-then-not-take_line-clause-fault
returns-then-not-take_line-clause-fault c =
    let no : c.take_line.result ≡ false = search rules in
    stopped c.args.text.now c.loop-rest.rest.now c.first_line.result.0.now c.first_line.result.1.now c.loop-rest.commands.items c.loop-rest.passed
    c.loop-rest.invariant.read c.first_line.ensures.lines (c.take_line.ensures.stops no)

pub loop-rest-preserved : goal.loop-rest-preserved
loop-rest-preserved c =
    let yes : c.take_line.result ≡ true = search rules in
    record {
      read = one_line_more c.args.text.now c.loop-rest.rest.now c.first_line.result.0.now c.first_line.result.1.now c.loop-rest.commands.items
          c.loop-rest.passed c.loop-rest.invariant.read c.first_line.ensures.lines c.take_line.new.commands.items (c.take_line.ensures.goes_on yes);
      few = omega (arith, c.loop-rest.invariant.few, c.first_line.ensures.shorter);
    }

pub returns-clause-found : goal.returns-clause-found
returns-clause-found c =
    let is : c.is_empty.result ≡ true = search rules in
    all_read c.args.text.now c.loop-rest.rest.now c.loop-rest.commands.items c.loop-rest.passed c.loop-rest.invariant.read
    (empty_of c.loop-rest.rest.now (eqb-true (length c.loop-rest.rest.now) 0 (sym c.is_empty.ensures ∙ is)))
