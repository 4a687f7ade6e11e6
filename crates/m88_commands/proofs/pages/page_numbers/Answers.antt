-- The numbers are read one by one.
use Rattle.std.proofs.Common.{rules}
use Rattle.m88_commands.proofs.NoneRead.{reads_none}
use Rattle.m88_commands.proofs.PageLists.{last_found, last_only, none_before, none_last, one_more}
use Rattle.m88_commands.proofs.pages.page_numbers.Goals as goal

pub loop-first-preserved : goal.loop-first-preserved
loop-first-preserved c = record {
  sofar = one_more c.args.text.now c.loop-first.rest.now c.in-Some.first.now c.in-Some.others.now c.loop-first.numbers.items
      c.add_number.new.numbers.items c.loop-first.invariant.sofar c.in-Some.ensures.found c.in-Some.ensures.before c.in_ok-add_number.ensures.added;
  few = c.in_ok-add_number.ensures.room;
  below = c.in_ok-add_number.ensures.below c.loop-first.invariant.below;
}

pub returns-in_err-add_number : goal.returns-in_err-add_number
returns-in_err-add_number c = reads_none c.from_residual.result (search rules) (λ ns said.
    none_before c.args.text.now c.loop-first.rest.now c.in-Some.first.now c.in-Some.others.now c.loop-first.numbers.items ns
    c.loop-first.invariant.sofar c.in-Some.ensures.found c.in-Some.ensures.before (c.add_number.ensures.full c.in_err-add_number.was)
    said.0 said.1)

pub returns-in_err-add_number-2 : goal.returns-in_err-add_number-2
returns-in_err-add_number-2 c = reads_none c.from_residual-in_err-add_number-2.result (search rules) (λ ns said.
    none_last c.args.text.now c.loop-first.rest.now c.loop-first.numbers.items ns c.loop-first.invariant.sofar
    c.in_default.ensures.none (c.add_number-2.ensures.full c.in_err-add_number-2.was) said.0 said.1)

pub returns : goal.returns
returns c = record {
  found = (
    last_found c.args.text.now c.loop-first.rest.now c.loop-first.numbers.items c.add_number-2.new.numbers.items
        c.loop-first.invariant.sofar c.in_ok-add_number-2.ensures.added,
    c.in_ok-add_number-2.ensures.room,
  );
  only = λ ns said.
      last_only c.args.text.now c.loop-first.rest.now c.loop-first.numbers.items c.add_number-2.new.numbers.items ns
      c.loop-first.invariant.sofar c.in_default.ensures.none c.in_ok-add_number-2.ensures.added said.0;
  fit = c.in_ok-add_number-2.ensures.below c.loop-first.invariant.below;
}
