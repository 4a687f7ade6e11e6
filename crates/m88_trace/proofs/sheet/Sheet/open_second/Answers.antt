-- It waits where there is one.
use Rattle.std.proofs.Common.{arith, ap, drop, sym, List, ◌++◌, ◌∙◌}
use Rattle.std.proofs.lemmas.List.{append-nil}
use Rattle.m88_isa.specs.Bus.{bus_after_all}
use Rattle.m88_isa.specs.declared.planned.Access.{Access}
use Rattle.m88_trace.proofs.Joined.{listed_two, none_more, second_more, second_none}
use Rattle.m88_trace.proofs.Writing.{ok_on}
use Rattle.m88_trace.specs.Inside.Sheets.{sheet_accesses, sheet_text}
use Rattle.m88_trace.proofs.sheet.Sheet.open_second.Goals as goal

pub returns-then-accesses-eq1 : goal.returns-then-accesses-eq1
returns-then-accesses-eq1 c =
    let s = c.args.self.now in
    let one = c.if-accesses-eq1.true in
    record {
      text = λ bus. none_more (sheet_text s bus) c.args.accesses.now (bus_after_all (sheet_accesses s) bus) one;
      waiting =
          sym (ap (λ (xs : List Access). sheet_accesses s ++ xs) (second_none c.args.accesses.now one)
          ∙ append-nil (sheet_accesses s));
      made = c.requires.made;
    }

pub returns : goal.returns
returns c = ok_on c.open.result c.open.ensures (λ added.
    let s = c.args.self.now in
    record {
      text = λ bus.
          added.text bus
          ∙ second_more (sheet_text s bus) c.args.accesses.now (bus_after_all (sheet_accesses s) bus)
          (λ e. omega (arith, e)) c.if-accesses-eq1.false;
      waiting =
          added.waiting
          ∙ ap (λ (xs : List Access). sheet_accesses s ++ drop 1 xs)
          (sym (listed_two c.args.accesses.now (λ e. omega (arith, e)) c.if-accesses-eq1.false));
      made = added.made;
    })
