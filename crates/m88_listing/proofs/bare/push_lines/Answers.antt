-- One line more; it ends at the line that has the number, or where none is left.
use Rattle.std.proofs.Common.{◌≡◌, ◌∙◌, ◌++◌, ap, arith, length, sym}
use Rattle.std.proofs.lemmas.List.{append-nil}
use Rattle.std.proofs.lemmas.Grind.{common_steps}
use Rattle.m88_base.specs.Lines.{lines_of}
use Rattle.m88_listing.proofs.BareLines.{bare_more, bare_none, drop_none}
use Rattle.m88_listing.proofs.Lines.{drop_line}
use Rattle.m88_listing.proofs.bare.push_lines.Goals.{then-loop-column-test+else-number-until-2, else-loop-column-test}
use Rattle.m88_listing.proofs.bare.push_lines.Goals as goal

pub loop-column-init : goal.loop-column-init
loop-column-init c = record {
  text =
      ap (λ b. c.args.text.now.items ++ b) c.new-block.ensures ∙ append-nil c.args.text.now.items
      ∙ bare_none c.args.text.now.items c.args.column.now (lines_of c.args.source.now);
  left = drop_none c.args.column.now (lines_of c.args.source.now);
  forward = omega arith;
  shorter = omega arith;
  within = λ le. le;
}

pub count_on-requires : goal.count_on-requires
count_on-requires c = omega (arith, c.requires, c.in_ok-behind.ensures.shorter, c.loop-column.invariant.shorter)

pub loop-column-preserved : goal.loop-column-preserved
loop-column-preserved c =
    let p = c.in_ok-behind.ensures in
    let first = c.args.column.now in
    let forward = c.loop-column.invariant.forward in
    let next = c.count_on.ensures in
    let lines = lines_of c.args.source.now in
    record {
      text =
          bare_more c.args.text.now.items (c.loop-column.text.items ++ c.loop-column.block) _ p.line first c.loop-column.column _ lines _ forward next
          (sym p.lines ∙ c.loop-column.invariant.left) c.loop-column.invariant.text p.text;
      left = drop_line first c.loop-column.column _ lines _ p.line forward next (sym p.lines ∙ c.loop-column.invariant.left);
      forward = omega (arith, forward, next);
      shorter = omega (arith, next, p.shorter, c.loop-column.invariant.shorter);
      within = λ le. omega (arith, next, c.number-in-loop-column.ensures, c.if-number-until-2.true, c.loop-column.invariant.within le);
    }

pub returns : goal.returns
returns c = record {
  text = c.in_ok-append_to.ensures.text ∙ c.loop-column.invariant.text;
  rest = c.loop-column.invariant.left;
  forward = c.loop-column.invariant.forward;
  shorter = c.loop-column.invariant.shorter;
  within = c.loop-column.invariant.within;
  stops = λ some. elim c.loop-column-test.branch [
    | then-loop-column-test+else-number-until-2 w ↦ sym w.number-in-loop-column.ensures ∙ w.if-number-until-2.false
    | else-loop-column-test w ↦
        let none : length c.loop-column.rest.now ≡ 0 = grind (arith, common_steps) in
        absurd (omega (arith, some, none))
  ];
}
