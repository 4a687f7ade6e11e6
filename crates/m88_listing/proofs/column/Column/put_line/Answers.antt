-- The columns, the line and its end.
use Rattle.std.proofs.Common.{◌≡◌, ◌∙◌, ◌+◌, ◌++◌, [], ap, arith, length, length-append, length-take-le, take, take_all}
use Rattle.std.specs.Prelude.{◌==◌}
use Rattle.std.proofs.lemmas.Bool.{ne_eqb}
use Rattle.m88_listing.specs.Columns.{columns, no_address}
use Rattle.m88_listing.proofs.Lines.{bare_written}
use Rattle.m88_listing.proofs.column.Column.put_line.Goals.{After-put-2}
use Rattle.m88_listing.proofs.column.Column.put_line.Goals as goal

headed : (c : After-put-2) → c.put-2.new.self ≡ c.args.block.now ++ c.self.inside.head
headed c =
    let head = c.self.inside.head in
    let forty : length head ≡ 40 = omega arith in
    c.put-2.ensures ∙ ap (λ xs. c.args.block.now ++ xs) (take_all 40 head (omega (arith, forty)))

wide : (c : After-put-2) → length c.put-2.new.self ≡ length c.args.block.now + 40
wide c =
    let head = c.self.inside.head in
    let forty : length head ≡ 40 = omega arith in
    omega (arith, forty, ap length (headed c), length-append c.args.block.now head)

pub put-requires-3 : goal.put-requires-3
put-requires-3 c =
    (omega arith, (omega (arith, wide (goal.at.put-requires-3 c).After-put-2, c.requires.room), omega (arith, c.requires.some)))

pub put-requires-4 : goal.put-requires-4
put-requires-4 c =
    let line = take c.args.len c.args.bytes.now in
    let long : length line ≡ c.args.len = length-take-le c.args.len c.args.bytes.now (omega (arith, c.requires.some)) in (
      omega arith,
      (
        omega (
          arith,
          wide (goal.at.put-requires-4 c).After-put-2,
          long,
          ap length c.put-3.ensures,
          length-append c.put-2.new.self line,
          c.requires.room,
          c.requires.some,
        ),
        omega arith,
      ),
    )

pub returns : goal.returns
returns c =
    let line = take c.args.len c.args.bytes.now in
    let long : length line ≡ c.args.len = length-take-le c.args.len c.args.bytes.now (omega (arith, c.requires.some)) in
    bare_written c.args.self.now line c.args.block.now c.self.inside.head _ _ _ (ap (λ n. n == 0) long ∙ ne_eqb c.args.len 0 c.if-len-eq0.false)
    (c.self.invariant.2 ∙ ap (λ n. columns n no_address []) c.self.view_is) (headed (goal.at.returns c).After-put-2) c.put-3.ensures
    c.put-4.ensures
