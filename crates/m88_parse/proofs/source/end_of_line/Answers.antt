-- A line ends behind its last token.
use Rattle.std.proofs.Common.{◌≡◌, ◌+◌, ◌-◌, length, arith}
use Rattle.m88_parse.proofs.LineEnd.{by_last}
use Rattle.m88_parse.proofs.source.end_of_line.Goals as goal

pub returns : goal.returns
returns c =
    let e : length c.args.lexemes.now - 1 + 1 ≡ length c.args.lexemes.now = omega arith in
    by_last c.args.line.now c.args.lexemes.now (length c.args.lexemes.now - 1) _ e (c.requires.places _ _ (omega arith))
