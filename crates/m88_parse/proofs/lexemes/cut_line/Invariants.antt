-- The tokens so far, with those of the bytes that are left, are the tokens of the line.
use Rattle.std.proofs.Common.{◌≡◌, ◌+◌, ◌-◌, ◌≤◌, drop, length, map}
use Rattle.std.specs.List.{All}
use Rattle.m88_parse.specs.Inside.Places.{IsCutFrom}
use Rattle.m88_parse.specs.Inside.Tokens.{piece_in, pieces_from, pieces_of}
use Rattle.m88_parse.proofs.CuttingTokens.{with_front}
use Rattle.m88_parse.proofs.lexemes.cut_line.Given as goal

abbrev pub invariant-loop-rest : goal.invariant-loop-rest
invariant-loop-rest l = record {
  cuts : with_front (map (piece_in l.line) l.out.items) (pieces_from l.number 0 l.col l.rest) ≡ pieces_of l.number l.line;
  place : l.col + length l.rest ≡ 1 + length l.line;
  places : All (IsCutFrom l.line) l.out.items;
  from_one : 1 ≤ l.col;
  here : l.rest ≡ drop (l.col - 1) l.line;
}

abbrev pub decreases-loop-rest : goal.decreases-loop-rest
decreases-loop-rest l = length l.rest
