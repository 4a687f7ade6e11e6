-- The tokens so far are those of the lexemes so far.
use Rattle.std.proofs.Common.{◌≡◌, map, take}
use Rattle.std.specs.List.{All}
use Rattle.m88_parse.specs.Language.Pieces.{IsTokenOf, plain_token}
use Rattle.m88_parse.proofs.CuttingTokens.{plain_tokens}
use Rattle.m88_parse.proofs.lexemes.cut_tokens.Given as goal

abbrev pub invariant-loop-lexeme : goal.invariant-loop-lexeme
invariant-loop-lexeme l = record {
  cuts : map plain_token l.out.items ≡ plain_tokens l.number l.line (take l.lexeme-index l.lexeme-items);
  slices : All (IsTokenOf l.line) l.out.items;
}
