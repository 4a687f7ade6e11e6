-- A token more keeps what the loop of `cut_tokens` keeps; behind the last lexeme the tokens are those of the line.
use Rattle.std.proofs.Common.{List, get_or, sym, subst}
use Rattle.std.specs.List.{All}
use Rattle.std.proofs.lemmas.List.Elements.{All-push}
use Rattle.m88_parse.specs.declared.token.Token.{Token}
use Rattle.m88_parse.specs.Language.Pieces.{IsTokenOf}
use Rattle.m88_parse.proofs.CuttingTokens.{token_placed, tokens_more, tokens_done}
use Rattle.m88_parse.proofs.lexemes.cut_tokens.Goals as goal

pub loop-lexeme-preserved : goal.loop-lexeme-preserved
loop-lexeme-preserved c =
    let line = c.args.line.now in
    let items = c.deref-lexeme-items.result.now in
    let out = c.loop-lexeme.out.items in
    let i = c.loop-lexeme.lexeme-index in
    let t = c.token_of.result in
    let placed = token_placed line (get_or items i _) t c.args.number c.token_of.ensures in
    record {
      cuts =
          tokens_more line items out c.push.new.self.items t c.args.number i _ c.loop-lexeme-test.true
          c.in_ok-push.ensures.items c.token_of.ensures c.loop-lexeme.invariant.cuts;
      slices =
          subst (All (IsTokenOf line)) (sym {A = List Token} c.in_ok-push.ensures.items)
          (All-push (IsTokenOf line) out t c.loop-lexeme.invariant.slices placed);
    }

pub returns-clause-cuts : goal.returns-clause-cuts
returns-clause-cuts c =
    tokens_done c.args.number c.args.line.now c.cut_line.new.out.items c.deref-lexeme-items.result.now
    c.loop-lexeme.out.items c.loop-lexeme.lexeme-index c.in_ok-cut_line.ensures.cuts
    c.deref-lexeme-items.ensures.value c.loop-lexeme-test.false c.loop-lexeme.invariant.cuts
