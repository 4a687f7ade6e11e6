-- What was cut are the tokens of the line, and a fault is its first place that can't be cut.
use Rattle.std.proofs.Common.{map}
use Rattle.m88_parse.specs.Language.Pieces.{plain_token}
use Rattle.m88_parse.proofs.Law.TokensCall.{found_tokens, only_tokens, found_flaw, only_flaw}
use Rattle.m88_parse.proofs.Law.FaultKinds.{cut_kinds}
use Rattle.m88_parse.proofs.Law.Tokens.{one_cut}
use Rattle.m88_parse.proofs.lexemes.tokens.Goals as goal

pub returns-clause-found : goal.returns-clause-found
returns-clause-found c = found_tokens (λ v. map plain_token v.items) c.args.number c.args.line.now c.cut_tokens.result c.cut_tokens.ensures.cuts

pub returns-clause-only : goal.returns-clause-only
returns-clause-only c = only_tokens (λ v. map plain_token v.items) c.args.number c.args.line.now c.cut_tokens.result c.cut_tokens.ensures.cuts

pub returns-clause-fault : goal.returns-clause-fault
returns-clause-fault c = found_flaw (λ v. map plain_token v.items) c.args.number c.args.line.now c.cut_tokens.result c.cut_tokens.ensures.cuts

pub returns-clause-refused : goal.returns-clause-refused
returns-clause-refused c = only_flaw (λ v. map plain_token v.items) c.args.number c.args.line.now c.cut_tokens.result c.cut_tokens.ensures.cuts

pub returns-clause-one_cutting : goal.returns-clause-one_cutting
returns-clause-one_cutting c = one_cut c.args.line.now

pub returns-clause-kind : goal.returns-clause-kind
returns-clause-kind c =
    cut_kinds c.args.number c.args.line.now c.cut_tokens.result
    (found_flaw (λ v. map plain_token v.items) c.args.number c.args.line.now c.cut_tokens.result c.cut_tokens.ensures.cuts)
