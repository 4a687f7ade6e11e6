-- The line ends with the first LF or with the input.
use Rattle.std.proofs.lemmas.List.{take_rest}
use Rattle.std.proofs.lemmas.List.Sums.{prefix_len-le-length}
use Rattle.m88_base.proofs.Lines.{is_inner, line_ends, none_behind, source_ends, stands_behind}
use Rattle.m88_base.proofs.line.first_line.Goals as goal

pub split_at-requires : goal.split_at-requires
split_at-requires c = rw c.len_before.ensures (prefix_len-le-length is_inner c.args.rest.now)

pub returns-in-empty-clause-lines : goal.returns-in-empty-clause-lines
returns-in-empty-clause-lines c =
    source_ends c.args.rest.now c.split_at.result.0.now c.split_at.result.1.now c.len_before.result c.len_before.ensures c.split_at.ensures.front c.split_at.ensures.back c.requires c.in-empty.len_below

pub returns-in-empty-clause-behind : goal.returns-in-empty-clause-behind
returns-in-empty-clause-behind c =
    none_behind c.args.rest.now c.split_at.result.1.now c.len_before.result c.len_before.ensures c.split_at.ensures.back c.in-empty.len_below

pub returns-in-len1-up-clause-lines : goal.returns-in-len1-up-clause-lines
returns-in-len1-up-clause-lines c =
    rw (take_rest, c.without_cr.ensures.value) (line_ends c.args.rest.now c.split_at.result.0.now c.split_at.result.1.now c.len_before.result c.len_before.ensures c.split_at.ensures.front c.split_at.ensures.back c.in-len1-up.len_at_least)

pub returns-in-len1-up-clause-behind : goal.returns-in-len1-up-clause-behind
returns-in-len1-up-clause-behind c =
    rw take_rest (stands_behind c.args.rest.now c.split_at.result.1.now c.len_before.result c.len_before.ensures c.split_at.ensures.back)
