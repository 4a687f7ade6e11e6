-- The cut is at the first byte of the value.
use Rattle.std.proofs.lemmas.List.{take_rest}
use Rattle.m88_base.proofs.Splitting.{cut_found, cut_none, cut_some, uncut, within}
use Rattle.m88_base.proofs.cut.split_at_byte.Goals as goal

pub split_at-requires : goal.split_at-requires
split_at-requires c = within c.args.at c.len_before.result c.args.text.now c.len_before.ensures

pub returns-in-empty-clause-value : goal.returns-in-empty-clause-value
returns-in-empty-clause-value c =
    cut_none c.args.at c.len_before.result c.args.text.now c.len_before.ensures _ c.split_at.ensures.back c.in-empty.len_below

pub returns-in-empty-clause-none : goal.returns-in-empty-clause-none
returns-in-empty-clause-none c =
    uncut c.args.at c.args.text.now
    (cut_none c.args.at c.len_before.result c.args.text.now c.len_before.ensures _ c.split_at.ensures.back c.in-empty.len_below)

pub returns-in-len1-up-clause-value : goal.returns-in-len1-up-clause-value
returns-in-len1-up-clause-value c =
    rw take_rest
    (cut_some c.args.at c.len_before.result c.args.text.now c.len_before.ensures _ _ c.split_at.ensures.front c.split_at.ensures.back c.in-len1-up.len_at_least)

pub returns-in-len1-up-clause-found : goal.returns-in-len1-up-clause-found
returns-in-len1-up-clause-found c =
    rw take_rest (cut_found c.args.at c.args.text.now _
    (cut_some c.args.at c.len_before.result c.args.text.now c.len_before.ensures _ _ c.split_at.ensures.front c.split_at.ensures.back c.in-len1-up.len_at_least)).text_is

pub returns-in-len1-up-clause-before : goal.returns-in-len1-up-clause-before
returns-in-len1-up-clause-before c =
    (cut_found c.args.at c.args.text.now _
    (cut_some c.args.at c.len_before.result c.args.text.now c.len_before.ensures _ _ c.split_at.ensures.front c.split_at.ensures.back c.in-len1-up.len_at_least)).lacking
