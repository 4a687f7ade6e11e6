-- Two digits that write no byte refuse them all, and two that write one leave the rest; at the end none is left over.
use Rattle.std.proofs.Common.{◌∙◌, sym, refl}
use Rattle.m88_link.proofs.Pairs.{last_turn, turn_more, turn_none}
use Rattle.m88_link.proofs.row_text.push_bytes.Goals as goal

pub returns-in_default-byte_of : goal.returns-in_default-byte_of
returns-in_default-byte_of c =
    sym c.loop-rest.invariant ∙ turn_none c.loop-rest.bytes.items c.loop-rest.rest.now c.in-len2-up.len_at_least c.in_default-byte_of.ensures

pub loop-rest-preserved : goal.loop-rest-preserved
loop-rest-preserved c =
    turn_more c.loop-rest.bytes.items _ c.loop-rest.rest.now c.in-Some.byte _ c.in-len2-up.len_at_least c.in-Some.ensures
    c.in_ok-push.ensures.items c.loop-rest.invariant

pub returns : goal.returns
returns c =
    last_turn c.loop-rest.bytes.items c.loop-rest.bytes.items c.loop-rest.rest.now _ c.is_empty.result c.in_default.len_below c.is_empty.ensures refl c.loop-rest.invariant
