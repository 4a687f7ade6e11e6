-- The parts are those of what is seen of the board, and another may go on from them.
use Rattle.std.proofs.Common.{subst, ◌∙◌, ap}
use Rattle.m88_base.specs.Slot.{IsWordSlot}
use Rattle.m88_board.proofs.Beginning.{may_begin, may_pass, parts_are, parts_whole, seen_apart}
use Rattle.m88_board.specs.Parts.{last_of}
use Rattle.m88_board.specs.contracts.board.Board.{the_view}
use Rattle.m88_board.proofs.board.Board.take_apart.Goals as goal

pub returns-clause-parts : goal.returns-clause-parts
returns-clause-parts c = rw (← c.self.view_is)
    (parts_are (the_view c.self.inside) c.values-regs.result c.carry.result c.next_two-pc.result c.last_of.result c.carry.ensures
    c.next_two-pc.ensures.value (c.last_of.ensures ∙ ap last_of c.xip-xip.ensures.value))

pub returns-clause-whole : goal.returns-clause-whole
returns-clause-whole c = λ none.
    let empty = rw (← c.self.view_is) at none in
    rw (← c.self.view_is)
    (parts_whole (the_view c.self.inside) _ c.self.invariant
    (parts_are (the_view c.self.inside) c.values-regs.result c.carry.result c.next_two-pc.result c.last_of.result c.carry.ensures
    c.next_two-pc.ensures.value (c.last_of.ensures ∙ ap last_of c.xip-xip.ensures.value))
    c.values-regs.ensures.whole empty)

pub returns-clause-begins : goal.returns-clause-begins
returns-clause-begins c = rw (← c.self.view_is)
    (may_begin (the_view c.self.inside) _ c.self.invariant
    (parts_are (the_view c.self.inside) c.values-regs.result c.carry.result c.next_two-pc.result c.last_of.result c.carry.ensures
    c.next_two-pc.ensures.value (c.last_of.ensures ∙ ap last_of c.xip-xip.ensures.value))
    c.values-regs.ensures.zero
    (subst IsWordSlot c.xip-xip.ensures.value c.xip-xip.ensures.word) c.next_two-pc.ensures.words.0 c.next_two-pc.ensures.words.1)

pub returns-clause-passes : goal.returns-clause-passes
returns-clause-passes c = λ bubble.
    let passed = rw (← c.self.view_is) at bubble in
    (may_pass (the_view c.self.inside) _ c.self.invariant
    (parts_are (the_view c.self.inside) c.values-regs.result c.carry.result c.next_two-pc.result c.last_of.result c.carry.ensures
    c.next_two-pc.ensures.value (c.last_of.ensures ∙ ap last_of c.xip-xip.ensures.value))
    passed)

pub returns-clause-seen : goal.returns-clause-seen
returns-clause-seen c = rw (← c.self.view_is)
    (seen_apart (the_view c.self.inside) _ c.self.invariant
    (parts_are (the_view c.self.inside) c.values-regs.result c.carry.result c.next_two-pc.result c.last_of.result c.carry.ensures
    c.next_two-pc.ensures.value (c.last_of.ensures ∙ ap last_of c.xip-xip.ensures.value)))
