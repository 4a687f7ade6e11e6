-- A board that goes on from parts: what always holds of it, and what is seen of it.
use Rattle.std.proofs.Common.{arith, subst, ◌≡◌}
use Rattle.m88_base.proofs.Laws.{few_parts}
use Rattle.m88_base.specs.Image.{IsImage}
use Rattle.m88_board.proofs.Beginning.{begins, kept_begun, seen_begun}
use Rattle.m88_board.specs.Board.{BoardView, local_of}
use Rattle.m88_board.specs.Kept.{IsKept}
use Rattle.m88_board.specs.Parts.{seen_at}
use Rattle.m88_board.proofs.board.Board.resume.Goals as goal

pub invariant_of-result : goal.invariant_of-result
invariant_of-result c =
    begins IsKept c.args.parts c.args.limit c.args.mxm c.args.bubble c.of-regs.result c.pointers_of-iunit.result c.new.result
    c.set_carry.new.self c.new-ctrl.result c.into_book-memory.result c.pointers_of-iunit.ensures c.new.ensures
    c.set_carry.ensures.state c.new-ctrl.ensures c.into_book-memory.ensures
    (kept_begun c.args.parts c.args.limit c.args.mxm c.args.bubble c.of-regs.result c.requires.begins c.requires.passes
    (subst IsImage c.image-image.ensures c.part_count.ensures.image) c.of-regs.ensures.waiting)

pub returns-clause-seen : goal.returns-clause-seen
returns-clause-seen c =
    begins (λ (b : BoardView). local_of b ≡ seen_at c.args.mxm c.args.bubble c.args.parts) c.args.parts c.args.limit c.args.mxm
    c.args.bubble c.of-regs.result c.pointers_of-iunit.result c.new.result c.set_carry.new.self c.new-ctrl.result
    c.into_book-memory.result c.pointers_of-iunit.ensures c.new.ensures c.set_carry.ensures.state c.new-ctrl.ensures
    c.into_book-memory.ensures
    (seen_begun c.args.parts c.args.limit c.args.mxm c.args.bubble c.of-regs.result c.requires.passes c.of-regs.ensures.numbers)

-- each part of an image has a byte
pub prove-unreachable-requires : goal.prove-unreachable-requires
prove-unreachable-requires c =
    let few = few_parts _ c.part_count.ensures.image in
    absurd (omega (arith, few, c.if-prove.true, c.part_count.ensures.value, c.len.ensures.value))
