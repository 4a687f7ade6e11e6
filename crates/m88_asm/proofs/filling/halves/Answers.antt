-- The bytes so far, with those of the numbers to come, are all that there will be.
use Rattle.std.proofs.Common.{sym, ap, ◌∙◌, refl, subst}
use Rattle.std.specs.Int.{to_be_bytes, w16}
use Rattle.m88_link.specs.Sound.{HasRoom}
use Rattle.m88_asm.specs.Inside.Drafts.{with_bytes}
use Rattle.m88_asm.proofs.Rooms.{piece_room, piece_put, pieces_put}
use Rattle.m88_asm.proofs.filling.halves.Goals as goal

pub push_all-requires : goal.push_all-requires
push_all-requires c =
    subst (λ x. HasRoom (with_bytes c.loop-n.section x)) (sym c.to_be_bytes.ensures)
    (piece_room (λ n. to_be_bytes w16 n) c.args.numbers.now c.loop-n.n-index _ 0 c.loop-n.section _ c.loop-n-test.true refl c.loop-n.invariant c.requires)

pub loop-n-preserved : goal.loop-n-preserved
loop-n-preserved c =
    piece_put (λ n. to_be_bytes w16 n) c.args.numbers.now c.loop-n.n-index _ 0 c.loop-n.section c.push_all.new.self _ c.loop-n-test.true refl c.loop-n.invariant
    (c.in_ok-push_all.ensures ∙ ap (with_bytes c.loop-n.section) c.to_be_bytes.ensures)

pub returns : goal.returns
returns c = pieces_put (λ n. to_be_bytes w16 n) c.args.numbers.now c.loop-n.n-index c.loop-n.section _ c.loop-n-test.false c.loop-n.invariant
