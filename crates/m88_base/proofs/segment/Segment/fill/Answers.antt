-- The bytes from the room's first address on are laid, or all of them behind the gap.
use Rattle.std.proofs.Common.{◌≡◌, ◌-◌, ap, sym, arith}
use Rattle.m88_base.specs.Placed.{Placed}
use Rattle.m88_base.proofs.Filled.{filled_in, filled_behind, laid_above}
use Rattle.m88_base.proofs.segment.Segment.fill.Goals as goal

pub returns-then-self-at : goal.returns-then-self-at
returns-then-self-at c =
    let at : c.self.inside.at ≡ c.args.self.now.at = ap (λ (run : Placed). run.at) c.self.view_is in
    rw (c.lay.ensures, c.bytes_from.ensures)
    (sym (filled_in c.args.self.now c.args.at c.args.room.now (omega (arith, at))))

pub returns-then-gap-room : goal.returns-then-gap-room
returns-then-gap-room c =
    let at : c.self.inside.at ≡ c.args.self.now.at = ap (λ (run : Placed). run.at) c.self.view_is in
    let bytes : c.bytes.result.now ≡ c.args.self.now.bytes = c.bytes.ensures.value in
    laid_above c.args.self.now c.args.at (c.self.inside.at - c.args.at) c.args.room.now c.lay-then-gap-room.new.room (omega (arith, at)) (omega arith)
    (rw bytes at c.lay-then-gap-room.ensures)

pub returns-else-gap-room : goal.returns-else-gap-room
returns-else-gap-room c =
    let at : c.self.inside.at ≡ c.args.self.now.at = ap (λ (run : Placed). run.at) c.self.view_is in
    sym (filled_behind c.args.self.now c.args.at c.args.room.now (omega (arith, at)))
