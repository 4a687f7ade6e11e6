-- What stood there, and the first of the bytes.
use Rattle.std.proofs.Common.{◌≤◌, arith, length}
use Rattle.m88_listing.proofs.Blocks.{put_behind}
use Rattle.m88_listing.proofs.block.Block.put.Goals as goal

pub returns : goal.returns
returns g c =
    let inside = c.self.inside in
    let fits : inside.len ≤ length inside.bytes = omega arith in
    put_behind inside.bytes c.args.bytes.now c.replace.new.place _ c.args.self.now inside.len c.args.count fits c.self.view_is
    c.replace.ensures c.requires.some
