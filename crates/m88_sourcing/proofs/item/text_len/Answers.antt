-- No more bytes are printed than there are.
use Rattle.std.proofs.Common.{arith}
use Rattle.std.proofs.lemmas.List.Sums.{prefix_len-le-length}
use Rattle.m88_sourcing.specs.Data.{is_printed}
use Rattle.m88_sourcing.proofs.item.text_len.Goals as goal

pub split_at-requires : goal.split_at-requires
split_at-requires c =
    let within = prefix_len-le-length is_printed c.args.bytes.now in
    let printed = c.requires in
    omega (arith, within, printed)
