-- One word more.
use Rattle.m88_mem.proofs.Kept.{one_more_read}
use Rattle.m88_mem.proofs.reads.KeptReads.keep.Goals as goal

pub returns : goal.returns
returns c = λ image is are.
    one_more_read image c.self.inside.reads.items _ c.args.read is (rw c.self.view_is are)
