-- One instruction more.
use Rattle.m88_mem.proofs.Kept.{one_more_kept}
use Rattle.m88_mem.proofs.lines.KeptLines.keep.Goals as goal

pub returns : goal.returns
returns c = λ image is are.
    one_more_kept image c.self.inside.lines.items _ c.args.line is (rw c.self.view_is are)
