-- The reasons of faults of an S-record text, in the words of a refused line (formats: the line that refuses an input).
use Rattle.std.specs.Prelude.{ℕ, List, ◌++◌, codes, decimal}
use Rattle.m88_base.specs.Hex.{hex2, hex8}
use Rattle.m88_srec.specs.declared.fault.SrecKind.{SrecKind}
use Rattle.m88_srec.specs.declared.fault.SrecKind.TheVariants as kind

-- the reason of a fault
unfoldable pub srec_reason : SrecKind → List ℕ
srec_reason kind.AfterEnd = codes "after end"
srec_reason kind.Form = codes "form"
srec_reason (kind.Count written found) = codes "count written " ++ decimal written ++ codes " found " ++ decimal found
srec_reason (kind.Sum written computed) = codes "sum written " ++ hex2 written ++ codes " computed " ++ hex2 computed
srec_reason (kind.CountRecord written found) =
    codes "count record written " ++ decimal written ++ codes " found " ++ decimal found
srec_reason kind.TooLarge = codes "too large"
srec_reason (kind.Overlap at) = codes "overlap " ++ hex8 at
srec_reason kind.NoEnd = codes "no end"
srec_reason kind.Memory = codes "out of memory"
