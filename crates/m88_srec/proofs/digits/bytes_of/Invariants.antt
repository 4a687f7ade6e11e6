-- The bytes so far and those of the digits that are left are the bytes of all digits, and the total is that of the
-- bytes so far.
use Rattle.std.proofs.Common.{◌≡◌, ℕ, ◌+◌, ◌*◌, ◌≤◌, List, ◌++◌, length, take}
use Rattle.std.specs.Prelude.{sum}
use Rattle.m88_srec.specs.Records.{are_more_pairs, bytes_in}
use Rattle.m88_srec.proofs.digits.bytes_of.Given as goal

pub record Copied (all rest bytes : List ℕ) (count total : ℕ) : Type 0 where
  pub joined : bytes ++ bytes_in rest ≡ bytes_in all
  pub pairs : are_more_pairs rest ≡ are_more_pairs all
  pub added : total ≡ sum bytes
  pub small : total ≤ 255 * count
  pub room : 2 * count + length rest ≡ length all

abbrev pub invariant-loop-rest : goal.invariant-loop-rest
invariant-loop-rest l = Copied l.digits l.rest (take l.count l.room) l.count l.total

abbrev pub decreases-loop-rest : goal.decreases-loop-rest
decreases-loop-rest l = length l.rest
