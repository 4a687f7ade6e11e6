-- No word is kept at first.
use Rattle.std.proofs.Common.{None, inl, inr, ◌≡◌}
use Rattle.std.specs.Prelude.{Some}
use Rattle.m88_mem.proofs.Kept.{all_at}
use Rattle.m88_mem.proofs.reads.KeptReads.new.Goals as goal

pub returns : goal.returns
returns c = λ image k read found.
    elim (all_at _ c.in_ok-reads.reads.items k (Some read) c.in_ok-reads.ensures.items found) [
      | inl same ↦ absurd (let none : Some read ≡ None = same in cc)
      | inr never ↦ absurd never
    ]
