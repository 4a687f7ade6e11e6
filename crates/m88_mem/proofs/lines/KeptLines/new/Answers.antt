-- No instruction is kept at first.
use Rattle.std.proofs.Common.{None, inl, inr, ◌≡◌}
use Rattle.std.specs.Prelude.{Some}
use Rattle.m88_mem.proofs.Kept.{all_at}
use Rattle.m88_mem.proofs.lines.KeptLines.new.Goals as goal

pub returns : goal.returns
returns c = λ image k line found.
    elim (all_at _ c.in_ok-lines.lines.items k (Some line) c.in_ok-lines.ensures.items found) [
      | inl same ↦ absurd (let none : Some line ≡ None = same in cc)
      | inr never ↦ absurd never
    ]
