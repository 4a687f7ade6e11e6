-- The labels of the statements so far are counted, at most one a statement.
use Rattle.std.proofs.Common.{◌≡◌, ◌≤◌, take}
use Rattle.std.specs.Prelude.{count_by, is_some}
use Rattle.m88_asm.proofs.objects.label_count.Given as goal

abbrev pub invariant-loop-x : goal.invariant-loop-x
invariant-loop-x l =
    (l.count ≡ count_by (λ x. is_some x.label) (take l.x-index l.statements)) × (l.count ≤ l.x-index)
