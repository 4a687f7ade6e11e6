-- The words at the places so far are full.
use Rattle.std.proofs.Common.{ℕ, ◌≡◌, ◌==◌, ◌||◌, length, take}
use Rattle.std.specs.List.{list_any}
use Rattle.m88_mem.specs.Inside.Marks.{is_full}
use Rattle.m88_mem.proofs.marks.fill_at.Given as goal

abbrev pub invariant-loop-place : goal.invariant-loop-place
invariant-loop-place l =
    (length l.words.items ≡ length l.initial.words.items)
    × ((k : ℕ) → is_full l.words.items k
    ≡ (list_any (λ place. place == k) (take l.place-index l.places) || is_full l.initial.words.items k))
