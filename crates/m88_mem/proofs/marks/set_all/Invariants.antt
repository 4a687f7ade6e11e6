-- The pages so far have their bits.
use Rattle.std.proofs.Common.{ℕ, ◌≡◌, ◌==◌, ◌||◌, length, take}
use Rattle.std.specs.List.{list_any}
use Rattle.m88_mem.specs.Inside.Marks.{is_marked, mark_words}
use Rattle.m88_mem.proofs.marks.set_all.Given as goal

abbrev pub invariant-loop-page : goal.invariant-loop-page
invariant-loop-page l =
    (length l.words.items ≡ mark_words)
    × ((p : ℕ) → is_marked l.words.items p
    ≡ (list_any (λ page. page == p) (take l.page-index l.pages) || is_marked l.initial.words.items p))
