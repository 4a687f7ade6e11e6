-- The words of the page so far.
use Rattle.std.proofs.Common.{ℕ, ◌≡◌, ◌+◌, ◌*◌}
use Rattle.m88_isa.specs.Bus.{changed_among}
use Rattle.m88_mem.specs.DataBus.{page_words}
use Rattle.m88_pager.specs.Inside.Bytes.{AreWords, in_bytes}
use Rattle.m88_pager.specs.Pages.{page_of}
use Rattle.m88_pager.proofs.changed.append_changed.Given as goal

abbrev pub invariant-loop-place : goal.invariant-loop-place
invariant-loop-place l =
    (old new : ℕ → ℕ) → AreWords old → AreWords new
    → l.before ≡ page_of (in_bytes old) l.page
    → l.after ≡ page_of (in_bytes new) l.page
    → l.initial.changed.items ≡ changed_among (l.page * page_words) old new
    → l.changed.items ≡ changed_among (l.page * page_words + l.place) old new
