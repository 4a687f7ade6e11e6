-- The words that changed, as the pages of a store have them.
use Rattle.std.specs.Prelude.{ℕ, zero, suc, Bool, false, List, [], ◌∷◌, true, Option, Some, None, ◌≡◌, ◌<◌, ◌≤◌, ◌+◌, ◌-◌, ◌*◌, ◌%◌, IfSome, slice_get}
use Rattle.std.proofs.Common.{arith, refl, sym, ap, subst, ◌∙◌}
use Rattle.std.proofs.lemmas.Bool.Decides.{nat_tests}
use Rattle.std.specs.Borrow.{Bor}
use Rattle.std.specs.BTreeMap.Range.{IsInRange, IsLeBy}
use Rattle.std.specs.BTreeSet.{BTreeSet, IsKeyInRange, IsKeyRangeOf, contains}
use Rattle.std.specs.FinMap.{get}
use Rattle.std.specs.Map.Iter.{TakesFirst, deref}
use Rattle.std.specs.Option.{option_copied}
use Rattle.std.specs.Ordering.{nat_cmp}
use Rattle.std.specs.declared.ops.Bound.TheVariants.{Excluded, Included}
use Rattle.m88_base.specs.Pages.{page_count}
use Rattle.m88_isa.proofs.Laws.{by_test, same_among}
use Rattle.m88_isa.specs.Bus.{changed_among, in_words}
use Rattle.m88_isa.specs.Lanes.{AreBytes}
use Rattle.m88_mem.specs.DataBus.{page_words}
use Rattle.m88_pager.proofs.Coming.{none_there}
use Rattle.m88_pager.proofs.Words.{bytes_back, word_read, words_there}
use Rattle.m88_pager.specs.Inside.Bytes.{AreWords, in_bytes}
use Rattle.m88_pager.specs.Inside.Contents.{StandForMemory, behind, over}
use Rattle.m88_pager.specs.Inside.Seen.{ComesFrom}
use Rattle.m88_pager.specs.Inside.Told.{AreChanged, HasNone, IsNextHeld, StandsAlone}
use Rattle.m88_pager.specs.Pages.{page_of}
use Rattle.m88_pager.specs.Store.{PageMap}

-- pages that are the same have the same words
same_words : (old new : ℕ → ℕ) (page place : ℕ) → AreWords old → AreWords new → place % 4 ≡ 0 → place < 4096 →
    page_of (in_bytes old) page ≡ page_of (in_bytes new) page →
    old (page * 4096 + place) ≡ new (page * 4096 + place)
same_words old new page place olds news at h same =
    sym (word_read old page place (page_of (in_bytes old) page) olds at h refl)
    ∙ word_read new page place (page_of (in_bytes old) page) news at h same

-- so they add none
pub no_word_more : (page : ℕ) (old new : ℕ → ℕ) → AreWords old → AreWords new →
    page_of (in_bytes old) page ≡ page_of (in_bytes new) page →
    changed_among (page * page_words) old new ≡ changed_among ((page + 1) * page_words) old new
no_word_more page old new olds news same =
    sym (ap (λ n. changed_among n old new) (omega arith)
    ∙ same_among (page * page_words) page_words old new (λ k low high.
    let at : page * 4096 + (k * 4 % 4096) ≡ 4 * k = omega (arith, low, high) in
    ap old (sym at) ∙ same_words old new page (k * 4 % 4096) olds news (omega arith) (omega arith) same ∙ ap new at))

-- memory at first by its words
pub first_page : (original : ℕ → ℕ) (page : ℕ) → AreBytes original → page_of original page ≡ page_of (in_bytes (in_words original)) page
first_page original page bytes = ap (λ (memory : ℕ → ℕ). page_of memory page) (sym (bytes_back original bytes))

-- a page that no store holds is that of memory at first
alone_page : (original bus : ℕ → ℕ) (written held : ℕ → Bool) (pages : PageMap) (page : ℕ) →
    StandForMemory (page_of original) (page_of (in_bytes bus)) written held [] pages →
    behind (page_of original) pages page ≡ page_of (in_bytes bus) page
unfolding over
alone_page original bus written held pages page s = ap (λ (g : ℕ → List ℕ). g page) s.same

unheld_page : (original bus : ℕ → ℕ) (written held : ℕ → Bool) (pages : PageMap) (page : ℕ) →
    StandForMemory (page_of original) (page_of (in_bytes bus)) written held [] pages → held page ≡ false →
    page_of original page ≡ page_of (in_bytes bus) page
unfolding behind
unheld_page original bus written held pages page s none =
    sym (none_there (get pages page) (page_of original page) (s.held_are page ∙ none))
    ∙ alone_page original bus written held pages page s

unheld_more : (original : ℕ → ℕ) (held : ℕ → Bool) (told : Option PageMap) (page : ℕ) (words : List (ℕ × ℕ)) → held page ≡ false →
    AreChanged original held told (page * page_words) words →
    AreChanged original held told ((page + 1) * page_words) words
unheld_more original held None page words none so = λ bus written s bytes news. absurd s
unheld_more original held (Some pages) page words none so = λ bus written s bytes news.
    so bus written s bytes news
    ∙ no_word_more page (in_words original) bus (words_there original bytes) news
    (sym (first_page original page bytes) ∙ unheld_page original bus written held pages page s none)

-- nor are any from one number up to another
pub unheld_up : (original : ℕ → ℕ) (held : ℕ → Bool) (told : Option PageMap) (from count : ℕ) (words : List (ℕ × ℕ)) →
    HasNone held from (from + count) →
    AreChanged original held told (from * page_words) words →
    AreChanged original held told ((from + count) * page_words) words
unheld_up original held told from zero words none so =
    subst (λ (n : ℕ). AreChanged original held told (n * page_words) words) (omega arith) so
unheld_up original held told from (suc count) words none so =
    subst (λ (n : ℕ). AreChanged original held told (n * page_words) words) (omega arith)
    (unheld_up original held told (from + 1) count words (λ page low high. none page (omega (arith, low)) (omega (arith, high)))
    (unheld_more original held told from words (none from (omega arith) (omega arith)) so))

pub none_up : (original : ℕ → ℕ) (held : ℕ → Bool) (told : Option PageMap) (from to : ℕ) (words : List (ℕ × ℕ)) → from ≤ to →
    HasNone held from to →
    AreChanged original held told (from * page_words) words →
    AreChanged original held told (to * page_words) words
none_up original held told from to words h none so =
    subst (λ (n : ℕ). AreChanged original held told (n * page_words) words) (omega (arith, h))
    (unheld_up original held told from (to - from) words (λ page low high. none page low (omega (arith, h, high))) so)

-- the first of those that are held from a number on
first_found : (held : BTreeSet ℕ) (from page q : ℕ) (found rest : List ℕ) → found ≡ page ∷ rest →
    IsKeyRangeOf nat_cmp (Included from) (Excluded page_count) held found → from ≤ q → q < page → contains nat_cmp held q ≡ true → ⊥
first_found held from page q found rest is so low high there =
    let first = subst (λ (ks : List ℕ). IfSome (slice_get ks 0) (IsKeyInRange nat_cmp (Included from) (Excluded page_count) held)) is so.1 in
    let below = first.0.1 in
    let inside : IsInRange nat_cmp (Included from) (Excluded page_count) q = (grind (arith, nat_tests, low), grind (arith, nat_tests, high, below)) in
    let least = subst (λ (ks : List ℕ). IfSome (slice_get ks 0) (λ k. IsLeBy nat_cmp k q)) is (so.2 q inside there) in
    grind (arith, nat_tests, least, high)

pub next_found : (held : BTreeSet ℕ) (from : ℕ) (o : Option (Bor ℕ)) (copied : Option ℕ) (found rest : List ℕ) → copied ≡ option_copied o →
    TakesFirst deref found o rest → IsKeyRangeOf nat_cmp (Included from) (Excluded page_count) held found →
    IfSome copied (IsNextHeld (λ q. contains nat_cmp held q) from)
next_found held from None copied found rest is steps so = rw is tt
next_found held from (Some x) copied found rest is steps so =
    let first = subst (λ (ks : List ℕ). IfSome (slice_get ks 0) (IsKeyInRange nat_cmp (Included from) (Excluded page_count) held)) steps so.1 in
    let low = first.0.0 in
    let high = first.0.1 in
    rw is (record {
      number = grind (arith, nat_tests, high);
      behind = grind (arith, nat_tests, low);
      held_is = first.1;
      next = λ q low high. by_test (contains nat_cmp held q) (λ there. absurd (first_found held from x.now q found rest steps so low high there)) (λ none. none);
    })

-- and one that is held is as memory has it now
pub held_page : (original bus : ℕ → ℕ) (written held : ℕ → Bool) (told : Option PageMap) (page : ℕ) (bytes : List ℕ) →
    StandsAlone original bus written held told → ComesFrom (page_of original) held told page bytes →
    bytes ≡ page_of (in_bytes bus) page
held_page original bus written held None page bytes s comes = absurd s
held_page original bus written held (Some pages) page bytes s comes =
    comes s.held_are ∙ alone_page original bus written held pages page s
