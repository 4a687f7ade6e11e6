-- The words that changed, page by page.
use Rattle.std.proofs.Common.{◌≡◌, ◌≢◌, ℕ, ◌<◌, ◌≤◌, ◌+◌, ◌*◌, ◌/◌, ◌%◌, ◌++◌, [], ◌∷◌, Bool, List, Option, None, length, refl, arith, ap, sym, ◌∙◌, subst}
use Rattle.m88_base.specs.Image.{ProgramImage}
use Rattle.m88_base.specs.Pages.{page_number}
use Rattle.m88_isa.proofs.Laws.{other_among, same_among, same_word_among}
use Rattle.m88_isa.specs.Bus.{changed_among}
use Rattle.m88_mem.proofs.Seen.{seen_bus}
use Rattle.m88_mem.proofs.Words.{bus_by}
use Rattle.m88_mem.specs.DataBus.{MemoryView, bus_of, image_bus, page_words}
use Rattle.m88_mem.specs.Inside.Frames.{seen_as, table_entries, word_at}
use Rattle.m88_mem.specs.declared.frames.FrameTable.{FrameTable}

-- a word that is the image's adds nothing
pub same_word : (n m addr : ℕ) (old new : ℕ → ℕ) → m ≡ n + 1 → addr ≡ 4 * n → old addr ≡ new addr →
    changed_among n old new ≡ changed_among m old new
same_word n m addr old new next place same =
    sym (ap (λ k. changed_among k old new) (omega (arith, next))
    ∙ same_word_among n old new (ap old (sym place) ∙ same ∙ ap new place))

-- another word is added
pub other_word : (n m addr : ℕ) (old new : ℕ → ℕ) → m ≡ n + 1 → addr ≡ 4 * n → old addr ≢ new addr →
    changed_among n old new ++ ((addr, new addr) ∷ []) ≡ changed_among m old new
other_word n m addr old new next place other =
    sym (ap (λ k. changed_among k old new) (omega (arith, next))
    ∙ other_among n old new (λ same. other (ap old place ∙ same ∙ ap new (sym place)))
    ∙ ap (λ a. changed_among n old new ++ ((a, new a) ∷ [])) (sym place))

-- a page without words of its own has the image's
unready : (words : ℕ → ℕ → Option ℕ) (image : ℕ → ℕ) (page k : ℕ) → ((place : ℕ) → words page place ≡ None) →
    page * page_words ≤ k → k < page * page_words + page_words → image (4 * k) ≡ bus_by words image (4 * k)
unready words image page k none low high =
    let at : page_number (4 * k) ≡ page = omega (arith, low, high) in
    let word : words (page_number (4 * k)) (4 * k / 4 % page_words) ≡ None =
    ap (λ p. words p (4 * k / 4 % page_words)) at ∙ none (4 * k / 4 % page_words) in
    rw word refl

-- so many pages without words of their own add nothing
nothing_in : (words : ℕ → ℕ → Option ℕ) (image : ℕ → ℕ) (first count n o : ℕ) →
    ((page place : ℕ) → first ≤ page → page < first + count → words page place ≡ None) →
    n ≡ first * page_words → o ≡ n + count * page_words →
    changed_among n image (bus_by words image) ≡ changed_among o image (bus_by words image)
nothing_in words image first count n o none from to =
    sym (ap (λ k. changed_among k image (bus_by words image)) to
    ∙ same_among n (count * page_words) image (bus_by words image) (λ k low high.
    unready words image (k / page_words) k
    (λ place. none (k / page_words) place (omega (arith, low, from)) (omega (arith, high, from)))
    (omega arith) (omega arith)))

-- as a memory is seen
pub nothing_seen : (m : MemoryView) (image : ProgramImage) (tables : List (Option FrameTable)) (absent : List Bool) →
    seen_as image tables absent ≡ m → length tables ≡ table_entries → (first count n o : ℕ) →
    ((page place : ℕ) → first ≤ page → page < first + count → word_at tables page place ≡ None) →
    n ≡ first * page_words → o ≡ n + count * page_words →
    changed_among n (image_bus m.image) (bus_of m) ≡ changed_among o (image_bus m.image) (bus_of m)
nothing_seen m image tables absent seen long first count n o none from to =
    subst (λ (v : MemoryView). changed_among n (image_bus v.image) (bus_of v) ≡ changed_among o (image_bus v.image) (bus_of v)) seen
    (rw (seen_bus image tables absent long) (nothing_in (word_at tables) (image_bus image) first count n o none from to))
