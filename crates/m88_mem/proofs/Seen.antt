-- Frames and bits as they are seen: page by page.
use Rattle.std.proofs.Common.{◌≡◌, ℕ, zero, suc, ◌<◌, ◌≤◌, ◌+◌, ◌*◌, ◌/◌, ◌%◌, ◌^◌, Bool, ◌==◌, ◌||◌, true, false, bit_and, List, Option, Some, None, get_or, is_some, unwrap_or, length, slice_get, slice_index_or, slice_set, if◌then◌else◌, refl, arith, ap, sym, ◌∙◌, inl, inr}
use Rattle.std.specs.Int.{bit_not, w32}
use Rattle.std.proofs.lemmas.List.{length-set}
use Rattle.std.proofs.lemmas.Option.{slice_get-get_or}
use Rattle.std.proofs.Math.ListN.{get_or-eq_default}
use Rattle.std.proofs.Math.Path.{fun_ext}
use Rattle.std.proofs.lemmas.Bool.{cases_eq, cases_lt}
use Rattle.std.proofs.lemmas.Bool.Decides.{nat_tests}
use Rattle.std.proofs.lemmas.Nat.Bits.{bit_at-zero}
use Rattle.m88_base.specs.Image.{ProgramImage}
use Rattle.m88_base.specs.Pages.{page_count, page_number}
use Rattle.m88_mem.proofs.Bits.{marked_without, put_in}
use Rattle.m88_mem.proofs.Words.{bus_by}
use Rattle.m88_mem.specs.DataBus.{MemoryView, bus_of, image_bus, page_words, ready_of, word_in_page}
use Rattle.m88_mem.specs.Inside.Changes.{GoesOver, HasComeTo}
use Rattle.m88_mem.specs.Inside.Frames.{by_page, frame_at, frame_in, seen_as, table_entries, tabulated, with_frame, word_at, word_in, words_in}
use Rattle.m88_mem.specs.Inside.Marks.{is_in, is_marked, mark_words}
use Rattle.m88_mem.specs.Marks.{with_page}
use Rattle.m88_mem.specs.declared.frames.FrameTable.{FrameTable}
use Rattle.m88_mem.specs.declared.frames.PageFrame.{PageFrame}

at_tabulated : {X : Type 0} (n : ℕ) (f : ℕ → X) (d : X) (i : ℕ) → i < n → slice_index_or (tabulated n f) i d ≡ f i
unfolding tabulated
at_tabulated zero f d i h = absurd (omega arith)
at_tabulated (suc n) f d zero h = refl
at_tabulated (suc n) f d (suc i) h = at_tabulated n (λ k. f (suc k)) d i (omega arith)

past_tabulated : {X : Type 0} (n : ℕ) (f : ℕ → X) (d : X) (i : ℕ) → n ≤ i → slice_index_or (tabulated n f) i d ≡ d
unfolding tabulated
past_tabulated zero f d i h = refl
past_tabulated (suc n) f d zero h = absurd (omega arith)
past_tabulated (suc n) f d (suc i) h = past_tabulated n (λ k. f (suc k)) d i (omega arith)

-- the value of a page, where one that is none has the value that stands for it
at_page : {X : Type 0} (f : ℕ → X) (d : X) → ((p : ℕ) → page_count ≤ p → f p ≡ d) → (p : ℕ) → slice_index_or (by_page f) p d ≡ f p
unfolding by_page
at_page f d past p = elim (cases_lt p page_count) [
  | inl below ↦ at_tabulated page_count f d p below
  | inr above ↦ past_tabulated page_count f d p above ∙ sym (past p above)
]

-- a page is at most the last one
no_frame_past : (tables : List (Option FrameTable)) → length tables ≡ table_entries → (p : ℕ) → page_count ≤ p → frame_at tables p ≡ None
unfolding frame_in
no_frame_past tables long p past =
    let none : slice_index_or tables (p / table_entries) None ≡ None = get_or-eq_default tables None (omega (arith, long, past)) in
    rw none refl

no_mark_past : (words : List ℕ) → length words ≡ mark_words → (p : ℕ) → page_count ≤ p → is_marked words p ≡ false
no_mark_past words long p past =
    let none : slice_index_or words (p / 32) 0 ≡ 0 = get_or-eq_default words 0 (omega (arith, long, past)) in
    rw none (ap (λ n. n == 1) (bit_at-zero (p % 32)))

-- the words of a frame
same_word : (frame : Option PageFrame) (place : ℕ) → word_in_page (words_in frame) place ≡ word_in frame place
unfolding word_in
same_word None place = refl
same_word (Some frame) place = refl

pub same_there : (frame : Option PageFrame) → is_some (words_in frame) ≡ is_some frame
same_there None = refl
same_there (Some frame) = refl

seen_page : (tables : List (Option FrameTable)) → length tables ≡ table_entries → (p : ℕ) →
    slice_index_or (by_page (λ page. words_in (frame_at tables page))) p None ≡ words_in (frame_at tables p)
seen_page tables long p =
    at_page (λ page. words_in (frame_at tables page)) None (λ q past. ap words_in (no_frame_past tables long q past)) p

-- the data bus, and the pages that are ready and absent
pub seen_bus : (image : ProgramImage) (tables : List (Option FrameTable)) (absent : List Bool) → length tables ≡ table_entries →
    bus_of (seen_as image tables absent) ≡ bus_by (word_at tables) (image_bus image)
unfolding bus_of
seen_bus image tables absent long = fun_ext (λ a.
    ap (λ page. unwrap_or (word_in_page page (a / 4 % page_words)) (image_bus image a)) (seen_page tables long (page_number a))
    ∙ ap (λ word. unwrap_or word (image_bus image a)) (same_word (frame_at tables (page_number a)) (a / 4 % page_words)))

pub seen_ready : (image : ProgramImage) (tables : List (Option FrameTable)) (absent : List Bool) → length tables ≡ table_entries →
    (p : ℕ) → ready_of (seen_as image tables absent) p ≡ is_some (frame_at tables p)
unfolding ready_of
seen_ready image tables absent long p =
    ap is_some (seen_page tables long p) ∙ same_there (frame_at tables p)

-- the pages of a set by their bits
pub seen_marks : (words : List ℕ) → length words ≡ mark_words → (p : ℕ) → is_in (by_page (is_marked words)) p ≡ is_marked words p
seen_marks words long p = at_page (is_marked words) false (no_mark_past words long) p

-- a set once a page is taken out
pub seen_without : (words : List ℕ) (set : List Bool) (page : ℕ) → length words ≡ mark_words → by_page (is_marked words) ≡ set →
    page < page_count → (p : ℕ) →
    is_in (by_page (is_marked (slice_set words (page / 32) (bit_and (slice_index_or words (page / 32) 0) (bit_not w32 (1 * 2 ^ (page % 32) % 2 ^ 32)))))) p
    ≡ with_page page false (is_in set) p
seen_without words set page long seen within p =
    seen_marks _ (length-set words (page / 32) _ ∙ long) p
    ∙ marked_without words page p (omega (arith, long, within))
    ∙ ap (λ there. if p == page then false else there) (sym (seen_marks words long p) ∙ ap (λ s. is_in s p) seen)

-- a set whose words gain a page
pub seen_with : (words changed : List ℕ) (set : List Bool) (page : ℕ) → length words ≡ mark_words → length changed ≡ mark_words →
    by_page (is_marked words) ≡ set → ((p : ℕ) → is_marked changed p ≡ (page == p || is_marked words p)) →
    (p : ℕ) → is_in (by_page (is_marked changed)) p ≡ with_page page true (is_in set) p
seen_with words changed set page long still seen marked p =
    seen_marks changed still p
    ∙ marked p
    ∙ put_in (is_marked words) page p
    ∙ ap (λ there. if p == page then true else there) (sym (seen_marks words long p) ∙ ap (λ s. is_in s p) seen)

-- a set with a page put in that is in it
pub still_there : (set : ℕ → Bool) (page : ℕ) → set page ≡ true → (p : ℕ) → set p ≡ with_page page true set p
still_there set page there p = elim (cases_eq p page) [
  | inl e ↦ let test : (p == page) ≡ true = grind (arith, nat_tests) in rw test (ap set e ∙ there)
  | inr ne ↦ let test : (p == page) ≡ false = grind (arith, nat_tests) in rw test refl
]

-- the pages that are ready once one has a frame
pub now_ready : (frames : ℕ → Option PageFrame) (page : ℕ) (frame : PageFrame) (set : ℕ → Bool) → ((p : ℕ) → set p ≡ is_some (frames p)) →
    (p : ℕ) → is_some (with_frame page (Some frame) frames p) ≡ with_page page true set p
now_ready frames page frame set before p = elim (cases_eq p page) [
  | inl e ↦ let test : (p == page) ≡ true = grind (arith, nat_tests) in rw test refl
  | inr ne ↦ let test : (p == page) ≡ false = grind (arith, nat_tests) in rw test (sym (before p))
]

-- a word of the data bus, by what the frames have at its place
pub found_word : (m : MemoryView) (image : ProgramImage) (tables : List (Option FrameTable)) (absent : List Bool) →
    seen_as image tables absent ≡ m → length tables ≡ table_entries → (addr place : ℕ) (found : Option ℕ) →
    place ≡ addr / 4 % page_words → found ≡ word_at tables (page_number addr) place →
    unwrap_or found (image_bus image addr) ≡ bus_of m addr
found_word m image tables absent seen long addr place found at is =
    ap (λ o. unwrap_or o (image_bus image addr)) (is ∙ ap (word_at tables (page_number addr)) at)
    ∙ sym (ap (λ read. read addr) (ap bus_of (sym seen) ∙ seen_bus image tables absent long))

-- a word of a page that is ready, as the data bus has it
pub frame_word : (m : MemoryView) (image : ProgramImage) (tables : List (Option FrameTable)) (absent : List Bool) →
    seen_as image tables absent ≡ m → length tables ≡ table_entries → (page place word addr : ℕ) (words : List ℕ) →
    words_in (frame_at tables page) ≡ Some words → slice_get words place ≡ Some word →
    addr ≡ page * 4096 + place * 4 → place < page_words → word ≡ bus_of m addr
frame_word m image tables absent seen long page place word addr words there got is low =
    let bus : bus_of m ≡ bus_by (word_at tables) (image_bus image) = ap bus_of (sym seen) ∙ seen_bus image tables absent long in
    let high : page_number addr ≡ page = omega (arith, is, low) in
    let at : addr / 4 % page_words ≡ place = omega (arith, is, low) in
    let found : word_at tables (page_number addr) (addr / 4 % page_words) ≡ Some word =
    ap (λ p. word_at tables p (addr / 4 % page_words)) high ∙ ap (λ k. word_at tables page k) at
    ∙ sym (same_word (frame_at tables page) place) ∙ ap (λ o. word_in_page o place) there ∙ got in
    sym (ap (λ read. read addr) bus ∙ ap (λ o. unwrap_or o (image_bus image addr)) found)

-- a walk goes over the words of such a page
pub goes_over : (m : MemoryView) (image : ProgramImage) (tables : List (Option FrameTable)) (absent : List Bool) (page : ℕ)
    (words : List ℕ) (changed : List (ℕ × ℕ)) → seen_as image tables absent ≡ m → length tables ≡ table_entries →
    words_in (frame_at tables page) ≡ Some words → length words ≡ page_words → HasComeTo m page changed → GoesOver m page words changed
goes_over m image tables absent page words changed seen entries there long here = record {
  here = here;
  long = long;
  each = λ k few.
      let got : slice_get words k ≡ Some (get_or words k 0) = slice_get-get_or words k 0 (omega (arith, few, long)) in
      got
      ∙ ap (λ word. Some word)
      (frame_word m image tables absent seen entries page k (get_or words k 0) (page * 4096 + k * 4) words there got refl few);
}
