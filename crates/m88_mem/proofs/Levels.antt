-- The table of two levels, by the numbers of pages.
use Rattle.std.proofs.Common.{[], ◌∷◌, ◌≡◌, ◌≢◌, ℕ, zero, suc, ◌<◌, ◌/◌, ◌%◌, ◌^◌, ◌==◌, Bool, true, false, List, Option, Some, None, is_some, unwrap_or, slice_get, ◌&&◌, length, replicate, slice_index_or, slice_set, if◌then◌else◌, ◌⊎◌, refl, arith, ap, sym, ◌∙◌, inl, inr}
use Rattle.std.proofs.lemmas.Bool.{cases_eq, false≢true}
use Rattle.std.proofs.lemmas.Bool.Decides.{nat_tests}
use Rattle.std.proofs.lemmas.List.{get_or-set_same, get_or-set_other, length-set, length-replicate}
use Rattle.std.specs.Prelude.{IfSome}
use Rattle.m88_mem.specs.DataBus.{page_words}
use Rattle.m88_mem.specs.Inside.Frames.{AreFrames, frame_at, frame_in, has_table, table_entries, with_frame, word_at, word_in}
use Rattle.m88_mem.specs.declared.frames.PageFrame.{PageFrame}
use Rattle.m88_mem.specs.declared.frames.FrameTable.{FrameTable}

-- each entry of a table whose entries are all the same
same_entry : {X : Type 0} (n i : ℕ) (x : X) → slice_index_or (replicate n x) i x ≡ x
same_entry zero i x = refl
same_entry (suc n) zero x = refl
same_entry (suc n) (suc i) x = same_entry n i x

-- a table without frames has none
pub no_frames : (table : FrameTable) (n low : ℕ) → table.frames.items ≡ replicate n None → slice_index_or table.frames.items low None ≡ None
no_frames table n low e = ap (λ entries. slice_index_or entries low None) e ∙ same_entry n low None

-- what two somes have in common
pub same_some : {X : Type 0} (a b : X) → Some a ≡ Some b → a ≡ b
same_some a b e = ap (λ o. unwrap_or o a) e

-- the frames once a table is put in a place, whose entries are those of the table before it, but for one
pub frames_set : (tables : List (Option FrameTable)) (page : ℕ) (table : Option FrameTable) (later : FrameTable) (frame : Option PageFrame) →
    length tables ≡ table_entries → page < 2 ^ 20 →
    slice_index_or tables (page / table_entries) None ≡ table →
    ((low : ℕ) → slice_index_or later.frames.items low None ≡ (if low == page % table_entries then frame else frame_in table low)) →
    (p : ℕ) → frame_at (slice_set tables (page / table_entries) (Some later)) p ≡ with_frame page frame (frame_at tables) p
unfolding frame_in
frames_set tables page table later frame long within was entries p = elim (cases_eq (p / table_entries) (page / table_entries)) [
  | inl e ↦
      let here : slice_index_or (slice_set tables (page / table_entries) (Some later)) (p / table_entries) None ≡ Some later =
      ap (λ i. slice_index_or (slice_set tables (page / table_entries) (Some later)) i None) e
      ∙ get_or-set_same tables (page / table_entries) (Some later) None (omega (arith, long, within)) in
      let before : slice_index_or tables (p / table_entries) None ≡ table =
      ap (λ i. slice_index_or tables i None) e ∙ was in
      rw (here, before) (entries (p % table_entries) ∙ same (cases_eq p page) e)
  | inr ne ↦
      let there : slice_index_or (slice_set tables (page / table_entries) (Some later)) (p / table_entries) None
      ≡ slice_index_or tables (p / table_entries) None =
      get_or-set_other tables (page / table_entries) (p / table_entries) (Some later) None ne in
      let other : (p == page) ≡ false = grind (arith, nat_tests) in
      rw (there, other) refl
]
  where
    same : (p ≡ page) ⊎ (p ≢ page) → p / table_entries ≡ page / table_entries →
        (if p % table_entries == page % table_entries then frame else frame_in table (p % table_entries))
        ≡ (if p == page then frame else frame_in table (p % table_entries))
    same (inl e) up =
        let test : (p == page) ≡ true = grind (arith, nat_tests) in
        let low : (p % table_entries == page % table_entries) ≡ true = grind (arith, nat_tests) in
        rw (test, low) refl
    same (inr ne) up =
        let apart : p % table_entries ≢ page % table_entries = λ low. ne (omega (arith, up, low)) in
        let test : (p == page) ≡ false = grind (arith, nat_tests) in
        let low : (p % table_entries == page % table_entries) ≡ false = grind (arith, nat_tests) in
        rw (test, low) refl

-- a place that is set twice has what was set last
pub set_twice : {X : Type 0} (xs : List X) (i : ℕ) (a b : X) → slice_set (slice_set xs i a) i b ≡ slice_set xs i b
set_twice [] i a b = refl
set_twice (x ∷ xs) zero a b = refl
set_twice (x ∷ xs) (suc i) a b = ap (λ ys. x ∷ ys) (set_twice xs i a b)

-- the entries of a table once one is set
pub entries_set : (entries : List (Option PageFrame)) (low : ℕ) (frame : Option PageFrame) → low < length entries →
    (k : ℕ) → slice_index_or (slice_set entries low frame) k None ≡ (if k == low then frame else slice_index_or entries k None)
entries_set entries low frame within k = elim (cases_eq k low) [
  | inl e ↦
      let test : (k == low) ≡ true = grind (arith, nat_tests) in
      rw test (ap (λ i. slice_index_or (slice_set entries low frame) i None) e ∙ get_or-set_same entries low frame None within)
  | inr ne ↦
      let test : (k == low) ≡ false = grind (arith, nat_tests) in
      rw test (get_or-set_other entries low k frame None ne)
]

-- what holds of the frames holds once such a table is put in its place
pub frames_kept : (tables : List (Option FrameTable)) (page : ℕ) (table : Option FrameTable) (later : FrameTable) (frame : Option PageFrame) →
    AreFrames tables → page < 2 ^ 20 →
    slice_index_or tables (page / table_entries) None ≡ table →
    length later.frames.items ≡ table_entries →
    ((low : ℕ) → slice_index_or later.frames.items low None ≡ (if low == page % table_entries then frame else frame_in table low)) →
    ((f : PageFrame) → frame ≡ Some f → length f.words.items ≡ page_words) →
    AreFrames (slice_set tables (page / table_entries) (Some later))
frames_kept tables page table later frame h within was long entries words = record {
  entries = length-set tables (page / table_entries) (Some later) ∙ h.entries;
  long = λ high t is. elim (cases_eq high (page / table_entries)) [
    | inl e ↦
        let here : Some later ≡ Some t =
        sym (get_or-set_same tables (page / table_entries) (Some later) None (omega (arith, h.entries, within)))
        ∙ ap (λ i. slice_index_or (slice_set tables (page / table_entries) (Some later)) i None) (sym e)
        ∙ is in
        ap (λ (x : FrameTable). length x.frames.items) (sym (same_some later t here)) ∙ long
    | inr ne ↦
        h.long high t (sym (get_or-set_other tables (page / table_entries) high (Some later) None ne) ∙ is)
  ];
  words = λ p f is.
      let now : with_frame page frame (frame_at tables) p ≡ Some f =
      sym (frames_set tables page table later frame h.entries within was entries p) ∙ is in
      elim (cases_eq p page) [
        | inl e ↦
            let test : (p == page) ≡ true = grind (arith, nat_tests) in
            words f (sym (ap (λ b. if b then frame else frame_at tables p) test) ∙ now)
        | inr ne ↦
            let test : (p == page) ≡ false = grind (arith, nat_tests) in
            h.words p f (sym (ap (λ b. if b then frame else frame_at tables p) test) ∙ now)
      ];
}

-- an entry that is there is the same whatever stands for one that isn't
pub at_any : {X : Type 0} (xs : List X) (i : ℕ) (d e : X) → i < length xs → slice_index_or xs i d ≡ slice_index_or xs i e
at_any [] i d e h = absurd (omega arith)
at_any (x ∷ xs) zero d e h = refl
at_any (x ∷ xs) (suc i) d e h = at_any xs i d e (omega arith)

-- a word of a page once it changes
pub word_set : (before now : List (Option FrameTable)) (page place word : ℕ) (frame later : PageFrame) →
    frame_at before page ≡ Some frame → later.words.items ≡ slice_set frame.words.items place word →
    place < length frame.words.items →
    ((p : ℕ) → frame_at now p ≡ (if p == page then Some later else frame_at before p)) →
    (p k : ℕ) → word_at now p k ≡ (if p == page && k == place then Some word else word_at before p k)
unfolding word_in
word_set before now page place word frame later was changed within frames p k = elim (cases_eq p page) [
  | inl e ↦
      let test : (p == page) ≡ true = grind (arith, nat_tests) in
      let here : frame_at now p ≡ Some later = frames p ∙ rw test refl in
      let earlier : frame_at before p ≡ Some frame = ap (frame_at before) e ∙ was in
      rw (here, earlier, test, changed) (get_set frame.words.items place k word within)
  | inr ne ↦
      let test : (p == page) ≡ false = grind (arith, nat_tests) in
      let there : frame_at now p ≡ frame_at before p = frames p ∙ rw test refl in
      rw (there, test) refl
]
  where
    at_other : (xs : List ℕ) (i j x : ℕ) → j ≢ i → slice_get (slice_set xs i x) j ≡ slice_get xs j
    at_other [] i j x ne = refl
    at_other (y ∷ xs) zero zero x ne = absurd (ne refl)
    at_other (y ∷ xs) zero (suc j) x ne = refl
    at_other (y ∷ xs) (suc i) zero x ne = refl
    at_other (y ∷ xs) (suc i) (suc j) x ne = at_other xs i j x (λ e. ne (ap suc e))

    at_same : (xs : List ℕ) (i x : ℕ) → i < length xs → slice_get (slice_set xs i x) i ≡ Some x
    at_same [] i x h = absurd (omega arith)
    at_same (y ∷ xs) zero x h = refl
    at_same (y ∷ xs) (suc i) x h = at_same xs i x (omega arith)

    get_set : (xs : List ℕ) (i j x : ℕ) → i < length xs →
        slice_get (slice_set xs i x) j ≡ (if j == i then Some x else slice_get xs j)
    get_set xs i j x h = elim (cases_eq j i) [
      | inl e ↦
          let test : (j == i) ≡ true = grind (arith, nat_tests) in
          rw test (ap (slice_get (slice_set xs i x)) e ∙ at_same xs i x h)
      | inr ne ↦
          let test : (j == i) ≡ false = grind (arith, nat_tests) in
          rw test (at_other xs i j x ne)
    ]

-- a frame that is there stands in a table
pub record InTable (tables : List (Option FrameTable)) (page : ℕ) : Type 0 where
  pub table : FrameTable
  pub frame : PageFrame
  pub is : slice_index_or tables (page / table_entries) None ≡ Some table
  pub there : frame_at tables page ≡ Some frame

some_is : {X : Type 0} (o : Option X) → is_some o ≡ true → (x : X) × (o ≡ Some x)
some_is None e = absurd (false≢true e)
some_is (Some x) e = (x, refl)

some_above : (o : Option FrameTable) (low : ℕ) → is_some (frame_in o low) ≡ true → is_some o ≡ true
unfolding frame_in
some_above None low e = e
some_above (Some table) low e = refl

pub in_table : (tables : List (Option FrameTable)) (page : ℕ) → is_some (frame_at tables page) ≡ true → InTable tables page
in_table tables page ready =
    let above = some_is (slice_index_or tables (page / table_entries) None)
    (some_above (slice_index_or tables (page / table_entries) None) (page % table_entries) ready) in
    let frame = some_is (frame_at tables page) ready in
    record { table = above.0; frame = frame.0; is = above.1; there = frame.1 }

-- a frame that isn't there is none
pub none_some : (f : PageFrame) → None ≡ Some f → ⊥
none_some f e = false≢true (ap is_some e)

-- what holds of all that an option may have holds of it
pub if_some : {X : Type 0} (o : Option X) (P : X → Type 0) → ((x : X) → o ≡ Some x → P x) → IfSome o P
if_some None P all = tt
if_some (Some x) P all = all x refl

-- a page is as ready as before once its frame is another
pub ready_kept : (before now : List (Option FrameTable)) (page : ℕ) (frame later : PageFrame) →
    frame_at before page ≡ Some frame → ((p : ℕ) → frame_at now p ≡ with_frame page (Some later) (frame_at before) p) →
    (p : ℕ) → is_some (frame_at now p) ≡ is_some (frame_at before p)
ready_kept before now page frame later was frames p = elim (cases_eq p page) [
  | inl e ↦
      let test : (p == page) ≡ true = grind (arith, nat_tests) in
      let here : frame_at now p ≡ Some later = frames p ∙ rw test refl in
      ap is_some here ∙ sym (ap is_some (ap (frame_at before) e ∙ was))
  | inr ne ↦
      let test : (p == page) ≡ false = grind (arith, nat_tests) in
      ap is_some (frames p ∙ rw test refl)
]

-- a place without a table
pub not_some : {X : Type 0} (o : Option X) → is_some o ≡ false → o ≡ None
not_some None e = refl
not_some (Some x) e = absurd (false≢true (sym e))

blank : (o : Option PageFrame) (b : Bool) → o ≡ (if b then o else o)
blank o true = refl
blank o false = refl

-- entries that are all empty
pub no_entries : (table : FrameTable) (n place : ℕ) → table.frames.items ≡ replicate n None →
    (low : ℕ) → slice_index_or table.frames.items low None ≡ (if low == place then None else None)
no_entries table n place is low = no_frames table n low is ∙ blank None (low == place)

-- a page without a frame stays so
pub still_none : (frames : ℕ → Option PageFrame) (page : ℕ) → frames page ≡ None → (p : ℕ) → with_frame page None frames p ≡ frames p
still_none frames page none p = elim (cases_eq p page) [
  | inl e ↦
      let test : (p == page) ≡ true = grind (arith, nat_tests) in
      rw test (sym none ∙ ap frames (sym e))
  | inr ne ↦
      let test : (p == page) ≡ false = grind (arith, nat_tests) in
      rw test refl
]

-- how many entries such a table has
pub long_blank : (n : ℕ) (o : Option PageFrame) → length (replicate n o) ≡ n
long_blank n o = length-replicate n o

-- a frame that is put over frames that are the same as before
pub over_same : (before between now : List (Option FrameTable)) (page : ℕ) (frame : PageFrame) →
    ((p : ℕ) → frame_at between p ≡ frame_at before p) →
    ((p : ℕ) → frame_at now p ≡ with_frame page (Some frame) (frame_at between) p) →
    (p : ℕ) → frame_at now p ≡ with_frame page (Some frame) (frame_at before) p
over_same before between now page frame same frames p =
    frames p ∙ ap (λ other. if p == page then Some frame else other) (same p)

-- a page without a frame has no words
pub no_word_unready : (tables : List (Option FrameTable)) (page p place : ℕ) → is_some (frame_at tables page) ≡ false → p ≡ page →
    word_at tables p place ≡ None
unfolding word_in
no_word_unready tables page p place unready same =
    let none : frame_at tables p ≡ None = ap (frame_at tables) same ∙ not_some (frame_at tables page) unready in
    rw none refl

-- nor has one without a table
pub no_word_without_table : (tables : List (Option FrameTable)) (page p place : ℕ) → has_table tables page ≡ false →
    p / table_entries ≡ page / table_entries → word_at tables p place ≡ None
unfolding frame_in word_in has_table
no_word_without_table tables page p place lacks same =
    let none : slice_index_or tables (p / table_entries) None ≡ None =
    ap (λ high. slice_index_or tables high None) same ∙ not_some (slice_index_or tables (page / table_entries) None) lacks in
    rw none refl
