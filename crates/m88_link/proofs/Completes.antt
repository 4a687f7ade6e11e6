-- What is read so far begins the lines of objects that have a text.
use Rattle.std.proofs.Common.{◌≡◌, ℕ, zero, suc, ◌+◌, ◌<◌, ◌≤◌, ◌^◌, true, List, [], ◌∷◌, ◌++◌, length, replicate, refl, sym, ap, ◌∙◌, subst, arith, append_assoc, length-append}
use Rattle.std.specs.Prelude.{Option, None, Some, IfSome, codes}
use Rattle.std.specs.List.{AllByRecursion}
use Rattle.std.proofs.lemmas.List.{append-nil, length-replicate}
use Rattle.std.proofs.lemmas.List.Concat.{flat_map-append}
use Rattle.m88_base.specs.Name.{IsName}
use Rattle.m88_link.specs.declared.object.Object.{Object}
use Rattle.m88_link.specs.declared.object.Place.{Place}
use Rattle.m88_link.specs.declared.object.Place.TheVariants.{Text, DataSection}
use Rattle.m88_link.specs.declared.object.Section.{Section}
use Rattle.m88_link.specs.declared.row.Row.TheVariants.{Begin, End}
use Rattle.m88_link.specs.Inside.Drafts.{BegunObject, Filled, Progress, may_stand, object_with}
use Rattle.m88_link.specs.ObjectRead.{HasSectionText, HasText, HaveText}
use Rattle.m88_link.proofs.RowTexts.{row_text}
use Rattle.m88_link.proofs.Written.{byte_rows, draft_rows, filled_rows, head_row, object_rows, objects_rows, open_rows, rows_prefix, section_rows, sections_rows, written}
use Rattle.m88_link.proofs.Kept.{AreInOrder, IsFilling, IsKept, IsProgress, all_push, bare, bare_is, bare_rows, order_push, order_whole}
use Rattle.m88_link.proofs.Goes.{all_append, whole_rows}

-- lines that begin those of an object
pub record Completed (rows : List (List ℕ)) : Type 0 where
  pub object : Object
  pub has : HasText object
  pub more : List (List ℕ)
  pub is : object_rows object ≡ rows ++ more

-- what begins lines that begin those of an object
further : (rows more all : List (List ℕ)) → all ≡ rows ++ more → Completed all → Completed rows
further rows more all e c = record {
  object = c.object;
  has = c.has;
  more = more ++ c.more;
  is = c.is ∙ ap (λ l. l ++ c.more) e ∙ append_assoc rows more c.more;
}

-- an object with text and data
whole_completed : (d : BegunObject) → IsKept d → d.filling ≡ None → 2 ≤ length d.sections → Completed (draft_rows d)
whole_completed d kept none two = record {
  object = object_with d;
  has = record { name = kept.name; order = order_whole d.sections two kept.order; sections = kept.sections; symbols = kept.symbols; relocs = kept.relocs };
  more = row_text End ∷ [];
  is = whole_rows d none;
}

module _ (name : List ℕ) (named_so : IsName name) where
  -- one section more
  kept_more : (sections : List Section) (s : Section) → AreInOrder sections → AllByRecursion HasSectionText sections → HasSectionText s
      → may_stand (length sections) s.place ≡ true → IsKept (bare name (sections ++ s ∷ []) None)
  kept_more sections s order texts h next = record {
    name = named_so;
    order = order_push sections s order next;
    sections = all_push HasSectionText sections s texts h;
    filling = tt;
    few = λ k. (refl, refl);
    symbols = tt;
    relocs = tt;
  }

  rows_more : (sections : List Section) (s : Section)
      → draft_rows (bare name (sections ++ s ∷ []) None) ≡ draft_rows (bare name sections None) ++ section_rows s
  rows_more sections s =
      ap (λ l. row_text (Begin name) ∷ l)
      (append-nil (sections_rows (sections ++ s ∷ []))
      ∙ flat_map-append section_rows sections (s ∷ [])
      ∙ ap (λ l. sections_rows sections ++ l) (append-nil (section_rows s))
      ∙ ap (λ l. l ++ section_rows s) (sym (append-nil (sections_rows sections))))

  empty_at : Place → Section
  empty_at p = record { place = p; bytes = []; line = 0 }

  -- an object with sections alone
  two_completed : (sections : List Section) → IsKept (bare name sections None) → 2 ≤ length sections → Completed (draft_rows (bare name sections None))
  two_completed sections kept two = whole_completed (bare name sections None) kept refl two

  one_completed : (t : Section) → IsKept (bare name (t ∷ []) None) → Completed (draft_rows (bare name (t ∷ []) None))
  one_completed t kept =
      let s : Section = record { place = DataSection; bytes = []; line = 0 } in
      let h : HasSectionText s = record { address = omega arith; few = omega arith; line = omega arith; bytes = tt } in
      further _ (section_rows s) _ (rows_more (t ∷ []) s)
      (two_completed (t ∷ s ∷ []) (kept_more (t ∷ []) s kept.order kept.sections h refl) (omega arith))

  none_completed : IsKept (bare name [] None) → Completed (draft_rows (bare name [] None))
  none_completed kept =
      let s : Section = record { place = Text; bytes = []; line = 0 } in
      let h : HasSectionText s = record { address = omega arith; few = omega arith; line = omega arith; bytes = tt } in
      further _ (section_rows s) _ (rows_more [] s) (one_completed s (kept_more [] s kept.order kept.sections h refl))

  bare_completed : (sections : List Section) → IsKept (bare name sections None) → Completed (draft_rows (bare name sections None))
  bare_completed [] kept = none_completed kept
  bare_completed (t ∷ []) kept = one_completed t kept
  bare_completed (t ∷ d ∷ others) kept = two_completed (t ∷ d ∷ others) kept (omega arith)

-- bytes that are missing
zeros_small : (n : ℕ) → AllByRecursion (λ b. b < 2 ^ 8) (replicate n 0)
zeros_small zero = tt
zeros_small (suc n) = (omega arith, zeros_small n)

-- a section whose bytes come, with zeros for those that are missing
filling_completed : (d : BegunObject) (f : Filled) → IsKept d → d.filling ≡ Some f → Completed (draft_rows d)
filling_completed d f kept e =
    let k : IsFilling d f = subst (λ o. IfSome o (IsFilling d)) e kept.filling in
    let zeros : List ℕ = replicate f.missing 0 in
    let size : length (f.bytes ++ zeros) ≡ length f.bytes + f.missing =
    length-append f.bytes zeros ∙ ap (λ n. length f.bytes + n) (length-replicate f.missing 0) in
    let s : Section = record { place = f.place; bytes = f.bytes ++ zeros; line = f.line } in
    let h : HasSectionText s = record {
      address = k.fillable.address;
      few = omega (arith, size, k.fillable.few);
      line = k.fillable.line;
      bytes = all_append (λ b. b < 2 ^ 8) f.bytes zeros k.fillable.bytes (zeros_small f.missing);
    } in
    let p = rows_prefix f.bytes zeros (k.fillable.whole k.some) in
    let rows : section_rows s ≡ filled_rows f ++ p.0 =
    ap (λ n. head_row f.place n f.line ∷ byte_rows (f.bytes ++ zeros)) size
    ∙ ap (λ l. head_row f.place (length f.bytes + f.missing) f.line ∷ l) p.1 in
    let whole : d ≡ bare d.name d.sections (Some f) = bare_is d (Some f) e k.symbols k.relocs in
    let before : draft_rows d ≡ row_text (Begin d.name) ∷ (sections_rows d.sections ++ filled_rows f) =
    ap draft_rows whole ∙ bare_rows d.name d.sections (Some f) in
    let more : draft_rows (bare d.name (d.sections ++ s ∷ []) None) ≡ draft_rows d ++ p.0 =
    rows_more d.name kept.name d.sections s
    ∙ ap (λ l. (row_text (Begin d.name) ∷ l) ++ section_rows s) (append-nil (sections_rows d.sections))
    ∙ ap (λ l. row_text (Begin d.name) ∷ (sections_rows d.sections ++ l)) rows
    ∙ ap (λ l. row_text (Begin d.name) ∷ l) (sym (append_assoc (sections_rows d.sections) (filled_rows f) p.0))
    ∙ ap (λ l. l ++ p.0) (sym before) in
    further (draft_rows d) p.0 _ more
    (bare_completed d.name kept.name (d.sections ++ s ∷ []) (kept_more d.name kept.name d.sections s kept.order kept.sections h k.fillable.next))

-- an object whose end hasn't come
by_sections : (d : BegunObject) → IsKept d → d.filling ≡ None → (n : ℕ) → length d.sections ≡ n → Completed (draft_rows d)
by_sections d kept none zero e = few_completed
  where
    few_completed : Completed (draft_rows d)
    few_completed =
        let k = kept.few (omega (arith, e)) in
        let is : d ≡ bare d.name d.sections None = bare_is d None none k.0 k.1 in
        let P : BegunObject → Type 0 = λ b. Completed (draft_rows b) in
        subst P (sym is) (bare_completed d.name kept.name d.sections (subst IsKept is kept))
by_sections d kept none (suc zero) e = few_completed
  where
    few_completed : Completed (draft_rows d)
    few_completed =
        let k = kept.few (omega (arith, e)) in
        let is : d ≡ bare d.name d.sections None = bare_is d None none k.0 k.1 in
        let P : BegunObject → Type 0 = λ b. Completed (draft_rows b) in
        subst P (sym is) (bare_completed d.name kept.name d.sections (subst IsKept is kept))
by_sections d kept none (suc (suc n)) e = whole_completed d kept none (omega (arith, e))

by_filling : (d : BegunObject) (o : Option Filled) → IsKept d → d.filling ≡ o → Completed (draft_rows d)
by_filling d None kept e = by_sections d kept e (length d.sections) refl
by_filling d (Some f) kept e = filling_completed d f kept e

-- lines that begin those of objects
pub record Continues (rows : List (List ℕ)) : Type 0 where
  pub objects : List Object
  pub have : HaveText objects
  pub more : List (List ℕ)
  pub is : objects_rows objects ≡ rows ++ more

some_name : IsName (codes "a")
some_name = (refl, λ k d h. absurd (omega arith), omega arith)

by_draft : (done : List Object) (o : Option BegunObject) → AllByRecursion HasText done → IfSome o IsKept → Continues (objects_rows done ++ open_rows o)
by_draft [] None h k =
    let kept : IsKept (bare (codes "a") [] None) = record {
      name = some_name;
      order = tt;
      sections = tt;
      filling = tt;
      few = λ k. (refl, refl);
      symbols = tt;
      relocs = tt;
    } in
    let c = bare_completed (codes "a") some_name [] kept in
    record {
      objects = c.object ∷ [];
      have = record { some = omega arith; each = (c.has, tt) };
      more = object_rows c.object;
      is = append-nil (object_rows c.object);
    }
by_draft (x ∷ xs) None h k = record {
  objects = x ∷ xs;
  have = record { some = omega arith; each = h };
  more = [];
  is = sym (append-nil (objects_rows (x ∷ xs))) ∙ sym (append-nil (objects_rows (x ∷ xs) ++ []));
}
by_draft done (Some d) h k =
    let c = by_filling d d.filling k refl in
    record {
      objects = done ++ c.object ∷ [];
      have = record { some = omega (arith, length-append done (c.object ∷ [])); each = all_push HasText done c.object h c.has };
      more = c.more;
      is = flat_map-append object_rows done (c.object ∷ [])
          ∙ ap (λ l. objects_rows done ++ l) (append-nil (object_rows c.object) ∙ c.is)
          ∙ sym (append_assoc (objects_rows done) (draft_rows d) c.more);
    }

pub continues : (s : Progress) → IsProgress s → Continues (written s)
continues s kept = by_draft s.done s.draft kept.done kept.draft
