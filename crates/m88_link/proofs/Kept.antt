-- What is read so far keeps to, and what each line that is taken adds to it: one line, that line.
use Rattle.std.proofs.Common.{◌≡◌, ℕ, ◌+◌, ◌%◌, ◌^◌, ◌<◌, ◌≤◌, Bool, true, false, List, [], ◌∷◌, ◌++◌, length, refl, sym, ap, ◌∙◌, subst, arith}
use Rattle.std.specs.Prelude.{Option, None, Some, ◌==◌, ◌&&◌, IfSome, if◌then◌else◌}
use Rattle.std.specs.List.{AllByRecursion}
use Rattle.std.specs.Option.{is_none}
use Rattle.std.proofs.lemmas.Bool.Decides.{nat_tests}
use Rattle.std.proofs.lemmas.Bool.{and_parts, eqb-true}
use Rattle.std.proofs.lemmas.List.{append-nil, nil_from_length}
use Rattle.std.proofs.lemmas.List.Concat.{flat_map-append}
use Rattle.std.proofs.lemmas.List.Elements.{All-from_recursion}
use Rattle.m88_base.specs.Name.{IsName}
use Rattle.m88_link.specs.declared.object.Place.{Place}
use Rattle.m88_link.specs.declared.object.Place.TheVariants.{Text, DataSection, At}
use Rattle.m88_link.specs.declared.object.Reloc.{Reloc}
use Rattle.m88_link.specs.declared.object.Section.{Section}
use Rattle.m88_link.specs.declared.object.Symbol.{Symbol}
use Rattle.m88_link.specs.declared.row.Row.TheVariants.{Begin, Head}
use Rattle.m88_link.specs.declared.row.SectionHead.{SectionHead}
use Rattle.m88_link.specs.Inside.Drafts.{BegunObject, Filled, Progress, head_step, headed, is_nil, may_stand, section_with, with_section_settled, takes_head}
use Rattle.m88_link.specs.ObjectRead.{HasRelocText, HasSectionText, HasSymbolText, HasText}
use Rattle.m88_link.specs.Sound.{AreSections, IsOwnAddress, origin}
use Rattle.m88_link.proofs.RowTexts.{IsHead, row_text}
use Rattle.m88_link.proofs.Written.{byte_rows, draft_rows, filled_rows, filling_rows, head_row, no_rows, section_rows, sections_rows}

-- sections that begin as those of an object do
abbrev pub AreInOrder : List Section → Type 0
AreInOrder [] = Unit {0}
AreInOrder (t ∷ []) = t.place ≡ Text
AreInOrder (t ∷ d ∷ others) = (t.place ≡ Text) × (d.place ≡ DataSection) × AllByRecursion (λ s. IsOwnAddress s.place) others

-- a section behind n others whose bytes come, or have come
pub record IsFillable (f : Filled) (n : ℕ) : Type 0 where
  pub next : may_stand n f.place ≡ true
  pub address : origin f.place < 2 ^ 32
  pub few : length f.bytes + f.missing < 2 ^ 32
  pub line : f.line < 2 ^ 32
  pub bytes : AllByRecursion (λ b. b < 2 ^ 8) f.bytes
  pub whole : 1 ≤ f.missing → length f.bytes % 32 ≡ 0

-- while its bytes come, nothing stands behind it
pub record IsFilling (d : BegunObject) (f : Filled) : Type 0 where
  pub fillable : IsFillable f (length d.sections)
  pub some : 1 ≤ f.missing
  pub symbols : d.symbols ≡ []
  pub relocs : d.relocs ≡ []

-- an object whose end hasn't come
pub record IsKept (d : BegunObject) : Type 0 where
  pub name : IsName d.name
  pub order : AreInOrder d.sections
  pub sections : AllByRecursion HasSectionText d.sections
  pub filling : IfSome d.filling (IsFilling d)
  pub few : length d.sections < 2 → (d.symbols ≡ []) × (d.relocs ≡ [])
  pub symbols : AllByRecursion HasSymbolText d.symbols
  pub relocs : AllByRecursion HasRelocText d.relocs

-- what is read so far
pub record IsProgress (s : Progress) : Type 0 where
  pub done : AllByRecursion HasText s.done
  pub draft : IfSome s.draft IsKept

-- one more that passes
pub all_push : {A : Type 0} (P : A → Type 0) (xs : List A) (x : A) → AllByRecursion P xs → P x → AllByRecursion P (xs ++ x ∷ [])
all_push P [] x h k = (k, tt)
all_push P (y ∷ xs) x h k = (h.0, all_push P xs x h.1 k)

-- a section more in order
order_at : (n : ℕ) (p : Place) → 2 ≤ n → may_stand n p ≡ true → IsOwnAddress p
order_at n Text h e = absurd (grind (arith, nat_tests))
order_at n DataSection h e = absurd (grind (arith, nat_tests))
order_at n (At a) h e = tt

order_first : (p : Place) → may_stand 0 p ≡ true → p ≡ Text
order_first Text e = refl
order_first DataSection e = absurd cc
order_first (At a) e = absurd cc

order_second : (p : Place) → may_stand 1 p ≡ true → p ≡ DataSection
order_second Text e = absurd cc
order_second DataSection e = refl
order_second (At a) e = absurd cc

pub order_push : (ss : List Section) (s : Section) → AreInOrder ss → may_stand (length ss) s.place ≡ true → AreInOrder (ss ++ s ∷ [])
order_push [] s h e = order_first s.place e
order_push (t ∷ []) s h e = (h, order_second s.place e, tt)
order_push (t ∷ d ∷ others) s h e =
    (h.0, h.1, all_push (λ s. IsOwnAddress s.place) others s h.2 (order_at (length (t ∷ d ∷ others)) s.place (omega arith) e))

pub order_whole : (ss : List Section) → 2 ≤ length ss → AreInOrder ss → AreSections ss
order_whole [] h k = absurd (omega arith)
order_whole (t ∷ []) h k = absurd (omega arith)
order_whole (t ∷ d ∷ others) h k = (k.0, k.1, All-from_recursion (λ s. IsOwnAddress s.place) others k.2)

-- an object with nothing but sections
abbrev pub bare : List ℕ → List Section → Option Filled → BegunObject
bare name sections filling = record { name = name; sections = sections; filling = filling; symbols = []; relocs = [] }

pub bare_is : (d : BegunObject) (filling : Option Filled) → d.filling ≡ filling → d.symbols ≡ [] → d.relocs ≡ [] → d ≡ bare d.name d.sections filling
bare_is d filling e f g =
    ap (λ (o : Option Filled). let b : BegunObject = record d { filling = o } in b) e
    ∙ ap (λ (l : List Symbol). let b : BegunObject = record { name = d.name; sections = d.sections; filling = filling; symbols = l; relocs = d.relocs } in b) f
    ∙ ap (λ (l : List Reloc). let b : BegunObject = record { name = d.name; sections = d.sections; filling = filling; symbols = []; relocs = l } in b) g

-- what a draft of sections alone has written
pub bare_rows : (name : List ℕ) (sections : List Section) (filling : Option Filled)
    → draft_rows (bare name sections filling) ≡ row_text (Begin name) ∷ (sections_rows sections ++ filling_rows filling)
bare_rows name sections filling = ap (λ l. row_text (Begin name) ∷ (sections_rows sections ++ l)) (append-nil (filling_rows filling))

-- what is settled is kept, and has written what the section has written
module _ (name : List ℕ) (sections : List Section) (f : Filled) (named_so : IsName name) (order : AreInOrder sections)
    (texts : AllByRecursion HasSectionText sections) (h : IsFillable f (length sections)) where
  abbrev whole_one : BegunObject
  whole_one = bare name (sections ++ section_with f ∷ []) None

  abbrev filled_one : BegunObject
  filled_one = bare name sections (Some f)

  abbrev Settled : BegunObject → Type 0
  Settled e = IsKept e × (draft_rows e ≡ row_text (Begin name) ∷ (sections_rows sections ++ filled_rows f))

  whole_settled : f.missing ≡ 0 → Settled whole_one
  whole_settled none =
      let size : length f.bytes + f.missing ≡ length f.bytes = omega (arith, none) in (
        record {
          name = named_so;
          order = order_push sections (section_with f) order h.next;
          sections =
              all_push HasSectionText sections (section_with f) texts
              (record { address = h.address; few = omega (arith, h.few, size); line = h.line; bytes = h.bytes });
          filling = tt;
          few = λ k. (refl, refl);
          symbols = tt;
          relocs = tt;
        },
        bare_rows name (sections ++ section_with f ∷ []) None
            ∙ ap (λ l. row_text (Begin name) ∷ l)
            (append-nil (sections_rows (sections ++ section_with f ∷ []))
            ∙ flat_map-append section_rows sections (section_with f ∷ [])
            ∙ ap (λ l. sections_rows sections ++ l)
            (append-nil (section_rows (section_with f)) ∙ ap (λ n. head_row f.place n f.line ∷ byte_rows f.bytes) (sym size))),
      )

  filled_settled : 1 ≤ f.missing → Settled filled_one
  filled_settled some = (
    record {
      name = named_so;
      order = order;
      sections = texts;
      filling = record { fillable = h; some = some; symbols = refl; relocs = refl };
      few = λ k. (refl, refl);
      symbols = tt;
      relocs = tt;
    },
    bare_rows name sections (Some f),
  )

  by_missing : (b : Bool) → (f.missing == 0) ≡ b → Settled (if b then whole_one else filled_one)
  by_missing true e = whole_settled (grind (arith, nat_tests))
  by_missing false e = filled_settled (grind (arith, nat_tests))

  pub is_settled : Settled (with_section_settled (bare name sections None) f)
  is_settled = by_missing (f.missing == 0) refl

-- a line that is taken goes behind those before it
pub record Goes (d e : BegunObject) (line : List ℕ) : Type 0 where
  pub kept : IsKept e
  pub rows : draft_rows e ≡ draft_rows d ++ line ∷ []

pub bare_nil : {A : Type 0} (xs : List A) → is_nil xs ≡ true → xs ≡ []
bare_nil xs e = nil_from_length xs (eqb-true (length xs) 0 e)

pub none_is : {A : Type 0} (o : Option A) → is_none o ≡ true → o ≡ None
none_is None e = refl
none_is (Some x) e = absurd cc

pub if_some : {A : Type 0} (b : Bool) (x y : A) → (if b then Some x else None) ≡ Some y → (b ≡ true) × (x ≡ y)
if_some true x y e = (refl, cc)
if_some false x y e = absurd cc

-- the head of a section
headed_fillable : (h : SectionHead) (n : ℕ) → IsHead h → may_stand n h.place ≡ true → IsFillable (headed h) n
headed_fillable h n k e = record {
  next = e;
  address = k.0;
  few = omega (arith, k.1);
  line = k.2;
  bytes = tt;
  whole = λ some. omega arith;
}

head_goes_bare : (name : List ℕ) (sections : List Section) (h : SectionHead) → IsKept (bare name sections None) → IsHead h
    → may_stand (length sections) h.place ≡ true
    → Goes (bare name sections None) (with_section_settled (bare name sections None) (headed h)) (row_text (Head h))
head_goes_bare name sections h kept k next =
    let s = is_settled name sections (headed h) kept.name kept.order kept.sections (headed_fillable h (length sections) k next) in
    let len : 0 + h.len ≡ h.len = omega arith in
    record {
      kept = s.0;
      rows = s.1 ∙ ap (λ n. row_text (Begin name) ∷ (sections_rows sections ++ head_row h.place n h.line ∷ byte_rows [])) len
          ∙ ap (λ rows. row_text (Begin name) ∷ (sections_rows sections ++ row_text (Head h) ∷ rows)) no_rows
          ∙ ap (λ l. row_text (Begin name) ∷ (l ++ row_text (Head h) ∷ [])) (sym (append-nil (sections_rows sections)))
          ∙ ap (λ l. l ++ row_text (Head h) ∷ []) (sym (bare_rows name sections None));
    }

pub head_goes : (h : SectionHead) (d e : BegunObject) → IsKept d → IsHead h → head_step h d ≡ Some e → Goes d e (row_text (Head h))
unfolding head_step
head_goes h d e kept k step =
    let t = if_some (takes_head d h) (with_section_settled d (headed h)) e step in
    let t1 = and_parts (is_none d.filling && is_nil d.symbols && is_nil d.relocs) (may_stand (length d.sections) h.place) t.0 in
    let t2 = and_parts (is_none d.filling && is_nil d.symbols) (is_nil d.relocs) t1.0 in
    let t3 = and_parts (is_none d.filling) (is_nil d.symbols) t2.0 in
    let is : d ≡ bare d.name d.sections None = bare_is d None (none_is d.filling t3.0) (bare_nil d.symbols t3.1) (bare_nil d.relocs t2.1) in
    let P : BegunObject → Type 0 = λ b. Goes b (with_section_settled b (headed h)) (row_text (Head h)) in
    let g : P d = subst P (sym is) (head_goes_bare d.name d.sections h (subst IsKept is kept) k t1.1) in
    subst (λ b. Goes d b (row_text (Head h))) t.1 g
