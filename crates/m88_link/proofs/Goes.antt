-- Each line that is taken goes behind what is read so far: bytes, symbols, relocations, and the two ends of an object.
use Rattle.std.proofs.Common.{◌≡◌, ℕ, ◌+◌, ◌-◌, ◌*◌, ◌^◌, ◌<◌, ◌≤◌, Bool, true, false, List, [], ◌∷◌, ◌++◌, length, min, refl, sym, ap, ◌∙◌, subst, arith, append_assoc, length-append}
use Rattle.std.specs.Prelude.{Option, None, Some, ◌==◌, ◌&&◌, IfSome, flat_map, nat_le, if◌then◌else◌}
use Rattle.std.specs.List.{AllByRecursion}
use Rattle.std.specs.Option.{is_none}
use Rattle.std.proofs.lemmas.Bool.{and_parts, eqb-true, leb-true}
use Rattle.std.proofs.lemmas.List.{append-nil, map_push}
use Rattle.std.proofs.lemmas.List.Concat.{flat_map-append}
use Rattle.std.proofs.lemmas.Option.{option_and_then_some}
use Rattle.m88_base.specs.Hex.{hex2}
use Rattle.m88_base.specs.Name.{IsName}
use Rattle.m88_link.specs.declared.object.Reloc.{Reloc}
use Rattle.m88_link.specs.declared.object.Section.{Section}
use Rattle.m88_link.specs.declared.object.Symbol.{Symbol}
use Rattle.m88_link.specs.declared.row.Row.{Row}
use Rattle.m88_link.specs.declared.row.Row.TheVariants.{Begin, Head, Define, Patch, End}
use Rattle.m88_link.specs.Inside.Drafts.{BegunObject, Filled, Progress, bytes_step, define_step, end_step, begin_step, head_step, is_nil, is_whole, line_step, more_bytes, only_named, object_with, patch_step, row_step, with_section_settled, within}
use Rattle.m88_link.specs.ObjectRead.{HasRelocText, HasSymbolText, HasText}
use Rattle.m88_link.specs.Inside.Rows.{◌>>=◌, bytes_behind, bytes_by_digits, row_in}
use Rattle.m88_link.proofs.ByteTexts.{bytes_back, length-digits}
use Rattle.m88_link.proofs.RowTexts.{IsRow, mapped, row_back, row_text}
use Rattle.m88_link.proofs.Written.{byte_rows, draft_rows, filled_rows, filling_rows, head_row, object_rows, objects_rows, one_row_more, open_rows, reloc_rows, sections_rows, symbol_rows, written}
use Rattle.m88_link.proofs.Kept.{Goes, IsFillable, IsFilling, IsKept, IsProgress, all_push, bare, bare_is, bare_nil, bare_rows, head_goes, if_some, is_settled, none_is, order_whole}

-- bytes that come to a section
pub record Fills (f g : Filled) (n : ℕ) (digits : List ℕ) : Type 0 where
  pub fillable : IsFillable g n
  pub rows : filled_rows g ≡ filled_rows f ++ (61 ∷ digits) ∷ []

pub all_append : (P : ℕ → Type 0) (xs ys : List ℕ) → AllByRecursion P xs → AllByRecursion P ys → AllByRecursion P (xs ++ ys)
all_append P [] ys h k = k
all_append P (x ∷ xs) ys h k = (h.0, all_append P xs ys h.1 k)

-- the section with bytes more
abbrev pub with_bytes : Filled → List ℕ → Filled
with_bytes f bs = record { place = f.place; line = f.line; bytes = f.bytes ++ bs; missing = f.missing - min f.missing 32 }

fills : (f : Filled) (n : ℕ) (bs : List ℕ) → IsFillable f n → 1 ≤ f.missing → length bs ≡ min f.missing 32 → AllByRecursion (λ b. b < 2 ^ 8) bs
    → Fills f (with_bytes f bs) n (flat_map hex2 bs)
fills f n bs h some size small =
    let both = length-append f.bytes bs in
    let sum : length (f.bytes ++ bs) + (f.missing - min f.missing 32) ≡ length f.bytes + f.missing = omega (arith, both, size) in
    record {
      fillable = record {
        next = h.next;
        address = h.address;
        few = omega (arith, sum, h.few);
        line = h.line;
        bytes = all_append (λ b. b < 2 ^ 8) f.bytes bs h.bytes small;
        whole = λ more. let k = h.whole some in omega (arith, k, more, size, both);
      };
      rows = ap (λ m. head_row f.place m f.line ∷ byte_rows (f.bytes ++ bs)) sum
          ∙ ap (λ l. head_row f.place (length f.bytes + f.missing) f.line ∷ l)
          (one_row_more f.bytes bs (h.whole some) (omega (arith, size, some)) (omega (arith, size)));
    }

pub more_fills : (digits : List ℕ) (f g : Filled) (n : ℕ) → IsFillable f n → 1 ≤ f.missing → more_bytes digits f ≡ Some g → Fills f g n digits
unfolding more_bytes bytes_behind
more_fills digits f g n h some step = by_size (length digits == 2 * min f.missing 32) refl step
  where
    by_size : (b : Bool) → (length digits == 2 * min f.missing 32) ≡ b
        → (if b then (bytes_behind f.bytes digits >>= λ bs. Some (record { place = f.place; line = f.line; bytes = bs; missing = f.missing - min f.missing 32 })) else None) ≡ Some g
        → Fills f g n digits
    by_size true size step =
        option_and_then_some _ (bytes_behind f.bytes digits) g step (λ all e1 f1.
        mapped (λ bs. f.bytes ++ bs) (bytes_by_digits digits) all e1 (λ bs e2 same.
        let k = bytes_back digits bs e2 in
        let long : length digits ≡ 2 * length bs = ap length k.0 ∙ length-digits bs in
        let twice : length digits ≡ 2 * min f.missing 32 = eqb-true (length digits) (2 * min f.missing 32) size in
        let count : length bs ≡ min f.missing 32 = omega (arith, long, twice) in
        let is : with_bytes f bs ≡ g =
        ap (λ (l : List ℕ). let x : Filled = record { place = f.place; line = f.line; bytes = l; missing = f.missing - min f.missing 32 } in x) same ∙ cc in
        let P : List ℕ → Type 0 = λ ds. Fills f g n ds in
        subst P (sym k.0) (subst (λ x. Fills f x n (flat_map hex2 bs)) is (fills f n bs h some count k.1))))
    by_size false size step = absurd cc

bytes_goes_bare : (name : List ℕ) (sections : List Section) (f g : Filled) (digits : List ℕ) → IsKept (bare name sections (Some f))
    → Fills f g (length sections) digits → Goes (bare name sections (Some f)) (with_section_settled (bare name sections None) g) (61 ∷ digits)
bytes_goes_bare name sections f g digits kept fill =
    let s = is_settled name sections g kept.name kept.order kept.sections fill.fillable in
    record {
      kept = s.0;
      rows = s.1 ∙ ap (λ l. row_text (Begin name) ∷ (sections_rows sections ++ l)) fill.rows
          ∙ ap (λ l. row_text (Begin name) ∷ l) (sym (append_assoc (sections_rows sections) (filled_rows f) ((61 ∷ digits) ∷ [])))
          ∙ ap (λ l. l ++ (61 ∷ digits) ∷ []) (sym (bare_rows name sections (Some f)));
    }

filling_of : (d : BegunObject) (f : Filled) → IsKept d → d.filling ≡ Some f → IsFilling d f
filling_of d f kept e = subst (λ o. IfSome o (IsFilling d)) e kept.filling

bytes_goes_filling : (digits : List ℕ) (d e : BegunObject) (f g : Filled) → IsKept d → d.filling ≡ Some f → more_bytes digits f ≡ Some g → with_section_settled d g ≡ e
    → Goes d e (61 ∷ digits)
bytes_goes_filling digits d e f g kept is more same =
    let k = filling_of d f kept is in
    let whole : d ≡ bare d.name d.sections (Some f) = bare_is d (Some f) is k.symbols k.relocs in
    let fill = more_fills digits f g (length d.sections) k.fillable k.some more in
    let P : BegunObject → Type 0 = λ b. Goes b (with_section_settled b g) (61 ∷ digits) in
    let there : P (bare d.name d.sections (Some f)) = bytes_goes_bare d.name d.sections f g digits (subst IsKept whole kept) fill in
    let here : P d = subst P (sym whole) there in
    subst (λ b. Goes d b (61 ∷ digits)) same here

pub bytes_goes : (digits : List ℕ) (d e : BegunObject) → IsKept d → bytes_step digits d ≡ Some e → Goes d e (61 ∷ digits)
unfolding bytes_step
bytes_goes digits d e kept step =
    option_and_then_some _ d.filling e step (λ f e1 f1.
    option_and_then_some _ (more_bytes digits f) e f1 (λ g e2 f2.
    let same : with_section_settled d g ≡ e = cc in
    bytes_goes_filling digits d e f g kept e1 e2 same))

-- a symbol
module _ (name : List ℕ) (sections : List Section) (symbols : List Symbol) where
  abbrev with_symbols : List Symbol → BegunObject
  with_symbols l = record { name = name; sections = sections; filling = None; symbols = l; relocs = [] }

  define_goes_bare : (s : Symbol) → IsKept (with_symbols symbols) → 2 ≤ length sections → HasSymbolText s
      → Goes (with_symbols symbols) (with_symbols (symbols ++ s ∷ [])) (row_text (Define s))
  define_goes_bare s kept two h = record {
    kept = record {
      name = kept.name;
      order = kept.order;
      sections = kept.sections;
      filling = tt;
      few = λ k. absurd (omega (arith, k, two));
      symbols = all_push HasSymbolText symbols s kept.symbols h;
      relocs = tt;
    };
    rows = ap (λ l. row_text (Begin name) ∷ (sections_rows sections ++ l)) (append-nil (symbol_rows (symbols ++ s ∷ [])) ∙ map_push (λ x. row_text (Define x)) symbols s)
        ∙ ap (λ l. row_text (Begin name) ∷ l) (sym (append_assoc (sections_rows sections) (symbol_rows symbols) (row_text (Define s) ∷ [])))
        ∙ ap (λ l. row_text (Begin name) ∷ ((sections_rows sections ++ l) ++ row_text (Define s) ∷ [])) (sym (append-nil (symbol_rows symbols)));
  }

pub define_goes : (s : Symbol) (d e : BegunObject) → IsKept d → HasSymbolText s → define_step s d ≡ Some e → Goes d e (row_text (Define s))
unfolding define_step
define_goes s d e kept h step =
    let t = if_some (is_whole d && is_nil d.relocs) (record d { symbols = d.symbols ++ s ∷ [] }) e step in
    let t1 = and_parts (is_whole d) (is_nil d.relocs) t.0 in
    let t2 = and_parts (is_none d.filling) (nat_le 2 (length d.sections)) t1.0 in
    let is : d ≡ with_symbols d.name d.sections d.symbols d.symbols =
    ap (λ (o : Option Filled). let b : BegunObject = record d { filling = o } in b) (none_is d.filling t2.0)
    ∙ ap (λ (l : List Reloc). let b : BegunObject = record { name = d.name; sections = d.sections; filling = None; symbols = d.symbols; relocs = l } in b) (bare_nil d.relocs t1.1) in
    let P : BegunObject → Type 0 = λ b. Goes b (record b { symbols = b.symbols ++ s ∷ [] }) (row_text (Define s)) in
    let there : P (with_symbols d.name d.sections d.symbols d.symbols) =
    define_goes_bare d.name d.sections d.symbols s (subst IsKept is kept) (leb-true 2 (length d.sections) t2.1) h in
    let here : P d = subst P (sym is) there in
    subst (λ b. Goes d b (row_text (Define s))) t.1 here

-- a relocation
module _ (name : List ℕ) (sections : List Section) (symbols : List Symbol) (relocs : List Reloc) where
  abbrev with_relocs : List Reloc → BegunObject
  with_relocs l = record { name = name; sections = sections; filling = None; symbols = symbols; relocs = l }

  patch_goes_bare : (r : Reloc) → IsKept (with_relocs relocs) → 2 ≤ length sections → HasRelocText r
      → Goes (with_relocs relocs) (with_relocs (relocs ++ r ∷ [])) (row_text (Patch r))
  patch_goes_bare r kept two h = record {
    kept = record {
      name = kept.name;
      order = kept.order;
      sections = kept.sections;
      filling = tt;
      few = λ k. absurd (omega (arith, k, two));
      symbols = kept.symbols;
      relocs = all_push HasRelocText relocs r kept.relocs h;
    };
    rows = ap (λ l. row_text (Begin name) ∷ (sections_rows sections ++ (symbol_rows symbols ++ l))) (map_push (λ x. row_text (Patch x)) relocs r)
        ∙ ap (λ l. row_text (Begin name) ∷ (sections_rows sections ++ l)) (sym (append_assoc (symbol_rows symbols) (reloc_rows relocs) (row_text (Patch r) ∷ [])))
        ∙ ap (λ l. row_text (Begin name) ∷ l) (sym (append_assoc (sections_rows sections) (symbol_rows symbols ++ reloc_rows relocs) (row_text (Patch r) ∷ [])));
  }

pub patch_goes : (r : Reloc) (d e : BegunObject) → IsKept d → HasRelocText r → patch_step r d ≡ Some e → Goes d e (row_text (Patch r))
unfolding patch_step
patch_goes r d e kept h step =
    let t = if_some (is_whole d) (record d { relocs = d.relocs ++ r ∷ [] }) e step in
    let t2 = and_parts (is_none d.filling) (nat_le 2 (length d.sections)) t.0 in
    let is : d ≡ with_relocs d.name d.sections d.symbols d.relocs d.relocs =
    ap (λ (o : Option Filled). let b : BegunObject = record d { filling = o } in b) (none_is d.filling t2.0) in
    let P : BegunObject → Type 0 = λ b. Goes b (record b { relocs = b.relocs ++ r ∷ [] }) (row_text (Patch r)) in
    let there : P (with_relocs d.name d.sections d.symbols d.relocs d.relocs) =
    patch_goes_bare d.name d.sections d.symbols d.relocs r (subst IsKept is kept) (leb-true 2 (length d.sections) t2.1) h in
    let here : P d = subst P (sym is) there in
    subst (λ b. Goes d b (row_text (Patch r))) t.1 here

-- what is read so far, a line on
pub record Went (s t : Progress) (line : List ℕ) : Type 0 where
  pub kept : IsProgress t
  pub rows : written t ≡ written s ++ line ∷ []

draft_of : (s : Progress) (d : BegunObject) → IsProgress s → s.draft ≡ Some d → IsKept d
draft_of s d kept e = subst (λ o. IfSome o IsKept) e kept.draft

-- the object goes on
pub within_went : (s t : Progress) (step : BegunObject → Option BegunObject) (line : List ℕ) → IsProgress s
    → ((d e : BegunObject) → IsKept d → step d ≡ Some e → Goes d e line) → within s step ≡ Some t → Went s t line
within_went s t step line kept goes h =
    option_and_then_some _ s.draft t h (λ d e1 f1.
    option_and_then_some _ (step d) t f1 (λ e e2 f2.
    let g = goes d e (draft_of s d kept e1) e2 in
    let same : record { done = s.done; draft = Some e } ≡ t = cc in
    rw (← same) (record {
      kept = record { done = kept.done; draft = g.kept };
      rows = ap (λ l. objects_rows s.done ++ l) g.rows
          ∙ sym (append_assoc (objects_rows s.done) (draft_rows d) (line ∷ []))
          ∙ ap (λ o. (objects_rows s.done ++ open_rows o) ++ line ∷ []) (sym e1);
    })))

-- an object begins
pub begin_went : (s t : Progress) (name : List ℕ) → IsProgress s → IsName name → begin_step name s ≡ Some t → Went s t (row_text (Begin name))
unfolding begin_step
begin_went s t name kept h step =
    let k = if_some (is_none s.draft) (record { done = s.done; draft = Some (only_named name) }) t step in
    let none = none_is s.draft k.0 in
    rw (← k.1) (record {
      kept = record {
        done = kept.done;
        draft = record {
          name = h;
          order = tt;
          sections = tt;
          filling = tt;
          few = λ k. (refl, refl);
          symbols = tt;
          relocs = tt;
        };
      };
      rows = ap (λ l. l ++ row_text (Begin name) ∷ []) (sym (append-nil (objects_rows s.done)) ∙ ap (λ o. objects_rows s.done ++ open_rows o) (sym none));
    })

-- the lines of an object that ends
pub whole_rows : (d : BegunObject) → d.filling ≡ None → object_rows (object_with d) ≡ draft_rows d ++ row_text End ∷ []
whole_rows d none =
    ap (λ l. row_text (Begin d.name) ∷ (sections_rows d.sections ++ l)) (sym (append_assoc (symbol_rows d.symbols) (reloc_rows d.relocs) (row_text End ∷ [])))
    ∙ ap (λ l. row_text (Begin d.name) ∷ l) (sym (append_assoc (sections_rows d.sections) (symbol_rows d.symbols ++ reloc_rows d.relocs) (row_text End ∷ [])))
    ∙ ap (λ o. row_text (Begin d.name) ∷ ((sections_rows d.sections ++ (filling_rows o ++ (symbol_rows d.symbols ++ reloc_rows d.relocs))) ++ row_text End ∷ []))
    (sym none)

-- an object ends
end_went_whole : (s : Progress) (d : BegunObject) → IsProgress s → s.draft ≡ Some d → is_whole d ≡ true
    → Went s (record { done = s.done ++ object_with d ∷ []; draft = None }) (row_text End)
end_went_whole s d kept e whole =
    let k = draft_of s d kept e in
    let t = and_parts (is_none d.filling) (nat_le 2 (length d.sections)) whole in
    let two = leb-true 2 (length d.sections) t.1 in
    let rows = whole_rows d (none_is d.filling t.0) in
    record {
      kept = record {
        done =
            all_push HasText s.done (object_with d) kept.done
            (record { name = k.name; order = order_whole d.sections two k.order; sections = k.sections; symbols = k.symbols; relocs = k.relocs });
        draft = tt;
      };
      rows = append-nil (objects_rows (s.done ++ object_with d ∷ []))
          ∙ flat_map-append object_rows s.done (object_with d ∷ [])
          ∙ ap (λ l. objects_rows s.done ++ l) (append-nil (object_rows (object_with d)) ∙ rows)
          ∙ sym (append_assoc (objects_rows s.done) (draft_rows d) (row_text End ∷ []))
          ∙ ap (λ o. (objects_rows s.done ++ open_rows o) ++ row_text End ∷ []) (sym e);
    }

pub end_went : (s t : Progress) → IsProgress s → end_step s ≡ Some t → Went s t (row_text End)
unfolding end_step
end_went s t kept step =
    option_and_then_some _ s.draft t step (λ d e1 f1.
    let k = if_some (is_whole d) (record { done = s.done ++ object_with d ∷ []; draft = None }) t f1 in
    subst (λ x. Went s x (row_text End)) k.1 (end_went_whole s d kept e1 k.0))

-- a line without bytes
pub row_went : (s t : Progress) (r : Row) → IsProgress s → IsRow r → row_step s r ≡ Some t → Went s t (row_text r)
row_went s t (Begin name) kept h step = begin_went s t name kept h step
row_went s t (Head x) kept h step = within_went s t (head_step x) (row_text (Head x)) kept (λ d e k g. head_goes x d e k h g) step
row_went s t (Define x) kept h step = within_went s t (define_step x) (row_text (Define x)) kept (λ d e k g. define_goes x d e k h g) step
row_went s t (Patch x) kept h step = within_went s t (patch_step x) (row_text (Patch x)) kept (λ d e k g. patch_goes x d e k h g) step
row_went s t End kept h step = end_went s t kept step

-- a line
pub line_went : (s t : Progress) (line : List ℕ) → IsProgress s → line_step s line ≡ Some t → Went s t line
unfolding line_step
line_went s t [] kept step = absurd cc
line_went s t (b ∷ bs) kept step = by_first (b == 61) refl step
  where
    by_first : (v : Bool) → (b == 61) ≡ v → (if v then within s (bytes_step bs) else (row_in (b ∷ bs) >>= row_step s)) ≡ Some t → Went s t (b ∷ bs)
    by_first true is step =
        let first : b ≡ 61 = eqb-true b 61 is in
        let P : ℕ → Type 0 = λ x. Went s t (x ∷ bs) in
        subst P (sym first) (within_went s t (bytes_step bs) (61 ∷ bs) kept (λ d e k g. bytes_goes bs d e k g) step)
    by_first false is step =
        option_and_then_some (row_step s) (row_in (b ∷ bs)) t step (λ r e1 f1.
        let k = row_back (b ∷ bs) r e1 in
        subst (Went s t) (sym k.0) (row_went s t r kept k.1 f1))
