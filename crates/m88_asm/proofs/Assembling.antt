-- What a module has grown to behind its statements is the object of the module.
use Rattle.std.proofs.Common.{ℕ, zero, suc, Bool, true, false, ◌≡◌, ◌+◌, ◌^◌, ◌<◌, inl, inr, List, [], ◌∷◌, ◌++◌, length, map, Option, Some, None, refl, sym, ◌∙◌, ap, subst, append_assoc, arith, length-append, add-zero, zero-add}
use Rattle.std.specs.Prelude.{flat_map, ◌==◌, nat_lt, if◌then◌else◌, slice_set}
use Rattle.std.specs.List.{enumerate_from}
use Rattle.std.specs.Option.{option_or}
use Rattle.std.proofs.Math.Path.{fun_ext}
use Rattle.std.proofs.Math.Seq.{get_or-append_seam, map-set_same}
use Rattle.std.proofs.lemmas.Bool.{cases_Bool, cases_order, cond-true, cond-false, eqb-true, eqb-false, eq-eqb, ne_eqb, or_parts, ltb-false}
use Rattle.std.proofs.lemmas.Grind.{get_or-set_at}
use Rattle.std.proofs.lemmas.List.{append-nil, get_or-set_other, get_or_past, get_or_append_left, length-set, map-append}
use Rattle.m88_parse.specs.declared.unit.Body.{Body}
use Rattle.m88_parse.specs.declared.unit.Body.TheVariants as body
use Rattle.m88_parse.specs.declared.unit.Module.{Module}
use Rattle.m88_parse.specs.declared.unit.Statement.{Statement}
use Rattle.m88_link.specs.declared.object.Object.{Object}
use Rattle.m88_link.specs.declared.object.Place.TheVariants as place
use Rattle.m88_link.specs.declared.object.Section.{Section}
use Rattle.m88_base.specs.Image.{most_bytes}
use Rattle.m88_link.specs.Sound.{HasRoom, origin}
use Rattle.m88_asm.specs.Counters.{Counters, Located, with_length, after, at_begin, at_body, at_section, length_at, located, offset_here, place_here}
use Rattle.m88_asm.specs.Inside.Drafts.{Growth, HasSections, counters_of, empty_growth, next_row, no_section, nth, section_at, sections_at, with_bytes, with_statement, with_statements}
use Rattle.m88_asm.specs.Faults.{misfit_at, misplaced_at, too_large_at}
use Rattle.m88_asm.specs.Filled.{waiting_bytes}
use Rattle.m88_asm.specs.Objects.{Head, heads_in, lines_in, marked, object_of, opens, opened_by, section_bytes, section_under, sections_in, symbols_in, symbols_of, uses_in_body, symbol_uses, waiting_in}
use Rattle.m88_asm.proofs.Relocating.{length-waiting_bytes}

-- of two options neither is there, where their first is none
pub none_of_both : {A : Type 0} (a b : Option A) → option_or a b ≡ None → (a ≡ None) × (b ≡ None)
none_of_both None b h = (refl, h)
none_of_both (Some x) b h = cc

-- a statement that fits leaves room for its bytes

pub no_fault : {A : Type 0} (b : Bool) (x : A) → (if b then Some x else None) ≡ None → b ≡ false
no_fault true x h = cc
no_fault false x h = refl

pub fits : (s : Section) (x : Statement) → misfit_at (length s.bytes) (origin s.place + length s.bytes) x ≡ None
    → HasRoom (with_bytes s (waiting_bytes (origin s.place + length s.bytes) x.body))
fits s x h =
    let offset = length s.bytes in
    let place = origin s.place + length s.bytes in
    let none = (none_of_both (misplaced_at place x) (too_large_at offset place x) h).1 in
    let parts = or_parts (nat_lt most_bytes (offset + length_at place x.body)) (nat_lt (2 ^ 32) (place + length_at place x.body)) (no_fault _ _ none) in
    let a = ltb-false most_bytes (offset + length_at place x.body) parts.0 in
    let b = ltb-false (2 ^ 32) (place + length_at place x.body) parts.1 in
    let n = length-waiting_bytes place x.body in
    let l = length-append s.bytes (waiting_bytes place x.body) in
    (omega arith, omega arith)

-- sections by their numbers

nth_set : (xs : List Section) (h k : ℕ) (s : Section) → h < length xs → nth (slice_set xs h s) k ≡ (if h == k then s else nth xs k)
nth_set xs h k s l = elim (cases_Bool (h == k)) [
  | inl t ↦ get_or-set_at xs h k s no_section (sym (eqb-true h k t)) l ∙ sym (cond-true (h == k) s (nth xs k) t)
  | inr t ↦ get_or-set_other xs h k s no_section (λ e. eqb-false h k t (sym e)) ∙ sym (cond-false (h == k) s (nth xs k) t)
]

nth_pushed : (xs : List Section) (s : Section) (k : ℕ) → nth (xs ++ s ∷ []) k ≡ (if length xs == k then s else nth xs k)
nth_pushed xs s k = elim (cases_order (length xs) k) [
  | inl e ↦ ap (nth (xs ++ s ∷ [])) (sym e) ∙ get_or-append_seam xs s [] no_section ∙ sym (cond-true (length xs == k) s (nth xs k) (eq-eqb _ _ e))
  | inr (inl l) ↦ let n : (length xs ≡ k → ⊥) = λ e. omega arith in
      get_or_past (xs ++ s ∷ []) k no_section (omega (arith, length-append xs (s ∷ []))) ∙ sym (get_or_past xs k no_section (omega arith)) ∙ sym (cond-false (length xs == k) s (nth xs k) (ne_eqb _ _ n))
  | inr (inr l) ↦ let n : (length xs ≡ k → ⊥) = λ e. omega arith in
      get_or_append_left xs (s ∷ []) no_section k l ∙ sym (cond-false (length xs == k) s (nth xs k) (ne_eqb _ _ n))
]

-- a choice that makes no difference
same_either : {A : Type 0} (b : Bool) (x y : A) → (b ≡ true → x ≡ y) → (if b then x else y) ≡ y
same_either true x y h = h refl
same_either false x y h = refl

through_if : {A B : Type 0} (f : A → B) (b : Bool) (x y : A) → f (if b then x else y) ≡ (if b then f x else f y)
through_if f true x y = refl
through_if f false x y = refl

-- the counters that sections show

same_counters : (here n m : ℕ) (f g p q : ℕ → ℕ) → n ≡ m → ((k : ℕ) → f k ≡ g k) → ((k : ℕ) → p k ≡ q k)
    → ◌≡◌ {A = Counters} (record { here = here; count = n; starts = f; lengths = p }) (record { here = here; count = m; starts = g; lengths = q })
same_counters here n m f g p q a b c =
    ap (λ x. let r : Counters = record { here = here; count = x; starts = f; lengths = p } in r) a
    ∙ ap (λ x. let r : Counters = record { here = here; count = m; starts = x; lengths = p } in r) (fun_ext b)
    ∙ ap (λ x. let r : Counters = record { here = here; count = m; starts = g; lengths = x } in r) (fun_ext c)

-- a new section has no bytes yet, as a section that isn't there
lengths_at : (line : ℕ) (sections : List Section) (b : Body) (k : ℕ) → (nth (sections_at line sections b) k).bytes ≡ (nth sections k).bytes
lengths_at line sections (body.At a) k =
    let s : Section = record { place = place.At a; bytes = []; line = line } in
    ap (λ (x : Section). x.bytes) (nth_pushed sections s k)
    ∙ through_if (λ (x : Section). x.bytes) (length sections == k) s (nth sections k)
    ∙ same_either (length sections == k) [] (nth sections k).bytes
    (λ t. ap (λ (x : Section). x.bytes) (sym (get_or_past sections k no_section (omega (arith, eqb-true (length sections) k t)))))
lengths_at line sections _ k = refl

counters_entered : (line : ℕ) (sections : List Section) (here : ℕ) (b : Body)
    → counters_of (sections_at line sections b) (section_at here sections b) ≡ at_section (counters_of sections here) b
counters_entered line sections here (body.At a) =
    let s : Section = record { place = place.At a; bytes = []; line = line } in
    same_counters (length sections) _ _ _ _ _ _ (length-append sections (s ∷ []))
    (λ k. ap (λ (x : Section). origin x.place) (nth_pushed sections s k) ∙ through_if (λ (x : Section). origin x.place) (length sections == k) s (nth sections k))
    (λ k. ap length (lengths_at line sections (body.At a) k))
counters_entered line sections here body.Text = refl
counters_entered line sections here body.DataSection = refl
counters_entered line sections here _ = refl

counters_filled : (sections : List Section) (here : ℕ) (w : List ℕ) → here < length sections
    → counters_of (slice_set sections here (with_bytes (nth sections here) w)) here ≡ with_length (counters_of sections here) (length w)
counters_filled sections here w l =
    let s = with_bytes (nth sections here) w in
    same_counters here _ _ _ _ _ _ (length-set sections here s)
    (λ k. ap (λ (x : Section). origin x.place) (nth_set sections here k s l) ∙ through_if (λ (x : Section). origin x.place) (here == k) s (nth sections k)
    ∙ same_either (here == k) _ _ (λ t. ap (λ j. origin (nth sections j).place) (eqb-true here k t)))
    (λ k. ap (λ (x : Section). length x.bytes) (nth_set sections here k s l) ∙ through_if (λ (x : Section). length x.bytes) (here == k) s (nth sections k)
    ∙ ap (λ n. if here == k then n else length (nth sections k).bytes) (length-append (nth sections here).bytes w))

open_entered : (line : ℕ) (sections : List Section) (here : ℕ) (b : Body) → HasSections sections here → HasSections (sections_at line sections b) (section_at here sections b)
open_entered line sections here body.Text o = record { both = o.both; stands = omega (arith, o.both) }
open_entered line sections here body.DataSection o = record { both = o.both; stands = omega (arith, o.both) }
open_entered line sections here (body.At a) o =
    let n = length-append sections (record { place = place.At a; bytes = []; line = line } ∷ []) in
    record { both = omega (arith, o.both, n); stands = omega (arith, o.both, n) }
open_entered line sections here _ o = o

pub open_next : (g : Growth) (x : Statement) → HasSections g.sections g.here → HasSections (with_statement g x).sections (with_statement g x).here
open_next g x o =
    let p = open_entered x.line g.sections g.here x.body o in
    let sections = sections_at x.line g.sections x.body in
    let here = section_at g.here g.sections x.body in
    let n = length-set sections here (with_bytes (nth sections here) (waiting_bytes (place_here (counters_of sections here)) x.body)) in
    record { both = omega (arith, p.both, n); stands = omega (arith, p.stands, n) }

-- the statement's section stands
entered_next : (g : Growth) (x : Statement) → counters_of (sections_at x.line g.sections x.body) (section_at g.here g.sections x.body) ≡ at_body (next_row g x)
entered_next g x = counters_entered x.line g.sections g.here x.body

pub counters_next : (g : Growth) (x : Statement) → HasSections g.sections g.here
    → counters_of (with_statement g x).sections (with_statement g x).here ≡ after (counters_of g.sections g.here) x.body
counters_next g x o =
    let sections = sections_at x.line g.sections x.body in
    let here = section_at g.here g.sections x.body in
    let p = open_entered x.line g.sections g.here x.body o in
    counters_filled sections here (waiting_bytes (place_here (counters_of sections here)) x.body) p.stands
    ∙ ap (with_length (counters_of sections here)) (length-waiting_bytes (place_here (counters_of sections here)) x.body)
    ∙ ap (λ c. with_length c (length_at (place_here c) x.body)) (entered_next g x)

bytes_next : (g : Growth) (x : Statement) (k : ℕ) → HasSections g.sections g.here
    → (nth (with_statement g x).sections k).bytes ≡ (nth g.sections k).bytes ++ waiting_in k (next_row g x)
bytes_next g x k o =
    let sections = sections_at x.line g.sections x.body in
    let here = section_at g.here g.sections x.body in
    let w = waiting_bytes (place_here (counters_of sections here)) x.body in
    let p = open_entered x.line g.sections g.here x.body o in
    ap (λ (s : Section). s.bytes) (nth_set sections here k (with_bytes (nth sections here) w) p.stands)
    ∙ through_if (λ (s : Section). s.bytes) (here == k) (with_bytes (nth sections here) w) (nth sections k)
    ∙ here_or_there sections here k w
    ∙ ap (λ xs. xs ++ (if here == k then w else [])) (lengths_at x.line g.sections x.body k)
    ∙ ap (λ c. (nth g.sections k).bytes ++ (if c.here == k then waiting_bytes (place_here c) x.body else [])) (entered_next g x)
  where
    here_or_there : (sections : List Section) (here k : ℕ) (w : List ℕ)
        → (if here == k then (nth sections here).bytes ++ w else (nth sections k).bytes) ≡ (nth sections k).bytes ++ (if here == k then w else [])
    here_or_there sections here k w = elim (cases_Bool (here == k)) [
      | inl t ↦ cond-true (here == k) _ _ t ∙ ap (λ j. (nth sections j).bytes ++ w) (eqb-true here k t) ∙ ap (λ z. (nth sections k).bytes ++ z) (sym (cond-true (here == k) w [] t))
      | inr t ↦ cond-false (here == k) _ _ t ∙ sym (append-nil (nth sections k).bytes) ∙ ap (λ z. (nth sections k).bytes ++ z) (sym (cond-false (here == k) w [] t))
    ]

uses_next : (g : Growth) (x : Statement) → (with_statement g x).uses ≡ g.uses ++ symbol_uses (next_row g x)
uses_next g x = ap (λ c. g.uses ++ uses_in_body c.here (offset_here c) x.line x.body) (entered_next g x)

abbrev pub head_of : Section → Head
head_of s = record { place = s.place; line = s.line }

heads_entered : (line : ℕ) (sections : List Section) (b : Body) → map head_of (sections_at line sections b) ≡ map head_of sections ++ opened_by line b
heads_entered line sections (body.At a) = map-append head_of sections _
heads_entered line sections _ = sym (append-nil (map head_of sections))

heads_next : (g : Growth) (x : Statement) → map head_of (with_statement g x).sections ≡ map head_of g.sections ++ opens (next_row g x)
heads_next g x =
    let sections = sections_at x.line g.sections x.body in
    let here = section_at g.here g.sections x.body in
    map-set_same head_of sections here (with_bytes (nth sections here) _) no_section refl ∙ heads_entered x.line g.sections x.body

-- behind statements

pub record Grown (g : Growth) (rows : List Located) (end : Growth) : Type 0 where
  pub symbols : end.symbols ≡ g.symbols ++ flat_map symbols_of rows
  pub uses : end.uses ≡ g.uses ++ flat_map symbol_uses rows
  pub bytes : (k : ℕ) → (nth end.sections k).bytes ≡ (nth g.sections k).bytes ++ flat_map (waiting_in k) rows
  pub heads : map head_of end.sections ≡ map head_of g.sections ++ flat_map opens rows

pub grown : (g : Growth) (xs : List Statement) → HasSections g.sections g.here → Grown g (located (counters_of g.sections g.here) xs) (with_statements g xs)
unfolding located with_statements
grown g [] o = record {
  symbols = sym (append-nil g.symbols);
  uses = sym (append-nil g.uses);
  bytes = λ k. sym (append-nil (nth g.sections k).bytes);
  heads = sym (append-nil (map head_of g.sections));
}
grown g (x ∷ xs) o =
    let next = with_statement g x in
    let r = next_row g x in
    let rest = located (after (counters_of g.sections g.here) x.body) xs in
    let h : Grown next rest (with_statements next xs) =
    subst (λ c. Grown next (located c xs) (with_statements next xs)) (counters_next g x o) (grown next xs (open_next g x o)) in
    record {
      symbols = h.symbols ∙ append_assoc g.symbols (symbols_of r) (flat_map symbols_of rest);
      uses = h.uses ∙ ap (λ us. us ++ flat_map symbol_uses rest) (uses_next g x) ∙ append_assoc g.uses (symbol_uses r) (flat_map symbol_uses rest);
      bytes = λ k. h.bytes k ∙ ap (λ us. us ++ flat_map (waiting_in k) rest) (bytes_next g x k o)
          ∙ append_assoc (nth g.sections k).bytes (waiting_in k r) (flat_map (waiting_in k) rest);
      heads = h.heads ∙ ap (λ us. us ++ flat_map opens rest) (heads_next g x) ∙ append_assoc (map head_of g.sections) (opens r) (flat_map opens rest);
    }

-- before the first statement
nth_empty : (line k : ℕ) → (origin (nth (empty_growth line).sections k).place ≡ 0) × ((nth (empty_growth line).sections k).bytes ≡ [])
nth_empty line zero = (refl, refl)
nth_empty line (suc zero) = (refl, refl)
nth_empty line (suc (suc k)) = (refl, refl)

pub counters_empty : (line : ℕ) → counters_of (empty_growth line).sections 0 ≡ at_begin
counters_empty line = same_counters 0 2 2 _ _ _ _ refl (λ k. (nth_empty line k).0) (λ k. ap length (nth_empty line k).1)

-- sections by their heads and their bytes
by_parts : (n : ℕ) (xs : List Section) (bytes : ℕ → List ℕ) → ((k : ℕ) → (nth xs k).bytes ≡ bytes (n + k))
    → xs ≡ map (λ (e : ℕ × Head). record { place = e.1.place; bytes = bytes e.0; line = e.1.line }) (enumerate_from n (map head_of xs))
by_parts n [] bytes h = refl
by_parts n (x ∷ xs) bytes h =
    ap (λ b. let s : Section = record { place = x.place; bytes = b; line = x.line } in s ∷ xs) (h 0 ∙ ap bytes (add-zero n))
    ∙ ap (λ ys. let s : Section = record { place = x.place; bytes = bytes n; line = x.line } in s ∷ ys)
    (by_parts (n + 1) xs bytes (λ k. h (suc k) ∙ ap bytes (omega arith)))

-- behind its statements a module has grown to its object
pub grown_object : (m : Module)
    → ◌≡◌ {A = Object} (record {
      name = m.name;
      sections = (with_statements (empty_growth m.line) m.statements).sections;
      symbols = map (marked m.statements) (with_statements (empty_growth m.line) m.statements).symbols;
      relocs = (with_statements (empty_growth m.line) m.statements).uses;
    }) (object_of m)
grown_object m =
    let end = with_statements (empty_growth m.line) m.statements in
    let h : Grown (empty_growth m.line) (lines_in m) end =
    subst (λ c. Grown (empty_growth m.line) (located c m.statements) end) (counters_empty m.line)
    (grown (empty_growth m.line) m.statements (record { both = omega arith; stands = omega arith })) in
    let heads : map head_of end.sections ≡ heads_in m = h.heads in
    let parts : end.sections ≡ sections_in m =
    by_parts 0 end.sections (section_bytes m) (λ k. h.bytes k ∙ ap (λ b. b ++ section_bytes m k) (nth_empty m.line k).1 ∙ ap (section_bytes m) (sym (zero-add k)))
    ∙ ap (λ hs. map (section_under m) (enumerate_from 0 hs)) heads in
    ap (λ x. let o : Object = record { name = m.name; sections = x; symbols = map (marked m.statements) end.symbols; relocs = end.uses } in o) parts
    ∙ ap (λ x. let o : Object = record { name = m.name; sections = sections_in m; symbols = map (marked m.statements) x; relocs = end.uses } in o) h.symbols
    ∙ ap (λ x. let o : Object = record { name = m.name; sections = sections_in m; symbols = symbols_in m; relocs = x } in o) h.uses

pub grown_symbols : (m : Module) → (with_statements (empty_growth m.line) m.statements).symbols ≡ flat_map symbols_of (lines_in m)
grown_symbols m =
    let end = with_statements (empty_growth m.line) m.statements in
    let h : Grown (empty_growth m.line) (lines_in m) end =
    subst (λ c. Grown (empty_growth m.line) (located c m.statements) end) (counters_empty m.line)
    (grown (empty_growth m.line) m.statements (record { both = omega arith; stands = omega arith })) in
    h.symbols
