-- The references of a unit without what can't be carried out are those that can be, and its objects come to its bytes.
use Rattle.std.proofs.Common.{◌≡◌, ℕ, ◌+◌, Bool, true, false, List, [], ◌∷◌, ◌++◌, map, refl, sym, ap, ◌∙◌, subst, Some, None}
use Rattle.std.specs.Prelude.{◌&&◌, filter, flat_map, if◌then◌else◌, unwrap_or}
use Rattle.std.specs.List.{AllByRecursion, enumerate_from}
use Rattle.std.proofs.Math.Path.{fun_ext}
use Rattle.std.proofs.lemmas.List.Elements.{All-from_recursion, filter-append, recursion_from_All}
use Rattle.m88_base.specs.Placed.{Placed}
use Rattle.m88_base.specs.declared.fixup.Kind.TheVariants.{Abs32}
use Rattle.m88_base.specs.Image.{first_text}
use Rattle.m88_base.specs.Pages.{page_bytes}
use Rattle.m88_parse.specs.WellFormed.{IsFormedBody, IsFormedModule, IsFormedStatement, IsOfKind, IsWellFormed}
use Rattle.m88_parse.specs.declared.unit.Body.{Body}
use Rattle.m88_parse.specs.declared.unit.Body.TheVariants as body
use Rattle.m88_parse.specs.declared.unit.Module.{Module}
use Rattle.m88_parse.specs.declared.unit.Statement.{Statement}
use Rattle.m88_parse.specs.declared.unit.Unit.{Unit as Source}
use Rattle.m88_parse.specs.declared.unit.Value.{Value}
use Rattle.m88_parse.specs.declared.unit.Value.TheVariants as word
use Rattle.m88_link.specs.Bases.{Placement, base_at, base_of, section_size, stood, stood_from, text_end, up_to_multiple}
use Rattle.m88_link.specs.Field.{is_in_reach}
use Rattle.m88_link.specs.Forced.{forced_layout, is_resolvable, resolvable}
use Rattle.m88_link.specs.Layout.{layout_at, spot, spots_of, value_of_name}
use Rattle.m88_link.specs.Relocated.{relocated, target_of}
use Rattle.m88_link.specs.Symbols.{is_known, symbol_meaning}
use Rattle.m88_link.specs.declared.object.Object.{Object}
use Rattle.m88_link.specs.declared.object.Place.{Place}
use Rattle.m88_link.specs.declared.object.Place.TheVariants.{Text, DataSection, At}
use Rattle.m88_link.specs.declared.object.Reloc.{Reloc}
use Rattle.m88_link.specs.declared.object.Section.{Section}
use Rattle.m88_link.specs.declared.object.Symbol.{Symbol}
use Rattle.m88_asm.specs.Counters.{Counters, Located, after, at_begin, located, offset_of, section_of}
use Rattle.m88_asm.specs.Objects.{lines_in, objects_of, sections_in, symbols_in, symbol_uses, uses_in_body, uses_in_values, use_at}
use Rattle.m88_asm.specs.Units.{address_in, base_in, based, section_length, unit_layout, value_in_module}
use Rattle.m88_link.proofs.Laws.{all_same, base_same, forced_globals, value_same}
use Rattle.m88_asm.proofs.Laws.{AllFormed, AreInReach, CanFill, EachBased, all_stood, formed, globals_law, placement, same_base, spots_law}
use Rattle.m88_listing.specs.Settled.{is_carried_out, settled_body, settled_module, settled_statement, settled_unit, settled_value}
use Rattle.m88_listing.proofs.Settling.{base_settled, globals_settled, lines_settled, offset_same, section_same, sections_settled, settled_base, settled_line, symbols_settled, unit_stands}

-- a use of a symbol can be carried out
abbrev pub is_reached : List Symbol → Placement Module → Reloc → Bool
is_reached g b r =
    is_known g (symbols_in b.part) r.symbol && is_in_reach r.kind (target_of (value_in_module g b) r) (base_in b r.section + r.offset)

values_reached : (g : List Symbol) (b : Placement Module) (s offset line : ℕ) (vs : List Value)
    → uses_in_values s offset line (map (settled_value g b) vs) ≡ filter (is_reached g b) (uses_in_values s offset line vs)
values_reached g b s offset line [] = refl
values_reached g b s offset line (word.Number n ∷ vs) = values_reached g b s (offset + 4) line vs
values_reached g b s offset line (word.Symbol f ∷ vs) = by (is_known g (symbols_in b.part) f.symbol) (values_reached g b s (offset + 4) line vs)
  where
    own : Reloc
    own = use_at Abs32 s offset line f

    rest : List Reloc
    rest = uses_in_values s (offset + 4) line vs

    by : (t : Bool) → uses_in_values s (offset + 4) line (map (settled_value g b) vs) ≡ filter (is_reached g b) rest
        → uses_in_values s offset line ((if t then word.Symbol f else word.Number 0) ∷ map (settled_value g b) vs)
        ≡ (if t && true then own ∷ filter (is_reached g b) rest else filter (is_reached g b) rest)
    by true more = ap (λ (rs : List Reloc). own ∷ rs) more
    by false more = more

body_reached : (g : List Symbol) (b : Placement Module) (s offset line : ℕ) (x : Body)
    → uses_in_body s offset line (settled_body g b (base_in b s + offset) x) ≡ filter (is_reached g b) (uses_in_body s offset line x)
body_reached g b s offset line (body.Word vs) = values_reached g b s offset line vs
body_reached g b s offset line (body.Code i None) = refl
body_reached g b s offset line (body.Code i (Some f)) = by (is_carried_out g b (base_in b s + offset) f)
  where
    own : Reloc
    own = use_at f.kind s offset line f

    by : (t : Bool) → uses_in_body s offset line (body.Code i (if t then Some f else None)) ≡ (if t then own ∷ [] else [])
    by true = refl
    by false = refl
body_reached g b s offset line _ = refl

uses_reached : (g : List Symbol) (b : Placement Module) (r : Located) → symbol_uses (settled_line g b r) ≡ filter (is_reached g b) (symbol_uses r)
uses_reached g b r =
    let y = settled_body g b (address_in b r) r.statement.body in
    ap (λ (s : ℕ). uses_in_body s (offset_of (settled_line g b r)) r.statement.line y) (section_same g b r)
    ∙ ap (λ (n : ℕ). uses_in_body (section_of r) n r.statement.line y) (offset_same g b r)
    ∙ body_reached g b (section_of r) (offset_of r) r.statement.line r.statement.body

all_reached : (g : List Symbol) (b : Placement Module) (rs : List Located)
    → flat_map symbol_uses (map (settled_line g b) rs) ≡ filter (is_reached g b) (flat_map symbol_uses rs)
all_reached g b [] = refl
all_reached g b (r ∷ rs) =
    ap (λ (us : List Reloc). us ++ flat_map symbol_uses (map (settled_line g b) rs)) (uses_reached g b r)
    ∙ ap (λ (us : List Reloc). filter (is_reached g b) (symbol_uses r) ++ us) (all_reached g b rs)
    ∙ sym (filter-append (is_reached g b) (symbol_uses r) (flat_map symbol_uses rs))

pub module_reached : (g : List Symbol) (b : Placement Module)
    → flat_map symbol_uses (lines_in (settled_module g b)) ≡ filter (is_reached g b) (flat_map symbol_uses (lines_in b.part))
module_reached g b = ap (flat_map symbol_uses) (lines_settled g b) ∙ all_reached g b (lines_in b.part)

-- what a name means in a module
value_settled : (g : List Symbol) (b : Placement Module) → value_in_module g (settled_base g b) ≡ value_in_module g b
value_settled g b =
    ap (λ (f : ℕ → ℕ). λ (name : List ℕ). unwrap_or (symbol_meaning g f (symbols_in (settled_module g b)) name) 0) (base_settled g b)
    ∙ ap (λ (ss : List Symbol). λ (name : List ℕ). unwrap_or (symbol_meaning g (base_in b) ss name) 0) (symbols_settled g b)

-- each of them is in reach
left_reach : (g : List Symbol) (b : Placement Module) (us : List Reloc) → AreInReach (value_in_module g b) (base_in b) (filter (is_reached g b) us)
left_reach g b [] = tt
left_reach g b (r ∷ us) = by (is_reached g b r) refl (left_reach g b us)
  where
    second : (s t : Bool) → (s && t) ≡ true → t ≡ true
    second true t h = h
    second false t h = cc

    by : (t : Bool) → is_reached g b r ≡ t → AreInReach (value_in_module g b) (base_in b) (filter (is_reached g b) us)
        → AreInReach (value_in_module g b) (base_in b) (if t then r ∷ filter (is_reached g b) us else filter (is_reached g b) us)
    by true is more = (second (is_known g (symbols_in b.part) r.symbol) _ is, more)
    by false is more = more

module_reaches : (g : List Symbol) (b : Placement Module)
    → AreInReach (value_in_module g (settled_base g b)) (base_in (settled_base g b)) (flat_map symbol_uses (lines_in (settled_module g b)))
module_reaches g b =
    subst (λ (us : List Reloc). AreInReach (value_in_module g (settled_base g b)) (base_in (settled_base g b)) us) (sym (module_reached g b))
    (subst (λ (v : List ℕ → ℕ). AreInReach v (base_in (settled_base g b)) (filter (is_reached g b) (flat_map symbol_uses (lines_in b.part)))) (sym (value_settled g b))
    (subst (λ (f : ℕ → ℕ). AreInReach (value_in_module g b) f (filter (is_reached g b) (flat_map symbol_uses (lines_in b.part)))) (sym (base_settled g b))
    (left_reach g b (flat_map symbol_uses (lines_in b.part)))))

-- and each statement is formed
value_formed : (g : List Symbol) (b : Placement Module) (v : Value) → IsOfKind Abs32 v → IsOfKind Abs32 (settled_value g b v)
value_formed g b (word.Number n) k = tt
value_formed g b (word.Symbol f) k = by (is_known g (symbols_in b.part) f.symbol)
  where
    by : (t : Bool) → IsOfKind Abs32 (if t then word.Symbol f else word.Number 0)
    by true = k
    by false = tt

values_formed : (g : List Symbol) (b : Placement Module) (vs : List Value) → AllByRecursion (IsOfKind Abs32) vs
    → AllByRecursion (IsOfKind Abs32) (map (settled_value g b) vs)
values_formed g b [] h = tt
values_formed g b (v ∷ vs) h = (value_formed g b v h.0, values_formed g b vs h.1)

body_formed : (g : List Symbol) (b : Placement Module) (a : ℕ) (x : Body) → IsFormedBody x → IsFormedBody (settled_body g b a x)
body_formed g b a (body.Word vs) h =
    All-from_recursion (IsOfKind Abs32) (map (settled_value g b) vs) (values_formed g b vs (recursion_from_All (IsOfKind Abs32) vs h))
body_formed g b a (body.Code i None) h = h
body_formed g b a (body.Code i (Some f)) h = by (is_carried_out g b a f)
  where
    by : (t : Bool) → IsFormedBody (body.Code i (if t then Some f else None))
    by true = h
    by false = (h.0, tt)
body_formed g b a body.Empty h = h
body_formed g b a body.Text h = h
body_formed g b a body.DataSection h = h
body_formed g b a (body.At n) h = h
body_formed g b a (body.Half ns) h = h
body_formed g b a (body.Byte ns) h = h
body_formed g b a (body.Ascii ns) h = h
body_formed g b a (body.Zero n) h = h
body_formed g b a (body.Align n) h = h
body_formed g b a (body.Global n) h = h
body_formed g b a (body.Set n c v) h = h

rows_formed : (g : List Symbol) (b : Placement Module) (c : Counters) (xs : List Statement) → AllByRecursion IsFormedStatement xs
    → AllByRecursion IsFormedStatement (map (settled_statement g b) (located c xs))
unfolding located
rows_formed g b c [] h = tt
rows_formed g b c (x ∷ xs) h =
    let r : Located = record { before = c; statement = x } in
    (body_formed g b (address_in b r) x.body h.0, rows_formed g b (after c x.body) xs h.1)

module_formed : (g : List Symbol) (b : Placement Module) → IsFormedModule b.part → IsFormedModule (settled_module g b)
module_formed g b h =
    All-from_recursion IsFormedStatement (settled_module g b).statements
    (rows_formed g b at_begin b.part.statements (recursion_from_All IsFormedStatement b.part.statements h))

each_settled : (g : List Symbol) (text datas : ℕ) (ms : List Module) → AllByRecursion IsFormedModule ms
    → EachBased (CanFill g) (map (settled_base g) (stood_from section_length text datas ms))
each_settled g text datas [] h = tt
each_settled g text datas (m ∷ ms) h =
    let b : Placement Module = record { part = m; text_at = up_to_multiple 8 text; data_at = up_to_multiple 8 datas } in
    ((module_formed g b h.0, module_reaches g b), each_settled g (up_to_multiple 8 text + section_length 0 m) (up_to_multiple 8 datas + section_length 1 m) ms h.1)

-- the statements of a unit's modules are formed
stood_formed : (text datas : ℕ) (ms : List Module) → AllByRecursion IsFormedModule ms
    → EachBased (λ b. AllFormed b.part.statements) (stood_from section_length text datas ms)
stood_formed text datas [] h = tt
stood_formed text datas (m ∷ ms) h =
    (formed m.statements h.0, stood_formed (up_to_multiple 8 text + section_length 0 m) (up_to_multiple 8 datas + section_length 1 m) ms h.1)

pub each_formed : (u : Source) → IsWellFormed u → EachBased (λ b. AllFormed b.part.statements) (based u)
each_formed u well =
    stood_formed first_text (up_to_multiple page_bytes (text_end section_length first_text u.modules)) u.modules
    (recursion_from_All IsFormedModule u.modules well.each)

-- so each module can be filled
pub unit_fills : (u : Source) → IsWellFormed u → EachBased (CanFill (unit_layout (settled_unit u)).globals) (based (settled_unit u))
unit_fills u well =
    let g = (unit_layout u).globals in
    subst (λ (h : List Symbol). EachBased (CanFill h) (based (settled_unit u))) (sym (globals_settled u))
    (subst (λ (bs : List (Placement Module)). EachBased (CanFill g) bs) (sym (unit_stands u))
    (each_settled g first_text (up_to_multiple page_bytes (text_end section_length first_text u.modules)) u.modules
    (recursion_from_All IsFormedModule u.modules well.each)))

-- the object of a module without what can't be carried out, and the object with what can be
same_value : (g : List Symbol) (b : Placement Module) → value_of_name g (placement b) ≡ value_in_module g b
same_value g b = ap (λ (f : ℕ → ℕ). λ (name : List ℕ). unwrap_or (symbol_meaning g f (symbols_in b.part) name) 0) (same_base b)

resolvable_same : (g : List Symbol) (b : Placement Module) → is_resolvable g (placement b) ≡ is_reached g b
resolvable_same g b = fun_ext (λ r.
    ap (λ (v : List ℕ → ℕ). is_known g (symbols_in b.part) r.symbol && is_in_reach r.kind (target_of v r) (base_of (placement b) r.section + r.offset)) (same_value g b)
    ∙ ap (λ (f : ℕ → ℕ). is_known g (symbols_in b.part) r.symbol && is_in_reach r.kind (target_of (value_in_module g b) r) (f r.section + r.offset)) (same_base b))

-- where they stand
same_place : (g : List Symbol) (b : Placement Module) (p : Place)
    → base_at (resolvable g (placement b)) p ≡ base_at (placement (settled_base g b)) p
same_place g b Text = refl
same_place g b DataSection = refl
same_place g b (At a) = refl

bases_same : (g : List Symbol) (b : Placement Module) → base_of (resolvable g (placement b)) ≡ base_of (placement (settled_base g b))
bases_same g b = base_same g (placement b) ∙ same_base b ∙ sym (base_settled g b) ∙ sym (same_base (settled_base g b))

-- a section comes to the same bytes
spot_same : (g : List Symbol) (b : Placement Module) (k : ℕ) (x : Section)
    → spot g (resolvable g (placement b)) k x ≡ spot g (placement (settled_base g b)) k x
spot_same g b k x =
    let p = resolvable g (placement b) in
    let q = placement (settled_base g b) in
    let uses = flat_map symbol_uses (lines_in b.part) in
    let left : filter (is_resolvable g (placement b)) uses ≡ flat_map symbol_uses (lines_in (settled_module g b)) =
    ap (λ (t : Reloc → Bool). filter t uses) (resolvable_same g b) ∙ sym (module_reached g b) in
    let value : value_of_name g p ≡ value_of_name g q =
    value_same g g (placement b) ∙ same_value g b ∙ sym (value_settled g b) ∙ sym (same_value g (settled_base g b)) in
    let bytes : relocated (value_of_name g p) (base_of p) k (filter (is_resolvable g (placement b)) uses) x.bytes
    ≡ relocated (value_of_name g q) (base_of q) k (flat_map symbol_uses (lines_in (settled_module g b))) x.bytes =
    ap (λ (us : List Reloc). relocated (value_of_name g p) (base_of p) k us x.bytes) left
    ∙ ap (λ (v : List ℕ → ℕ). relocated v (base_of p) k (flat_map symbol_uses (lines_in (settled_module g b))) x.bytes) value
    ∙ ap (λ (f : ℕ → ℕ). relocated (value_of_name g q) f k (flat_map symbol_uses (lines_in (settled_module g b))) x.bytes) (bases_same g b) in
    ap (λ (n : ℕ). let s : Placed = record { at = n; bytes = relocated (value_of_name g p) (base_of p) k (filter (is_resolvable g (placement b)) uses) x.bytes } in s)
    (same_place g b x.place)
    ∙ ap (λ (bs : List ℕ). let s : Placed = record { at = base_at q x.place; bytes = bs } in s) bytes

spots_same : (g : List Symbol) (b : Placement Module) → spots_of g (resolvable g (placement b)) ≡ spots_of g (placement (settled_base g b))
spots_same g b =
    ap (λ (f : ℕ × Section → Placed). map f (enumerate_from 0 (sections_in b.part))) (fun_ext (λ e. spot_same g b e.0 e.1))
    ∙ ap (λ (xs : List Section). map (λ (e : ℕ × Section). spot g (placement (settled_base g b)) e.0 e.1) (enumerate_from 0 xs)) (sym (sections_settled g b))

map_twice : {A B C : Type 0} (f : B → C) (h : A → B) (xs : List A) → map f (map h xs) ≡ map (λ x. f (h x)) xs
map_twice f h [] = refl
map_twice f h (x ∷ xs) = ap (λ ys. f (h x) ∷ ys) (map_twice f h xs)

-- the sections of the forced layout are those of the unit without what can't be carried out
pub linked_spots : (u : Source) → IsWellFormed u → (forced_layout (objects_of u)).spots ≡ (unit_layout (settled_unit u)).spots
linked_spots u well =
    let g = (unit_layout u).globals in
    let ps = stood section_size (objects_of u) in
    ap (λ (k : List Symbol). (layout_at (map (resolvable k) ps)).spots) (globals_law u)
    ∙ ap (λ (k : List Symbol). flat_map (spots_of k) (map (resolvable g) ps)) (forced_globals g ps ∙ globals_law u)
    ∙ ap (λ (ss : List (Placement Object)). flat_map (spots_of g) (map (resolvable g) ss)) (all_stood u)
    ∙ ap (flat_map (spots_of g)) (map_twice (resolvable g) placement (based u))
    ∙ all_same (spots_of g) (λ (b : Placement Module). spots_of g (placement (settled_base g b))) (λ (b : Placement Module). resolvable g (placement b)) (spots_same g) (based u)
    ∙ sym (all_same (spots_of g) (λ (b : Placement Module). spots_of g (placement (settled_base g b))) (λ (b : Placement Module). placement (settled_base g b)) (λ b. refl) (based u))
    ∙ ap (flat_map (spots_of g)) (sym (map_twice placement (settled_base g) (based u)))
    ∙ ap (λ (bs : List (Placement Module)). flat_map (spots_of g) (map placement bs)) (sym (unit_stands u))
    ∙ ap (flat_map (spots_of g)) (sym (all_stood (settled_unit u)))
    ∙ ap (λ (k : List Symbol). flat_map (spots_of k) (stood section_size (objects_of (settled_unit u)))) (sym (globals_law (settled_unit u) ∙ globals_settled u))
    ∙ spots_law (settled_unit u) (unit_fills u well)
