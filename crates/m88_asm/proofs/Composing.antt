-- The layout of the objects of a unit is the layout of the unit.
use Rattle.std.proofs.Common.{ℕ, zero, suc, Bool, true, false, ◌≡◌, ◌+◌, List, [], ◌∷◌, ◌++◌, length, map, refl, ◌∙◌, ap, arith}
use Rattle.std.specs.Prelude.{flat_map, ◌==◌, if◌then◌else◌, slice_get, sum_by, unwrap_or}
use Rattle.std.specs.List.{All, enumerate_from}
use Rattle.std.specs.Option.{option_map_or}
use Rattle.std.proofs.Math.Path.{fun_ext}
use Rattle.std.proofs.lemmas.List.Concat.{length-flat_map}
use Rattle.m88_base.specs.Placed.{Placed}
use Rattle.m88_parse.specs.declared.unit.Module.{Module}
use Rattle.m88_parse.specs.declared.unit.Statement.{Statement}
use Rattle.m88_parse.specs.declared.unit.Unit.{Unit as Source}
use Rattle.m88_parse.specs.WellFormed.{IsFormedModule, IsFormedStatement}
use Rattle.m88_link.specs.declared.object.Object.{Object}
use Rattle.m88_link.specs.declared.object.Place.{Place}
use Rattle.m88_link.specs.declared.object.Place.TheVariants.{Text, DataSection, At}
use Rattle.m88_link.specs.declared.object.Section.{Section}
use Rattle.m88_link.specs.declared.object.Symbol.{Symbol}
use Rattle.m88_base.specs.Pages.{page_bytes}
use Rattle.m88_link.specs.Bases.{Placement, base_at, base_of, first_text, section_size, stood, stood_from, text_end, up_to_multiple}
use Rattle.m88_link.specs.Layout.{Extent, extent, extents_of, globals_of, layout_of, reference, references_of, spot, spots_of, value_of_name}
use Rattle.m88_link.specs.Relocated.{relocated}
use Rattle.m88_link.specs.Symbols.{exported, symbol_meaning}
use Rattle.m88_asm.specs.Counters.{Located, at_begin, place_of, section_of}
use Rattle.m88_asm.specs.Filled.{waiting_bytes}
use Rattle.m88_asm.specs.Objects.{Head, heads_in, lines_in, object_of, objects_of, section_bytes, section_under, symbols_in, symbol_uses, waiting_in}
use Rattle.m88_asm.specs.Units.{base_in, based, extent_under, extents_in, globals_in, length_in, references_in, section_length, spot_under, spots_in, unit_layout, value_in_module}
use Rattle.m88_asm.proofs.Relocating.{AllFormed, AreInReach, length-waiting_bytes, rows_law}

through : {A B : Type 0} (f : A → B) (b : Bool) (x y : A) → f (if b then x else y) ≡ (if b then f x else f y)
through f true x y = refl
through f false x y = refl

-- a section has as many bytes as its statements give

length-waiting_in : (k : ℕ) (r : Located) → length (waiting_in k r) ≡ length_in k r
length-waiting_in k r =
    through length (section_of r == k) (waiting_bytes (place_of r) r.statement.body) []
    ∙ ap (λ n. if section_of r == k then n else 0) (length-waiting_bytes (place_of r) r.statement.body)

length-section : (m : Module) (k : ℕ) → length (section_bytes m k) ≡ section_length k m
length-section m k = length-flat_map (waiting_in k) (lines_in m) ∙ ap (λ f. sum_by f (lines_in m)) (fun_ext (length-waiting_in k))

-- an object where its module stands

abbrev pub placement : Placement Module → Placement Object
placement b = record { part = object_of b.part; text_at = b.text_at; data_at = b.data_at }

stood-objects : (text datas : ℕ) (ms : List Module) → stood_from section_size text datas (map object_of ms) ≡ map placement (stood_from section_length text datas ms)
stood-objects text datas [] = refl
stood-objects text datas (m ∷ ms) =
    let b : Placement Module = record { part = m; text_at = up_to_multiple 8 text; data_at = up_to_multiple 8 datas } in
    ap (λ ss. placement b ∷ ss)
    (ap (λ n. stood_from section_size (up_to_multiple 8 text + n) (up_to_multiple 8 datas + length (section_bytes m 1)) (map object_of ms)) (length-section m 0)
    ∙ ap (λ n. stood_from section_size (up_to_multiple 8 text + section_length 0 m) (up_to_multiple 8 datas + n) (map object_of ms)) (length-section m 1)
    ∙ stood-objects (up_to_multiple 8 text + section_length 0 m) (up_to_multiple 8 datas + section_length 1 m) ms)

text_end-objects : (text : ℕ) (ms : List Module) → text_end section_size text (map object_of ms) ≡ text_end section_length text ms
text_end-objects text [] = refl
text_end-objects text (m ∷ ms) =
    ap (λ n. text_end section_size (up_to_multiple 8 text + n) (map object_of ms)) (length-section m 0) ∙ text_end-objects (up_to_multiple 8 text + section_length 0 m) ms

pub all_stood : (u : Source) → stood section_size (objects_of u) ≡ map placement (based u)
all_stood u =
    ap (λ n. stood_from section_size first_text (up_to_multiple page_bytes n) (objects_of u)) (text_end-objects first_text u.modules)
    ∙ stood-objects first_text (up_to_multiple page_bytes (text_end section_length first_text u.modules)) u.modules

-- the bases of its sections

same_address : (b : Placement Module) (p : Place) → base_at (placement b) p ≡ base_at b p
same_address b Text = refl
same_address b DataSection = refl
same_address b (At a) = refl

pub under_head : (m : Module) (f : Place → ℕ) (n : ℕ) (hs : List Head) (k : ℕ)
    → option_map_or (λ (x : Section). f x.place) (slice_get (map (section_under m) (enumerate_from n hs)) k) 0
    ≡ option_map_or (λ (h : Head). f h.place) (slice_get hs k) 0
under_head m f n [] k = refl
under_head m f n (h ∷ hs) zero = refl
under_head m f n (h ∷ hs) (suc k) = under_head m f (n + 1) hs k

same_base_at : (b : Placement Module) (k : ℕ) → base_of (placement b) k ≡ base_in b k
same_base_at b k =
    under_head b.part (base_at (placement b)) 0 (heads_in b.part) k
    ∙ ap (λ f. option_map_or (λ (h : Head). f h.place) (slice_get (heads_in b.part) k) 0) (fun_ext (same_address b))

pub same_base : (b : Placement Module) → base_of (placement b) ≡ base_in b
same_base b = fun_ext (same_base_at b)

-- the parts of the layout

same_globals : (b : Placement Module) → globals_of (placement b) ≡ globals_in b
same_globals b = ap (λ f. exported f (symbols_in b.part)) (same_base b)

same_references : (globals : List Symbol) (b : Placement Module) → references_of globals (placement b) ≡ references_in globals b
same_references globals b = ap (λ f. map (reference globals f (symbols_in b.part)) (flat_map symbol_uses (lines_in b.part))) (same_base b)

same_extent : (b : Placement Module) (e : ℕ × Head) → extent (placement b) (section_under b.part e) ≡ extent_under b e
same_extent b e =
    ap (λ n. let x : Extent = record { at = n; len = length (section_bytes b.part e.0); line = e.1.line } in x) (same_address b e.1.place)
    ∙ ap (λ n. let x : Extent = record { at = base_at b e.1.place; len = n; line = e.1.line } in x) (length-section b.part e.0)

map_twice : {A B C : Type 0} (f : B → C) (g : A → B) (h : A → C) (xs : List A) → ((x : A) → f (g x) ≡ h x) → map f (map g xs) ≡ map h xs
map_twice f g h [] e = refl
map_twice f g h (x ∷ xs) e = ap (λ y. y ∷ map f (map g xs)) (e x) ∙ ap (λ ys. h x ∷ ys) (map_twice f g h xs e)

same_extents : (b : Placement Module) → extents_of (placement b) ≡ extents_in b
same_extents b = map_twice (extent (placement b)) (section_under b.part) (extent_under b) (enumerate_from 0 (heads_in b.part)) (same_extent b)

numbered : (m : Module) (n : ℕ) (hs : List Head)
    → enumerate_from n (map (section_under m) (enumerate_from n hs)) ≡ map (λ (e : ℕ × Head). (e.0, section_under m e)) (enumerate_from n hs)
numbered m n [] = refl
numbered m n (h ∷ hs) = ap (λ es. (n, section_under m (n, h)) ∷ es) (numbered m (n + 1) hs)

same_value : (globals : List Symbol) (b : Placement Module) → value_of_name globals (placement b) ≡ value_in_module globals b
same_value globals b = ap (λ f. λ name. unwrap_or (symbol_meaning globals f (symbols_in b.part) name) 0) (same_base b)

-- each symbol of a module can be replaced
abbrev pub CanReach : List Symbol → Placement Module → Type 0
CanReach globals b = AreInReach (value_in_module globals b) (base_in b) (flat_map symbol_uses (lines_in b.part))

pub formed : (xs : List Statement) → All IsFormedStatement xs → AllFormed xs
formed [] h = tt
formed (x ∷ xs) h = (h 0 x (omega arith), formed xs (λ k d l. h (suc k) d (omega arith)))

same_spot : (globals : List Symbol) (b : Placement Module) → IsFormedModule b.part → CanReach globals b → (e : ℕ × Head)
    → spot globals (placement b) e.0 (section_under b.part e) ≡ spot_under globals b e
same_spot globals b f r e =
    let uses = flat_map symbol_uses (lines_in b.part) in
    ap (λ n. let x : Placed = record { at = n; bytes = relocated (value_of_name globals (placement b)) (base_of (placement b)) e.0 uses (section_bytes b.part e.0) } in x)
    (same_address b e.1.place)
    ∙ ap (λ (bytes : List ℕ). let x : Placed = record { at = base_at b e.1.place; bytes = bytes } in x)
    (ap (λ v. relocated v (base_of (placement b)) e.0 uses (section_bytes b.part e.0)) (same_value globals b)
    ∙ ap (λ v. relocated (value_in_module globals b) v e.0 uses (section_bytes b.part e.0)) (same_base b)
    ∙ rows_law (value_in_module globals b) (base_in b) e.0 at_begin b.part.statements [] (formed b.part.statements f) refl r)

same_spots : (globals : List Symbol) (b : Placement Module) → IsFormedModule b.part → CanReach globals b → spots_of globals (placement b) ≡ spots_in globals b
same_spots globals b f r =
    ap (map (λ (e : ℕ × Section). spot globals (placement b) e.0 e.1)) (numbered b.part 0 (heads_in b.part))
    ∙ map_twice (λ (e : ℕ × Section). spot globals (placement b) e.0 e.1) (λ (e : ℕ × Head). (e.0, section_under b.part e)) (spot_under globals b)
    (enumerate_from 0 (heads_in b.part)) (same_spot globals b f r)

-- over all modules

each_same : {A : Type 0} (f : Placement Object → List A) (g : Placement Module → List A) (bs : List (Placement Module)) → ((b : Placement Module) → f (placement b) ≡ g b)
    → flat_map f (map placement bs) ≡ flat_map g bs
each_same f g [] e = refl
each_same f g (b ∷ bs) e = ap (λ xs. xs ++ flat_map f (map placement bs)) (e b) ∙ ap (λ xs. g b ++ xs) (each_same f g bs e)

abbrev pub EachBased : (Placement Module → Type 0) → List (Placement Module) → Type 0
EachBased P [] = Unit {0}
EachBased P (b ∷ bs) = P b × EachBased P bs

each_same_where : {A : Type 0} (P : Placement Module → Type 0) (f : Placement Object → List A) (g : Placement Module → List A) (bs : List (Placement Module)) → EachBased P bs
    → ((b : Placement Module) → P b → f (placement b) ≡ g b) → flat_map f (map placement bs) ≡ flat_map g bs
each_same_where P f g [] h e = refl
each_same_where P f g (b ∷ bs) h e = ap (λ xs. xs ++ flat_map f (map placement bs)) (e b h.0) ∙ ap (λ xs. g b ++ xs) (each_same_where P f g bs h.1 e)

pub globals_law : (u : Source) → (layout_of (objects_of u)).globals ≡ (unit_layout u).globals
globals_law u = ap (flat_map globals_of) (all_stood u) ∙ each_same globals_of globals_in (based u) same_globals

pub references_law : (u : Source) → (layout_of (objects_of u)).references ≡ (unit_layout u).references
references_law u =
    ap (λ ss. flat_map (references_of (flat_map globals_of ss)) ss) (all_stood u)
    ∙ ap (λ gs. flat_map (references_of gs) (map placement (based u))) (each_same globals_of globals_in (based u) same_globals)
    ∙ each_same (references_of (unit_layout u).globals) (references_in (unit_layout u).globals) (based u) (same_references (unit_layout u).globals)

pub extents_law : (u : Source) → (layout_of (objects_of u)).extents ≡ (unit_layout u).extents
extents_law u = ap (flat_map extents_of) (all_stood u) ∙ each_same extents_of extents_in (based u) same_extents

-- each module of a unit is formed, and can be filled
abbrev pub CanFill : List Symbol → Placement Module → Type 0
CanFill globals b = IsFormedModule b.part × CanReach globals b

pub spots_law : (u : Source) → EachBased (CanFill (unit_layout u).globals) (based u) → (layout_of (objects_of u)).spots ≡ (unit_layout u).spots
spots_law u h =
    ap (λ ss. flat_map (spots_of (flat_map globals_of ss)) ss) (all_stood u)
    ∙ ap (λ gs. flat_map (spots_of gs) (map placement (based u))) (each_same globals_of globals_in (based u) same_globals)
    ∙ each_same_where (CanFill (unit_layout u).globals) (spots_of (unit_layout u).globals) (spots_in (unit_layout u).globals) (based u) h
    (λ b p. same_spots (unit_layout u).globals b p.0 p.1)
