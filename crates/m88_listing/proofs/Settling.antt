-- A unit without what can't be carried out stands as the unit does: the same lengths, sections, symbols and faults.
use Rattle.std.proofs.Common.{◌≡◌, ℕ, ◌+◌, ◌*◌, Bool, true, false, List, [], ◌∷◌, ◌++◌, map, refl, sym, ap, ◌∙◌, Option, Some, None}
use Rattle.std.specs.Prelude.{◌==◌, ◌%◌, ◌^◌, ◌||◌, bytes_eq, flat_map, if◌then◌else◌, nat_lt, slice_get, sum_by}
use Rattle.std.specs.List.{enumerate_from, list_any}
use Rattle.std.specs.Option.{option_map, option_map_or, option_or}
use Rattle.std.specs.Int.{to_be_bytes, w32}
use Rattle.std.proofs.Math.Path.{fun_ext}
use Rattle.std.proofs.lemmas.List.{length-map}
use Rattle.std.proofs.lemmas.List.Sums.{sum_by-cons}
use Rattle.m88_base.specs.Image.{first_text, most_bytes}
use Rattle.m88_base.specs.Pages.{page_bytes}
use Rattle.m88_parse.specs.declared.unit.Body.{Body}
use Rattle.m88_parse.specs.declared.unit.Body.TheVariants as body
use Rattle.m88_parse.specs.declared.unit.Module.{Module}
use Rattle.m88_parse.specs.declared.unit.Statement.{Statement}
use Rattle.m88_parse.specs.declared.unit.Unit.{Unit as Source}
use Rattle.m88_parse.specs.declared.unit.Value.{Value}
use Rattle.m88_parse.specs.declared.unit.Value.TheVariants as word
use Rattle.m88_link.specs.Bases.{Placement, base_at, stood, stood_from, text_end, up_to_multiple}
use Rattle.m88_link.specs.Layout.{Extent}
use Rattle.m88_link.specs.Sound.{start_name}
use Rattle.m88_link.specs.Symbols.{exported, is_known, repeated_after, value_in}
use Rattle.m88_link.specs.declared.object.Place.{Place}
use Rattle.m88_link.specs.declared.object.Place.TheVariants.{Text, DataSection, At}
use Rattle.m88_link.specs.declared.object.Section.{Section}
use Rattle.m88_link.specs.declared.object.Symbol.{Symbol}
use Rattle.m88_link.proofs.Laws.{all_same}
use Rattle.m88_asm.specs.Counters.{Counters, Located, after, at_begin, at_section, here_at, length_at, length_of, located, offset_here, offset_of, place_here, place_of, section_of, with_length}
use Rattle.m88_asm.specs.Faults.{alignment_of, duplicate_at, fault_in, misfit_at, misplaced_at, module_fault, modules_fault, statements_fault, too_large_at, unit_fault}
use Rattle.m88_asm.specs.Filled.{waiting_bytes, waiting_word}
use Rattle.m88_asm.specs.Objects.{Head, declares, first_heads, heads_in, is_global, lines_in, marked, opened_by, opens, section_bytes, section_under, sections_in, sets_at, labels_at, symbols_in, symbols_of, waiting_in}
use Rattle.m88_asm.specs.Units.{address_in, base_in, based, extent_under, extents_in, globals_in, length_in, section_length, unit_layout}
use Rattle.m88_asm.specs.declared.fault.AsmFault.{AsmFault}
use Rattle.m88_asm.specs.declared.fault.AsmKind.TheVariants as kind
use Rattle.m88_listing.specs.Inside.Slots.{slots_at, slots_from, slots_of}
use Rattle.m88_listing.specs.Rows.{named_by, shown_as}
use Rattle.m88_listing.specs.Settled.{settled_body, settled_module, settled_statement, settled_unit, settled_value}
use Rattle.m88_listing.specs.declared.slots.Shown.{Shown}
use Rattle.m88_listing.specs.declared.slots.Shown.TheVariants as shown
use Rattle.m88_listing.specs.declared.slots.Slot.{Slot}

-- a statement so where it stands, and a module
abbrev pub settled_line : List Symbol → Placement Module → Located → Located
settled_line g b r = record { before = r.before; statement = settled_statement g b r }

abbrev pub settled_base : List Symbol → Placement Module → Placement Module
settled_base g b = record { part = settled_module g b; text_at = b.text_at; data_at = b.data_at }

-- a body so gives as many bytes, in the same section
pub same_section : (g : List Symbol) (b : Placement Module) (a : ℕ) (c : Counters) (x : Body) → at_section c (settled_body g b a x) ≡ at_section c x
same_section g b a c (body.Word vs) = refl
same_section g b a c (body.Code i None) = refl
same_section g b a c (body.Code i (Some f)) = refl
same_section g b a c _ = refl

pub same_here : (g : List Symbol) (b : Placement Module) (a : ℕ) (c : Counters) (x : Body) → here_at c (settled_body g b a x) ≡ here_at c x
same_here g b a c (body.Word vs) = refl
same_here g b a c (body.Code i None) = refl
same_here g b a c (body.Code i (Some f)) = refl
same_here g b a c _ = refl

pub same_length : (g : List Symbol) (b : Placement Module) (a place : ℕ) (x : Body) → length_at place (settled_body g b a x) ≡ length_at place x
same_length g b a place (body.Word vs) = ap (λ (n : ℕ). 4 * n) (length-map vs (settled_value g b))
same_length g b a place (body.Code i None) = refl
same_length g b a place (body.Code i (Some f)) = refl
same_length g b a place _ = refl

pub same_after : (g : List Symbol) (b : Placement Module) (a : ℕ) (c : Counters) (x : Body) → after c (settled_body g b a x) ≡ after c x
same_after g b a c x =
    ap (λ (s : Counters). with_length s (length_at (place_here s) (settled_body g b a x))) (same_section g b a c x)
    ∙ ap (with_length (at_section c x)) (same_length g b a (place_here (at_section c x)) x)

-- what is said of a body beside its bytes
same_opened : (g : List Symbol) (b : Placement Module) (a line : ℕ) (x : Body) → opened_by line (settled_body g b a x) ≡ opened_by line x
same_opened g b a line (body.Word vs) = refl
same_opened g b a line (body.Code i None) = refl
same_opened g b a line (body.Code i (Some f)) = refl
same_opened g b a line _ = refl

same_sets : (g : List Symbol) (b : Placement Module) (a line : ℕ) (x : Body) → sets_at line (settled_body g b a x) ≡ sets_at line x
same_sets g b a line (body.Word vs) = refl
same_sets g b a line (body.Code i None) = refl
same_sets g b a line (body.Code i (Some f)) = refl
same_sets g b a line _ = refl

same_alignment : (g : List Symbol) (b : Placement Module) (a : ℕ) (x : Body) → alignment_of (settled_body g b a x) ≡ alignment_of x
same_alignment g b a (body.Word vs) = refl
same_alignment g b a (body.Code i None) = refl
same_alignment g b a (body.Code i (Some f)) = refl
same_alignment g b a _ = refl

same_shown : (g : List Symbol) (b : Placement Module) (a : ℕ) (x : Body) → shown_as (settled_body g b a x) ≡ shown_as x
same_shown g b a (body.Word vs) = refl
same_shown g b a (body.Code i None) = refl
same_shown g b a (body.Code i (Some f)) = refl
same_shown g b a _ = refl

same_word : (g : List Symbol) (b : Placement Module) (v : Value) → waiting_word (settled_value g b v) ≡ waiting_word v
same_word g b (word.Number n) = refl
same_word g b (word.Symbol f) = by (is_known g (symbols_in b.part) f.symbol)
  where
    by : (t : Bool) → waiting_word (if t then word.Symbol f else word.Number 0) ≡ 0
    by true = refl
    by false = refl

same_words : (g : List Symbol) (b : Placement Module) (vs : List Value)
    → flat_map (λ v. to_be_bytes w32 (waiting_word v)) (map (settled_value g b) vs) ≡ flat_map (λ v. to_be_bytes w32 (waiting_word v)) vs
same_words g b [] = refl
same_words g b (v ∷ vs) =
    ap (λ (n : ℕ). to_be_bytes w32 n ++ flat_map (λ w. to_be_bytes w32 (waiting_word w)) (map (settled_value g b) vs)) (same_word g b v)
    ∙ ap (λ (bytes : List ℕ). to_be_bytes w32 (waiting_word v) ++ bytes) (same_words g b vs)

same_waiting : (g : List Symbol) (b : Placement Module) (a place : ℕ) (x : Body) → waiting_bytes place (settled_body g b a x) ≡ waiting_bytes place x
same_waiting g b a place (body.Word vs) = same_words g b vs
same_waiting g b a place (body.Code i None) = refl
same_waiting g b a place (body.Code i (Some f)) = refl
same_waiting g b a place _ = refl

-- and so of a statement where it stands
pub section_same : (g : List Symbol) (b : Placement Module) (r : Located) → section_of (settled_line g b r) ≡ section_of r
section_same g b r = same_here g b (address_in b r) r.before r.statement.body

pub offset_same : (g : List Symbol) (b : Placement Module) (r : Located) → offset_of (settled_line g b r) ≡ offset_of r
offset_same g b r = ap offset_here (same_section g b (address_in b r) r.before r.statement.body)

pub place_same : (g : List Symbol) (b : Placement Module) (r : Located) → place_of (settled_line g b r) ≡ place_of r
place_same g b r = ap place_here (same_section g b (address_in b r) r.before r.statement.body)

pub length_same : (g : List Symbol) (b : Placement Module) (r : Located) → length_of (settled_line g b r) ≡ length_of r
length_same g b r =
    ap (λ (n : ℕ). length_at n (settled_body g b (address_in b r) r.statement.body)) (place_same g b r)
    ∙ same_length g b (address_in b r) (place_of r) r.statement.body

symbols_same : (g : List Symbol) (b : Placement Module) (r : Located) → symbols_of (settled_line g b r) ≡ symbols_of r
symbols_same g b r =
    ap (λ (xs : List Symbol). labels_at r.before r.statement.line r.statement.label ++ xs) (same_sets g b (address_in b r) r.statement.line r.statement.body)

named_same : (g : List Symbol) (b : Placement Module) (r : Located) → named_by (settled_line g b r) ≡ named_by r
named_same g b r =
    ap (λ (xs : List Symbol). slice_get (xs ++ labels_at r.before r.statement.line r.statement.label) 0)
    (same_sets g b (address_in b r) r.statement.line r.statement.body)

-- the statements of a module
pub located_settled : (g : List Symbol) (b : Placement Module) (c : Counters) (xs : List Statement)
    → located c (map (settled_statement g b) (located c xs)) ≡ map (settled_line g b) (located c xs)
unfolding located
located_settled g b c [] = refl
located_settled g b c (x ∷ xs) =
    let r : Located = record { before = c; statement = x } in
    let rest = located (after c x.body) xs in
    ap (λ (d : Counters). settled_line g b r ∷ located d (map (settled_statement g b) rest)) (same_after g b (address_in b r) c x.body)
    ∙ ap (λ (ls : List Located). settled_line g b r ∷ ls) (located_settled g b (after c x.body) xs)

pub lines_settled : (g : List Symbol) (b : Placement Module) → lines_in (settled_module g b) ≡ map (settled_line g b) (lines_in b.part)
lines_settled g b = located_settled g b at_begin b.part.statements

-- what is the same of each is the same of their sum
sums_same : {A B : Type 0} (f : B → ℕ) (h : A → ℕ) (change : A → B) → ((x : A) → f (change x) ≡ h x) → (xs : List A)
    → sum_by f (map change xs) ≡ sum_by h xs
sums_same f h change one [] = refl
sums_same f h change one (x ∷ xs) =
    sum_by-cons f (change x) (map change xs)
    ∙ ap (λ (n : ℕ). n + sum_by f (map change xs)) (one x)
    ∙ ap (λ (n : ℕ). h x + n) (sums_same f h change one xs)
    ∙ sym (sum_by-cons h x xs)

-- a module's sections
heads_settled : (g : List Symbol) (b : Placement Module) → heads_in (settled_module g b) ≡ heads_in b.part
heads_settled g b =
    ap (λ (hs : List Head). first_heads b.part.line ++ hs)
    (ap (flat_map opens) (lines_settled g b)
    ∙ all_same opens opens (settled_line g b) (λ r. same_opened g b (address_in b r) r.statement.line r.statement.body) (lines_in b.part))

length_in_same : (g : List Symbol) (b : Placement Module) (k : ℕ) (r : Located) → length_in k (settled_line g b r) ≡ length_in k r
length_in_same g b k r =
    ap (λ (n : ℕ). if n == k then length_of (settled_line g b r) else 0) (section_same g b r)
    ∙ ap (λ (n : ℕ). if section_of r == k then n else 0) (length_same g b r)

pub size_settled : (g : List Symbol) (k : ℕ) (b : Placement Module) → section_length k (settled_module g b) ≡ section_length k b.part
size_settled g k b =
    ap (sum_by (length_in k)) (lines_settled g b)
    ∙ sums_same (length_in k) (length_in k) (settled_line g b) (length_in_same g b k) (lines_in b.part)

waiting_in_same : (g : List Symbol) (b : Placement Module) (k : ℕ) (r : Located) → waiting_in k (settled_line g b r) ≡ waiting_in k r
waiting_in_same g b k r =
    let y = settled_body g b (address_in b r) r.statement.body in
    ap (λ (n : ℕ). if n == k then waiting_bytes (place_of (settled_line g b r)) y else []) (section_same g b r)
    ∙ ap (λ (n : ℕ). if section_of r == k then waiting_bytes n y else []) (place_same g b r)
    ∙ ap (λ (bytes : List ℕ). if section_of r == k then bytes else []) (same_waiting g b (address_in b r) (place_of r) r.statement.body)

bytes_settled : (g : List Symbol) (b : Placement Module) (k : ℕ) → section_bytes (settled_module g b) k ≡ section_bytes b.part k
bytes_settled g b k =
    ap (flat_map (waiting_in k)) (lines_settled g b)
    ∙ all_same (waiting_in k) (waiting_in k) (settled_line g b) (waiting_in_same g b k) (lines_in b.part)

pub sections_settled : (g : List Symbol) (b : Placement Module) → sections_in (settled_module g b) ≡ sections_in b.part
sections_settled g b =
    ap (λ (hs : List Head). map (section_under (settled_module g b)) (enumerate_from 0 hs)) (heads_settled g b)
    ∙ ap (λ (f : ℕ × Head → Section). map f (enumerate_from 0 (heads_in b.part)))
    (fun_ext (λ e. ap (λ (bytes : List ℕ). let s : Section = record { place = e.1.place; bytes = bytes; line = e.1.line } in s) (bytes_settled g b e.0)))

-- where they stand
base_at_same : (g : List Symbol) (b : Placement Module) (p : Place) → base_at (settled_base g b) p ≡ base_at b p
base_at_same g b Text = refl
base_at_same g b DataSection = refl
base_at_same g b (At a) = refl

pub base_settled : (g : List Symbol) (b : Placement Module) → base_in (settled_base g b) ≡ base_in b
base_settled g b = fun_ext (λ k.
    ap (λ (hs : List Head). option_map_or (λ (h : Head). base_at (settled_base g b) h.place) (slice_get hs k) 0) (heads_settled g b)
    ∙ by (slice_get (heads_in b.part) k))
  where
    by : (o : Option Head)
        → option_map_or (λ (h : Head). base_at (settled_base g b) h.place) o 0 ≡ option_map_or (λ (h : Head). base_at b h.place) o 0
    by None = refl
    by (Some h) = base_at_same g b h.place

extent_same : (g : List Symbol) (b : Placement Module) (e : ℕ × Head) → extent_under (settled_base g b) e ≡ extent_under b e
extent_same g b e =
    ap (λ (n : ℕ). let x : Extent = record { at = n; len = section_length e.0 (settled_module g b); line = e.1.line } in x) (base_at_same g b e.1.place)
    ∙ ap (λ (n : ℕ). let x : Extent = record { at = base_at b e.1.place; len = n; line = e.1.line } in x) (size_settled g e.0 b)

pub extents_settled : (g : List Symbol) (b : Placement Module) → extents_in (settled_base g b) ≡ extents_in b
extents_settled g b =
    ap (λ (hs : List Head). map (extent_under (settled_base g b)) (enumerate_from 0 hs)) (heads_settled g b)
    ∙ ap (λ (f : ℕ × Head → Extent). map f (enumerate_from 0 (heads_in b.part))) (fun_ext (extent_same g b))

-- parts made of parts where these stand, of the same sizes, stand there
abbrev pub made : {A B : Type 0} → (Placement A → B) → Placement A → Placement B
made f p = record { part = f p; text_at = p.text_at; data_at = p.data_at }

ends_made : {A B : Type 0} (s : ℕ → A → ℕ) (t : ℕ → B → ℕ) (f : Placement A → B) → ((k : ℕ) (p : Placement A) → t k (f p) ≡ s k p.part)
    → (end text datas : ℕ) (xs : List A) → text_end t end (map f (stood_from s text datas xs)) ≡ text_end s end xs
ends_made {A} s t f same end text datas [] = refl
ends_made {A} s t f same end text datas (x ∷ xs) =
    let p : Placement A = record { part = x; text_at = up_to_multiple 8 text; data_at = up_to_multiple 8 datas } in
    ap (λ (n : ℕ). text_end t (up_to_multiple 8 end + n) (map f (stood_from s (up_to_multiple 8 text + s 0 x) (up_to_multiple 8 datas + s 1 x) xs))) (same 0 p)
    ∙ ends_made s t f same (up_to_multiple 8 end + s 0 x) (up_to_multiple 8 text + s 0 x) (up_to_multiple 8 datas + s 1 x) xs

made_from : {A B : Type 0} (s : ℕ → A → ℕ) (t : ℕ → B → ℕ) (f : Placement A → B) → ((k : ℕ) (p : Placement A) → t k (f p) ≡ s k p.part)
    → (text datas : ℕ) (xs : List A) → stood_from t text datas (map f (stood_from s text datas xs)) ≡ map (made f) (stood_from s text datas xs)
made_from {A} s t f same text datas [] = refl
made_from {A} s t f same text datas (x ∷ xs) =
    let p : Placement A = record { part = x; text_at = up_to_multiple 8 text; data_at = up_to_multiple 8 datas } in
    let rest = map f (stood_from s (up_to_multiple 8 text + s 0 x) (up_to_multiple 8 datas + s 1 x) xs) in
    ap (λ (n : ℕ). made f p ∷ stood_from t (up_to_multiple 8 text + n) (up_to_multiple 8 datas + t 1 (f p)) rest) (same 0 p)
    ∙ ap (λ (n : ℕ). made f p ∷ stood_from t (up_to_multiple 8 text + s 0 x) (up_to_multiple 8 datas + n) rest) (same 1 p)
    ∙ ap (λ ps. made f p ∷ ps) (made_from s t f same (up_to_multiple 8 text + s 0 x) (up_to_multiple 8 datas + s 1 x) xs)

pub made_stood : {A B : Type 0} (s : ℕ → A → ℕ) (t : ℕ → B → ℕ) (f : Placement A → B) → ((k : ℕ) (p : Placement A) → t k (f p) ≡ s k p.part)
    → (xs : List A) → stood t (map f (stood s xs)) ≡ map (made f) (stood s xs)
made_stood s t f same xs =
    let first = up_to_multiple page_bytes (text_end s first_text xs) in
    ap (λ (n : ℕ). stood_from t first_text (up_to_multiple page_bytes n) (map f (stood s xs))) (ends_made s t f same first_text first_text first xs)
    ∙ made_from s t f same first_text first xs

pub unit_stands : (u : Source) → based (settled_unit u) ≡ map (settled_base (unit_layout u).globals) (based u)
unit_stands u = let g = (unit_layout u).globals in made_stood section_length section_length (settled_module g) (size_settled g) u.modules

-- symbols: a statement is the `.global` of a name
abbrev declared : List ℕ → Statement → Bool
declared name x = declares name x.body

same_global : (g : List Symbol) (b : Placement Module) (a : ℕ) (name : List ℕ) (line col : ℕ) (label : Option (List ℕ × ℕ)) (x : Body)
    → is_global (record { line = line; label = label; col = col; body = settled_body g b a x } ∷ []) name
    ≡ is_global (record { line = line; label = label; col = col; body = x } ∷ []) name
same_global g b a name line col label (body.Word vs) = refl
same_global g b a name line col label (body.Code i None) = refl
same_global g b a name line col label (body.Code i (Some f)) = refl
same_global g b a name line col label _ = refl

split_or : (s t r : Bool) → (s || (t || r)) ≡ ((s || (t || false)) || (s || r))
split_or true t r = refl
split_or false true r = refl
split_or false false r = refl

split_any : (p : Statement → Bool) (s : Bool) (x : Statement) (xs : List Statement)
    → (s || list_any p (x ∷ xs)) ≡ ((s || list_any p (x ∷ [])) || (s || list_any p xs))
split_any p s x xs = split_or s (p x) (list_any p xs)

global_same : (g : List Symbol) (b : Placement Module) (name : List ℕ) (c : Counters) (xs : List Statement)
    → is_global (map (settled_statement g b) (located c xs)) name ≡ is_global xs name
unfolding located
global_same g b name c [] = refl
global_same g b name c (x ∷ xs) =
    let r : Located = record { before = c; statement = x } in
    let rest = map (settled_statement g b) (located (after c x.body) xs) in
    split_any (declared name) (bytes_eq name start_name) (settled_statement g b r) rest
    ∙ ap (λ (t : Bool). t || is_global rest name) (same_global g b (address_in b r) name x.line x.col x.label x.body)
    ∙ ap (λ (t : Bool). is_global (x ∷ []) name || t) (global_same g b name (after c x.body) xs)
    ∙ sym (split_any (declared name) (bytes_eq name start_name) x xs)

marked_same : (g : List Symbol) (b : Placement Module) (s : Symbol) → marked (settled_module g b).statements s ≡ marked b.part.statements s
marked_same g b s =
    ap (λ (t : Bool). let x : Symbol = record { name = s.name; global = t; section = s.section; value = s.value; line = s.line; col = s.col } in x)
    (global_same g b s.name at_begin b.part.statements)

pub symbols_settled : (g : List Symbol) (b : Placement Module) → symbols_in (settled_module g b) ≡ symbols_in b.part
symbols_settled g b =
    ap (λ (xs : List Symbol). map (marked (settled_module g b).statements) xs)
    (ap (flat_map symbols_of) (lines_settled g b) ∙ all_same symbols_of symbols_of (settled_line g b) (symbols_same g b) (lines_in b.part))
    ∙ ap (λ (f : Symbol → Symbol). map f (flat_map symbols_of (lines_in b.part))) (fun_ext (marked_same g b))

globals_same : (g : List Symbol) (b : Placement Module) → globals_in (settled_base g b) ≡ globals_in b
globals_same g b =
    ap (λ (f : ℕ → ℕ). exported f (symbols_in (settled_module g b))) (base_settled g b) ∙ ap (exported (base_in b)) (symbols_settled g b)

pub globals_settled : (u : Source) → (unit_layout (settled_unit u)).globals ≡ (unit_layout u).globals
globals_settled u =
    let g = (unit_layout u).globals in
    ap (flat_map globals_in) (unit_stands u) ∙ all_same globals_in globals_in (settled_base g) (globals_same g) (based u)

pub unit_extents : (u : Source) → (unit_layout (settled_unit u)).extents ≡ (unit_layout u).extents
unit_extents u =
    let g = (unit_layout u).globals in
    ap (flat_map extents_in) (unit_stands u) ∙ all_same extents_in extents_in (settled_base g) (extents_settled g) (based u)

-- what is kept of its statements
slot_same : (g : List Symbol) (b : Placement Module) (r : Located) → slots_at (settled_base g b) (settled_line g b r) ≡ slots_at b r
slot_same g b r =
    let q = settled_line g b r in
    let x = r.statement in
    ap (λ (f : ℕ → ℕ). rows f (f (section_of q) + offset_of q) (length_of q) (shown_as q.statement.body) (named_by q)) (base_settled g b)
    ∙ ap (λ (n : ℕ). rows (base_in b) (base_in b n + offset_of q) (length_of q) (shown_as q.statement.body) (named_by q)) (section_same g b r)
    ∙ ap (λ (n : ℕ). rows (base_in b) (base_in b (section_of r) + n) (length_of q) (shown_as q.statement.body) (named_by q)) (offset_same g b r)
    ∙ ap (λ (n : ℕ). rows (base_in b) (address_in b r) n (shown_as q.statement.body) (named_by q)) (length_same g b r)
    ∙ ap (λ k. rows (base_in b) (address_in b r) (length_of r) k (named_by q)) (same_shown g b (address_in b r) x.body)
    ∙ ap (rows (base_in b) (address_in b r) (length_of r) (shown_as x.body)) (named_same g b r)
  where
    rows : (ℕ → ℕ) → ℕ → ℕ → Shown → Option Symbol → List Slot
    rows base at len how named =
        if len == 0
        then option_map_or (λ (s : Symbol). (record { line = s.line; at = value_in base s; len = 0; shown = option_map_or (λ _. shown.Bytes) s.section shown.Value }) ∷ []) named []
        else record { line = r.statement.line; at = at; len = len; shown = how } ∷ []

slots_same : (g : List Symbol) (b : Placement Module) (c : Counters) (xs : List Statement)
    → slots_from (settled_base g b) c (map (settled_statement g b) (located c xs)) ≡ slots_from b c xs
unfolding located
slots_same g b c [] = refl
slots_same g b c (x ∷ xs) =
    let r : Located = record { before = c; statement = x } in
    let q = settled_line g b r in
    let rest = map (settled_statement g b) (located (after c x.body) xs) in
    ap (λ (d : Counters). slots_at (settled_base g b) q ++ slots_from (settled_base g b) d rest) (same_after g b (address_in b r) c x.body)
    ∙ ap (λ (ss : List Slot). ss ++ slots_from (settled_base g b) (after c x.body) rest) (slot_same g b r)
    ∙ ap (λ (ss : List Slot). slots_at b r ++ ss) (slots_same g b (after c x.body) xs)

pub slots_settled : (u : Source) → slots_of (based (settled_unit u)) ≡ slots_of (based u)
slots_settled u =
    let g = (unit_layout u).globals in
    ap slots_of (unit_stands u)
    ∙ all_same (λ b. slots_from b at_begin b.part.statements) (λ b. slots_from b at_begin b.part.statements) (settled_base g)
    (λ b. slots_same g b at_begin b.part.statements) (based u)

-- no statement meets another fault
misfit_same : (g : List Symbol) (b : Placement Module) (a offset place : ℕ) (x : Statement)
    → misfit_at offset place (record { line = x.line; label = x.label; col = x.col; body = settled_body g b a x.body }) ≡ misfit_at offset place x
misfit_same g b a offset place x =
    let y : Statement = record { line = x.line; label = x.label; col = x.col; body = settled_body g b a x.body } in
    let misplaced : AsmFault = record { line = x.line; col = x.col; kind = kind.Alignment } in
    let large : AsmFault = record { line = x.line; col = x.col; kind = kind.TooLarge } in
    ap (λ (n : ℕ). option_or (if place % n == 0 then None else Some misplaced) (too_large_at offset place y)) (same_alignment g b a x.body)
    ∙ ap (λ (n : ℕ). option_or (misplaced_at place x)
    (if nat_lt most_bytes (offset + n) || nat_lt (2 ^ 32) (place + n) then Some large else None)) (same_length g b a place x.body)

fault_same : (g : List Symbol) (b : Placement Module) (defined : List Symbol) (r : Located) → fault_in defined (settled_line g b r) ≡ fault_in defined r
fault_same g b defined r =
    let q = settled_line g b r in
    ap (λ (ss : List Symbol). option_or (option_map duplicate_at (repeated_after defined ss)) (misfit_at (offset_of q) (place_of q) q.statement)) (symbols_same g b r)
    ∙ ap (λ (n : ℕ). option_or (option_map duplicate_at (repeated_after defined (symbols_of r))) (misfit_at n (place_of q) q.statement)) (offset_same g b r)
    ∙ ap (λ (n : ℕ). option_or (option_map duplicate_at (repeated_after defined (symbols_of r))) (misfit_at (offset_of r) n q.statement)) (place_same g b r)
    ∙ ap (option_or (option_map duplicate_at (repeated_after defined (symbols_of r)))) (misfit_same g b (address_in b r) (offset_of r) (place_of r) r.statement)

faults_same : (g : List Symbol) (b : Placement Module) (defined : List Symbol) (rs : List Located)
    → statements_fault defined (map (settled_line g b) rs) ≡ statements_fault defined rs
unfolding statements_fault
faults_same g b defined [] = refl
faults_same g b defined (r ∷ rs) =
    ap (λ (o : Option AsmFault). option_or o (statements_fault (defined ++ symbols_of (settled_line g b r)) (map (settled_line g b) rs))) (fault_same g b defined r)
    ∙ ap (λ (ss : List Symbol). option_or (fault_in defined r) (statements_fault (defined ++ ss) (map (settled_line g b) rs))) (symbols_same g b r)
    ∙ ap (option_or (fault_in defined r)) (faults_same g b (defined ++ symbols_of r) rs)

module_same : (g : List Symbol) (b : Placement Module) → module_fault (settled_module g b) ≡ module_fault b.part
module_same g b = ap (statements_fault []) (lines_settled g b) ∙ faults_same g b [] (lines_in b.part)

modules_same : (g : List Symbol) (text datas : ℕ) (ms : List Module)
    → modules_fault (map (settled_module g) (stood_from section_length text datas ms)) ≡ modules_fault ms
modules_same g text datas [] = refl
modules_same g text datas (m ∷ ms) =
    let b : Placement Module = record { part = m; text_at = up_to_multiple 8 text; data_at = up_to_multiple 8 datas } in
    let rest = stood_from section_length (up_to_multiple 8 text + section_length 0 m) (up_to_multiple 8 datas + section_length 1 m) ms in
    ap (λ (o : Option AsmFault). option_or o (modules_fault (map (settled_module g) rest))) (module_same g b)
    ∙ ap (option_or (module_fault m)) (modules_same g (up_to_multiple 8 text + section_length 0 m) (up_to_multiple 8 datas + section_length 1 m) ms)

pub fault_settled : (u : Source) → unit_fault (settled_unit u) ≡ unit_fault u
fault_settled u =
    modules_same (unit_layout u).globals first_text (up_to_multiple page_bytes (text_end section_length first_text u.modules)) u.modules
