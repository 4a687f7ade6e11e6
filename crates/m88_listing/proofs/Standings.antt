-- The modules of a unit where their objects stand.
use Rattle.std.proofs.Common.{◌≡◌, ℕ, ◌+◌, ◌<◌, List, [], ◌∷◌, length, map, drop, get_or, refl, sym, ap, ◌∙◌, arith}
use Rattle.std.proofs.lemmas.List.{drop_more, get_or-map, length-map}
use Rattle.m88_parse.specs.declared.unit.Module.{Module}
use Rattle.m88_parse.specs.declared.unit.Unit.{Unit as Source}
use Rattle.m88_link.specs.declared.object.Object.{Object}
use Rattle.m88_link.specs.Bases.{Placement, base_of, first_data, first_text, section_size, stood, stood_from, up_to_multiple}
use Rattle.m88_asm.specs.Objects.{object_of, objects_of}
use Rattle.m88_asm.specs.Units.{base_in, based, section_length}
use Rattle.m88_asm.proofs.Laws.{all_stood, placement, same_base}
use Rattle.m88_listing.specs.Inside.Slots.{standing}

-- a section of the object stands where that of the module does
pub bases_here : (m : Module) (o : Placement Object) → o.part ≡ object_of m → base_of o ≡ base_in (standing m o)
bases_here m o is =
    let same : o ≡ placement (standing m o) = ap (λ x. let p : Placement Object = record { part = x; text_at = o.text_at; data_at = o.data_at } in p) is in
    ap base_of same ∙ same_base (standing m o)

-- what stands are the parts
pub parts_stood : {A : Type 0} (size : ℕ → A → ℕ) (text datas : ℕ) (xs : List A) → map (λ (b : Placement A). b.part) (stood_from size text datas xs) ≡ xs
parts_stood size text datas [] = refl
parts_stood size text datas (x ∷ xs) = ap (λ ys. x ∷ ys) (parts_stood size (up_to_multiple 8 text + size 0 x) (up_to_multiple 8 datas + size 1 x) xs)

modules_based : (u : Source) → map (λ (b : Placement Module). b.part) (based u) ≡ u.modules
modules_based u = parts_stood section_length first_text (first_data section_length u.modules) u.modules

pub as_many : (u : Source) → length (based u) ≡ length u.modules
as_many u = sym (length-map (based u) (λ (b : Placement Module). b.part)) ∙ ap length (modules_based u)

pub as_many_objects : (u : Source) → length (stood section_size (objects_of u)) ≡ length u.modules
as_many_objects u = ap length (all_stood u) ∙ length-map (based u) placement ∙ as_many u

-- one module more where its object stands
found_module : (u : Source) (i : ℕ) (m : Module) (d : Placement Module) → i < length u.modules → m ≡ get_or u.modules i m → m ≡ (get_or (based u) i d).part
found_module u i m d l is =
    is ∙ ap (λ (ms : List Module). get_or ms i m) (sym (modules_based u))
    ∙ get_or-map (λ (b : Placement Module). b.part) (based u) i d m (omega (arith, l, as_many u))

found_object : (u : Source) (i : ℕ) (o : Placement Object) (d : Placement Module) → i < length u.modules → o ≡ get_or (stood section_size (objects_of u)) i o
    → o ≡ placement (get_or (based u) i d)
found_object u i o d l is =
    is ∙ ap (λ (os : List (Placement Object)). get_or os i o) (all_stood u) ∙ get_or-map placement (based u) i d o (omega (arith, l, as_many u))

pub object_here : (u : Source) (i : ℕ) (m : Module) (o : Placement Object) → i < length u.modules → m ≡ get_or u.modules i m
    → o ≡ get_or (stood section_size (objects_of u)) i o → o.part ≡ object_of m
object_here u i m o l is there =
    ap (λ (p : Placement Object). p.part) (found_object u i o (standing m o) l there) ∙ ap object_of (sym (found_module u i m (standing m o) l is))

pub stands_more : (u : Source) (i : ℕ) (m : Module) (o : Placement Object) → i < length u.modules → m ≡ get_or u.modules i m
    → o ≡ get_or (stood section_size (objects_of u)) i o → standing m o ∷ drop (i + 1) (based u) ≡ drop i (based u)
stands_more u i m o l is there =
    let b : Placement Module = get_or (based u) i (standing m o) in
    let whole : standing m o ≡ b =
    ap (λ (x : Module). standing x o) (found_module u i m (standing m o) l is) ∙ ap (standing b.part) (found_object u i o (standing m o) l there) in
    ap (λ (x : Placement Module). x ∷ drop (i + 1) (based u)) whole ∙ sym (drop_more (based u) i (standing m o) (omega (arith, l, as_many u)))
