-- The sections of objects take the same addresses before and after relocation.
use Rattle.std.proofs.Common.{◌≡◌, ℕ, suc, ◌+◌, ◌≤◌, List, [], ◌∷◌, ◌++◌, length, map, Bool, true, false, refl, sym, ap, subst, ◌∙◌, arith, sum_by, cond, add-zero}
use Rattle.std.proofs.lemmas.List.{map-append}
use Rattle.std.proofs.lemmas.List.Elements.{recursion_from_All}
use Rattle.std.proofs.lemmas.List.Sums.{sum_by-cons}
use Rattle.std.specs.Prelude.{◌==◌, ◌%◌, ◌&&◌, IsSomeAnd, count_by, flat_map, nat_le, nat_lt, slice_get, Some, if◌then◌else◌}
use Rattle.std.specs.List.{AllByRecursion, enumerate_from}
use Rattle.m88_base.specs.Placed.{Placed, count_among}
use Rattle.m88_link.specs.declared.object.Object.{Object}
use Rattle.m88_link.specs.declared.object.Reloc.{Reloc}
use Rattle.m88_link.specs.declared.object.Section.{Section}
use Rattle.m88_link.specs.declared.object.Symbol.{Symbol}
use Rattle.m88_link.specs.Bases.{Placement, base_of, section_size, stood_from, up_to_multiple}
use Rattle.m88_link.specs.Inside.Carried.{AreAlone, holds}
use Rattle.m88_link.specs.Layout.{Extent, extent, extents_of, spot, spots_of, value_of_name}
use Rattle.m88_link.specs.Refusal.{AreDisjoint, hits}
use Rattle.m88_link.specs.Relocated.{patched, relocated, target_of}
use Rattle.m88_link.specs.Sound.{IsPatchIn, IsSound, origin}
use Rattle.m88_link.proofs.Carried.{patched_length, told}

-- the relocations of a section lie in its bytes
abbrev LieIn : ℕ → ℕ → List Reloc → Type 0
LieIn k n rs = AllByRecursion (λ r. r.section ≡ k → r.offset + 4 ≤ n) rs

relocated_length : (value : List ℕ → ℕ) (base : ℕ → ℕ) (k n : ℕ) (rs : List Reloc) (bytes : List ℕ) → length bytes ≡ n → LieIn k n rs
    → length (relocated value base k rs bytes) ≡ n
relocated_length value base k n [] bytes e h = e
relocated_length value base k n (r ∷ rs) bytes e h =
    by (r.section == k) (told r.section k) (λ changed e. relocated_length value base k n rs changed e h.1)
  where
    by : (b : Bool) → (b ≡ true → r.section ≡ k) → ((changed : List ℕ) → length changed ≡ n → length (relocated value base k rs changed) ≡ n)
        → length (relocated value base k rs (if b then patched r.kind bytes r.offset (target_of value r) (base k + r.offset) else bytes)) ≡ n
    by true own rest =
        rest (patched r.kind bytes r.offset (target_of value r) (base k + r.offset))
        (patched_length r.kind bytes r.offset (target_of value r) (base k + r.offset) (omega (arith, h.0 (own refl))) ∙ e)
    by false own rest = rest bytes e

lie_in : (sections : List Section) (k : ℕ) (x : Section) (rs : List Reloc) → slice_get sections k ≡ Some x → AllByRecursion (IsPatchIn sections) rs
    → LieIn k (length x.bytes) rs
lie_in sections k x [] e h = tt
lie_in sections k x (r ∷ rs) e h = (
  (λ own.
      let here : IsSomeAnd (Some x) (λ s. (r.offset + 4 ≤ length s.bytes) × ((origin s.place + r.offset) % 4 ≡ 0)) =
      subst (λ o. IsSomeAnd o (λ s. (r.offset + 4 ≤ length s.bytes) × ((origin s.place + r.offset) % 4 ≡ 0))) (ap (λ m. slice_get sections m) own ∙ e) h.0 in
      here.0),
  lie_in sections k x rs e h.1,
)

-- the first address and the number of bytes
abbrev spot_room : Placed → ℕ × ℕ
spot_room p = (p.at, length p.bytes)

abbrev extent_room : Extent → ℕ × ℕ
extent_room e = (e.at, e.len)

each_room : (globals : List Symbol) (s : Placement Object) (xs : List Section) (n : ℕ)
    → ((j : ℕ) (x : Section) → slice_get xs j ≡ Some x → LieIn (n + j) (length x.bytes) s.part.relocs)
    → map spot_room (map (λ e. spot globals s e.0 e.1) (enumerate_from n xs)) ≡ map extent_room (map (extent s) xs)
each_room globals s [] n h = refl
each_room globals s (x ∷ xs) n h =
    let here : LieIn n (length x.bytes) s.part.relocs = subst (λ k. LieIn k (length x.bytes) s.part.relocs) (add-zero n) (h 0 x refl) in
    let len = relocated_length (value_of_name globals s) (base_of s) n (length x.bytes) s.part.relocs x.bytes refl here in
    ap (λ m. ((spot globals s n x).at, m) ∷ map spot_room (map (λ e. spot globals s e.0 e.1) (enumerate_from (n + 1) xs))) len
    ∙ ap (λ l. extent_room (extent s x) ∷ l)
    (each_room globals s xs (n + 1) (λ j y e. let k : n + suc j ≡ n + 1 + j = omega arith in subst (λ m. LieIn m (length y.bytes) s.part.relocs) k (h (suc j) y e)))

rooms_of : (globals : List Symbol) (s : Placement Object) → IsSound s.part → map spot_room (spots_of globals s) ≡ map extent_room (extents_of s)
rooms_of globals s sound =
    each_room globals s s.part.sections 0
    (λ j x e.
    let k : j ≡ 0 + j = omega arith in
    subst (λ m. LieIn m (length x.bytes) s.part.relocs) k
    (lie_in s.part.sections j x s.part.relocs e (recursion_from_All (IsPatchIn s.part.sections) s.part.relocs sound.relocs)))

-- the sections of all objects take the addresses of their rooms
same_rooms : (globals : List Symbol) (ss : List (Placement Object)) → AllByRecursion (λ s. IsSound s.part) ss
    → map spot_room (flat_map (spots_of globals) ss) ≡ map extent_room (flat_map extents_of ss)
same_rooms globals [] sound = refl
same_rooms globals (s ∷ ss) sound =
    map-append spot_room (spots_of globals s) (flat_map (spots_of globals) ss)
    ∙ ap (λ l. l ++ map spot_room (flat_map (spots_of globals) ss)) (rooms_of globals s sound.0)
    ∙ ap (λ l. map extent_room (extents_of s) ++ l) (same_rooms globals ss sound.1)
    ∙ sym (map-append extent_room (extents_of s) (flat_map extents_of ss))

sum_by-map : {A B : Type 0} (f : B → ℕ) (g : A → B) (xs : List A) → sum_by f (map g xs) ≡ sum_by (λ x. f (g x)) xs
sum_by-map f g [] = refl
sum_by-map f g (x ∷ xs) =
    sum_by-cons f (g x) (map g xs) ∙ ap (λ n. f (g x) + n) (sum_by-map f g xs) ∙ sym (sum_by-cons (λ x. f (g x)) x xs)

-- how many bytes a room has at an address
abbrev room_at : ℕ → ℕ × ℕ → ℕ
room_at a r = cond (nat_le r.0 a && nat_lt a (r.0 + r.1)) 1 0

pub alone_is : (globals : List Symbol) (ss : List (Placement Object)) → AllByRecursion (λ s. IsSound s.part) ss
    → AreDisjoint (flat_map extents_of ss) → AreAlone (flat_map (spots_of globals) ss)
alone_is globals ss sound h = λ a.
    let spots = flat_map (spots_of globals) ss in
    let extents = flat_map extents_of ss in
    let same : count_by (holds a) spots ≡ hits extents a =
    sym (sum_by-map (room_at a) spot_room spots) ∙ ap (λ l. sum_by (room_at a) l) (same_rooms globals ss sound) ∙ sum_by-map (room_at a) extent_room extents in
    omega (arith, same, h a)

pub bytes_are : (globals : List Symbol) (ss : List (Placement Object)) → AllByRecursion (λ s. IsSound s.part) ss
    → count_among (flat_map (spots_of globals) ss) ≡ sum_by (λ (e : Extent). e.len) (flat_map extents_of ss)
bytes_are globals ss sound =
    let count : ℕ × ℕ → ℕ = λ r. r.1 in
    sym (sum_by-map count spot_room (flat_map (spots_of globals) ss)) ∙ ap (λ l. sum_by count l) (same_rooms globals ss sound)
    ∙ sum_by-map count extent_room (flat_map extents_of ss)

pub all_sound : (text datas : ℕ) (os : List Object) → AllByRecursion IsSound os → AllByRecursion (λ s. IsSound s.part) (stood_from section_size text datas os)
all_sound text datas [] h = tt
all_sound text datas (o ∷ os) h =
    (h.0, all_sound (up_to_multiple 8 text + section_size 0 o) (up_to_multiple 8 datas + section_size 1 o) os h.1)
