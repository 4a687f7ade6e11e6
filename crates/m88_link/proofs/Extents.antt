-- What the sections of objects that stand somewhere have in all, and where they end.
use Rattle.std.proofs.Common.{◌≡◌, ℕ, ◌+◌, ◌*◌, ◌≤◌, List, [], ◌∷◌, ◌++◌, length, map, Bool, true, false, refl, sym, ap, ◌∙◌, arith, sum_by}
use Rattle.std.proofs.lemmas.Bool.Decides.{nat_tests}
use Rattle.std.proofs.lemmas.List.Elements.{recursion_from_All}
use Rattle.std.proofs.lemmas.List.Sums.{sum_by-append, sum_by-cons}
use Rattle.std.specs.Prelude.{◌^◌, ◌||◌, flat_map, nat_lt}
use Rattle.std.specs.List.{AllByRecursion, list_any}
use Rattle.m88_link.specs.declared.object.Object.{Object}
use Rattle.m88_link.specs.declared.object.Section.{Section}
use Rattle.m88_link.specs.Bases.{Placement, base_at, first_data, first_text, section_size, stood, stood_from, text_end, up_to_multiple}
use Rattle.m88_link.specs.Layout.{Extent, extent, extents_of}
use Rattle.m88_link.specs.Refusal.{is_too_large}
use Rattle.m88_link.specs.Sizes.{object_size, sections_size, total_size}
use Rattle.m88_base.specs.Image.{most_bytes}
use Rattle.m88_link.specs.Sound.{IsSound}
use Rattle.m88_link.proofs.Stood.{sections_fit, sizes_fit}

abbrev len_of : Extent → ℕ
len_of e = e.len

sections_len : (s : Placement Object) (xs : List Section) → sum_by len_of (map (extent s) xs) ≡ sections_size xs
sections_len s [] = refl
sections_len s (x ∷ xs) =
    sum_by-cons len_of (extent s x) (map (extent s) xs) ∙ ap (λ n. length x.bytes + n) (sections_len s xs)
    ∙ sym (sum_by-cons (λ (y : Section). length y.bytes) x xs)

-- the extents have as many bytes as the objects
pub extents_len : (text datas : ℕ) (os : List Object) → sum_by len_of (flat_map extents_of (stood_from section_size text datas os)) ≡ total_size os
extents_len text datas [] = refl
extents_len text datas (o ∷ os) =
    let s : Placement Object = record { part = o; text_at = up_to_multiple 8 text; data_at = up_to_multiple 8 datas } in
    let more = stood_from section_size (up_to_multiple 8 text + section_size 0 o) (up_to_multiple 8 datas + section_size 1 o) os in
    sum_by-append len_of (extents_of s) (flat_map extents_of more)
    ∙ ap (λ n. n + sum_by len_of (flat_map extents_of more)) (sections_len s o.sections)
    ∙ ap (λ n. object_size o + n) (extents_len (up_to_multiple 8 text + section_size 0 o) (up_to_multiple 8 datas + section_size 1 o) os)
    ∙ sym (sum_by-cons object_size o os)

-- the test whether a section ends past the last address
abbrev is_past : Extent → Bool
is_past e = nat_lt (2 ^ 32) (e.at + e.len)

any_append : (p : Extent → Bool) (xs ys : List Extent) → list_any p xs ≡ false → list_any p ys ≡ false → list_any p (xs ++ ys) ≡ false
any_append p [] ys h k = k
any_append p (x ∷ xs) ys h k = by (p x) h (any_append p xs ys)
  where
    by : (b : Bool) → (b || list_any p xs) ≡ false → (list_any p xs ≡ false → list_any p ys ≡ false → list_any p (xs ++ ys) ≡ false)
        → (b || list_any p (xs ++ ys)) ≡ false
    by true h rest = h
    by false h rest = rest h k

within_end : (n : ℕ) → n ≤ 2 ^ 32 → nat_lt (2 ^ 32) n ≡ false
within_end n h = grind (arith, nat_tests)

none_past : (s : Placement Object) (xs : List Section) → AllByRecursion (λ x. base_at s x.place + length x.bytes ≤ 2 ^ 32) xs → list_any is_past (map (extent s) xs) ≡ false
none_past s [] h = refl
none_past s (x ∷ xs) h =
    ap (λ b. b || list_any is_past (map (extent s) xs)) (within_end (base_at s x.place + length x.bytes) h.0) ∙ none_past s xs h.1

-- no section ends past the last address where the objects have few bytes
pub ends_low : (text datas : ℕ) (os : List Object) → AllByRecursion IsSound os
    → up_to_multiple 8 text + 8 * sum_by (section_size 0) os ≤ 2 ^ 30 → up_to_multiple 8 datas + 8 * sum_by (section_size 1) os ≤ 2 ^ 30
    → list_any is_past (flat_map extents_of (stood_from section_size text datas os)) ≡ false
ends_low text datas [] sound t d = refl
ends_low text datas (o ∷ os) sound t d =
    let s : Placement Object = record { part = o; text_at = up_to_multiple 8 text; data_at = up_to_multiple 8 datas } in
    let more0 = sum_by-cons (section_size 0) o os in
    let more1 = sum_by-cons (section_size 1) o os in
    any_append is_past (extents_of s) (flat_map extents_of (stood_from section_size (up_to_multiple 8 text + section_size 0 o) (up_to_multiple 8 datas + section_size 1 o) os))
    (none_past s o.sections
    (recursion_from_All (λ x. base_at s x.place + length x.bytes ≤ 2 ^ 32) o.sections (sections_fit s sound.0 (omega (arith, more0)) (omega (arith, more1)))))
    (ends_low (up_to_multiple 8 text + section_size 0 o) (up_to_multiple 8 datas + section_size 1 o) os sound.1 (omega (arith, more0)) (omega (arith, more1)))

-- the text of objects ends low
text_end_low : (most text : ℕ) (os : List Object) → up_to_multiple 8 text + 8 * sum_by (section_size 0) os ≤ most → text_end section_size text os ≤ most
text_end_low most text [] h = omega arith
text_end_low most text (o ∷ os) h =
    let more = sum_by-cons (section_size 0) o os in
    text_end_low most (up_to_multiple 8 text + section_size 0 o) os (omega (arith, more))

-- whether the bytes of all objects are too many decides whether their layout is too large
pub too_large_is : (os : List Object) → AllByRecursion IsSound os → is_too_large (flat_map extents_of (stood section_size os)) ≡ nat_lt most_bytes (total_size os)
too_large_is os sound = by (nat_lt most_bytes (total_size os)) refl
  where
    extents : List Extent
    extents = flat_map extents_of (stood section_size os)

    len : sum_by len_of extents ≡ total_size os
    len = extents_len first_text (first_data section_size os) os

    few : (n : ℕ) → nat_lt most_bytes n ≡ false → n ≤ most_bytes
    few n e = grind (arith, nat_tests)

    by : (b : Bool) → nat_lt most_bytes (total_size os) ≡ b → is_too_large extents ≡ nat_lt most_bytes (total_size os)
    by true e =
        ap (λ n. nat_lt most_bytes n || list_any is_past extents) len ∙ ap (λ b. b || list_any is_past extents) e ∙ sym e
    by false e =
        let size = few (total_size os) e in
        let texts = sizes_fit 0 os size in
        let parts = sizes_fit 1 os size in
        let end : text_end section_size first_text os ≤ 2 ^ 24 = text_end_low (2 ^ 24) first_text os (omega (arith, texts)) in
        ap (λ n. nat_lt most_bytes n || list_any is_past extents) len ∙ ap (λ b. b || list_any is_past extents) e
        ∙ ends_low first_text (first_data section_size os) os sound (omega (arith, texts)) (omega (arith, parts, end)) ∙ sym e
