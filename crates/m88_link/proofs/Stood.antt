-- Where objects stand, one object on, and that none stands high.
use Rattle.std.proofs.Common.{◌≡◌, ℕ, zero, suc, ◌+◌, ◌<◌, ◌≤◌, List, [], ◌∷◌, length, drop, get_or, sym, ap, ◌∙◌, sum_by, arith}
use Rattle.std.proofs.lemmas.List.{drop_more}
use Rattle.std.proofs.lemmas.List.Sums.{sum_by-cons, sum_by-le-sum_by}
use Rattle.std.specs.Prelude.{slice_get, All, ◌^◌, ◌%◌, IsSomeAnd}
use Rattle.std.specs.List.{AllByRecursion}
use Rattle.std.proofs.lemmas.List.Elements.{All-from_recursion, recursion_from_All}
use Rattle.std.specs.Option.{option_map_or}
use Rattle.m88_link.specs.declared.object.Object.{Object}
use Rattle.m88_link.specs.declared.object.Place.{Place}
use Rattle.m88_link.specs.declared.object.Place.TheVariants.{Text, DataSection, At}
use Rattle.m88_link.specs.declared.object.Reloc.{Reloc}
use Rattle.m88_link.specs.declared.object.Section.{Section}
use Rattle.m88_link.specs.Bases.{Placement, base_at, base_of, section_size, stood_from, text_end, up_to_multiple}
use Rattle.m88_link.specs.Sizes.{object_size, sections_size, total_size}
use Rattle.m88_base.specs.Image.{most_bytes}
use Rattle.m88_link.specs.Sound.{AreSections, HasRoom, IsOwnAddress, IsPatchIn, IsSound, origin}

size_at : (k : ℕ) (ss : List Section) → option_map_or (λ s. length s.bytes) (slice_get ss k) 0 ≤ sections_size ss
size_at k [] = omega arith
size_at zero (s ∷ ss) = omega (arith, sum_by-cons (λ (x : Section). length x.bytes) s ss)
size_at (suc k) (s ∷ ss) = omega (arith, sum_by-cons (λ (x : Section). length x.bytes) s ss, size_at k ss)

-- the sections of one number have at most the bytes of all
pub sizes_fit : (k : ℕ) (objects : List Object) → total_size objects ≤ most_bytes → sum_by (section_size k) objects ≤ most_bytes
sizes_fit k objects h = omega (arith, sum_by-le-sum_by (section_size k) object_size objects (λ o. size_at k o.sections))

-- the end of the text behind one more object
pub text_end_more : (end : ℕ) (objects : List Object) (i : ℕ) (o : Object) → i < length objects → o ≡ get_or objects i o
    → text_end section_size end (drop i objects) ≡ text_end section_size (up_to_multiple 8 end + section_size 0 o) (drop (i + 1) objects)
text_end_more end objects i o h e =
    ap (λ l. text_end section_size end l) (drop_more objects i o h ∙ ap (λ y. y ∷ drop (i + 1) objects) (sym e))

-- the object at a place stands at the next multiples of 8, and those behind it from its ends on
pub stood_more : (text datas : ℕ) (objects : List Object) (i : ℕ) (o : Object) → i < length objects → o ≡ get_or objects i o
    → stood_from section_size text datas (drop i objects)
    ≡ record { part = o; text_at = up_to_multiple 8 text; data_at = up_to_multiple 8 datas }
    ∷ stood_from section_size (up_to_multiple 8 text + section_size 0 o) (up_to_multiple 8 datas + section_size 1 o) (drop (i + 1) objects)
stood_more text datas objects i o h e =
    ap (λ l. stood_from section_size text datas l) (drop_more objects i o h ∙ ap (λ y. y ∷ drop (i + 1) objects) (sym e))

-- each section of a sound object ends at or below 2 ^ 32, where its text and its data do
pub sections_fit : (s : Placement Object) → IsSound s.part → s.text_at + section_size 0 s.part ≤ 2 ^ 32 → s.data_at + section_size 1 s.part ≤ 2 ^ 32
    → All (λ x. base_at s x.place + length x.bytes ≤ 2 ^ 32) s.part.sections
sections_fit s sound text datas = by s.part.sections sound.sections sound.room text datas
  where
    own : (x : Section) → IsOwnAddress x.place → HasRoom x → base_at s x.place + length x.bytes ≤ 2 ^ 32
    own x here room = at x.place here room.1
      where
        at : (p : Place) → IsOwnAddress p → origin p + length x.bytes ≤ 2 ^ 32 → base_at s p + length x.bytes ≤ 2 ^ 32
        at Text h r = absurd h
        at DataSection h r = absurd h
        at (At a) h r = r

    others : (xs : List Section) → AllByRecursion (λ x. IsOwnAddress x.place) xs → AllByRecursion HasRoom xs
        → AllByRecursion (λ x. base_at s x.place + length x.bytes ≤ 2 ^ 32) xs
    others [] here room = tt
    others (x ∷ xs) here room = (own x here.0 room.0, others xs here.1 room.1)

    by : (xs : List Section) → AreSections xs → All HasRoom xs
        → s.text_at + option_map_or (λ x. length x.bytes) (slice_get xs 0) 0 ≤ 2 ^ 32
        → s.data_at + option_map_or (λ x. length x.bytes) (slice_get xs 1) 0 ≤ 2 ^ 32
        → All (λ x. base_at s x.place + length x.bytes ≤ 2 ^ 32) xs
    by [] h r t d = absurd h
    by (x ∷ []) h r t d = absurd h
    by (x ∷ y ∷ ys) h r t d =
        let rest = recursion_from_All HasRoom (x ∷ y ∷ ys) r in
        All-from_recursion (λ z. base_at s z.place + length z.bytes ≤ 2 ^ 32) (x ∷ y ∷ ys)
        (rw h.0 t, (rw h.1 d, others ys (recursion_from_All (λ z. IsOwnAddress z.place) ys h.2) rest.1.1))

word_within : (s : Placement Object) (xs : List Section) (k offset : ℕ) → AllByRecursion (λ x. base_at s x.place + length x.bytes ≤ 2 ^ 32) xs
    → IsSomeAnd (slice_get xs k) (λ x. (offset + 4 ≤ length x.bytes) × ((origin x.place + offset) % 4 ≡ 0))
    → option_map_or (λ x. base_at s x.place) (slice_get xs k) 0 + offset + 4 ≤ 2 ^ 32
word_within s [] k offset all h = absurd h
word_within s (x ∷ xs) zero offset all h = omega (arith, all.0, h.0)
word_within s (x ∷ xs) (suc k) offset all h = word_within s xs k offset all.1 h

-- the word of a relocation of a sound object ends at or below 2 ^ 32
pub word_fits : (s : Placement Object) (r : Reloc) → IsSound s.part → s.text_at + section_size 0 s.part ≤ 2 ^ 32 → s.data_at + section_size 1 s.part ≤ 2 ^ 32
    → IsPatchIn s.part.sections r → base_of s r.section + r.offset + 4 ≤ 2 ^ 32
word_fits s r sound text datas h =
    word_within s s.part.sections r.section r.offset
    (recursion_from_All (λ x. base_at s x.place + length x.bytes ≤ 2 ^ 32) s.part.sections (sections_fit s sound text datas)) h
