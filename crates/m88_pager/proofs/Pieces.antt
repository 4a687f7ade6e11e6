-- The bytes of an image, piece by piece.
use Rattle.std.specs.Prelude.{ℕ, List, [], ◌∷◌, Option, Some, None, IsSome, OnOk, Result, Ok, Err, ◌++◌, ◌≡◌, ◌<◌, ◌≤◌, ◌+◌, ◌-◌, ◌*◌, length, replicate, slice_get, slice_index_or, take, unwrap_or}
use Rattle.std.proofs.Common.{arith, inl, inr, length-append, length-take, refl, sym, ap, subst, ◌∙◌}
use Rattle.std.proofs.lemmas.Bool.{cases_lt}
use Rattle.std.proofs.lemmas.List.{get_or-append_right, get_or-replicate, get_or-take, get_or_append_left, length-replicate}
use Rattle.std.proofs.lemmas.Option.{unwrap_or-slice_get}
use Rattle.m88_base.specs.Found.{IsFree}
use Rattle.m88_base.specs.Image.{ProgramImage, byte_at}
use Rattle.m88_base.specs.Pages.{page_bytes}
use Rattle.m88_mem.specs.DataBus.{image_bytes}
use Rattle.m88_pager.specs.Inside.Bytes.{HoldsFrom, IsPieceMore}
use Rattle.m88_pager.specs.Pages.{page_of}
use Rattle.m88_pager.proofs.Words.{page_by_each}

-- one piece more
pub holds_more : (memory : ℕ → ℕ) (start at : ℕ) (old piece : List ℕ) → at ≡ start + length old → HoldsFrom memory start old →
    ((k : ℕ) → k < length piece → slice_index_or piece k 0 ≡ memory (at + k)) →
    HoldsFrom memory start (old ++ piece)
holds_more memory start at old piece is held more = λ place h. elim (cases_lt place (length old)) [
  | inl low ↦ get_or_append_left old piece 0 place low ∙ held place low
  | inr high ↦
      let long = length-append old piece in
      get_or-append_right old piece (length old) place 0 refl high
      ∙ more (place - length old) (omega (arith, h, high, long))
      ∙ ap memory (omega (arith, is, high))
]

-- zeros where the image has no byte
pub zeros_held : (image : ProgramImage) (start at n : ℕ) (old new : List ℕ) → at ≡ start + length old →
    ((a : ℕ) → at ≤ a → a < at + n → byte_at image a ≡ None) → new ≡ old ++ replicate n 0 →
    HoldsFrom (image_bytes image) start old → HoldsFrom (image_bytes image) start new
unfolding image_bytes
zeros_held image start at n old new is free made held =
    subst (HoldsFrom (image_bytes image) start) (sym made)
    (holds_more (image_bytes image) start at old (replicate n 0) is held (λ k h.
    let long = length-replicate {A = ℕ} n 0 in
    let few : k < n = omega (arith, h, long) in
    get_or-replicate n k 0 0 few ∙ ap (λ (byte : Option ℕ). unwrap_or byte 0) (sym (free (at + k) (omega arith) (omega (arith, few))))))

-- the bytes of the image from an address on
pub some_held : (image : ProgramImage) (start at most : ℕ) (old new rest : List ℕ) → at ≡ start + length old →
    ((k : ℕ) → k < length rest → byte_at image (at + k) ≡ slice_get rest k) → new ≡ old ++ take most rest →
    HoldsFrom (image_bytes image) start old → HoldsFrom (image_bytes image) start new
unfolding image_bytes
some_held image start at most old new rest is there made held =
    subst (HoldsFrom (image_bytes image) start) (sym made)
    (holds_more (image_bytes image) start at old (take most rest) is held (λ k h.
    let long = length-take most rest in
    get_or-take most rest k 0 (omega (arith, h, long))
    ∙ sym (unwrap_or-slice_get rest k 0)
    ∙ ap (λ (byte : Option ℕ). unwrap_or byte 0) (sym (there k (omega (arith, h, long))))))

-- such pieces of a page
pub zeros_more : {T E : Type 0} (image : ProgramImage) (start at : ℕ) {n : ℕ} (old new : List ℕ) (r : Result T E) →
    OnOk r (new ≡ old ++ replicate n 0) → at ≡ start + length old → ((a : ℕ) → at ≤ a → a < at + n → byte_at image a ≡ None) →
    0 < n → length old + n ≤ page_bytes → OnOk r (IsPieceMore (image_bytes image) start old new)
zeros_more image start at {n} old new (Ok x) made is free some few =
    let size = ap length made in
    let both = length-append old (replicate n 0) in
    let long = length-replicate {A = ℕ} n 0 in
    record {
      held = zeros_held image start at n old new is free made;
      longer = omega (arith, size, both, long, some);
      room = omega (arith, size, both, long, few);
    }
zeros_more image start at old new (Err e) made is free some few = tt

pub some_more : {T E : Type 0} (image : ProgramImage) (start at : ℕ) {most : ℕ} (old new rest : List ℕ) (r : Result T E) →
    OnOk r (new ≡ old ++ take most rest) → at ≡ start + length old →
    ((k : ℕ) → k < length rest → byte_at image (at + k) ≡ slice_get rest k) → 0 < most → 0 < length rest →
    length old + most ≤ page_bytes → OnOk r (IsPieceMore (image_bytes image) start old new)
some_more image start at {most} old new rest (Ok x) made is there some filled few =
    let size = ap length made in
    let both = length-append old (take most rest) in
    let long = length-take most rest in
    record {
      held = some_held image start at most old new rest is there made;
      longer = omega (arith, size, both, long, some, filled);
      room = omega (arith, size, both, long, few);
    }
some_more image start at old new rest (Err e) made is there some filled few = tt

-- the image has bytes from an address on where it has one there
not_none : (byte : Option ℕ) → IsSome byte → byte ≡ None → ⊥
not_none None some none = absurd cc
not_none (Some b) some none = absurd cc

pub rest_filled : (image : ProgramImage) (at taken : ℕ) (rest : List ℕ) → at ≤ taken → taken ≤ at → IsSome (byte_at image taken) →
    byte_at image (at + length rest) ≡ None → 0 < length rest
rest_filled image at taken [] low high some end =
    absurd (not_none (byte_at image taken) some (ap (byte_at image) (omega (arith, low, high)) ∙ end))
rest_filled image at taken (b ∷ rest) low high some end = omega arith

-- a whole page
pub page_held : (memory : ℕ → ℕ) (page start : ℕ) (bytes : List ℕ) → start ≡ page * page_bytes → length bytes ≡ page_bytes →
    HoldsFrom memory start bytes → bytes ≡ page_of memory page
page_held memory page start bytes is long held =
    page_by_each memory page bytes long (λ place h. held place (omega (arith, h, long)) ∙ ap (λ n. memory (n + place)) is)

pub page_blank : (image : ProgramImage) (page start n : ℕ) (bytes : List ℕ) → start ≡ page * page_bytes → n ≡ page_bytes →
    IsFree (byte_at image) start n → bytes ≡ replicate n 0 → bytes ≡ page_of (image_bytes image) page
page_blank image page start n bytes is size free made =
    let long = length-replicate {A = ℕ} n 0 in
    page_held (image_bytes image) page start bytes is (ap length made ∙ long ∙ size)
    (zeros_held image start start n [] bytes (omega arith) (λ a low high. free a (low, high)) made (λ place h. absurd (omega (arith, h))))
