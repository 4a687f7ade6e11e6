-- Sections that grow piece by piece.
use Rattle.std.proofs.Common.{ℕ, suc, ◌≡◌, ◌+◌, ◌<◌, ◌≤◌, List, [], ◌++◌, length, drop, get_or, sym, ◌∙◌, ap, subst, append_assoc, arith, length-append, add-one, drop-cons, drop_of_length-le}
use Rattle.std.specs.Prelude.{flat_map}
use Rattle.std.proofs.lemmas.List.{append-nil}
use Rattle.m88_link.specs.declared.object.Section.{Section}
use Rattle.m88_link.specs.Sound.{HasRoom}
use Rattle.m88_asm.specs.Inside.Drafts.{with_bytes}

pub room_front : (s : Section) (a b : List ℕ) → HasRoom (with_bytes s (a ++ b)) → HasRoom (with_bytes s a)
room_front s a b h =
    let e = length-append s.bytes (a ++ b) in
    let f = length-append a b in
    let g = length-append s.bytes a in
    (omega (arith, h.0), omega (arith, h.1))

more_bytes : (s : Section) (a b : List ℕ) → with_bytes (with_bytes s a) b ≡ with_bytes s (a ++ b)
more_bytes s a b = ap (λ x. let t : Section = record { place = s.place; bytes = x; line = s.line } in t) (append_assoc s.bytes a b)

pub no_bytes : (s : Section) → with_bytes s [] ≡ s
no_bytes s = ap (λ x. let t : Section = record { place = s.place; bytes = x; line = s.line } in t) (append-nil s.bytes)

-- the pieces that are still to come
pub left_at : {X : Type 0} (f : X → List ℕ) (xs : List X) (i : ℕ) (x d : X) → i < length xs → x ≡ get_or xs i d
    → flat_map f (drop i xs) ≡ f x ++ flat_map f (drop (i + 1) xs)
left_at f xs i x d h e = ap (flat_map f) (drop-cons xs i d h) ∙ ap (λ y. f y ++ flat_map f (drop (suc i) xs)) (sym e) ∙ ap (λ n. f x ++ flat_map f (drop n xs)) (sym (add-one i))

pub piece_room : {X : Type 0} (f : X → List ℕ) (xs : List X) (i : ℕ) (x d : X) (s total : Section) → i < length xs → x ≡ get_or xs i d
    → with_bytes s (flat_map f (drop i xs)) ≡ total → HasRoom total → HasRoom (with_bytes s (f x))
piece_room f xs i x d s total h e so_far room =
    room_front s (f x) (flat_map f (drop (i + 1) xs))
    (subst HasRoom (sym so_far ∙ ap (with_bytes s) (left_at f xs i x d h e)) room)

pub piece_put : {X : Type 0} (f : X → List ℕ) (xs : List X) (i : ℕ) (x d : X) (s new total : Section) → i < length xs → x ≡ get_or xs i d
    → with_bytes s (flat_map f (drop i xs)) ≡ total → new ≡ with_bytes s (f x)
    → with_bytes new (flat_map f (drop (i + 1) xs)) ≡ total
piece_put f xs i x d s new total h e so_far put =
    ap (λ t. with_bytes t (flat_map f (drop (i + 1) xs))) put ∙ more_bytes s (f x) (flat_map f (drop (i + 1) xs))
    ∙ ap (with_bytes s) (sym (left_at f xs i x d h e)) ∙ so_far

pub pieces_put : {X : Type 0} (f : X → List ℕ) (xs : List X) (i : ℕ) (s total : Section) → length xs ≤ i
    → with_bytes s (flat_map f (drop i xs)) ≡ total → s ≡ total
pieces_put f xs i s total h so_far =
    sym (no_bytes s) ∙ ap (λ ys. with_bytes s (flat_map f ys)) (sym (drop_of_length-le xs h)) ∙ so_far
