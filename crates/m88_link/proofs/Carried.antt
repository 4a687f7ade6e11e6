-- Relocations carried out one after the other on all sections of an object, and section by section.
use Rattle.std.proofs.Common.{◌≡◌, ℕ, zero, suc, ◌+◌, ◌<◌, ◌≤◌, List, [], ◌∷◌, ◌++◌, length, take, drop, get_or, set, map, filter, Bool, true, false, None, refl, sym, ap, subst, ◌∙◌, arith, length-append, length-drop, length-take, add-zero}
use Rattle.std.proofs.lemmas.Bool.Decides.{nat_tests}
use Rattle.std.proofs.lemmas.List.{drop_more}
use Rattle.std.proofs.lemmas.List.Elements.{All-weaker}
use Rattle.std.specs.Prelude.{All, IsSomeAnd, ◌%◌, slice_get, Some, ◌==◌, if◌then◌else◌}
use Rattle.std.specs.Int.{w32, to_be_bytes, from_be_bytes}
use Rattle.std.specs.List.{enumerate_from}
use Rattle.std.specs.Option.{option_map_or}
use Rattle.m88_base.specs.Placed.{Placed}
use Rattle.m88_base.specs.declared.fixup.Kind.{Kind}
use Rattle.m88_link.specs.declared.object.Reloc.{Reloc}
use Rattle.m88_link.specs.declared.object.Section.{Section}
use Rattle.m88_link.specs.declared.object.Symbol.{Symbol}
use Rattle.m88_link.specs.Bases.{Placement, base_at, base_of}
use Rattle.m88_link.specs.declared.object.Object.{Object}
use Rattle.m88_link.specs.Inside.Lent.{own_or_lent}
use Rattle.m88_link.specs.Inside.Resolved.{carried_known, is_kept, value_or_zero}
use Rattle.m88_link.specs.Inside.Carried.{HasWord, unpatched, carried, numbered, patched_in, patched_spot}
use Rattle.m88_link.specs.Field.{patched_word}
use Rattle.m88_link.specs.Layout.{spot, spots_of, value_of_name}
use Rattle.m88_link.specs.Sound.{IsPatchIn, origin}
use Rattle.m88_link.specs.Relocated.{patched, relocated, target_of}

-- patching keeps the number of bytes
pub patched_length : (kind : Kind) (bytes : List ℕ) (offset target at : ℕ) → offset + 4 ≤ length bytes
    → length (patched kind bytes offset target at) ≡ length bytes
patched_length kind bytes offset target at h =
    let word = to_be_bytes w32 (patched_word kind (from_be_bytes w32 (take 4 (drop offset bytes))) target at) in
    omega (
      arith,
      length-append (take offset bytes) (word ++ drop (offset + 4) bytes),
      length-append word (drop (offset + 4) bytes),
      length-take offset bytes,
      length-drop (offset + 4) bytes,
    )

-- a copy that has bytes is what the bytes are
pub own_bytes : (own lent : List ℕ) → 0 < length own → own_or_lent own lent ≡ own
own_bytes [] lent h = absurd (omega arith)
own_bytes (b ∷ own) lent h = refl

numbered_same : {A : Type 0} (F : ℕ → A → A) (m : ℕ) (xs : List A) → ((k : ℕ) (x : A) → m ≤ k → F k x ≡ x) → numbered F m xs ≡ xs
numbered_same F m [] h = refl
numbered_same F m (x ∷ xs) h =
    ap (λ l. F m x ∷ l) (numbered_same F (m + 1) xs (λ k y le. h k y (omega arith))) ∙ ap (λ y. y ∷ xs) (h m x (omega arith))

numbered_twice : {A B C : Type 0} (F : ℕ → A → B) (G : ℕ → B → C) (n : ℕ) (xs : List A)
    → numbered G n (numbered F n xs) ≡ numbered (λ k x. G k (F k x)) n xs
numbered_twice F G n [] = refl
numbered_twice F G n (x ∷ xs) = ap (λ l. G n (F n x) ∷ l) (numbered_twice F G (n + 1) xs)

-- the test whether two numbers are one, where they are and where they aren't
same : (m n : ℕ) → m ≡ n → (m == n) ≡ true
same m n e = grind (arith, nat_tests)

other : (m n : ℕ) → m < n → (m == n) ≡ false
other m n h = grind (arith, nat_tests)

other_below : (m n : ℕ) → n < m → (m == n) ≡ false
other_below m n h = grind (arith, nat_tests)

pub told : (m n : ℕ) → (m == n) ≡ true → m ≡ n
told m n h = grind (arith, nat_tests)

-- a write at one place changes the element of that number
set_numbered : {A : Type 0} (f : A → A) (xs : List A) (i n j : ℕ) (x : A) → i < length xs → x ≡ get_or xs i x → n + i ≡ j
    → set xs i (f x) ≡ numbered (λ k y. if j == k then f y else y) n xs
set_numbered f [] i n j x h e at = absurd (omega arith)
set_numbered f (y ∷ ys) zero n j x h e at =
    let here : (j == n) ≡ true = same j n (omega arith) in
    let rest : numbered (λ k z. if j == k then f z else z) (n + 1) ys ≡ ys =
    numbered_same (λ k z. if j == k then f z else z) (n + 1) ys (λ k z le. ap (λ b. if b then f z else z) (other j k (omega arith))) in
    ap (λ z. f z ∷ ys) e ∙ ap (λ l. f y ∷ l) (sym rest) ∙ ap (λ b. (if b then f y else y) ∷ numbered (λ k z. if j == k then f z else z) (n + 1) ys) (sym here)
set_numbered f (y ∷ ys) (suc i) n j x h e at =
    let far : (j == n) ≡ false = other_below j n (omega arith) in
    ap (λ l. y ∷ l) (set_numbered f ys i (n + 1) j x (omega arith) e (omega arith))
    ∙ ap (λ b. (if b then f y else y) ∷ numbered (λ k z. if j == k then f z else z) (n + 1) ys) (sym far)

-- one section after relocations, of which those of its number patch it
abbrev after : (Reloc → ℕ) → ℕ → List Reloc → Placed → Placed
after target k [] p = p
after target k (r ∷ rs) p = after target k rs (if r.section == k then patched_spot r (target r) p else p)

carried_each : (target : Reloc → ℕ) (rs : List Reloc) (spots : List Placed) → carried target rs spots ≡ numbered (λ k p. after target k rs p) 0 spots
carried_each target [] spots = sym (numbered_same (λ k p. p) 0 spots (λ k p le. refl))
carried_each target (r ∷ rs) spots =
    carried_each target rs (patched_in r (target r) spots)
    ∙ numbered_twice (λ k p. if r.section == k then patched_spot r (target r) p else p) (λ k p. after target k rs p) 0 spots

after_is : (value : List ℕ → ℕ) (base : ℕ → ℕ) (k at : ℕ) (rs : List Reloc) (bytes : List ℕ) → base k ≡ at
    → after (target_of value) k rs (record { at = at; bytes = bytes }) ≡ record { at = at; bytes = relocated value base k rs bytes }
after_is value base k at [] bytes e = refl
after_is value base k at (r ∷ rs) bytes e = by (r.section == k) (λ changed. after_is value base k at rs changed e)
  where
    by : (b : Bool)
        → ((changed : List ℕ) → after (target_of value) k rs (record { at = at; bytes = changed }) ≡ record { at = at; bytes = relocated value base k rs changed })
        → after (target_of value) k rs (if b then patched_spot r (target_of value r) (record { at = at; bytes = bytes }) else record { at = at; bytes = bytes })
        ≡ record { at = at; bytes = relocated value base k rs (if b then patched r.kind bytes r.offset (target_of value r) (base k + r.offset) else bytes) }
    by true rest =
        rest (patched r.kind bytes r.offset (target_of value r) (at + r.offset))
        ∙ ap (λ n. record { at = at; bytes = relocated value base k rs (patched r.kind bytes r.offset (target_of value r) (n + r.offset)) }) (sym e)
    by false rest = rest bytes

each_spot : (globals : List Symbol) (s : Placement Object) (xs : List Section) (n : ℕ)
    → ((j : ℕ) (x : Section) → slice_get xs j ≡ Some x → base_of s (n + j) ≡ base_at s x.place)
    → numbered (λ k p. after (target_of (value_of_name globals s)) k s.part.relocs p) n (map (unpatched s) xs)
    ≡ map (λ e. spot globals s e.0 e.1) (enumerate_from n xs)
each_spot globals s [] n h = refl
each_spot globals s (x ∷ xs) n h =
    let here : base_of s n ≡ base_at s x.place = ap (λ k. base_of s k) (sym (add-zero n)) ∙ h 0 x refl in
    ap (λ p. p ∷ numbered (λ k p. after (target_of (value_of_name globals s)) k s.part.relocs p) (n + 1) (map (unpatched s) xs))
    (after_is (value_of_name globals s) (base_of s) n (base_at s x.place) s.part.relocs x.bytes here)
    ∙ ap (λ l. spot globals s n x ∷ l)
    (each_spot globals s xs (n + 1) (λ j y e. let k : n + 1 + j ≡ n + suc j = omega arith in ap (λ m. base_of s m) k ∙ h (suc j) y e))

-- the sections of an object with its relocations carried out are those of its layout
pub carried_is : (globals : List Symbol) (s : Placement Object)
    → carried (target_of (value_of_name globals s)) s.part.relocs (map (unpatched s) s.part.sections) ≡ spots_of globals s
carried_is globals s =
    carried_each (target_of (value_of_name globals s)) s.part.relocs (map (unpatched s) s.part.sections)
    ∙ each_spot globals s s.part.sections 0
    (λ j x e.
    let k : 0 + j ≡ j = omega arith in
    ap (λ m. base_of s m) k ∙ ap (λ o. option_map_or (λ (y : Section). base_at s y.place) o 0) e)

-- a write at the section of a relocation
pub patched_at : (r : Reloc) (target : ℕ) (spots : List Placed) (p : Placed) → r.section < length spots → p ≡ get_or spots r.section p
    → set spots r.section (patched_spot r target p) ≡ patched_in r target spots
patched_at r target spots p h e = set_numbered (patched_spot r target) spots r.section 0 r.section p h e (omega arith)

kept : (spots : List Placed) (i m offset : ℕ) (p changed : Placed) → p ≡ get_or spots i p → length changed.bytes ≡ length p.bytes
    → IsSomeAnd (slice_get spots m) (λ q. offset + 4 ≤ length q.bytes) → IsSomeAnd (slice_get (set spots i changed) m) (λ q. offset + 4 ≤ length q.bytes)
kept [] i m offset p changed e len h = h
kept (q ∷ qs) zero zero offset p changed e len h = omega (arith, len, h, ap (λ (x : Placed). length x.bytes) e)
kept (q ∷ qs) zero (suc m) offset p changed e len h = h
kept (q ∷ qs) (suc i) zero offset p changed e len h = h
kept (q ∷ qs) (suc i) (suc m) offset p changed e len h = kept qs i m offset p changed e len h

-- patched sections still have the words of relocations
pub word_kept : (spots : List Placed) (i target : ℕ) (r own : Reloc) (p : Placed) → p ≡ get_or spots i p → own.offset + 4 ≤ length p.bytes → HasWord spots r
    → HasWord (set spots i (patched_spot own target p)) r
word_kept spots i target r own p e within h =
    kept spots i r.section r.offset p (patched_spot own target p) e
    (patched_length own.kind p.bytes own.offset target (p.at + own.offset) within) h

bare_word : (s : Placement Object) (xs : List Section) (m offset : ℕ) → IsSomeAnd (slice_get xs m) (λ x. (offset + 4 ≤ length x.bytes) × ((origin x.place + offset) % 4 ≡ 0))
    → IsSomeAnd (slice_get (map (unpatched s) xs) m) (λ q. offset + 4 ≤ length q.bytes)
bare_word s [] m offset h = h
bare_word s (x ∷ xs) zero offset h = h.0
bare_word s (x ∷ xs) (suc m) offset h = bare_word s xs m offset h

-- the sections of an object have the words of its relocations
pub has_words : (s : Placement Object) (xs : List Section) (rs : List Reloc) → All (IsPatchIn xs) rs → All (HasWord (map (unpatched s) xs)) rs
has_words s xs rs h = All-weaker (IsPatchIn xs) (HasWord (map (unpatched s) xs)) (λ r k. bare_word s xs r.section r.offset k) rs h

-- the word of a relocation lies in its section
pub word_here : (spots : List Placed) (m offset : ℕ) (p : Placed) → IsSomeAnd (slice_get spots m) (λ q. offset + 4 ≤ length q.bytes) → p ≡ get_or spots m p
    → (m < length spots) × (offset + 4 ≤ length p.bytes)
word_here [] m offset p h e = absurd h
word_here (q ∷ qs) zero offset p h e = (omega arith, omega (arith, h, ap (λ (x : Placed). length x.bytes) e))
word_here (q ∷ qs) (suc m) offset p h e = let rest = word_here qs m offset p h e in (omega (arith, rest.0), rest.1)

-- one relocation, where it can be carried out
pub known_one : (table : List Symbol) (s : Placement Object) (x : Reloc) (spots : List Placed) (p changed : Placed) (target : ℕ)
    → Some target ≡ (if is_kept table s x then Some (target_of (value_or_zero table s) x) else None) → changed ≡ patched_spot x target p
    → HasWord spots x → p ≡ get_or spots x.section p → set spots x.section changed ≡ carried_known table s (x ∷ []) spots
known_one table s x spots p changed target own is word e = by (is_kept table s x) own
  where
    t : ℕ
    t = target_of (value_or_zero table s) x

    by : (b : Bool) → Some target ≡ (if b then Some t else None)
        → set spots x.section changed ≡ carried (target_of (value_or_zero table s)) (if b then x ∷ [] else []) spots
    by true h =
        let same : target ≡ t = cc in
        ap (set spots x.section) (is ∙ ap (λ n. patched_spot x n p) same)
        ∙ patched_at x t spots p (word_here spots x.section x.offset p word e).0 e
    by false h = cc

-- relocations in two parts, of which those that can be are carried out
filtered : (keep : Reloc → Bool) (target : Reloc → ℕ) (r : Reloc) (rs : List Reloc) (spots : List Placed)
    → carried target (filter keep (r ∷ rs)) spots ≡ carried target (filter keep rs) (carried target (filter keep (r ∷ [])) spots)
filtered keep target r rs spots = by (keep r)
  where
    by : (b : Bool)
        → carried target (if b then r ∷ filter keep rs else filter keep rs) spots
        ≡ carried target (filter keep rs) (carried target (if b then r ∷ [] else []) spots)
    by true = refl
    by false = refl

-- the relocation at a place is carried out before those behind it
pub known_more : (table : List Symbol) (s : Placement Object) (rs : List Reloc) (i : ℕ) (r : Reloc) (spots : List Placed) → i < length rs → r ≡ get_or rs i r
    → carried_known table s (drop i rs) spots ≡ carried_known table s (drop (i + 1) rs) (carried_known table s (r ∷ []) spots)
known_more table s rs i r spots h e =
    ap (λ l. carried_known table s l spots) (drop_more rs i r h ∙ ap (λ x. x ∷ drop (i + 1) rs) (sym e))
    ∙ filtered (is_kept table s) (target_of (value_or_zero table s)) r (drop (i + 1) rs) spots

-- the section of a relocation
section_of : (spots : List Placed) (m offset : ℕ) → IsSomeAnd (slice_get spots m) (λ q. offset + 4 ≤ length q.bytes) → (p : Placed) × (p ≡ get_or spots m p)
section_of [] m offset h = absurd h
section_of (q ∷ qs) zero offset h = (q, refl)
section_of (q ∷ qs) (suc m) offset h = section_of qs m offset h

patched_kept : (spots : List Placed) (x : Reloc) (target : ℕ) (r : Reloc) → HasWord spots x → HasWord spots r → HasWord (patched_in x target spots) r
patched_kept spots x target r own h =
    let p = section_of spots x.section x.offset own in
    let here = word_here spots x.section x.offset p.0 own p.1 in
    subst (λ l. HasWord l r) (patched_at x target spots p.0 here.0 p.1)
    (word_kept spots x.section target r x p.0 p.1 here.1 h)

-- the words of relocations lie in the sections on which one is carried out
pub words_kept : (table : List Symbol) (s : Placement Object) (x : Reloc) (rs : List Reloc) (spots : List Placed) → HasWord spots x → All (HasWord spots) rs
    → All (HasWord (carried_known table s (x ∷ []) spots)) rs
words_kept table s x rs spots own words = by (is_kept table s x)
  where
    t : ℕ
    t = target_of (value_or_zero table s) x

    by : (b : Bool) → All (HasWord (carried (target_of (value_or_zero table s)) (if b then x ∷ [] else []) spots)) rs
    by false = words
    by true = λ k d h. patched_kept spots x t (get_or rs k d) own (words k d h)
