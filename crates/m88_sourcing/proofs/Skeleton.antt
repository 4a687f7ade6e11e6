-- Statements with zeros in place of their bytes: they are laid out as the statements themselves are, and use no name.
use Rattle.std.proofs.Common.{◌≡◌, ℕ, ◌+◌, Bool, ◌==◌, ◌||◌, inl, inr, List, [], ◌∷◌, ◌++◌, refl, sym, ap, subst, ◌∙◌}
use Rattle.std.specs.Prelude.{Option, None, Some, flat_map, if◌then◌else◌, map, slice_get, bytes_eq}
use Rattle.std.specs.List.{AllByRecursion, enumerate_from, list_any}
use Rattle.std.specs.Option.{option_map_or}
use Rattle.m88_base.specs.Image.{ProgramImage}
use Rattle.m88_parse.specs.declared.unit.Body.{Body}
use Rattle.m88_parse.specs.declared.unit.Body.TheVariants as body
use Rattle.m88_parse.specs.declared.unit.Statement.{Statement}
use Rattle.m88_link.specs.Bases.{base_at, first_text, up_to_multiple}
use Rattle.m88_link.specs.Layout.{Extent}
use Rattle.m88_link.specs.Symbols.{exported, symbol_meaning}
use Rattle.m88_link.specs.Sound.{start_name}
use Rattle.m88_link.specs.declared.object.Place.{Place}
use Rattle.m88_link.specs.declared.object.Place.TheVariants as place
use Rattle.m88_link.specs.declared.object.Symbol.{Symbol}
use Rattle.m88_asm.specs.Counters.{Counters, Located, after, at_begin, at_section, here_at, length_at, located, place_here}
use Rattle.m88_asm.specs.Objects.{Head, declares, first_heads, heads_in, labels_at, lines_in, marked, opened_by, opens, sets_at, symbols_in, symbols_of}
use Rattle.m88_asm.specs.Units.{base_in, extent_under, extents_in, globals_in, length_in, section_length}
use Rattle.m88_disasm.specs.Read.{unlabelled}
use Rattle.m88_disasm.proofs.Laws.{Names, Sets, a_set, lengths_cons, lengths_of, located_cons, main, names_in, names_of, no_set, stood}
use Rattle.m88_sourcing.proofs.Places.{AllAt, IsBranchAt, IsPlain, IsSimple, WaitsFor, place_behind}
use Rattle.m88_sourcing.specs.Said.{Said}

-- a body that goes on in its section, or opens one, wherever it stands
abbrev pub IsTame : Body → Type 0
IsTame body.Text = ⊥
IsTame body.DataSection = ⊥
IsTame (body.Align n) = ⊥
IsTame (body.Global name) = ⊥
IsTame b = Unit {0}

abbrev pub AreTame : List Statement → Type 0
AreTame xs = AllByRecursion (λ x. IsTame x.body) xs

-- with zeros in place of its bytes
abbrev pub bare : Body → Body
bare (body.At a) = body.At a
bare (body.Set name col value) = body.Set name col value
bare b = body.Zero (length_at 0 b)

abbrev pub bared : Statement → Statement
bared x = record { line = x.line; label = x.label; col = x.col; body = bare x.body }

abbrev pub skeleton : List Statement → List Statement
skeleton [] = []
skeleton (x ∷ xs) = bared x ∷ skeleton xs

pub skeleton_behind : (xs ys : List Statement) → skeleton (xs ++ ys) ≡ skeleton xs ++ skeleton ys
skeleton_behind [] ys = refl
skeleton_behind (x ∷ xs) ys = ap (λ (zs : List Statement). bared x ∷ zs) (skeleton_behind xs ys)

pub tame_behind : (xs ys : List Statement) → AreTame xs → AreTame ys → AreTame (xs ++ ys)
tame_behind [] ys h k = k
tame_behind (x ∷ xs) ys h k = (h.0, tame_behind xs ys h.1 k)

plain_tame : (b : Body) → IsPlain b → IsTame b
plain_tame body.Text p = absurd p
plain_tame body.DataSection p = absurd p
plain_tame (body.Align n) p = absurd p
plain_tame (body.Global name) p = absurd p
plain_tame b p = tt

pub all_tame : (image : ProgramImage) (said : Said) (at : ℕ) (xs : List Statement)
    → AllAt (IsSimple image said) at xs → AreTame xs
all_tame image said at [] h = tt
all_tame image said at (x ∷ xs) h = (first h.0, all_tame image said (place_behind at x.body) xs h.1)
  where
    first : IsSimple image said at x → IsTame x.body
    first (inl p) = plain_tame x.body p
    first (inr b) = subst IsTame (sym (WaitsFor.body_is (IsBranchAt.waits b))) tt

-- statements that name values are their own skeleton
pub sets_skeleton : (Named : Names) (sets : List Statement) → Sets Named sets → skeleton sets ≡ sets
sets_skeleton Named _ no_set = refl
sets_skeleton Named _ (a_set {xs = xs} n name col value named others) =
    ap (λ (zs : List Statement). unlabelled n (body.Set name col value) ∷ zs) (sets_skeleton Named xs others)

pub sets_tame : (Named : Names) (sets : List Statement) → Sets Named sets → AreTame sets
sets_tame Named _ no_set = tt
sets_tame Named _ (a_set {xs = xs} n name col value named others) = (tt, sets_tame Named xs others)

-- one statement
pub after_bare : (c : Counters) (b : Body) → IsTame b → after c (bare b) ≡ after c b
after_bare c body.Text t = absurd t
after_bare c body.DataSection t = absurd t
after_bare c (body.Align n) t = absurd t
after_bare c (body.Global name) t = absurd t
after_bare c b t = refl

opened_bare : (line : ℕ) (b : Body) → IsTame b → opened_by line (bare b) ≡ opened_by line b
opened_bare line body.Text t = absurd t
opened_bare line b t = refl

sets_bare : (line : ℕ) (b : Body) → IsTame b → sets_at line (bare b) ≡ sets_at line b
sets_bare line body.Text t = absurd t
sets_bare line b t = refl

declares_bare : (name : List ℕ) (b : Body) → IsTame b → declares name (bare b) ≡ declares name b
declares_bare name (body.Global other) t = absurd t
declares_bare name b t = refl

length_bare : (k : ℕ) (c : Counters) (b : Body) → IsTame b
    → (if here_at c (bare b) == k then length_at (place_here (at_section c (bare b))) (bare b) else 0)
    ≡ (if here_at c b == k then length_at (place_here (at_section c b)) b else 0)
length_bare k c body.Text t = absurd t
length_bare k c body.DataSection t = absurd t
length_bare k c (body.Align n) t = absurd t
length_bare k c (body.Global name) t = absurd t
length_bare k c b t = refl

pub behind_bare : (p : ℕ) (b : Body) → IsTame b → place_behind p (bare b) ≡ place_behind p b
behind_bare p body.Text t = absurd t
behind_bare p body.DataSection t = absurd t
behind_bare p (body.Align n) t = absurd t
behind_bare p (body.Global name) t = absurd t
behind_bare p b t = refl

abbrev row : Counters → Statement → Located
row c x = record { before = c; statement = x }

-- what rows give together
same_flat : {B : Type 0} (f : Located → List B)
    → ((c : Counters) (x : Statement) → IsTame x.body → f (row c (bared x)) ≡ f (row c x))
    → (c : Counters) (xs : List Statement) → AreTame xs
    → flat_map f (located c (skeleton xs)) ≡ flat_map f (located c xs)
same_flat f same c [] t = refl
same_flat {B = B} f same c (x ∷ xs) t =
    ap (flat_map f) (located_cons c (bared x) (skeleton xs))
    ∙ ap (λ (d : Counters). f (row c (bared x)) ++ flat_map f (located d (skeleton xs))) (after_bare c x.body t.0)
    ∙ ap (λ (ys : List B). f (row c (bared x)) ++ ys) (same_flat f same (after c x.body) xs t.1)
    ∙ ap (λ (ys : List B). ys ++ flat_map f (located (after c x.body) xs)) (same c x t.0)
    ∙ sym (ap (flat_map f) (located_cons c x xs))

same_lengths : (k : ℕ) (c : Counters) (xs : List Statement) → AreTame xs
    → lengths_of k c (skeleton xs) ≡ lengths_of k c xs
same_lengths k c [] t = refl
same_lengths k c (x ∷ xs) t =
    lengths_cons k c (bared x) (skeleton xs)
    ∙ ap (λ (d : Counters). length_in k (row c (bared x)) + lengths_of k d (skeleton xs)) (after_bare c x.body t.0)
    ∙ ap (λ (n : ℕ). length_in k (row c (bared x)) + n) (same_lengths k (after c x.body) xs t.1)
    ∙ ap (λ (n : ℕ). n + lengths_of k (after c x.body) xs) (length_bare k c x.body t.0)
    ∙ sym (lengths_cons k c x xs)

-- so a module of them
heads_same : (xs : List Statement) → AreTame xs → heads_in (main (skeleton xs)) ≡ heads_in (main xs)
heads_same xs t =
    ap (λ (hs : List Head). first_heads 1 ++ hs)
    (same_flat opens (λ c x h. opened_bare x.line x.body h) at_begin xs t)

section_same : (k : ℕ) (xs : List Statement) → AreTame xs
    → section_length k (main (skeleton xs)) ≡ section_length k (main xs)
section_same k xs t = same_lengths k at_begin xs t

declares_same : (name : List ℕ) (xs : List Statement) → AreTame xs
    → list_any (λ (x : Statement). declares name x.body) (skeleton xs)
    ≡ list_any (λ (x : Statement). declares name x.body) xs
declares_same name [] t = refl
declares_same name (x ∷ xs) t =
    ap (λ (u : Bool). u || list_any (λ (y : Statement). declares name y.body) (skeleton xs))
    (declares_bare name x.body t.0)
    ∙ ap (λ (u : Bool). declares name x.body || u) (declares_same name xs t.1)

marked_same : (xs : List Statement) → AreTame xs → (s : Symbol) → marked (skeleton xs) s ≡ marked xs s
marked_same xs t s =
    ap (λ (u : Bool). let m : Symbol = record s { global = bytes_eq s.name start_name || u } in m)
    (declares_same s.name xs t)

map_same : {A B : Type 0} (f g : A → B) → ((x : A) → f x ≡ g x) → (xs : List A) → map f xs ≡ map g xs
map_same f g same [] = refl
map_same {B = B} f g same (x ∷ xs) =
    ap (λ (y : B). let ys : List B = y ∷ map f xs in ys) (same x)
    ∙ ap (λ (ys : List B). let zs : List B = g x ∷ ys in zs) (map_same f g same xs)

pub symbols_same : (xs : List Statement) → AreTame xs → symbols_in (main (skeleton xs)) ≡ symbols_in (main xs)
symbols_same xs t =
    ap (map (marked (skeleton xs)))
    (same_flat symbols_of (λ c x h. ap (λ (ss : List Symbol). labels_at c x.line x.label ++ ss)
    (sets_bare x.line x.body h))
    at_begin xs t)
    ∙ map_same (marked (skeleton xs)) (marked xs) (marked_same xs t) (flat_map symbols_of (lines_in (main xs)))

data_same : (xs : List Statement) → AreTame xs → (stood (skeleton xs)).data_at ≡ (stood xs).data_at
data_same xs t =
    ap (λ (n : ℕ). up_to_multiple 8 (up_to_multiple 4096 (up_to_multiple 8 first_text + n))) (section_same 0 xs t)

place_same : (xs : List Statement) → AreTame xs → (p : Place) → base_at (stood (skeleton xs)) p ≡ base_at (stood xs) p
place_same xs t place.Text = refl
place_same xs t place.DataSection = data_same xs t
place_same xs t (place.At a) = refl

pub base_same : (xs : List Statement) → AreTame xs → (k : ℕ) → base_in (stood (skeleton xs)) k ≡ base_in (stood xs) k
base_same xs t k =
    ap (λ (hs : List Head). option_map_or (λ h. base_at (stood (skeleton xs)) h.place) (slice_get hs k) 0)
    (heads_same xs t)
    ∙ by (slice_get (heads_in (main xs)) k)
  where
    by : (o : Option Head)
        → option_map_or (λ h. base_at (stood (skeleton xs)) h.place) o 0
        ≡ option_map_or (λ h. base_at (stood xs) h.place) o 0
    by None = refl
    by (Some h) = place_same xs t h.place

pub bases_same : (xs : List Statement) → AreTame xs → base_in (stood (skeleton xs)) ≡ base_in (stood xs)
bases_same xs t = λ i k. base_same xs t k i

pub globals_same : (xs : List Statement) → AreTame xs → globals_in (stood (skeleton xs)) ≡ globals_in (stood xs)
globals_same xs t =
    ap (λ (b : ℕ → ℕ). exported b (symbols_in (main (skeleton xs)))) (bases_same xs t)
    ∙ ap (exported (base_in (stood xs))) (symbols_same xs t)

pub meaning_same : (g : List Symbol) (name : List ℕ) (xs : List Statement) → AreTame xs
    → symbol_meaning g (base_in (stood (skeleton xs))) (symbols_in (main (skeleton xs))) name
    ≡ symbol_meaning g (base_in (stood xs)) (symbols_in (main xs)) name
meaning_same g name xs t =
    ap (λ (b : ℕ → ℕ). symbol_meaning g b (symbols_in (main (skeleton xs))) name) (bases_same xs t)
    ∙ ap (λ (ss : List Symbol). symbol_meaning g (base_in (stood xs)) ss name) (symbols_same xs t)

extent_same : (xs : List Statement) → AreTame xs → (e : ℕ × Head)
    → extent_under (stood (skeleton xs)) e ≡ extent_under (stood xs) e
extent_same xs t e =
    ap (λ (a : ℕ). let x : Extent = record {
      at = a;
      len = section_length e.0 (main (skeleton xs));
      line = e.1.line;
    } in x) (place_same xs t e.1.place)
    ∙ ap (λ (n : ℕ). let x : Extent = record { at = base_at (stood xs) e.1.place; len = n; line = e.1.line } in x)
    (section_same e.0 xs t)

pub extents_same : (xs : List Statement) → AreTame xs → extents_in (stood (skeleton xs)) ≡ extents_in (stood xs)
extents_same xs t =
    ap (λ (hs : List Head). map (extent_under (stood (skeleton xs))) (enumerate_from 0 hs)) (heads_same xs t)
    ∙ map_same (extent_under (stood (skeleton xs))) (extent_under (stood xs)) (extent_same xs t)
    (enumerate_from 0 (heads_in (main xs)))

-- and they name the same
names_bare : (x : Statement) → IsTame x.body → names_of (bared x) ≡ names_of x
names_bare x t =
    ap (λ (ss : List Symbol). map (λ (s : Symbol). s.name) (labels_at at_begin x.line x.label ++ ss))
    (sets_bare x.line x.body t)

pub names_skeleton : (xs : List Statement) → AreTame xs → names_in (skeleton xs) ≡ names_in xs
names_skeleton [] t = refl
names_skeleton (x ∷ xs) t =
    ap (λ (ns : List (List ℕ)). ns ++ names_in (skeleton xs)) (names_bare x t.0)
    ∙ ap (λ (ns : List (List ℕ)). names_of x ++ ns) (names_skeleton xs t.1)
