-- The lines of a source show the bytes of its image.
use Rattle.std.proofs.Common.{◌≡◌, ℕ, ◌≤◌, Bool, true, false, inl, inr, List, [], ◌∷◌, ◌++◌, length, map, refl, sym, ap, ◌∙◌, subst, arith, Option, Some, None}
use Rattle.std.specs.Prelude.{◌==◌, ◌⊎◌, flat_map, if◌then◌else◌, nat_lt}
use Rattle.std.specs.Option.{option_map_or}
use Rattle.std.proofs.lemmas.Bool.{eqb-true, ltb-false}
use Rattle.std.proofs.lemmas.Bool.Decides.{nat_tests}
use Rattle.m88_base.proofs.Laws.{byte_among-append, byte_in_above, byte_in_below}
use Rattle.m88_base.specs.Image.{byte_at}
use Rattle.m88_base.specs.Lines.{lines_of}
use Rattle.m88_base.specs.Placed.{Placed, byte_among, byte_in}
use Rattle.m88_link.specs.declared.object.Symbol.{Symbol}
use Rattle.m88_asm.specs.Counters.{Located, length_of, place_of}
use Rattle.m88_asm.specs.Images.{run_of, runs_in}
use Rattle.m88_asm.specs.Objects.{lines_in}
use Rattle.m88_link.specs.Bases.{Placement}
use Rattle.m88_parse.specs.declared.unit.Module.{Module}
use Rattle.m88_asm.specs.Units.{address_in, based, bytes_of, unit_layout, value_in_module}
use Rattle.m88_asm.proofs.Laws.{Has, either_some, has_left, has_right, length-filled_bytes, some_none}
use Rattle.m88_listing.specs.Laws.{EachShowsItsImage, Shows, shown_runs}
use Rattle.m88_listing.specs.Rows.{Row, named_by, row_of, rows_in, rows_of_statement, rows_of_unit, symbol_row}
use Rattle.m88_listing.specs.Inside.Slots.{kept_row, slots_of}
use Rattle.m88_listing.proofs.Climbing.{shown_all, unit_climbs}
use Rattle.m88_listing.proofs.Fitting.{found_in, unit_kept}

-- the runs of rows
abbrev runs : List Row → List Placed
runs rows = map (λ (row : Row). row.run) rows

shows_left : (ps qs : List Placed) (a b : ℕ) → Shows ps a b → Shows (ps ++ qs) a b
shows_left [] qs a b h = absurd h
shows_left (p ∷ ps) qs a b (inl h) = inl h
shows_left (p ∷ ps) qs a b (inr h) = inr (shows_left ps qs a b h)

shows_right : (ps qs : List Placed) (a b : ℕ) → Shows qs a b → Shows (ps ++ qs) a b
shows_right [] qs a b h = h
shows_right (p ∷ ps) qs a b h = inr (shows_right ps qs a b h)

shows_either : (ps qs : List Placed) (a b : ℕ) → Shows (ps ++ qs) a b → Shows ps a b ⊎ Shows qs a b
shows_either [] qs a b h = inr h
shows_either (p ∷ ps) qs a b (inl h) = inl (inl h)
shows_either (p ∷ ps) qs a b (inr h) = elim (shows_either ps qs a b h) [ inl l ↦ inl (inr l) | inr r ↦ inr r ]

runs-append : (xs ys : List Row) → runs (xs ++ ys) ≡ runs xs ++ runs ys
runs-append [] ys = refl
runs-append (x ∷ xs) ys = ap (λ rs. x.run ∷ rs) (runs-append xs ys)

-- a run without bytes has none at any address
empty_run : (run : Placed) (a : ℕ) → length run.bytes ≤ 0 → byte_in run a ≡ None
empty_run run a none = by (nat_lt a run.at) refl
  where
    by : (t : Bool) → nat_lt a run.at ≡ t → byte_in run a ≡ None
    by true t = byte_in_below run a (grind (arith, nat_tests))
    by false t = byte_in_above run a (omega (arith, none, ltb-false a run.at t))

both : {A B C D : Type 0} → (A → C) → (B → D) → A ⊎ B → C ⊎ D
both f g (inl x) = inl (f x)
both f g (inr x) = inr (g x)

-- the rows of a statement show what it gives
one_shows : (globals : List Symbol) (bs : Placement Module) (r : Located) (a b : ℕ) → Shows (runs (rows_of_statement globals bs r)) a b
    → byte_in (run_of globals bs r) a ≡ Some b
one_shows globals bs r a b = by (length_of r == 0)
  where
    named : (o : Option Symbol) → Shows (runs (option_map_or (λ s. symbol_row bs s ∷ []) o [])) a b → byte_in (run_of globals bs r) a ≡ Some b
    named None h = absurd h
    named (Some s) (inl e) = absurd (some_none (byte_in (symbol_row bs s).run a) b (empty_run (symbol_row bs s).run a (omega arith)) e)
    named (Some s) (inr h) = absurd h

    by : (t : Bool) → Shows (runs (if t then option_map_or (λ s. symbol_row bs s ∷ []) (named_by r) [] else row_of globals bs r ∷ [])) a b
        → byte_in (run_of globals bs r) a ≡ Some b
    by true h = named (named_by r) h
    by false (inl e) = e
    by false (inr h) = absurd h

one_shown : (globals : List Symbol) (bs : Placement Module) (r : Located) (a b : ℕ) → byte_in (run_of globals bs r) a ≡ Some b
    → Shows (runs (rows_of_statement globals bs r)) a b
one_shown globals bs r a b e = by (length_of r == 0) refl
  where
    long : length (bytes_of globals bs r) ≡ length_of r
    long = length-filled_bytes (value_in_module globals bs) (address_in bs r) (place_of r) r.statement.body

    by : (t : Bool) → (length_of r == 0) ≡ t
        → Shows (runs (if t then option_map_or (λ s. symbol_row bs s ∷ []) (named_by r) [] else row_of globals bs r ∷ [])) a b
    by true t =
        let none : length_of r ≡ 0 = eqb-true (length_of r) 0 t in
        absurd (some_none (byte_in (run_of globals bs r) a) b (empty_run (run_of globals bs r) a (omega (arith, long, none))) e)
    by false t = inl e

-- and so do those of statements
kept_shows : (globals : List Symbol) (bs : Placement Module) (rs : List Located) (a b : ℕ)
    → Shows (runs (flat_map (rows_of_statement globals bs) rs)) a b → Has (map (run_of globals bs) rs) a b
unfolding Has
kept_shows globals bs [] a b h = h
kept_shows globals bs (r ∷ rs) a b h =
    both (one_shows globals bs r a b) (kept_shows globals bs rs a b)
    (shows_either (runs (rows_of_statement globals bs r)) (runs (flat_map (rows_of_statement globals bs) rs)) a b
    (subst (λ ps. Shows ps a b) (runs-append (rows_of_statement globals bs r) (flat_map (rows_of_statement globals bs) rs)) h))

has_append : (ps qs : List Placed) (a b : ℕ) → Has ps a b ⊎ Has qs a b → Has (ps ++ qs) a b
has_append ps qs a b (inl h) = has_left ps qs a b h
has_append ps qs a b (inr h) = has_right ps qs a b h

modules_show : (globals : List Symbol) (bs : List (Placement Module)) (a b : ℕ)
    → Shows (runs (flat_map (rows_in globals) bs)) a b → Has (flat_map (runs_in globals) bs) a b
unfolding Has
modules_show globals [] a b h = h
modules_show globals (x ∷ bs) a b h =
    has_append (runs_in globals x) (flat_map (runs_in globals) bs) a b
    (both (kept_shows globals x (lines_in x.part) a b) (modules_show globals bs a b)
    (shows_either (runs (rows_in globals x)) (runs (flat_map (rows_in globals) bs)) a b
    (subst (λ ps. Shows ps a b) (runs-append (rows_in globals x) (flat_map (rows_in globals) bs)) h)))

-- and the other way round
found_row : (globals : List Symbol) (bs : Placement Module) (rs : List Located) (a b : ℕ) → byte_among (map (run_of globals bs) rs) a ≡ Some b
    → Shows (runs (flat_map (rows_of_statement globals bs) rs)) a b
found_row globals bs [] a b h = cc
found_row globals bs (r ∷ rs) a b h =
    subst (λ ps. Shows ps a b) (sym (runs-append (rows_of_statement globals bs r) (flat_map (rows_of_statement globals bs) rs)))
    (joined (either_some (byte_in (run_of globals bs r) a) (byte_among (map (run_of globals bs) rs) a) b h) (found_row globals bs rs a b))
  where
    joined : (byte_in (run_of globals bs r) a ≡ Some b) ⊎ (byte_among (map (run_of globals bs) rs) a ≡ Some b)
        → (byte_among (map (run_of globals bs) rs) a ≡ Some b → Shows (runs (flat_map (rows_of_statement globals bs) rs)) a b)
        → Shows (runs (rows_of_statement globals bs r) ++ runs (flat_map (rows_of_statement globals bs) rs)) a b
    joined (inl e) next = shows_left _ _ a b (one_shown globals bs r a b e)
    joined (inr e) next = shows_right (runs (rows_of_statement globals bs r)) _ a b (next e)

shown_kept : (globals : List Symbol) (bs : List (Placement Module)) (a b : ℕ)
    → byte_among (flat_map (runs_in globals) bs) a ≡ Some b → Shows (runs (flat_map (rows_in globals) bs)) a b
shown_kept globals [] a b h = cc
shown_kept globals (x ∷ bs) a b h =
    subst (λ ps. Shows ps a b) (sym (runs-append (rows_in globals x) (flat_map (rows_in globals) bs)))
    (joined (either_some (byte_among (runs_in globals x) a) (byte_among (flat_map (runs_in globals) bs) a) b
    (sym (byte_among-append (runs_in globals x) (flat_map (runs_in globals) bs) a) ∙ h)) (shown_kept globals bs a b))
  where
    joined : (byte_among (runs_in globals x) a ≡ Some b) ⊎ (byte_among (flat_map (runs_in globals) bs) a ≡ Some b)
        → (byte_among (flat_map (runs_in globals) bs) a ≡ Some b → Shows (runs (flat_map (rows_in globals) bs)) a b)
        → Shows (runs (rows_in globals x) ++ runs (flat_map (rows_in globals) bs)) a b
    joined (inl e) next = shows_left _ _ a b (found_row globals x (lines_in x.part) a b e)
    joined (inr e) next = shows_right (runs (rows_in globals x)) _ a b (next e)

pub each_shows_its_image : EachShowsItsImage
each_shows_its_image = λ source u image is accepted own a b.
    let found = byte_at image in
    let ss = slots_of (based u) in
    let kept : rows_of_unit u ≡ map (kept_row found) ss = unit_kept u found accepted.linkable.disjoint own.bytes in
    let all : shown_runs (rows_of_unit u) source ≡ runs (rows_of_unit u) =
    ap (λ rows. shown_runs rows source) kept ∙ shown_all found 1 (lines_of source) ss (unit_climbs source u is) ∙ ap runs (sym kept) in (
      λ h. found_in u found accepted.linkable.disjoint own.bytes a b (modules_show (unit_layout u).globals (based u) a b (subst (λ ps. Shows ps a b) all h)),
      λ h. subst (λ ps. Shows ps a b) (sym all) (shown_kept (unit_layout u).globals (based u) a b (sym (own.bytes a) ∙ h)),
    )
