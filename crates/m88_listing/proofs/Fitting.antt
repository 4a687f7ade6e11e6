-- The statements of a unit that is accepted fit, and what is kept of them is what they put into the unit's image.
use Rattle.std.proofs.Common.{◌≡◌, ℕ, suc, ◌+◌, ◌-◌, ◌<◌, ◌≤◌, ◌^◌, Bool, true, false, inl, inr, List, [], ◌∷◌, ◌++◌, length, map, get_or, refl, sym, ap, ◌∙◌, subst, arith, Option, Some, None}
use Rattle.std.specs.Prelude.{◌==◌, IfSome, IsSome, flat_map, nat_lt, slice_get, unwrap_or, if◌then◌else◌}
use Rattle.std.specs.List.{AllByRecursion, range_with_len}
use Rattle.std.specs.Option.{option_map, option_map_or}
use Rattle.std.proofs.lemmas.Bool.{ltb-false, or_parts}
use Rattle.std.proofs.lemmas.List.{map-append}
use Rattle.std.proofs.lemmas.Option.{slice_get-get_or}
use Rattle.m88_base.proofs.Laws.{byte_in_from}
use Rattle.m88_base.specs.Image.{IsImage, ProgramImage, byte_at, most_bytes}
use Rattle.m88_base.specs.Placed.{Placed}
use Rattle.m88_parse.specs.declared.unit.Module.{Module}
use Rattle.m88_parse.specs.declared.unit.Statement.{Statement}
use Rattle.m88_parse.specs.declared.unit.Unit.{Unit as Source}
use Rattle.m88_parse.specs.WellFormed.{IsWellFormed}
use Rattle.m88_link.specs.declared.object.Symbol.{Symbol}
use Rattle.m88_link.specs.Symbols.{repeated_after}
use Rattle.m88_link.specs.Bases.{Placement, stood_from, up_to_multiple}
use Rattle.m88_link.specs.Refusal.{AreDisjoint}
use Rattle.m88_asm.specs.Accepted.{IsAcceptedUnit}
use Rattle.m88_asm.specs.Counters.{Counters, Located, after, at_begin, length_of, located, offset_of, place_of}
use Rattle.m88_asm.specs.Faults.{duplicate_at, misfit_at, misplaced_at, module_fault, modules_fault, statements_fault, too_large_at, IsAssembled}
use Rattle.m88_asm.specs.Images.{IsUnitImage, run_of, runs_in, unit_byte}
use Rattle.m88_asm.specs.Objects.{symbols_of}
use Rattle.m88_asm.specs.Units.{address_in, based, bytes_of, section_length, unit_layout, value_in_module}
use Rattle.m88_asm.proofs.Laws.{AllFormed, CanFill, EachBased, Has, each_fills, first_parts, formed, has_left, has_right, length-filled_bytes, no_fault, none_of_both, run_found, runs_law}
use Rattle.m88_listing.specs.Rows.{Row, named_by, row_of, rows_in, rows_of_statement, rows_of_unit, shown_as, symbol_row}
use Rattle.m88_listing.specs.Inside.Slots.{AllFit, StandsWithin, IsSlot, ModuleFits, found_bytes, kept_row, slots_at, slots_from, slots_of, symbol_slot}
use Rattle.m88_listing.specs.declared.slots.Slot.{Slot}

-- the bytes of a statement are found at their addresses
abbrev pub IsFound : List Symbol → Placement Module → (ℕ → Option ℕ) → Located → Type 0
IsFound globals b found r = (k v : ℕ) → slice_get (bytes_of globals b r) k ≡ Some v → found (address_in b r + k) ≡ Some v

-- those of statements are, from counters on
abbrev pub AreFound : List Symbol → Placement Module → (ℕ → Option ℕ) → Counters → List Statement → Type 0
AreFound globals b found c [] = Unit {0}
AreFound globals b found c (x ∷ xs) =
    IsFound globals b found (record { before = c; statement = x }) × AreFound globals b found (after c x.body) xs

rows_found : (globals : List Symbol) (b : Placement Module) (found : ℕ → Option ℕ) (c : Counters) (xs : List Statement)
    → ((a v : ℕ) → Has (map (run_of globals b) (located c xs)) a v → found a ≡ Some v) → AreFound globals b found c xs
unfolding Has located
rows_found globals b found c [] into = tt
rows_found globals b found c (x ∷ xs) into =
    let r : Located = record { before = c; statement = x } in (
      (λ k v e. into (address_in b r + k) v (inl (byte_in_from (address_in b r) (bytes_of globals b r) k ∙ e))),
      rows_found globals b found (after c x.body) xs (λ a v h. into a v (inr h)),
    )

modules_found : (globals : List Symbol) (found : ℕ → Option ℕ) (bs : List (Placement Module))
    → ((a v : ℕ) → Has (flat_map (runs_in globals) bs) a v → found a ≡ Some v)
    → EachBased (λ b. AreFound globals b found at_begin b.part.statements) bs
modules_found globals found [] into = tt
modules_found globals found (b ∷ bs) into = (
  rows_found globals b found at_begin b.part.statements
      (λ a v h. into a v (has_left (runs_in globals b) (flat_map (runs_in globals) bs) a v h)),
  modules_found globals found bs (λ a v h. into a v (has_right (runs_in globals b) (flat_map (runs_in globals) bs) a v h)),
)

-- a byte of a statement is that of the image, where no address has two
pub found_in : (u : Source) (found : ℕ → Option ℕ) → AreDisjoint (unit_layout u).extents → ((a : ℕ) → found a ≡ unit_byte u a)
    → (a v : ℕ) → Has (flat_map (runs_in (unit_layout u).globals) (based u)) a v → found a ≡ Some v
found_in u found apart own a v h =
    let globals = (unit_layout u).globals in
    own a ∙ sym (runs_law globals (based u) a apart) ∙ run_found globals (based u) a v apart h

pub all_found : (u : Source) (found : ℕ → Option ℕ) → AreDisjoint (unit_layout u).extents → ((a : ℕ) → found a ≡ unit_byte u a)
    → EachBased (λ b. AreFound (unit_layout u).globals b found at_begin b.part.statements) (based u)
all_found u found apart own = modules_found (unit_layout u).globals found (based u) (found_in u found apart own)

-- a statement that meets no fault has room
pub room_of : (r : Located) → misfit_at (offset_of r) (place_of r) r.statement ≡ None → offset_of r + length_of r ≤ most_bytes
room_of r h =
    let none = (none_of_both (misplaced_at (place_of r) r.statement) (too_large_at (offset_of r) (place_of r) r.statement) h).1 in
    let parts = or_parts (nat_lt most_bytes (offset_of r + length_of r)) (nat_lt (2 ^ 32) (place_of r + length_of r)) (no_fault _ _ none) in
    ltb-false most_bytes (offset_of r + length_of r) parts.0

-- bytes that are found lie among the addresses
below : (o : Option ℕ) (a v : ℕ) → o ≡ Some v → IfSome o (λ b. (a < 2 ^ 32) × (b < 256)) → a < 2 ^ 32
below (Some b) a v e h = h.0
below None a v e h = cc

within_of : (globals : List Symbol) (b : Placement Module) (image : ProgramImage) (r : Located) → IsImage image → IsFound globals b (byte_at image) r
    → 0 < length_of r → address_in b r + length_of r ≤ 2 ^ 32
within_of globals b image r is found some =
    let bytes = bytes_of globals b r in
    let long : length bytes ≡ length_of r = length-filled_bytes (value_in_module globals b) (address_in b r) (place_of r) r.statement.body in
    let k = length_of r - 1 in
    let there = found k (get_or bytes k 0) (slice_get-get_or bytes k 0 (omega (arith, long, some))) in
    let low : address_in b r + k < 2 ^ 32 = below (byte_at image (address_in b r + k)) (address_in b r + k) _ there (is.bytes (address_in b r + k)) in
    omega (arith, low, some)

rows_fit : (globals defined : List Symbol) (b : Placement Module) (image : ProgramImage) (c : Counters) (xs : List Statement) → IsImage image → AllFormed xs
    → statements_fault defined (located c xs) ≡ None → AreFound globals b (byte_at image) c xs → AllFit b c xs
rows_fit globals defined b image c [] is formed clean found = tt
rows_fit globals defined b image c (x ∷ xs) is formed clean found =
    let r : Located = record { before = c; statement = x } in
    let parts = first_parts defined c x xs clean in
    let misfit = (none_of_both (option_map duplicate_at (repeated_after defined (symbols_of r))) (misfit_at (offset_of r) (place_of r) x) parts.0).1 in (
      record { formed = formed.0; room = room_of r misfit; within = within_of globals b image r is found.0 },
      rows_fit globals (defined ++ symbols_of r) b image (after c x.body) xs is formed.1 parts.1 found.1,
    )

pub each_clean : (text datas : ℕ) (ms : List Module) → modules_fault ms ≡ None → EachBased (λ b. module_fault b.part ≡ None) (stood_from section_length text datas ms)
each_clean text datas [] h = tt
each_clean text datas (m ∷ ms) h =
    let p = none_of_both (module_fault m) (modules_fault ms) h in
    (p.0, each_clean (up_to_multiple 8 text + section_length 0 m) (up_to_multiple 8 datas + section_length 1 m) ms p.1)

modules_fit : (globals : List Symbol) (image : ProgramImage) (bs : List (Placement Module)) → IsImage image → EachBased (CanFill globals) bs
    → EachBased (λ b. module_fault b.part ≡ None) bs → EachBased (λ b. AreFound globals b (byte_at image) at_begin b.part.statements) bs
    → AllByRecursion ModuleFits bs
modules_fit globals image [] is fills clean found = tt
modules_fit globals image (b ∷ bs) is fills clean found = (
  rows_fit globals [] b image at_begin b.part.statements is (formed b.part.statements fills.0.0) clean.0 found.0,
  modules_fit globals image bs is fills.1 clean.1 found.1,
)

-- what is found of a unit, each of whose modules can be filled: its statements meet no fault, no address has two bytes,
-- and an image has them
pub record IsLaid (u : Source) (image : ProgramImage) : Type 0 where
  pub fills : EachBased (CanFill (unit_layout u).globals) (based u)
  pub assembled : IsAssembled u
  pub disjoint : AreDisjoint (unit_layout u).extents
  pub is_image : IsImage image
  pub bytes : (a : ℕ) → byte_at image a ≡ unit_byte u a

pub accepted_laid : (u : Source) (image : ProgramImage) → IsWellFormed u → IsAcceptedUnit u → IsUnitImage u image → IsLaid u image
accepted_laid u image well accepted own = record {
  fills = each_fills u well accepted.linkable;
  assembled = accepted.assembled;
  disjoint = accepted.linkable.disjoint;
  is_image = own.is_image;
  bytes = own.bytes;
}

-- so the modules of a unit with an image fit
pub unit_fits : (u : Source) (image : ProgramImage) → IsLaid u image → AllByRecursion ModuleFits (based u)
unit_fits u image laid =
    modules_fit (unit_layout u).globals image (based u) laid.is_image laid.fills
    (each_clean _ _ u.modules laid.assembled) (all_found u (byte_at image) laid.disjoint laid.bytes)

-- and what is kept of them lies among the addresses, where bytes are found
has_each : (globals : List Symbol) (b : Placement Module) (found : ℕ → Option ℕ) (r : Located) → IsFound globals b found r
    → (k : ℕ) → k < length_of r → IsSome (found (address_in b r + k))
has_each globals b found r is k l =
    let bytes = bytes_of globals b r in
    let long : length bytes ≡ length_of r = length-filled_bytes (value_in_module globals b) (address_in b r) (place_of r) r.statement.body in
    subst IsSome (sym (is k (get_or bytes k 0) (slice_get-get_or bytes k 0 (omega (arith, long, l))))) refl

one_slot : (globals : List Symbol) (b : Placement Module) (found : ℕ → Option ℕ) (r : Located) → StandsWithin b r → IsFound globals b found r
    → AllByRecursion (IsSlot found) (slots_at b r)
one_slot globals b found r fits is = by (length_of r == 0) refl
  where
    named : (o : Option Symbol) → AllByRecursion (IsSlot found) (option_map_or (λ s. symbol_slot b s ∷ []) o [])
    named None = tt
    named (Some s) = (record { within = λ some. absurd (omega (arith, some)); has = λ k l. absurd (omega (arith, l)) }, tt)

    by : (t : Bool) → (length_of r == 0) ≡ t
        → AllByRecursion (IsSlot found)
        (if t then option_map_or (λ s. symbol_slot b s ∷ []) (named_by r) []
        else record { line = r.statement.line; at = address_in b r; len = length_of r; shown = shown_as r.statement.body } ∷ [])
    by true e = named (named_by r)
    by false e = (record { within = fits.within; has = has_each globals b found r is }, tt)

both_slots : (found : ℕ → Option ℕ) (xs ys : List Slot) → AllByRecursion (IsSlot found) xs → AllByRecursion (IsSlot found) ys
    → AllByRecursion (IsSlot found) (xs ++ ys)
both_slots found [] ys p q = q
both_slots found (x ∷ xs) ys p q = (p.0, both_slots found xs ys p.1 q)

rows_slots : (globals : List Symbol) (b : Placement Module) (found : ℕ → Option ℕ) (c : Counters) (xs : List Statement) → AllFit b c xs
    → AreFound globals b found c xs → AllByRecursion (IsSlot found) (slots_from b c xs)
rows_slots globals b found c [] fit is = tt
rows_slots globals b found c (x ∷ xs) fit is =
    let r : Located = record { before = c; statement = x } in
    both_slots found (slots_at b r) (slots_from b (after c x.body) xs) (one_slot globals b found r fit.0 is.0)
    (rows_slots globals b found (after c x.body) xs fit.1 is.1)

are_slots : (globals : List Symbol) (found : ℕ → Option ℕ) (bs : List (Placement Module)) → AllByRecursion ModuleFits bs
    → EachBased (λ b. AreFound globals b found at_begin b.part.statements) bs → AllByRecursion (IsSlot found) (slots_of bs)
are_slots globals found [] fit is = tt
are_slots globals found (b ∷ bs) fit is = both_slots found (slots_from b at_begin b.part.statements) (slots_of bs)
    (rows_slots globals b found at_begin b.part.statements fit.0 is.0) (are_slots globals found bs fit.1 is.1)

pub unit_slots : (u : Source) (image : ProgramImage) → IsLaid u image → AllByRecursion (IsSlot (byte_at image)) (slots_of (based u))
unit_slots u image laid =
    are_slots (unit_layout u).globals (byte_at image) (based u) (unit_fits u image laid) (all_found u (byte_at image) laid.disjoint laid.bytes)

-- the rows of a unit are what is kept, with the bytes that are found
found_same : (found : ℕ → Option ℕ) (at n : ℕ) (bytes : List ℕ) → ((k v : ℕ) → slice_get bytes k ≡ Some v → found (at + (n + k)) ≡ Some v)
    → map (λ k. unwrap_or (found (at + k)) 0) (range_with_len n (length bytes)) ≡ bytes
found_same found at n [] h = refl
found_same found at n (x ∷ bytes) h =
    let here : found (at + n) ≡ Some x = ap found (omega arith) ∙ h 0 x refl in
    ap (λ o. unwrap_or o 0 ∷ map (λ k. unwrap_or (found (at + k)) 0) (range_with_len (n + 1) (length bytes))) here
    ∙ ap (λ xs. x ∷ xs) (found_same found at (n + 1) bytes (λ k v e. ap found (omega arith) ∙ h (suc k) v e))

same_row : (globals : List Symbol) (b : Placement Module) (found : ℕ → Option ℕ) (r : Located) → IsFound globals b found r
    → found_bytes found (address_in b r) (length_of r) ≡ bytes_of globals b r
same_row globals b found r h =
    let bytes = bytes_of globals b r in
    let long : length bytes ≡ length_of r = length-filled_bytes (value_in_module globals b) (address_in b r) (place_of r) r.statement.body in
    ap (λ n. found_bytes found (address_in b r) n) (sym long)
    ∙ found_same found (address_in b r) 0 bytes (λ k v e. ap found (omega arith) ∙ h k v e)

one_row : (globals : List Symbol) (b : Placement Module) (found : ℕ → Option ℕ) (r : Located) → IsFound globals b found r
    → rows_of_statement globals b r ≡ map (kept_row found) (slots_at b r)
one_row globals b found r h = by (length_of r == 0)
  where
    slot : Slot
    slot = record { line = r.statement.line; at = address_in b r; len = length_of r; shown = shown_as r.statement.body }

    named : (o : Option Symbol) → option_map_or (λ s. symbol_row b s ∷ []) o [] ≡ map (kept_row found) (option_map_or (λ s. symbol_slot b s ∷ []) o [])
    named None = refl
    named (Some s) = refl

    by : (t : Bool) → (if t then option_map_or (λ s. symbol_row b s ∷ []) (named_by r) [] else row_of globals b r ∷ [])
        ≡ map (kept_row found) (if t then option_map_or (λ s. symbol_slot b s ∷ []) (named_by r) [] else slot ∷ [])
    by true = named (named_by r)
    by false =
        ap (λ bs. let run : Placed = record { at = address_in b r; bytes = bs } in
        let row : Row = record { line = r.statement.line; run = run; shown = shown_as r.statement.body } in row ∷ []) (sym (same_row globals b found r h))

rows_kept : (globals : List Symbol) (b : Placement Module) (found : ℕ → Option ℕ) (c : Counters) (xs : List Statement) → AreFound globals b found c xs
    → flat_map (rows_of_statement globals b) (located c xs) ≡ map (kept_row found) (slots_from b c xs)
unfolding located
rows_kept globals b found c [] h = refl
rows_kept globals b found c (x ∷ xs) h =
    let r : Located = record { before = c; statement = x } in
    let rest = flat_map (rows_of_statement globals b) (located (after c x.body) xs) in
    ap (λ rows. rows ++ rest) (one_row globals b found r h.0)
    ∙ ap (λ rows. map (kept_row found) (slots_at b r) ++ rows) (rows_kept globals b found (after c x.body) xs h.1)
    ∙ sym (map-append (kept_row found) (slots_at b r) (slots_from b (after c x.body) xs))

modules_kept : (globals : List Symbol) (found : ℕ → Option ℕ) (bs : List (Placement Module)) → EachBased (λ b. AreFound globals b found at_begin b.part.statements) bs
    → flat_map (rows_in globals) bs ≡ map (kept_row found) (slots_of bs)
modules_kept globals found [] h = refl
modules_kept globals found (b ∷ bs) h =
    ap (λ rows. rows ++ flat_map (rows_in globals) bs) (rows_kept globals b found at_begin b.part.statements h.0)
    ∙ ap (λ rows. map (kept_row found) (slots_from b at_begin b.part.statements) ++ rows) (modules_kept globals found bs h.1)
    ∙ sym (map-append (kept_row found) (slots_from b at_begin b.part.statements) (slots_of bs))

pub unit_kept : (u : Source) (found : ℕ → Option ℕ) → AreDisjoint (unit_layout u).extents → ((a : ℕ) → found a ≡ unit_byte u a)
    → rows_of_unit u ≡ map (kept_row found) (slots_of (based u))
unit_kept u found apart own = modules_kept (unit_layout u).globals found (based u) (all_found u found apart own)
