-- The lines of a listing that have a number are, without their columns, the lines of the source.
use Rattle.std.proofs.Common.{◌≡◌, ℕ, zero, suc, ◌+◌, ◌-◌, ◌*◌, ◌^◌, ◌<◌, ◌≤◌, Bool, true, false, inl, inr, List, [], ◌∷◌, ◌++◌, length, length-append, map, filter, take, drop, get_or, refl, sym, ap, ◌∙◌, subst, arith, Option, Some, None}
use Rattle.std.specs.Prelude.{◌==◌, codes, decimal, flat_map, if◌then◌else◌, not, slice_index_or}
use Rattle.std.specs.List.{AllByRecursion, enumerate_from}
use Rattle.std.specs.Option.{option_map, option_map_or}
use Rattle.std.specs.Int.Digits.{digits_of}
use Rattle.std.proofs.lemmas.Bool.{cases_Bool, cond-true, cond-false, ne_eqb}
use Rattle.std.proofs.lemmas.Fmt.{decimal-digits_of, decimal_digit, decimal_nonempty, length-decimal-le}
use Rattle.std.proofs.lemmas.Grind.{common_steps}
use Rattle.std.proofs.lemmas.List.{append-nil, drop_all, get_or-append-add, get_or-map, get_or_append_left, length-replicate, length-take}
use Rattle.m88_base.specs.Hex.{hex2, hex8}
use Rattle.m88_base.specs.Image.{most_bytes}
use Rattle.m88_base.specs.Lines.{lines_of}
use Rattle.m88_base.specs.Pieces.{pieces}
use Rattle.m88_parse.proofs.Laws.{lines_few}
use Rattle.m88_parse.specs.declared.unit.Statement.{Statement}
use Rattle.m88_link.specs.Symbols.{repeated_after}
use Rattle.m88_link.specs.declared.object.Symbol.{Symbol}
use Rattle.m88_asm.specs.Counters.{Counters, Located, after, at_begin, length_of, located, offset_of, place_of}
use Rattle.m88_asm.specs.Faults.{duplicate_at, misfit_at, module_fault, statements_fault}
use Rattle.m88_asm.specs.Objects.{symbols_of}
use Rattle.m88_link.specs.Bases.{Placement}
use Rattle.m88_parse.specs.declared.unit.Module.{Module}
use Rattle.m88_asm.specs.Units.{address_in, based, bytes_of, unit_layout, value_in_module}
use Rattle.m88_asm.proofs.Laws.{EachBased, first_parts, length-filled_bytes, none_of_both}
use Rattle.m88_listing.specs.Columns.{at_left, at_right, bare_line, space_byte, blanks, columns, further_columns, no_address}
use Rattle.m88_listing.specs.Laws.{EachLineStandsOnce, has_number}
use Rattle.m88_listing.proofs.Fitting.{each_clean, room_of}
use Rattle.m88_listing.specs.Rows.{Row, digits, first_bytes, first_of_run, further_line, further_lines, further_of_run, lines_with, named_by, row_on, row_lines, row_of, rows_in, rows_of_statement, rows_of_unit, symbol_row}
use Rattle.m88_listing.specs.declared.slots.Shown.{Shown}
use Rattle.m88_listing.specs.declared.slots.Shown.TheVariants.{Bytes, Value, Zeros}

-- the lines of which this law speaks
abbrev picked : List (List ℕ) → List (List ℕ)
picked lines = map (drop 40) (filter has_number lines)

pick-first : (x : List ℕ) (xs : List (List ℕ)) → has_number x ≡ true → picked (x ∷ xs) ≡ drop 40 x ∷ picked xs
pick-first x xs e = ap (map (drop 40)) (cond-true (has_number x) (x ∷ filter has_number xs) (filter has_number xs) e)

pick-none : (x : List ℕ) (xs : List (List ℕ)) → has_number x ≡ false → picked (x ∷ xs) ≡ picked xs
pick-none x xs e = ap (map (drop 40)) (cond-false (has_number x) (x ∷ filter has_number xs) (filter has_number xs) e)

picked-append : (xs ys : List (List ℕ)) → picked (xs ++ ys) ≡ picked xs ++ picked ys
picked-append [] ys = refl
picked-append (x ∷ xs) ys = elim (cases_Bool (has_number x)) [
  | inl t ↦ pick-first x (xs ++ ys) t ∙ ap (λ ls. drop 40 x ∷ ls) (picked-append xs ys) ∙ ap (λ ls. ls ++ picked ys) (sym (pick-first x xs t))
  | inr t ↦ pick-none x (xs ++ ys) t ∙ picked-append xs ys ∙ ap (λ ls. ls ++ picked ys) (sym (pick-none x xs t))
]

-- behind columns of a known width stands the line
behind : (xs ys : List ℕ) (n : ℕ) → length xs ≡ n → drop n (xs ++ ys) ≡ ys
behind xs ys n e = ap (λ k. drop k (xs ++ ys)) (sym e) ∙ all xs
  where
    all : (xs : List ℕ) → drop (length xs) (xs ++ ys) ≡ ys
    all [] = refl
    all (x ∷ xs) = all xs

-- a digit of a number isn't blank
digit_high : (n i d : ℕ) → n < 2 ^ 64 → i < length (decimal n) → 48 ≤ get_or (decimal n) i d
digit_high zero i d l k = subst (λ ds. i < length ds → 48 ≤ get_or ds i d) (sym (decimal_digit 0 (omega arith))) (one i) k
  where
    own : List ℕ
    own = 48 ∷ []

    one : (i : ℕ) → i < length own → 48 ≤ get_or own i d
    one zero k = omega arith
    one (suc i) k = absurd (omega (arith, k))
digit_high (suc m) i d l k =
    let ds = digits_of 10 (suc m) in
    let is : decimal (suc m) ≡ map (λ (x : ℕ). 48 + x) ds = decimal-digits_of (suc m) (omega arith) l in
    let low : i < length ds = omega (arith, k, ap length is, length_map ds) in
    let here : get_or (decimal (suc m)) i d ≡ 48 + get_or ds i 0 =
    ap (λ xs. get_or xs i d) is ∙ get_or-map (λ (x : ℕ). 48 + x) ds i 0 d low in
    omega (arith, here)
  where
    length_map : (xs : List ℕ) → length (map (λ (x : ℕ). 48 + x) xs) ≡ length xs
    length_map [] = refl
    length_map (x ∷ xs) = ap suc (length_map xs)

-- the first line for a line of the source
wide : (n : ℕ) (address bytes : List ℕ) → n < 10 ^ 7 → length address ≡ 8 → length bytes ≤ 16 → length (columns n address bytes) ≡ 40
wide n address bytes l a b =
    let d = length-decimal-le 7 n (omega arith) l (omega (arith, l)) in
    let r = at_right 7 (decimal n) in
    let e1 = length-append (blanks (7 - length (decimal n))) (decimal n) in
    let e2 = length-replicate (7 - length (decimal n)) space_byte in
    let e3 = length-append bytes (blanks (16 - length bytes)) in
    let e4 = length-replicate (16 - length bytes) space_byte in
    let two = blanks 2 in
    let five = blanks 5 in
    let left = at_left 16 bytes in
    omega (
      arith,
      a,
      b,
      d,
      e1,
      e2,
      e3,
      e4,
      length-append r two,
      length-append (r ++ two) address,
      length-append (r ++ two ++ address) two,
      length-append (r ++ two ++ address ++ two) left,
      length-append (r ++ two ++ address ++ two ++ left) five,
    )

numbered_front : (n : ℕ) (rest : List ℕ) → n < 10 ^ 7 → has_number (blanks (7 - length (decimal n)) ++ (decimal n ++ rest)) ≡ true
numbered_front n rest l =
    let ds = decimal n in
    let front = blanks (7 - length ds) in
    let some = decimal_nonempty n (omega (arith, l)) in
    let few = length-decimal-le 7 n (omega arith) l (omega (arith, l)) in
    let long : length front ≡ 7 - length ds = length-replicate (7 - length ds) space_byte in
    let last = length ds - 1 in
    let sum : length front + last ≡ 6 = omega (arith, long, some, few) in
    let here : slice_index_or (front ++ (ds ++ rest)) 6 space_byte ≡ get_or ds last space_byte =
    ap (λ k. get_or (front ++ (ds ++ rest)) k space_byte) (sym sum)
    ∙ get_or-append-add front (ds ++ rest) last space_byte
    ∙ get_or_append_left ds rest space_byte last (omega (arith, some)) in
    let high = digit_high n last space_byte (omega (arith, l)) (omega (arith, some)) in
    ap (λ v. not (v == space_byte)) here ∙ ap not (ne_eqb (get_or ds last space_byte) space_byte (λ e. absurd (omega (arith, high, e))))

numbered_line : (n : ℕ) (address bytes line : List ℕ) → n < 10 ^ 7 → has_number (columns n address bytes ++ line) ≡ true
numbered_line n address bytes line l =
    let ds = decimal n in
    let front = blanks (7 - length ds) in
    let rest = blanks 2 ++ address ++ blanks 2 ++ at_left 16 bytes ++ blanks 5 ++ line in
    let all : columns n address bytes ++ line ≡ front ++ (ds ++ rest) = regroup front ds (blanks 2) address (at_left 16 bytes) (blanks 5) line in
    ap has_number all ∙ numbered_front n rest l
  where
    regroup : (a b two c d five e : List ℕ) → ((a ++ b) ++ two ++ c ++ two ++ d ++ five) ++ e ≡ a ++ (b ++ (two ++ c ++ two ++ d ++ five ++ e))
    regroup a b two c d five e = grind (arith, common_steps)

-- of an empty line that puts nothing anywhere there is the number alone
alone_picked : (n : ℕ) → n < 10 ^ 7 → picked (at_right 7 (decimal n) ∷ []) ≡ [] ∷ []
alone_picked n l =
    let ds = decimal n in
    let front = blanks (7 - length ds) in
    let few = length-decimal-le 7 n (omega arith) l (omega (arith, l)) in
    let has : has_number (front ++ ds) ≡ true =
    ap (λ xs. has_number (front ++ xs)) (sym (append-nil ds)) ∙ numbered_front n [] l in
    let narrow : length (front ++ ds) ≤ 40 =
    omega (arith, few, length-append front ds, length-replicate (7 - length ds) space_byte) in
    pick-first (front ++ ds) [] has ∙ ap (λ x. x ∷ []) (drop_all 40 (front ++ ds) narrow)

first_picked : (n : ℕ) (address bytes line : List ℕ) (more : List (List ℕ)) → n < 10 ^ 7 → length address ≡ 8 → length bytes ≤ 16
    → picked ((columns n address bytes ++ line) ∷ more) ≡ line ∷ picked more
first_picked n address bytes line more l a b =
    pick-first (columns n address bytes ++ line) more (numbered_line n address bytes line l)
    ∙ ap (λ x. x ∷ picked more) (behind (columns n address bytes) line 40 (wide n address bytes l a b))

-- no further line has a number
further_none : (address bytes : List ℕ) → has_number (further_columns address bytes) ≡ false
further_none address bytes = refl

further_picked : (at : ℕ) (ps : List (ℕ × List ℕ)) → picked (map (further_line at) ps) ≡ []
further_picked at [] = refl
further_picked at (p ∷ ps) =
    pick-none (further_line at p) (map (further_line at) ps) (further_none (hex8 (at + p.0 * 8)) (digits p.1)) ∙ further_picked at ps

-- what is shown of a row isn't wide
length-digits : (bytes : List ℕ) → length (digits bytes) ≡ 2 * length bytes
length-digits [] = refl
length-digits (b ∷ bs) = omega (arith, length-append (hex2 b) (digits bs), length-digits bs)

narrow : (row : Row) → length row.run.bytes ≤ most_bytes → length (first_bytes row) ≤ 16
narrow row few = by row.shown
  where
    by : (shown : Shown) → length (first_of_run shown row.run.bytes) ≤ 16
    by Zeros =
        let d = length-decimal-le 7 (length row.run.bytes) (omega arith) (omega (arith, few)) (omega (arith, few)) in
        omega (arith, d, length-append (codes "00 x ") (decimal (length row.run.bytes)))
    by Bytes = omega (arith, length-digits (take 8 row.run.bytes), length-take 8 row.run.bytes)
    by Value = omega arith

AreFew : List Row → Type 0
AreFew rows = AllByRecursion (λ row. length row.run.bytes ≤ most_bytes) rows

-- each line of the source has one line with its number
further_all : (row : Row) → picked (further_lines row) ≡ []
further_all row = by row.shown
  where
    by : (shown : Shown) → picked (further_of_run shown row.run) ≡ []
    by Zeros = refl
    by Value = refl
    by Bytes = further_picked row.run.at (enumerate_from 1 (pieces 8 (drop 8 row.run.bytes)))

one_block : (rows : List Row) (n : ℕ) (line : List ℕ) → AreFew rows → n < 10 ^ 7 → picked (lines_with rows (n, line)) ≡ line ∷ []
unfolding AreFew
one_block [] n [] few l = alone_picked n l
one_block [] n (byte ∷ line) few l = first_picked n no_address [] (byte ∷ line) [] l refl (omega arith)
one_block (row ∷ rows) n line few l = elim (cases_Bool (row.line == n)) [
  | inl t ↦
      ap (λ (o : Option Row). picked (option_map_or (row_lines n line) o (bare_line n line ∷ []))) (cond-true (row.line == n) (Some row) (row_on rows n) t)
      ∙ first_picked n (hex8 row.run.at) (first_bytes row) line (further_lines row) l refl (narrow row few.0)
      ∙ ap (λ ls. line ∷ ls) (further_all row)
  | inr t ↦
      ap (λ (o : Option Row). picked (option_map_or (row_lines n line) o (bare_line n line ∷ []))) (cond-false (row.line == n) (Some row) (row_on rows n) t)
      ∙ one_block rows n line few.1 l
]

all_blocks : (rows : List Row) (n : ℕ) (lines : List (List ℕ)) → AreFew rows → n + length lines ≤ 10 ^ 7
    → picked (flat_map (lines_with rows) (enumerate_from n lines)) ≡ lines
all_blocks rows n [] few l = refl
all_blocks rows n (line ∷ lines) few l =
    picked-append (lines_with rows (n, line)) (flat_map (lines_with rows) (enumerate_from (n + 1) lines))
    ∙ ap (λ ls. ls ++ picked (flat_map (lines_with rows) (enumerate_from (n + 1) lines))) (one_block rows n line few (omega (arith, l)))
    ∙ ap (λ ls. line ∷ ls) (all_blocks rows (n + 1) lines few (omega (arith, l)))

-- no row of a unit that is accepted has more bytes than a section may have
both_few : (xs ys : List Row) → AreFew xs → AreFew ys → AreFew (xs ++ ys)
unfolding AreFew
both_few [] ys p q = q
both_few (x ∷ xs) ys p q = (p.0, both_few xs ys p.1 q)

one_few : (globals : List Symbol) (b : Placement Module) (r : Located) → length (bytes_of globals b r) ≤ most_bytes
    → AreFew (rows_of_statement globals b r)
unfolding AreFew
one_few globals b r few = by (length_of r == 0)
  where
    named : (o : Option Symbol) → AreFew (option_map_or (λ s. symbol_row b s ∷ []) o [])
    named None = tt
    named (Some s) = (omega arith, tt)

    by : (t : Bool) → AreFew (if t then option_map_or (λ s. symbol_row b s ∷ []) (named_by r) [] else row_of globals b r ∷ [])
    by true = named (named_by r)
    by false = (few, tt)

rows_few : (globals defined : List Symbol) (b : Placement Module) (c : Counters) (xs : List Statement) → statements_fault defined (located c xs) ≡ None
    → AreFew (flat_map (rows_of_statement globals b) (located c xs))
unfolding AreFew located
rows_few globals defined b c [] clean = tt
rows_few globals defined b c (x ∷ xs) clean =
    let r : Located = record { before = c; statement = x } in
    let parts = first_parts defined c x xs clean in
    let misfit = (none_of_both (option_map duplicate_at (repeated_after defined (symbols_of r))) (misfit_at (offset_of r) (place_of r) x) parts.0).1 in
    let long : length (bytes_of globals b r) ≡ length_of r = length-filled_bytes (value_in_module globals b) (address_in b r) (place_of r) x.body in
    both_few (rows_of_statement globals b r) (flat_map (rows_of_statement globals b) (located (after c x.body) xs))
    (one_few globals b r (omega (arith, long, room_of r misfit))) (rows_few globals (defined ++ symbols_of r) b (after c x.body) xs parts.1)

modules_few : (globals : List Symbol) (bs : List (Placement Module)) → EachBased (λ b. module_fault b.part ≡ None) bs → AreFew (flat_map (rows_in globals) bs)
unfolding AreFew
modules_few globals [] clean = tt
modules_few globals (b ∷ bs) clean =
    both_few (rows_in globals b) (flat_map (rows_in globals) bs)
    (rows_few globals [] b at_begin b.part.statements clean.0) (modules_few globals bs clean.1)

pub each_line_stands_once : EachLineStandsOnce
each_line_stands_once = λ source u short accepted.
    all_blocks (rows_of_unit u) 1 (lines_of source)
    (modules_few (unit_layout u).globals (based u) (each_clean _ _ u.modules accepted.assembled))
    (omega (arith, short, lines_few source))
