-- The text of a source that is refused, part by part.
use Rattle.std.proofs.Common.{◌≡◌, ℕ, zero, suc, ◌+◌, ◌-◌, ◌<◌, ◌≤◌, List, [], ◌∷◌, ◌++◌, length, length-drop, map, take, drop, drop-drop, take-add, refl, sym, ap, ◌∙◌, subst, append_assoc, arith, take_all, drop_of_length-le, Option}
use Rattle.std.specs.Prelude.{flat_map, slice_index_or}
use Rattle.std.specs.List.{enumerate_from}
use Rattle.std.proofs.lemmas.List.FromFn.{length-enumerate_from}
use Rattle.m88_base.specs.Lines.{line_end, lines_of, text_of_lines}
use Rattle.m88_base.specs.Refused.{refused_line}
use Rattle.m88_listing.specs.Inside.Pushed.{PushesRows}
use Rattle.m88_listing.specs.Inside.Slots.{Climb, kept_row, slots_behind, walked}
use Rattle.m88_listing.specs.Refused.{mark_line, refused_text, text_with}
use Rattle.m88_listing.specs.Rows.{Row, lines_with}
use Rattle.m88_listing.specs.declared.slots.Slot.{Slot}
use Rattle.m88_listing.proofs.BareLines.{drop_numbered}
use Rattle.m88_listing.proofs.Lines.{no_lines}
use Rattle.m88_listing.proofs.Texts.{text_append}
use Rattle.m88_listing.proofs.Walking.{all_behind, climb_behind, take_none, take_numbered, walked_rows}

-- the text of lines behind lines
with_append : (rows : List Row) (xs ys : List (ℕ × List ℕ)) → text_with rows (xs ++ ys) ≡ text_with rows xs ++ text_with rows ys
with_append rows [] ys = refl
with_append rows (x ∷ xs) ys =
    text_append (lines_with rows x) (flat_map (lines_with rows) (xs ++ ys))
    ∙ ap (λ t. text_of_lines (lines_with rows x) ++ t) (with_append rows xs ys)
    ∙ sym (append_assoc (text_of_lines (lines_with rows x)) (text_with rows xs) (text_with rows ys))
    ∙ ap (λ t. t ++ text_with rows ys) (sym (text_append (lines_with rows x) (flat_map (lines_with rows) xs)))

-- the lines from a number on, none where no byte is left
part_with : (found : ℕ → Option ℕ) (n j c k : ℕ) (slots : List Slot) (lines left : List (List ℕ)) (bytes : List ℕ) → lines_of bytes ≡ left
    → left ≡ drop (j - 1) lines → 1 ≤ j → n ≤ j → (0 < length bytes → c ≡ j) → Climb j (slots_behind n slots)
    → text_of_lines (walked found c (take (k - c) left) (slots_behind n slots))
    ≡ text_with (map (kept_row found) slots) (take (k - j) (drop (j - 1) (enumerate_from 1 lines)))
part_with found n j c k slots lines left [] is at some low stops climb =
    let none : left ≡ [] = sym is ∙ no_lines [] refl in
    let gone : drop (j - 1) (enumerate_from 1 lines) ≡ [] =
    drop_numbered (j - 1) 1 lines ∙ ap (enumerate_from (1 + (j - 1))) (sym at ∙ none) in
    ap (λ (ls : List (List ℕ)). text_of_lines (walked found c ls (slots_behind n slots))) (ap (take (k - c)) none ∙ take_none (k - c))
    ∙ sym (ap (text_with (map (kept_row found) slots)) (ap (take (k - j)) gone ∙ take_none (k - j)))
part_with found n j c k slots lines left (b ∷ bytes) is at some low stops climb =
    let here : c ≡ j = stops (omega arith) in
    let rows = map (kept_row found) slots in
    ap (λ (m : ℕ). text_of_lines (walked found m (take (k - m) left) (slots_behind n slots))) here
    ∙ ap text_of_lines (walked_rows found n j slots (take (k - j) left) low climb)
    ∙ ap (text_with rows) (sym (take_numbered (k - j) j left))
    ∙ ap (λ (ls : List (List ℕ)). text_with rows (take (k - j) (enumerate_from j ls))) at
    ∙ ap (λ (m : ℕ). text_with rows (take (k - j) (enumerate_from m (drop (j - 1) lines)))) (omega (arith, some))
    ∙ ap (λ ls. text_with rows (take (k - j) ls)) (sym (drop_numbered (j - 1) 1 lines))

first_at : {A : Type 0} (k : ℕ) (xs : List A) (d : A) → slice_index_or (drop k xs) 0 d ≡ slice_index_or xs k d
first_at zero xs d = refl
first_at (suc k) [] d = refl
first_at (suc k) (x ∷ xs) d = first_at k xs d

no_byte : (n m : ℕ) → (0 < n → m ≡ 0) → 0 < m → n ≡ 0
no_byte zero m h l = refl
no_byte (suc n) m h l = absurd (omega (arith, h (omega arith), l))

-- all lines are added up to a number that no line has
pub all_taken_up : (found : ℕ → Option ℕ) (slots : List Slot) (source old new left : List ℕ) (first until next : ℕ) → first + length source < until
    → PushesRows found slots source first until next old new left → length (lines_of source) ≤ until - first
all_taken_up found slots source old new left first until next far p =
    let few : length left ≡ 0 = no_byte (length left) (until - next) (λ l. omega (arith, p.stops l)) (omega (arith, p.shorter, far)) in
    let none : [] ≡ drop (until - first) (lines_of source) = sym (no_lines left few) ∙ p.rest in
    let short : 0 ≡ length (drop (until - first) (lines_of source)) = ap length none in
    omega (arith, short, length-drop (until - first) (lines_of source))

-- all lines of a source
pub source_walked : (found : ℕ → Option ℕ) (slots : List Slot) (source old new left : List ℕ) (first until next : ℕ) → first ≡ 1 → 1 + length source < until
    → PushesRows found slots source first until next old new left → new ≡ old ++ text_of_lines (walked found 1 (lines_of source) slots)
source_walked found slots source old new left first until next one far p =
    let few = all_taken_up found slots source old new left first until next (omega (arith, one, far)) p in
    p.text ∙ ap (λ ls. old ++ text_of_lines (walked found first ls slots)) (take_all (until - first) (lines_of source) few)
    ∙ ap (λ (n : ℕ). old ++ text_of_lines (walked found n (lines_of source) slots)) one

-- the parts of the text of a source that is refused
pub refused_whole : (found : ℕ → Option ℕ) (old source here rest left t1 t2 t3 t4 new marked reason : List ℕ) (slots own behind : List Slot)
    (line until column c0 c1 c2 c3 far : ℕ) → Climb 1 slots → 1 + length source < far → c0 ≡ 1 → 1 ≤ until → line ≤ until → until ≤ line + 1
    → until - 1 ≡ line - 1 → own ≡ slots_behind line slots → behind ≡ slots_behind (line + 1) slots → Climb until own
    → PushesRows found slots source c0 until c1 old t1 here → PushesRows found own here c1 (line + 1) c2 t1 t2 rest
    → marked ≡ slice_index_or (lines_of here) 0 []
    → t3 ≡ t2 ++ (mark_line column marked ++ line_end)
    → t4 ≡ t3 ++ refused_line line column reason
    → PushesRows found behind rest c2 far c3 t4 new left
    → new ≡ old ++ refused_text (map (kept_row found) slots) source (record { line = line; column = column; reason = reason })
refused_whole found old source here rest left t1 t2 t3 t4 new marked reason slots own behind line until column c0 c1 c2 c3 far climbs short one some low high top mine after own_climbs p q at e3 e4 r =
    let lines = lines_of source in
    let numbered = enumerate_from 1 lines in
    let rows = map (kept_row found) slots in
    let m = line + 1 - until in
    let first : lines_of here ≡ drop (until - 1) lines = p.rest ∙ ap (λ (k : ℕ). drop (until - k) lines) one in
    let a = take (until - 1) numbered in
    let b = take m (drop (until - 1) numbered) in
    let f1 : t1 ≡ old ++ text_with rows a =
    p.text ∙ ap (λ (k : ℕ). old ++ text_of_lines (walked found k (take (until - k) lines) slots)) one
    ∙ ap (λ (ss : List Slot). old ++ text_of_lines (walked found 1 (take (until - 1) lines) ss)) (sym (all_behind slots))
    ∙ ap (λ ls. old ++ text_of_lines ls)
    (walked_rows found 0 1 slots (take (until - 1) lines) (omega arith) (subst (λ (ss : List Slot). Climb 1 ss) (sym (all_behind slots)) climbs))
    ∙ ap (λ ls. old ++ text_with rows ls) (sym (take_numbered (until - 1) 1 lines)) in
    let second : t2 ≡ t1 ++ text_with rows b =
    q.text ∙ ap (λ (ss : List Slot). t1 ++ text_of_lines (walked found c1 (take (line + 1 - c1) (lines_of here)) ss)) mine
    ∙ ap (λ t. t1 ++ t)
    (part_with found line until c1 (line + 1) slots lines (lines_of here) here refl first some low p.stops (subst (λ (ss : List Slot). Climb until ss) mine own_climbs)) in
    let sum : until - 1 + m ≡ line = omega (arith, some, high) in
    let f2 : t2 ≡ old ++ text_with rows (take line numbered) =
    second ∙ ap (λ t. t ++ text_with rows b) f1 ∙ append_assoc old (text_with rows a) (text_with rows b)
    ∙ ap (λ t. old ++ t) (sym (with_append rows a b))
    ∙ ap (λ ls. old ++ text_with rows ls) (sym (take-add (until - 1) m numbered))
    ∙ ap (λ (k : ℕ). old ++ text_with rows (take k numbered)) sum in
    let later : lines_of rest ≡ drop line lines = rest_lines (length here) refl first in
    let fewer : c2 + length rest < far = omega (arith, p.shorter, q.shorter, one, short) in
    let whole : length (lines_of rest) ≤ far - c2 = all_taken_up found behind rest t4 new left c2 far c3 fewer r in
    let own_mark : marked ≡ slice_index_or lines (line - 1) [] =
    at ∙ ap (λ ls. slice_index_or ls 0 []) first ∙ first_at (until - 1) lines [] ∙ ap (λ (k : ℕ). slice_index_or lines k []) top in
    let x = text_with rows (take line numbered) in
    let z = text_with rows (drop line numbered) in
    let mark = mark_line column (slice_index_or lines (line - 1) []) ++ line_end in
    let told = refused_line line column reason in
    let f3 : t3 ≡ old ++ (x ++ mark) =
    e3 ∙ ap (λ k. t2 ++ (mark_line column k ++ line_end)) own_mark ∙ ap (λ t. t ++ mark) f2 ∙ append_assoc old x mark in
    let f4 : t4 ≡ old ++ ((x ++ mark) ++ told) = e4 ∙ ap (λ t. t ++ told) f3 ∙ append_assoc old (x ++ mark) told in
    r.text
    ∙ ap (λ (ss : List Slot). t4 ++ text_of_lines (walked found c2 (take (far - c2) (lines_of rest)) ss)) after
    ∙ ap (λ t. t4 ++ t) (part_with found (line + 1) (line + 1) c2 far slots lines (lines_of rest) rest refl (later ∙ ap (λ (k : ℕ). drop k lines) (omega arith)) (omega arith) (omega arith) q.stops
    (climb_behind (line + 1) 1 slots climbs).1)
    ∙ ap (λ t. t4 ++ t) (all_left later whole)
    ∙ ap (λ t. t ++ z) f4
    ∙ append_assoc old ((x ++ mark) ++ told) z
  where
    all : List (List ℕ)
    all = lines_of source

    -- what is left behind the line at fault
    rest_lines : (n : ℕ) → n ≡ length here → lines_of here ≡ drop (until - 1) all → lines_of rest ≡ drop line all
    rest_lines zero none first =
        let gone : lines_of here ≡ [] = no_lines here (sym none) in
        let empty : 0 ≡ length (drop (until - 1) all) = ap length (sym gone ∙ first) in
        let few : length all ≤ until - 1 = omega (arith, empty, length-drop (until - 1) all) in
        q.rest ∙ ap (drop (line + 1 - c1)) gone ∙ drop_of_length-le {A = List ℕ} [] (omega arith)
        ∙ sym (drop_of_length-le all (omega (arith, few, high)))
    rest_lines (suc n) left_over first =
        let here_at : c1 ≡ until = p.stops (omega (arith, left_over)) in
        q.rest ∙ ap (drop (line + 1 - c1)) first ∙ drop-drop (line + 1 - c1) (until - 1) all
        ∙ ap (λ (k : ℕ). drop k all) (omega (arith, here_at, some, high))

    bound : (n : ℕ) → n ≡ length rest → lines_of rest ≡ drop line all → length (lines_of rest) ≤ far - c2 → length (drop line all) ≤ far - (line + 1)
    bound zero none later whole =
        let empty : length (drop line all) ≡ 0 = ap length (sym later ∙ no_lines rest (sym none)) in
        omega (arith, empty)
    bound (suc n) left_over later whole =
        let there : c2 ≡ line + 1 = q.stops (omega (arith, left_over)) in
        let long : length (lines_of rest) ≡ length (drop line all) = ap length later in
        omega (arith, there, long, whole)

    all_left : lines_of rest ≡ drop line all → length (lines_of rest) ≤ far - c2
        → text_with (map (kept_row found) slots) (take (far - (line + 1)) (drop (line + 1 - 1) (enumerate_from 1 all)))
        ≡ text_with (map (kept_row found) slots) (drop line (enumerate_from 1 all))
    all_left later whole =
        let same : line + 1 - 1 ≡ line = omega arith in
        let few = bound (length rest) refl later whole in
        let one : length (drop line (enumerate_from 1 all)) ≡ length (drop line all) =
        length-drop line (enumerate_from 1 all) ∙ ap (λ (n : ℕ). n - line) (length-enumerate_from 1 all) ∙ sym (length-drop line all) in
        ap (λ (k : ℕ). text_with (map (kept_row found) slots) (take (far - (line + 1)) (drop k (enumerate_from 1 all)))) same
        ∙ ap (text_with (map (kept_row found) slots)) (take_all (far - (line + 1)) (drop line (enumerate_from 1 all)) (omega (arith, one, few)))
