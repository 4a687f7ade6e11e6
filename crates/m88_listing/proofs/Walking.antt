-- The lines of a source with what is kept of their rows, up to a number.
use Rattle.std.proofs.Common.{◌≡◌, ℕ, zero, suc, ◌+◌, ◌-◌, ◌<◌, ◌≤◌, Bool, true, false, inl, inr, List, [], ◌∷◌, ◌++◌, length, length-drop, map, take, drop, drop-drop, refl, sym, ap, ◌∙◌, subst, append_assoc, arith, get_or, min, take_all, drop_of_length-le, Option}
use Rattle.std.specs.Prelude.{◌==◌, ◌⊎◌, flat_map, nat_lt, slice_index_or, if◌then◌else◌}
use Rattle.std.specs.List.{AllByRecursion, enumerate_from}
use Rattle.std.specs.List.Sorted.{IsNonDecreasingBy, IsPartitionPoint}
use Rattle.std.proofs.lemmas.Bool.{cases_lt, ltb-false, ltb-true, ne_eqb}
use Rattle.std.proofs.lemmas.List.{drop_more}
use Rattle.m88_base.specs.Lines.{line_end, lines_of, text_of_lines}
use Rattle.m88_listing.specs.Columns.{bare_line}
use Rattle.m88_listing.specs.Inside.Pushed.{PushesLines, PushesRows, bare_text}
use Rattle.m88_listing.specs.Inside.Slots.{Climb, kept_row, slots_behind, walked}
use Rattle.m88_listing.specs.Rows.{lines_with, row_lines, row_on}
use Rattle.m88_listing.specs.declared.slots.Slot.{Slot}
use Rattle.m88_listing.proofs.BareLines.{all_walked, pushed_until, some_walked}
use Rattle.m88_listing.proofs.Climbing.{lined, not_here, walked_from}
use Rattle.m88_listing.proofs.Lines.{no_lines}
use Rattle.m88_listing.proofs.Texts.{row_next}

-- numbered lines of which some are taken
pub take_numbered : {A : Type 0} (k n : ℕ) (xs : List A) → take k (enumerate_from n xs) ≡ enumerate_from n (take k xs)
take_numbered zero n xs = refl
take_numbered (suc k) n [] = refl
take_numbered (suc k) n (x ∷ xs) = ap (λ ys. (n, x) ∷ ys) (take_numbered k (n + 1) xs)

pub take_none : {A : Type 0} (k : ℕ) → ◌≡◌ {A = List A} (take k []) []
take_none zero = refl
take_none (suc k) = refl

next_sum : (n m : ℕ) → suc n + m ≡ suc (n + m)
next_sum n m = omega arith

no_sum : (m : ℕ) → 0 + m ≡ m
no_sum m = omega arith

take_fewer : {A : Type 0} (n m : ℕ) (xs : List A) → take n (take (n + m) xs) ≡ take n xs
take_fewer zero m xs = refl
take_fewer (suc n) m [] = ap (take (suc n)) (take_none (suc n + m))
take_fewer (suc n) m (x ∷ xs) = ap (λ (k : ℕ). take (suc n) (take k (x ∷ xs))) (next_sum n m) ∙ ap (λ ys. x ∷ ys) (take_fewer n m xs)

drop_taken : {A : Type 0} (n m : ℕ) (xs : List A) → drop n (take (n + m) xs) ≡ take m (drop n xs)
drop_taken zero m xs = ap (λ (k : ℕ). take k xs) (no_sum m)
drop_taken (suc n) m [] = ap (drop (suc n)) (take_none (suc n + m)) ∙ sym (take_none m)
drop_taken (suc n) m (x ∷ xs) = ap (λ (k : ℕ). drop (suc n) (take k (x ∷ xs))) (next_sum n m) ∙ drop_taken n m xs

-- slots of a list that climbs
pub lower_climb : (low from : ℕ) (ss : List Slot) → low ≤ from → Climb from ss → Climb low ss
lower_climb low from [] l h = tt
lower_climb low from (s ∷ ss) l h = (omega (arith, l, h.0), h.1)

short_take : {A : Type 0} (n : ℕ) (xs : List A) → length (take n xs) ≤ n
short_take zero xs = omega arith
short_take (suc n) [] = omega arith
short_take (suc n) (x ∷ xs) = omega (arith, short_take n xs)

-- lines before that of the next slot
bare_before : (found : ℕ → Option ℕ) (first : ℕ) (xs : List (List ℕ)) (s : Slot) (ss : List Slot) → first + length xs ≤ s.line
    → bare_text (enumerate_from first xs) ≡ text_of_lines (walked found first xs (s ∷ ss))
bare_before found first [] s ss l = refl
bare_before found first (x ∷ xs) s ss l =
    ap (λ t. (bare_line first x ++ line_end) ++ t) (bare_before found (first + 1) xs s ss (omega (arith, l)))
    ∙ by (s.line == first) (ne_eqb s.line first (λ e. absurd (omega (arith, e, l))))
  where
    by : (t : Bool) → t ≡ false
        → (bare_line first x ++ line_end) ++ text_of_lines (walked found (first + 1) xs (s ∷ ss))
        ≡ text_of_lines (if t then row_lines first x (kept_row found s) ++ walked found (first + 1) xs ss
        else bare_line first x ∷ walked found (first + 1) xs (s ∷ ss))
    by true e = absurd (cc)
    by false e = refl

-- the lines that were added up to the next slot's, or up to where the lines or the numbers end
pub walked_stop : (found : ℕ → Option ℕ) (source old new left end : List ℕ) (first stop until next : ℕ) (s : Slot) (ss : List Slot)
    → first ≤ stop → stop ≤ s.line → stop ≤ until → (length left ≡ 0) ⊎ (stop ≡ until) → PushesLines source first stop next old new left
    → old ++ text_of_lines (walked found first (take (until - first) (lines_of source)) (s ∷ ss)) ≡ end
    → (new ≡ end) × (lines_of left ≡ drop (until - first) (lines_of source))
walked_stop found source old new left end first stop until next s ss low before upto either p so_far =
    let lines = lines_of source in
    let n = stop - first in
    let m = until - first in
    let q = pushed_until source old new left first stop next low p in
    let same : (take m lines ≡ take n lines) × (drop m lines ≡ drop n lines) = elim either [
      | inr e ↦ (ap (λ k. take k lines) (omega (arith, e)), ap (λ k. drop k lines) (omega (arith, e)))
      | inl none ↦
          let no : [] ≡ drop n lines = sym (no_lines left none) ∙ q.1 in
          let short : 0 ≡ length (drop n lines) = ap length no in
          let all : length lines ≤ n = omega (arith, short, length-drop n lines) in
          (take_all m lines (omega (arith, all, upto)) ∙ sym (take_all n lines all), drop_of_length-le lines (omega (arith, all, upto)) ∙ sym (drop_of_length-le lines all))
    ] in
    let bare : bare_text (take n (enumerate_from first lines)) ≡ text_of_lines (walked found first (take n lines) (s ∷ ss)) =
    ap bare_text (take_numbered n first lines)
    ∙ bare_before found first (take n lines) s ss (omega (arith, low, before, short_take n lines)) in (
      q.0 ∙ ap (λ t. old ++ t) (bare ∙ ap (λ ls. text_of_lines (walked found first ls (s ∷ ss))) (sym same.0)) ∙ so_far,
      q.1 ∙ sym same.1,
    )

-- and the lines of the next slot behind them
pub walked_row : (found : ℕ → Option ℕ) (source here behind line old mid new end : List ℕ) (first stop until next : ℕ) (s : Slot) (ss : List Slot)
    → first ≤ stop → stop ≡ s.line → stop < until → next ≡ stop → PushesLines source first stop next old mid here → lines_of here ≡ line ∷ lines_of behind
    → new ≡ mid ++ text_of_lines (row_lines next line (kept_row found s))
    → old ++ text_of_lines (walked found first (take (until - first) (lines_of source)) (s ∷ ss)) ≡ end
    → (new ++ text_of_lines (walked found (next + 1) (take (until - (next + 1)) (lines_of behind)) ss) ≡ end)
    × (drop (until - (next + 1)) (lines_of behind) ≡ drop (until - first) (lines_of source))
walked_row found source here behind line old mid new end first stop until next s ss low is short same p at one so_far =
    let lines = lines_of source in
    let n = stop - first in
    let k = until - (next + 1) in
    let q = pushed_until source old mid here first stop next low p in
    let all : n + (k + 1) ≡ until - first = omega (arith, low, short, same) in
    let rest : drop n lines ≡ line ∷ lines_of behind = sym q.1 ∙ at in
    let fewer = take (n + (k + 1)) lines in
    let front : bare_text (take n (enumerate_from first lines)) ≡ bare_text (take n (enumerate_from first fewer)) =
    ap bare_text (take_numbered n first lines ∙ ap (enumerate_from first) (sym (take_fewer n (k + 1) lines)) ∙ sym (take_numbered n first fewer)) in
    let back : drop n fewer ≡ line ∷ take k (lines_of behind) =
    drop_taken n (k + 1) lines ∙ ap (take (k + 1)) rest ∙ one_more k line (lines_of behind) in
    let at_row : first + n ≡ next = omega (arith, low, same) in
    let ss_all = s ∷ ss in (
      row_next found next line mid new s ss (take k (lines_of behind)) (sym is ∙ sym same) one
          ∙ ap (λ t. t ++ text_of_lines (walked found next (line ∷ take k (lines_of behind)) ss_all)) (q.0 ∙ ap (λ t. old ++ t) front)
          ∙ append_assoc old (bare_text (take n (enumerate_from first fewer))) (text_of_lines (walked found next (line ∷ take k (lines_of behind)) ss_all))
          ∙ ap (λ ls. old ++ (bare_text (take n (enumerate_from first fewer)) ++ text_of_lines (walked found next ls ss_all))) (sym back)
          ∙ ap (λ (m : ℕ). old ++ (bare_text (take n (enumerate_from first fewer)) ++ text_of_lines (walked found m (drop n fewer) ss_all))) (sym at_row)
          ∙ ap (λ t. old ++ t) (some_walked found n first fewer s ss (λ l. omega (arith, is, same, at_row)))
          ∙ ap (λ (m : ℕ). old ++ text_of_lines (walked found first (take m lines) ss_all)) all
          ∙ so_far,
      ap (λ (m : ℕ). drop m (line ∷ lines_of behind)) (sym (plus_one k)) ∙ ap (drop (k + 1)) (sym rest) ∙ drop-drop (k + 1) n lines
          ∙ ap (λ (m : ℕ). drop m lines) all,
    )
  where
    plus_one : (k : ℕ) → k + 1 ≡ suc k
    plus_one k = omega arith

    one_more : (k : ℕ) (x : List ℕ) (xs : List (List ℕ)) → take (k + 1) (x ∷ xs) ≡ x ∷ take k xs
    one_more k x xs = ap (λ (n : ℕ). take n (x ∷ xs)) (plus_one k)

-- where no slot is left
pub walked_end : (found : ℕ → Option ℕ) (source old new left end : List ℕ) (first until next : ℕ) (slots : List Slot) (i : ℕ) → length slots ≤ i
    → first ≤ until → PushesLines source first until next old new left
    → old ++ text_of_lines (walked found first (take (until - first) (lines_of source)) (drop i slots)) ≡ end
    → (new ≡ end) × (lines_of left ≡ drop (until - first) (lines_of source))
walked_end found source old new left end first until next slots i out low p so_far =
    let lines = lines_of source in
    let n = until - first in
    let q = pushed_until source old new left first until next low p in (
      q.0 ∙ ap (λ ls. old ++ bare_text ls) (take_numbered n first lines) ∙ ap (λ t. old ++ t) (all_walked found first (take n lines))
          ∙ ap (λ (xs : List Slot). old ++ text_of_lines (walked found first (take n lines) xs)) (sym (drop_of_length-le slots out))
          ∙ so_far,
      q.1,
    )

-- the text so far, with the lines that are left up to a number, is that of all lines up to there
pub record IsPart (found : ℕ → Option ℕ) (slots : List Slot) (i : ℕ) (source rest before now : List ℕ) (first column until : ℕ) : Type 0 where
  pub left : now ++ text_of_lines (walked found column (take (until - column) (lines_of rest)) (drop i slots))
      ≡ before ++ text_of_lines (walked found first (take (until - first) (lines_of source)) slots)
  pub rest_is : drop (until - column) (lines_of rest) ≡ drop (until - first) (lines_of source)
  pub forward : first ≤ column
  pub within : column ≤ until
  pub shorter : column + length rest ≤ first + length source
  pub climb : Climb column (drop i slots)

-- the next slot, and those behind it
next_slots : (slots : List Slot) (i : ℕ) (d : Slot) → i < length slots → drop i slots ≡ get_or slots i d ∷ drop (i + 1) slots
next_slots slots i d l = drop_more slots i d l

pub part_stopped : (found : ℕ → Option ℕ) (slots : List Slot) (i : ℕ) (d : Slot) (source rest left before now new : List ℕ) (first column stop until next here : ℕ)
    → i < length slots → here ≡ (get_or slots i d).line → stop ≡ min here until → (length left ≡ 0) ⊎ (stop ≡ until)
    → IsPart found slots i source rest before now first column until → PushesLines rest column stop next now new left
    → PushesRows found slots source first until next before new left
part_stopped found slots i d source rest left before now new first column stop until next here l is stops either part p =
    let s = get_or slots i d in
    let ss = drop (i + 1) slots in
    let all = next_slots slots i d l in
    let climb : Climb column (s ∷ ss) = subst (Climb column) all part.climb in
    let low : column ≤ stop = omega (arith, climb.0, is, stops, part.within) in
    let w = walked_stop found rest now new left left_text column stop until next s ss low (omega (arith, is, stops)) (omega (arith, stops)) either p
    (ap (λ (xs : List Slot). now ++ text_of_lines (walked found column (take (until - column) (lines_of rest)) xs)) (sym all) ∙ part.left) in
    record {
      text = w.0;
      rest = w.1 ∙ part.rest_is;
      forward = omega (arith, part.forward, p.forward);
      within = omega (arith, p.within low, stops);
      shorter = omega (arith, p.shorter, part.shorter);
      stops = λ some. by_either either (p.stops some) some;
    }
  where
    left_text : List ℕ
    left_text = before ++ text_of_lines (walked found first (take (until - first) (lines_of source)) slots)

    by_either : (length left ≡ 0) ⊎ (stop ≡ until) → next ≡ stop → 0 < length left → next ≡ until
    by_either (inl none) e some = absurd (omega (arith, none, some))
    by_either (inr same) e some = e ∙ same

pub part_row : (found : ℕ → Option ℕ) (slots : List Slot) (i : ℕ) (d : Slot) (source rest left behind line before now mid new : List ℕ)
    (first column stop until next here number later : ℕ) → i < length slots → here ≡ (get_or slots i d).line → stop ≡ min here until → (stop ≡ until → ⊥)
    → IsPart found slots i source rest before now first column until → PushesLines rest column stop next now mid left → 0 < length left
    → lines_of left ≡ line ∷ lines_of behind → length behind < length left → number ≡ next
    → new ≡ mid ++ text_of_lines (row_lines number line (kept_row found (get_or slots i d))) → later ≡ next + 1
    → IsPart found slots (i + 1) source behind before new first later until
part_row found slots i d source rest left behind line before now mid new first column stop until next here number later l is stops other part p some lines short same one up =
    let s = get_or slots i d in
    let ss = drop (i + 1) slots in
    let all = next_slots slots i d l in
    let climb : Climb column (s ∷ ss) = subst (Climb column) all part.climb in
    let low : column ≤ stop = omega (arith, climb.0, is, stops, part.within) in
    let below : stop < until = strict stop until (omega (arith, stops)) other in
    let own : stop ≡ s.line = omega (arith, is, stops, below) in
    let at : next ≡ stop = p.stops some in
    let w = walked_row found rest left behind line now mid new (before ++ text_of_lines (walked found first (take (until - first) (lines_of source)) slots))
    column stop until next s ss low own below at p lines (one ∙ ap (λ (n : ℕ). mid ++ text_of_lines (row_lines n line (kept_row found s))) same)
    (ap (λ (xs : List Slot). now ++ text_of_lines (walked found column (take (until - column) (lines_of rest)) xs)) (sym all) ∙ part.left) in
    record {
      left = ap (λ (n : ℕ). new ++ text_of_lines (walked found n (take (until - n) (lines_of behind)) ss)) up ∙ w.0;
      rest_is = ap (λ (n : ℕ). drop (until - n) (lines_of behind)) up ∙ w.1 ∙ part.rest_is;
      forward = omega (arith, part.forward, p.forward, up);
      within = omega (arith, up, at, below);
      shorter = omega (arith, up, p.shorter, short, part.shorter);
      climb = subst (λ (n : ℕ). Climb n ss) (omega (arith, up, at, own)) climb.1;
    }
  where
    strict : (m n : ℕ) → m ≤ n → (m ≡ n → ⊥) → m < n
    strict m n le ne = elim (cases_lt m n) [
      | inl less ↦ less
      | inr from ↦ absurd (ne (omega (arith, le, from)))
    ]

pub part_ended : (found : ℕ → Option ℕ) (slots : List Slot) (i : ℕ) (source rest left before now new : List ℕ) (first column until next : ℕ)
    → length slots ≤ i → IsPart found slots i source rest before now first column until → PushesLines rest column until next now new left
    → PushesRows found slots source first until next before new left
part_ended found slots i source rest left before now new first column until next out part p =
    let w = walked_end found rest now new left (before ++ text_of_lines (walked found first (take (until - first) (lines_of source)) slots))
    column until next slots i out part.within p part.left in
    record {
      text = w.0;
      rest = w.1 ∙ part.rest_is;
      forward = omega (arith, part.forward, p.forward);
      within = p.within part.within;
      shorter = omega (arith, p.shorter, part.shorter);
      stops = p.stops;
    }

-- rows of the lines from a number on
find_behind : (found : ℕ → Option ℕ) (n j : ℕ) (all : List Slot) → n ≤ j
    → row_on (map (kept_row found) all) j ≡ row_on (map (kept_row found) (slots_behind n all)) j
find_behind found n j [] l = refl
find_behind found n j (s ∷ ss) l = by (nat_lt s.line n) refl (find_behind found n j ss l)
  where
    by : (t : Bool) → nat_lt s.line n ≡ t → row_on (map (kept_row found) ss) j ≡ row_on (map (kept_row found) (slots_behind n ss)) j
        → row_on (map (kept_row found) (s ∷ ss)) j ≡ row_on (map (kept_row found) (if t then slots_behind n ss else s ∷ ss)) j
    by true e more =
        not_here (kept_row found s) (map (kept_row found) ss) j (λ same. absurd (omega (arith, same, ltb-true s.line n e, l))) ∙ more
    by false e more = refl

pub climb_behind : (n m : ℕ) (all : List Slot) → Climb m all → Climb m (slots_behind n all) × Climb n (slots_behind n all)
climb_behind n m [] h = (tt, tt)
climb_behind n m (s ∷ ss) h = by (nat_lt s.line n) refl (climb_behind n (s.line + 1) ss h.1)
  where
    rest : List Slot
    rest = slots_behind n ss

    by : (t : Bool) → nat_lt s.line n ≡ t → Climb (s.line + 1) rest × Climb n rest
        → Climb m (if t then rest else s ∷ ss) × Climb n (if t then rest else s ∷ ss)
    by true e more = (lower_climb m (s.line + 1) rest (omega (arith, h.0)) more.0, more.1)
    by false e more = ((h.0, h.1), (ltb-false s.line n e, h.1))

-- slots that climb rise
climb_low : (from : ℕ) (ss : List Slot) (k : ℕ) (d : Slot) → Climb from ss → k < length ss → from ≤ (slice_index_or ss k d).line
climb_low from [] k d h l = absurd (omega (arith, l))
climb_low from (s ∷ ss) zero d h l = h.0
climb_low from (s ∷ ss) (suc k) d h l = omega (arith, h.0, climb_low (s.line + 1) ss k d h.1 (omega (arith, l)))

pub climb_rises : (from : ℕ) (ss : List Slot) → Climb from ss → IsNonDecreasingBy (λ s. s.line) ss
climb_rises from [] h i j d le l = absurd (omega (arith, l))
climb_rises from (s ∷ ss) h zero zero d le l = omega arith
climb_rises from (s ∷ ss) h zero (suc j) d le l = omega (arith, climb_low (s.line + 1) ss j d h.1 (omega (arith, l)))
climb_rises from (s ∷ ss) h (suc i) zero d le l = absurd (omega (arith, le))
climb_rises from (s ∷ ss) h (suc i) (suc j) d le l = climb_rises (s.line + 1) ss h.1 i j d (omega (arith, le)) (omega (arith, l))

-- those behind the last that is before a number
point_behind : (n : ℕ) (ss : List Slot) (i : ℕ) → i ≤ length ss → ((k : ℕ) (d : Slot) → 0 ≤ k → k < i → nat_lt (slice_index_or ss k d).line n ≡ true)
    → ((k : ℕ) (d : Slot) → i ≤ k → k < length ss → nat_lt (slice_index_or ss k d).line n ≡ false) → drop i ss ≡ slots_behind n ss
point_behind n [] zero l before behind = refl
point_behind n [] (suc i) l before behind = refl
point_behind n (s ∷ ss) zero l before behind =
    ap (λ (t : Bool). if t then slots_behind n ss else s ∷ ss) (sym (behind 0 s (omega arith) (omega arith)))
point_behind n (s ∷ ss) (suc i) l before behind =
    point_behind n ss i (omega (arith, l)) (λ k d low high. before (suc k) d (omega arith) (omega (arith, high)))
    (λ k d low high. behind (suc k) d (omega (arith, low)) (omega (arith, high)))
    ∙ ap (λ (t : Bool). if t then slots_behind n ss else s ∷ ss) (sym (before 0 s (omega arith) (omega arith)))

pub cut_behind : (n : ℕ) (ss : List Slot) (i : ℕ) → i ≤ length ss
    → IsPartitionPoint (λ (s : Slot). nat_lt s.line n ≡ true) (λ (s : Slot). nat_lt s.line n ≡ false) ss i → drop i ss ≡ slots_behind n ss
cut_behind n ss i l h = point_behind n ss i l h.0 h.1

-- the lines of a source from a number on are those with the rows of all slots
same_lines : (found : ℕ → Option ℕ) (n j : ℕ) (all : List Slot) (lines : List (List ℕ)) → n ≤ j
    → flat_map (λ (e : ℕ × List ℕ). lined e (row_on (map (kept_row found) (slots_behind n all)) e.0)) (enumerate_from j lines)
    ≡ flat_map (lines_with (map (kept_row found) all)) (enumerate_from j lines)
same_lines found n j all [] l = refl
same_lines found n j all (line ∷ lines) l =
    let rows = map (kept_row found) all in
    let rest = flat_map (λ (e : ℕ × List ℕ). lined e (row_on (map (kept_row found) (slots_behind n all)) e.0)) (enumerate_from (j + 1) lines) in
    ap (λ o. lined (j, line) o ++ rest) (sym (find_behind found n j all l))
    ∙ ap (λ ls. lines_with rows (j, line) ++ ls) (same_lines found n (j + 1) all lines (omega (arith, l)))

pub walked_rows : (found : ℕ → Option ℕ) (n j : ℕ) (all : List Slot) (lines : List (List ℕ)) → n ≤ j → Climb j (slots_behind n all)
    → walked found j lines (slots_behind n all) ≡ flat_map (lines_with (map (kept_row found) all)) (enumerate_from j lines)
walked_rows found n j all lines l h = walked_from found j lines (slots_behind n all) h ∙ same_lines found n j all lines l

-- the slots of the lines from 0 on are all
pub all_behind : (all : List Slot) → slots_behind 0 all ≡ all
all_behind [] = refl
all_behind (s ∷ ss) = by (nat_lt s.line 0) refl
  where
    by : (t : Bool) → nat_lt s.line 0 ≡ t → (if t then slots_behind 0 ss else s ∷ ss) ≡ s ∷ ss
    by true e = absurd (omega (arith, ltb-true s.line 0 e))
    by false e = refl

-- what holds of all slots holds of those from a number on
pub each_behind : (P : Slot → Type 0) (n : ℕ) (all : List Slot) → AllByRecursion P all → AllByRecursion P (slots_behind n all)
each_behind P n [] h = tt
each_behind P n (s ∷ ss) h = by (nat_lt s.line n) (each_behind P n ss h.1)
  where
    by : (t : Bool) → AllByRecursion P (slots_behind n ss) → AllByRecursion P (if t then slots_behind n ss else s ∷ ss)
    by true more = more
    by false more = h

-- the slots from a line on, which is the first one at least
pub climb_top : (slots : List Slot) (line until : ℕ) → Climb 1 slots → (line < 1 → until ≡ 1) → (1 ≤ line → until ≡ line) → Climb until (slots_behind line slots)
climb_top slots line until h low high = elim (cases_lt line 1) [
  | inl less ↦ subst (λ (n : ℕ). Climb n (slots_behind line slots)) (sym (low less)) (climb_behind line 1 slots h).0
  | inr from ↦ subst (λ (n : ℕ). Climb n (slots_behind line slots)) (sym (high from)) (climb_behind line 1 slots h).1
]
