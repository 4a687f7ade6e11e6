-- The lines of a source behind their numbers.
use Rattle.std.proofs.Common.{◌≡◌, ℕ, zero, suc, ◌+◌, ◌-◌, ◌<◌, ◌≤◌, Bool, true, false, inl, inr, List, [], ◌∷◌, ◌++◌, length, length-drop, take, drop, refl, sym, ap, ◌∙◌, append_assoc, arith, take_all, drop_of_length-le, Option}
use Rattle.std.specs.Prelude.{◌==◌, if◌then◌else◌}
use Rattle.std.specs.List.{enumerate_from}
use Rattle.std.proofs.lemmas.Bool.{cases_lt, ne_eqb}
use Rattle.std.proofs.lemmas.List.{append-nil}
use Rattle.std.proofs.lemmas.List.FromFn.{length-enumerate_from}
use Rattle.m88_base.specs.Lines.{line_end, lines_of, text_of_lines}
use Rattle.m88_listing.specs.Columns.{bare_line}
use Rattle.m88_listing.specs.Inside.Pushed.{bare_text}
use Rattle.m88_listing.specs.Rows.{row_lines}
use Rattle.m88_listing.specs.Inside.Pushed.{PushesLines}
use Rattle.m88_listing.specs.Inside.Slots.{kept_row, walked}
use Rattle.m88_listing.specs.declared.slots.Slot.{Slot}

-- numbers behind some lines
pub drop_numbered : {A : Type 0} (k n : ℕ) (xs : List A) → drop k (enumerate_from n xs) ≡ enumerate_from (n + k) (drop k xs)
drop_numbered zero n xs = ap (λ m. enumerate_from m xs) (omega arith)
drop_numbered (suc k) n [] = refl
drop_numbered (suc k) n (x ∷ xs) = drop_numbered k (n + 1) xs ∙ ap (λ m. enumerate_from m (drop k xs)) (omega arith)

-- one line more behind its number
taken : (n first : ℕ) (line : List ℕ) (lines rest : List (List ℕ)) → line ∷ rest ≡ drop n lines
    → bare_text (take (suc n) (enumerate_from first lines)) ≡ bare_text (take n (enumerate_from first lines)) ++ (bare_line (first + n) line ++ line_end)
taken zero first line [] rest e = cc
taken zero first line (x ∷ xs) rest e =
    let same : x ≡ line = cc in
    let here : first ≡ first + 0 = omega arith in
    append-nil (bare_line first x ++ line_end) ∙ ap (λ (l : List ℕ). bare_line first l ++ line_end) same
    ∙ ap (λ (k : ℕ). bare_line k line ++ line_end) here
taken (suc n) first line [] rest e = cc
taken (suc n) first line (x ∷ xs) rest e =
    let own = bare_line first x ++ line_end in
    let so_far = bare_text (take n (enumerate_from (first + 1) xs)) in
    let here : first + 1 + n ≡ first + suc n = omega arith in
    ap (λ t. own ++ t) (taken n (first + 1) line xs rest e)
    ∙ sym (append_assoc own so_far (bare_line (first + 1 + n) line ++ line_end))
    ∙ ap (λ (k : ℕ). (own ++ so_far) ++ (bare_line k line ++ line_end)) here

pub bare_more : (old t new line : List ℕ) (first number later : ℕ) (lines rest : List (List ℕ)) → first ≤ number → later ≡ number + 1
    → line ∷ rest ≡ drop (number - first) lines → t ≡ old ++ bare_text (take (number - first) (enumerate_from first lines))
    → new ≡ t ++ (bare_line number line ++ line_end) → new ≡ old ++ bare_text (take (later - first) (enumerate_from first lines))
bare_more old t new line first number later lines rest le next is so_far one =
    let n = number - first in
    let front = bare_text (take n (enumerate_from first lines)) in
    let here : number ≡ first + n = omega (arith, le) in
    let more : suc n ≡ later - first = omega (arith, le, next) in
    one
    ∙ ap (λ s. s ++ (bare_line number line ++ line_end)) so_far
    ∙ append_assoc old front (bare_line number line ++ line_end)
    ∙ ap (λ (k : ℕ). old ++ (front ++ (bare_line k line ++ line_end))) here
    ∙ ap (λ s. old ++ s) (sym (taken n first line lines rest is))
    ∙ ap (λ (k : ℕ). old ++ bare_text (take k (enumerate_from first lines))) more

-- no line yet
pub bare_none : (old : List ℕ) (first : ℕ) (lines : List (List ℕ)) → old ≡ old ++ bare_text (take (first - first) (enumerate_from first lines))
bare_none old first lines =
    let none : 0 ≡ first - first = omega arith in
    sym (append-nil old) ∙ ap (λ (n : ℕ). old ++ bare_text (take n (enumerate_from first lines))) none

pub drop_none : (first : ℕ) (lines : List (List ℕ)) → lines ≡ drop (first - first) lines
drop_none first lines =
    let none : 0 ≡ first - first = omega arith in
    ap (λ (n : ℕ). drop n lines) none

-- so many elements are taken as others, where both are all
pub same_front : {A : Type 0} (n m : ℕ) (xs : List A) → (n < length xs → n ≡ m) → n ≤ m → take n xs ≡ take m xs
same_front n m xs left le = elim (cases_lt n (length xs)) [
  | inl some ↦ ap (λ k. take k xs) (left some)
  | inr all ↦ take_all n xs all ∙ sym (take_all m xs (omega (arith, all, le)))
]

pub same_back : {A : Type 0} (n m : ℕ) (xs : List A) → (n < length xs → n ≡ m) → n ≤ m → drop n xs ≡ drop m xs
same_back n m xs left le = elim (cases_lt n (length xs)) [
  | inl some ↦ ap (λ k. drop k xs) (left some)
  | inr all ↦ drop_of_length-le xs all ∙ sym (drop_of_length-le xs (omega (arith, all, le)))
]

-- where lines are left there are bytes
pub some_left : (left : List ℕ) (n : ℕ) (lines : List (List ℕ)) → lines_of left ≡ drop n lines → n < length lines → 0 < length left
unfolding lines_of
some_left [] n lines e l =
    let none : 0 ≡ length (drop n lines) = ap length e in
    absurd (omega (arith, l, none, length-drop n lines))
some_left (b ∷ bs) n lines e l = omega arith

-- lines before the next one that has a slot
pub some_walked : (found : ℕ → Option ℕ) (n first : ℕ) (lines : List (List ℕ)) (s : Slot) (ss : List Slot) → (first ≤ s.line → first + n ≤ s.line)
    → bare_text (take n (enumerate_from first lines)) ++ text_of_lines (walked found (first + n) (drop n lines) (s ∷ ss))
    ≡ text_of_lines (walked found first lines (s ∷ ss))
some_walked found zero first lines s ss before =
    let here : first + 0 ≡ first = omega arith in
    ap (λ k. text_of_lines (walked found k lines (s ∷ ss))) here
some_walked found (suc n) first [] s ss before = refl
some_walked found (suc n) first (x ∷ xs) s ss before =
    let own = bare_line first x ++ line_end in
    let front = bare_text (take n (enumerate_from (first + 1) xs)) in
    let back = text_of_lines (walked found (first + suc n) (drop n xs) (s ∷ ss)) in
    let here : first + suc n ≡ first + 1 + n = omega arith in
    append_assoc own front back
    ∙ ap (λ k. own ++ (front ++ text_of_lines (walked found k (drop n xs) (s ∷ ss)))) here
    ∙ ap (λ t. own ++ t) (some_walked found n (first + 1) xs s ss (λ l. omega (arith, before (omega (arith, l)))))
    ∙ by (s.line == first) (ne_eqb s.line first (λ e. absurd (omega (arith, e, before (omega (arith, e))))))
  where
    by : (t : Bool) → t ≡ false
        → (bare_line first x ++ line_end) ++ text_of_lines (walked found (first + 1) xs (s ∷ ss))
        ≡ text_of_lines (if t then row_lines first x (kept_row found s) ++ walked found (first + 1) xs ss
        else bare_line first x ∷ walked found (first + 1) xs (s ∷ ss))
    by true e = absurd (cc)
    by false e = refl

pub all_walked : (found : ℕ → Option ℕ) (first : ℕ) (lines : List (List ℕ)) → bare_text (enumerate_from first lines) ≡ text_of_lines (walked found first lines [])
all_walked found first [] = refl
all_walked found first (x ∷ xs) = ap (λ t. (bare_line first x ++ line_end) ++ t) (all_walked found (first + 1) xs)

-- lines that were added up to a number, as far as there are lines
pub pushed_until : (source old new left : List ℕ) (first until next : ℕ) → first ≤ until → PushesLines source first until next old new left
    → (new ≡ old ++ bare_text (take (until - first) (enumerate_from first (lines_of source)))) × (lines_of left ≡ drop (until - first) (lines_of source))
pushed_until source old new left first until next low p =
    let lines = lines_of source in
    let n = next - first in
    let stops : n < length lines → n ≡ until - first = λ l. omega (arith, p.forward, p.stops (some_left left n lines p.rest l)) in
    let within : n ≤ until - first = omega (arith, p.within low) in
    let numbered : n < length (enumerate_from first lines) → n ≡ until - first = λ l. stops (omega (arith, l, length-enumerate_from first lines)) in (
      p.text ∙ ap (λ ls. old ++ bare_text ls) (same_front n (until - first) (enumerate_from first lines) numbered within),
      p.rest ∙ same_back n (until - first) lines stops within,
    )
