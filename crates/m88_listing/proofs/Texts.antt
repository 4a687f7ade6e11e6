-- Lines appended to a text, and the lines of a row.
use Rattle.std.proofs.Common.{◌≡◌, ℕ, ◌+◌, ◌-◌, ◌<◌, Bool, true, false, List, [], ◌∷◌, ◌++◌, length, map, take, drop, min, refl, sym, ap, ◌∙◌, append_assoc, arith, length-append, Option}
use Rattle.std.specs.Prelude.{codes, decimal, if◌then◌else◌, ◌==◌}
use Rattle.std.specs.List.{enumerate_from}
use Rattle.std.proofs.lemmas.Grind.{common_steps}
use Rattle.std.proofs.lemmas.List.{append-nil, drop_min, nil_from_length, take_min}
use Rattle.std.proofs.lemmas.List.FromFn.{length-map-range_with_len}
use Rattle.m88_base.specs.Hex.{hex8}
use Rattle.m88_base.specs.Lines.{line_end, text_of_lines}
use Rattle.m88_base.specs.Pieces.{pieces}
use Rattle.m88_base.proofs.Laws.{next_piece, no_pieces}
use Rattle.m88_listing.specs.Columns.{at_left, bare_line, blanks, columns}
use Rattle.m88_listing.specs.Refused.{below, mark_line}
use Rattle.m88_listing.specs.Rows.{digits, further_from, further_line, row_lines}
use Rattle.m88_listing.specs.Inside.Slots.{found_bytes, kept_row, walked}
use Rattle.m88_listing.specs.declared.slots.Shown.TheVariants.{Bytes, Value, Zeros}
use Rattle.m88_listing.specs.declared.slots.Slot.{Slot}

-- the text of lines behind lines
pub text_append : (xs ys : List (List ℕ)) → text_of_lines (xs ++ ys) ≡ text_of_lines xs ++ text_of_lines ys
text_append [] ys = refl
text_append (x ∷ xs) ys =
    ap (λ t. (x ++ line_end) ++ t) (text_append xs ys) ∙ sym (append_assoc (x ++ line_end) (text_of_lines xs) (text_of_lines ys))

-- the columns before a line of the source, filled from where the bytes' column begins
regroup : (old r two a content rest five line end : List ℕ)
    → ((old ++ (r ++ two ++ a ++ two)) ++ content) ++ (rest ++ five ++ line ++ end) ≡ old ++ (r ++ two ++ a ++ two ++ (content ++ rest) ++ five ++ line ++ end)
regroup old r two a content rest five line end = grind (arith, common_steps)

pub filled : (old r a content line t1 t2 new : List ℕ) (begin : ℕ)
    → t1 ≡ old ++ (r ++ blanks 2 ++ a ++ blanks 2) → begin ≡ length t1 → t2 ≡ t1 ++ content
    → new ≡ t2 ++ (blanks (16 - (length t2 - begin)) ++ blanks 5 ++ line ++ line_end)
    → new ≡ old ++ ((r ++ blanks 2 ++ a ++ blanks 2 ++ at_left 16 content ++ blanks 5) ++ line ++ line_end)
filled old r a content line t1 t2 new begin e1 e2 e3 e4 =
    let long : length t2 ≡ length t1 + length content = ap length e3 ∙ length-append t1 content in
    let width : length t2 - begin ≡ length content = omega (arith, long, e2) in
    e4
    ∙ ap (λ n. t2 ++ (blanks (16 - n) ++ blanks 5 ++ line ++ line_end)) width
    ∙ ap (λ t. t ++ (blanks (16 - length content) ++ blanks 5 ++ line ++ line_end)) (e3 ∙ ap (λ t. t ++ content) e1)
    ∙ regroup old r (blanks 2) a content (blanks (16 - length content)) (blanks 5) line line_end

-- one further line more
pub further_more : (now later all piece rest bytes : List ℕ) (at number : ℕ) → bytes ≡ piece ++ rest
    → length piece ≡ min 8 (length bytes) → 0 < length bytes → later ≡ now ++ (further_line at (number, piece) ++ line_end)
    → now ++ text_of_lines (further_from at number bytes) ≡ all
    → later ++ text_of_lines (further_from at (number + 1) rest) ≡ all
further_more now later all piece rest bytes at number parts size some one before =
    let left : List ℕ = text_of_lines (further_from at (number + 1) rest) in
    ap (λ t. t ++ left) one
    ∙ append_assoc now (further_line at (number, piece) ++ line_end) left
    ∙ ap (λ ps. now ++ text_of_lines (map (further_line at) (enumerate_from number ps)))
    (sym (next_piece 8 (omega arith) bytes piece rest parts size some))
    ∙ before

-- no byte is left
pub further_done : (now all rest : List ℕ) (at number : ℕ) → length rest ≡ 0
    → now ++ text_of_lines (further_from at number rest) ≡ all → now ≡ all
further_done now all rest at number none before =
    let no_piece : pieces 8 rest ≡ [] = ap (pieces 8) (nil_from_length rest none) ∙ no_pieces 8 (omega arith) in
    sym (append-nil now)
    ∙ ap (λ ps. now ++ text_of_lines (map (further_line at) (enumerate_from number ps))) (sym no_piece)
    ∙ before

-- the lines of a row whose bytes are told as a count
pub counted_row : (found : ℕ → Option ℕ) (number : ℕ) (line old new : List ℕ) (s : Slot) → s.shown ≡ Zeros
    → new ≡ old ++ (columns number (hex8 s.at) (codes "00 x " ++ decimal s.len) ++ line ++ line_end)
    → new ≡ old ++ text_of_lines (row_lines number line (kept_row found s))
counted_row found number line old new s is e =
    let count : length (found_bytes found s.at s.len) ≡ s.len = length-map-range_with_len _ 0 s.len in
    e
    ∙ ap (λ n. old ++ (columns number (hex8 s.at) (codes "00 x " ++ decimal n) ++ line ++ line_end)) (sym count)
    ∙ ap (λ t. old ++ t) (sym (append-nil _))
    ∙ rw is refl

-- the lines of a row that has a value alone
pub value_row : (found : ℕ → Option ℕ) (number : ℕ) (line old new : List ℕ) (s : Slot) → s.shown ≡ Value
    → new ≡ old ++ (columns number (hex8 s.at) (codes "=") ++ line ++ line_end)
    → new ≡ old ++ text_of_lines (row_lines number line (kept_row found s))
value_row found number line old new s is e = e ∙ ap (λ t. old ++ t) (sym (append-nil _)) ∙ rw is refl

-- the lines of a row whose bytes are shown
pub shown_row : (found : ℕ → Option ℕ) (number n : ℕ) (line old mid new bytes shown behind : List ℕ) (s : Slot) → s.shown ≡ Bytes
    → bytes ≡ found_bytes found s.at s.len → n ≡ min s.len 8 → shown ≡ take n bytes → behind ≡ drop n bytes
    → mid ≡ old ++ (columns number (hex8 s.at) (digits shown) ++ line ++ line_end)
    → new ≡ mid ++ text_of_lines (further_from s.at 1 behind)
    → new ≡ old ++ text_of_lines (row_lines number line (kept_row found s))
shown_row found number n line old mid new bytes shown behind s is all few front rest e1 e2 =
    let own : List ℕ = found_bytes found s.at s.len in
    let further : List ℕ = text_of_lines (further_from s.at 1 behind) in
    let long : length own ≡ s.len = length-map-range_with_len _ 0 s.len in
    let eight : n ≡ min 8 (length own) = omega (arith, few, long) in
    let first : shown ≡ take 8 own = front ∙ ap (take n) all ∙ ap (λ k. take k own) eight ∙ take_min 8 own in
    let left : behind ≡ drop 8 own = rest ∙ ap (drop n) all ∙ ap (λ k. drop k own) eight ∙ drop_min 8 own in
    e2
    ∙ ap (λ t. t ++ further) e1
    ∙ append_assoc old (columns number (hex8 s.at) (digits shown) ++ line ++ line_end) further
    ∙ ap (λ bs. old ++ ((columns number (hex8 s.at) (digits bs) ++ line ++ line_end) ++ further)) first
    ∙ ap (λ bs. old ++ ((columns number (hex8 s.at) (digits (take 8 own)) ++ line ++ line_end) ++ text_of_lines (further_from s.at 1 bs))) left
    ∙ rw is refl

-- the lines for the next line of a source, where the next slot is that of it
pub row_next : (found : ℕ → Option ℕ) (number : ℕ) (line old new : List ℕ) (s : Slot) (ss : List Slot) (lines : List (List ℕ))
    → s.line ≡ number → new ≡ old ++ text_of_lines (row_lines number line (kept_row found s))
    → new ++ text_of_lines (walked found (number + 1) lines ss) ≡ old ++ text_of_lines (walked found number (line ∷ lines) (s ∷ ss))
row_next found number line old new s ss lines is e =
    let own : List (List ℕ) = row_lines number line (kept_row found s) in
    let rest = walked found (number + 1) lines ss in
    ap (λ x. x ++ text_of_lines rest) e
    ∙ append_assoc old (text_of_lines own) (text_of_lines rest)
    ∙ ap (λ x. old ++ x) (sym (text_append own rest))
    ∙ ap (λ ls. old ++ text_of_lines ls) (by (s.line == number) (ap (λ n. n == number) is ∙ same_number number))
  where
    same_number : (n : ℕ) → (n == n) ≡ true
    same_number n = grind (arith, common_steps)

    by : (b : Bool) → b ≡ true
        → row_lines number line (kept_row found s) ++ walked found (number + 1) lines ss
        ≡ (if b then row_lines number line (kept_row found s) ++ walked found (number + 1) lines ss
        else bare_line number line ∷ walked found (number + 1) lines (s ∷ ss))
    by true is = refl
    by false is = cc

-- the line of a symbol
grow : (old xs ys t u : List ℕ) → t ≡ old ++ xs → u ≡ t ++ ys → u ≡ old ++ (xs ++ ys)
grow old xs ys t u e f = f ∙ ap (λ s. s ++ ys) e ∙ append_assoc old xs ys

pub entry_whole : (old value section name owner number mark t0 t1 t2 t3 t4 t5 t6 t7 t8 new : List ℕ)
    → t0 ≡ old ++ value → t1 ≡ t0 ++ section → t2 ≡ t1 ++ 32 ∷ [] → t3 ≡ t2 ++ name → t4 ≡ t3 ++ 32 ∷ [] → t5 ≡ t4 ++ owner → t6 ≡ t5 ++ 32 ∷ []
    → t7 ≡ t6 ++ number → t8 ≡ t7 ++ mark → new ≡ t8 ++ 10 ∷ []
    → new ≡ old ++ ((value ++ section ++ codes " " ++ name ++ codes " " ++ owner ++ codes " " ++ number ++ mark) ++ line_end)
entry_whole old value section name owner number mark t0 t1 t2 t3 t4 t5 t6 t7 t8 new e0 e1 e2 e3 e4 e5 e6 e7 e8 e9 =
    grow old _ _ _ _ (grow old _ _ _ _ (grow old _ _ _ _ (grow old _ _ _ _ (grow old _ _ _ _ (grow old _ _ _ _ (grow old _ _ _ _ (grow old _ _ _ _
    (grow old _ _ _ _ e0 e1) e2) e3) e4) e5) e6) e7) e8) e9

-- the line of the sums, behind an empty one
pub sums_whole : (old a b c d t1 t2 t3 t4 t5 t6 t7 t8 new : List ℕ) → t1 ≡ old ++ (10 ∷ codes "text ") → t2 ≡ t1 ++ a → t3 ≡ t2 ++ codes " data "
    → t4 ≡ t3 ++ b → t5 ≡ t4 ++ codes " at " → t6 ≡ t5 ++ c → t7 ≡ t6 ++ codes " start " → t8 ≡ t7 ++ d → new ≡ t8 ++ 10 ∷ []
    → new ≡ old ++ (line_end ++ ((codes "text " ++ a ++ codes " data " ++ b ++ codes " at " ++ c ++ codes " start " ++ d) ++ line_end))
sums_whole old a b c d t1 t2 t3 t4 t5 t6 t7 t8 new e1 e2 e3 e4 e5 e6 e7 e8 e9 =
    grow old _ _ _ _ (grow old _ _ _ _ (grow old _ _ _ _ (grow old _ _ _ _ (grow old _ _ _ _ (grow old _ _ _ _ (grow old _ _ _ _
    (grow old _ _ _ _ e1 e2) e3) e4) e5) e6) e7) e8) e9

-- the line with the mark
pub mark_whole : (old line before t1 t2 new : List ℕ) (column at : ℕ) → at ≡ min (length line) (column - 1) → before ≡ take at line
    → t1 ≡ old ++ blanks 40 → t2 ≡ t1 ++ map below before → new ≡ t2 ++ 94 ∷ 10 ∷ []
    → new ≡ old ++ (mark_line column line ++ line_end)
mark_whole old line before t1 t2 new column at here front e1 e2 e3 =
    let all : before ≡ take (column - 1) line = front ∙ ap (λ n. take n line) (here ∙ omega arith) ∙ take_min (column - 1) line in
    grow old _ _ _ _ (grow old _ _ _ _ e1 e2) e3
    ∙ ap (λ b. old ++ ((blanks 40 ++ map below b) ++ 94 ∷ 10 ∷ [])) all
    ∙ ap (λ t. old ++ t) (sym (append_assoc (blanks 40 ++ map below (take (column - 1) line)) (94 ∷ []) (10 ∷ [])))
