-- What stands first of bytes that are no code, and how many bytes it has.
use Rattle.std.proofs.Common.{◌≡◌, ℕ, zero, suc, Bool, true, false, ◌+◌, ◌*◌, ◌-◌, ◌<◌, ◌≤◌, List, [], ◌∷◌, ◌++◌, length, drop, refl, sym, ap, subst, ◌∙◌, arith, nat_lt}
use Rattle.std.specs.Prelude.{nat_le, ◌==◌, cond, if◌then◌else◌}
use Rattle.std.specs.List.{prefix_len}
use Rattle.std.proofs.lemmas.Bool.Decides.{nat_tests}
use Rattle.std.proofs.lemmas.List.{drop-drop, length-drop}
use Rattle.std.proofs.lemmas.List.Sums.{prefix_len-le-length}
use Rattle.m88_base.specs.Lines.{line_end}
use Rattle.m88_base.proofs.Laws.{line_before}
use Rattle.m88_sourcing.specs.Data.{AreDataLines, fewest_printed, is_own_end, is_printed, is_word_here, item_here, item_length, item_line, most_in_line, printed_here, text_ended, text_here, words_here, zeros_here}
use Rattle.m88_sourcing.specs.Data.AreDataLines.{item}
use Rattle.m88_sourcing.specs.Inside.Appended.{FrontAppended}
use Rattle.m88_sourcing.specs.declared.item.Item.{Item}
use Rattle.m88_sourcing.specs.declared.item.Item.TheVariants.{Zeros, Text, Words, Lone}
use Rattle.m88_sourcing.proofs.Appending.{more_front}

-- a text is no longer than the bytes
ended_fits : (n : ℕ) (xs : List ℕ) → text_ended n xs ≤ n + length xs
ended_fits n [] = omega arith
ended_fits n (b ∷ xs) = grind arith

pub text_fits : (bytes : List ℕ) → text_here bytes ≤ length bytes
text_fits bytes = by (nat_lt (printed_here bytes) fewest_printed)
  where
    by : (t : Bool)
        → (if t then 0 else text_ended (printed_here bytes) (drop (printed_here bytes) bytes)) ≤ length bytes
    by true = omega arith
    by false =
        let within : printed_here bytes ≤ length bytes = prefix_len-le-length is_printed bytes in
        let left = length-drop (printed_here bytes) bytes in
        let e = ended_fits (printed_here bytes) (drop (printed_here bytes) bytes) in
        omega (arith, within, left, e)

pub word_long : (at : ℕ) (bytes : List ℕ) → is_word_here at bytes ≡ true → 4 ≤ length bytes
word_long at bytes e = grind (arith, nat_tests)

pub words_fit : (n at : ℕ) (bytes : List ℕ) → 4 * words_here n at bytes ≤ length bytes
words_fit zero at bytes = omega arith
words_fit (suc n) at bytes = by (is_word_here at bytes) refl (words_fit n (at + 4) (drop 4 bytes))
  where
    by : (t : Bool) → is_word_here at bytes ≡ t
        → 4 * words_here n (at + 4) (drop 4 bytes) ≤ length (drop 4 bytes)
        → 4 * (if t then words_here n (at + 4) (drop 4 bytes) + 1 else 0) ≤ length bytes
    by true e more =
        let long = word_long at bytes e in
        let left = length-drop 4 bytes in
        omega (arith, long, left, more)
    by false e more = omega arith

-- of bytes there are some that stand first, and no more than there are
abbrev pub Fits : Item → ℕ → Type 0
Fits x len = (0 < item_length x) × (0 < len → item_length x ≤ len)

chosen : (z t w len : ℕ) → z ≤ len → t ≤ len → 4 * w ≤ len
    → Fits (if nat_le 16 z then Zeros z else if nat_lt 0 t then Text t else if nat_lt 0 w then Words w else Lone) len
chosen z t w len zs ts ws = by1 (nat_le 16 z) refl
  where
    by3 : (b : Bool) → nat_lt 0 w ≡ b → Fits (if b then Words w else Lone) len
    by3 true e = (grind (arith, nat_tests), λ some. ws)
    by3 false e = (omega arith, λ some. omega (arith, some))

    by2 : (b : Bool) → nat_lt 0 t ≡ b → Fits (if b then Text t else if nat_lt 0 w then Words w else Lone) len
    by2 true e = (grind (arith, nat_tests), λ some. ts)
    by2 false e = by3 (nat_lt 0 w) refl

    by1 : (b : Bool) → nat_le 16 z ≡ b
        → Fits (if b then Zeros z else if nat_lt 0 t then Text t else if nat_lt 0 w then Words w else Lone) len
    by1 true e = (grind (arith, nat_tests), λ some. zs)
    by1 false e = by2 (nat_lt 0 t) refl

pub item_fits : (at : ℕ) (bytes : List ℕ) → Fits (item_here at bytes) (length bytes)
item_fits at bytes =
    chosen (zeros_here bytes) (text_here bytes) (words_here most_in_line at bytes) (length bytes)
    (prefix_len-le-length (λ b. b == 0) bytes) (text_fits bytes) (words_fit most_in_line at bytes)

-- the line of what stands first, before the others
pub item_front : (at : ℕ) (bytes old new : List ℕ) → 0 < length bytes
    → new ≡ old ++ (item_line bytes (item_here at bytes) ++ line_end)
    → FrontAppended (AreDataLines at bytes)
    (AreDataLines (at + item_length (item_here at bytes)) (drop (item_length (item_here at bytes)) bytes)) old new
item_front at bytes old new some e =
    λ lines are. record {
      lines = item_line bytes (item_here at bytes) ∷ lines;
      are = item some refl are;
      text_is = line_before old new (item_line bytes (item_here at bytes)) lines e;
    }

-- what ends no text ends no other
ended_none : (n m : ℕ) (xs : List ℕ) → 0 < n → text_ended n xs ≡ 0 → text_ended m xs ≡ 0
ended_none n m [] some e = refl
ended_none n m (b ∷ xs) some e = by (is_own_end b) (b == 13) e
  where
    by : (t s : Bool) → (if t then n + 1 else (if s then n else 0)) ≡ 0 → (if t then m + 1 else (if s then m else 0)) ≡ 0
    by true s h = absurd (omega (arith, h))
    by false true h = absurd (omega (arith, h, some))
    by false false h = refl

-- fewer stand first behind some of them
prefix_drop : (p : ℕ → Bool) (xs : List ℕ) (k : ℕ) → k ≤ prefix_len p xs → prefix_len p (drop k xs) ≡ prefix_len p xs - k
prefix_drop p xs zero h = omega arith
prefix_drop p [] (suc k) h = absurd (omega (arith, h))
prefix_drop p (x ∷ xs) (suc k) h = by (p x) (prefix_drop p xs k) h
  where
    by : (t : Bool) → (k ≤ prefix_len p xs → prefix_len p (drop k xs) ≡ prefix_len p xs - k)
        → suc k ≤ cond t (1 + prefix_len p xs) 0 → prefix_len p (drop k xs) ≡ cond t (1 + prefix_len p xs) 0 - suc k
    by true ih h = let e = ih (omega (arith, h)) in omega (arith, e)
    by false ih h = absurd (omega (arith, h))

-- behind a place within printed bytes that no text ends no text begins either
pub no_text_behind : (bytes : List ℕ) (k : ℕ) → text_here bytes ≡ 0 → k < printed_here bytes
    → text_here (drop k bytes) ≡ 0
no_text_behind bytes k none low =
    let p : ℕ = printed_here bytes in
    let e : printed_here (drop k bytes) ≡ p - k = prefix_drop is_printed bytes k (omega (arith, low)) in
    let same : k + (p - k) ≡ p = omega (arith, low) in
    let d : drop (p - k) (drop k bytes) ≡ drop p bytes =
    drop-drop (p - k) k bytes ∙ ap (λ (n : ℕ). drop n bytes) same in
    ap (λ (m : ℕ). if nat_lt m fewest_printed then 0 else text_ended m (drop m (drop k bytes))) e
    ∙ ap (λ (xs : List ℕ). if nat_lt (p - k) fewest_printed then 0 else text_ended (p - k) xs) d
    ∙ by (nat_lt p fewest_printed) (nat_lt (p - k) fewest_printed) refl refl none
  where
    by : (t s : Bool) → nat_lt (printed_here bytes) fewest_printed ≡ t
        → nat_lt (printed_here bytes - k) fewest_printed ≡ s
        → (if t then 0 else text_ended (printed_here bytes) (drop (printed_here bytes) bytes)) ≡ 0
        → (if s then 0 else text_ended (printed_here bytes - k) (drop (printed_here bytes) bytes)) ≡ 0
    by t true e f h = refl
    by true false e f h = absurd (grind (arith, nat_tests))
    by false false e f h =
        ended_none (printed_here bytes) (printed_here bytes - k) (drop (printed_here bytes) bytes) (omega (arith, low)) h

-- words counted so far, and those to come
pub words_more : (n at : ℕ) (bytes : List ℕ) → is_word_here at bytes ≡ true
    → words_here (suc n) at bytes ≡ words_here n (at + 4) (drop 4 bytes) + 1
words_more n at bytes e = ap (λ (t : Bool). if t then words_here n (at + 4) (drop 4 bytes) + 1 else 0) e

pub words_none : (n at : ℕ) (bytes : List ℕ) → is_word_here at bytes ≡ false → words_here n at bytes ≡ 0
words_none zero at bytes e = refl
words_none (suc n) at bytes e = ap (λ (t : Bool). if t then words_here n (at + 4) (drop 4 bytes) + 1 else 0) e

-- so none begins from a place up to the end of the printed bytes there
pub no_text_up_to : (bytes rest : List ℕ) (place printed len k : ℕ) → rest ≡ drop place bytes
    → printed ≡ printed_here rest → len ≡ text_here rest → len ≡ 0 → place ≤ k → k < place + printed
    → text_here (drop k bytes) ≡ 0
no_text_up_to bytes rest place printed len k rest_is printed_is len_is none from low =
    let on : place + (k - place) ≡ k = omega (arith, from) in
    let there : drop (k - place) rest ≡ drop k bytes =
    ap (drop (k - place)) rest_is ∙ drop-drop (k - place) place bytes ∙ ap (λ (n : ℕ). drop n bytes) on in
    sym (ap text_here there)
    ∙ no_text_behind rest (k - place) (sym len_is ∙ none)
    (subst (λ (n : ℕ). k - place < n) printed_is (omega (arith, from, low)))

-- one word more
pub one_word_more : (at place count all : ℕ) (bytes : List ℕ) → count < 8
    → is_word_here (at + (place + 4 * count)) (drop (place + 4 * count) bytes) ≡ true
    → all ≡ count + words_here (8 - count) (at + (place + 4 * count)) (drop (place + 4 * count) bytes)
    → all
    ≡ count + 1 + words_here (8 - (count + 1)) (at + (place + 4 * (count + 1))) (drop (place + 4 * (count + 1)) bytes)
one_word_more at place count all bytes low is so_far =
    let rest : List ℕ = drop (place + 4 * count) bytes in
    let here : ℕ = at + (place + 4 * count) in
    let n : ℕ = 8 - (count + 1) in
    let left : 8 - count ≡ suc n = omega (arith, low) in
    let next : here + 4 ≡ at + (place + 4 * (count + 1)) = omega arith in
    let on : place + 4 * count + 4 ≡ place + 4 * (count + 1) = omega arith in
    let behind : drop 4 rest ≡ drop (place + 4 * (count + 1)) bytes =
    drop-drop 4 (place + 4 * count) bytes ∙ ap (λ (k : ℕ). drop k bytes) on in
    let others : words_here n (here + 4) (drop 4 rest)
    ≡ words_here n (at + (place + 4 * (count + 1))) (drop (place + 4 * (count + 1)) bytes) =
    λ i. words_here n (next i) (behind i) in
    let one : words_here (8 - count) here rest
    ≡ words_here n (at + (place + 4 * (count + 1))) (drop (place + 4 * (count + 1)) bytes) + 1 =
    ap (λ (k : ℕ). words_here k here rest) left ∙ words_more n here rest is ∙ ap (λ (k : ℕ). k + 1) others in
    counted all count (words_here (8 - count) here rest) _ so_far one
  where
    counted : (all count w v : ℕ) → all ≡ count + w → w ≡ v + 1 → all ≡ count + 1 + v
    counted all count w v e f = omega (arith, e, f)

-- a word begins where four bytes are left
pub word_within : (at place count : ℕ) (bytes : List ℕ) → place + 4 * count ≤ length bytes
    → is_word_here (at + (place + 4 * count)) (drop (place + 4 * count) bytes) ≡ true
    → place + 4 * (count + 1) ≤ length bytes
word_within at place count bytes within is =
    let long : 4 ≤ length (drop (place + 4 * count) bytes) = word_long _ _ is in
    let left : length (drop (place + 4 * count) bytes) ≡ length bytes - (place + 4 * count) =
    length-drop (place + 4 * count) bytes in
    fits (length (drop (place + 4 * count) bytes)) (length bytes) within long left
  where
    fits : (l len : ℕ) → place + 4 * count ≤ len → 4 ≤ l → l ≡ len - (place + 4 * count)
        → place + 4 * (count + 1) ≤ len
    fits l len w g e = omega (arith, w, g, e)

-- the test of a word, in the same bytes
pub word_test : (at here p : ℕ) (bytes rest : List ℕ) (r b : Bool) → here ≡ at → rest ≡ bytes
    → r ≡ is_word_here (here + p) (drop p rest) → r ≡ b → is_word_here (at + p) (drop p bytes) ≡ b
word_test at here p bytes rest r b at_is bytes_is r_is r_b =
    sym (λ i. is_word_here (at_is i + p) (drop p (bytes_is i))) ∙ sym r_is ∙ r_b

-- where no word follows, and where as many stand there as a line has
pub no_more_words : (at count all : ℕ) (rest : List ℕ) → is_word_here at rest ≡ false
    → all ≡ count + words_here (8 - count) at rest → count ≡ all
no_more_words at count all rest none so_far =
    let e = words_none (8 - count) at rest none in
    counted (words_here (8 - count) at rest) so_far e
  where
    counted : (w : ℕ) → all ≡ count + w → w ≡ 0 → count ≡ all
    counted w e f = omega (arith, e, f)

pub most_found : (at count all : ℕ) (rest : List ℕ) → 8 ≡ count → all ≡ count + words_here (8 - count) at rest
    → 8 ≡ all
most_found at count all rest most so_far =
    let left : 8 - count ≡ 0 = omega (arith, most) in
    counted (words_here (8 - count) at rest) so_far (ap (λ (n : ℕ). words_here n at rest) left)
  where
    counted : (w : ℕ) → all ≡ count + w → w ≡ 0 → 8 ≡ all
    counted w e f = omega (arith, e, f, most)

-- zeros and words end within the bytes
pub zeros_end : (place z : ℕ) (bytes rest : List ℕ) → rest ≡ drop place bytes → place ≤ length bytes → z ≡ zeros_here rest
    → place + z ≤ length bytes
zeros_end place z bytes rest rest_is within z_is =
    let few : zeros_here rest ≤ length rest = prefix_len-le-length (λ b. b == 0) rest in
    let len : length rest ≡ length bytes - place = ap length rest_is ∙ length-drop place bytes in
    ended (zeros_here rest) (length rest) z_is few len
  where
    ended : (zs l : ℕ) → z ≡ zs → zs ≤ l → l ≡ length bytes - place → place + z ≤ length bytes
    ended zs l e few len = omega (arith, e, few, len, within)

pub words_end : (at place w : ℕ) (bytes rest : List ℕ) → rest ≡ bytes → place ≤ length bytes
    → w ≡ words_here most_in_line at (drop place rest) → place + 4 * w ≤ length bytes
words_end at place w bytes rest rest_is within w_is =
    let few : 4 * words_here most_in_line at (drop place rest) ≤ length (drop place rest) =
    words_fit most_in_line at (drop place rest) in
    let len : length (drop place rest) ≡ length bytes - place =
    length-drop place rest ∙ ap (λ (xs : List ℕ). length xs - place) rest_is in
    ended (words_here most_in_line at (drop place rest)) (length (drop place rest)) w_is few len
  where
    ended : (ws l : ℕ) → w ≡ ws → 4 * ws ≤ l → l ≡ length bytes - place → place + 4 * w ≤ length bytes
    ended ws l e few len = omega (arith, e, few, len, within)

-- the line of one item more
pub next_item : (at done n : ℕ) (bytes rest t0 t1 t2 : List ℕ) (x : Item) → rest ≡ drop done bytes → done < length bytes
    → x ≡ item_here (at + done) (drop done bytes) → n ≡ item_length x
    → FrontAppended (AreDataLines at bytes) (AreDataLines (at + done) (drop done bytes)) t0 t1
    → t2 ≡ t1 ++ (item_line rest x ++ line_end)
    → FrontAppended (AreDataLines at bytes) (AreDataLines (at + (done + n)) (drop (done + n) bytes)) t0 t2
next_item at done n bytes rest t0 t1 t2 x rest_is low x_is n_is so_far text =
    let is : x ≡ item_here (at + done) rest = x_is ∙ ap (item_here (at + done)) (sym rest_is) in
    let len : length rest ≡ length bytes - done = ap length rest_is ∙ length-drop done bytes in
    let some : 0 < length rest = left (length rest) len in
    more_front AreDataLines at done n bytes rest t0 t1 t2 rest_is so_far
    (subst
    (λ (m : ℕ). FrontAppended (AreDataLines (at + done) rest) (AreDataLines (at + done + m) (drop m rest)) t1 t2)
    (sym (n_is ∙ ap item_length is))
    (item_front (at + done) rest t1 t2 some (text ∙ ap (λ (y : Item). t1 ++ (item_line rest y ++ line_end)) is)))
  where
    left : (l : ℕ) → l ≡ length bytes - done → 0 < l
    left l e = omega (arith, e, low)
