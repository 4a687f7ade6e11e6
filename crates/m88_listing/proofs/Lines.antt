-- The lines of a source: where they end, and what is written of one.
use Rattle.std.proofs.Common.{◌≡◌, ℕ, zero, suc, ◌+◌, ◌-◌, ◌<◌, ◌≤◌, Bool, true, false, cond, ◌&&◌, not, List, [], ◌∷◌, ◌++◌, length, length-append, length-take-le, take, drop, get_or, refl, sym, subst, ap, ◌∙◌, append_assoc, arith, take-append-drop, drop_of_length-le, Option, Some, None}
use Rattle.std.specs.Prelude.{◌==◌, decimal, flat_map, if◌then◌else◌, MatchOption}
use Rattle.std.specs.List.{prefix_len}
use Rattle.std.proofs.lemmas.Bool.{eqb-true}
use Rattle.std.proofs.lemmas.List.{append-nil, drop_more}
use Rattle.std.proofs.Math.Seq.{drop-append-le, drop-append_seam, take-append-add, take-append-le, take-append_seam}
use Rattle.memchr.specs.Find.{TakesFirst, is_byte, places, places_from}
use Rattle.m88_base.proofs.Laws.{ends_last, is_inner}
use Rattle.m88_base.specs.Cut.{Lacks, lacks}
use Rattle.m88_base.specs.Lines.{line_end, lines_of}
use Rattle.m88_listing.specs.Columns.{at_right, bare_line, columns, no_address}
use Rattle.m88_listing.specs.Inside.Pushed.{IsFirstFeed}

-- one line more is dropped
drop_next : {A : Type 0} (k : ℕ) (xs ys : List A) (x : A) → x ∷ ys ≡ drop k xs → ys ≡ drop (suc k) xs
drop_next zero [] ys x e = cc
drop_next zero (z ∷ xs) ys x e = cc
drop_next (suc k) [] ys x e = cc
drop_next (suc k) (z ∷ xs) ys x e = drop_next k xs ys x e

pub drop_line : {A : Type 0} (first number later : ℕ) (xs ys : List A) (x : A) → first ≤ number → later ≡ number + 1 → x ∷ ys ≡ drop (number - first) xs
    → ys ≡ drop (later - first) xs
drop_line first number later xs ys x le next e =
    let one : suc (number - first) ≡ later - first = omega (arith, le, next) in
    drop_next (number - first) xs ys x e ∙ ap (λ n. drop n xs) one

-- no line is left of an empty source
pub no_lines : (rest : List ℕ) → length rest ≡ 0 → lines_of rest ≡ []
unfolding lines_of
no_lines [] e = refl
no_lines (b ∷ bs) e = absurd (omega (arith, e))

-- a source that begins with the end of a line begins with an empty line
pub empty_first : (rest behind : List ℕ) → rest ≡ 10 ∷ behind → lines_of rest ≡ [] ∷ lines_of behind
unfolding lines_of
empty_first rest behind e = ap lines_of e

-- a text without an LF from a place on
feedless : (text : List ℕ) (i n : ℕ) → i + n ≡ length text → places_from (is_byte 10) text i n ≡ [] → lacks 10 (drop i text) ≡ true
unfolding places_from
feedless text i zero whole none = ap (lacks 10) (drop_of_length-le text (omega (arith, whole)))
feedless text i (suc n) whole none = by (is_byte 10 (get_or text i 0)) refl none (feedless text (i + 1) n (omega (arith, whole)))
  where
    later : List ℕ
    later = places_from (is_byte 10) text (i + 1) n

    by : (t : Bool) → is_byte 10 (get_or text i 0) ≡ t → (if t then i ∷ later else later) ≡ []
        → (later ≡ [] → lacks 10 (drop (i + 1) text) ≡ true) → lacks 10 (drop i text) ≡ true
    by true is k more = absurd (cc)
    by false is k more =
        ap (lacks 10) (drop_more text i 0 (omega (arith, whole)))
        ∙ ap (λ (t : Bool). not t && lacks 10 (drop (i + 1) text)) is ∙ more k

-- and one with its first LF
record Fed (text : List ℕ) (i at : ℕ) : Type 0 where
  low : i ≤ at
  high : at < length text
  before : lacks 10 (take (at - i) (drop i text)) ≡ true
  feed : drop at text ≡ 10 ∷ drop (at + 1) text

fed : (text : List ℕ) (i n at : ℕ) (more : List ℕ) → i + n ≡ length text → places_from (is_byte 10) text i n ≡ at ∷ more → Fed text i at
unfolding places_from
fed text i zero at more whole e = absurd (cc)
fed text i (suc n) at more whole e = by (is_byte 10 (get_or text i 0)) refl e (fed text (i + 1) n at more (omega (arith, whole)))
  where
    later : List ℕ
    later = places_from (is_byte 10) text (i + 1) n

    by : (t : Bool) → is_byte 10 (get_or text i 0) ≡ t → (if t then i ∷ later else later) ≡ at ∷ more
        → (later ≡ at ∷ more → Fed text (i + 1) at) → Fed text i at
    by true is k next =
        let same : i ≡ at = cc in
        let none : at - i ≡ 0 = omega (arith, same) in
        let here : drop i text ≡ 10 ∷ drop (i + 1) text =
        drop_more text i 0 (omega (arith, whole)) ∙ ap (λ (b : ℕ). b ∷ drop (i + 1) text) (eqb-true (get_or text i 0) 10 is) in
        record {
          low = omega (arith, same);
          high = omega (arith, same, whole);
          before = ap (λ (m : ℕ). lacks 10 (take m (drop i text))) none;
          feed = ap (λ (m : ℕ). drop m text) (sym same) ∙ here ∙ ap (λ (m : ℕ). 10 ∷ drop (m + 1) text) same;
        }
    by false is k next =
        let p = next k in
        let rest = drop (i + 1) text in
        let one : at - i ≡ suc (at - (i + 1)) = omega (arith, p.low) in
        record {
          low = omega (arith, p.low);
          high = p.high;
          before =
              ap (λ (m : ℕ). lacks 10 (take m (drop i text))) one
              ∙ ap (λ (xs : List ℕ). lacks 10 (take (suc (at - (i + 1))) xs)) (drop_more text i 0 (omega (arith, whole)))
              ∙ ap (λ (t : Bool). not t && lacks 10 (take (at - (i + 1)) rest)) is
              ∙ p.before;
          feed = p.feed;
        }

pub first_feed : (text left : List ℕ) (r : Option ℕ) (found : List ℕ) → found ≡ places (is_byte 10) text → TakesFirst found r left
    → MatchOption r (Lacks 10 text) (IsFirstFeed text)
first_feed text left None found is e = feedless text 0 (length text - 0) (omega arith) (sym is ∙ e.0)
first_feed text left (Some at) found is e =
    let p = fed text 0 (length text - 0) at left (omega arith) (sym is ∙ e) in
    let same : at ≡ at - 0 = omega arith in
    record {
      within = p.high;
      before = ap (λ (m : ℕ). lacks 10 (take m text)) same ∙ p.before;
      feed = p.feed;
    }

-- the first LF of a text is that of the text that it begins
pub feed_ahead : (near back text : List ℕ) (n : ℕ) → near ++ back ≡ text → IsFirstFeed near n → IsFirstFeed text n
feed_ahead near back text n is p = subst (λ (t : List ℕ). IsFirstFeed t n) is (record {
  within = omega (arith, p.within, length-append near back);
  before = ap (lacks 10) (take-append-le n near back (omega (arith, p.within))) ∙ p.before;
  feed =
      drop-append-le n near back (omega (arith, p.within))
      ∙ ap (λ xs. xs ++ back) p.feed
      ∙ ap (λ xs. 10 ∷ xs) (sym (drop-append-le (n + 1) near back (omega (arith, p.within))));
})

-- a text parted at its first LF
pub parted : (rest line behind : List ℕ) (n : ℕ) → IsFirstFeed rest n → line ≡ take n rest → behind ≡ drop (n + 1) rest → rest ≡ line ++ 10 ∷ behind
parted rest line behind n p front back =
    sym (take-append-drop n rest)
    ∙ ap (λ t. take n rest ++ t) p.feed
    ∙ ap (λ (l : List ℕ). l ++ 10 ∷ drop (n + 1) rest) (sym front)
    ∙ ap (λ (b : List ℕ). line ++ 10 ∷ b) (sym back)

pub front_lacks : (rest line : List ℕ) (n : ℕ) → IsFirstFeed rest n → line ≡ take n rest → lacks 10 line ≡ true
front_lacks rest line n p front = ap (lacks 10) front ∙ p.before

-- how many bytes stand before the first LF of a text that begins with bytes that are none
before_lf : (xs ys : List ℕ) → lacks 10 xs ≡ true → prefix_len is_inner ys ≡ 0 → prefix_len is_inner (xs ++ ys) ≡ length xs
before_lf [] ys lack none = none
before_lf (x ∷ xs) ys lack none = by (is_inner x) lack (λ k. before_lf xs ys k none)
  where
    by : (t : Bool) → (t && lacks 10 xs) ≡ true → (lacks 10 xs ≡ true → prefix_len is_inner (xs ++ ys) ≡ length xs)
        → cond t (1 + prefix_len is_inner (xs ++ ys)) 0 ≡ length (x ∷ xs)
    by true k more = omega (arith, more k)
    by false k more = absurd (cc)

-- the first line of a source, by the last byte before its LF
by_last : (rest line behind front : List ℕ) (b : ℕ) → rest ≡ line ++ 10 ∷ behind → lacks 10 line ≡ true → line ≡ front ++ b ∷ []
    → lines_of rest ≡ cond (b == 13) front (front ++ b ∷ []) ∷ lines_of behind
by_last rest line behind front b is lack last =
    let n : prefix_len is_inner rest ≡ length line = ap (prefix_len is_inner) is ∙ before_lf line (10 ∷ behind) lack refl in
    ends_last rest front b 10 behind
    (ap (λ k. drop k rest) n ∙ ap (drop (length line)) is ∙ drop-append_seam line (10 ∷ behind))
    (ap (λ k. take k rest) n ∙ ap (take (length line)) is ∙ take-append_seam line (10 ∷ behind) ∙ last)

pub without_cr : (rest line behind front : List ℕ) (b : ℕ) → rest ≡ line ++ 10 ∷ behind → lacks 10 line ≡ true → line ≡ front ++ b ∷ []
    → (b == 13) ≡ false → lines_of rest ≡ line ∷ lines_of behind
without_cr rest line behind front b is lack last other =
    by_last rest line behind front b is lack last
    ∙ ap (λ (t : Bool). cond t front (front ++ b ∷ []) ∷ lines_of behind) other ∙ ap (λ (l : List ℕ). l ∷ lines_of behind) (sym last)

pub with_cr : (rest line behind front : List ℕ) (b : ℕ) → rest ≡ line ++ 10 ∷ behind → lacks 10 line ≡ true → line ≡ front ++ b ∷ []
    → b ≡ 13 → lines_of rest ≡ front ∷ lines_of behind
with_cr rest line behind front b is lack last cr =
    by_last rest line behind front b is lack last ∙ ap (λ (n : ℕ). cond (n == 13) front (front ++ n ∷ []) ∷ lines_of behind) cr

-- the bytes before the last of those that a text begins with
pub before_last : (text front : List ℕ) (b n : ℕ) → take n text ≡ front ++ b ∷ [] → take (length front) text ≡ front
before_last text front b n is =
    ap (take (length front))
    (sym (take-append-drop n text) ∙ ap (λ xs. xs ++ drop n text) is ∙ append_assoc front (b ∷ []) (drop n text))
    ∙ take-append_seam front (b ∷ drop n text)

-- where all pieces were taken there is nothing behind them
pub all_taken : {X Y : Type 0} (f : X → List Y) (xs : List X) (i : ℕ) (out end : List Y) → length xs ≤ i → out ++ flat_map f (drop i xs) ≡ end → out ≡ end
all_taken f xs i out end l so_far =
    sym (append-nil out) ∙ ap (λ ys. out ++ flat_map f ys) (sym (drop_of_length-le xs l)) ∙ so_far

-- a line without address and bytes, empty and not
pub bare_written : (n : ℕ) (line old head b c new : List ℕ) → (length line == 0) ≡ false → head ≡ columns n no_address [] → b ≡ old ++ head
    → c ≡ b ++ line → new ≡ c ++ line_end → new ≡ old ++ (bare_line n line ++ line_end)
bare_written n [] old head b c new some is e1 e2 e3 = absurd (cc)
bare_written n (byte ∷ line) old head b c new some is e1 e2 e3 =
    e3 ∙ ap (λ xs. xs ++ line_end) (e2 ∙ ap (λ xs. xs ++ byte ∷ line) (e1 ∙ ap (λ h. old ++ h) is) ∙ append_assoc old (columns n no_address []) (byte ∷ line))
    ∙ append_assoc old (columns n no_address [] ++ byte ∷ line) line_end

pub empty_written : (n : ℕ) (line old own new : List ℕ) → (length line == 0) ≡ true → own ≡ at_right 7 (decimal n) ++ line_end → new ≡ old ++ own
    → new ≡ old ++ (bare_line n line ++ line_end)
empty_written n [] old own new none is e = e ∙ ap (λ t. old ++ t) is
empty_written n (byte ∷ line) old own new none is e = absurd (omega (arith, eqb-true (length (byte ∷ line)) 0 none))

-- a line that isn't empty, with the LF that ends it
pub ended_written : (n len : ℕ) (rest line behind front old head t ended new : List ℕ) (b : ℕ) → IsFirstFeed rest len → line ≡ take len rest
    → rest ≡ line ++ 10 ∷ behind → line ≡ front ++ b ∷ [] → head ≡ columns n no_address [] → t ≡ old ++ head → ended ≡ take (len + 1) rest
    → new ≡ t ++ ended → new ≡ old ++ (bare_line n line ++ line_end)
ended_written n len rest [] behind front old head t ended new b p cut is last cols e1 e2 e3 =
    absurd (omega (arith, ap length last, length-append front (b ∷ [])))
ended_written n len rest (byte ∷ line) behind front old head t ended new b p cut is last cols e1 e2 e3 =
    let own = byte ∷ line in
    let long : length own ≡ len = ap length cut ∙ length-take-le len rest (omega (arith, p.within)) in
    let whole : ended ≡ own ++ line_end =
    e2 ∙ ap (λ (m : ℕ). take (m + 1) rest) (sym long) ∙ ap (take (length own + 1)) is ∙ take-append-add own (10 ∷ behind) 1 in
    e3 ∙ ap (λ xs. t ++ xs) whole
    ∙ ap (λ xs. xs ++ (own ++ line_end)) (e1 ∙ ap (λ h. old ++ h) cols)
    ∙ append_assoc old (columns n no_address []) (own ++ line_end)
    ∙ ap (λ xs. old ++ xs) (sym (append_assoc (columns n no_address []) own line_end))
