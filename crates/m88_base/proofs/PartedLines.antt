-- An input is parted at a line, line by line.
use Rattle.std.proofs.Common.{◌≡◌, ℕ, zero, suc, ◌+◌, ◌-◌, ◌<◌, ◌≤◌, Bool, true, false, cond, ◌&&◌, ◌==◌, List, [], ◌∷◌, ◌++◌, drop, length, take, append_assoc, length-append, inl, inr, refl, sym, ap, ◌∙◌, subst, arith, eq-eqb}
use Rattle.std.specs.Prelude.{◌⊎◌, ◌≢◌}
use Rattle.std.specs.List.{All, prefix_len}
use Rattle.std.proofs.lemmas.Bool.{eqb-true}
use Rattle.std.proofs.lemmas.List.{append-nil, append_cancel_right}
use Rattle.std.proofs.lemmas.List.Elements.{All-head, All-nil, All-push, All-tail}
use Rattle.std.proofs.Math.Seq.{take-append_seam}
use Rattle.m88_base.specs.Lines.{begins_with_lf, behind_line, lines_of, on_first_line}
use Rattle.m88_base.specs.Parted.{IsParted, IsUnparted, LacksLine, behind_lines}
use Rattle.m88_base.specs.Inside.LineEnd.{without_cr}
use Rattle.m88_base.proofs.Decided.{same_text}
use Rattle.m88_base.proofs.Lines.{and_false, front_by, is_inner, line_ends, none_behind, source_ends, stands_behind}

-- the text's last byte ends a line
abbrev EndsLine : List ℕ → Type 0
EndsLine [] = ⊥
EndsLine (b ∷ []) = b ≡ 10
EndsLine (b ∷ c ∷ bs) = EndsLine (c ∷ bs)

ends_more : (b : ℕ) (bs : List ℕ) → EndsLine bs → EndsLine (b ∷ bs)
ends_more b [] h = absurd h
ends_more b (c ∷ bs) h = h

ends_later : (xs ys : List ℕ) → EndsLine ys → EndsLine (xs ++ ys)
ends_later [] ys h = h
ends_later (x ∷ xs) ys h = ends_more x (xs ++ ys) (ends_later xs ys h)

-- a byte and more are one line at least
has_line : (b : ℕ) (bs : List ℕ) → lines_of (b ∷ bs) ≢ []
unfolding lines_of
has_line b [] none = by_byte (b == 10) refl
  where
    by_byte : (v : Bool) → (b == 10) ≡ v → ⊥
    by_byte true e = let k = sym (front_by b [] true false e (and_false (b == 13))) ∙ none in absurd cc
    by_byte false e = let k = sym (front_by b [] false false e (and_false (b == 13))) ∙ none in absurd cc
has_line b (c ∷ bs) none = by_bytes (lines_of (c ∷ bs)) (b == 10) (b == 13 && begins_with_lf (c ∷ bs)) (has_line c bs)
    (sym (front_by b (c ∷ bs) (b == 10) (b == 13 && begins_with_lf (c ∷ bs)) refl refl) ∙ none)
  where
    by_bytes : (ls : List (List ℕ)) (v w : Bool) → ls ≢ [] → cond v ([] ∷ ls) (cond w ls (on_first_line b ls)) ≡ [] → ⊥
    by_bytes ls true w some e = absurd cc
    by_bytes ls false true some e = some e
    by_bytes [] false false some e = some refl
    by_bytes (l ∷ ls) false false some e = absurd cc

-- the lines of whole lines and of what stands behind them
joined : (b : ℕ) (ls ms : List (List ℕ)) (v w : Bool) → ls ≢ []
    → cond v ([] ∷ (ls ++ ms)) (cond w (ls ++ ms) (on_first_line b (ls ++ ms))) ≡ cond v ([] ∷ ls) (cond w ls (on_first_line b ls)) ++ ms
joined b ls ms true w some = refl
joined b ls ms false true some = refl
joined b [] ms false false some = absurd (some refl)
joined b (l ∷ ls) ms false false some = refl

lines_behind : (xs ys : List ℕ) → EndsLine xs → lines_of (xs ++ ys) ≡ lines_of xs ++ lines_of ys
unfolding lines_of
lines_behind [] ys h = absurd h
lines_behind (b ∷ []) ys h =
    let e = eq-eqb b 10 h in
    front_by b ys true (b == 13 && begins_with_lf ys) e refl
    ∙ ap (λ ls. ls ++ lines_of ys) (sym (front_by b [] true (b == 13 && begins_with_lf []) e refl))
lines_behind (b ∷ c ∷ bs) ys h =
    let v : Bool = b == 10 in
    let w : Bool = b == 13 && begins_with_lf (c ∷ bs) in
    front_by b (c ∷ bs ++ ys) v w refl refl
    ∙ ap (λ ls. cond v ([] ∷ ls) (cond w ls (on_first_line b ls))) (lines_behind (c ∷ bs) ys h)
    ∙ joined b (lines_of (c ∷ bs)) (lines_of ys) v w (has_line c bs)
    ∙ ap (λ ls. ls ++ lines_of ys) (sym (front_by b (c ∷ bs) v w refl refl))

-- a line with its end
record HasChunk (text : List ℕ) : Type 0 where
  chunk : List ℕ
  text_is : text ≡ chunk ++ behind_line text
  ends : (behind_line text ≡ []) ⊎ EndsLine chunk

chunk_by : (b : ℕ) (bs : List ℕ) (v : Bool) → (b == 10) ≡ v → HasChunk bs
    → (chunk : List ℕ) × (b ∷ bs ≡ chunk ++ cond v bs (behind_line bs)) × ((cond v bs (behind_line bs) ≡ []) ⊎ EndsLine chunk)
chunk_by b bs true e h = (b ∷ [], refl, inr (eqb-true b 10 e))
chunk_by b bs false e h = (b ∷ h.chunk, ap (λ xs. let ys : List ℕ = b ∷ xs in ys) h.text_is, later h.ends)
  where
    later : ((behind_line bs ≡ []) ⊎ EndsLine h.chunk) → (behind_line bs ≡ []) ⊎ EndsLine (b ∷ h.chunk)
    later (inl none) = inl none
    later (inr ends) = inr (ends_more b h.chunk ends)

chunk_of : (text : List ℕ) → HasChunk text
chunk_of [] = record { chunk = []; text_is = refl; ends = inl refl }
chunk_of (b ∷ bs) =
    let h = chunk_by b bs (b == 10) refl (chunk_of bs) in
    record { chunk = h.0; text_is = h.1; ends = h.2 }

-- the first line with its end is a text of one line
chunk_line : (rest line : List ℕ) (h : HasChunk rest) → lines_of rest ≡ line ∷ lines_of (behind_line rest) → lines_of h.chunk ≡ line ∷ []
unfolding lines_of
chunk_line rest line h e = by_end h.ends
  where
    by_end : ((behind_line rest ≡ []) ⊎ EndsLine h.chunk) → lines_of h.chunk ≡ line ∷ []
    by_end (inl none) =
        let whole : rest ≡ h.chunk = h.text_is ∙ ap (λ xs. h.chunk ++ xs) none ∙ append-nil h.chunk in
        ap lines_of (sym whole) ∙ e ∙ ap (λ xs. let ls : List (List ℕ) = line ∷ lines_of xs in ls) none
    by_end (inr ends) =
        append_cancel_right (lines_of h.chunk) (line ∷ []) (lines_of (behind_line rest))
        (sym (lines_behind h.chunk (behind_line rest) ends) ∙ ap lines_of (sym h.text_is) ∙ e)

-- one line more
pub behind_more : (n : ℕ) (input : List ℕ) → behind_line (behind_lines n input) ≡ behind_lines (suc n) input
behind_more zero input = refl
behind_more (suc n) input = behind_more n (behind_line input)

-- behind so many lines of an input, of which none is the word, stands the rest
pub record HasPassed (word input rest : List ℕ) (n : ℕ) : Type 0 where
  before : List ℕ
  input_is : input ≡ before ++ rest
  lines_are : lines_of input ≡ lines_of before ++ lines_of rest
  ends : (rest ≡ []) ⊎ (before ≡ []) ⊎ EndsLine before
  number : n ≡ length (lines_of before)
  rest_is : rest ≡ behind_lines n input
  has_none : LacksLine word before

pub none_passed : (word input : List ℕ) → HasPassed word input input 0
unfolding lines_of
none_passed word input = record {
  before = [];
  input_is = refl;
  lines_are = refl;
  ends = inr (inl refl);
  number = refl;
  rest_is = refl;
  has_none = All-nil (λ line. line ≢ word);
}

module _ (word input rest line behind : List ℕ) (n : ℕ) (passed : HasPassed word input rest n)
    (lines : lines_of rest ≡ line ∷ lines_of behind) (after : behind ≡ behind_line rest) where
  pub one_passed : 0 < length rest → line ≢ word → HasPassed word input behind (n + 1)
  unfolding lines_of
  one_passed some other =
      let h = chunk_of rest in
      let text : rest ≡ h.chunk ++ behind = h.text_is ∙ ap (λ xs. h.chunk ++ xs) (sym after) in
      let one = chunk_line rest line h (lines ∙ ap (λ xs. let ls : List (List ℕ) = line ∷ lines_of xs in ls) after) in
      let more : lines_of (passed.before ++ h.chunk) ≡ lines_of passed.before ++ line ∷ [] = longer h passed.ends one in
      let count : n + 1 ≡ suc n = omega arith in
      record {
        before = passed.before ++ h.chunk;
        input_is = passed.input_is ∙ ap (λ xs. passed.before ++ xs) text ∙ sym (append_assoc passed.before h.chunk behind);
        lines_are = passed.lines_are ∙ ap (λ ls. lines_of passed.before ++ ls) lines ∙ sym (append_assoc (lines_of passed.before) (line ∷ []) (lines_of behind))
            ∙ ap (λ ls. ls ++ lines_of behind) (sym more);
        ends = ended h h.ends;
        number = ap (λ k. k + 1) passed.number ∙ sym (length-append (lines_of passed.before) (line ∷ [])) ∙ ap length (sym more);
        rest_is = after ∙ ap behind_line passed.rest_is ∙ behind_more n input ∙ ap (λ k. behind_lines k input) (sym count);
        has_none = subst (All (λ l. l ≢ word)) (sym more) (All-push (λ l. l ≢ word) (lines_of passed.before) line passed.has_none other);
      }
    where
      longer : (h : HasChunk rest) → ((rest ≡ []) ⊎ (passed.before ≡ []) ⊎ EndsLine passed.before) → lines_of h.chunk ≡ line ∷ []
          → lines_of (passed.before ++ h.chunk) ≡ lines_of passed.before ++ line ∷ []
      longer h (inl none) one = absurd (let k : length rest ≡ 0 = ap length none in omega arith)
      longer h (inr (inl none)) one = rw none one
      longer h (inr (inr ends)) one = lines_behind passed.before h.chunk ends ∙ ap (λ ls. lines_of passed.before ++ ls) one

      ended : (h : HasChunk rest) → ((behind_line rest ≡ []) ⊎ EndsLine h.chunk)
          → (behind ≡ []) ⊎ (passed.before ++ h.chunk ≡ []) ⊎ EndsLine (passed.before ++ h.chunk)
      ended h (inl none) = inl (after ∙ none)
      ended h (inr ends) = inr (inr (ends_later passed.before h.chunk ends))

  -- at the word
  pub parted_here : (before : List ℕ) → before ≡ take (length input - length rest) input → line ≡ word → IsParted word input before (n + 1) behind
  parted_here before cut is =
      let long : length input ≡ length passed.before + length rest = ap length passed.input_is ∙ length-append passed.before rest in
      let size : length input - length rest ≡ length passed.before = omega arith in
      let same : before ≡ passed.before =
      cut ∙ ap (λ k. take k input) size ∙ ap (take (length passed.before)) passed.input_is ∙ take-append_seam passed.before rest in
      let count : n + 1 ≡ suc n = omega arith in
      rw same (record {
        lines_are = passed.lines_are ∙ ap (λ ls. lines_of passed.before ++ ls) (lines ∙ ap (λ l. l ∷ lines_of behind) is);
        is_first = passed.has_none;
        number = ap (λ k. k + 1) passed.number;
        before_is = passed.input_is ∙ ap (λ xs. passed.before ++ xs) (passed.rest_is ∙ ap (λ k. behind_lines k input) passed.number);
        behind_is = after ∙ ap behind_line passed.rest_is ∙ behind_more n input ∙ ap (λ k. behind_lines k input) (sym count);
      })

pub empty_of : (xs : List ℕ) → length xs ≡ 0 → xs ≡ []
empty_of [] e = refl
empty_of (x ∷ xs) e = absurd (omega (arith, e))

-- at the end
pub none_parts : (word input rest : List ℕ) (n : ℕ) → HasPassed word input rest n → rest ≡ [] → IsUnparted word input n
unfolding lines_of
none_parts word input rest n h none =
    let whole : lines_of input ≡ lines_of h.before = h.lines_are ∙ ap (λ xs. lines_of h.before ++ lines_of xs) none ∙ append-nil (lines_of h.before) in
    record { has_none = subst (All (λ l. l ≢ word)) (sym whole) h.has_none; number = h.number ∙ ap length (sym whole) }

-- lines have one first line that is a word
has_word : (word : List ℕ) (ls ms : List (List ℕ)) → All (λ l. l ≢ word) (ls ++ word ∷ ms) → ⊥
has_word word [] ms h = All-head (λ l. l ≢ word) word ms h refl
has_word word (l ∷ ls) ms h = has_word word ls ms (All-tail (λ k. k ≢ word) l (ls ++ word ∷ ms) h)

one_first : (word : List ℕ) (ks ls ms ns : List (List ℕ)) → ks ++ word ∷ ms ≡ ls ++ word ∷ ns → All (λ l. l ≢ word) ks → All (λ l. l ≢ word) ls → ks ≡ ls
one_first word [] [] ms ns e h k = refl
one_first word [] (b ∷ ls) ms ns e h k = absurd (All-head (λ l. l ≢ word) b ls k (let same : word ≡ b = cc in sym same))
one_first word (a ∷ ks) [] ms ns e h k = absurd (All-head (λ l. l ≢ word) a ks h (let same : a ≡ word = cc in same))
one_first word (a ∷ ks) (b ∷ ls) ms ns e h k =
    let first : a ≡ b = cc in
    let later : ks ++ word ∷ ms ≡ ls ++ word ∷ ns = cc in
    ap (λ l. let all : List (List ℕ) = l ∷ ks in all) first ∙ ap (λ more. let all : List (List ℕ) = b ∷ more in all)
    (one_first word ks ls ms ns later (All-tail (λ l. l ≢ word) a ks h) (All-tail (λ l. l ≢ word) b ls k))

module _ (word input before : List ℕ) (m : ℕ) (behind : List ℕ) (h : IsParted word input before m behind) where
  -- an input is parted in one way
  pub one_parting : (other : List ℕ) (n : ℕ) (later : List ℕ) → IsParted word input other n later → (before ≡ other) × (m ≡ n) × (behind ≡ later)
  one_parting other n later k =
      let lines = one_first word (lines_of before) (lines_of other) (lines_of behind) (lines_of later) (sym h.lines_are ∙ k.lines_are) h.is_first k.is_first in
      let count : m ≡ n = h.number ∙ ap (λ ls. length ls + 1) lines ∙ sym k.number in (
        append_cancel_right before other (behind_lines (length (lines_of before)) input)
            (sym h.before_is ∙ k.before_is ∙ ap (λ ls. other ++ behind_lines (length ls) input) (sym lines)),
        count,
        h.behind_is ∙ ap (λ i. behind_lines i input) count ∙ sym k.behind_is,
      )

  -- or it isn't parted
  pub parted_not_unparted : (n : ℕ) → IsUnparted word input n → ⊥
  parted_not_unparted n none = has_word word (lines_of before) (lines_of behind) (subst (All (λ l. l ≢ word)) h.lines_are none.has_none)

-- the first line of an input that has one
first_of : (rest : List ℕ) → 0 < length rest → (line : List ℕ) × (lines_of rest ≡ line ∷ lines_of (behind_line rest))
first_of rest some = by_rest (drop (prefix_len is_inner rest) rest) refl
  where
    with_end : (line after : List ℕ) → after ≡ behind_line rest → lines_of rest ≡ line ∷ lines_of after → (l : List ℕ) × (lines_of rest ≡ l ∷ lines_of (behind_line rest))
    with_end line after e f = (line, f ∙ ap (λ xs. let ls : List (List ℕ) = line ∷ lines_of xs in ls) e)

    by_rest : (after : List ℕ) → drop (prefix_len is_inner rest) rest ≡ after → (l : List ℕ) × (lines_of rest ≡ l ∷ lines_of (behind_line rest))
    by_rest [] e =
        with_end (take (prefix_len is_inner rest) rest) [] (none_behind rest [] (prefix_len is_inner rest) refl (sym e) (omega arith))
        (source_ends rest (take (prefix_len is_inner rest) rest) [] (prefix_len is_inner rest) refl refl (sym e) some (omega arith))
    by_rest (c ∷ cs) e =
        with_end (without_cr (take (prefix_len is_inner rest) rest)) cs (stands_behind rest (c ∷ cs) (prefix_len is_inner rest) refl (sym e))
        (line_ends rest (take (prefix_len is_inner rest) rest) (c ∷ cs) (prefix_len is_inner rest) refl refl (sym e) (omega arith))

no_longer : (bs : List ℕ) → length (behind_line bs) ≤ length bs
no_longer [] = omega arith
no_longer (b ∷ bs) = by_byte (b == 10) (no_longer bs)
  where
    by_byte : (v : Bool) → length (behind_line bs) ≤ length bs → length (cond v bs (behind_line bs)) ≤ length (b ∷ bs)
    by_byte true ih = omega arith
    by_byte false ih = omega (arith, ih)

shorter : (b : ℕ) (bs : List ℕ) → length (behind_line (b ∷ bs)) ≤ length bs
shorter b bs = by_byte (b == 10) (no_longer bs)
  where
    by_byte : (v : Bool) → length (behind_line bs) ≤ length bs → length (cond v bs (behind_line bs)) ≤ length bs
    by_byte true ih = omega arith
    by_byte false ih = ih

-- each input is parted at a word, or not
pub record Parting (word input : List ℕ) : Type 0 where
  pub before : List ℕ
  pub lines : ℕ
  pub behind : List ℕ
  pub is_parted : IsParted word input before lines behind

pub parted_told : (word input : List ℕ) → Parting word input ⊎ ((n : ℕ) × IsUnparted word input n)
parted_told word input = read_on (length input) input 0 (omega arith) (none_passed word input)
  where
    read_on : (most : ℕ) (rest : List ℕ) (n : ℕ) → length rest ≤ most → HasPassed word input rest n → Parting word input ⊎ ((m : ℕ) × IsUnparted word input m)
    read_on most [] n few h = inr (n, none_parts word input [] n h refl)
    read_on zero (b ∷ bs) n few h = absurd (omega arith)
    read_on (suc most) (b ∷ bs) n few h =
        let first = first_of (b ∷ bs) (omega arith) in
        let less = shorter b bs in
        elim (same_text first.0 word) [
          | inl is ↦ inl (record {
            before = take (length input - length (b ∷ bs)) input;
            lines = n + 1;
            behind = behind_line (b ∷ bs);
            is_parted = parted_here word input (b ∷ bs) first.0 (behind_line (b ∷ bs)) n h first.1 refl _ refl is;
          })
          | inr other ↦ read_on most (behind_line (b ∷ bs)) (n + 1) (omega (arith, less))
              (one_passed word input (b ∷ bs) first.0 (behind_line (b ∷ bs)) n h first.1 refl (omega arith) other)
        ]
