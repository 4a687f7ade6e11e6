-- The lines of a front that ends where a line does.
use Rattle.std.proofs.Common.{◌≡◌, ℕ, ◌+◌, ◌-◌, ◌<◌, Bool, true, false, cond, ◌&&◌, ◌==◌, List, [], ◌∷◌, ◌++◌, length, take, append_assoc, length-append, inl, inr, refl, sym, ap, ◌∙◌, arith, eq-eqb}
use Rattle.std.specs.Prelude.{◌⊎◌, ◌≢◌}
use Rattle.std.proofs.lemmas.Bool.{eqb-true}
use Rattle.std.proofs.lemmas.List.{append-nil, append_cancel_right}
use Rattle.std.proofs.Math.Seq.{take-append_seam}
use Rattle.m88_base.specs.Lines.{begins_with_lf, behind_line, lines_of, on_first_line}
use Rattle.m88_base.proofs.Laws.{front_by}
use Rattle.m88_isa.proofs.Laws.{no_second}

-- the text's last byte ends a line
abbrev pub EndsLine : List ℕ → Type 0
EndsLine [] = ⊥
EndsLine (b ∷ []) = b ≡ 10
EndsLine (b ∷ c ∷ bs) = EndsLine (c ∷ bs)

ends_more : (b : ℕ) (bs : List ℕ) → EndsLine bs → EndsLine (b ∷ bs)
ends_more b [] h = absurd h
ends_more b (c ∷ bs) h = h

ends_later : (xs ys : List ℕ) → EndsLine ys → EndsLine (xs ++ ys)
ends_later [] ys h = h
ends_later (x ∷ xs) ys h = ends_more x (xs ++ ys) (ends_later xs ys h)

-- a byte and more are one line at least
has_line : (b : ℕ) (bs : List ℕ) → lines_of (b ∷ bs) ≢ []
unfolding lines_of
has_line b [] none = by_byte (b == 10) refl
  where
    by_byte : (v : Bool) → (b == 10) ≡ v → ⊥
    by_byte true e = let k = sym (front_by b [] true false e (no_second (b == 13))) ∙ none in absurd cc
    by_byte false e = let k = sym (front_by b [] false false e (no_second (b == 13))) ∙ none in absurd cc
has_line b (c ∷ bs) none = by_bytes (lines_of (c ∷ bs)) (b == 10) (b == 13 && begins_with_lf (c ∷ bs)) (has_line c bs)
    (sym (front_by b (c ∷ bs) (b == 10) (b == 13 && begins_with_lf (c ∷ bs)) refl refl) ∙ none)
  where
    by_bytes : (ls : List (List ℕ)) (v w : Bool) → ls ≢ [] → cond v ([] ∷ ls) (cond w ls (on_first_line b ls)) ≡ [] → ⊥
    by_bytes ls true w some e = absurd cc
    by_bytes ls false true some e = some e
    by_bytes [] false false some e = some refl
    by_bytes (l ∷ ls) false false some e = absurd cc

-- the lines of whole lines and of what stands behind them
joined : (b : ℕ) (ls ms : List (List ℕ)) (v w : Bool) → ls ≢ []
    → cond v ([] ∷ (ls ++ ms)) (cond w (ls ++ ms) (on_first_line b (ls ++ ms))) ≡ cond v ([] ∷ ls) (cond w ls (on_first_line b ls)) ++ ms
joined b ls ms true w some = refl
joined b ls ms false true some = refl
joined b [] ms false false some = absurd (some refl)
joined b (l ∷ ls) ms false false some = refl

lines_behind : (xs ys : List ℕ) → EndsLine xs → lines_of (xs ++ ys) ≡ lines_of xs ++ lines_of ys
unfolding lines_of
lines_behind [] ys h = absurd h
lines_behind (b ∷ []) ys h =
    let e = eq-eqb b 10 h in
    front_by b ys true (b == 13 && begins_with_lf ys) e refl
    ∙ ap (λ ls. ls ++ lines_of ys) (sym (front_by b [] true (b == 13 && begins_with_lf []) e refl))
lines_behind (b ∷ c ∷ bs) ys h =
    let v : Bool = b == 10 in
    let w : Bool = b == 13 && begins_with_lf (c ∷ bs) in
    front_by b (c ∷ bs ++ ys) v w refl refl
    ∙ ap (λ ls. cond v ([] ∷ ls) (cond w ls (on_first_line b ls))) (lines_behind (c ∷ bs) ys h)
    ∙ joined b (lines_of (c ∷ bs)) (lines_of ys) v w (has_line c bs)
    ∙ ap (λ ls. ls ++ lines_of ys) (sym (front_by b (c ∷ bs) v w refl refl))

-- a line with its end
record HasChunk (text : List ℕ) : Type 0 where
  chunk : List ℕ
  text_is : text ≡ chunk ++ behind_line text
  ends : (behind_line text ≡ []) ⊎ EndsLine chunk

chunk_by : (b : ℕ) (bs : List ℕ) (v : Bool) → (b == 10) ≡ v → HasChunk bs
    → (chunk : List ℕ) × (b ∷ bs ≡ chunk ++ cond v bs (behind_line bs)) × ((cond v bs (behind_line bs) ≡ []) ⊎ EndsLine chunk)
chunk_by b bs true e h = (b ∷ [], refl, inr (eqb-true b 10 e))
chunk_by b bs false e h = (b ∷ h.chunk, ap (λ xs. let ys : List ℕ = b ∷ xs in ys) h.text_is, later h.ends)
  where
    later : ((behind_line bs ≡ []) ⊎ EndsLine h.chunk) → (behind_line bs ≡ []) ⊎ EndsLine (b ∷ h.chunk)
    later (inl none) = inl none
    later (inr ends) = inr (ends_more b h.chunk ends)

chunk_of : (text : List ℕ) → HasChunk text
chunk_of [] = record { chunk = []; text_is = refl; ends = inl refl }
chunk_of (b ∷ bs) =
    let h = chunk_by b bs (b == 10) refl (chunk_of bs) in
    record { chunk = h.0; text_is = h.1; ends = h.2 }

-- the first line with its end is a text of one line
chunk_line : (rest line : List ℕ) (h : HasChunk rest) → lines_of rest ≡ line ∷ lines_of (behind_line rest) → lines_of h.chunk ≡ line ∷ []
unfolding lines_of
chunk_line rest line h e = by_end h.ends
  where
    by_end : ((behind_line rest ≡ []) ⊎ EndsLine h.chunk) → lines_of h.chunk ≡ line ∷ []
    by_end (inl none) =
        let whole : rest ≡ h.chunk = h.text_is ∙ ap (λ xs. h.chunk ++ xs) none ∙ append-nil h.chunk in
        ap lines_of (sym whole) ∙ e ∙ ap (λ xs. let ls : List (List ℕ) = line ∷ lines_of xs in ls) none
    by_end (inr ends) =
        append_cancel_right (lines_of h.chunk) (line ∷ []) (lines_of (behind_line rest))
        (sym (lines_behind h.chunk (behind_line rest) ends) ∙ ap lines_of (sym h.text_is) ∙ e)

-- a front of the input that ends where a line does, and the rest
pub record HasFront (input rest : List ℕ) (n : ℕ) : Type 0 where
  pub before : List ℕ
  pub input_is : input ≡ before ++ rest
  pub lines_are : lines_of input ≡ lines_of before ++ lines_of rest
  pub ends : (rest ≡ []) ⊎ (before ≡ []) ⊎ EndsLine before
  pub number : n ≡ length (lines_of before)

pub no_front : (input : List ℕ) → HasFront input input 0
unfolding lines_of
no_front input = record { before = []; input_is = refl; lines_are = refl; ends = inr (inl refl); number = refl }

pub nothing_before : (input : List ℕ) → (no_front input).before ≡ []
unfolding no_front
nothing_before input = refl

module _ (input rest line behind : List ℕ) (n : ℕ) (passed : HasFront input rest n)
    (lines : lines_of rest ≡ line ∷ lines_of behind) (after : behind ≡ behind_line rest) where
  -- with one line more
  longer : (h : HasChunk rest) → 0 < length rest → ((rest ≡ []) ⊎ (passed.before ≡ []) ⊎ EndsLine passed.before) → lines_of h.chunk ≡ line ∷ []
      → lines_of (passed.before ++ h.chunk) ≡ lines_of passed.before ++ line ∷ []
  unfolding lines_of
  longer h some (inl none) one = absurd (let k : length rest ≡ 0 = ap length none in omega (arith, some, k))
  longer h some (inr (inl none)) one = rw none one
  longer h some (inr (inr ends)) one = lines_behind passed.before h.chunk ends ∙ ap (λ ls. lines_of passed.before ++ ls) one

  ended : (h : HasChunk rest) → ((behind_line rest ≡ []) ⊎ EndsLine h.chunk)
      → (behind ≡ []) ⊎ (passed.before ++ h.chunk ≡ []) ⊎ EndsLine (passed.before ++ h.chunk)
  ended h (inl none) = inl (after ∙ none)
  ended h (inr ends) = inr (inr (ends_later passed.before h.chunk ends))

  the_line : lines_of rest ≡ line ∷ lines_of (behind_line rest)
  the_line = lines ∙ ap (λ xs. let ls : List (List ℕ) = line ∷ lines_of xs in ls) after

  pub longer_front : 0 < length rest → HasFront input behind (n + 1)
  longer_front some =
      let h = chunk_of rest in
      let text : rest ≡ h.chunk ++ behind = h.text_is ∙ ap (λ xs. h.chunk ++ xs) (sym after) in
      let one = chunk_line rest line h the_line in
      let more : lines_of (passed.before ++ h.chunk) ≡ lines_of passed.before ++ line ∷ [] = longer h some passed.ends one in
      record {
        before = passed.before ++ h.chunk;
        input_is = passed.input_is ∙ ap (λ xs. passed.before ++ xs) text ∙ sym (append_assoc passed.before h.chunk behind);
        lines_are = passed.lines_are ∙ ap (λ ls. lines_of passed.before ++ ls) lines ∙ sym (append_assoc (lines_of passed.before) (line ∷ []) (lines_of behind))
            ∙ ap (λ ls. ls ++ lines_of behind) (sym more);
        ends = ended h h.ends;
        number = ap (λ k. k + 1) passed.number ∙ sym (length-append (lines_of passed.before) (line ∷ [])) ∙ ap length (sym more);
      }

  pub longer_lines : (some : 0 < length rest) → lines_of (longer_front some).before ≡ lines_of passed.before ++ line ∷ []
  unfolding longer_front
  longer_lines some = let h = chunk_of rest in longer h some passed.ends (chunk_line rest line h the_line)

-- the front of an input before what is left
pub front_is : (input rest : List ℕ) (n : ℕ) (passed : HasFront input rest n)
    → take (length input - length rest) input ≡ passed.before
front_is input rest n passed =
    let long : length input ≡ length passed.before + length rest = ap length passed.input_is ∙ length-append passed.before rest in
    let size : length input - length rest ≡ length passed.before = omega (arith, long) in
    ap (λ k. take k input) size ∙ ap (take (length passed.before)) passed.input_is ∙ take-append_seam passed.before rest

-- the whole of an input of which nothing is left
pub whole_is : (input rest : List ℕ) (n : ℕ) (passed : HasFront input rest n) → rest ≡ [] → lines_of input ≡ lines_of passed.before
unfolding lines_of
whole_is input rest n passed none =
    passed.lines_are ∙ ap (λ xs. lines_of passed.before ++ lines_of xs) none ∙ append-nil (lines_of passed.before)
