-- The first line of a source, found by its LF.
use Rattle.std.proofs.Common.{◌≡◌, ◌≢◌, ℕ, suc, ◌<◌, ◌≤◌, Bool, true, false, cond, not, ◌&&◌, ◌==◌, List, [], ◌∷◌, ◌++◌, length, take, drop, refl, sym, ap, ◌∙◌, arith, eqb-true, ne_eqb, slice_get, Option, None}
use Rattle.std.specs.List.{prefix_len}
use Rattle.m88_base.specs.Lines.{IsOneLine, lines_of, begins_with_lf, behind_line, on_first_line}
use Rattle.m88_base.specs.Inside.LineEnd.{without_cr}
use Rattle.m88_base.proofs.Splitting.{len_to, len_to_is}

abbrev pub is_inner : ℕ → Bool
is_inner b = not (b == 10)

-- an empty text has no line
pub no_lines : lines_of [] ≡ []
unfolding lines_of
no_lines = refl

-- where nothing is left, no line has a number
pub none_numbered : (rest : List ℕ) (k : ℕ) (line : Option (List ℕ)) → true ≡ (length rest == 0) → slice_get (lines_of rest) k ≡ line → line ≡ None
unfolding lines_of
none_numbered [] k line empty is = sym is
none_numbered (b ∷ bs) k line empty is = let e : length (b ∷ bs) ≡ 0 = eqb-true (length (b ∷ bs)) 0 (sym empty) in absurd (omega (arith, e))

-- a byte before a line end or before another byte
pub front_by : (b : ℕ) (bs : List ℕ) (v w : Bool) → (b == 10) ≡ v → (b == 13 && begins_with_lf bs) ≡ w
    → lines_of (b ∷ bs) ≡ cond v ([] ∷ lines_of bs) (cond w (lines_of bs) (on_first_line b (lines_of bs)))
unfolding lines_of
front_by b bs v w e f = ap (λ (x : Bool). cond x ([] ∷ lines_of bs) (cond (b == 13 && begins_with_lf bs) (lines_of bs) (on_first_line b (lines_of bs)))) e
    ∙ ap (λ (x : Bool). cond v ([] ∷ lines_of bs) (cond x (lines_of bs) (on_first_line b (lines_of bs)))) f

-- one line with its line end, before a text
pub first_line : (line rest : List ℕ) → IsOneLine line → lines_of (line ++ 10 ∷ rest) ≡ line ∷ lines_of rest
first_line [] rest h = front_by 10 rest true (10 == 13 && begins_with_lf rest) refl refl
first_line (b ∷ bs) rest h =
    front_by b (bs ++ 10 ∷ rest) false false (ne_eqb b 10 h.0) (by (b == 13) refl bs h.1 h.2)
    ∙ ap (on_first_line b) (first_line bs rest h.2)
  where
    by : (t : Bool) → (b == 13) ≡ t → (cs : List ℕ) → (b ≡ 13 → cs ≢ []) → IsOneLine cs
        → (t && begins_with_lf (cs ++ 10 ∷ rest)) ≡ false
    by false e cs h k = refl
    by true e [] h k = absurd (h (eqb-true b 13 e) refl)
    by true e (c ∷ cs) h k = ne_eqb c 10 k.0

pub and_true : (x : Bool) → (x && true) ≡ x
and_true true = refl
and_true false = refl

pub and_false : (x : Bool) → (x && false) ≡ false
and_false true = refl
and_false false = refl

alone : (b : ℕ) (lines : List (List ℕ)) (x : Bool) → cond x ([] ∷ lines) (on_first_line b ([] ∷ lines)) ≡ cond x [] (b ∷ []) ∷ lines
alone b lines true = refl
alone b lines false = refl

next : (b d : ℕ) (ds after : List ℕ) (u : Bool) → (d == 10) ≡ u → (b == 10) ≡ false
    → lines_of (d ∷ ds) ≡ without_cr (take (cond (not u) (suc (len_to 10 ds)) 0) (d ∷ ds)) ∷ lines_of after
    → lines_of (b ∷ d ∷ ds) ≡ without_cr (b ∷ take (cond (not u) (suc (len_to 10 ds)) 0) (d ∷ ds)) ∷ lines_of after
next b d ds after true f e ih =
    front_by b (d ∷ ds) false (b == 13) e (ap (λ (y : Bool). b == 13 && y) f ∙ and_true (b == 13))
    ∙ ap (λ (ls : List (List ℕ)). cond (b == 13) ls (on_first_line b ls)) ih
    ∙ alone b (lines_of after) (b == 13)
next b d ds after false f e ih =
    front_by b (d ∷ ds) false false e (ap (λ (y : Bool). b == 13 && y) f ∙ and_false (b == 13)) ∙ ap (on_first_line b) ih

lf_step : (b : ℕ) (bs : List ℕ) (c : ℕ) (after : List ℕ) (v : Bool) → (b == 10) ≡ v
    → (drop (len_to 10 bs) bs ≡ c ∷ after → lines_of bs ≡ without_cr (take (len_to 10 bs) bs) ∷ lines_of after)
    → drop (cond (not v) (suc (len_to 10 bs)) 0) (b ∷ bs) ≡ c ∷ after
    → lines_of (b ∷ bs) ≡ without_cr (take (cond (not v) (suc (len_to 10 bs)) 0) (b ∷ bs)) ∷ lines_of after
lf_step b bs c after true e ih h =
    let k : bs ≡ after = cc in
    front_by b bs true (b == 13 && begins_with_lf bs) e refl ∙ ap (λ (xs : List ℕ). let ls : List (List ℕ) = [] ∷ lines_of xs in ls) k
lf_step b [] c after false e ih h = absurd cc
lf_step b (d ∷ ds) c after false e ih h = next b d ds after (d == 10) refl e (ih h)

by_lf : (bs : List ℕ) (c : ℕ) (after : List ℕ) → drop (len_to 10 bs) bs ≡ c ∷ after → lines_of bs ≡ without_cr (take (len_to 10 bs) bs) ∷ lines_of after
by_lf [] c after h = absurd cc
by_lf (b ∷ bs) c after h = lf_step b bs c after (b == 10) refl (by_lf bs c after) h

is_other : (d : ℕ) (ds : List ℕ) (u : Bool) → drop (cond (not u) (suc (len_to 10 ds)) 0) (d ∷ ds) ≡ [] → u ≡ false
is_other d ds true h = absurd cc
is_other d ds false h = refl

end_step : (b : ℕ) (bs : List ℕ) (v : Bool) → (b == 10) ≡ v
    → (0 < length bs → drop (len_to 10 bs) bs ≡ [] → lines_of bs ≡ take (len_to 10 bs) bs ∷ [])
    → drop (cond (not v) (suc (len_to 10 bs)) 0) (b ∷ bs) ≡ []
    → lines_of (b ∷ bs) ≡ take (cond (not v) (suc (len_to 10 bs)) 0) (b ∷ bs) ∷ []
unfolding lines_of
end_step b bs true e ih h = absurd cc
end_step b [] false e ih h = front_by b [] false false e (and_false (b == 13))
end_step b (d ∷ ds) false e ih h =
    let other : (d == 10) ≡ false = is_other d ds (d == 10) h in
    front_by b (d ∷ ds) false false e (ap (λ (y : Bool). b == 13 && y) other ∙ and_false (b == 13)) ∙ ap (on_first_line b) (ih (omega arith) h)

by_end : (bs : List ℕ) → 0 < length bs → drop (len_to 10 bs) bs ≡ [] → lines_of bs ≡ take (len_to 10 bs) bs ∷ []
by_end [] some h = absurd (omega arith)
by_end (b ∷ bs) some h = end_step b bs (b == 10) refl (by_end bs) h

-- a line with a line end, and the last one without
pub ends_line : (bs : List ℕ) (c : ℕ) (after : List ℕ) → drop (prefix_len is_inner bs) bs ≡ c ∷ after
    → lines_of bs ≡ without_cr (take (prefix_len is_inner bs) bs) ∷ lines_of after
ends_line bs c after h =
    let e = len_to_is 10 bs in
    by_lf bs c after (ap (λ (n : ℕ). drop n bs) (sym e) ∙ h) ∙ ap (λ (n : ℕ). let ls : List (List ℕ) = without_cr (take n bs) ∷ lines_of after in ls) (sym e)

pub ends_source : (bs : List ℕ) → 0 < length bs → drop (prefix_len is_inner bs) bs ≡ [] → lines_of bs ≡ take (prefix_len is_inner bs) bs ∷ lines_of []
unfolding lines_of
ends_source bs some h =
    let e = len_to_is 10 bs in
    by_end bs some (ap (λ (n : ℕ). drop n bs) (sym e) ∙ h) ∙ ap (λ (n : ℕ). let ls : List (List ℕ) = take n bs ∷ [] in ls) (sym e)

pushed : (b : ℕ) (x y : List ℕ) (v : Bool) → (b ∷ cond v x y) ≡ cond v (b ∷ x) (b ∷ y)
pushed b x y true = refl
pushed b x y false = refl

-- a line by its last byte
pub last_cr : (front : List ℕ) (b : ℕ) → without_cr (front ++ b ∷ []) ≡ cond (b == 13) front (front ++ b ∷ [])
last_cr [] b = refl
last_cr (a ∷ []) b = pushed a [] (b ∷ []) (b == 13)
last_cr (a ∷ c ∷ front) b = ap (λ (xs : List ℕ). let ys : List ℕ = a ∷ xs in ys) (last_cr (c ∷ front) b) ∙ pushed a (c ∷ front) ((c ∷ front) ++ b ∷ []) (b == 13)

-- a line with a line end, by its last byte
pub ends_last : (bs front : List ℕ) (b c : ℕ) (after : List ℕ) → drop (prefix_len is_inner bs) bs ≡ c ∷ after
    → take (prefix_len is_inner bs) bs ≡ front ++ b ∷ []
    → lines_of bs ≡ cond (b == 13) front (front ++ b ∷ []) ∷ lines_of after
ends_last bs front b c after h e =
    ends_line bs c after h
    ∙ ap (λ (xs : List ℕ). let ls : List (List ℕ) = without_cr xs ∷ lines_of after in ls) e
    ∙ ap (λ (xs : List ℕ). let ls : List (List ℕ) = xs ∷ lines_of after in ls) (last_cr front b)

pub line_ends : (rest line after : List ℕ) (n : ℕ) → n ≡ prefix_len is_inner rest → line ≡ take n rest → after ≡ drop n rest → 1 ≤ length after
    → lines_of rest ≡ without_cr line ∷ lines_of (drop 1 after)
line_ends rest line [] n e f g h = absurd (omega arith)
line_ends rest line (c ∷ cs) n e f g h =
    ends_line rest c cs (ap (λ (k : ℕ). drop k rest) (sym e) ∙ sym g)
    ∙ ap (λ (xs : List ℕ). let ls : List (List ℕ) = without_cr xs ∷ lines_of cs in ls) (ap (λ (k : ℕ). take k rest) (sym e) ∙ sym f)

pub source_ends : (rest line after : List ℕ) (n : ℕ) → n ≡ prefix_len is_inner rest → line ≡ take n rest → after ≡ drop n rest → 0 < length rest → length after < 1
    → lines_of rest ≡ line ∷ lines_of after
source_ends rest line (c ∷ cs) n e f g some h = absurd (omega arith)
source_ends rest line [] n e f g some h =
    ends_source rest some (ap (λ (k : ℕ). drop k rest) (sym e) ∙ sym g)
    ∙ ap (λ (xs : List ℕ). let ls : List (List ℕ) = xs ∷ lines_of [] in ls) (ap (λ (k : ℕ). take k rest) (sym e) ∙ sym f)

-- what stands behind the first line

behind_by : (b : ℕ) (bs : List ℕ) (v : Bool) → behind_line bs ≡ drop 1 (drop (len_to 10 bs) bs) → cond v bs (behind_line bs) ≡ drop 1 (drop (cond (not v) (suc (len_to 10 bs)) 0) (b ∷ bs))
behind_by b bs true ih = refl
behind_by b bs false ih = ih

behind_at : (bs : List ℕ) → behind_line bs ≡ drop 1 (drop (len_to 10 bs) bs)
behind_at [] = refl
behind_at (b ∷ bs) = behind_by b bs (b == 10) (behind_at bs)

pub stands_behind : (rest after : List ℕ) (n : ℕ) → n ≡ prefix_len is_inner rest → after ≡ drop n rest → drop 1 after ≡ behind_line rest
stands_behind rest after n e g = ap (drop 1) (g ∙ ap (λ (k : ℕ). drop k rest) (e ∙ len_to_is 10 rest)) ∙ sym (behind_at rest)

pub none_behind : (rest after : List ℕ) (n : ℕ) → n ≡ prefix_len is_inner rest → after ≡ drop n rest → length after < 1 → after ≡ behind_line rest
none_behind rest [] n e g h = stands_behind rest [] n e g
none_behind rest (c ∷ cs) n e g h = absurd (omega arith)
