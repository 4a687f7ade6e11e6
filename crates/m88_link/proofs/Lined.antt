-- The lines of a text, each with its LF.
use Rattle.std.proofs.Common.{◌≡◌, ℕ, ◌<◌, Bool, true, false, List, [], ◌∷◌, ◌++◌, length, refl, sym, ap, ◌∙◌, arith}
use Rattle.std.specs.Prelude.{◌==◌, flat_map, if◌then◌else◌}
use Rattle.std.proofs.lemmas.Bool.Decides.{nat_tests}
use Rattle.std.proofs.lemmas.Bool.{and_parts}
use Rattle.m88_base.proofs.Laws.{is_other, other_false}
use Rattle.m88_base.specs.Cut.{lacks}
use Rattle.m88_base.specs.Lines.{line_end, on_first_line}
use Rattle.m88_link.specs.ObjectRead.{ended_lines}

-- the first line ends with the first LF
lines_step : (b : ℕ) (bs : List ℕ) → (b == 10) ≡ false → ended_lines (b ∷ bs) ≡ on_first_line b (ended_lines bs)
unfolding ended_lines
lines_step b bs e = ap (λ (v : Bool). if v then line_end ∷ ended_lines bs else on_first_line b (ended_lines bs)) e

lines_end : (bs : List ℕ) → ended_lines (10 ∷ bs) ≡ line_end ∷ ended_lines bs
unfolding ended_lines
lines_end bs = refl

pub lines_at : (line rest : List ℕ) → lacks 10 line ≡ true → ended_lines (line ++ 10 ∷ rest) ≡ (line ++ 10 ∷ []) ∷ ended_lines rest
lines_at [] rest h = lines_end rest
lines_at (b ∷ bs) rest h =
    let k = and_parts (is_other 10 b) (lacks 10 bs) h in
    lines_step b (bs ++ 10 ∷ rest) (other_false 10 b k.0) ∙ ap (on_first_line b) (lines_at bs rest k.1)

pub lines_none : ended_lines [] ≡ []
unfolding ended_lines
lines_none = refl

-- a text without LF is one line
pub one_line : (text : List ℕ) → 0 < length text → lacks 10 text ≡ true → ended_lines text ≡ text ∷ []
one_line [] some h = absurd (omega arith)
one_line (b ∷ []) some h =
    let k = and_parts (is_other 10 b) true h in
    lines_step b [] (other_false 10 b k.0) ∙ ap (on_first_line b) lines_none
one_line (b ∷ c ∷ cs) some h =
    let k = and_parts (is_other 10 b) (lacks 10 (c ∷ cs)) h in
    lines_step b (c ∷ cs) (other_false 10 b k.0) ∙ ap (on_first_line b) (one_line (c ∷ cs) (omega arith) k.1)

-- the lines one after the other are the text
joined_first : (b : ℕ) (lines : List (List ℕ)) → flat_map (λ l. l) (on_first_line b lines) ≡ b ∷ flat_map (λ l. l) lines
joined_first b [] = refl
joined_first b (line ∷ lines) = refl

joined_step : (b : ℕ) (bs : List ℕ) (v : Bool) → (b == 10) ≡ v → flat_map (λ l. l) (ended_lines bs) ≡ bs
    → flat_map (λ l. l) (if v then line_end ∷ ended_lines bs else on_first_line b (ended_lines bs)) ≡ b ∷ bs
joined_step b bs true e ih =
    let is : b ≡ 10 = grind (arith, nat_tests) in
    ap (λ l. 10 ∷ l) ih ∙ ap (λ (y : ℕ). let l : List ℕ = y ∷ bs in l) (sym is)
joined_step b bs false e ih = joined_first b (ended_lines bs) ∙ ap (λ l. b ∷ l) ih

pub joined_lines : (text : List ℕ) → flat_map (λ l. l) (ended_lines text) ≡ text
unfolding ended_lines
joined_lines [] = refl
joined_lines (b ∷ bs) = joined_step b bs (b == 10) refl (joined_lines bs)
