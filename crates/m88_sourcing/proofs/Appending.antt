-- Lines appended one by one are the lines of all.
use Rattle.std.proofs.Common.{◌≡◌, ℕ, ◌+◌, ◌≤◌, List, [], ◌∷◌, ◌++◌, length, drop, refl, sym, ap, subst, ◌∙◌, append_assoc, append-nil, arith}
use Rattle.std.proofs.lemmas.List.{drop-drop, drop_all}
use Rattle.std.proofs.lemmas.List.Concat.{flat_map-append}
use Rattle.m88_base.proofs.Laws.{retold}
use Rattle.m88_base.specs.Appended.{AreAppended}
use Rattle.m88_base.specs.Lines.{line_end, text_of_lines}
use Rattle.m88_sourcing.specs.Inside.Appended.{FrontAppended}
use Rattle.m88_sourcing.specs.Source.{LineWhere}
use Rattle.m88_sourcing.specs.Source.LineWhere.{so, not_so}

-- lines before others
pub lines_before : (old new : List ℕ) (own lines : List (List ℕ)) → new ≡ old ++ text_of_lines own
    → new ++ text_of_lines lines ≡ old ++ text_of_lines (own ++ lines)
lines_before old new own lines e =
    ap (λ (xs : List ℕ). xs ++ text_of_lines lines) e ∙ append_assoc old (text_of_lines own) (text_of_lines lines)
    ∙ ap (λ (xs : List ℕ). old ++ xs) (sym (flat_map-append (λ line. line ++ line_end) own lines))

-- a front behind a front
pub front_then : (A B C : List (List ℕ) → Type 0) (t0 t1 t2 : List ℕ) → FrontAppended A B t0 t1 → FrontAppended B C t1 t2
    → FrontAppended A C t0 t2
front_then A B C t0 t1 t2 first second =
    λ others are.
    let next : AreAppended B t1 (t2 ++ text_of_lines others) = second others are in
    retold A t0 (t1 ++ text_of_lines next.lines) (t2 ++ text_of_lines others) next.text_is (first next.lines next.are)

-- all lines behind a front
pub front_lines : (A B : List (List ℕ) → Type 0) (t0 t1 t2 : List ℕ) → FrontAppended A B t0 t1 → AreAppended B t1 t2
    → AreAppended A t0 t2
front_lines A B t0 t1 t2 first l =
    retold A t0 (t1 ++ text_of_lines l.lines) t2 l.text_is (first l.lines l.are)

-- a front with nothing behind it
pub front_all : (A B : List (List ℕ) → Type 0) (old new : List ℕ) → FrontAppended A B old new → B []
    → AreAppended A old new
front_all A B old new front none = retold A old (new ++ []) new (sym (append-nil new)) (front [] none)

-- nothing in front
pub no_front : (A : List (List ℕ) → Type 0) (old : List ℕ) → FrontAppended A A old old
no_front A old = λ others are. record { lines = others; are = are; text_is = refl }

-- more behind the lines of the first m bytes
pub more_front : (Are : ℕ → List ℕ → List (List ℕ) → Type 0) (at m n : ℕ) (bytes rest t0 t1 t2 : List ℕ)
    → rest ≡ drop m bytes → FrontAppended (Are at bytes) (Are (at + m) (drop m bytes)) t0 t1
    → FrontAppended (Are (at + m) rest) (Are (at + m + n) (drop n rest)) t1 t2
    → FrontAppended (Are at bytes) (Are (at + (m + n)) (drop (m + n) bytes)) t0 t2
more_front Are at m n bytes rest t0 t1 t2 rest_is first second =
    λ lines are.
    let sum : at + (m + n) ≡ at + m + n = omega arith in
    let left : drop (m + n) bytes ≡ drop n rest = sym (drop-drop n m bytes) ∙ ap (drop n) (sym rest_is) in
    let are_left : Are (at + m + n) (drop n rest) lines =
    subst (λ (xs : List ℕ). Are (at + m + n) xs lines) left
    (subst (λ (k : ℕ). Are k (drop (m + n) bytes) lines) sum are) in
    let next : AreAppended (Are (at + m) rest) t1 (t2 ++ text_of_lines lines) = second lines are_left in
    let whole : AreAppended (Are at bytes) t0 (t1 ++ text_of_lines next.lines) =
    first next.lines (subst (λ (xs : List ℕ). Are (at + m) xs next.lines) rest_is next.are) in
    retold (Are at bytes) t0 (t1 ++ text_of_lines next.lines) (t2 ++ text_of_lines lines) next.text_is whole

-- all lines are there
pub all_front : (Are : ℕ → List ℕ → List (List ℕ) → Type 0) → ((a : ℕ) → Are a [] [])
    → (at n : ℕ) (bytes old new : List ℕ) → length bytes ≤ n
    → FrontAppended (Are at bytes) (Are (at + n) (drop n bytes)) old new → AreAppended (Are at bytes) old new
all_front Are none at n bytes old new past so_far =
    front_all (Are at bytes) (Are (at + n) (drop n bytes)) old new so_far
    (subst (λ (xs : List ℕ). Are (at + n) xs []) (sym (drop_all n bytes past)) (none (at + n)))

-- a line, where something holds
pub one_line : (P : Type 0) (line old new : List ℕ) → P → new ≡ old ++ (line ++ line_end)
    → AreAppended (LineWhere P line) old new
one_line P line old new p e = record {
  lines = line ∷ [];
  are = so p;
  text_is = e ∙ ap (λ (xs : List ℕ). old ++ xs) (sym (append-nil (line ++ line_end)));
}

-- no line, where it doesn't hold
pub none_line : (P : Type 0) (line old : List ℕ) → ¬ P → AreAppended (LineWhere P line) old old
none_line P line old none = record { lines = []; are = not_so none; text_is = sym (append-nil old) }
