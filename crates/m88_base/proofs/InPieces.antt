-- The pieces of a list: the first and those of the rest, and those of two lists put together.
use Rattle.std.proofs.Common.{◌≡◌, ℕ, zero, suc, ◌+◌, ◌-◌, ◌*◌, ◌/◌, ◌<◌, ◌≤◌, min, List, [], ◌∷◌, ◌++◌, length, map, take, drop, refl, sym, ap, ◌∙◌, append_assoc, append-nil, arith, length-append, length-drop, inl, inr}
use Rattle.std.proofs.Math.Nat.{add-div_right, add-mul, div-eq_of_lt, one-mul, zero-mul}
use Rattle.std.proofs.Math.Path.{fun_ext}
use Rattle.std.proofs.lemmas.Bool.{cases_lt}
use Rattle.std.proofs.lemmas.List.{drop-drop, drop_all, drop_at, length-take-le, nil_from_length, take-append-drop, take_all, take_at}
use Rattle.std.proofs.lemmas.List.FromFn.{length-map-range_with_len}
use Rattle.std.specs.List.{range_with_len}
use Rattle.m88_base.specs.Pieces.{piece, piece_count, pieces}

-- numbers counted from one later
from_next : {B : Type 0} (f : ℕ → B) (a count : ℕ) → map f (range_with_len (a + 1) count) ≡ map (λ k. f (k + 1)) (range_with_len a count)
from_next f a zero = refl
from_next f a (suc count) = ap (λ l. f (a + 1) ∷ l) (from_next f (a + 1) count)

-- a list has one piece more than what is left behind the first
one_more : (n long : ℕ) → 0 < n → 0 < long → (long + (n - 1)) / n ≡ suc ((long - n + (n - 1)) / n)
one_more n long some any =
    let less : n - 1 < n = omega (arith, some) in
    elim (cases_lt long n) [
      | inl short ↦
          let first : long + (n - 1) ≡ long - 1 + n = omega (arith, some, any) in
          let none : long - n + (n - 1) ≡ n - 1 = omega (arith, short) in
          let within : long - 1 < n = omega (arith, short) in
          ap (λ k. k / n) first ∙ add-div_right (long - 1) some ∙ ap (λ k. k + 1) (div-eq_of_lt within)
          ∙ ap suc (sym (ap (λ k. k / n) none ∙ div-eq_of_lt less))
      | inr more ↦
          let first : long + (n - 1) ≡ long - n + (n - 1) + n = omega (arith, more) in
          let next : (long - n + (n - 1)) / n + 1 ≡ suc ((long - n + (n - 1)) / n) = omega arith in
          ap (λ k. k / n) first ∙ add-div_right (long - n + (n - 1)) some ∙ next
    ]

-- as many as are counted
pub length-pieces : {A : Type 0} (n : ℕ) (list : List A) → length (pieces n list) ≡ piece_count n list
unfolding pieces
length-pieces n list = length-map-range_with_len (piece n list) 0 (piece_count n list)

module _ {A : Type 0} (n : ℕ) (some : 0 < n) where
  -- an empty list has none
  pub no_pieces : pieces {A = A} n [] ≡ []
  unfolding pieces
  no_pieces = ap (λ count. map (piece n []) (range_with_len 0 count)) (div-eq_of_lt (omega (arith, some)))

  -- the piece with the next number, among those behind the first
  later : (list : List A) (k : ℕ) → piece n list (k + 1) ≡ piece n (drop n list) k
  later list k =
      let e : (k + 1) * n ≡ n + k * n = add-mul k 1 n ∙ (let one = one-mul n in omega (arith, one)) in
      ap (λ j. take n (drop j list)) e ∙ ap (take n) (sym (drop-drop (k * n) n list))

  -- the first n elements, and the pieces of those behind them
  pub first_piece : (list : List A) → 0 < length list → pieces n list ≡ take n list ∷ pieces n (drop n list)
  unfolding pieces
  first_piece list any =
      let left : length (drop n list) ≡ length list - n = length-drop n list in
      let count : piece_count n list ≡ suc (piece_count n (drop n list)) =
      one_more n (length list) some any ∙ ap (λ k. suc ((k + (n - 1)) / n)) (sym left) in
      ap (λ k. map (piece n list) (range_with_len 0 k)) count
      ∙ ap (λ j. take n (drop j list) ∷ map (piece n list) (range_with_len 1 (piece_count n (drop n list)))) (zero-mul n)
      ∙ ap (λ l. take n list ∷ l) (from_next (piece n list) 0 (piece_count n (drop n list)))
      ∙ ap (λ f. take n list ∷ map f (range_with_len 0 (piece_count n (drop n list)))) (fun_ext (later list))

  -- a piece of n elements, or of all where there are fewer, is the first
  pub next_piece : (list front rest : List A) → list ≡ front ++ rest → length front ≡ min n (length list) → 0 < length list
      → pieces n list ≡ front ∷ pieces n rest
  next_piece list front rest parts size any = first_piece list any ∙ ap (λ l. l ∷ pieces n (drop n list)) both.0 ∙ ap (λ l. front ∷ pieces n l) both.1
    where
      both : (take n list ≡ front) × (drop n list ≡ rest)
      both = elim (cases_lt (length list) n) [
        | inl short ↦
            let none : rest ≡ [] = nil_from_length rest (omega (arith, short, size, ap length parts, length-append front rest)) in
            let all : list ≡ front = parts ∙ ap (λ l. front ++ l) none ∙ append-nil front in (
              take_all n list (omega (arith, short)) ∙ all,
              drop_all n list (omega (arith, short)) ∙ sym none,
            )
        | inr more ↦
            let whole : length front ≡ n = omega (arith, size, more) in (
              ap (take n) parts ∙ take_at front rest n whole,
              ap (drop n) parts ∙ drop_at front rest n whole,
            )
      ]

  -- a list of at most n elements is one piece
  pub only_piece : (list : List A) → 0 < length list → length list ≤ n → pieces n list ≡ list ∷ []
  only_piece list any few =
      next_piece list list [] (sym (append-nil list)) (omega (arith, few)) any ∙ ap (λ l. list ∷ l) no_pieces

  -- whole pieces and those of what stands behind them
  pub pieces-append : (count : ℕ) (xs ys : List A) → length xs ≡ count * n → pieces n (xs ++ ys) ≡ pieces n xs ++ pieces n ys
  pieces-append count [] ys whole = ap (λ l. l ++ pieces n ys) (sym no_pieces)
  pieces-append zero (x ∷ xs) ys whole = absurd (omega (arith, whole))
  pieces-append (suc count) (x ∷ xs) ys whole =
      let list : List A = x ∷ xs in
      let front : List A = take n list in
      let rest : List A = drop n list in
      let long : length list ≡ count * n + n = whole ∙ omega arith in
      let size : length front ≡ n = length-take-le n list (omega (arith, long)) in
      let behind : length rest ≡ count * n = length-drop n list ∙ omega (arith, long) in
      let cut : list ≡ front ++ rest = sym (take-append-drop n list) in
      let first : pieces n list ≡ front ∷ pieces n rest = first_piece list (omega arith) in
      let all : list ++ ys ≡ front ++ (rest ++ ys) = ap (λ l. l ++ ys) cut ∙ append_assoc front rest ys in
      let more = length-append list ys in
      next_piece (list ++ ys) front (rest ++ ys) all (omega (arith, size, long, more)) (omega arith)
      ∙ ap (λ l. front ∷ l) (pieces-append count rest ys behind)
      ∙ ap (λ l. l ++ pieces n ys) (sym first)
