-- What is written of elements with their numbers, one element at a time.
use Rattle.std.proofs.Common.{◌≡◌, ℕ, ◌+◌, ◌<◌, List, [], ◌∷◌, ◌++◌, ◌∙◌, ap, length, get_or, take, append-nil, length-take-le, arith, add-one}
use Rattle.std.proofs.Math.Seq.{take-suc}
use Rattle.std.proofs.lemmas.Grind.{flat_map-append}
use Rattle.std.specs.List.{enumerate_from, flat_map}

-- an element behind the others has the next number
enumerate_from-snoc : {X : Type 0} (n : ℕ) (xs : List X) (x : X)
    → enumerate_from n (xs ++ x ∷ []) ≡ enumerate_from n xs ++ (n + length xs, x) ∷ []
enumerate_from-snoc n [] x = grind arith
enumerate_from-snoc n (y ∷ ys) x = grind (arith, enumerate_from-snoc (n + 1) ys x)

-- one element more stands behind those before it, with the next number
pub one_more_numbered : {X Y : Type 0} (f : ℕ × X → List Y) (n : ℕ) (xs : List X) (k number : ℕ) (d : X) → k < length xs → number ≡ n + k
    → flat_map f (enumerate_from n (take (k + 1) xs)) ≡ flat_map f (enumerate_from n (take k xs)) ++ f (number, get_or xs k d)
one_more_numbered f n xs k number d below same =
    let x = get_or xs k d in
    let counted : n + length (take k xs) ≡ number = omega (arith, same, length-take-le k xs) in
    ap (λ ys. flat_map f (enumerate_from n ys)) (ap (λ j. take j xs) (add-one k) ∙ take-suc xs k d below)
    ∙ ap (flat_map f) (enumerate_from-snoc n (take k xs) x)
    ∙ flat_map-append f (enumerate_from n (take k xs)) ((n + length (take k xs), x) ∷ [])
    ∙ rw counted (ap (λ ys. flat_map f (enumerate_from n (take k xs)) ++ ys) (append-nil (f (number, x))))
