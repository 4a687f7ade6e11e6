-- Bytes that digits write, pair by pair.
use Rattle.std.proofs.Common.{◌≡◌, ℕ, ◌-◌, ◌<◌, ◌≤◌, Bool, true, false, List, [], ◌∷◌, ◌++◌, length, take, drop, get_or, refl, sym, ap, ◌∙◌, append_assoc, arith}
use Rattle.std.specs.Prelude.{◌==◌, Option, None, Some, Ok, option_map}
use Rattle.std.proofs.lemmas.Bool.Decides.{nat_tests}
use Rattle.std.proofs.lemmas.List.{append-nil, take_rest}
use Rattle.m88_link.specs.Inside.Drafts.{TakesOrRefuses}
use Rattle.m88_link.specs.Inside.Rows.{◌>>=◌, byte_by_digits, bytes_behind, bytes_by_digits}

behind_more : (front : List ℕ) (b : ℕ) (o : Option (List ℕ))
    → option_map (λ bs. front ++ bs) (option_map (λ bs. b ∷ bs) o) ≡ option_map (λ bs. (front ++ b ∷ []) ++ bs) o
behind_more front b None = refl
behind_more front b (Some bs) = ap Some (sym (append_assoc front (b ∷ []) bs))

pub pair_more : (front : List ℕ) (high low b : ℕ) (rest : List ℕ) → byte_by_digits high low ≡ Some b
    → bytes_behind front (high ∷ low ∷ rest) ≡ bytes_behind (front ++ b ∷ []) rest
unfolding bytes_behind
pair_more front high low b rest e =
    ap (λ o. option_map (λ bs. front ++ bs) (o >>= λ b. option_map (λ bs. b ∷ bs) (bytes_by_digits rest))) e
    ∙ behind_more front b (bytes_by_digits rest)

pub pair_none : (front : List ℕ) (high low : ℕ) (rest : List ℕ) → byte_by_digits high low ≡ None → bytes_behind front (high ∷ low ∷ rest) ≡ None
unfolding bytes_behind
pair_none front high low rest e =
    ap (λ o. option_map (λ bs. front ++ bs) (o >>= λ b. option_map (λ bs. b ∷ bs) (bytes_by_digits rest))) e

pub no_pair : (front : List ℕ) → bytes_behind front [] ≡ Some front
unfolding bytes_behind
no_pair front = ap Some (append-nil front)

pub half_pair : (front : List ℕ) (b : ℕ) → bytes_behind front (b ∷ []) ≡ None
unfolding bytes_behind
half_pair front b = refl

-- one turn of a loop that goes pair by pair
pub turn_more : (front new xs : List ℕ) (b : ℕ) (said : Option (List ℕ)) → 2 ≤ length xs → Some b ≡ byte_by_digits (get_or xs 0 0) (get_or xs 1 0)
    → new ≡ front ++ b ∷ [] → bytes_behind front xs ≡ said → bytes_behind new (take (length xs - 2) (drop 2 xs)) ≡ said
turn_more front new [] b said long e is h = absurd (omega arith)
turn_more front new (x ∷ []) b said long e is h = absurd (omega arith)
turn_more front new (high ∷ low ∷ rest) b said long e is h =
    ap (bytes_behind new) (take_rest (high ∷ low ∷ rest) 2)
    ∙ ap (λ l. bytes_behind l rest) is
    ∙ sym (pair_more front high low b rest (sym e))
    ∙ h

pub turn_none : (front xs : List ℕ) → 2 ≤ length xs → None ≡ byte_by_digits (get_or xs 0 0) (get_or xs 1 0) → bytes_behind front xs ≡ None
turn_none front [] long e = absurd (omega arith)
turn_none front (x ∷ []) long e = absurd (omega arith)
turn_none front (high ∷ low ∷ rest) long e = pair_none front high low rest (sym e)

pub last_turn : (new front xs : List ℕ) (said : Option (List ℕ)) (b : Bool) → length xs < 2 → b ≡ (length xs == 0) → new ≡ front → bytes_behind front xs ≡ said
    → TakesOrRefuses (Ok b) new said
last_turn new front [] said true short e same h = sym h ∙ no_pair front ∙ ap Some (sym same)
last_turn new front [] said false short e same h = absurd (let k = e in cc)
last_turn new front (x ∷ []) said false short e same h = sym h ∙ half_pair front x
last_turn new front (x ∷ []) said true short e same h = absurd (grind (arith, e, nat_tests))
last_turn new front (x ∷ y ∷ xs) said b short e same h = absurd (omega arith)
