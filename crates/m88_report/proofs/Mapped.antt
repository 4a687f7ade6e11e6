-- An array of what a function gives of each element, where the function has one value at each.
use Rattle.std.proofs.Common.{◌≡◌, ℕ, ◌<◌, List, length, map, get_or, sym, ◌∙◌}
use Rattle.std.proofs.lemmas.List.{ext_get_or, get_or-map, length-map}
use Rattle.std.specs.Array.{IsMapOf}
use Rattle.std.specs.Fn.{Called, Mut}

-- it is the list of these values
pub map_same : {F A B : Type 0} (g : Mut F (A × Unit {0}) B) (f : F) (h : A → B) (xs : List A) (ys : List B) (n : ℕ) (d : A) (e : B)
    → IsMapOf g f xs ys n → length xs ≡ n → ((x : A) (y : B) (p q : F) → Called g p (x, tt) y q → y ≡ h x) → ys ≡ map h xs
map_same g f h xs ys n d e is long each =
    ext_get_or e ys (map h xs) (is.long ∙ sym long ∙ sym (length-map xs h)) (λ i below.
    let counted : i < n = rw (← is.long) below in
    let inside : i < length xs = rw long counted in
    let call = is.at i d e counted in
    each (get_or xs i d) (get_or ys i e) call.0 call.1 call.2 ∙ sym (get_or-map h xs i d e inside))
