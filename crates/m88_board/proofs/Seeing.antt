-- What a watch saw, one glance after the other.
use Rattle.std.specs.Prelude.{List, [], ◌++◌, Option, Some, None, ◌≡◌}
use Rattle.std.proofs.Common.{append_assoc, sym, ap, ◌∙◌, subst}
use Rattle.std.proofs.lemmas.List.{append-nil}
use Rattle.m88_board.specs.Glances.{Saw}
use Rattle.m88_board.specs.declared.glance.Glance.{Glance}

-- nothing
pub saw_none : (s : Option (List Glance)) → Saw s s []
saw_none None = tt
saw_none (Some xs) = sym (append-nil xs)

-- some glances, and then others
pub saw_then : (a b c : Option (List Glance)) (xs ys : List Glance) → Saw a b xs → Saw b c ys → Saw a c (xs ++ ys)
saw_then a b None xs ys first second = tt
saw_then a None (Some zs) xs ys first second = absurd second
saw_then None (Some bs) (Some zs) xs ys first second = absurd first
saw_then (Some as') (Some bs) (Some zs) xs ys first second =
    second ∙ ap (λ (front : List Glance). front ++ ys) first ∙ append_assoc as' xs ys

-- the same glances
pub saw_same : (a b : Option (List Glance)) (xs ys : List Glance) → xs ≡ ys → Saw a b xs → Saw a b ys
saw_same a b xs ys e saw = subst (λ glances. Saw a b glances) e saw
