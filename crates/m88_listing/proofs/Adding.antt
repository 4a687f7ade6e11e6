-- The sum over the objects that are left, one by one.
use Rattle.std.proofs.Common.{◌≡◌, ℕ, ◌+◌, ◌<◌, List, length, drop, get_or, sum_by, sym, ap, ◌∙◌}
use Rattle.std.proofs.lemmas.List.{drop_more}
use Rattle.std.proofs.lemmas.List.Sums.{sum_by-cons}
use Rattle.m88_link.specs.declared.object.Object.{Object}

pub sum_next : (f : Object → ℕ) (os : List Object) (i : ℕ) (o : Object) → i < length os → o ≡ get_or os i o
    → sum_by f (drop i os) ≡ f o + sum_by f (drop (i + 1) os)
sum_next f os i o l is =
    ap (sum_by f) (drop_more os i o l) ∙ sum_by-cons f (get_or os i o) (drop (i + 1) os)
    ∙ ap (λ (x : Object). f x + sum_by f (drop (i + 1) os)) (sym is)
