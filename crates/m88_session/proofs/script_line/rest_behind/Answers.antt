-- What is stripped of a text is what stands before the rest.
use Rattle.std.proofs.Common.{◌≡◌, ℕ, List, ◌++◌, Bor, Option, Some, None, subst}
use Rattle.std.specs.Prelude.{IfSome, MatchOption, ◌≢◌}
use Rattle.std.proofs.lemmas.Bool.Decides.{Decides-eqb}
use Rattle.std.proofs.lemmas.Slice.Eq.{strip_prefix_is}
use Rattle.m88_session.proofs.script_line.rest_behind.Goals as goal

some_of : (front line : List ℕ) (r : Option (Bor (List ℕ))) → MatchOption r ((rest : List ℕ) → line ≢ front ++ rest) (λ x. line ≡ front ++ x.now)
    → IfSome r (λ x. line ≡ front ++ x.now)
some_of front line None h = tt
some_of front line (Some x) h = h

none_of : (front line : List ℕ) (r : Option (Bor (List ℕ))) → MatchOption r ((rest : List ℕ) → line ≢ front ++ rest) (λ x. line ≡ front ++ x.now)
    → r ≡ None → (rest : List ℕ) → line ≢ front ++ rest
none_of front line r h e = subst (λ (o : Option (Bor (List ℕ))). MatchOption o ((rest : List ℕ) → line ≢ front ++ rest) (λ x. line ≡ front ++ x.now)) e h

pub returns-clause-found : goal.returns-clause-found
returns-clause-found c =
    some_of c.args.front.now c.args.line.now c.strip_prefix.result
    (strip_prefix_is Decides-eqb c.args.line.now c.args.front.now c.strip_prefix.result c.strip_prefix.ensures.cases)

pub returns-clause-none : goal.returns-clause-none
returns-clause-none c =
    none_of c.args.front.now c.args.line.now c.strip_prefix.result
    (strip_prefix_is Decides-eqb c.args.line.now c.args.front.now c.strip_prefix.result c.strip_prefix.ensures.cases)
