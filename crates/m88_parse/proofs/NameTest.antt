-- The test of a name, and what a name is.
use Rattle.std.proofs.Common.{◌≡◌, ℕ, true, List, refl}
use Rattle.std.specs.Prelude.{IsSome, IfSome, SomeIff, Option, Some, None, ◌↔◌}
use Rattle.m88_base.specs.Name.{IsName}
use Rattle.m88_parse.specs.Inside.Names.{is_valid_name}
use Rattle.m88_parse.proofs.Law.Names.{name_is, name_spelled_again}

pub some_iff : (found : Option (List ℕ)) (text : List ℕ) → (IsSome found ↔ IsName text) → IfSome found (λ n. n ≡ text) → SomeIff found (is_valid_name text ≡ true) text
some_iff (Some n) text h e = (name_spelled_again text (h.0 refl), e)
some_iff None text h e = λ k. let w : IsSome {T = List ℕ} None = h.1 (name_is text k) in absurd cc
