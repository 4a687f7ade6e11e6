-- What is read of words that the code keeps in a form of its own.
use Rattle.std.specs.Prelude.{◌≡◌, Option, IfSome, MatchOption}

-- a value is read of words that may say one: the value of what is found they say, each value that they say is that of
-- what is found, and what is found is fit
pub record ReadsFit {T A : Type 0} (Say : A → Type 0) (value_of : T → A) (IsFit : T → Type 0) (result : Option T)
    : Type 0 where
  pub found : IfSome result (λ x. Say (value_of x))
  pub only : (said : A) → Say said → MatchOption result ⊥ (λ x. value_of x ≡ said)
  pub fit : IfSome result IsFit
