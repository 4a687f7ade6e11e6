-- What is read: a value of a text or of words.
use Rattle.std.specs.Prelude.{ℕ, ◌≡◌, ◌≤◌, List, Option, IfSome, Some}
use Rattle.m88_session.specs.Numbers.{IsShortNumber}

-- a value is read of a text or of words that may say one: what is found they say, and what they say is found
pub record ReadsValue {T : Type 0} (Say : T → Type 0) (result : Option T) : Type 0 where
  pub found : IfSome result Say
  pub only : (said : T) → Say said → result ≡ Some said

-- a number is read of a text: the one that is found it writes in so many digits of the base at most; it is within the
-- bound; and each number within the bound that the text writes so is the one found
pub record ReadsNumber (base most_digits most : ℕ) (text : List ℕ) (result : Option ℕ) : Type 0 where
  pub found : IfSome result (IsShortNumber base most_digits text)
  pub bound : IfSome result (λ n. n ≤ most)
  pub only : (n : ℕ) → n ≤ most → IsShortNumber base most_digits text n → result ≡ Some n
