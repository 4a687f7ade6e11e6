-- What is asked for, as the code keeps it: hints are kept as the words that say them.
use Rattle.std.specs.Prelude.{◌≡◌, ℕ, List, Option, IfSome, MatchOption, flat_map, length, sum_by}
use Rattle.std.specs.Option.{option_to_list}
use Rattle.m88_base.specs.Words.{texts}
use Rattle.m88_sourcing.specs.Hints.{AreHints}
use Rattle.m88_sourcing.specs.Request.{AreFew, Asks, Request, addresses_in, starts_in}
use Rattle.m88_sourcing.specs.declared.hint.Hint.{Hint}
use Rattle.m88_sourcing.specs.declared.request.Request.{Request as Kept}
use Rattle.m88_sourcing.specs.declared.request.Tally.{Tally}

-- the request is kept
pub record IsKept (kept : Kept) (request : Request) : Type 0 where
  pub binary : kept.binary ≡ request.binary
  pub hints : AreHints (texts kept.words.now) request.hints

-- what words ask for is kept, which is one thing, and nothing else
pub record ReadsRequest (words : List (List ℕ)) (result : Option Kept) : Type 0 where
  pub found : IfSome result (λ r. (request : Request) × Asks words request × IsKept r request)
  pub only : (wanted : Request) → Asks words wanted → MatchOption result ⊥ (λ r. IsKept r wanted)
  pub one : (a b : Request) → Asks words a → Asks words b → a ≡ b

-- the hints are counted, and not too many
pub record AreTallied (hints : List Hint) (t : Tally) : Type 0 where
  pub count : t.hints ≡ length hints
  pub addresses : t.addresses ≡ sum_by addresses_in hints
  pub starts : option_to_list t.start ≡ flat_map starts_in hints
  pub few : AreFew hints
