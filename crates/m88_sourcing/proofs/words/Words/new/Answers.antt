-- No bit is set.
use Rattle.std.proofs.Common.{◌≡◌, ℕ, None, nat_eq, rules}
use Rattle.indexmap.specs.IndexMap.{get}
use Rattle.m88_sourcing.proofs.Sets.{no_bits}
use Rattle.m88_sourcing.proofs.words.Words.new.Goals as goal

pub returns : goal.returns
returns c = λ a.
    let none : (q : ℕ) → get nat_eq c.new.result q ≡ None = λ q. search rules in
    no_bits _ _ (c.in_ok-vec.ensures.items_if_clones_equal (λ y same. same)) none a
