-- What the loop of `declared` keeps.
use Rattle.std.proofs.Common.{◌≡◌, ℕ, List, drop}
use Rattle.std.specs.Prelude.{◌||◌, bytes_eq}
use Rattle.std.specs.List.{list_any}
use Rattle.indexmap.specs.IndexSet.{contains}
use Rattle.m88_asm.specs.Objects.{declares}
use Rattle.m88_asm.proofs.exports.declared.Given as goal

-- a name stands in the set, or one of the statements to come declares it
abbrev pub invariant-loop-x : goal.invariant-loop-x
invariant-loop-x l = (name : List ℕ)
    → (contains bytes_eq l.names name || list_any (λ x. declares name x.body) (drop l.x-index l.statements))
    ≡ list_any (λ x. declares name x.body) l.statements
