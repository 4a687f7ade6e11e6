-- The registers that a record's transactions load, one transaction after the other.
use Rattle.std.specs.Prelude.{ℕ, Bool, ◌||◌, ◌&&◌, not, if◌then◌else◌}
use Rattle.m88_base.specs.declared.triple.Triple.{Triple}
use Rattle.m88_isa.specs.Bus.{loads}
use Rattle.m88_isa.specs.Triples.{access_in, is_valid_triple}

-- a set with the register that a transaction loads, where it is a valid load
unfoldable pub with_load : Triple → (ℕ → Bool) → ℕ → Bool
with_load t set =
    if is_valid_triple t && not (access_in t).write then (λ r. loads (access_in t) r || set r) else set
