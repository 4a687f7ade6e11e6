-- Which symbols are marked as global.
use Rattle.std.specs.Prelude.{ℕ, ◌||◌, Bool, List, bytes_eq}
use Rattle.m88_link.specs.Sound.{start_name}
use Rattle.m88_link.specs.declared.object.Symbol.{Symbol}

-- a symbol, marked as global where it is `_start` or its name is one of those that are declared
abbrev pub marked_where : (List ℕ → Bool) → Symbol → Symbol
marked_where is_declared s = record s { global = bytes_eq s.name start_name || is_declared s.name }
