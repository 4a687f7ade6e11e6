-- What the loop of `marked` keeps.
use Rattle.std.proofs.Common.{◌≡◌, map, take}
use Rattle.std.specs.Prelude.{bytes_eq}
use Rattle.indexmap.specs.IndexSet.{contains}
use Rattle.m88_asm.specs.Inside.Exports.{marked_where}
use Rattle.m88_asm.proofs.exports.marked.Given as goal

-- the symbols so far are marked
abbrev pub invariant-loop-s : goal.invariant-loop-s
invariant-loop-s l = l.out.items ≡ map (marked_where (contains bytes_eq l.names)) (take l.s-index l.symbols)
