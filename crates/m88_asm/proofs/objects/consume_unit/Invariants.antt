-- What the loop of `consume_unit` keeps.
use Rattle.std.proofs.Common.{◌≡◌, drop, length, map, take}
use Rattle.std.specs.List.{All}
use Rattle.m88_link.specs.Sound.{IsSound}
use Rattle.m88_asm.specs.Faults.{modules_fault}
use Rattle.m88_asm.specs.Objects.{object_of}
use Rattle.m88_asm.proofs.objects.consume_unit.Given as goal

-- the objects so far; the faults are those of the modules to come
abbrev pub invariant-loop-part : goal.invariant-loop-part
invariant-loop-part l = record {
  made : l.objects.items ≡ map object_of (take (length l.yielded) l.fn.unit.modules);
  sound : All IsSound l.objects.items;
  faults : modules_fault (drop (length l.yielded) l.fn.unit.modules) ≡ modules_fault l.fn.unit.modules;
}
