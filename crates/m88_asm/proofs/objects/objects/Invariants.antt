-- What the loop of `objects` keeps.
use Rattle.std.proofs.Common.{◌≡◌, map, take, drop}
use Rattle.std.specs.List.{All}
use Rattle.m88_link.specs.Sound.{IsSound}
use Rattle.m88_asm.specs.Faults.{modules_fault}
use Rattle.m88_asm.specs.Objects.{object_of}
use Rattle.m88_asm.proofs.objects.objects.Given as goal

-- the objects so far; the faults are those of the modules to come
abbrev pub invariant-loop-part : goal.invariant-loop-part
invariant-loop-part l = record {
  made : l.out.items ≡ map object_of (take l.part-index l.modules);
  sound : All IsSound l.out.items;
  faults : modules_fault (drop l.part-index l.modules) ≡ modules_fault l.modules;
}
