-- What is left and the bytes of the sections so far are the room.
use Rattle.std.proofs.Common.{◌≡◌, ◌+◌, take}
use Rattle.m88_link.specs.Sizes.{sections_size}
use Rattle.m88_link.proofs.bases.room_beside.Given as goal

abbrev pub invariant-loop-section : goal.invariant-loop-section
invariant-loop-section l = l.left + sections_size (take l.section-index l.sections) ≡ l.room
