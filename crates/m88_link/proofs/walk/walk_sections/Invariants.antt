-- The sections so far have room, and their lines are counted.
use Rattle.std.proofs.Common.{◌≡◌, take}
use Rattle.m88_link.specs.Inside.Walked.{HaveRoom, sections_count}
use Rattle.m88_link.proofs.walk.walk_sections.Given as goal

abbrev pub invariant-loop-section : goal.invariant-loop-section
invariant-loop-section l = record {
  room : HaveRoom (take l.section-index l.sections);
  counted : l.lines ≡ sections_count (take l.section-index l.sections);
}
