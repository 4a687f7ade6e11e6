-- What is kept so far, with what is kept of the statements that are left, is all that is kept; these fit.
use Rattle.std.proofs.Common.{◌≡◌, ◌++◌, drop}
use Rattle.m88_asm.specs.Counters.{at_begin}
use Rattle.m88_listing.specs.Inside.Slots.{AllFit, counters_in, slots_from}
use Rattle.m88_listing.proofs.layout.push_slots.Given as goal

abbrev pub invariant-loop-x : goal.invariant-loop-x
invariant-loop-x l = record {
  all : l.slots.items ++ slots_from l.standing (counters_in l.cursor) (drop l.x-index l.standing.part.statements)
      ≡ l.initial.slots.items ++ slots_from l.standing at_begin l.standing.part.statements;
  fit : AllFit l.standing (counters_in l.cursor) (drop l.x-index l.standing.part.statements);
}
