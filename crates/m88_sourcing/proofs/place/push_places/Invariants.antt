-- The addresses so far are there, and the next one is known.
use Rattle.std.proofs.Common.{◌≡◌, ◌+◌, ◌*◌, ◌++◌}
use Rattle.m88_sourcing.specs.Places.{spaced}
use Rattle.m88_sourcing.proofs.place.push_places.Given as goal

abbrev pub invariant-loop : goal.invariant-loop
invariant-loop l = record {
  items : l.addresses.items ≡ l.fn.addresses.items ++ spaced l.places.first l.places.step l.counter;
  next : l.at ≡ l.places.first + l.places.step * l.counter;
}
