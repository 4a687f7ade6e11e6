-- What is left holds escapes alone exactly where the whole does.
use Rattle.std.proofs.Common.{◌≡◌, drop, false}
use Rattle.m88_parse.specs.Inside.Tokens.{holds_escapes}
use Rattle.m88_parse.proofs.scan.holds_escapes.Given as goal

abbrev pub invariant-loop-b : goal.invariant-loop-b
invariant-loop-b l = holds_escapes l.escaped (drop l.b-index l.inside) ≡ holds_escapes false l.inside
