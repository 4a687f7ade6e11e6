-- The bytes passed, with those up to a closing quote of the rest, are those up to the closing quote.
use Rattle.std.proofs.Common.{◌≡◌, ◌+◌, drop, false}
use Rattle.m88_parse.specs.Inside.Tokens.{inside_len}
use Rattle.m88_parse.proofs.scan.inside_len.Given as goal

abbrev pub invariant-loop-i : goal.invariant-loop-i
invariant-loop-i l = l.i + inside_len l.quote l.escaped (drop l.i l.bytes) ≡ inside_len l.quote false l.bytes
