-- The bytes so far are digits, and the value is that of them, or 2 ^ 32 where it is larger.
use Rattle.std.proofs.Common.{◌≡◌, true, take, min}
use Rattle.std.specs.Str.Parse.{digits_value}
use Rattle.m88_parse.specs.Language.Bytes.{are_digits}
use Rattle.m88_parse.proofs.scan.value_of.Given as goal

abbrev pub invariant-loop-d : goal.invariant-loop-d
invariant-loop-d l = record {
  digits : are_digits l.base (take l.d-index l.digits) ≡ true;
  value : l.value ≡ min (digits_value l.base (take l.d-index l.digits)) 4294967296;
}
