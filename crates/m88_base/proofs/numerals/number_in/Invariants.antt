-- The bytes so far are digits, and write the value, which is small.
use Rattle.std.proofs.Common.{◌≡◌, ◌≤◌, true, take}
use Rattle.std.specs.Char.{is_digit}
use Rattle.std.specs.List.{list_all}
use Rattle.std.specs.Str.Parse.{digits_value}
use Rattle.m88_base.proofs.numerals.number_in.Given as goal

abbrev pub invariant-loop-byte : goal.invariant-loop-byte
invariant-loop-byte l = record {
  digits : list_all (λ b. is_digit b l.base) (take l.byte-index l.text) ≡ true;
  value : digits_value l.base (take l.byte-index l.text) ≡ l.value;
  small : l.value ≤ l.most;
}
