-- The bytes so far, with those that the rest stands for, are the bytes of the text.
use Rattle.std.proofs.Common.{◌≡◌, ◌++◌, drop, false}
use Rattle.m88_parse.specs.Inside.Tokens.{text_bytes}
use Rattle.m88_parse.proofs.lists.text_bytes.Given as goal

abbrev pub invariant-loop-b : goal.invariant-loop-b
invariant-loop-b l = l.out.items ++ text_bytes l.escaped (drop l.b-index l.inside) ≡ text_bytes false l.inside
