-- Behind the blanks stand the digits, and then the end of the line.
use Rattle.std.proofs.Common.{◌≡◌, ◌-◌, length, take, replicate, decimal, arith, rules, ◌∙◌, append_assoc}
use Rattle.std.proofs.lemmas.Fmt.{length-decimal-le}
use Rattle.std.proofs.lemmas.List.{take-append-le, take-replicate, take-append-drop}
use Rattle.m88_base.specs.Lines.{line_end}
use Rattle.m88_listing.proofs.column.alone.Goals as goal

pub write_digits-requires : goal.write_digits-requires
write_digits-requires c = search (rules, length-decimal-le 7)

pub returns : goal.returns
returns c =
    let w = c.write_digits in
    let start : w.result ≡ 7 - length (decimal c.args.number) = omega arith in
    let blank : take w.result w.new.buf ≡ replicate w.result 32 =
    w.ensures.before ∙ take-append-le _ (replicate 7 32) line_end (omega arith) ∙ take-replicate _ 7 32 (omega arith) in
    rw (← start, ← blank, append_assoc, ← w.ensures.written, take-append-drop)
