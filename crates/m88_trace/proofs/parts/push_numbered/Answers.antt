-- A number of 32 bits has ten digits at most.
use Rattle.std.proofs.Common.{ℕ, List, arith, ap, drop, length, decimal, ◌++◌, ◌∙◌}
use Rattle.std.proofs.lemmas.Fmt.{length-decimal-le}
use Rattle.std.proofs.lemmas.Slice.{between_to_end}
use Rattle.m88_trace.proofs.Writing.{ok_items, ok_on}
use Rattle.m88_trace.proofs.parts.push_numbered.Goals as goal

pub write_digits-start-requires : goal.write_digits-start-requires
write_digits-start-requires c =
    (rw c.from.ensures (length-decimal-le 10 c.args.number (omega arith) (omega arith) (omega arith)), c.requires)

pub returns : goal.returns
returns c =
    let line = c.write_digits-start.new.buf in
    ok_on c.extend_from_slice.result (ok_items c.extend_from_slice.result _ _ _ c.extend_from_slice.ensures.items)
    (λ e. e
    ∙ ap (λ (xs : List ℕ). c.args.text.now.items ++ xs)
    (between_to_end line c.write_digits-start.result (length line) (omega arith)
    ∙ c.write_digits-start.ensures.written
    ∙ ap (λ (n : ℕ). decimal n ++ drop 10 c.args.line.now) c.from.ensures))
