-- Of the words of the registers that wait and that the instruction touches, the lowest bit in common is looked for.
use Rattle.std.proofs.Common.{◌≡◌, ◌≢◌, ◌<◌, ◌∙◌, ap, arith, sym, Some}
use Rattle.std.proofs.lemmas.Nat.Bits.{bit_at-trailing_zeros}
use Rattle.std.specs.Int.{bit_at, trailing_zeros, w32}
use Rattle.std.specs.Prelude.{bit_and}
use Rattle.std.specs.Int.Bits.{and_le_l}
use Rattle.m88_base.specs.Reg.{number_of}
use Rattle.m88_board.proofs.Records.{zero_bit}
use Rattle.m88_board.proofs.Searching.{least_waits, none_waits_for}
use Rattle.m88_board.specs.contracts.board.Board.{the_view}
use Rattle.m88_board.proofs.board.Board.busy_register.Goals as goal

pub returns-then-both-eq0 : goal.returns-then-both-eq0
returns-then-both-eq0 c =
    rw (← c.self.view_is)
    (sym (none_waits_for c.args.line.now.instr c.self.inside.dunit c.busy.result c.args.line.now.involved
    (c.busy.ensures.back ∙ c.self.invariant.parts.waiting) c.requires c.if-both-eq0.true))

pub returns : goal.returns
returns c =
    let both = bit_and c.busy.result c.args.line.now.involved in
    let other : both ≢ 0 = c.if-both-eq0.false in
    let some : 0 < both = omega (arith, other) in
    let within = and_le_l c.busy.result c.args.line.now.involved in
    let least = bit_at-trailing_zeros w32 both some (omega (arith, within)) in
    let low : trailing_zeros w32 both < 32 = least.0 in
    let number = c.from_low_bits.ensures.number in
    let same : number_of c.from_low_bits.result ≡ trailing_zeros w32 both = omega (arith, low, number) in
    rw (← c.self.view_is)
    (ap Some same
    ∙ sym (least_waits c.args.line.now.instr c.self.inside.dunit c.busy.result c.args.line.now.involved
    (trailing_zeros w32 both) (c.busy.ensures.back ∙ c.self.invariant.parts.waiting) c.requires
    (ap (λ n. bit_at n 0) c.busy.ensures.value ∙ zero_bit (the_view c.self.inside) c.self.invariant)
    low least.1 least.2))
