-- The record of the parts is that of what is seen of them.
use Rattle.std.proofs.Common.{ℕ, ◌∙◌, ap, sym}
use Rattle.std.specs.Int.{bit_at}
use Rattle.m88_board.proofs.Records.{piped_at, piped_by, zero_bit}
use Rattle.m88_board.specs.contracts.board.Board.{the_view}
use Rattle.m88_board.specs.Kept.{epsr_of}
use Rattle.m88_board.proofs.board.Board.pipe.Goals as goal

pub returns-clause-value : goal.returns-clause-value
returns-clause-value c =
    let epsr = c.status.ensures ∙ ap epsr_of (sym c.self.view_is) in
    rw (← c.self.view_is)
    (λ p of. piped_by p (the_view c.self.inside) c.status.result c.shadow-sxip.result.0 c.shadow-sxip.result.1 c.shadow-sxip.result.2
    c.busy.result c.triples.result of c.self.invariant epsr
    (ap (λ (t : ℕ × ℕ × ℕ). t.0) c.shadow-sxip.ensures.value) (ap (λ (t : ℕ × ℕ × ℕ). t.1) c.shadow-sxip.ensures.value)
    (ap (λ (t : ℕ × ℕ × ℕ). t.2) c.shadow-sxip.ensures.value) c.busy.ensures.value c.triples.ensures.value)

pub returns-clause-ssbr : goal.returns-clause-ssbr
returns-clause-ssbr c = ap (λ n. bit_at n 0) c.busy.ensures.value ∙ zero_bit (the_view c.self.inside) c.self.invariant

pub returns-clause-moment : goal.returns-clause-moment
returns-clause-moment c = λ r m at.
    piped_at r m c.args.self.now _ at (returns-clause-value c r.program at.image)
