-- FIP has the mark of its own address.
use Rattle.std.specs.Prelude.{ℕ}
use Rattle.std.proofs.Common.{ap, sym, ◌∙◌}
use Rattle.m88_base.specs.declared.slot.Slot.{Slot}
use Rattle.m88_board.specs.Kept.{lacks_word}
use Rattle.m88_board.proofs.slots.lacks_next.Goals as goal

pub returns-then-next-fip : goal.returns-then-next-fip
returns-then-next-fip c =
    ap (λ (s : Slot). s.e) (c.following-fip.ensures.value ∙ c.requires.slots.fip)
    ∙ ap (λ (a : ℕ). lacks_word c.args.memory.now.image a) (sym (ap (λ (s : Slot). s.addr) c.following-fip.ensures.value) ∙ sym c.if-next-fip.true)
