-- The program ends with nothing pending: what always holds of a board goes on to hold.
use Rattle.std.specs.Prelude.{Bool, Some, ◌≡◌, bit_or, if◌then◌else◌}
use Rattle.std.proofs.Common.{arith, sym, ap, ap₂, ◌∙◌}
use Rattle.m88_ctrl.specs.ControlRegisters.{ControlRegisters, exception_bits, mxm_of}
use Rattle.m88_event.specs.Shadow.{status_of}
use Rattle.m88_event.specs.declared.happened.End.{End}
use Rattle.m88_board.proofs.Stopping.{ends_now}
use Rattle.m88_board.specs.Board.{BoardView}
use Rattle.m88_board.specs.Kept.{IsKept}
use Rattle.m88_board.specs.Inside.Turns.{ComesToEnd, IsDue}
use Rattle.m88_board.proofs.Carry.{carry_entered}
use Rattle.m88_board.proofs.Going.{not_ended, one_more}

-- the program ends, with nothing pending
pub kept_finished : (b : BoardView) (control : ControlRegisters) (end : End) →
    IsKept b →
    IsDue b →
    ComesToEnd end b →
    control.psr ≡ bit_or b.control.psr exception_bits →
    control.epsr ≡ b.control.psr →
    mxm_of control ≡ mxm_of b.control →
    IsKept (record b { control = control; book = record b.book { end = Some end } })
kept_finished b control end kept due comes psr epsr same_mxm =
    let carry = carry_entered b.control control psr in
    let more = one_more b due.going kept.within in
    record {
      parts = kept.parts;
      image = kept.image;
      slots = kept.slots;
      bubbled = kept.bubbled;
      unbubbled = λ ended. due.valid;
      status = epsr
          ∙ sym (ap (λ (t : Bool). if t then b.control.epsr else b.control.psr) (not_ended b due.going))
          ∙ kept.status
          ∙ ap₂ status_of (sym carry) (sym same_mxm);
      drained = λ ended. comes.empty;
      made = kept.made;
      told = kept.told;
      put_out = kept.put_out;
      within = kept.within;
      early = λ ended. omega (arith, more);
      ends = comes.is_end;
      ends_so = ends_now b control end comes carry same_mxm;
      small = kept.small;
      counted = kept.counted;
    }
