-- A byte is put out for a trap: what is seen of it.
use Rattle.std.specs.Prelude.{ℕ, Bool, true, false, List, [], ◌∷◌, ◌++◌, ◌≡◌, ◌+◌, if◌then◌else◌}
use Rattle.std.proofs.Common.{refl, sym, ap, ◌∙◌, subst}
use Rattle.m88_ctrl.specs.ControlRegisters.{ControlRegisters}
use Rattle.m88_event.specs.Choice.{serves}
use Rattle.m88_event.specs.declared.happened.Happened.TheVariants as happened
use Rattle.m88_event.specs.declared.record.Record.{Record}
use Rattle.m88_isa.specs.Address.{after_bytes}
use Rattle.m88_iunit.specs.Pointers.{Pointers}
use Rattle.m88_board.proofs.Steps.{put_out}
use Rattle.m88_board.specs.Board.{BoardView, next_of}
use Rattle.m88_board.specs.Inside.Events.{Did, Does}
use Rattle.m88_board.specs.Inside.Turns.{IsAdvanced}
use Rattle.m88_board.proofs.Carry.{carry_by, mxm_by}

-- a byte is put out for a trap
pub said_and_done : (fault : Record) (byte : ℕ) (b : BoardView) (slots : Pointers) (control : ControlRegisters) (out : List ℕ)
    (next : ℕ) →
    b.slots.nip.v ≡ true →
    next ≡ b.slots.fip.addr →
    IsAdvanced b.slots slots next (after_bytes next 4) false →
    control.psr ≡ b.control.psr →
    out ≡ b.out ++ (byte ∷ []) →
    Did (serves byte) fault b (happened.Served byte) (record b {
      slots = slots;
      control = control;
      book = record b.book { retired = b.retired + 1; out = out };
    })
said_and_done fault byte b slots control out next valid is on psr joined =
    let behind : next_of b.slots ≡ next = ap (λ (v : Bool). if v then b.slots.fip.addr else after_bytes b.slots.fip.addr 4) valid ∙ sym is in
    record {
      says = refl;
      does = subst (λ (xs : List ℕ). Does (serves byte) fault b (record b {
        slots = slots;
        control = control;
        book = record b.book { retired = b.retired + 1; out = xs };
      })) (sym joined)
          (put_out fault byte b slots control
          (subst (λ n. IsAdvanced b.slots slots n (after_bytes n 4) false) (sym behind) on)
          (carry_by b control psr) (mxm_by b control psr));
    }
