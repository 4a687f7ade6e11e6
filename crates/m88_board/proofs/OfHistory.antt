-- What holds of each state of a history: no step changes MXM, r0 is 0, and programs of one image have the same turns.
use Rattle.std.specs.Prelude.{ℕ, zero, suc, List, [], ◌∷◌, Option, Some, None, ◌≡◌, ◌==◌, slice_index}
use Rattle.std.proofs.Common.{get_or-set_other, refl, sym, ap, ap₂, ◌∙◌}
use Rattle.std.proofs.lemmas.Bool.{eqb-false}
use Rattle.m88_base.specs.Image.{ProgramImage, byte_at}
use Rattle.m88_base.specs.Reg.{number_of, with_register}
use Rattle.m88_base.specs.declared.reg.Reg.{Reg}
use Rattle.m88_codec.proofs.Laws.{one_at}
use Rattle.m88_isa.proofs.Laws.{by_test}
use Rattle.m88_isa.specs.ImageProgram.{IsProgramOf}
use Rattle.m88_isa.specs.Machine.{Program, State, Turn, after_touch, after_touches, changes, fetched, four_bytes, opening, outputs, state, state_after, stepped, stops, turn_at, with_written}
use Rattle.m88_isa.specs.Memory.{Touch}
use Rattle.m88_isa.specs.declared.instr.Instr.{Instr}
use Rattle.m88_board.specs.Kept.{turn_by}
use Rattle.m88_isa.specs.History.{completed_state}

-- accesses leave MXM
mxm_touched : (ts : List Touch) (s : State) → (after_touches ts s).mxm ≡ s.mxm
mxm_touched [] s = refl
mxm_touched (t ∷ ts) s = mxm_touched ts (after_touch t s)

mxm_after : (t : Turn) (s : State) → (state_after (stepped t s) s).mxm ≡ s.mxm
mxm_after (changes change) s = mxm_touched change.touches _
mxm_after _ s = refl

-- MXM is the program's
pub mode_stays : (p : Program) (n : ℕ) → (state p n).mxm ≡ p.mxm
unfolding state opening
mode_stays p zero = refl
mode_stays p (suc n) = mxm_after (turn_at p (state p n)) (state p n) ∙ mode_stays p n

-- a register that is written leaves r0
zero_written : (r : Reg) (value : ℕ) (regs : List ℕ) → slice_index (with_register r value regs) 0 ≡ slice_index regs 0
zero_written r value regs = by_test (number_of r == 0)
    (λ zero. rw zero refl)
    (λ other. rw other (get_or-set_other regs (number_of r) 0 value 0 (λ e. eqb-false (number_of r) 0 other (sym e))))

zero_at_once : (written : Option (Reg × ℕ)) (regs : List ℕ) → slice_index (with_written written regs) 0 ≡ slice_index regs 0
zero_at_once None regs = refl
zero_at_once (Some written) regs = zero_written written.0 written.1 regs

zero_touch : (t : Touch) (s : State) → slice_index (after_touch t s).regs 0 ≡ slice_index s.regs 0
zero_touch t s = by_test t.write
    (λ write. rw write refl)
    (λ read. rw read (zero_written t.register _ s.regs))

zero_touched : (ts : List Touch) (s : State) → slice_index (after_touches ts s).regs 0 ≡ slice_index s.regs 0
zero_touched [] s = refl
zero_touched (t ∷ ts) s = zero_touched ts (after_touch t s) ∙ zero_touch t s

zero_after : (t : Turn) (s : State) → slice_index (state_after (stepped t s) s).regs 0 ≡ slice_index s.regs 0
zero_after (changes change) s = zero_touched change.touches _ ∙ zero_at_once change.register s.regs
zero_after _ s = refl

-- r0 is 0
pub zero_is : (p : Program) (n : ℕ) → slice_index (state p n).regs 0 ≡ 0
unfolding state opening
zero_is p zero = refl
zero_is p (suc n) = zero_after (turn_at p (state p n)) (state p n) ∙ zero_is p n

-- programs of one image have the same turn at a state
pub same_turn : (image : ProgramImage) (p q : Program) (s : State) → IsProgramOf image p → IsProgramOf image q →
    turn_by q (completed_state s) ≡ turn_at p s
unfolding completed_state
same_turn image p q s of too =
    ap₂ (λ (word : Option (List ℕ)) (i : Option Instr). fetched word i s.regs s.carry s.mxm s.pc s.next)
    (ap (λ (byte : ℕ → Option ℕ). four_bytes byte s.pc) (too.bytes ∙ sym of.bytes))
    (one_at (byte_at image) s.pc (q.instruction s.pc) (p.instruction s.pc) (too.instructions s.pc) (of.instructions s.pc))
