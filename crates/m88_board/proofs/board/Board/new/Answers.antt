-- A board at its start.
use Rattle.std.proofs.Common.{◌≡◌, ◌∙◌, ◌*◌, ◌/◌, ℕ, Bool, ap, arith, sym, subst}
use Rattle.m88_base.proofs.Laws.{few_parts}
use Rattle.m88_base.specs.Image.{IsImage, ProgramImage}
use Rattle.m88_codec.proofs.Laws.{program_in, program_in_holds, program_in_mxm}
use Rattle.m88_event.specs.Timeline.{Run, opening_moment, run_with}
use Rattle.m88_isa.specs.Address.{word_address}
use Rattle.m88_mem.specs.DataBus.{image_bus}
use Rattle.m88_mem.specs.Marks.{absent_in}
use Rattle.m88_board.proofs.Starting.{kept, made, opens}
use Rattle.m88_isa.specs.ImageProgram.{IsProgramOf}
use Rattle.m88_isa.specs.Machine.{Program}
use Rattle.m88_board.specs.Kept.{IsKept}
use Rattle.m88_board.specs.Moves.{IsAt}
use Rattle.m88_board.proofs.board.Board.new.Goals as goal

pub invariant_of-result : goal.invariant_of-result
invariant_of-result c =
    made IsKept c.args.mxm c.args.limit c.copy.result c.args.absent.now c.new-2.result _ c.new-3.result c.new-4.result c.in_ok-memory.memory c.new-5.result
    c.new-6.result c.copy.ensures c.new-2.ensures c.new-3.ensures c.new-5.ensures c.new-6.ensures
    (kept c.args.mxm c.args.limit c.args.absent.now _ _ _ c.new-4.result
    c.in_ok-memory.memory c.requires.small
    (subst IsImage (sym c.in_ok-memory.ensures.image) c.part_count.ensures.image) c.new-4.ensures.waiting c.lacks_word-e0.ensures c.lacks_word-e1.ensures)

-- an image holds a program with MXM set and one with MXM clear
with_mxm : (mxm : Bool) (image : ProgramImage) → IsImage image → (p : Program) × IsProgramOf image p × (p.mxm ≡ mxm)
with_mxm mxm image is = (program_in mxm image is, program_in_holds mxm image is, program_in_mxm mxm image is)

pub returns-in_err-memory-clause-program : goal.returns-in_err-memory-clause-program
returns-in_err-memory-clause-program c = with_mxm c.args.mxm c.args.image.now c.part_count.ensures.image

pub returns-clause-program : goal.returns-clause-program
returns-clause-program c = with_mxm c.args.mxm c.args.image.now c.part_count.ensures.image

pub returns-clause-at : goal.returns-clause-at
returns-clause-at c = λ p schedule of mode.
    let image = sym c.in_ok-memory.ensures.image in
    let r : Run = run_with p (absent_in c.args.absent.now) c.args.limit schedule in
    made (IsAt r opening_moment) c.args.mxm c.args.limit c.copy.result c.args.absent.now c.new-2.result _ c.new-3.result c.new-4.result
    c.in_ok-memory.memory c.new-5.result c.new-6.result c.copy.ensures c.new-2.ensures c.new-3.ensures
    c.new-5.ensures c.new-6.ensures
    (opens r c.args.mxm c.args.absent.now (c.start.result / 4 * 4) c.lacks_word-e0.result
    c.lacks_word-e1.result c.new-4.result c.in_ok-memory.memory c.new-4.ensures.numbers
    (c.in_ok-memory.ensures.bus ∙ ap image_bus image) c.in_ok-memory.ensures.absent
    (ap (λ (n : ℕ). n / 4 * 4) c.start.ensures ∙ ap (λ (i : ProgramImage). word_address i.start) image)
    (subst (λ (i : ProgramImage). IsProgramOf i p) image of) mode)

-- each part of an image has a byte
pub prove-unreachable-requires : goal.prove-unreachable-requires
prove-unreachable-requires c =
    let few = few_parts _ c.part_count.ensures.image in
    absurd (omega (arith, few, c.if-prove.true, c.part_count.ensures.value, c.len.ensures.value))
