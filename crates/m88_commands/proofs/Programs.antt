-- S-records that are accepted have one program in a mode.
use Rattle.std.proofs.Common.{◌≡◌, ℕ, Bool, List, Option, ap, sym, ◌∙◌, subst}
use Rattle.m88_base.specs.Image.{IsImage, ProgramImage, byte_at}
use Rattle.m88_isa.specs.ImageProgram.{IsInstructionAt}
use Rattle.m88_isa.specs.Machine.{Program}
use Rattle.m88_codec.proofs.Laws.{one_at, program_in, program_in_holds, program_in_mxm}
use Rattle.m88_asm.proofs.Laws.{Held, same_program}
use Rattle.m88_srec.proofs.Laws.{verdict_takes}
use Rattle.m88_srec.specs.Accepted.{IsAccepted, Whole, whole_of}
use Rattle.m88_commands.specs.Answer.Runs.{IsLoadedProgram}

-- S-records have one program in a mode
pub one_loaded_program : (text : List ℕ) (p q : Program) → IsLoadedProgram text p → IsLoadedProgram text q → p.mxm ≡ q.mxm → p ≡ q
one_loaded_program text p q a b mode =
    let one = verdict_takes text (whole_of a.image) a.is_written in
    let other = verdict_takes text (whole_of b.image) b.is_written in
    let whole : whole_of a.image ≡ whole_of b.image = cc in
    let found : byte_at a.image ≡ byte_at b.image = ap (λ (w : Whole). w.found) whole in
    let start : a.image.start ≡ b.image.start = ap (λ (w : Whole). w.start) whole in
    let bytes : p.byte ≡ q.byte = a.is_program.bytes ∙ found ∙ sym b.is_program.bytes in
    same_program p q mode (a.is_program.start ∙ start ∙ sym b.is_program.start) (λ n. ap (λ (byte : ℕ → Option ℕ). byte n) bytes)
    (λ n. one_at (byte_at b.image) n (p.instruction n) (q.instruction n)
    (subst (λ (byte : ℕ → Option ℕ). IsInstructionAt byte n (p.instruction n)) found (a.is_program.instructions n)) (b.is_program.instructions n))

-- which the image that they write holds
pub records_held : (mxm : Bool) (text : List ℕ) (image : ProgramImage) → IsAccepted text (whole_of image) → IsImage image
    → Held (IsLoadedProgram text) mxm image
records_held mxm text image written is =
    let p = program_in mxm image is in
    let of = program_in_holds mxm image is in
    let mode = program_in_mxm mxm image is in
    let own : IsLoadedProgram text p = record { image = image; is_written = written; is_program = of } in
    record {
      program = p;
      is_such = own;
      of_image = of;
      mode = mode;
      only = λ q is_too same. one_loaded_program text q p is_too own (same ∙ sym mode);
    }
