-- A word is put where none stood, or one stands there.
use Rattle.std.proofs.Common.{ℕ, ap, arith, length, subst}
use Rattle.m88_base.specs.Found.{IsLeastTaken}
use Rattle.m88_base.specs.Image.{byte_at}
use Rattle.m88_serving.proofs.Puts.{word_put, word_there_before}
use Rattle.m88_serving.proofs.naming.name.Goals as goal

pub returns-in-Ok : goal.returns-in-Ok
returns-in-Ok c =
    word_put c.args.image.now c.add.new.self c.args.at c.args.value c.to_be_bytes.result c.requires (omega arith) c.to_be_bytes.ensures
    (ap length c.to_be_bytes.ensures) c.in-Ok.ensures.ok c.in-Ok.ensures.free

pub returns-in-Err-Overlap : goal.returns-in-Err-Overlap
returns-in-Err-Overlap c =
    word_there_before c.args.image.now c.args.at c.in-Err-Overlap.field-0-0 c.requires
    (subst (λ (n : ℕ). IsLeastTaken (byte_at c.args.image.now) c.args.at n c.in-Err-Overlap.field-0-0) (ap length c.to_be_bytes.ensures)
    (rw c.in-Err-Overlap.field-0-is at c.in-Err-Overlap.ensures.overlap))
