-- What was written is read as the instruction.
use Rattle.std.proofs.Common.{ℕ, List, subst, sym}
use Rattle.m88_disasm.specs.Read.{IsReadAs, said_body}
use Rattle.m88_disasm.proofs.Spoken.{said_instr}
use Rattle.m88_disasm.proofs.text.text_of.Goals as goal

pub returns-clause-read : goal.returns-clause-read
returns-clause-read c =
    λ number. subst (λ (text : List ℕ). IsReadAs number text (said_body c.args.instr.now)) (sym c.by_form.ensures)
    (said_instr number c.args.instr.now c.requires).read
