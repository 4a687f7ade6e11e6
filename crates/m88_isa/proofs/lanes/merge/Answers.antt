-- The result is the word of the definition, of which the law on bytes speaks.
use Rattle.std.proofs.Common.{subst, sym}
use Rattle.m88_isa.specs.Lanes.{StoresBytes}
use Rattle.m88_isa.proofs.TouchedBytes.{stores_bytes}
use Rattle.m88_isa.proofs.lanes.merge.Goals as goal

pub returns-clause-bytes : goal.returns-clause-bytes
returns-clause-bytes c =
    subst (λ n. StoresBytes c.args.en c.args.value c.args.word n) (sym c.merged.ensures) (stores_bytes c.args.en c.args.value c.args.word)
