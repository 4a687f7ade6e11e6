-- The result is the datum of the definition, of which the law on bytes speaks.
use Rattle.std.proofs.Common.{rules, ◌≡◌, subst, sym}
use Rattle.m88_isa.specs.Lanes.{LoadsBytes, datum_of}
use Rattle.m88_isa.proofs.TouchedBytes.{loads_bytes}
use Rattle.m88_isa.proofs.lanes.datum.Goals as goal

pub returns-clause-bytes : goal.returns-clause-bytes
returns-clause-bytes c =
    let value : c.widened.result ≡ datum_of c.args.en c.args.signed c.args.word = search rules in
    subst (λ n. LoadsBytes c.args.en c.args.signed c.args.word n) (sym value) (loads_bytes c.args.en c.args.signed c.args.word)
