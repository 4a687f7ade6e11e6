-- What lies behind the word stays.
use Rattle.std.proofs.Common.{ℕ, List, ap, take, ◌∷◌, ◌++◌, ◌/◌, ◌%◌}
use Rattle.m88_pager.proofs.Words.{rest_stays}
use Rattle.m88_pager.proofs.word.put_word.Goals as goal

pub returns : goal.returns
returns c =
    rw c.write_u32.ensures (
    ap (λ (rest : List ℕ). take c.args.place c.args.bytes.now ++ (c.args.word / 16777216 % 256 ∷ c.args.word / 65536 % 256 ∷ c.args.word / 256 % 256 ∷ c.args.word % 256 ∷ rest))
    (rest_stays c.args.bytes.now c.args.place c.requires)
    )
