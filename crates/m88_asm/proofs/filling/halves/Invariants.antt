-- What the loop of `halves` keeps.
use Rattle.std.proofs.Common.{◌≡◌, drop, flat_map}
use Rattle.std.specs.Int.{to_be_bytes, w16}
use Rattle.m88_asm.specs.Inside.Drafts.{with_bytes}
use Rattle.m88_asm.proofs.filling.halves.Given as goal

-- the bytes so far, with those of the numbers to come, are all that there will be
abbrev pub invariant-loop-n : goal.invariant-loop-n
invariant-loop-n l =
    with_bytes l.section (flat_map (λ n. to_be_bytes w16 n) (drop l.n-index l.numbers))
    ≡ with_bytes l.fn.section (flat_map (λ n. to_be_bytes w16 n) l.numbers)
