-- Each word is the one.
use Rattle.std.proofs.Common.{◌≡◌, refl, replicate}
use Rattle.m88_mem.proofs.Bits.{marked_alike}
use Rattle.m88_mem.specs.Inside.Marks.{mark_words}
use Rattle.m88_mem.proofs.marks.alike.Goals as goal

pub returns-clause-marked : goal.returns-clause-marked
returns-clause-marked c =
    let words : c.in_ok-words.words.items ≡ replicate mark_words c.args.word =
    c.in_ok-words.ensures.items_if_clones_equal (λ y same. same) in
    λ p. marked_alike c.in_ok-words.words.items c.args.word mark_words refl words p
