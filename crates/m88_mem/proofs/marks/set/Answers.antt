-- The page's bit is set, and no other; a word that is full stays so.
use Rattle.std.proofs.Common.{◌≡◌, ◌∙◌, ◌/◌, ◌%◌, ◌*◌, ◌^◌, arith, slice_index_or}
use Rattle.m88_mem.proofs.Levels.{at_any}
use Rattle.m88_mem.proofs.Bits.{full_with, marked_with}
use Rattle.m88_mem.specs.Inside.Marks.{every_bit}
use Rattle.m88_mem.proofs.marks.set.Goals as goal

pub returns-clause-marked : goal.returns-clause-marked
returns-clause-marked c =
    let within = c.requires.page in
    let long = c.requires.long in
    let word : c.index_mut.result.now ≡ slice_index_or c.args.words.now.items (c.args.page / 32) 0 =
    c.index_mut.ensures.value
    ∙ at_any c.args.words.now.items (c.args.page / 32) c.index_mut.result.now 0 (omega (arith, long, within)) in
    rw word (λ p. marked_with c.args.words.now.items c.args.page p (omega (arith, long, within)))

pub returns-clause-full : goal.returns-clause-full
returns-clause-full c = λ k full.
    let within = c.requires.page in
    let long = c.requires.long in
    let word : c.index_mut.result.now ≡ slice_index_or c.args.words.now.items (c.args.page / 32) every_bit =
    c.index_mut.ensures.value
    ∙ at_any c.args.words.now.items (c.args.page / 32) c.index_mut.result.now every_bit (omega (arith, long, within)) in
    full_with c.args.words.now.items (c.args.page / 32) c.index_mut.result.now (1 * 2 ^ (c.args.page % 32) % 2 ^ 32) k
    (omega (arith, long, within)) word (omega arith) full
