-- A frame of zeros has the words of an image without a byte there.
use Rattle.std.proofs.Common.{◌≡◌, arith, refl, replicate}
use Rattle.m88_mem.proofs.Words.{blank_frame}
use Rattle.m88_mem.proofs.memory.image_frame.Goals as goal

pub returns-in_ok-words-in-None : goal.returns-in_ok-words-in-None
returns-in_ok-words-in-None c =
    let words : c.in_ok-words-in-None.words.items ≡ replicate 1024 0 =
    c.in_ok-words-in-None.ensures.items_if_clones_equal (λ y same. same) in
    record {
      long = omega (arith, c.in_ok-words-in-None.ensures.len);
      each = blank_frame c.args.image.now c.args.page c.in_ok-words-in-None.words.items 1024 refl words c.in-None.ensures.free;
    }
