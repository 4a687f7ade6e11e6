-- The frame at the front, worked on.
use Rattle.std.specs.Prelude.{ℕ, List}
use Rattle.std.proofs.Common.{sym, ap}
use Rattle.lru.specs.LruCache.{lru_cache}
use Rattle.m88_base.specs.Pages.{page_number}
use Rattle.m88_pager.proofs.Taking.{found_whole, written_in_front}
use Rattle.m88_pager.specs.declared.frames.Frame.{Frame}
use Rattle.m88_pager.proofs.frames.Frames.carry_out_there.Goals as goal

pub work-requires : goal.work-requires
work-requires c = record {
  word = c.requires.word;
  size =
      (found_whole (page_number c.args.access.now.addr) c.args.self.now.cache.entries c.in-Some.frame.now c.requires.within.whole
      (sym c.in-Some.ensures.value)).size;
}

pub returns-in-Some : goal.returns-in-Some
returns-in-Some c =
    let f = c.args.self.now in
    let page = page_number c.args.access.now.addr in
    let old = c.in-Some.frame.now in
    let new = c.work.new.frame in
    let found = sym c.in-Some.ensures.value in
    record {
      carried = λ there. record {
        old = old;
        new = new;
        found = found;
        worked = c.work.ensures;
        front =
            ap (λ (es : List (ℕ × Frame)). record f { cache = lru_cache es f.cache.cap })
            (written_in_front page f.cache.entries old new found);
      };
      none = λ there. absurd cc;
      same = λ there. absurd cc;
    }
