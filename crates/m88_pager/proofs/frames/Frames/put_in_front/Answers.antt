use Rattle.std.proofs.Common.{ℕ, ap, refl, ◌∙◌}
use Rattle.lru.specs.LruCache.{LruCache}
use Rattle.m88_pager.proofs.Taking.{put_new}
use Rattle.m88_pager.specs.declared.frames.Frame.{Frame}
use Rattle.m88_pager.proofs.frames.Frames.put_in_front.Goals as goal

pub returns-in-Ok-clause-front : goal.returns-in-Ok-clause-front
returns-in-Ok-clause-front c = record {
  put =
      ap (λ (s : LruCache ℕ Frame). s.entries) c.in-Ok.ensures.entries
      ∙ put_new c.args.self.now.cache c.args.page c.args.frame c.requires.room c.requires.apart;
  cap = ap (λ (s : LruCache ℕ Frame). s.cap) c.in-Ok.ensures.entries;
  rest = refl;
}
