-- A follower begins at the opening state.
use Rattle.std.proofs.Common.{rules}
use Rattle.m88_trace.proofs.Following.{opens}
use Rattle.m88_trace.proofs.follower.Follower.new.Goals as goal

pub returns : goal.returns
returns c = record {
  ready = search rules;
  image_is = c.in_ok-memory.ensures.image;
  seen = λ p of. opens p c.args.image.now c.start.result _ of c.start.ensures c.in_ok-memory.ensures.bus;
}
