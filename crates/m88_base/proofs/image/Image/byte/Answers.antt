use Rattle.m88_base.specs.Image.{byte_at}
use Rattle.m88_base.proofs.image.Image.byte.Goals as goal

pub returns : goal.returns
unfolding byte_at
returns c = rw (c.find.ensures, ← c.self.view_is)
