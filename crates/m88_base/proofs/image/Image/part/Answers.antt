use Rattle.m88_base.specs.Image.{byte_at}
use Rattle.m88_base.proofs.image.Image.part.Goals as goal

pub returns-clause-part : goal.returns-clause-part
unfolding byte_at
returns-clause-part c = rw (c.at.ensures, c.bytes.ensures.value, ← c.self.view_is) c.get-run.ensures.part
