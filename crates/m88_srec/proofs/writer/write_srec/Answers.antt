-- What is written is accepted again, and short enough to be read.
use Rattle.m88_srec.proofs.Sizes.{image_text_short}
use Rattle.m88_srec.proofs.Trip.{image_is_accepted}
use Rattle.m88_srec.proofs.writer.write_srec.Goals as goal

pub returns-clause-again : goal.returns-clause-again
returns-clause-again c = image_is_accepted c.args.image.now _ c.in_ok-text.ensures.image c.in_ok-text.ensures.text

pub returns-clause-short : goal.returns-clause-short
returns-clause-short c = image_text_short c.args.image.now _ c.in_ok-text.ensures.image c.in_ok-text.ensures.text
