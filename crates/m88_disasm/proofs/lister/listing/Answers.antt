-- The listing is the only one, and writes the image again.
use Rattle.m88_disasm.proofs.Again.{listing_again}
use Rattle.m88_disasm.proofs.OneListing.{one_listing}
use Rattle.m88_disasm.proofs.lister.listing.Goals as goal

pub returns-clause-only : goal.returns-clause-only
returns-clause-only c = λ other is. one_listing c.args.image.now other _ is c.in_ok-text.ensures.text

pub returns-clause-again : goal.returns-clause-again
returns-clause-again c = listing_again c.args.image.now _ c.in_ok-text.ensures.image c.in_ok-text.ensures.text
