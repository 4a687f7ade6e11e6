-- The source is the image again, and an image has one source.
use Rattle.std.proofs.Common.{[]}
use Rattle.m88_sourcing.specs.Said.{told}
use Rattle.m88_sourcing.proofs.OneSource.{one_source}
use Rattle.m88_sourcing.proofs.Rebuilt.{source_again}
use Rattle.m88_sourcing.proofs.source.source_text.Goals as goal

pub returns-clause-only : goal.returns-clause-only
returns-clause-only c = λ other is.
    one_source (λ _. []) c.args.image.now (told c.args.said.now) other c.in_ok-text.text.items is c.in_ok-text.ensures.text

pub returns-clause-again : goal.returns-clause-again
returns-clause-again c =
    source_again c.args.image.now (told c.args.said.now) c.in_ok-text.text.items c.in_ok-text.ensures.image
    c.in_ok-text.ensures.text
