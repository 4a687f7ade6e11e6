-- The text that is written is that of sound objects which have a text.
use Rattle.std.proofs.lemmas.List.Elements.{recursion_from_All}
use Rattle.m88_link.specs.ObjectRead.{HasText}
use Rattle.m88_link.proofs.text.object_text.Goals as goal

pub returns-clause-again : goal.returns-clause-again
returns-clause-again c = λ some. record {
  have = record { some = some; each = recursion_from_All HasText c.args.objects.now c.in_ok-text.ensures.have };
  sound = c.requires;
  text_is = c.in_ok-text.ensures.text;
}
