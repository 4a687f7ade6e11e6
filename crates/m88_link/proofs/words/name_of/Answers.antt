-- `Name::new` takes the bytes just where they are one name.
use Rattle.m88_link.proofs.Divided.{told_name}
use Rattle.m88_link.proofs.words.name_of.Goals as goal

pub returns : goal.returns
returns c = told_name c.new.result c.args.text.now c.new.ensures.valid c.new.ensures.value
