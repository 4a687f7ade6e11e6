-- A name is made of exactly the texts that pass the test of names.
use Rattle.m88_parse.proofs.NameTest.{some_iff}
use Rattle.m88_parse.proofs.names.name_of.Goals as goal

pub returns : goal.returns
returns c = some_iff c.new.result c.args.text.now c.new.ensures.valid c.new.ensures.value
