-- Eight digits write no number of more than 32 bits.
use Rattle.m88_session.proofs.ScriptLines.{place_is_small}
use Rattle.m88_session.proofs.script_line.place_in.Goals as goal

pub returns : goal.returns
returns c = record {
  found = c.hexadecimal_number.ensures.found;
  only = λ address is. c.hexadecimal_number.ensures.only address (place_is_small c.args.text.now address is) is;
}
