-- Behind `0x` the text has the digits of its number.
use Rattle.m88_commands.proofs.PageLists.{decimal_found, decimal_told, hexadecimal_found, hexadecimal_told}
use Rattle.m88_commands.proofs.pages.page_number.Goals as goal

pub returns-in-Some : goal.returns-in-Some
returns-in-Some c = record {
  found = hexadecimal_found c.args.text.now c.in-Some.digits.now c.hexadecimal_number.result c.in-Some.ensures.found
      c.hexadecimal_number.ensures.found c.hexadecimal_number.ensures.bound;
  only = λ n. hexadecimal_told c.args.text.now c.in-Some.digits.now n c.hexadecimal_number.result c.in-Some.ensures.found
      c.hexadecimal_number.ensures.only;
}

pub returns-in-None : goal.returns-in-None
returns-in-None c = record {
  found = decimal_found c.args.text.now c.decimal_number.result c.decimal_number.ensures.found c.decimal_number.ensures.bound;
  only = λ n. decimal_told c.args.text.now n c.decimal_number.result (c.after_0x.ensures.none c.in-None.is)
      c.decimal_number.ensures.only;
}
