-- A name that the object doesn't define means the global symbol.
use Rattle.std.proofs.Common.{◌≡◌, ◌∙◌, ap, arith, sym}
use Rattle.std.specs.Prelude.{None, option_and_then, Some}
use Rattle.std.specs.Option.{option_map, option_or}
use Rattle.std.proofs.lemmas.Grind.{common_steps}
use Rattle.m88_link.specs.Bases.{base_of}
use Rattle.m88_link.specs.Inside.Resolved.{value_alone}
use Rattle.m88_link.specs.Symbols.{joined, symbol_of, value_in}
use Rattle.m88_link.proofs.resolve.meaning.Goals as goal

pub returns-in-Some-get : goal.returns-in-Some-get
returns-in-Some-get c =
    let name = c.args.name.now in
    let found = c.in-Some-get.found.now in
    let absent : symbol_of c.args.own.now name ≡ None = grind (arith, common_steps) in
    let there : Some (joined name found) ≡ symbol_of c.args.globals.now name = grind (arith, common_steps) in
    c.value_alone.ensures name
    ∙ ap (option_and_then value_alone) there
    ∙ ap (λ o. option_or (option_map (value_in (base_of c.args.placement.now)) o) (option_and_then value_alone (symbol_of c.args.globals.now name)))
    (sym (ap (λ ss. symbol_of ss name) (sym c.requires) ∙ absent))
