-- The definition of the name is replaced where it stands, if there is one.
use Rattle.std.proofs.Common.{◌≡◌, ◌∙◌, sym, ap, arith}
use Rattle.std.specs.Prelude.{bytes_eq, None, Some}
use Rattle.std.specs.Option.{option_map}
use Rattle.std.specs.Map.{lookup}
use Rattle.std.proofs.lemmas.Grind.{common_steps}
use Rattle.m88_link.specs.Inside.Exports.{withdrawn}
use Rattle.m88_link.specs.Inside.Tables.{entry_symbols}
use Rattle.m88_link.specs.Symbols.{joined, symbol_of}
use Rattle.m88_link.proofs.Tabled.{found, withdrawn_is, withdrawn_none}
use Rattle.m88_link.proofs.table.SymbolTable.withdraw.Goals as goal

pub returns-in_ok-insert : goal.returns-in_ok-insert
returns-in_ok-insert c =
    let es = c.self.inside.symbols.entries in
    let there : lookup (bytes_eq c.args.name.now) es ≡ Some c.in-Some.found.now = grind (arith, common_steps) in
    ap entry_symbols c.in_ok-insert.ensures.entries
    ∙ withdrawn_is c.args.name.now c.in-Some.found.now es there
    ∙ ap (withdrawn c.args.name.now) c.self.view_is

pub returns-in_default : goal.returns-in_default
returns-in_default c =
    let es = c.self.inside.symbols.entries in
    let none : lookup (bytes_eq c.args.name.now) es ≡ None = grind (arith, common_steps) in
    sym (withdrawn_none c.args.name.now c.args.self.now
    (ap (λ l. symbol_of l c.args.name.now) (sym c.self.view_is) ∙ sym (found c.args.name.now es) ∙ ap (option_map (joined c.args.name.now)) none))
