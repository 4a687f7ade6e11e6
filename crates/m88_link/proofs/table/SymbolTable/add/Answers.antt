-- One symbol more stands behind the others.
use Rattle.std.proofs.Common.{◌∙◌, ap, ◌++◌, ◌∷◌, []}
use Rattle.m88_link.specs.declared.object.Definition.{Definition}
use Rattle.m88_link.specs.Symbols.{symbol_of}
use Rattle.m88_link.specs.Inside.Tables.{entry_symbols}
use Rattle.m88_link.proofs.Tabled.{added}
use Rattle.m88_link.proofs.table.SymbolTable.add.Goals as goal

pub returns-clause-ok : goal.returns-clause-ok
returns-clause-ok c =
    let s = c.args.symbol in
    let d : Definition = record { global = s.global; section = s.section; value = s.value; line = s.line; col = s.col } in
    ap entry_symbols c.in_ok-insert.ensures.entries
    ∙ added s.name d c.self.inside.symbols.entries (ap (λ l. symbol_of l s.name) c.self.view_is ∙ c.requires)
    ∙ ap (λ l. l ++ s ∷ []) c.self.view_is
