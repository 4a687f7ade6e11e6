-- The columns, the line and its end.
use Rattle.std.proofs.Common.{◌∙◌, ◌++◌, [], ℕ, ap, decimal, sym}
use Rattle.m88_base.specs.Lines.{line_end}
use Rattle.m88_listing.specs.Columns.{at_right, columns, no_address}
use Rattle.m88_listing.proofs.Lines.{bare_written, empty_written}
use Rattle.m88_listing.proofs.column.Column.push_line.Goals as goal

pub returns-then-is_empty : goal.returns-then-is_empty
returns-then-is_empty c =
    empty_written c.args.self.now c.args.line.now c.args.text.now.items c.self.inside.alone _ (sym c.is_empty.ensures ∙ c.if-is_empty.true)
    (c.self.invariant.1 ∙ ap (λ (n : ℕ). at_right 7 (decimal n) ++ line_end) c.self.view_is) c.in_ok-extend_from_slice.ensures.items

pub returns : goal.returns
returns c =
    bare_written c.args.self.now c.args.line.now c.args.text.now.items c.self.inside.head _ _ _ (sym c.is_empty.ensures ∙ c.if-is_empty.false)
    (c.self.invariant.2 ∙ ap (λ (n : ℕ). columns n no_address []) c.self.view_is) c.in_ok-extend_from_slice-2.ensures.items
    c.in_ok-extend_from_slice-3.ensures.items c.in_ok-push.ensures.items
