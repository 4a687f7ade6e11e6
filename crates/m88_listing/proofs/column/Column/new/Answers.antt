-- The columns begin as the line of the number alone does.
use Rattle.std.proofs.Common.{◌∙◌, ◌++◌, ap}
use Rattle.m88_listing.specs.Columns.{blanks}
use Rattle.m88_listing.proofs.NextNumber.{begun}
use Rattle.m88_listing.proofs.column.Column.new.Goals as goal

pub invariant_of-result : goal.invariant_of-result
invariant_of-result c =
    let line = c.alone-alone in (
      c.requires,
      line.ensures,
      ap (λ xs. xs ++ blanks 33) c.copy_from_slice.ensures.after ∙ begun line.result c.args.number c.requires line.ensures,
    )
