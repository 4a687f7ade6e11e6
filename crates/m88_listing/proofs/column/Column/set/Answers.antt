-- The columns begin as the line of the number alone does, and blanks stay behind it.
use Rattle.std.proofs.Common.{◌∙◌, ◌++◌, ap, take, drop}
use Rattle.m88_listing.proofs.NextNumber.{begun, blank_behind}
use Rattle.m88_listing.proofs.column.Column.set.Goals as goal

pub invariant_of-self : goal.invariant_of-self
invariant_of-self c =
    let head = c.self.inside.head in
    let line = c.alone-line in (
      c.requires,
      line.ensures,
      ap (λ xs. xs ++ drop 7 head) c.copy_from_slice.ensures.after
          ∙ ap (λ ys. take 7 line.result ++ ys) (blank_behind head c.self.inside.number c.self.invariant.0 c.self.invariant.2)
          ∙ begun line.result c.args.number c.requires line.ensures,
    )
