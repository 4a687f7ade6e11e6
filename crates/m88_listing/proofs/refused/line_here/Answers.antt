-- The first of the lines that are left.
use Rattle.std.proofs.Common.{◌≡◌, [], List, ℕ, ap, arith, length, sym}
use Rattle.std.specs.Prelude.{slice_index_or}
use Rattle.std.proofs.lemmas.Grind.{common_steps}
use Rattle.m88_listing.proofs.Lines.{no_lines}
use Rattle.m88_listing.proofs.refused.line_here.Goals as goal

pub returns-then-is_empty : goal.returns-then-is_empty
returns-then-is_empty c =
    let none : length c.args.rest.now ≡ 0 = grind (arith, common_steps) in
    ap (λ (ls : List (List ℕ)). slice_index_or ls 0 []) (sym (no_lines c.args.rest.now none))

pub returns : goal.returns
returns c = ap (λ (ls : List (List ℕ)). slice_index_or ls 0 []) (sym c.first_line.ensures.lines)
