-- The objects so far with those that are left are all where they are linked, and no end of those that are left is high.
use Rattle.std.proofs.Common.{◌≡◌, ◌+◌, ◌*◌, ◌≤◌, ◌++◌, drop, sum_by}
use Rattle.m88_link.specs.Bases.{first_text, section_size, stood, stood_from, up_to_multiple}
use Rattle.m88_base.specs.Image.{most_bytes}
use Rattle.m88_base.specs.Pages.{page_bytes}
use Rattle.m88_link.proofs.bases.stand.Given as goal

abbrev pub invariant-loop-object : goal.invariant-loop-object
invariant-loop-object l =
    (l.placements.items ++ stood_from section_size l.text_at l.data_at (drop l.object-index l.objects) ≡ stood section_size l.objects)
    × (up_to_multiple 8 l.text_at + 8 * sum_by (section_size 0) (drop l.object-index l.objects) ≤ first_text + 8 * most_bytes)
    × (up_to_multiple 8 l.data_at + 8 * sum_by (section_size 1) (drop l.object-index l.objects) ≤ first_text + 16 * most_bytes + page_bytes)
