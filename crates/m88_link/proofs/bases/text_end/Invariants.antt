-- From the end so far the objects that are left end where all objects do, and that isn't high.
use Rattle.std.proofs.Common.{◌≡◌, ◌+◌, ◌*◌, ◌≤◌, drop, sum_by}
use Rattle.m88_link.specs.Bases.{first_text, section_size, text_end, up_to_multiple}
use Rattle.m88_base.specs.Image.{most_bytes}
use Rattle.m88_link.proofs.bases.text_end.Given as goal

abbrev pub invariant-loop-object : goal.invariant-loop-object
invariant-loop-object l =
    (text_end section_size l.end (drop l.object-index l.objects) ≡ text_end section_size first_text l.objects)
    × (up_to_multiple 8 l.end + 8 * sum_by (section_size 0) (drop l.object-index l.objects) ≤ first_text + 8 * most_bytes)
