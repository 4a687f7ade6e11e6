-- The reasons of the linker's faults and of those of a text of objects, in the words of a refused line (formats: the
-- line that refuses an input).
use Rattle.std.specs.Prelude.{ℕ, List, ◌++◌, codes, decimal}
use Rattle.std.specs.Fmt.{signed_decimal}
use Rattle.m88_base.specs.Hex.{hex8}
use Rattle.m88_base.specs.Refused.{placed_reason}
use Rattle.m88_link.specs.declared.fault.LinkKind.{LinkKind}
use Rattle.m88_link.specs.declared.fault.LinkKind.TheVariants as kind
use Rattle.m88_link.specs.declared.object_fault.ObjectFault.{ObjectFault}
use Rattle.m88_link.specs.declared.object_fault.ObjectFault.TheVariants as object

-- a name that is defined already, with the line of its first definition
abbrev pub duplicate_reason : List ℕ → ℕ → List ℕ
duplicate_reason name first = codes "duplicate " ++ name ++ codes " first at " ++ decimal first

-- the reason of a fault of the linker
unfoldable pub link_reason : LinkKind → List ℕ
link_reason kind.TooLarge = codes "too large"
link_reason (kind.Overlap at) = codes "overlap " ++ hex8 at
link_reason (kind.Duplicate name first) = duplicate_reason name first
link_reason (kind.Undefined name) = codes "undefined " ++ name
link_reason (kind.TooFar distance) = codes "too far " ++ signed_decimal distance
link_reason kind.Memory = codes "out of memory"

-- the reason of a fault of a text of objects
unfoldable pub object_reason : ObjectFault → List ℕ
object_reason (object.Form line) = codes "form"
object_reason (object.Range line) = codes "range"
object_reason object.Memory = codes "out of memory"

-- a fault of a text of objects, behind the line that it is told at if it has one, and column 1
unfoldable pub object_fault_text : ObjectFault → List ℕ
object_fault_text (object.Form line) = placed_reason line 1 (object_reason (object.Form line))
object_fault_text (object.Range line) = placed_reason line 1 (object_reason (object.Range line))
object_fault_text object.Memory = object_reason object.Memory
