-- Texts of objects: whether one can be linked, the image that its objects are linked into, and where and why it is
-- refused.
use Rattle.std.specs.Prelude.{ℕ, ◌≡◌, ◌⊎◌, List}
use Rattle.m88_base.specs.Image.{IsImage, ProgramImage}
use Rattle.m88_base.specs.Refusal.{Refusal}
use Rattle.m88_link.specs.Layout.{layout_of}
use Rattle.m88_link.specs.Linked.{IsLinked}
use Rattle.m88_link.specs.ObjectRead.{IsFormLine, IsRangeLine, IsSoundText}
use Rattle.m88_link.specs.Reasons.{object_reason}
use Rattle.m88_link.specs.Refusal.{IsLinkable, IsRefused}
use Rattle.m88_link.specs.declared.fault.LinkFault.{LinkFault}
use Rattle.m88_link.specs.declared.object.Object.{Object}
use Rattle.m88_link.specs.declared.object_fault.ObjectFault.{ObjectFault}
use Rattle.m88_link.specs.declared.object_fault.ObjectFault.TheVariants.{Form, Range}
use Rattle.m88_asm.specs.Sources.{link_refusal}

-- the text can be linked: it is that of sound objects, and no refusal of their layout occurs
pub record IsLinkableText (text : List ℕ) : Type 0 where
  pub objects : List Object
  pub is_text : IsSoundText objects text
  pub is_linkable : IsLinkable (layout_of objects)

-- the image is the one that the text's objects are linked into
pub record IsImageOfObjects (text : List ℕ) (image : ProgramImage) : Type 0 where
  pub objects : List Object
  pub is_text : IsSoundText objects text
  pub is_image : IsImage image
  pub is_linked : IsLinked (layout_of objects) image

-- the refusal at a line with this fault
abbrev pub object_refusal : ℕ → ObjectFault → Refusal
object_refusal line fault = record { line = line; column = 1; reason = object_reason fault }

-- a text that is none of objects is refused at the first line that no such text continues
pub record IsNoObjects (text : List ℕ) (r : Refusal) : Type 0 where
  pub line : ℕ
  pub is_first : IsFormLine text line
  pub refusal : r ≡ object_refusal line (Form line)

-- that of objects which aren't all sound, at the first line by which one of them isn't
pub record IsUnsound (text : List ℕ) (r : Refusal) : Type 0 where
  pub line : ℕ
  pub is_first : IsRangeLine text line
  pub refusal : r ≡ object_refusal line (Range line)

-- and that of sound objects, at the refusal of their layout
pub record IsUnlinkable (text : List ℕ) (r : Refusal) : Type 0 where
  pub objects : List Object
  pub is_text : IsSoundText objects text
  pub fault : LinkFault
  pub is_refused : IsRefused (layout_of objects) fault
  pub refusal : r ≡ link_refusal 0 fault

-- a text of objects that can't be linked is refused so
abbrev pub IsRefusedObjects : List ℕ → Refusal → Type 0
IsRefusedObjects text r = IsNoObjects text r ⊎ IsUnsound text r ⊎ IsUnlinkable text r
