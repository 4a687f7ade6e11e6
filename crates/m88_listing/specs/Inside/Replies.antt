-- What the reply to a source says.
use Rattle.std.specs.Prelude.{ℕ, List, ◌≡◌}
use Rattle.m88_base.specs.Image.{ProgramImage}
use Rattle.m88_base.specs.Reply.{AnswersAs, RefusesAs}
use Rattle.m88_base.specs.declared.reply.Reply.{Reply}
use Rattle.m88_parse.specs.Language.Units.{IsUnit}
use Rattle.m88_parse.specs.WellFormed.{IsWellFormed}
use Rattle.m88_parse.specs.declared.unit.Unit.{Unit as Source}
use Rattle.m88_link.specs.Refusal.{IsRefused}
use Rattle.m88_link.specs.declared.fault.LinkFault.{LinkFault}
use Rattle.m88_link.specs.declared.fault.LinkKind.{LinkKind}
use Rattle.m88_link.specs.declared.fault.LinkKind.TheVariants as kind
use Rattle.m88_link.specs.declared.object.Object.{Object}
use Rattle.m88_asm.specs.Accepted.{IsAcceptedUnit}
use Rattle.m88_asm.specs.Faults.{IsAssembled}
use Rattle.m88_asm.specs.Units.{unit_layout}
use Rattle.m88_asm.specs.Images.{IsUnitImage}
use Rattle.m88_asm.specs.Objects.{objects_of}
use Rattle.m88_asm.specs.Sources.{IsRefusedProgram}
use Rattle.m88_listing.specs.Answer.{ListsRefused}
use Rattle.m88_listing.specs.Listing.{ListsAccepted}

-- the reply's text lists a source that is accepted or refused, as the reply says, and its refusal is that of the source
abbrev pub ListsAs : List ℕ → Reply → Type 0
ListsAs source r =
    AnswersAs (ListsAccepted source) (ListsRefused source) r × RefusesAs (IsRefusedProgram 0 source) r

-- a source has a unit that is accepted, and these are its objects and its image
pub record IsBuilt (source : List ℕ) (unit : Source) (objects : List Object) (image : ProgramImage) : Type 0 where
  pub is_unit : IsUnit source unit
  pub formed : IsWellFormed unit
  pub are_objects : objects ≡ objects_of unit
  pub accepted : IsAcceptedUnit unit
  pub is_image : IsUnitImage unit image

-- a source has a unit whose statements meet no fault, these are its objects, and its layout is refused so
pub record IsUnlinkedUnit (source : List ℕ) (unit : Source) (objects : List Object) (fault : LinkFault) : Type 0 where
  pub is_unit : IsUnit source unit
  pub formed : IsWellFormed unit
  pub are_objects : objects ≡ objects_of unit
  pub assembled : IsAssembled unit
  pub is_refused : IsRefused (unit_layout unit) fault

-- a name or a distance is refused
abbrev pub IsOfName : LinkKind → Type 0
IsOfName (kind.Duplicate name first) = Unit {0}
IsOfName (kind.Undefined name) = Unit {0}
IsOfName (kind.TooFar distance) = Unit {0}
IsOfName _ = ⊥
