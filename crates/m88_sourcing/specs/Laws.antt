-- What holds of every source of an image.
use Rattle.std.specs.Prelude.{ℕ, ◌≡◌, List, Option}
use Rattle.m88_base.specs.Image.{IsImage, ProgramImage}
use Rattle.m88_base.specs.OneVerdict.{HasOneFaultUnless}
use Rattle.m88_parse.specs.Language.Units.{IsUnit}
use Rattle.m88_parse.specs.declared.unit.Unit.{Unit as Source}
use Rattle.m88_disasm.specs.Read.{WritesImage}
use Rattle.m88_sourcing.specs.Answer.{Sources}
use Rattle.m88_sourcing.specs.Inputs.{IsAcceptedIn, IsRefusedIn}
use Rattle.m88_sourcing.specs.Insertion.{KeepsItsBranches}
use Rattle.m88_sourcing.specs.Request.{Request}
use Rattle.m88_sourcing.specs.Said.{Said}
use Rattle.m88_sourcing.specs.Source.{IsSource}
use Rattle.m88_sourcing.specs.Targets.{NamesItsTargets}
use Rattle.m88_sourcing.specs.declared.request.Binary.{Binary}

-- read, assembled and linked it is the image with its start
abbrev pub EachBuildsBack : Type 0
EachBuildsBack =
    (image : ProgramImage) (said : Said) (text : List ℕ) → IsImage image → IsSource image said text
    → WritesImage text image

-- every branch of it names its target
abbrev pub EachNamesItsTargets : Type 0
EachNamesItsTargets =
    (image : ProgramImage) (said : Said) (text : List ℕ) (unit : Source) → IsImage image → IsSource image said text
    → IsUnit text unit → NamesItsTargets image said unit

-- with one more statement behind a word of code nothing but the code behind it moves, and every branch leads to where
-- it led
abbrev pub EachKeepsItsBranches : Type 0
EachKeepsItsBranches =
    (image : ProgramImage) (said : Said) → IsImage image → KeepsItsBranches image said

-- what holds of all of them
pub record SourcingLaws : Type 0 where
  -- an input is accepted, or refused for one reason, never both; and as it is asked for it has one text
  pub one_verdict : (binary : Option Binary) (input : List ℕ)
      → HasOneFaultUnless (IsAcceptedIn binary input) (IsRefusedIn binary input)
  pub one_text : (request : Request) (input a b : List ℕ) → Sources request input a → Sources request input b → a ≡ b
  -- of every source `build` makes the image again, and every branch that is code names its target; with one more
  -- statement of four bytes, without a label, behind a word of code what is no code stays, and every branch leads to
  -- where it led, wherever that is accepted
  pub builds : EachBuildsBack
  pub names : EachNamesItsTargets
  pub inserts : EachKeepsItsBranches
