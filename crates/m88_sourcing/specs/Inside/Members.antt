-- Sets of addresses, and what is known of an image before its source is written.
use Rattle.std.specs.Prelude.{◌≡◌, ◌⊎◌, ◌↔◌, ℕ, Bool, Option, None, Some, Contains, IsSome, IsTrue}
use Rattle.std.specs.FinSet.{contains}
use Rattle.m88_base.specs.Image.{ProgramImage, byte_at}
use Rattle.m88_isa.specs.Address.{word_address}
use Rattle.m88_sourcing.specs.Code.{IsCode}
use Rattle.m88_sourcing.specs.Labels.{HasLabel}
use Rattle.m88_sourcing.specs.Said.{Said, Stays}
use Rattle.m88_sourcing.specs.Source.{AreFar}
use Rattle.m88_sourcing.specs.declared.outline.Noted.{Noted}
use Rattle.m88_sourcing.specs.declared.outline.Noted.TheVariants.{Before, Now}
use Rattle.m88_sourcing.specs.declared.outline.Outline.{Outline}

-- the words that are code, the addresses with a label, the targets without a byte, and the words that stay where they are
pub record OutlinesImage (image : ProgramImage) (said : Said) (o : Outline) : Type 0 where
  pub code : (a : ℕ) → IsTrue (contains o.code a) ↔ IsCode image said a
  pub labels : (a : ℕ) → IsTrue (contains o.labels a) ↔ HasLabel image said a
  pub far : AreFar image said o.far.items
  pub stays : (a : ℕ) → IsTrue (contains o.stays a) ↔ Stays said a

-- it is the outline of the image, with code that begins at some addresses besides the start
abbrev pub IsOutlined : ProgramImage → Outline → Type 0
IsOutlined image o = (said : Said) × OutlinesImage image said o

-- the byte at an address belongs to a word of a set
abbrev pub among_words : (ℕ → Bool) → ℕ → Bool
among_words words a = words (word_address a)

-- it does as that at another address does
abbrev pub AsAt : (ℕ → Bool) → ℕ → ℕ → Type 0
AsAt words at a = among_words words a ≡ among_words words at

-- of the addresses of a kind those with a byte were noted as labels, and those without one as far targets
pub record Notes (image : ProgramImage) (Named : ℕ → Type 0) (old new : Outline) : Type 0 where
  pub code : new.code ≡ old.code
  pub labels : (a : ℕ) → IsTrue (contains new.labels a)
      ↔ (IsTrue (contains old.labels a) ⊎ (Named a × IsSome (byte_at image a)))
  pub far : (a : ℕ) → Contains new.far.items a
      ↔ (Contains old.far.items a ⊎ (Named a × (byte_at image a ≡ None)))

-- a label is one that was there, or the one that is given
abbrev pub AddsLabel : Outline → Outline → Option ℕ → Type 0
AddsLabel old new label =
    (a : ℕ) → IsTrue (contains new.labels a) → IsTrue (contains old.labels a) ⊎ (label ≡ Some a)

-- the label that was noted with a word, where there is one
abbrev pub noted_label : Noted → Option ℕ
noted_label Before = None
noted_label (Now label) = label
