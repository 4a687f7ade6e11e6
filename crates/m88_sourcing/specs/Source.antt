-- The source of an image: its code with labels, and what isn't code as data that keeps its address. Each piece of the
-- image, all code or none, has its own address, so that what isn't code stays where it is.
use Rattle.std.specs.Prelude.{◌≡◌, ◌⊎◌, ◌↔◌, ℕ, zero, suc, ◌+◌, ◌*◌, ◌<◌, ◌≤◌, List, [], ◌∷◌, ◌++◌, length, drop, take, map, None, Contains, codes}
use Rattle.std.specs.List.Sorted.{IsStrictlySortedBy}
use Rattle.std.specs.Ordering.{nat_cmp}
use Rattle.m88_base.specs.Image.{ProgramImage, byte_at, parts}
use Rattle.m88_base.specs.Lines.{text_of_lines}
use Rattle.m88_base.specs.Placed.{Placed}
use Rattle.m88_isa.specs.declared.instr.Instr.{Instr}
use Rattle.m88_disasm.specs.Listing.{place_line, start_line}
use Rattle.m88_disasm.specs.Text.{hexadecimal}
use Rattle.m88_sourcing.specs.Code.{InCode, IsCode, HoldsInstruction}
use Rattle.m88_sourcing.specs.Data.{AreDataLines}
use Rattle.m88_sourcing.specs.Labels.{HasLabel, IsTarget, code_text, label_line, label_of}
use Rattle.m88_sourcing.specs.Said.{Said, Stays}

-- a line, where something holds
pub data LineWhere (P : Type 0) (line : List ℕ) : List (List ℕ) → Type 0 where
  so : P → LineWhere P line (line ∷ [])
  not_so : ¬ P → LineWhere P line []

-- the first n bytes of those from an address on are of a kind, and no more of them: all n are, and they are all, or the
-- next isn't
pub record IsPiece (Kind : ℕ → Type 0) (at : ℕ) (bytes : List ℕ) (n : ℕ) : Type 0 where
  pub some : 0 < n
  pub within : n ≤ length bytes
  pub even : (k : ℕ) → k < n → Kind (at + k)
  pub longest : (n ≡ length bytes) ⊎ ¬ Kind (at + n)

-- the same, cut in front of some places: all n are of the kind and none but the first is a place, and they are all, or the
-- next isn't of the kind or is a place
pub record IsCutPiece (Kind Place : ℕ → Type 0) (at : ℕ) (bytes : List ℕ) (n : ℕ) : Type 0 where
  pub some : 0 < n
  pub within : n ≤ length bytes
  pub even : (k : ℕ) → k < n → Kind (at + k)
  pub plain : (k : ℕ) → 0 < k → k < n → ¬ Place (at + k)
  pub longest : (n ≡ length bytes) ⊎ (¬ Kind (at + n) ⊎ Place (at + n))

-- the first n bytes of those from an address on have no label but in front of the first, and they are all, or the next
-- has one
pub record IsStretch (Labelled : ℕ → Type 0) (at : ℕ) (bytes : List ℕ) (n : ℕ) : Type 0 where
  pub some : 0 < n
  pub within : n ≤ length bytes
  pub plain : (k : ℕ) → 0 < k → k < n → ¬ Labelled (at + k)
  pub longest : (n ≡ length bytes) ⊎ Labelled (at + n)

-- the line of the label of an address, where it has one
abbrev pub IsLabelled : ProgramImage → Said → ℕ → List (List ℕ) → Type 0
IsLabelled image said a = LineWhere (HasLabel image said a) (label_line (label_of a))

-- the line that marks the start, where it is an address
abbrev pub IsStartMarked : ProgramImage → ℕ → List (List ℕ) → Type 0
IsStartMarked image a = LineWhere (a ≡ image.start) (label_line (codes "_start"))

-- the lines of so many words of code from an address on: of each its label, the mark of the start and its text, and
-- behind them whatever lines somebody put there
pub data AreCodeLines (put : ℕ → List (List ℕ)) (image : ProgramImage) (said : Said)
    : ℕ → ℕ → List (List ℕ) → Type 0 where
  no_word : {at : ℕ} → AreCodeLines put image said at zero []
  word : {at n : ℕ} {label start lines : List (List ℕ)} (i : Instr) → HoldsInstruction image at i
      → IsLabelled image said at label → IsStartMarked image at start
      → AreCodeLines put image said (at + 4) n lines
      → AreCodeLines put image said at (suc n) (label ++ (start ++ code_text at i ∷ (put at ++ lines)))

-- the lines of bytes from an address on that are no code: in turn, of those up to the next label
pub data AreLooseLines (image : ProgramImage) (said : Said) : ℕ → List ℕ → List (List ℕ) → Type 0 where
  no_byte : {at : ℕ} → AreLooseLines image said at [] []
  stretch : {at : ℕ} {bytes : List ℕ} {label own lines : List (List ℕ)} (n : ℕ)
      → IsStretch (HasLabel image said) at bytes n → IsLabelled image said at label
      → AreDataLines at (take n bytes) own
      → AreLooseLines image said (at + n) (drop n bytes) lines
      → AreLooseLines image said at bytes (label ++ (own ++ lines))

-- the lines of the bytes of a part from an address on: of its pieces in turn, each behind its address. A piece of code
-- is cut in front of words that stay where they are
pub data ArePieceLines (put : ℕ → List (List ℕ)) (image : ProgramImage) (said : Said)
    : ℕ → List ℕ → List (List ℕ) → Type 0 where
  no_piece : {at : ℕ} → ArePieceLines put image said at [] []
  code : {at : ℕ} {bytes : List ℕ} {own lines : List (List ℕ)} (n : ℕ)
      → IsCutPiece (InCode image said) (Stays said) at bytes (4 * n) → AreCodeLines put image said at n own
      → ArePieceLines put image said (at + 4 * n) (drop (4 * n) bytes) lines
      → ArePieceLines put image said at bytes (place_line at ∷ own ++ lines)
  loose : {at : ℕ} {bytes : List ℕ} {own lines : List (List ℕ)} (n : ℕ)
      → IsPiece (λ a. ¬ InCode image said a) at bytes n → AreLooseLines image said at (take n bytes) own
      → ArePieceLines put image said (at + n) (drop n bytes) lines
      → ArePieceLines put image said at bytes (place_line at ∷ own ++ lines)

-- the lines of parts in turn
pub data AreSourceLines (put : ℕ → List (List ℕ)) (image : ProgramImage) (said : Said)
    : List Placed → List (List ℕ) → Type 0 where
  no_part : AreSourceLines put image said [] []
  part : {run : Placed} {runs : List Placed} {own lines : List (List ℕ)}
      → ArePieceLines put image said run.at run.bytes own → AreSourceLines put image said runs lines
      → AreSourceLines put image said (run ∷ runs) (own ++ lines)

-- the targets where no byte is, in ascending order
pub record AreFar (image : ProgramImage) (said : Said) (targets : List ℕ) : Type 0 where
  pub ascending : IsStrictlySortedBy nat_cmp targets
  pub exactly : (t : ℕ) → Contains targets t ↔ (IsTarget image said t × (byte_at image t ≡ None))

-- the line that gives the name of one its value
abbrev pub far_line : ℕ → List ℕ
far_line t = codes ".set " ++ label_of t ++ codes "," ++ hexadecimal t

-- the source of an image, with the lines that somebody put behind words of code
pub record IsSourceWith (put : ℕ → List (List ℕ)) (image : ProgramImage) (said : Said) (text : List ℕ) : Type 0 where
  pub start : List (List ℕ)
  pub far : List ℕ
  pub lines : List (List ℕ)
  -- the start by its number, where it isn't the address of a word that is code
  pub starts : LineWhere (¬ IsCode image said image.start) (start_line image.start) start
  pub are_far : AreFar image said far
  pub are_lines : AreSourceLines put image said (parts image) lines
  pub text_is : text ≡ text_of_lines (start ++ (map far_line far ++ lines))

-- the source of an image
abbrev pub IsSource : ProgramImage → Said → List ℕ → Type 0
IsSource image said text = IsSourceWith (λ a. []) image said text
