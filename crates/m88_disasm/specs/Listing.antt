-- The listing of an image: a source in the assembly language that writes the same bytes at the same addresses, and the
-- same start. It names the start, and then each part of the image in order of address: the address of the part and a
-- line for each of its words and of its bytes that belong to no whole word.
use Rattle.std.specs.Prelude.{◌≡◌, ℕ, ◌+◌, ◌%◌, ◌≤◌, List, [], ◌∷◌, ◌++◌, codes, length}
use Rattle.std.specs.Int.{from_be_bytes, w32}
use Rattle.m88_base.specs.Hex.{hex2}
use Rattle.m88_base.specs.Image.{ProgramImage, parts}
use Rattle.m88_base.specs.Lines.{text_of_lines}
use Rattle.m88_base.specs.Placed.{Placed}
use Rattle.m88_isa.specs.Word.{IsWord}
use Rattle.m88_isa.specs.declared.instr.Instr.{Instr}
use Rattle.m88_disasm.specs.Text.{hexadecimal, instr_text, word_text}

-- the line that says where the program starts
abbrev pub start_line : ℕ → List ℕ
start_line start = codes ".set _start," ++ hexadecimal start

-- the line that says where a part begins
abbrev pub place_line : ℕ → List ℕ
place_line at = codes ".at " ++ hexadecimal at

-- the line of a byte by itself
abbrev pub lone_byte_line : ℕ → List ℕ
lone_byte_line b = codes ".byte 0x" ++ hex2 b

-- the line of a word: the text of the instruction whose word it is, or the word where it is that of none
pub data IsWordLine (word : ℕ) : List ℕ → Type 0 where
  instruction : (i : Instr) → IsWord i word → IsWordLine word (instr_text i)
  no_instruction : ((i : Instr) → IsWord i word → ⊥) → IsWordLine word (word_text word)

-- a word begins here: the address is a multiple of 4, and at least four bytes are left
abbrev pub BeginsWord : ℕ → List ℕ → Type 0
BeginsWord at bytes = (at % 4 ≡ 0) × (4 ≤ length bytes)

-- the lines of the bytes from an address on: one for the word that begins there, else one for the byte
pub data AreLinesFrom : ℕ → List ℕ → List (List ℕ) → Type 0 where
  no_line : {at : ℕ} → AreLinesFrom at [] []
  word : {at a b c d : ℕ} {bytes line : List ℕ} {lines : List (List ℕ)}
      → BeginsWord at (a ∷ b ∷ c ∷ d ∷ bytes) → IsWordLine (from_be_bytes w32 (a ∷ b ∷ c ∷ d ∷ [])) line
      → AreLinesFrom (at + 4) bytes lines → AreLinesFrom at (a ∷ b ∷ c ∷ d ∷ bytes) (line ∷ lines)
  byte : {at b : ℕ} {bytes : List ℕ} {lines : List (List ℕ)}
      → (BeginsWord at (b ∷ bytes) → ⊥) → AreLinesFrom (at + 1) bytes lines
      → AreLinesFrom at (b ∷ bytes) (lone_byte_line b ∷ lines)

-- the lines of the parts in turn
pub data ArePartLines : List Placed → List (List ℕ) → Type 0 where
  no_part : ArePartLines [] []
  part : {run : Placed} {runs : List Placed} {lines more : List (List ℕ)}
      → AreLinesFrom run.at run.bytes lines → ArePartLines runs more
      → ArePartLines (run ∷ runs) (place_line run.at ∷ lines ++ more)

-- the listing of an image
pub record IsImageListing (image : ProgramImage) (text : List ℕ) : Type 0 where
  pub lines : List (List ℕ)
  pub are_lines : ArePartLines (parts image) lines
  pub text_is : text ≡ text_of_lines (start_line image.start ∷ lines)
