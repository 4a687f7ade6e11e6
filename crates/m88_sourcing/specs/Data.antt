-- The lines of bytes that are no code, one for each item: of what stands first, by the first that fits, zeros, a text,
-- words, and else a byte.
use Rattle.std.specs.Prelude.{◌≡◌, ℕ, zero, suc, Bool, ◌+◌, ◌*◌, ◌%◌, ◌<◌, ◌==◌, ◌&&◌, ◌||◌, nat_le, nat_lt, if◌then◌else◌, List, [], ◌∷◌, ◌++◌, length, take, drop, codes, decimal, flat_map, map, slice_index}
use Rattle.std.specs.List.{prefix_len}
use Rattle.std.specs.Int.{from_be_bytes, w32}
use Rattle.m88_disasm.specs.Listing.{lone_byte_line}
use Rattle.m88_disasm.specs.Text.{hexadecimal, spelled}
use Rattle.m88_sourcing.specs.declared.item.Item.{Item}
use Rattle.m88_sourcing.specs.declared.item.Item.TheVariants.{Zeros, Text, Words, Lone}

-- so many zero bytes stand first
abbrev pub zeros_here : List ℕ → ℕ
zeros_here bytes = prefix_len (λ b. b == 0) bytes

-- the fewest zeros that are told as a count
abbrev pub fewest_zeros : ℕ
fewest_zeros = 16

-- a blank, a letter, a digit or a mark
abbrev pub is_printed : ℕ → Bool
is_printed b = nat_le 32 b && nat_le b 126

-- so many of them stand first
abbrev pub printed_here : List ℕ → ℕ
printed_here bytes = prefix_len is_printed bytes

-- the fewest of them that are a text
abbrev pub fewest_printed : ℕ
fewest_printed = 8

-- a byte that ends a text and belongs to it: 0 or line feed
abbrev pub is_own_end : ℕ → Bool
is_own_end b = b == 0 || b == 10

-- the length of a text of n bytes with its end, by what stands behind the n: one byte more where that belongs to it, no
-- more where it is a carriage return, which the language can't write in a text; else it is no text
abbrev pub text_ended : ℕ → List ℕ → ℕ
text_ended n [] = 0
text_ended n (b ∷ bytes) = if is_own_end b then n + 1 else (if b == 13 then n else 0)

-- the length of the text that stands first, 0 where none does
abbrev pub text_here : List ℕ → ℕ
text_here bytes =
    if nat_lt (printed_here bytes) fewest_printed then 0
    else text_ended (printed_here bytes) (drop (printed_here bytes) bytes)

-- a word by itself stands first: at a multiple of 4, of four bytes, where neither zeros nor a text do
abbrev pub is_word_here : ℕ → List ℕ → Bool
is_word_here at bytes =
    at % 4 == 0 && nat_le 4 (length bytes) && nat_lt (zeros_here bytes) fewest_zeros && text_here bytes == 0

-- so many of them stand first in turn, at most n
abbrev pub words_here : ℕ → ℕ → List ℕ → ℕ
words_here zero at bytes = 0
words_here (suc n) at bytes = if is_word_here at bytes then words_here n (at + 4) (drop 4 bytes) + 1 else 0

-- the most words in a line
abbrev pub most_in_line : ℕ
most_in_line = 8

-- what stands first, of bytes from an address on
abbrev pub item_here : ℕ → List ℕ → Item
item_here at bytes =
    if nat_le fewest_zeros (zeros_here bytes) then Zeros (zeros_here bytes)
    else if nat_lt 0 (text_here bytes) then Text (text_here bytes)
    else if nat_lt 0 (words_here most_in_line at bytes) then Words (words_here most_in_line at bytes)
    else Lone

-- how many bytes it has
abbrev pub item_length : Item → ℕ
item_length (Zeros n) = n
item_length (Text n) = n
item_length (Words n) = 4 * n
item_length Lone = 1

-- a byte in a text: line feed, 0, quote and backslash by their escapes
abbrev pub in_text : ℕ → List ℕ
in_text b =
    if b == 10 then codes "\\n" else (if b == 0 then codes "\\0" else (if b == 34 then codes "\\\""
    else (if b == 92 then codes "\\\\" else b ∷ [])))

-- the line of so many zeros
abbrev pub zeros_line : ℕ → List ℕ
zeros_line n = codes ".zero " ++ decimal n

-- the line of a text
abbrev pub text_line : List ℕ → List ℕ
text_line bytes = codes ".ascii \"" ++ flat_map in_text bytes ++ codes "\""

-- the first n words of some bytes
abbrev pub whole_words : ℕ → List ℕ → List ℕ
whole_words zero bytes = []
whole_words (suc n) bytes = from_be_bytes w32 (take 4 bytes) ∷ whole_words n (drop 4 bytes)

-- their line
abbrev pub words_line : ℕ → List ℕ → List ℕ
words_line n bytes = spelled (codes ".word") (map hexadecimal (whole_words n bytes))

-- the line of what stands first
abbrev pub item_line : List ℕ → Item → List ℕ
item_line bytes (Zeros n) = zeros_line n
item_line bytes (Text n) = text_line (take n bytes)
item_line bytes (Words n) = words_line n bytes
item_line bytes Lone = lone_byte_line (slice_index bytes 0)

-- the lines of bytes from an address on: that of what stands first, and those of the others
pub data AreDataLines : ℕ → List ℕ → List (List ℕ) → Type 0 where
  no_line : {at : ℕ} → AreDataLines at [] []
  item : {at n : ℕ} {bytes : List ℕ} {lines : List (List ℕ)} → 0 < length bytes
      → n ≡ item_length (item_here at bytes) → AreDataLines (at + n) (drop n bytes) lines
      → AreDataLines at bytes (item_line bytes (item_here at bytes) ∷ lines)
