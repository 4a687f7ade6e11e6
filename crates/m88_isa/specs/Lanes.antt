-- The bytes of a word of memory and the enables that name some of them ("Control Registers": the enables of a data
-- transaction). Memory is big-endian: offset 0 is the highest byte of a word, and its enable is bit 3.
use Rattle.std.specs.Prelude.{ℕ, zero, suc, Bool, ◌≡◌, ◌≢◌, ◌⊎◌, ◌<◌, ◌+◌, ◌-◌, ◌*◌, ◌/◌, ◌%◌, ◌^◌, ◌==◌, ◌&&◌, nat_lt, nat_le, if◌then◌else◌}
use Rattle.std.specs.Int.{bit_at}
use Rattle.m88_isa.specs.Address.{word_address}
use Rattle.m88_isa.specs.Compute.{weight_if}

-- the enables that an access has: the word, its two halves, its four bytes
abbrev pub IsEnable : ℕ → Type 0
IsEnable en = (en ≡ 15) ⊎ (en ≡ 12) ⊎ (en ≡ 3) ⊎ (en ≡ 8) ⊎ (en ≡ 4) ⊎ (en ≡ 2) ⊎ (en ≡ 1)

-- the enable of the 4, 2 or 1 bytes at a place
abbrev pub enable_of : ℕ → ℕ → ℕ
enable_of place size =
    if size == 4 then 15 else if size == 2 then (if place % 4 == 0 then 12 else 3) else 2 ^ (3 - place % 4)

-- the byte at an offset of a word
abbrev pub byte_of : ℕ → ℕ → ℕ
byte_of word offset = word / 2 ^ (8 * (3 - offset)) % 2 ^ 8

-- an enable names the byte at an offset
abbrev pub is_touched : ℕ → ℕ → Bool
is_touched en offset = bit_at en (3 - offset) == 1

-- how many bytes below an offset it names
abbrev pub touched_below : ℕ → ℕ → ℕ
touched_below en zero = 0
touched_below en (suc offset) = touched_below en offset + weight_if (is_touched en offset) 1

-- the big-endian number of the bytes below an offset that it names
abbrev pub joined_below : ℕ → ℕ → ℕ → ℕ
joined_below en word zero = 0
joined_below en word (suc offset) =
    if is_touched en offset then joined_below en word offset * 2 ^ 8 + byte_of word offset
    else joined_below en word offset

-- a number of this many bytes as a word: with a sign mark its highest bit is carried on to bit 31
abbrev pub widened : Bool → ℕ → ℕ → ℕ
widened signed size n = if signed && nat_le (2 ^ (8 * size) / 2) n then n + (2 ^ 32 - 2 ^ (8 * size)) else n

-- the datum of a load: what the bytes that an enable names come to
abbrev pub datum_of : ℕ → Bool → ℕ → ℕ
datum_of en signed word = widened signed (touched_below en 4) (joined_below en word 4)

-- the byte at an offset after a store: a touched one is a byte of the register's low bytes, the others stay
abbrev pub stored_byte : ℕ → ℕ → ℕ → ℕ → ℕ
stored_byte en value word offset =
    if is_touched en offset then value / 2 ^ (8 * (touched_below en 4 - touched_below en (offset + 1))) % 2 ^ 8
    else byte_of word offset

-- the word after a store
abbrev pub merged : ℕ → ℕ → ℕ → ℕ
merged en value word =
    stored_byte en value word 0 * 2 ^ 24
    + stored_byte en value word 1 * 2 ^ 16
    + stored_byte en value word 2 * 2 ^ 8
    + stored_byte en value word 3

-- memory as bytes: every address has a number below 2^8
abbrev pub AreBytes : (ℕ → ℕ) → Type 0
AreBytes memory = (a : ℕ) → memory a < 2 ^ 8

-- the big-endian number of the bytes of memory from a place on
abbrev pub number_at : (ℕ → ℕ) → ℕ → ℕ → ℕ
number_at memory place zero = 0
number_at memory place (suc count) = number_at memory place count * 2 ^ 8 + memory (place + count)

-- memory after the low bytes of a value are written from a place on
abbrev pub stored_at : (ℕ → ℕ) → ℕ → ℕ → ℕ → ℕ → ℕ
stored_at memory place size value a =
    if nat_le place a && nat_lt a (place + size) then value / 2 ^ (8 * (place + size - 1 - a)) % 2 ^ 8 else memory a

-- 1, 2 or 4 bytes at a place that is aligned to them
abbrev pub IsAligned : ℕ → ℕ → Type 0
IsAligned place size = (size ≡ 1) ⊎ (size ≡ 2) × (place % 2 ≡ 0) ⊎ (size ≡ 4) × (place % 4 ≡ 0)

-- a load by an enable gives what a load of the bytes at any place with that enable gives
abbrev pub LoadsBytes : ℕ → Bool → ℕ → ℕ → Type 0
LoadsBytes en signed word datum =
    (memory : ℕ → ℕ) (place size : ℕ)
    → AreBytes memory
    → IsAligned place size
    → enable_of place size ≡ en
    → number_at memory (word_address place) 4 ≡ word
    → datum ≡ widened signed size (number_at memory place size)

-- a store by an enable leaves what a store of the bytes at any place with that enable leaves, in its word and
-- at every other address
abbrev pub StoresBytes : ℕ → ℕ → ℕ → ℕ → Type 0
StoresBytes en value word after =
    (memory : ℕ → ℕ) (place size : ℕ)
    → AreBytes memory
    → IsAligned place size
    → enable_of place size ≡ en
    → number_at memory (word_address place) 4 ≡ word
    → (after ≡ number_at (stored_at memory place size value) (word_address place) 4)
    × ((a : ℕ) → word_address a ≢ word_address place → stored_at memory place size value a ≡ memory a)
