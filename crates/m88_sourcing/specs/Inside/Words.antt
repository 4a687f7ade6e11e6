-- Sets of addresses, by rows of bits.
use Rattle.std.specs.Prelude.{ℕ, Bool, zero, suc, ◌+◌, ◌*◌, ◌-◌, ◌/◌, ◌%◌, ◌^◌, ◌==◌, ◌&&◌, Option, None, Some, if◌then◌else◌, length, nat_eq, nat_le, nat_lt, slice_index, unwrap_or}
use Rattle.std.specs.FinSet.{FinSet, empty, insert}
use Rattle.std.specs.Int.{bit_at}
use Rattle.std.specs.Ordering.{nat_cmp}
use Rattle.indexmap.specs.IndexMap.{get}
use Rattle.m88_sourcing.specs.declared.words.Words.TheInside.{Inside}

-- the number of the row of an address: 32 addresses that are 4 bytes apart share one
abbrev pub word_row : ℕ → ℕ
word_row a = a / 128 + a % 4 * 2 ^ 25

-- the bit of an address is set, in the bits of its row
abbrev pub is_set : ℕ → ℕ → Bool
is_set bits a = bit_at bits (a / 4 % 32) == 1

-- the place of a row among the n near ones, where it is one: they begin with the first
abbrev pub near_place : ℕ → ℕ → ℕ → Option ℕ
near_place first n q = if nat_le first q && nat_lt (q - first) n then Some (q - first) else None

-- the bits in a place, or those that are kept by the row's number, or none
abbrev pub bits_in : Inside → ℕ → Option ℕ → ℕ
bits_in words q (Some k) = slice_index words.near.items k
bits_in words q None = unwrap_or (get nat_eq words.others q) 0

-- the bits of a row
unfoldable pub row_bits : Inside → ℕ → ℕ
row_bits words q = bits_in words q (near_place words.first (length words.near.items) q)

-- the numbers below n that pass a test
unfoldable pub passing_below : ℕ → (ℕ → Bool) → FinSet nat_cmp
passing_below zero passes = empty
passing_below (suc n) passes = if passes n then insert (passing_below n passes) n else passing_below n passes

-- the addresses whose bits are set
unfoldable pub addresses : Inside → FinSet nat_cmp
addresses words = passing_below (2 ^ 32) (λ a. is_set (row_bits words (word_row a)) a)
