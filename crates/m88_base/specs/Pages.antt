-- Pages of memory, each present or absent for the data bus as a whole, and sets of them: their size and their count are
-- this project's profile.
use Rattle.std.specs.Prelude.{ℕ, Bool, false, ◌/◌, ◌^◌, ◌<◌, nat_lt}

-- the bytes of a page
abbrev pub page_bytes : ℕ
page_bytes = 4096

-- how many pages there are
abbrev pub page_count : ℕ
page_count = 2 ^ 20

-- the number of the page of an address
abbrev pub page_number : ℕ → ℕ
page_number address = address / page_bytes

-- the number is one of a page
abbrev pub IsPage : ℕ → Type 0
IsPage page = page < page_count

-- every page
abbrev pub every_page : ℕ → Bool
every_page page = nat_lt page page_count

-- no page
abbrev pub no_page : ℕ → Bool
no_page page = false
