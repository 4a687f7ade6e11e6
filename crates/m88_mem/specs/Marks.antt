-- Sets of pages.
use Rattle.std.specs.Prelude.{ℕ, Bool, ◌==◌, All, if◌then◌else◌}
use Rattle.std.specs.List.{list_any}
use Rattle.m88_base.specs.declared.absent.Absent.{Absent}
use Rattle.m88_base.specs.declared.absent.Absent.TheVariants as choice
use Rattle.m88_base.specs.Pages.{IsPage, every_page, no_page}

-- a set with one page put in or taken out
abbrev pub with_page : ℕ → Bool → (ℕ → Bool) → ℕ → Bool
with_page page there set other = if other == page then there else set other

-- the pages that a choice makes absent
abbrev pub absent_in : Absent → ℕ → Bool
absent_in choice.None page = no_page page
absent_in choice.All page = every_page page
absent_in (choice.Pages pages) page = list_any (λ named. named == page) pages.items

-- each page that a choice names is one
abbrev pub NamesPages : Absent → Type 0
NamesPages choice.None = Unit {0}
NamesPages choice.All = Unit {0}
NamesPages (choice.Pages pages) = All IsPage pages.items
