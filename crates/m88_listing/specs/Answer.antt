-- What is written for a source: its listing, or where it is refused the text that says so.
use Rattle.std.specs.Prelude.{ℕ, ◌≡◌, ◌⊎◌, List, []}
use Rattle.m88_base.specs.Refusal.{Refusal}
use Rattle.m88_asm.specs.Sources.{IsRefusedSource, IsUnlinked}
use Rattle.m88_listing.specs.Listing.{ListsAccepted}
use Rattle.m88_listing.specs.Refused.{refused_text}
use Rattle.m88_listing.specs.Rows.{Row}
use Rattle.m88_listing.specs.Settled.{unlinked_rows}

-- a source is refused, and its listing shows these rows: none where it can't be assembled, else those of its unit
abbrev pub IsRefusedWith : List ℕ → Refusal → List Row → Type 0
IsRefusedWith source r rows =
    (IsRefusedSource 0 source r × (rows ≡ []))
    ⊎ ((unlinked : IsUnlinked 0 source r) × (rows ≡ unlinked_rows unlinked.unit unlinked.fault.kind))

-- the text is that of a refusal of the source
pub record ListsRefused (source text : List ℕ) : Type 0 where
  pub refusal : Refusal
  pub rows : List Row
  pub refused : IsRefusedWith source refusal rows
  pub is_text : text ≡ refused_text rows source refusal

-- the text lists the source, which is accepted or refused
abbrev pub Lists : List ℕ → List ℕ → Type 0
Lists source text = ListsAccepted source text ⊎ ListsRefused source text
