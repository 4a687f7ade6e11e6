-- Sections as bytes at addresses, while relocations are carried out on them.
use Rattle.std.specs.Prelude.{ℕ, ◌+◌, ◌≤◌, ◌<◌, ◌==◌, ◌&&◌, nat_le, nat_lt, Bool, List, [], ◌∷◌, length, slice_get, count_by, IsSomeAnd, if◌then◌else◌}
use Rattle.m88_base.specs.Placed.{Placed}
use Rattle.m88_link.specs.declared.object.Reloc.{Reloc}
use Rattle.m88_link.specs.declared.object.Section.{Section}
use Rattle.m88_link.specs.Bases.{Placement, base_at}
use Rattle.m88_link.specs.declared.object.Object.{Object}
use Rattle.m88_link.specs.Relocated.{patched}

-- the bytes of a section as the object has them
abbrev pub unpatched : Placement Object → Section → Placed
unpatched p x = record { at = base_at p x.place; bytes = x.bytes }

-- the word of the relocation lies in its section
abbrev pub HasWord : List Placed → Reloc → Type 0
HasWord spots r = IsSomeAnd (slice_get spots r.section) (λ p. r.offset + 4 ≤ length p.bytes)

-- a section whose word is patched for a target
abbrev pub patched_spot : Reloc → ℕ → Placed → Placed
patched_spot r target p = record { at = p.at; bytes = patched r.kind p.bytes r.offset target (p.at + r.offset) }

-- each of a list with its number, from n, changed
abbrev pub numbered : {A B : Type 0} → (ℕ → A → B) → ℕ → List A → List B
numbered change n [] = []
numbered change n (x ∷ xs) = change n x ∷ numbered change (n + 1) xs

-- sections of which the relocation's own is patched
abbrev pub patched_in : Reloc → ℕ → List Placed → List Placed
patched_in r target spots = numbered (λ k p. if r.section == k then patched_spot r target p else p) 0 spots

-- sections that each relocation has patched, in order
abbrev pub carried : (Reloc → ℕ) → List Reloc → List Placed → List Placed
carried target [] spots = spots
carried target (r ∷ rs) spots = carried target rs (patched_in r (target r) spots)

-- a section has a byte at the address
abbrev pub holds : ℕ → Placed → Bool
holds a p = nat_le p.at a && nat_lt a (p.at + length p.bytes)

-- no address has a byte in two sections
abbrev pub AreAlone : List Placed → Type 0
AreAlone spots = (a : ℕ) → count_by (holds a) spots < 2
