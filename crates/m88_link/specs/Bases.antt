-- Allocation of sections to addresses (manuals of linkers: layout): where the text and the data of each part stand,
-- each part at the next multiple of 8, the data from the least multiple of 4096 on that isn't below the end of all
-- text.
use Rattle.std.specs.Prelude.{ℕ, ◌+◌, ◌-◌, ◌*◌, ◌/◌, List, [], ◌∷◌, length, slice_get}
use Rattle.std.specs.Option.{option_map_or}
pub use Rattle.m88_base.specs.Image.{first_text}
use Rattle.m88_base.specs.Pages.{page_bytes}
use Rattle.m88_link.specs.declared.object.Object.{Object}
use Rattle.m88_link.specs.declared.object.Place.{Place}
use Rattle.m88_link.specs.declared.object.Place.TheVariants.{Text, DataSection, At}

-- a part of a program, with the addresses of its text and its data
pub record Placement (A : Type 0) : Type 0 where
  pub part : A
  pub text_at : ℕ
  pub data_at : ℕ

-- the least multiple of n that isn't below a number
abbrev pub up_to_multiple : ℕ → ℕ → ℕ
up_to_multiple n a = (a + (n - 1)) / n * n

-- parts in order, by how many bytes each has of text, section 0, and of data, section 1: the first text at the multiple
-- of 8 from `text` on, the first data at the one from `datas` on
abbrev pub stood_from : {A : Type 0} → (ℕ → A → ℕ) → ℕ → ℕ → List A → List (Placement A)
stood_from size text datas [] = []
stood_from size text datas (x ∷ xs) =
    record { part = x; text_at = up_to_multiple 8 text; data_at = up_to_multiple 8 datas }
    ∷ stood_from size (up_to_multiple 8 text + size 0 x) (up_to_multiple 8 datas + size 1 x) xs

-- the end of all text, of which the first stands at the multiple of 8 from `text` on
abbrev pub text_end : {A : Type 0} → (ℕ → A → ℕ) → ℕ → List A → ℕ
text_end size text [] = text
text_end size text (x ∷ xs) = text_end size (up_to_multiple 8 text + size 0 x) xs

-- the address of the first data: of the first page that begins at or behind the end of all text
abbrev pub first_data : {A : Type 0} → (ℕ → A → ℕ) → List A → ℕ
first_data size xs = up_to_multiple page_bytes (text_end size first_text xs)

-- the parts where they are linked
abbrev pub stood : {A : Type 0} → (ℕ → A → ℕ) → List A → List (Placement A)
stood size xs = stood_from size first_text (first_data size xs) xs

-- the address of a section's first byte, by its place
abbrev pub base_at : {A : Type 0} → Placement A → Place → ℕ
base_at p Text = p.text_at
base_at p DataSection = p.data_at
base_at p (At a) = a

-- the number of bytes of a section of an object, 0 where there is none
abbrev pub section_size : ℕ → Object → ℕ
section_size k object = option_map_or (λ s. length s.bytes) (slice_get object.sections k) 0

-- the address of the first byte of an object's section
abbrev pub base_of : Placement Object → ℕ → ℕ
base_of p k = option_map_or (λ x. base_at p x.place) (slice_get p.part.sections k) 0
