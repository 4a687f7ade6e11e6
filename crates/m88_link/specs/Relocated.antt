-- Relocation of a section (object file formats: relocation entries): its bytes once relocations are carried out, in
-- the order of their list.
use Rattle.std.specs.Prelude.{ℕ, ◌+◌, ◌%◌, ◌^◌, ◌==◌, List, [], ◌∷◌, ◌++◌, take, drop, if◌then◌else◌}
use Rattle.std.specs.Int.{w32, from_be_bytes, to_be_bytes}
use Rattle.m88_base.specs.declared.fixup.Kind.{Kind}
use Rattle.m88_link.specs.declared.object.Reloc.{Reloc}
use Rattle.m88_link.specs.Field.{patched_word}

-- bytes with the big-endian word at an offset, which stands at the address `at`, patched for a target
abbrev pub patched : Kind → List ℕ → ℕ → ℕ → ℕ → List ℕ
patched kind bytes offset target at =
    take offset bytes
    ++ (to_be_bytes w32 (patched_word kind (from_be_bytes w32 (take 4 (drop offset bytes))) target at)
    ++ drop (offset + 4) bytes)

-- the target of a relocation, where each name has a value: the symbol's value plus the addend
abbrev pub target_of : (List ℕ → ℕ) → Reloc → ℕ
target_of value r = (value r.symbol + r.addend) % 2 ^ 32

-- the bytes of section k, which each relocation of that section has patched
abbrev pub relocated : (List ℕ → ℕ) → (ℕ → ℕ) → ℕ → List Reloc → List ℕ → List ℕ
relocated value base k [] bytes = bytes
relocated value base k (r ∷ rs) bytes =
    relocated value base k rs
    (if r.section == k then patched r.kind bytes r.offset (target_of value r) (base k + r.offset) else bytes)
