-- The mnemonics by their first letters, and the mnemonic of a name.
use Rattle.std.specs.Prelude.{ℕ, ◌==◌, List, [], ◌∷◌, Option, filter, find}
use Rattle.std.specs.Str.{bytes_eq}
use Rattle.m88_isa.specs.Mnemonic.{text_of}
use Rattle.m88_isa.specs.declared.mnemonic.Mnemonic.{Mnemonic}
use Rattle.m88_isa.specs.declared.mnemonic.TheConstants.{MNEMONICS}

-- the first letter of a name, or 0 where there is none
abbrev pub first_letter : List ℕ → ℕ
first_letter [] = 0
first_letter (b ∷ bs) = b

-- the mnemonics that begin with a letter
unfoldable pub begun_with : ℕ → List Mnemonic
begun_with letter = filter (λ m. first_letter (text_of m) == letter) MNEMONICS

-- the mnemonic that is spelled so, among those of its letter
abbrev pub mnemonic_of : List ℕ → Option Mnemonic
mnemonic_of name = find (λ m. bytes_eq (text_of m) name) (begun_with (first_letter name))
