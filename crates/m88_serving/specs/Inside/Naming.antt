-- Words that are named one after the other in an image.
use Rattle.std.specs.Prelude.{ℕ, ◌≡◌, ◌+◌, ◌==◌, ◌||◌, true, List, [], None, Some, drop, is_some, take}
use Rattle.m88_base.specs.Image.{ProgramImage, byte_at}
use Rattle.m88_isa.specs.Address.{word_address}
use Rattle.m88_isa.specs.Bus.{with_word}
use Rattle.m88_mem.specs.DataBus.{image_bus}
use Rattle.m88_serving.specs.Faults.{is_named, repeated_from}
use Rattle.m88_serving.specs.Serving.{named_bus, with_words}
use Rattle.m88_serving.specs.declared.naming.Naming.{Naming as NamingValue}
use Rattle.m88_serving.specs.declared.naming.Naming.TheVariants.{Named, Twice}

-- a word was put into an image at an address that had no byte of a word
pub record NamesOneMore (old new : ProgramImage) (at value : ℕ) : Type 0 where
  pub free : byte_at old at ≡ None
  pub bus : image_bus new ≡ with_word (image_bus old) at value
  pub taken : (a : ℕ) → is_some (byte_at new a) ≡ (is_some (byte_at old a) || word_address a == at)

-- a byte of the word stood there before
pub record StoodBefore (old : ProgramImage) (at : ℕ) : Type 0 where
  pub a : ℕ
  pub inside : word_address a ≡ at
  pub found : is_some (byte_at old a) ≡ true

-- an image has the first so many of some words, none of them twice
pub record HasNamed (words : List (ℕ × ℕ)) (n : ℕ) (image : ProgramImage) : Type 0 where
  pub same : repeated_from (5 + n) (take n words) (drop n words) ≡ repeated_from 5 [] words
  pub bus : with_words (image_bus image) (drop n words) ≡ named_bus words
  pub taken : (a : ℕ) → is_some (byte_at image a) ≡ is_named (take n words) (word_address a)

-- what became of naming words
abbrev pub IsNaming : List (ℕ × ℕ) → NamingValue → Type 0
IsNaming words (Named image) = (repeated_from 5 [] words ≡ None) × (image_bus image ≡ named_bus words)
IsNaming words (Twice line) = repeated_from 5 [] words ≡ Some line
