-- The program of a source that can be assembled and linked: it has one in each mode, however long it is.
use Rattle.std.proofs.Common.{◌≡◌, ℕ, zero, suc, ◌+◌, ◌-◌, ◌<◌, ◌%◌, ◌^◌, ◌==◌, Bool, true, false, cond, List, [], ◌∷◌, Option, Some, None, inl, inr, refl, ap, sym, ◌∙◌, subst, arith}
use Rattle.std.specs.Int.{from_be_bytes, to_be_bytes, w32}
use Rattle.std.specs.Option.{option_or}
use Rattle.std.specs.Prelude.{IfSome, get_or, leb, slice_get, unwrap_or}
use Rattle.std.proofs.lemmas.Bool.{eqb-false, eqb-true}
use Rattle.std.proofs.lemmas.Nat.{from_be_bytes-to_be_bytes_4}
use Rattle.std.proofs.lemmas.Option.{none-some}
use Rattle.m88_base.proofs.Laws.{same_text}
use Rattle.m88_base.specs.Image.{IsImage, ProgramImage, byte_at, byte_count}
use Rattle.m88_isa.proofs.Laws.{by_test, word_small}
use Rattle.m88_isa.specs.ImageProgram.{HasWordOf, IsInstructionAt}
use Rattle.m88_isa.specs.Machine.{Program, four_bytes, word_bytes}
use Rattle.m88_isa.specs.declared.instr.Instr.{Instr}
use Rattle.m88_codec.proofs.Laws.{one_at, program_in, program_in_holds}
use Rattle.m88_parse.proofs.Laws.{one_source_verdict}
use Rattle.m88_parse.specs.declared.unit.Unit.{Unit as Source}
use Rattle.m88_asm.specs.Images.{IsUnitInstruction, IsUnitProgram, placed_instruction, unit_byte, unit_start}
use Rattle.m88_asm.specs.Sources.{IsProgramSource, IsSourceProgram}

-- an image of four bytes at address 0
abbrev bytes_image : ℕ → ℕ → ℕ → ℕ → ProgramImage
bytes_image b0 b1 b2 b3 = record { runs = record { at = 0; bytes = b0 ∷ b1 ∷ b2 ∷ b3 ∷ [] } ∷ []; start = 0 }

-- the bytes of a word are below 256
small_bytes : (word b0 b1 b2 b3 : ℕ) → to_be_bytes w32 word ≡ b0 ∷ b1 ∷ b2 ∷ b3 ∷ [] → (b0 < 256) × (b1 < 256) × (b2 < 256) × (b3 < 256)
small_bytes word b0 b1 b2 b3 e =
    let e0 = ap (λ bytes. get_or bytes 0 0) e in
    let e1 = ap (λ bytes. get_or bytes 1 0) e in
    let e2 = ap (λ bytes. get_or bytes 2 0) e in
    let e3 = ap (λ bytes. get_or bytes 3 0) e in
    (omega (arith, e0), omega (arith, e1), omega (arith, e2), omega (arith, e3))

is_image : (b0 b1 b2 b3 : ℕ) → b0 < 256 → b1 < 256 → b2 < 256 → b3 < 256 → IsImage (bytes_image b0 b1 b2 b3)
unfolding byte_at byte_count
is_image b0 b1 b2 b3 h0 h1 h2 h3 = record {
  apart = (omega arith, omega arith, tt);
  bytes = λ a. by_place a (leb 0 a) (slice_get (b0 ∷ b1 ∷ b2 ∷ b3 ∷ []) (a - 0)) (found a (a - 0) refl);
  few = omega arith;
  start = omega arith;
}
  where
    found : (a k : ℕ) → k ≡ a - 0 → IfSome (slice_get (b0 ∷ b1 ∷ b2 ∷ b3 ∷ []) k) (λ b. (a < 2 ^ 32) × (b < 256))
    found a zero e = (omega (arith, e), h0)
    found a (suc zero) e = (omega (arith, e), h1)
    found a (suc (suc zero)) e = (omega (arith, e), h2)
    found a (suc (suc (suc zero))) e = (omega (arith, e), h3)
    found a (suc (suc (suc (suc k)))) e = tt

    by_place : (a : ℕ) (there : Bool) (o : Option ℕ) → IfSome o (λ b. (a < 2 ^ 32) × (b < 256))
        → IfSome (option_or (cond there o None) None) (λ b. (a < 2 ^ 32) × (b < 256))
    by_place a true (Some b) h = h
    by_place a true None h = tt
    by_place a false o h = tt

image_bytes : (b0 b1 b2 b3 : ℕ) → four_bytes (byte_at (bytes_image b0 b1 b2 b3)) 0 ≡ Some (b0 ∷ b1 ∷ b2 ∷ b3 ∷ [])
unfolding byte_at
image_bytes b0 b1 b2 b3 = refl

-- the instruction of four bytes is one wherever they stand, at a multiple of 4
moved : (byte other : ℕ → Option ℕ) (a b : ℕ) (o : Option Instr) → a % 4 ≡ 0 → b % 4 ≡ 0 → four_bytes byte a ≡ four_bytes other b
    → IsInstructionAt byte a o → IsInstructionAt other b o
moved byte other a b (Some i) here there same h = (there, (h.1.0, sym same ∙ h.1.1, h.1.2))
moved byte other a b None here there same h = λ i k. h i (here, (k.1.0, same ∙ k.1.1, k.1.2))

-- bytes have an instruction at each address, or none
abbrev Reading : (ℕ → Option ℕ) → ℕ → Type 0
Reading byte a = (o : Option Instr) × IsInstructionAt byte a o

-- four bytes that are the word of an instruction are the bytes of a number of 32 bits
of_word : (byte : ℕ → Option ℕ) (a b0 b1 b2 b3 : ℕ) (i : Instr) → four_bytes byte a ≡ Some (b0 ∷ b1 ∷ b2 ∷ b3 ∷ []) → HasWordOf byte a i
    → to_be_bytes w32 (from_be_bytes w32 (b0 ∷ b1 ∷ b2 ∷ b3 ∷ [])) ≡ b0 ∷ b1 ∷ b2 ∷ b3 ∷ []
of_word byte a b0 b1 b2 b3 i bytes h =
    let word = h.1.0 in
    let small : word < 2 ^ 32 = subst (λ w. w < 2 ^ 32) h.1.2.1 (word_small i h.1.2.0) in
    let same : to_be_bytes w32 word ≡ b0 ∷ b1 ∷ b2 ∷ b3 ∷ [] =
    ap (λ (o : Option (List ℕ)). unwrap_or o []) (sym h.1.1 ∙ bytes) in
    ap (to_be_bytes w32) (ap (from_be_bytes w32) (sym same) ∙ from_be_bytes-to_be_bytes_4 word small) ∙ same

at_word : (byte : ℕ → Option ℕ) (a b0 b1 b2 b3 : ℕ) → a % 4 ≡ 0 → four_bytes byte a ≡ Some (b0 ∷ b1 ∷ b2 ∷ b3 ∷ [])
    → to_be_bytes w32 (from_be_bytes w32 (b0 ∷ b1 ∷ b2 ∷ b3 ∷ [])) ≡ b0 ∷ b1 ∷ b2 ∷ b3 ∷ [] → Reading byte a
at_word byte a b0 b1 b2 b3 aligned bytes is =
    let small = small_bytes (from_be_bytes w32 (b0 ∷ b1 ∷ b2 ∷ b3 ∷ [])) b0 b1 b2 b3 is in
    let image = bytes_image b0 b1 b2 b3 in
    let whole = is_image b0 b1 b2 b3 small.0 small.1 small.2 small.3 in
    let p = program_in false image whole in (
      p.instruction 0,
      moved (byte_at image) byte 0 a (p.instruction 0) (omega arith) aligned (image_bytes b0 b1 b2 b3 ∙ sym bytes)
          ((program_in_holds false image whole).instructions 0),
    )

-- no instruction, where none can be
never : (byte : ℕ → Option ℕ) (a : ℕ) → ((i : Instr) → HasWordOf byte a i → ⊥) → Reading byte a
never byte a h = (None, h)

-- what bytes have at an address
reading : (byte : ℕ → Option ℕ) (a : ℕ) → Reading byte a
reading byte a = by_bytes (byte a) (byte (a + 1)) (byte (a + 2)) (byte (a + 3)) refl
  where
    missing : four_bytes byte a ≡ None → Reading byte a
    missing none = never byte a (λ i h. none-some (to_be_bytes w32 h.1.0) (sym none ∙ h.1.1))

    by_bytes : (o0 o1 o2 o3 : Option ℕ) → four_bytes byte a ≡ word_bytes o0 o1 o2 o3 → Reading byte a
    by_bytes (Some b0) (Some b1) (Some b2) (Some b3) bytes = by_test (a % 4 == 0)
        (λ yes. elim (same_text (to_be_bytes w32 (from_be_bytes w32 (b0 ∷ b1 ∷ b2 ∷ b3 ∷ []))) (b0 ∷ b1 ∷ b2 ∷ b3 ∷ [])) [
          | inl is ↦ at_word byte a b0 b1 b2 b3 (eqb-true (a % 4) 0 yes) bytes is
          | inr other ↦ never byte a (λ i h. other (of_word byte a b0 b1 b2 b3 i bytes h))
        ])
        (λ no. never byte a (λ i h. eqb-false (a % 4) 0 no h.0))
    by_bytes None o1 o2 o3 bytes = missing bytes
    by_bytes (Some b0) None o2 o3 bytes = missing bytes
    by_bytes (Some b0) (Some b1) None o3 bytes = missing bytes
    by_bytes (Some b0) (Some b1) (Some b2) None bytes = missing bytes

-- what a unit has at an address
unit_reading : (u : Source) (a : ℕ) → (o : Option Instr) × IsUnitInstruction u a o
unit_reading u a = by_placed (placed_instruction u a) refl
  where
    by_placed : (placed : Option Instr) → placed_instruction u a ≡ placed → (o : Option Instr) × IsUnitInstruction u a o
    by_placed (Some i) e = (Some i, inl (refl, e))
    by_placed None e = let there = reading (unit_byte u) a in (there.0, inr (e, there.1))

-- false is not true
clash : false ≡ true → ⊥
clash e = absurd cc

-- and so has a unit
some_none : {A : Type 0} (o : Option A) (i : A) → o ≡ Some i → o ≡ None → ⊥
some_none o i some none = absurd cc

one_in_unit : (u : Source) (a : ℕ) (o p : Option Instr) → IsUnitInstruction u a o → IsUnitInstruction u a p → o ≡ p
one_in_unit u a o p (inl h) (inl k) = sym h.1 ∙ k.1
one_in_unit u a None p (inl h) (inr k) = absurd (clash h.0)
one_in_unit u a (Some i) p (inl h) (inr k) = absurd (some_none (placed_instruction u a) i h.1 k.0)
one_in_unit u a o None (inr h) (inl k) = absurd (clash k.0)
one_in_unit u a o (Some j) (inr h) (inl k) = absurd (some_none (placed_instruction u a) j k.1 h.0)
one_in_unit u a o p (inr h) (inr k) = one_at (unit_byte u) a o p h.1 k.1

-- programs that agree are one
pub same_program : (p q : Program) → p.mxm ≡ q.mxm → p.start ≡ q.start → ((a : ℕ) → p.byte a ≡ q.byte a) → ((a : ℕ) → p.instruction a ≡ q.instruction a) → p ≡ q
same_program p q mode start bytes instructions =
    λ i. record { mxm = mode i; start = start i; byte = λ a. bytes a i; instruction = λ a. instructions a i }

-- a source has one program in a mode
pub one_source_program : (source : List ℕ) (p q : Program) → IsSourceProgram source p → IsSourceProgram source q → p.mxm ≡ q.mxm → p ≡ q
one_source_program source p q a b mode =
    let unit = (one_source_verdict source).one_value a.unit b.unit a.is_unit b.is_unit in
    let own = subst (λ u. IsUnitProgram u p) unit a.is_program in
    same_program p q mode (own.start ∙ sym b.is_program.start) (λ n. own.bytes n ∙ sym (b.is_program.bytes n))
    (λ n. one_in_unit b.unit n (p.instruction n) (q.instruction n) (own.instructions n) (b.is_program.instructions n))

-- the program of an accepted source
pub record HasProgram (mxm : Bool) (source : List ℕ) : Type 0 where
  pub program : Program
  pub of_source : IsSourceProgram source program
  pub mode : program.mxm ≡ mxm

pub source_program : (mxm : Bool) (source : List ℕ) → IsProgramSource source → HasProgram mxm source
source_program mxm source is = record {
  program = record {
    mxm = mxm;
    start = unit_start is.unit;
    byte = unit_byte is.unit;
    instruction = λ a. (unit_reading is.unit a).0;
  };
  of_source = record {
    unit = is.unit;
    is_unit = is.is_unit;
    is_program = record { start = refl; bytes = λ a. refl; instructions = λ a. (unit_reading is.unit a).1 };
  };
  mode = refl;
}
