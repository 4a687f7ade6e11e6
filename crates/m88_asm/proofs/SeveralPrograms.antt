-- Images that hold several sources hold the programs of these, which are theirs alone.
use Rattle.std.proofs.Common.{◌≡◌, ℕ, zero, suc, false, List, [], ◌∷◌, ◌++◌, Some, length, refl, sym, ◌∙◌, subst, arith}
use Rattle.std.specs.Prelude.{slice_get, unwrap_or}
use Rattle.std.specs.List.{All}
use Rattle.std.proofs.lemmas.List.Elements.{All-nil, All-cons}
use Rattle.m88_base.specs.Image.{ProgramImage}
use Rattle.m88_isa.specs.ImageProgram.{IsProgramOf}
use Rattle.m88_isa.specs.Machine.{Program}
use Rattle.m88_asm.specs.Held.{HoldEach, HoldsUnit}
use Rattle.m88_asm.specs.Several.{AreSourcePrograms, IsPlacedProgram, PlacedSource}
use Rattle.m88_asm.proofs.HeldUnits.{accepted_source, held_with}
use Rattle.m88_asm.proofs.UnitPrograms.{one_source_program}

-- one image more holds one source more
pub hold_more : (sources : List PlacedSource) (images : List ProgramImage) (s : PlacedSource) (image : ProgramImage)
    → HoldEach sources images → HoldsUnit s.source image → HoldEach (sources ++ s ∷ []) (images ++ image ∷ [])
unfolding HoldEach
hold_more [] [] s image h holds = (holds, tt)
hold_more [] (i ∷ is) s image h holds = absurd h
hold_more (x ∷ xs) [] s image h holds = absurd h
hold_more (x ∷ xs) (i ∷ is) s image h holds = (h.0, hold_more xs is s image h.1 holds)

pub hold_none : HoldEach [] []
unfolding HoldEach
hold_none = tt

-- sources that images hold can be assembled and linked
pub all_programs : (sources : List PlacedSource) (images : List ProgramImage) → HoldEach sources images → All IsPlacedProgram sources
unfolding HoldEach
all_programs [] images h = All-nil IsPlacedProgram
all_programs (x ∷ xs) [] h = absurd h
all_programs (x ∷ xs) (i ∷ is) h = All-cons IsPlacedProgram x xs (accepted_source x.source i h.0) (all_programs xs is h.1)

-- there are as many
pub as_many : (sources : List PlacedSource) (images : List ProgramImage) → HoldEach sources images → length images ≡ length sources
unfolding HoldEach
as_many [] [] h = refl
as_many [] (i ∷ is) h = absurd h
as_many (x ∷ xs) [] h = absurd h
as_many (x ∷ xs) (i ∷ is) h = let same = as_many xs is h.1 in omega (arith, same)

-- each image holds the program in its place
unfoldable pub OfEach : List ProgramImage → List Program → Type 0
OfEach [] [] = Unit {0}
OfEach [] (p ∷ ps) = ⊥
OfEach (i ∷ is) [] = ⊥
OfEach (i ∷ is) (p ∷ ps) = IsProgramOf i p × OfEach is ps

-- the programs of sources, which their images hold
pub record Shares (sources : List PlacedSource) (images : List ProgramImage) : Type 0 where
  pub programs : List Program
  pub are_programs : AreSourcePrograms sources programs
  pub of_images : OfEach images programs

pub shares_by : (sources : List PlacedSource) (images : List ProgramImage) → HoldEach sources images
    → ((k : ℕ) (image : ProgramImage) → slice_get images k ≡ Some image → (p : Program) × IsProgramOf image p) → Shares sources images
unfolding HoldEach AreSourcePrograms OfEach
shares_by [] [] h each = record { programs = []; are_programs = tt; of_images = tt }
shares_by [] (i ∷ is) h each = absurd h
shares_by (x ∷ xs) [] h each = absurd h
shares_by (x ∷ xs) (i ∷ is) h each =
    let one = each 0 i refl in
    let held = held_with false x.source i one.0 h.0 one.1 in
    let rest = shares_by xs is h.1 (λ k image at. each (suc k) image at) in
    record {
      programs = held.program ∷ rest.programs;
      are_programs = (held.is_such, held.mode, rest.are_programs);
      of_images = (held.of_image, rest.of_images);
    }

-- sources have one program each
pub same_programs : (sources : List PlacedSource) (ps qs : List Program) → AreSourcePrograms sources ps → AreSourcePrograms sources qs → ps ≡ qs
unfolding AreSourcePrograms
same_programs [] [] [] h k = refl
same_programs [] [] (q ∷ qs) h k = absurd k
same_programs [] (p ∷ ps) qs h k = absurd h
same_programs (x ∷ xs) [] qs h k = absurd h
same_programs (x ∷ xs) (p ∷ ps) [] h k = absurd k
same_programs (x ∷ xs) (p ∷ ps) (q ∷ qs) h k =
    let first = one_source_program x.source p q h.0 k.0 (h.1 ∙ sym k.1) in
    let rest = same_programs xs ps qs h.2 k.2 in
    λ i. first i ∷ rest i

-- there are as many programs as images
pub programs_count : (images : List ProgramImage) (programs : List Program) → OfEach images programs → length programs ≡ length images
unfolding OfEach
programs_count [] [] h = refl
programs_count [] (p ∷ ps) h = absurd h
programs_count (i ∷ is) [] h = absurd h
programs_count (i ∷ is) (p ∷ ps) h = let same = programs_count is ps h.1 in omega (arith, same)

-- the program of a number is one that the image of that number holds
pub program_held : (images : List ProgramImage) (programs : List Program) (none : Program) (k : ℕ) (image : ProgramImage)
    → OfEach images programs → slice_get images k ≡ Some image → IsProgramOf image (unwrap_or (slice_get programs k) none)
unfolding OfEach
program_held [] programs none k image h is = absurd cc
program_held (i ∷ is) [] none k image h at = absurd h
program_held (i ∷ is) (p ∷ ps) none zero image h at = let same : i ≡ image = cc in subst (λ x. IsProgramOf x p) same h.0
program_held (i ∷ is) (p ∷ ps) none (suc k) image h at = program_held is ps none k image h.1 at

-- and its MXM is clear
pub program_mode : (sources : List PlacedSource) (programs : List Program) (none : Program) (k : ℕ) → none.mxm ≡ false
    → AreSourcePrograms sources programs → (unwrap_or (slice_get programs k) none).mxm ≡ false
unfolding AreSourcePrograms
program_mode sources [] none k clear h = clear
program_mode [] (p ∷ ps) none k clear h = absurd h
program_mode (x ∷ xs) (p ∷ ps) none zero clear h = h.1
program_mode (x ∷ xs) (p ∷ ps) none (suc k) clear h = program_mode xs ps none k clear h.2
