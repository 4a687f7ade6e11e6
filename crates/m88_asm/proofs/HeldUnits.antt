-- Images that hold the unit of a source: the program that such an image holds is the source's.
use Rattle.std.proofs.Common.{◌≡◌, ℕ, Bool, ◌<◌, ◌^◌, List, Option, Some, None, false, inl, inr, length, refl, sym, ◌∙◌, subst}
use Rattle.std.specs.Option.{option_or}
use Rattle.std.proofs.Math.Path.{fun_ext}
use Rattle.m88_base.proofs.Laws.{same_images}
use Rattle.m88_base.specs.Image.{IsImage, ProgramImage, byte_at, byte_count}
use Rattle.m88_isa.specs.ImageProgram.{IsInstructionAt, IsProgramOf}
use Rattle.m88_isa.specs.Machine.{Program}
use Rattle.m88_isa.specs.declared.instr.Instr.{Instr}
use Rattle.m88_codec.proofs.Laws.{program_in, program_in_holds}
use Rattle.m88_parse.proofs.Laws.{one_source_verdict, unit_formed}
use Rattle.m88_parse.specs.declared.unit.Unit.{Unit as Source}
use Rattle.m88_link.specs.Layout.{Layout}
use Rattle.m88_link.specs.Linked.{IsLinked, start_address}
use Rattle.m88_asm.specs.Accepted.{IsAcceptedUnit}
use Rattle.m88_asm.specs.Images.{IsUnitImage, IsUnitInstruction, placed_instruction, unit_byte}
use Rattle.m88_asm.specs.Held.{HoldsUnit}
use Rattle.m88_asm.specs.Sources.{HoldsOfProgram, IsProgramSource, IsSourceImage, IsSourceProgram}
use Rattle.m88_asm.specs.Units.{unit_layout}
use Rattle.m88_asm.proofs.Instructions.{bytes_law, instructions_law}
use Rattle.m88_asm.proofs.UnitPrograms.{one_source_program}

-- the instruction of a unit, where it isn't placed that of the image
in_unit : (u : Source) (a : ℕ) (o placed : Option Instr) → placed_instruction u a ≡ placed → IsInstructionAt (unit_byte u) a o
    → IsUnitInstruction u a (option_or placed o)
in_unit u a o None e there = inr (e, there)
in_unit u a o (Some i) e there = inl (refl, e)

-- a source whose unit an image holds can be assembled and linked
pub accepted_source : (source : List ℕ) (image : ProgramImage) → HoldsUnit source image → IsProgramSource source
accepted_source source image holds = record { unit = holds.unit; is_unit = holds.is_unit; is_accepted = holds.is_accepted }

-- the one program of an input in a mode, which an image holds too
pub record Held (IsSuch : Program → Type 0) (mxm : Bool) (image : ProgramImage) : Type 0 where
  pub program : Program
  pub is_such : IsSuch program
  pub of_image : IsProgramOf image program
  pub mode : program.mxm ≡ mxm
  pub only : (q : Program) → IsSuch q → q.mxm ≡ mxm → q ≡ program

-- an image that holds the unit of a source holds the program of the source
pub held_with : (mxm : Bool) (source : List ℕ) (image : ProgramImage) (q : Program) → HoldsUnit source image → IsProgramOf image q
    → Held (IsSourceProgram source) mxm image
held_with mxm source image q holds of =
    let u = holds.unit in
    let bytes : byte_at image ≡ unit_byte u = fun_ext holds.is_image.bytes in
    let own : Program = record {
      mxm = mxm;
      start = image.start;
      byte = byte_at image;
      instruction = λ a. option_or (placed_instruction u a) (q.instruction a);
    } in
    let there : (a : ℕ) → IsUnitInstruction u a (own.instruction a) =
    λ a. in_unit u a (q.instruction a) (placed_instruction u a) refl
    (subst (λ (byte : ℕ → Option ℕ). IsInstructionAt byte a (q.instruction a)) bytes (of.instructions a)) in
    let is : IsSourceProgram source own = record {
      unit = u;
      is_unit = holds.is_unit;
      is_program = record { start = holds.is_image.start; bytes = holds.is_image.bytes; instructions = there };
    } in
    record {
      program = own;
      is_such = is;
      of_image = record { start = refl; bytes = refl; instructions = λ a. holds.instructions a (own.instruction a) (there a) };
      mode = refl;
      only = λ other is_too mode. one_source_program source other own is_too is mode;
    }

pub held_by : (mxm : Bool) (source : List ℕ) (image : ProgramImage) → HoldsUnit source image → IsImage image
    → Held (IsSourceProgram source) mxm image
held_by mxm source image holds is = held_with mxm source image (program_in mxm image is) holds (program_in_holds mxm image is)

-- what holds of the program in an image that holds the unit of a source holds of the source's program
pub holds_by_image : (source : List ℕ) (image : ProgramImage) (q : Program) (Holds : Program → Type 0) → HoldsUnit source image
    → IsProgramOf image q → ((p : Program) → IsProgramOf image p → p.mxm ≡ false → Holds p) → HoldsOfProgram source Holds
holds_by_image source image q Holds holds of each =
    let held = held_with false source image q holds of in
    record {
      program = held.program;
      of_source = held.is_such;
      mode = held.mode;
      holds = each held.program held.of_image held.mode;
    }

-- a source has one such program
pub holds_of_same : (source : List ℕ) (Holds Also : Program → Type 0) → HoldsOfProgram source Holds → (b : HoldsOfProgram source Also)
    → Holds b.program
holds_of_same source Holds Also a b =
    subst Holds (one_source_program source a.program b.program a.of_source b.of_source (a.mode ∙ sym b.mode)) a.holds

-- the sections of a layout, taken for an image
abbrev spots_of : Layout → ℕ → ProgramImage
spots_of l start = record { runs = l.spots; start = start }

spots_linked : (l : Layout) (start : ℕ) → start ≡ start_address l.globals → IsLinked l (spots_of l start)
unfolding byte_at byte_count
spots_linked l start e = record { bytes = λ a. refl; count = refl; start = e }

-- the image of a source that is accepted holds the instructions of the source's unit
pub holds_unit : (source : List ℕ) (image : ProgramImage) → length source < 2 ^ 31 → IsProgramSource source
    → IsSourceImage source image → HoldsUnit source image
holds_unit source image short accepted own =
    let u = own.unit in
    let of = own.is_image in
    let same = (one_source_verdict source).one_value accepted.unit u accepted.is_unit own.is_unit in
    let both : IsAcceptedUnit u = subst IsAcceptedUnit same accepted.is_accepted in
    let spots = spots_of (unit_layout u) image.start in
    let linked : IsLinked (unit_layout u) spots = spots_linked (unit_layout u) image.start of.start in
    let bytes : (a : ℕ) → byte_at spots a ≡ byte_at image a =
    λ a. bytes_law u spots both.linkable linked a ∙ sym (of.bytes a) in
    record {
      unit = u;
      is_unit = own.is_unit;
      is_accepted = both;
      is_image = of;
      instructions = λ a o there.
          subst (λ found. IsInstructionAt found a o) (fun_ext bytes)
          (instructions_law u spots (unit_formed source u short own.is_unit) both.assembled both.linkable linked a o there);
    }

-- a source has one image
pub one_source_image : (source : List ℕ) (i j : ProgramImage) → IsSourceImage source i → IsSourceImage source j → i ≡ j
one_source_image source i j a b =
    let unit = (one_source_verdict source).one_value a.unit b.unit a.is_unit b.is_unit in
    let own = subst (λ (u : Source). IsUnitImage u i) unit a.is_image in
    same_images i j own.is_image.apart b.is_image.is_image.apart (own.start ∙ sym b.is_image.start)
    (λ n. own.bytes n ∙ sym (b.is_image.bytes n))
