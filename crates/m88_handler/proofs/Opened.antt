-- A handler's own memory is its program's, as it is linked.
use Rattle.std.specs.Prelude.{ℕ, Option, ◌≡◌, unwrap_or}
use Rattle.std.proofs.Common.{ap, sym}
use Rattle.m88_base.specs.Image.{ProgramImage}
use Rattle.m88_isa.specs.Bus.{in_words}
use Rattle.m88_isa.specs.ImageProgram.{IsProgramOf}
use Rattle.m88_isa.specs.Machine.{Program, opening}
use Rattle.m88_mem.specs.DataBus.{image_bus, image_bytes}

pub own_bus : (p : Program) (image : ProgramImage) → IsProgramOf image p → image_bus image ≡ in_words (opening p).memory
unfolding opening image_bytes
own_bus p image of = sym (ap (λ (byte : ℕ → Option ℕ). in_words (λ a. unwrap_or (byte a) 0)) of.bytes)
