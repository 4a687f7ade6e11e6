-- An entry in parts.
use Rattle.std.specs.Prelude.{ℕ, List, ◌≡◌, ◌&&◌, not, if◌then◌else◌}
use Rattle.m88_base.specs.Image.{ProgramImage}
use Rattle.m88_base.specs.Reg.{with_register}
use Rattle.m88_base.specs.declared.triple.Triple.{Triple}
use Rattle.m88_isa.specs.Triples.{access_in, is_valid_triple}
use Rattle.m88_handler.specs.Handled.{base_of, code_of}
use Rattle.m88_handler.specs.declared.handler.Handler.{Handler}

-- the registers behind a transaction: that of a valid load reads as 0
unfoldable pub found_behind : Triple → List ℕ → List ℕ
found_behind t regs =
    if is_valid_triple t && not (access_in t).write then with_register (access_in t).reg 0 regs else regs

-- a handler stands at its entry, over these images
pub record IsEntered (image words : ProgramImage) (h : Handler) : Type 0 where
  pub code : code_of h ≡ image
  pub base : base_of h ≡ words
  pub pc : h.pc ≡ 24
  pub next : h.next ≡ 28
  pub steps : h.steps ≡ 0
