-- The digits are text.
use Rattle.std.proofs.Common.{[], ◌∷◌, sym, subst}
use Rattle.std.specs.Str.{IsAscii}
use Rattle.std.proofs.lemmas.Str.{IsUtf8-from_ascii}
use Rattle.m88_base.proofs.AsciiDigits.{places_ascii}
use Rattle.m88_base.proofs.hex.Hex2Display.fmt.Goals as goal

pub unreachable-requires : goal.unreachable-requires
unreachable-requires g c =
    c.in-Err.ensures.cases.0
    (IsUtf8-from_ascii c.byte_digits.result
    (subst IsAscii (sym c.byte_digits.ensures) (places_ascii c.args.self.now.0 (1 ∷ 0 ∷ []))))
