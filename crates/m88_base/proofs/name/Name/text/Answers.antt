-- The bytes of a name are ASCII, and so they are text.
use Rattle.std.proofs.Common.{◌<◌, ℕ, List, [], ◌∷◌, IsTrue, arith, sym, subst}
use Rattle.std.specs.Str.{IsAscii}
use Rattle.std.proofs.lemmas.Bool.Decides.{nat_tests}
use Rattle.std.proofs.lemmas.List.Elements.{All-weaker}
use Rattle.std.proofs.lemmas.Str.{IsUtf8-from_ascii}
use Rattle.std.proofs.lemmas.Str.Ascii.{IsAscii-cons, IsAscii-from_all}
use Rattle.m88_base.specs.Name.{IsName, begins_name, continues_name}
use Rattle.m88_base.proofs.name.Name.text.Goals as goal

begins_ascii : (b : ℕ) → IsTrue (begins_name b) → b < 128
begins_ascii b is = grind (arith, nat_tests)

continues_ascii : (b : ℕ) → IsTrue (continues_name b) → b < 128
continues_ascii b is = grind (arith, nat_tests)

name_ascii : (bytes : List ℕ) → IsName bytes → IsAscii bytes
name_ascii [] is = absurd is
name_ascii (first ∷ rest) is =
    IsAscii-cons first rest (begins_ascii first is.0)
    (IsAscii-from_all rest (All-weaker (λ b. IsTrue (continues_name b)) (λ b. b < 128) continues_ascii rest is.1))

pub unreachable-requires : goal.unreachable-requires
unreachable-requires c =
    c.in-Err.ensures.cases.0
    (IsUtf8-from_ascii c.bytes.result.now
    (subst IsAscii (sym c.bytes.ensures.value) (name_ascii c.args.self.now c.bytes.ensures.name)))
