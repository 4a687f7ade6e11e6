-- No mnemonic begins with a dot.
use Rattle.std.specs.Prelude.{ℕ, List, [], ◌∷◌, Some, None, ◌≡◌, slice_get}
use Rattle.std.proofs.Common.{refl, sym, ap, ◌∙◌}
use Rattle.m88_isa.specs.Mnemonic.{text_of}
use Rattle.m88_isa.specs.Letters.{begun_with, mnemonic_of}
use Rattle.m88_isa.proofs.Laws.{settled}
use Rattle.m88_parse.proofs.statement.mnemonic_of.Goals as goal

dotted_none : (name : List ℕ) → slice_get name 0 ≡ Some 46 → None ≡ mnemonic_of name
unfolding begun_with text_of
dotted_none [] first = absurd cc
dotted_none (b ∷ name) first = let dot : b ≡ 46 = cc in rw dot refl

pub returns-in-Some-eq46 : goal.returns-in-Some-eq46
returns-in-Some-eq46 c =
    dotted_none c.args.name.now (sym c.in-Some-eq46.ensures.value ∙ ap Some c.in-Some-eq46.field-0-test)

pub returns : goal.returns
returns c = settled c.args.name.now c.from_text.result c.from_text.ensures.found c.from_text.ensures.only
