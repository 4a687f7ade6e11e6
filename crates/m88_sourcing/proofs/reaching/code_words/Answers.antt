-- What is reached, and the slots of that.
use Rattle.std.proofs.Common.{◌⊎◌, ◌∙◌, ◌∷◌, ℕ, Contains, IsTrue, List, ap, map, subst}
use Rattle.std.specs.Prelude.{◌↔◌}
use Rattle.std.specs.FinSet.{contains}
use Rattle.m88_isa.specs.Address.{word_address}
use Rattle.m88_sourcing.specs.Code.{HasInstruction}
use Rattle.m88_sourcing.specs.Said.{told}
use Rattle.m88_sourcing.proofs.Outlining.{all_code}
use Rattle.m88_sourcing.proofs.reaching.code_words.Goals as goal

pub returns-clause-code : goal.returns-clause-code
returns-clause-code c =
    all_code c.args.image.now (told c.args.said.now) c.in_ok-seeds.seeds.items c.in_ok-outline.field-0
    c.note_slots.new.outline.code
    (c.in_ok-seeds.ensures
    ∙ ap (λ (xs : List ℕ). word_address c.args.image.now.start ∷ map word_address xs) c.as_slice.ensures.value)
    c.in_ok-outline.ensures.sound c.in_ok-outline.ensures.all c.in_ok-outline.ensures.slots
    (λ a.
    subst
    (λ (slots : List ℕ). IsTrue (contains c.note_slots.new.outline.code a)
    ↔ (IsTrue (contains c.in_ok-outline.field-0.outline.code a)
    ⊎ (Contains slots a × HasInstruction c.args.image.now a)))
    c.deref.ensures.value (c.in_ok-note_slots.ensures.code a))
