-- A text spells one schedule at most.
use Rattle.std.specs.Prelude.{[], Some, map, ◌≡◌}
use Rattle.std.proofs.Common.{ap, ◌∙◌}
use Rattle.m88_event.proofs.Letters.{own_letters, spelled, spells}
use Rattle.m88_event.specs.Letters.{letter_byte, letter_of}
use Rattle.m88_event.proofs.schedule.Schedule.read.Goals as goal

pub returns-in_err-letters-clause-only : goal.returns-in_err-letters-clause-only
returns-in_err-letters-clause-only c = λ letters is.
    let it = spells [] letter_byte letter_of own_letters c.args.text.now letters is in
    let some = c.in_err-letters.ensures.only it.0 it.1 in absurd cc

pub returns-clause-found : goal.returns-clause-found
returns-clause-found c =
    spelled [] letter_byte letter_of own_letters c.args.text.now c.in_ok-letters.letters.now
    c.in_ok-letters.ensures.found

pub returns-clause-only : goal.returns-clause-only
returns-clause-only c = λ letters is.
    let it = spells [] letter_byte letter_of own_letters c.args.text.now letters is in
    let some = c.in_ok-letters.ensures.only it.0 it.1 in
    let same : c.in_ok-letters.letters.now ≡ it.0 = cc in
    ap Some (ap (map letter_of) same ∙ it.2)
