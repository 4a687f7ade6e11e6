-- The words say the hints that are read of them, no start among them, and nothing else.
use Rattle.std.proofs.Common.{None, refl, subst, sym, ◌∙◌}
use Rattle.std.specs.Prelude.{flat_map}
use Rattle.m88_base.specs.Words.{texts}
use Rattle.m88_sourcing.specs.Inside.Asked.{IsKept}
use Rattle.m88_sourcing.specs.Request.{starts_in}
use Rattle.m88_sourcing.specs.Request.Asks.{records}
use Rattle.m88_sourcing.proofs.Asking.{none_asked, none_said, of_records, some_said}
use Rattle.m88_sourcing.proofs.request.record_request.Goals as goal

pub returns-then-is_some : goal.returns-then-is_some
returns-then-is_some c = none_asked _ _ refl (λ wanted asks.
    let r = of_records (texts c.args.words.now) wanted c.requires asks in
    some_said c.in_ok-tally.tally.start (flat_map starts_in r.hints) (c.in_ok-tally.ensures.only r.hints r.say).starts
    (sym c.if-is_some.ensures) r.none)

pub returns : goal.returns
returns c =
    let counted = c.in_ok-tally.ensures.found in
    let none =
    none_said c.in_ok-tally.tally.start (flat_map starts_in counted.0) counted.2.starts (sym c.if-is_some.ensures) in
    record {
      found = (record { binary = None; hints = counted.0 }, records counted.1 none, record { binary = refl; hints = counted.1.0 });
      only = λ wanted asks.
          let r = of_records (texts c.args.words.now) wanted c.requires asks in
          subst (IsKept _) (sym r.wanted_is) (record { binary = refl; hints = r.say.0 });
      one = λ a b asks other.
          let x = of_records (texts c.args.words.now) a c.requires asks in
          let y = of_records (texts c.args.words.now) b c.requires other in
          let hints = c.in_ok-tally.ensures.one x.hints y.hints x.say y.say in
          x.wanted_is ∙ (λ i. record { binary = None; hints = hints i }) ∙ sym y.wanted_is;
    }
