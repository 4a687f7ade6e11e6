-- Faults that are found one after the other.
use Rattle.std.proofs.Common.{◌≡◌, Bool, ap, ◌∙◌}
use Rattle.std.specs.Prelude.{Option}
use Rattle.std.specs.Option.{option_or}
use Rattle.m88_base.proofs.Laws.{option_or_assoc}
use Rattle.m88_link.specs.declared.fault.LinkFault.{LinkFault}
use Rattle.m88_link.specs.declared.findings.Findings.{Findings}
use Rattle.m88_link.specs.Inside.Findings.{IsEnded, with_duplicate, with_uses}

pub duplicate_twice : (f : Findings) (a b : Option LinkFault) → with_duplicate (with_duplicate f a) b ≡ with_duplicate f (option_or a b)
duplicate_twice f a b = ap (λ o. let g : Findings = record f { duplicate = o } in g) (option_or_assoc f.duplicate a b)

pub uses_twice : (f : Findings) (a b c d : Option LinkFault) → with_uses (with_uses f a b) c d ≡ with_uses f (option_or a c) (option_or b d)
uses_twice f a b c d =
    ap (λ o. let g : Findings = record f { undefined = o; far = option_or (option_or f.far b) d } in g) (option_or_assoc f.undefined a c)
    ∙ ap (λ o. let g : Findings = record f { undefined = option_or f.undefined (option_or a c); far = o } in g) (option_or_assoc f.far b d)

pub ended_both : (goes_on : Bool) (a b : Option LinkFault) → IsEnded goes_on a → IsEnded goes_on b → IsEnded goes_on (option_or a b)
ended_both goes_on a b h k e = ap (λ o. option_or o b) (h e) ∙ k e
