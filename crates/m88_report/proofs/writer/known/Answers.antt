-- Each register is its value.
use Rattle.std.proofs.Common.{Some, None, rules}
use Rattle.m88_report.proofs.Mapped.{map_same}
use Rattle.m88_report.proofs.writer.known.Goals as goal

pub returns : goal.returns
returns c =
    map_same _ _ (λ x. Some x) _ _ _ 0 None c.map.ensures.items c.told-values (λ x y p q call. search rules)
