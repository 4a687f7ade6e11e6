-- Each of the two words says one set.
use Rattle.std.proofs.Common.{rules, ◌≡◌, true, codes, inl, inr, refl}
use Rattle.std.specs.Prelude.{bytes_eq}
use Rattle.std.proofs.lemmas.Slice.Eq.{bytes_eq-Decides}
use Rattle.m88_commands.proofs.PageLists.{only_all, only_none}
use Rattle.m88_commands.proofs.pages.absent_of.Goals as goal

pub returns-then-eq : goal.returns-then-eq
returns-then-eq c =
    let said : bytes_eq c.args.text.now (codes "none") ≡ true = search rules in
    let is = (bytes_eq-Decides c.args.text.now (codes "none")).0 said in
    record { found = inl (is, refl); only = λ absent. only_none c.args.text.now absent is; fit = tt }

pub returns-then-eq-2 : goal.returns-then-eq-2
returns-then-eq-2 c =
    let said : bytes_eq c.args.text.now (codes "all") ≡ true = search rules in
    let is = (bytes_eq-Decides c.args.text.now (codes "all")).0 said in
    record { found = inr (inl (is, refl)); only = λ absent. only_all c.args.text.now absent is; fit = tt }
