-- One entry more, and all.
use Rattle.std.proofs.Common.{◌⊎◌, ℕ, Contains, IsTrue, List, map, subst, take_all}
use Rattle.std.specs.Prelude.{◌↔◌}
use Rattle.std.specs.FinSet.{contains}
use Rattle.m88_isa.specs.Address.{word_address}
use Rattle.m88_sourcing.proofs.Outlining.{entry_more}
use Rattle.m88_sourcing.proofs.outline.note_entries.Goals as goal

pub loop-entry-preserved : goal.loop-entry-preserved
loop-entry-preserved c = λ a.
    entry_more c.args.entries.now c.loop-entry.entry-index a _ _ _ _ c.loop-entry-test.true (c.loop-entry.invariant a)
    (c.in_ok-note_entry.ensures a)

pub returns : goal.returns
returns c = λ a.
    subst
    (λ (entries : List ℕ). IsTrue (contains c.loop-entry.labels a)
    ↔ (IsTrue (contains c.args.labels.now a)
    ⊎ (Contains (map word_address entries) a × IsTrue (contains c.args.code.now a))))
    (take_all c.loop-entry.entry-index c.args.entries.now c.loop-entry-test.false) (c.loop-entry.invariant a)
