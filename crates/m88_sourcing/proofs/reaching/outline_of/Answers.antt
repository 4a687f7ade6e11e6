-- The targets of the words of code, the entries, and the words that stay.
use Rattle.std.proofs.Common.{eqb, ◌⊎◌, ℕ, IsTrue, List, map, subst}
use Rattle.std.specs.Prelude.{◌↔◌, Contains}
use Rattle.std.proofs.lemmas.List.Filters.{dedup_is}
use Rattle.std.specs.FinSet.{contains}
use Rattle.m88_isa.specs.Address.{word_address}
use Rattle.m88_sourcing.specs.Inside.Walks.{IsNamedBy}
use Rattle.m88_sourcing.specs.Labels.{IsTarget}
use Rattle.m88_sourcing.specs.Said.{told}
use Rattle.m88_sourcing.proofs.Outlining.{sorted_targets, with_entries, with_target}
use Rattle.m88_sourcing.proofs.Rebuilt.{code_some}
use Rattle.m88_sourcing.proofs.reaching.outline_of.Goals as goal

pub returns : goal.returns
returns c =
    let image = c.args.image.now in
    let said = told c.args.said.now in
    let code = c.in_ok-outline.ensures.code in
    let named : (a : ℕ) → IsNamedBy image c.in_ok-outline.outline a ↔ IsTarget image said a =
    λ a. (λ n. (n.0, (code n.0).0 n.1, n.2), λ t. (t.0, (code t.0).1 t.1, t.2)) in
    record {
      code = code;
      labels = λ a.
          with_entries _ _ _ _ _ _ _ _ (c.in_ok-outline.ensures.names.labels a) (named a) (code a)
          (code_some image said a)
          (subst (λ (xs : List ℕ). IsTrue (contains c.note_entries.new.labels a)
          ↔ (IsTrue (contains c.in_ok-outline.outline.labels a)
          ⊎ (Contains (map word_address xs) a × IsTrue (contains c.in_ok-outline.outline.code a))))
          c.as_slice.ensures.value (c.in_ok-note_entries.ensures a));
      far = sorted_targets image said c.in_ok-outline.outline.far.items c.sort_unstable.new.self.items
          c.dedup.new.self.items c.sort_unstable.ensures.permutation c.sort_unstable.ensures.sorted
          (dedup_is eqb _ _ c.dedup.ensures.filtered)
          (λ t. with_target _ _ _ _ (c.in_ok-outline.ensures.names.far t) (named t));
      stays = λ a.
          subst (λ (xs : List ℕ). IsTrue (contains c.in_ok-stays.stays a) ↔ Contains (map word_address xs) a)
          c.as_slice-2.ensures.value (c.in_ok-stays.ensures a);
    }
