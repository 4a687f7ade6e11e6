-- The words that changed, as a walk over words in order of address finds them.
use Rattle.std.specs.Prelude.{ℕ, zero, suc, true, false, [], ◌∷◌, ◌++◌, ◌≡◌, ◌≢◌, ◌<◌, ◌≤◌, ◌+◌, ◌*◌, ◌==◌}
use Rattle.std.proofs.Common.{arith, refl, ap, ◌∙◌}
use Rattle.std.proofs.lemmas.Bool.Decides.{nat_tests}
use Rattle.std.proofs.lemmas.List.{append-nil}
use Rattle.m88_isa.specs.Bus.{changed_among}

-- a word that is the same adds nothing
pub same_word_among : (words : ℕ) (old new : ℕ → ℕ) → old (4 * words) ≡ new (4 * words) →
    changed_among (suc words) old new ≡ changed_among words old new
unfolding changed_among
same_word_among words old new same =
    let test : (old (4 * words) == new (4 * words)) ≡ true = grind (arith, nat_tests) in
    rw test (append-nil (changed_among words old new))

-- words that are the same add nothing
pub same_among : (words more : ℕ) (old new : ℕ → ℕ) →
    ((k : ℕ) → words ≤ k → k < words + more → old (4 * k) ≡ new (4 * k)) →
    changed_among (words + more) old new ≡ changed_among words old new
same_among words zero old new same = ap (λ n. changed_among n old new) (omega arith)
same_among words (suc more) old new same =
    ap (λ n. changed_among n old new) (omega arith)
    ∙ same_word_among (words + more) old new (same (words + more) (omega arith) (omega arith))
    ∙ same_among words more old new (λ k low high. same k low (omega arith))

-- a word that is another comes last
pub other_among : (words : ℕ) (old new : ℕ → ℕ) → old (4 * words) ≢ new (4 * words) →
    changed_among (suc words) old new ≡ changed_among words old new ++ ((4 * words, new (4 * words)) ∷ [])
unfolding changed_among
other_among words old new other =
    let test : (old (4 * words) == new (4 * words)) ≡ false = grind (arith, nat_tests) in
    rw test refl
