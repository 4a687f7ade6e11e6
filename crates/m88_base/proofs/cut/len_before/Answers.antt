-- As many bytes stand before the first of a value as are none of it, from the front on.
use Rattle.std.proofs.Common.{ℕ, List, Option, Some, None, Bool, true, false, ◌≡◌, ◌==◌, length, sym, refl, ap, arith}
use Rattle.std.specs.Option.{unwrap_or}
use Rattle.std.specs.Prelude.{not}
use Rattle.std.specs.List.{prefix_len}
use Rattle.std.proofs.lemmas.List.Sums.{prefix_len_is}
use Rattle.memchr.specs.Find.{IsFirstByte, is_byte}
use Rattle.m88_base.proofs.cut.len_before.Goals as goal

fails : (test : Bool) → (test ≡ true → ⊥) → not test ≡ true
fails true differs = absurd (differs refl)
fails false differs = refl

before : (at : ℕ) (bs : List ℕ) (r : Option ℕ) → IsFirstByte (is_byte at) bs r
    → unwrap_or r (length bs) ≡ prefix_len (λ b. not (b == at)) bs
before at bs None nowhere =
    sym (prefix_len_is (λ b. not (b == at)) bs (length bs) 0 (omega arith)
    (λ k below. fails _ (nowhere k (omega arith) below)) (λ below. absurd (omega (arith, below))))
before at bs (Some place) found =
    sym (prefix_len_is (λ b. not (b == at)) bs place 0 (omega (arith, found.0.high))
    (λ k below. fails _ (found.0.before k (omega arith) below)) (λ below. ap not found.1))

pub returns : goal.returns
returns c = rw c.unwrap_or.ensures (before c.args.at c.args.text.now c.memchr.result c.memchr.ensures)
