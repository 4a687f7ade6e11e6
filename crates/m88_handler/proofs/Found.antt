-- The registers as a handler finds them, one transaction after the other.
use Rattle.std.specs.Prelude.{ℕ, List, [], ◌∷◌, ◌≡◌, length}
use Rattle.std.proofs.Common.{arith, get_or, refl, ◌∙◌}
use Rattle.m88_base.specs.declared.triple.Triple.{Triple}
use Rattle.m88_isa.proofs.Laws.{by_test}
use Rattle.m88_isa.specs.Triples.{access_in, accesses_in, is_valid_triple}
use Rattle.m88_handler.specs.Entering.{found}
use Rattle.m88_handler.specs.Inside.Entered.{found_behind}

found_first : (t : Triple) (ts : List Triple) (regs : List ℕ) → found (accesses_in (t ∷ ts)) regs ≡ found (accesses_in ts) (found_behind t regs)
unfolding found found_behind
found_first t ts regs = by_test (is_valid_triple t)
    (λ valid. by_test (access_in t).write
    (λ writes. rw (valid, writes) refl)
    (λ reads. rw (valid, reads) refl))
    (λ not_valid. rw not_valid refl)

none_found : (regs : List ℕ) → found [] regs ≡ regs
unfolding found
none_found regs = refl

-- those of three
found_all : (t0 t1 t2 : Triple) (regs : List ℕ)
    → found (accesses_in (t0 ∷ t1 ∷ t2 ∷ [])) regs ≡ found_behind t2 (found_behind t1 (found_behind t0 regs))
found_all t0 t1 t2 regs =
    found_first t0 (t1 ∷ t2 ∷ []) regs
    ∙ found_first t1 (t2 ∷ []) (found_behind t0 regs)
    ∙ found_first t2 [] (found_behind t1 (found_behind t0 regs))
    ∙ none_found (found_behind t2 (found_behind t1 (found_behind t0 regs)))

-- the same of a list of three
pub found_of_three : (ts : List Triple) (regs : List ℕ) (none : Triple) → length ts ≡ 3
    → found (accesses_in ts) regs ≡ found_behind (get_or ts 2 none) (found_behind (get_or ts 1 none) (found_behind (get_or ts 0 none) regs))
found_of_three (t0 ∷ t1 ∷ t2 ∷ []) regs none three = found_all t0 t1 t2 regs
found_of_three [] regs none three = absurd (omega (arith, three))
found_of_three (t0 ∷ []) regs none three = absurd (omega (arith, three))
found_of_three (t0 ∷ t1 ∷ []) regs none three = absurd (omega (arith, three))
found_of_three (t0 ∷ t1 ∷ t2 ∷ t3 ∷ ts) regs none three = absurd (omega (arith, three))
