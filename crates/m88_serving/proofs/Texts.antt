-- A text put behind others, part by part, and register by register.
use Rattle.std.specs.Prelude.{ℕ, Bool, List, ◌+◌, ◌++◌, ◌≡◌}
use Rattle.std.proofs.Common.{add-one, ap, ◌∙◌, append_assoc, refl}
use Rattle.m88_serving.specs.Served.{awaited_text, registers_below}

pub part_more : (text a b first second : List ℕ) → first ≡ text ++ a → second ≡ first ++ b → second ≡ text ++ (a ++ b)
part_more text a b first second before put = put ∙ ap (λ t. t ++ b) before ∙ append_assoc text a b

-- the registers below one number more
pub registers_next : (set : ℕ → Bool) (numbers : List ℕ) (r : ℕ)
    → registers_below set numbers (r + 1) ≡ registers_below set numbers r ++ awaited_text set numbers r
unfolding registers_below
registers_next set numbers r = rw (add-one r) refl
