-- The service of the triples of accesses is what these accesses do.
use Rattle.std.specs.Prelude.{Bool, List, [], ◌∷◌, All, ◌≡◌, ◌≤◌, length, slice_get, if◌then◌else◌}
use Rattle.std.proofs.Common.{ℕ, arith, refl, ap, ◌∙◌}
use Rattle.std.proofs.lemmas.List.Elements.{All-head, All-tail}
use Rattle.m88_base.specs.Triple.{no_triple}
use Rattle.m88_base.specs.declared.triple.Triple.{Triple}
use Rattle.m88_isa.proofs.Laws.{told_of, valid_of}
use Rattle.m88_isa.specs.Bus.{Cells, after_accesses}
use Rattle.m88_isa.specs.Memory.{IsWordAccess}
use Rattle.m88_isa.specs.Triples.{access_in, is_valid_triple, triple_of, triple_or_none}
use Rattle.m88_isa.specs.declared.planned.Access.{Access}
use Rattle.m88_monitor.proofs.Steps.{same_triple}
use Rattle.m88_monitor.specs.Serving.{Serving, after_access_at, after_service, after_triple, triple_at}

-- a triple of an access, and a triple of none
valid_step : (index : ℕ) (s : Serving) (a : Access) → triple_at index s.control ≡ triple_of a → IsWordAccess a →
    after_triple index s ≡ after_access_at index a s
valid_step index s a e made =
    ap (λ (t : Triple). if is_valid_triple t then after_access_at index (access_in t) s else s) e
    ∙ ap (λ (v : Bool). if v then after_access_at index (access_in (triple_of a)) s else s) (valid_of a made)
    ∙ ap (λ (x : Access). after_access_at index x s) (told_of a made)

empty_step : (index : ℕ) (s : Serving) → triple_at index s.control ≡ no_triple → after_triple index s ≡ s
empty_step index s e = ap (λ (t : Triple). if is_valid_triple t then after_access_at index (access_in t) s else s) e

-- the three steps of the pending transactions
unfoldable pub steps_of : List Access → Serving → Serving
steps_of [] s = s
steps_of (a ∷ []) s = after_access_at 0 a s
steps_of (a ∷ b ∷ []) s = after_access_at 1 b (after_access_at 0 a s)
steps_of (a ∷ b ∷ c ∷ xs) s = after_access_at 2 c (after_access_at 1 b (after_access_at 0 a s))

pub three_steps : (xs : List Access) (s : Serving) →
    s.control.t0 ≡ triple_or_none (slice_get xs 0) →
    s.control.t1 ≡ triple_or_none (slice_get xs 1) →
    s.control.t2 ≡ triple_or_none (slice_get xs 2) →
    All IsWordAccess xs →
    after_service s ≡ steps_of xs s
unfolding steps_of
three_steps [] s e0 e1 e2 made =
    ap (λ u. after_triple 2 (after_triple 1 u)) (empty_step 0 s e0)
    ∙ ap (after_triple 2) (empty_step 1 s e1)
    ∙ empty_step 2 s e2
three_steps (a ∷ []) s e0 e1 e2 made =
    ap (λ u. after_triple 2 (after_triple 1 u)) (valid_step 0 s a e0 (All-head IsWordAccess a [] made))
    ∙ ap (after_triple 2) (empty_step 1 (after_access_at 0 a s) (same_triple 1 a s.control ∙ e1))
    ∙ empty_step 2 (after_access_at 0 a s) (same_triple 2 a s.control ∙ e2)
three_steps (a ∷ b ∷ []) s e0 e1 e2 made =
    let rest = All-tail IsWordAccess a (b ∷ []) made in
    ap (λ u. after_triple 2 (after_triple 1 u)) (valid_step 0 s a e0 (All-head IsWordAccess a (b ∷ []) made))
    ∙ ap (after_triple 2) (valid_step 1 (after_access_at 0 a s) b (same_triple 1 a s.control ∙ e1) (All-head IsWordAccess b [] rest))
    ∙ empty_step 2 (after_access_at 1 b (after_access_at 0 a s))
    (same_triple 2 b (after_access_at 0 a s).control ∙ same_triple 2 a s.control ∙ e2)
three_steps (a ∷ b ∷ c ∷ xs) s e0 e1 e2 made =
    let rest = All-tail IsWordAccess a (b ∷ c ∷ xs) made in
    let last = All-tail IsWordAccess b (c ∷ xs) rest in
    ap (λ u. after_triple 2 (after_triple 1 u)) (valid_step 0 s a e0 (All-head IsWordAccess a (b ∷ c ∷ xs) made))
    ∙ ap (after_triple 2) (valid_step 1 (after_access_at 0 a s) b (same_triple 1 a s.control ∙ e1) (All-head IsWordAccess b (c ∷ xs) rest))
    ∙ valid_step 2 (after_access_at 1 b (after_access_at 0 a s)) c
    (same_triple 2 b (after_access_at 0 a s).control ∙ same_triple 2 a s.control ∙ e2) (All-head IsWordAccess c xs last)

-- registers and words
cells_in : Serving → Cells
cells_in s = record { regs = s.numbers; bus = s.bus }

steps_cells : (xs : List Access) (s : Serving) → length xs ≤ 3 → cells_in (steps_of xs s) ≡ after_accesses xs (cells_in s)
unfolding steps_of cells_in after_accesses
steps_cells [] s few = refl
steps_cells (a ∷ []) s few = refl
steps_cells (a ∷ b ∷ []) s few = refl
steps_cells (a ∷ b ∷ c ∷ []) s few = refl
steps_cells (a ∷ b ∷ c ∷ d ∷ xs) s few = absurd (omega arith)

-- so the service of the triples of up to three accesses does to registers and words what these do
pub served_cells : (xs : List Access) (s : Serving) →
    s.control.t0 ≡ triple_or_none (slice_get xs 0) →
    s.control.t1 ≡ triple_or_none (slice_get xs 1) →
    s.control.t2 ≡ triple_or_none (slice_get xs 2) →
    All IsWordAccess xs →
    length xs ≤ 3 →
    record { regs = (after_service s).numbers; bus = (after_service s).bus }
    ≡ after_accesses xs (record { regs = s.numbers; bus = s.bus })
unfolding cells_in
served_cells xs s e0 e1 e2 made few = ap cells_in (three_steps xs s e0 e1 e2 made) ∙ steps_cells xs s few
