-- Items with commas between them one after the other, as a loop collects them.
use Rattle.std.proofs.Common.{◌≡◌, ℕ, zero, suc, ◌<◌, ◌⊎◌, inl, inr, Bool, true, false, cond, List, [], ◌∷◌, ◌++◌, length, drop, Ok, Err, refl, sym, ap, ◌∙◌, append_assoc, arith, length-drop}
use Rattle.m88_parse.specs.declared.fault.ParseFault.{ParseFault}
use Rattle.m88_parse.specs.Fault.{out_of_memory}
use Rattle.m88_parse.specs.Inside.State.{ReaderState, is_next_mark, past, ◌>>=◌}
use Rattle.m88_parse.specs.Inside.Slots.{Read}
use Rattle.m88_parse.specs.Language.Bytes.{comma_mark}
use Rattle.m88_parse.specs.Inside.Grammar.{many}

-- what was collected before, and what is still read
abbrev pub with_items : {A : Type 0} → List A → Read (List A) → Read (List A)
with_items done (Ok x) = Ok (done ++ x.0, x.1)
with_items done (Err e) = Err e

-- while an item follows the rest is read with some room; behind the last one the items are all there
abbrev pub Collects : {A : Type 0} → (ReaderState → Read A) → Bool → List A → ReaderState → Read (List A) → Type 0
Collects item true done s total = (room : ℕ) × (length s.rest < room) × (with_items done (many item room s) ≡ total)
Collects item false done s total = total ≡ Ok (done, s)

-- what follows an item
abbrev after : {A : Type 0} → (ReaderState → Read A) → ℕ → Read A → Read (List A)
after item room r = r >>= λ x. cond (is_next_mark comma_mark x.1) (many item room (past x.1) >>= λ xs. Ok (x.0 ∷ xs.0, xs.1)) (Ok (x.0 ∷ [], x.1))

opens : {A : Type 0} (item : ReaderState → Read A) (room : ℕ) (s : ReaderState) (r : Read A) → item s ≡ r → many item (suc room) s ≡ after item room r
unfolding many
opens item room s r e = ap (after item room) e

regroup : {A : Type 0} (done : List A) (x : A) (r : Read (List A)) → with_items done (r >>= λ xs. Ok (x ∷ xs.0, xs.1)) ≡ with_items (done ++ x ∷ []) r
regroup {A} done x (Ok xs) = ap (λ (ys : List A). let r : Read (List A) = Ok (ys, xs.1) in r) (simp append_assoc)
regroup done x (Err e) = refl

by_comma : {A : Type 0} (item : ReaderState → Read A) (room : ℕ) (done : List A) (x : A) (t : ReaderState) (total : Read (List A)) (more : Bool)
    → length t.rest < room
    → with_items done (cond more (many item room (past t) >>= λ xs. Ok (x ∷ xs.0, xs.1)) (Ok (x ∷ [], t))) ≡ total
    → Collects item more (done ++ x ∷ []) (cond more (past t) t) total
by_comma item room done x t total true h so_far =
    let e : length (drop 1 t.rest) < room = omega (arith, length-drop 1 t.rest) in
    (room, e, sym (regroup done x (many item room (past t))) ∙ so_far)
by_comma item room done x t total false h so_far = sym so_far

more_at : {A : Type 0} (item : ReaderState → Read A) (done : List A) (x : A) (s t : ReaderState) (total : Read (List A)) (room : ℕ)
    → item s ≡ Ok (x, t) → length t.rest < length s.rest → length s.rest < room → with_items done (many item room s) ≡ total
    → Collects item (is_next_mark comma_mark t) (done ++ x ∷ []) (cond (is_next_mark comma_mark t) (past t) t) total
more_at item done x s t total zero e shorter h so_far = absurd (omega arith)
more_at item done x s t total (suc room) e shorter h so_far =
    by_comma item room done x t total (is_next_mark comma_mark t) (omega arith) (ap (with_items done) (sym (opens item room s (Ok (x, t)) e)) ∙ so_far)

pub collects_more : {A : Type 0} (item : ReaderState → Read A) (done : List A) (x : A) (s t : ReaderState) (total : Read (List A))
    → Collects item true done s total → item s ≡ Ok (x, t) → length t.rest < length s.rest
    → Collects item (is_next_mark comma_mark t) (done ++ x ∷ []) (cond (is_next_mark comma_mark t) (past t) t) total
collects_more item done x s t total h e shorter = more_at item done x s t total h.0 e shorter h.1 h.2

fault_at : {A : Type 0} (item : ReaderState → Read A) (done : List A) (s : ReaderState) (f : ParseFault) (total : Read (List A)) (room : ℕ)
    → item s ≡ Err f → length s.rest < room → with_items done (many item room s) ≡ total → total ≡ Err f
fault_at item done s f total zero e h so_far = absurd (omega arith)
fault_at item done s f total (suc room) e h so_far = sym so_far ∙ ap (with_items done) (opens item room s (Err f) e)

pub collects_fault : {A : Type 0} (item : ReaderState → Read A) (done : List A) (s : ReaderState) (f : ParseFault) (total : Read (List A))
    → Collects item true done s total → (f ≡ out_of_memory) ⊎ (item s ≡ Err f) → (f ≡ out_of_memory) ⊎ (total ≡ Err f)
collects_fault item done s f total h (inl e) = inl e
collects_fault item done s f total h (inr e) = inr (fault_at item done s f total h.0 e h.1 h.2)
