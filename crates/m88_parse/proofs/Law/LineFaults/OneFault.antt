-- A line's tokens have at most one fault.
use Rattle.std.proofs.Common.{◌≡◌, ℕ, ◌+◌, List, [], ◌∷◌, ◌++◌, length, refl, sym, ap, ◌∙◌, subst, append_assoc}
use Rattle.m88_parse.specs.declared.fault.ParseKind.{ParseKind}
use Rattle.m88_parse.specs.Language.Pieces.{Piece}
use Rattle.m88_parse.specs.Language.LineFaults.{IsOperation, Continues, MayFollow, EndsInSign, EndsInHalf, IsNumberInPlace, IsNameInPlace, IsMisplaced, number_out_of_range, signed_out_of_range, no_such_name, other_token, IsFaultBehind, half_alone, misplaced, line_ends, Stops, IsBroken, IsLineFault, no_label, labelled_head, behind_label, without_label}
use Rattle.m88_parse.proofs.Law.LineFaults.TokenByToken.{same_last}

abbrev Same : ℕ → ℕ → ParseKind → ParseKind → Type 0
Same a b j k = (a ≡ b) × (j ≡ k)

-- one list of tokens as two, in two ways

pub data Cuts (f r g s : List Piece) : Type 0 where
  same_cut : f ≡ g → r ≡ s → Cuts f r g s
  first_shorter : (p : Piece) (mid : List Piece) → g ≡ f ++ p ∷ mid → r ≡ p ∷ (mid ++ s) → Cuts f r g s
  second_shorter : (p : Piece) (mid : List Piece) → f ≡ g ++ p ∷ mid → s ≡ p ∷ (mid ++ r) → Cuts f r g s

deeper : (x : Piece) (f r g s : List Piece) → Cuts f r g s → Cuts (x ∷ f) r (x ∷ g) s
deeper x f r g s (same_cut a b) = same_cut (ap (λ (ps : List Piece). x ∷ ps) a) b
deeper x f r g s (first_shorter p mid a b) = first_shorter p mid (ap (λ (ps : List Piece). x ∷ ps) a) b
deeper x f r g s (second_shorter p mid a b) = second_shorter p mid (ap (λ (ps : List Piece). x ∷ ps) a) b

cuts : (f r g s : List Piece) → f ++ r ≡ g ++ s → Cuts f r g s
cuts [] r [] s h = same_cut refl h
cuts [] r (p ∷ g) s h = first_shorter p g refl h
cuts (p ∷ f) r [] s h = second_shorter p f refl (sym h)
cuts (p ∷ f) r (q ∷ g) s h =
    let same : p ≡ q = cc in
    let t : f ++ r ≡ g ++ s = cc in
    subst (λ (x : Piece). Cuts (p ∷ f) r (x ∷ g) s) same (deeper p f r g s (cuts f r g s t))

-- what continues, continues at each token before
shorter : (f g mid : List Piece) (p : Piece) → g ≡ f ++ p ∷ mid → Continues g → MayFollow f p
shorter f g mid p t c =
    let w : (f ++ p ∷ []) ++ (mid ++ c.0) ≡ g ++ c.0 = append_assoc f (p ∷ []) (mid ++ c.0) ∙ sym (append_assoc f (p ∷ mid) c.0) ∙ ap (λ (ps : List Piece). ps ++ c.0) (sym t) in
    (mid ++ c.0, subst (IsOperation) (sym w) c.1)

-- one token's fault

col_of_last : (front : List Piece) (m n : Piece) → EndsInSign front m → EndsInSign front n → m.col ≡ n.col
col_of_last front m n x y = ap (λ (p : Piece). p.col) (same_last x.before y.before m n (sym x.tokens ∙ y.tokens))

no_name_number : (front : List Piece) (p : Piece) → IsNumberInPlace front p → IsNameInPlace front p → ⊥
no_name_number front p x y = let h = sym x.1 ∙ y.1 in cc

one_misplaced : (front : List Piece) (p : Piece) (a b : ℕ) (j k : ParseKind) → IsMisplaced front p a j → IsMisplaced front p b k → Same a b j k
one_misplaced front p a b j k (number_out_of_range n s) (number_out_of_range m t) = (refl, refl)
one_misplaced front p a b j k (number_out_of_range n s) (signed_out_of_range {m = m} o t) = absurd (s m t)
one_misplaced front p a b j k (number_out_of_range n s) (no_such_name x) = absurd (no_name_number front p n x)
one_misplaced front p a b j k (number_out_of_range n s) (other_token x y) = absurd (x n)
one_misplaced front p a b j k (signed_out_of_range {m = m} n s) (number_out_of_range o t) = absurd (t m s)
one_misplaced front p a b j k (signed_out_of_range {m = m} n s) (signed_out_of_range {m = m2} o t) = (col_of_last front m m2 s t, refl)
one_misplaced front p a b j k (signed_out_of_range n s) (no_such_name x) = absurd (no_name_number front p n x)
one_misplaced front p a b j k (signed_out_of_range n s) (other_token x y) = absurd (x n)
one_misplaced front p a b j k (no_such_name x) (number_out_of_range n s) = absurd (no_name_number front p n x)
one_misplaced front p a b j k (no_such_name x) (signed_out_of_range n s) = absurd (no_name_number front p n x)
one_misplaced front p a b j k (no_such_name x) (no_such_name y) = (refl, refl)
one_misplaced front p a b j k (no_such_name x) (other_token y z) = absurd (z x)
one_misplaced front p a b j k (other_token x y) (number_out_of_range n s) = absurd (x n)
one_misplaced front p a b j k (other_token x y) (signed_out_of_range n s) = absurd (x n)
one_misplaced front p a b j k (other_token x y) (no_such_name z) = absurd (y z)
one_misplaced front p a b j k (other_token x y) (other_token z w) = (refl, refl)

-- the fault behind a front

half_col : (front : List Piece) (g h : Piece) → EndsInHalf front g → EndsInHalf front h → g.col ≡ h.col
half_col front g h x y = ap (λ (p : Piece). p.col) (same_last x.before y.before g h (sym x.tokens ∙ y.tokens))

end_col : (front before other : List Piece) (p q : Piece) → front ≡ before ++ p ∷ [] → front ≡ other ++ q ∷ [] → p.col + length p.text ≡ q.col + length q.text
end_col front before other p q x y = ap (λ (r : Piece). r.col + length r.text) (same_last before other p q (sym x ∙ y))

one_behind : (front rest : List Piece) (a b : ℕ) (j k : ParseKind) → IsFaultBehind front rest a j → IsFaultBehind front rest b k → Same a b j k
one_behind front rest a b j k (half_alone {h = h} x) (half_alone {h = g} y) = (half_col front h g x y, refl)
one_behind front rest a b j k (half_alone {h = h} x) (misplaced n y) = absurd (n h x)
one_behind front rest a b j k (half_alone {h = h} x) (line_ends before p n y) = absurd (n h x)
one_behind front rest a b j k (misplaced n x) (half_alone {h = h} y) = absurd (n h y)
one_behind front rest a b j k (misplaced {p = p} n x) (misplaced m y) = one_misplaced front p a b j k x y
one_behind front rest a b j k (line_ends before p n x) (half_alone {h = h} y) = absurd (n h y)
one_behind front rest a b j k (line_ends before p n x) (line_ends other q m y) = (end_col front before other p q x y, refl)

stopped : (f r : List Piece) (p : Piece) (s : List Piece) → r ≡ p ∷ s → Stops f r → MayFollow f p → ⊥
stopped f r p s t h m = let k : Stops f (p ∷ s) = subst (Stops f) t h in k m

pub one_broken : (ps : List Piece) (a b : ℕ) (j k : ParseKind) → IsBroken ps a j → IsBroken ps b k → Same a b j k
one_broken ps a b j k x y = by_cut (cuts x.front x.rest y.front y.rest (sym x.tokens ∙ y.tokens))
  where
    by_cut : Cuts x.front x.rest y.front y.rest → Same a b j k
    by_cut (same_cut f r) =
        let z : IsFaultBehind y.front x.rest a j = subst (λ (qs : List Piece). IsFaultBehind qs x.rest a j) f x.fault in
        one_behind y.front y.rest a b j k (subst (λ (qs : List Piece). IsFaultBehind y.front qs a j) r z) y.fault
    by_cut (first_shorter p mid f r) = absurd (stopped x.front x.rest p (mid ++ y.rest) r x.stops (shorter x.front y.front mid p f y.continues))
    by_cut (second_shorter p mid f r) = absurd (stopped y.front y.rest p (mid ++ x.rest) r y.stops (shorter y.front x.front mid p f x.continues))

pub one_line_fault : (ps : List Piece) (a b : ℕ) (j k : ParseKind) → IsLineFault ps a j → IsLineFault ps b k → Same a b j k
one_line_fault ps a b j k (no_label c n) (no_label d m) = (refl, refl)
one_line_fault ps a b j k (no_label c n) (labelled_head {name = name} l h) = absurd (n name l.symbol)
one_line_fault ps a b j k (no_label c n) (behind_label {name = name} l h x) = absurd (n name l.symbol)
one_line_fault ps a b j k (no_label c n) (without_label h x) = absurd (h c)
one_line_fault ps a b j k (labelled_head {name = name} l h) (no_label c n) = absurd (n name l.symbol)
one_line_fault ps a b j k (labelled_head l h) (labelled_head m g) = (refl, refl)
one_line_fault ps a b j k (labelled_head l h) (behind_label m g x) = absurd (g h)
one_line_fault ps a b j k (labelled_head l h) (without_label g x) = absurd (g l.colon)
one_line_fault ps a b j k (behind_label {name = name} l h x) (no_label c n) = absurd (n name l.symbol)
one_line_fault ps a b j k (behind_label l h x) (labelled_head m g) = absurd (h g)
one_line_fault ps a b j k (behind_label {p = p} {ps = qs} l h x) (behind_label m g y) = one_broken (p ∷ qs) a b j k x y
one_line_fault ps a b j k (behind_label l h x) (without_label g y) = absurd (g l.colon)
one_line_fault ps a b j k (without_label h x) (no_label c n) = absurd (h c)
one_line_fault ps a b j k (without_label h x) (labelled_head m g) = absurd (h m.colon)
one_line_fault ps a b j k (without_label h x) (behind_label m g y) = absurd (h m.colon)
one_line_fault ps a b j k (without_label {p = p} {ps = qs} h x) (without_label g y) = one_broken (p ∷ qs) a b j k x y
