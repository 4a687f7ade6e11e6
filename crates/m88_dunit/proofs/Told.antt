-- The words of the pending accesses tell them.
use Rattle.std.proofs.Common.{◌≡◌, List, [], ◌∷◌, refl, arith, lit<}
use Rattle.m88_dunit.specs.Inside.Stages.{ArePending}
use Rattle.m88_isa.proofs.Laws.{told_of, valid_of}
use Rattle.m88_isa.specs.Memory.{IsWordAccess}
use Rattle.m88_isa.specs.Triples.{accesses_in, triples_of}
use Rattle.m88_isa.specs.declared.planned.Access.{Access}

pub told_all : (xs : List Access) → ArePending xs → accesses_in (triples_of xs) ≡ xs
told_all [] h = refl
told_all (a ∷ []) h =
    let ha : IsWordAccess a = h.made 0 a (lit< tt) in
    rw (valid_of a ha, told_of a ha) refl
told_all (a ∷ b ∷ []) h =
    let ha : IsWordAccess a = h.made 0 a (lit< tt) in
    let hb : IsWordAccess b = h.made 1 a (lit< tt) in
    rw (valid_of a ha, told_of a ha, valid_of b hb, told_of b hb) refl
told_all (a ∷ b ∷ c ∷ []) h =
    let ha : IsWordAccess a = h.made 0 a (lit< tt) in
    let hb : IsWordAccess b = h.made 1 a (lit< tt) in
    let hc : IsWordAccess c = h.made 2 a (lit< tt) in
    rw (valid_of a ha, told_of a ha, valid_of b hb, told_of b hb, valid_of c hc, told_of c hc) refl
told_all (a ∷ b ∷ c ∷ d ∷ xs) h = absurd (omega (arith, h.few))
