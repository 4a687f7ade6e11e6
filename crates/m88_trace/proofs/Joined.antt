-- The line of an instruction is joined of its parts.
use Rattle.std.specs.Prelude.{ℕ, List, [], ◌∷◌, ◌++◌, ◌≡◌, ◌≢◌, ◌<◌, ◌==◌, drop}
use Rattle.std.proofs.Common.{arith, append_assoc, refl, sym, ap, ap₂, ◌∙◌}
use Rattle.std.proofs.lemmas.Bool.{eqb-true}
use Rattle.std.proofs.lemmas.List.{append-nil}
use Rattle.m88_base.specs.Lines.{line_end}
use Rattle.m88_isa.proofs.Laws.{bus_of_append, by_test}
use Rattle.m88_isa.specs.Bus.{bus_after, bus_after_all, listed}
use Rattle.m88_isa.specs.declared.planned.Access.{Access}
use Rattle.m88_isa.specs.declared.planned.Accesses.{Accesses}
use Rattle.m88_trace.specs.Lines.{access_text, accesses_text}

-- one or two accesses as a list
pub listed_two : (a : Accesses) → a.count ≢ 0 → a.count ≢ 1 → listed a ≡ a.first ∷ a.second ∷ []
listed_two a h g = by_test (a.count == 0)
    (λ t. absurd (h (eqb-true a.count 0 t)))
    (λ f. by_test (a.count == 1) (λ t. absurd (g (eqb-true a.count 1 t))) (λ e. rw (f, e) refl))

-- none
pub listed_none : (a : Accesses) → a.count ≡ 0 → listed a ≡ []
listed_none a e = rw e refl

pub line_alone : (a : Accesses) (bus : ℕ → ℕ) (head written : List ℕ) → a.count ≡ 0 →
    head ++ written ++ line_end ≡ head ++ written ++ accesses_text (listed a) bus ++ line_end
unfolding accesses_text
line_alone a bus head written e =
    sym (ap (λ (xs : List Access). head ++ written ++ accesses_text xs bus ++ line_end) (listed_none a e)
    ∙ ap (λ (xs : List ℕ). xs ++ line_end) (append-nil (head ++ written)))

pub listed_first : (a : Accesses) → 0 < a.count → listed a ≡ a.first ∷ drop 1 (listed a)
listed_first a some = by_test (a.count == 0)
    (λ t. absurd (let none = eqb-true a.count 0 t in omega (arith, some, none)))
    (λ f. by_test (a.count == 1) (λ t. rw (f, t) refl) (λ e. rw (f, e) refl))

-- the second of one
pub second_none : (a : Accesses) → a.count ≡ 1 → drop 1 (listed a) ≡ []
second_none a e = rw e refl

pub none_more : (w : List ℕ) (a : Accesses) (bus : ℕ → ℕ) → a.count ≡ 1 → w ≡ w ++ accesses_text (drop 1 (listed a)) bus
unfolding accesses_text
none_more w a bus e =
    sym (ap (λ (xs : List Access). w ++ accesses_text xs bus) (second_none a e) ∙ append-nil w)

-- and of two
pub second_more : (w : List ℕ) (a : Accesses) (bus : ℕ → ℕ) → a.count ≢ 0 → a.count ≢ 1 →
    w ++ access_text a.second bus ≡ w ++ accesses_text (drop 1 (listed a)) bus
unfolding accesses_text
second_more w a bus h g =
    sym (ap (λ (xs : List Access). w ++ accesses_text (drop 1 xs) bus) (listed_two a h g)
    ∙ ap (λ (xs : List ℕ). w ++ xs) (append-nil (access_text a.second bus)))

-- a line is begun, up to the datum of its first access
pub begun_put : (text head written access blank next : List ℕ) → next ≡ text ++ (head ++ written ++ (access ++ blank)) →
    next ≡ text ++ (head ++ written ++ access) ++ blank
begun_put text head written access blank next e =
    e
    ∙ ap (λ (xs : List ℕ). text ++ xs) (sym (append_assoc (head ++ written) access blank))
    ∙ sym (append_assoc text (head ++ written ++ access) blank)

-- and goes on with its second, and ends
pub line_by : (w x y z head written : List ℕ) (waiting next : List Access) (a : Accesses) (bus : ℕ → ℕ) → 0 < a.count →
    x ≡ w ++ (head ++ written ++ access_text a.first (bus_after_all waiting bus)) →
    next ≡ waiting ++ a.first ∷ [] →
    y ≡ x ++ accesses_text (drop 1 (listed a)) (bus_after_all next bus) →
    z ≡ y ++ line_end →
    z ≡ w ++ (head ++ written ++ accesses_text (listed a) (bus_after_all waiting bus) ++ line_end)
unfolding accesses_text bus_after_all
line_by w x y z head written waiting next a bus some e f g h =
    let met = bus_after_all waiting bus in
    let first = access_text a.first met in
    let rest = accesses_text (drop 1 (listed a)) (bus_after a.first met) in
    let words : bus_after_all next bus ≡ bus_after a.first met =
    ap (λ (xs : List Access). bus_after_all xs bus) f ∙ bus_of_append waiting (a.first ∷ []) bus in
    let all : accesses_text (listed a) met ≡ first ++ rest =
    ap (λ (xs : List Access). accesses_text xs met) (listed_first a some) in
    h
    ∙ ap (λ (xs : List ℕ). xs ++ line_end) (g
    ∙ ap₂ (λ (xs : List ℕ) (u : ℕ → ℕ). xs ++ accesses_text (drop 1 (listed a)) u) e words
    ∙ append_assoc w (head ++ written ++ first) rest
    ∙ ap (λ (xs : List ℕ). w ++ xs) (append_assoc (head ++ written) first rest)
    ∙ ap (λ (xs : List ℕ). w ++ (head ++ written ++ xs)) (sym all))
    ∙ append_assoc w (head ++ written ++ accesses_text (listed a) met) line_end

pub waits_by : (w x y : List Access) (a : Accesses) → 0 < a.count → x ≡ w ++ a.first ∷ [] →
    y ≡ x ++ drop 1 (listed a) →
    y ≡ w ++ listed a
waits_by w x y a some e f =
    f
    ∙ ap (λ (xs : List Access). xs ++ drop 1 (listed a)) e
    ∙ append_assoc w (a.first ∷ []) (drop 1 (listed a))
    ∙ ap (λ (xs : List Access). w ++ xs) (sym (listed_first a some))
