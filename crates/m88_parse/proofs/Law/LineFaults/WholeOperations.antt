-- The law of whole operations: what is heard without a fault is an operation or the head of a module, and the other way
-- round.
use Rattle.std.proofs.Common.{◌≡◌, ℕ, inl, inr, List, [], ◌∷◌, Some, None, Result, Ok, Err, refl, sym, ap, ◌∙◌, subst, codes}
use Rattle.m88_parse.specs.declared.fault.ParseFault.{ParseFault}
use Rattle.m88_parse.specs.declared.unit.Body.{Body}
use Rattle.m88_parse.specs.Language.Pieces.{TokenValue, Piece}
use Rattle.m88_parse.specs.Language.Names.{IsNamed}
use Rattle.m88_parse.specs.Language.Statements.{IsHead, head}
use Rattle.m88_parse.specs.Language.LineFaults.{IsOperation, operation, head_of_module}
use Rattle.m88_parse.specs.Inside.State.{first, place}
use Rattle.m88_parse.specs.Inside.Source.{SourceRow, a_head, operation_at, head_at, is_head_on, statement}
use Rattle.m88_parse.proofs.Law.TestsAndChoices.{chosen, take_then, take_else}
use Rattle.m88_parse.proofs.Law.SingleTokens.{st, bind_ok, bind_to}
use Rattle.m88_parse.proofs.Law.Operations.{operation_read, body_again}
use Rattle.m88_parse.proofs.Law.Statements.{head_named, head_law, not_head}
use Rattle.m88_parse.proofs.Law.LineFaults.Readers.{fault_in, same_fault, row_or_head, heard, HeardLaw}

head_is : (line e : ℕ) (p : Piece) (ps : List Piece) (r : SourceRow) → IsNamed (codes ".module") p → head_at (st line e (p ∷ ps)) ≡ Ok r → IsOperation (p ∷ ps)
head_is line e p ps r n h =
    let w = (head_law line e p ps r).0 h in subst (λ (qs : List Piece). IsOperation (p ∷ qs)) (sym w.2) (head_of_module (head n w.3.0 w.3.1))

operation_is : (line e : ℕ) (ps : List Piece) (c : Body) → operation_at (st line e ps) ≡ Ok c → IsOperation ps
unfolding operation_at
operation_is line e [] c h = absurd cc
operation_is line e (p ∷ ps) c h = operation (operation_read line e p ps c h)

row_is : (line e : ℕ) (ps : List Piece) (r : SourceRow) → row_or_head (st line e ps) ≡ Ok r → IsOperation ps
unfolding operation_at
row_is line e [] r h = absurd cc
row_is line e (p ∷ ps) r h =
    let s = st line e (p ∷ ps) in
    elim (chosen (is_head_on (Some p.says)) _ _ _ h) [
      | inl k ↦ head_is line e p ps r (head_named p.says k.0) k.1
      | inr k ↦ let b = bind_ok (operation_at s) (λ (x : Body). Ok (statement s None p.col x)) r k.1 in operation_is line e (p ∷ ps) b.0 b.1
    ]

fault_free : {A : Type 0} (r : Result A ParseFault) → fault_in r ≡ None → (x : A) × (r ≡ Ok x)
fault_free (Ok x) h = (x, refl)
fault_free (Err f) h = absurd cc

heard_is : (line e : ℕ) (ps : List Piece) → heard line e ps ≡ None → IsOperation ps
heard_is line e ps h = let b = fault_free (row_or_head (st line e ps)) h in row_is line e ps b.0 b.1

operation_heard : (line e : ℕ) (ps : List Piece) (c : Body) → operation_at (st line e ps) ≡ Ok c → heard line e ps ≡ None
operation_heard line e ps c h =
    let s = st line e ps in
    same_fault
    (take_else (is_head_on (first s)) _ _ (not_head line e ps c h)
    ∙ bind_to (operation_at s) (λ (x : Body). Ok (statement s None (place s) x)) c (Ok (statement s None (place s) c)) h refl)

head_heard : (line e : ℕ) (ps : List Piece) (name : List ℕ) → IsHead ps name → heard line e ps ≡ None
unfolding head_at
head_heard line e ps name (head {p = p} {q = q} n k v) =
    same_fault
    (take_then (is_head_on (Some p.says)) _ _ (ap (λ (m : TokenValue). is_head_on (Some m)) n)
    ∙ (head_law line e p (q ∷ []) (a_head name line)).1 (q, name, refl, (k, v), refl))

is_heard : (line e : ℕ) (ps : List Piece) → IsOperation ps → heard line e ps ≡ None
is_heard line e ps (operation {said = said} h) = operation_heard line e ps said (body_again line e ps said h)
is_heard line e ps (head_of_module {name = name} h) = head_heard line e ps name h

pub heard_law : (line e : ℕ) → HeardLaw line e
heard_law line e ps = (heard_is line e ps, is_heard line e ps)
