-- The law of lines of tokens: a statement or the head of a module is read as what it is related to.
use Rattle.std.proofs.Common.{◌≡◌, ◌↔◌, ℕ, true, false, List, [], ◌∷◌, Option, Some, None, Ok, Result, refl, sym, ap, ap₂, ◌∙◌, subst, codes, true≢false, inl, inr}
use Rattle.std.proofs.lemmas.Slice.Eq.{bytes_eq-Decides}
use Rattle.m88_parse.specs.declared.fault.ParseFault.{ParseFault}
use Rattle.m88_parse.specs.declared.unit.Body.{Body}
use Rattle.m88_parse.specs.declared.unit.Statement.{Statement}
use Rattle.m88_parse.specs.Inside.Names.{is_module}
use Rattle.m88_parse.specs.Language.Pieces.{TokenValue, a_name, a_number, a_text, a_mark, Piece}
use Rattle.m88_parse.specs.Inside.State.{says_first, first, past, is_mark_of}
use Rattle.m88_parse.specs.Inside.Slots.{any_name_at}
use Rattle.m88_parse.specs.Inside.Source.{SourceRow, a_statement, a_head, operation_on, operation_at, statement, labelled_on, labelled_at, unlabelled_at, head_at, is_label_on, is_head_on, row_at, end_of_line, row_of_pieces}
use Rattle.m88_parse.specs.Language.Names.{IsNamed}
use Rattle.m88_parse.specs.Language.Statements.{IsBody, text, data_section, at, word, half, byte, ascii, zeros, align, global, set, code, IsLabel, BeginsWithNoColon, IsStatement, unlabelled, labelled, label_alone, IsHead, head}
use Rattle.m88_parse.specs.Language.Units.{Said, says_nothing, says, begins, LineSays, empty_line, statement_line, module_line}
use Rattle.m88_parse.proofs.Law.TestsAndChoices.{chosen, tested, take_then, take_else}
use Rattle.m88_parse.proofs.Law.SingleTokens.{st, symbols, ok_same, bind_ok, bind_to, mark_says, IsAnyName, one_any_name, IsSymbolAt, one_symbol}
use Rattle.m88_parse.proofs.Law.Operations.{operation_read, body_again}
use Rattle.m88_parse.proofs.Law.Readings.{Reading, followed, Followed, Start, begun, lawful, end_as, end_start, slot_law, slot_start}

-- the row that says it
abbrev pub row_for : ℕ → Said → Option SourceRow
row_for number says_nothing = None
row_for number (says s) = Some (a_statement s)
row_for number (begins name) = Some (a_head name number)

-- what a line with a token says
pub record Stated (number : ℕ) (ps : List Piece) (r : SourceRow) : Type 0 where
  pub said : Said
  pub line_says : LineSays number ps said
  pub row_is : row_for number said ≡ Some r

-- labels

pub label_marks : (m : TokenValue) (o : Option TokenValue) → is_label_on (Some m) o ≡ true → is_mark_of 58 o ≡ true
label_marks (a_name name) o h = h
label_marks (a_number n) o h = absurd cc
label_marks (a_text bytes) o h = absurd cc
label_marks (a_mark b) o h = absurd cc

labelled_rest : (line e : ℕ) (p c : Piece) (ps : List Piece) (name : List ℕ) (r : SourceRow) → IsLabel p c name → labelled_on (st line e ps) (name, p.col) (first (st line e ps)) ≡ Ok r → Stated line (p ∷ c ∷ ps) r
labelled_rest line e p c [] name r k h =
    record { said = _; line_says = statement_line (label_alone k); row_is = ap (λ (x : SourceRow). let y : Option SourceRow = Some x in y) (ok_same h) }
labelled_rest line e p c (q ∷ qs) name r k h =
    let b = bind_ok (operation_at (st line e (q ∷ qs))) (λ (x : Body). Ok (statement (st line e (q ∷ qs)) (Some (name, p.col)) q.col x)) r h in
    record { said = _; line_says = statement_line (labelled k (operation_read line e q qs b.0 b.1)); row_is = ap (λ (x : SourceRow). let y : Option SourceRow = Some x in y) (ok_same b.2) }

-- behind the label
abbrev label_then : List ℕ × ℕ → Reading SourceRow
label_then label s = labelled_on (past s) label (first (past s))

label_read : (line e : ℕ) (p : Piece) (ps : List Piece) (r : SourceRow) → is_mark_of 58 (says_first ps) ≡ true → labelled_at (st line e (p ∷ ps)) ≡ Ok r → Stated line (p ∷ ps) r
unfolding labelled_at
label_read line e p [] r m h = absurd cc
label_read line e p (c ∷ ps) r m h =
    let w = (slot_law (one_symbol line e) label_then (p ∷ c ∷ ps) r).0 h in
    let t = w.tokens in
    let same_piece : w.piece ≡ p = cc in
    let same_rest : w.rest ≡ c ∷ ps = cc in
    let label : IsSymbolAt w.value p = subst (IsSymbolAt w.value) same_piece w.is in
    let k : label_then w.value (st line e (c ∷ ps)) ≡ Ok r = ap (λ (qs : List Piece). label_then w.value (st line e qs)) (sym same_rest) ∙ w.next in
    labelled_rest line e p c ps w.value.0 r (record { symbol = label.0; colon = mark_says 58 c.says m })
    (ap (λ (col : ℕ). label_then (w.value.0, col) (st line e (c ∷ ps))) (sym label.1) ∙ k)

-- heads of modules

pub head_named : (m : TokenValue) → is_head_on (Some m) ≡ true → m ≡ a_name (codes ".module")
head_named (a_name name) h = ap a_name ((bytes_eq-Decides name (codes ".module")).0 h)
head_named (a_number n) h = absurd cc
head_named (a_text bytes) h = absurd cc
head_named (a_mark b) h = absurd cc

-- what stands behind the head's first token, walked once
abbrev pub head_then : ℕ → Reading SourceRow
head_then line = followed any_name_at (λ name. end_as (a_head name line))

pub head_start : (few line e : ℕ) → Start few false symbols line e (head_then line) (Followed IsAnyName (λ name ps r. (ps ≡ []) × (a_head name line ≡ r)))
head_start few line e =
    slot_start (one_any_name line e) (λ name. end_as (a_head name line)) (λ name ps r. (ps ≡ []) × (a_head name line ≡ r))
    (λ name. begun (end_start few line e (a_head name line)))

pub head_law : (line e : ℕ) (p : Piece) (ps : List Piece) (r : SourceRow)
    → (head_at (st line e (p ∷ ps)) ≡ Ok r) ↔ ((q : Piece) × (name : List ℕ) × (ps ≡ q ∷ []) × IsAnyName name q × (a_head name line ≡ r))
unfolding head_at
head_law line e p ps r = (
  λ h. let w = law.0 h in (w.piece, w.value, w.tokens ∙ ap (λ (qs : List Piece). w.piece ∷ qs) w.next.0, w.is, w.next.1),
  λ w. law.1 (record { value = w.1; piece = w.0; rest = []; tokens = w.2; is = w.3; next = (refl, w.4) }),
)
  where
    law : (head_then line (st line e ps) ≡ Ok r) ↔ Followed IsAnyName (λ name qs x. (qs ≡ []) × (a_head name line ≡ x)) ps r
    law = lawful (λ few. begun (head_start few line e)) ps r

head_read : (line e : ℕ) (p : Piece) (ps : List Piece) (r : SourceRow) → IsNamed (codes ".module") p → head_at (st line e (p ∷ ps)) ≡ Ok r → Stated line (p ∷ ps) r
head_read line e p ps r n h =
    let w = (head_law line e p ps r).0 h in
    subst (λ (qs : List Piece). Stated line (p ∷ qs) r) (sym w.2) (record { said = begins w.1; line_says = module_line (head n w.3.0 w.3.1); row_is = ap (λ (x : SourceRow). let y : Option SourceRow = Some x in y) w.4 })

-- a statement with no label

pub no_colon : (m : TokenValue) (ps : List Piece) → (name : List ℕ) → m ≡ a_name name → is_label_on (Some m) (says_first ps) ≡ false → BeginsWithNoColon ps
no_colon m [] name n h = tt
no_colon m (p ∷ ps) name n h =
    λ (x : p.says ≡ a_mark 58). true≢false (sym (ap₂ (λ (a b : TokenValue). is_label_on (Some a) (Some b)) n x) ∙ h)

body_named : (ps : List Piece) (c : Body) → IsBody ps c → (p : Piece) × (qs : List Piece) × (name : List ℕ) × (ps ≡ p ∷ qs) × IsNamed name p
body_named ps c (text {p = p} n) = (p, [], codes ".text", refl, n)
body_named ps c (data_section {p = p} n) = (p, [], codes ".data", refl, n)
body_named ps c (at {p = p} {q = q} n h l) = (p, q ∷ [], codes ".at", refl, n)
body_named ps c (word {p = p} {ps = qs} n h) = (p, qs, codes ".word", refl, n)
body_named ps c (half {p = p} {ps = qs} n h) = (p, qs, codes ".half", refl, n)
body_named ps c (byte {p = p} {ps = qs} n h) = (p, qs, codes ".byte", refl, n)
body_named ps c (ascii {p = p} {q = q} n h) = (p, q ∷ [], codes ".ascii", refl, n)
body_named ps c (zeros {p = p} {q = q} n h l) = (p, q ∷ [], codes ".zero", refl, n)
body_named ps c (align {p = p} {q = q} n h k) = (p, q ∷ [], codes ".align", refl, n)
body_named ps c (global {p = p} {q = q} n h) = (p, q ∷ [], codes ".global", refl, n)
body_named ps c (set {p = p} {q = q} {c = k} {ps = qs} n h t w) = (p, q ∷ k ∷ qs, codes ".set", refl, n)
body_named ps c (code {p = p} {ps = qs} n h) = (p, qs, _, refl, n)

plain_read : (line e : ℕ) (p : Piece) (ps : List Piece) (r : SourceRow) → is_label_on (Some p.says) (says_first ps) ≡ false → unlabelled_at (st line e (p ∷ ps)) ≡ Ok r → Stated line (p ∷ ps) r
plain_read line e p ps r l h =
    let b = bind_ok (operation_at (st line e (p ∷ ps))) (λ (x : Body). Ok (statement (st line e (p ∷ ps)) None p.col x)) r h in
    let k = operation_read line e p ps b.0 b.1 in
    let n = body_named (p ∷ ps) b.0 k in
    let same : p ≡ n.0 = cc (n.3) in
    let named : p.says ≡ a_name n.2 = ap (λ (q : Piece). q.says) same ∙ n.4 in
    record { said = _; line_says = statement_line (unlabelled k (no_colon p.says ps n.2 named l)); row_is = ap (λ (x : SourceRow). let y : Option SourceRow = Some x in y) (ok_same b.2) }

pub row_read : (line e : ℕ) (p : Piece) (ps : List Piece) (r : SourceRow) → row_at (st line e (p ∷ ps)) ≡ Ok r → Stated line (p ∷ ps) r
unfolding row_at
row_read line e p ps r h =
    elim (chosen (is_label_on (Some p.says) (says_first ps)) _ _ _ h) [
      | inl j ↦ label_read line e p ps r (label_marks p.says (says_first ps) j.0) j.1
      | inr j ↦
          elim (chosen (is_head_on (Some p.says)) _ _ _ j.1) [
            | inl k ↦ head_read line e p ps r (head_named p.says k.0) k.1
            | inr k ↦ plain_read line e p ps r j.0 k.1
          ]
    ]

-- what is related is read

label_again : (line e : ℕ) (p c : Piece) (ps : List Piece) (name : List ℕ) (r : SourceRow) → IsLabel p c name
    → labelled_on (st line e ps) (name, p.col) (first (st line e ps)) ≡ Ok r → row_at (st line e (p ∷ c ∷ ps)) ≡ Ok r
unfolding row_at labelled_at
label_again line e p c ps name r k h =
    take_then (is_label_on (Some p.says) (Some c.says)) _ _ (ap₂ (λ (a b : TokenValue). is_label_on (Some a) (Some b)) k.symbol.0 k.colon)
    ∙ (slot_law (one_symbol line e) label_then (p ∷ c ∷ ps) r).1
    (record { value = (name, p.col); piece = p; rest = c ∷ ps; tokens = refl; is = (k.symbol, refl); next = h })

colon_free : (m : TokenValue) (ps : List Piece) → BeginsWithNoColon ps → is_label_on (Some m) (says_first ps) ≡ false
colon_free (a_name name) [] h = refl
colon_free (a_name name) (p ∷ ps) h = elim (tested (is_mark_of 58 (Some p.says))) [ inl e ↦ absurd (h (mark_says 58 p.says e)) | inr e ↦ e ]
colon_free (a_number n) ps h = refl
colon_free (a_text bytes) ps h = refl
colon_free (a_mark b) ps h = refl

head_no_label : (line e : ℕ) (p q : Piece) (name : List ℕ) → IsNamed (codes ".module") p → IsNamed name q → is_label_on (Some p.says) (Some q.says) ≡ false
head_no_label line e p q name n k = ap₂ (λ (a b : TokenValue). is_label_on (Some a) (Some b)) n k

head_again : (line e : ℕ) (ps : List Piece) (name : List ℕ) → IsHead ps name → row_at (st line e ps) ≡ Ok (a_head name line)
unfolding row_at head_at
head_again line e ps name (head {p = p} {q = q} n k v) =
    take_else (is_label_on (Some p.says) (Some q.says)) _ _ (head_no_label line e p q name n k)
    ∙ take_then (is_head_on (Some p.says)) _ _ (ap (λ (m : TokenValue). is_head_on (Some m)) n)
    ∙ (head_law line e p (q ∷ []) (a_head name line)).1 (q, name, refl, (k, v), refl)

-- an operation isn't the head of a module
pub not_head : (line e : ℕ) (ps : List Piece) (c : Body) → operation_at (st line e ps) ≡ Ok c → is_head_on (first (st line e ps)) ≡ false
unfolding operation_at
not_head line e [] c h = refl
not_head line e (p ∷ ps) c h = by_says p.says refl
  where
    by_says : (m : TokenValue) → p.says ≡ m → is_head_on (Some p.says) ≡ false
    by_says (a_name name) n =
        let k : operation_on (st line e (p ∷ ps)) (Some (a_name name)) ≡ Ok c = ap (λ (m : TokenValue). operation_on (st line e (p ∷ ps)) (Some m)) (sym n) ∙ h in
        elim (chosen (is_module name) _ _ _ k) [
          | inl j ↦ absurd cc
          | inr j ↦ ap (λ (m : TokenValue). is_head_on (Some m)) n ∙ j.0
        ]
    by_says (a_number k) n = ap (λ (o : TokenValue). is_head_on (Some o)) n
    by_says (a_text bytes) n = ap (λ (o : TokenValue). is_head_on (Some o)) n
    by_says (a_mark b) n = ap (λ (o : TokenValue). is_head_on (Some o)) n

plain_again : (line e : ℕ) (p : Piece) (ps : List Piece) (c : Body) → IsBody (p ∷ ps) c → BeginsWithNoColon ps → row_at (st line e (p ∷ ps)) ≡ Ok (statement (st line e (p ∷ ps)) None p.col c)
unfolding row_at
plain_again line e p ps c h k =
    let s = st line e (p ∷ ps) in
    let o = body_again line e (p ∷ ps) c h in
    take_else (is_label_on (Some p.says) (says_first ps)) _ _ (colon_free p.says ps k)
    ∙ take_else (is_head_on (Some p.says)) _ _ (not_head line e (p ∷ ps) c o)
    ∙ bind_to (operation_at s) (λ (x : Body). Ok (statement s None p.col x)) c (Ok (statement s None p.col c)) o refl

statement_again : (line e : ℕ) (ps : List Piece) (s : Statement) → IsStatement line ps s → row_at (st line e ps) ≡ Ok (a_statement s)
statement_again line e ps s (unlabelled {p = p} {ps = qs} {said = c} h k) = plain_again line e p qs c h k
statement_again line e ps s (labelled {l = l} {c = c} {p = p} {ps = qs} {name = name} {said = said} k h) =
    label_again line e l c (p ∷ qs) name (a_statement s) k
    (bind_to (operation_at (st line e (p ∷ qs))) (λ (x : Body). Ok (statement (st line e (p ∷ qs)) (Some (name, l.col)) p.col x)) said (Ok (a_statement s)) (body_again line e (p ∷ qs) said h) refl)
statement_again line e ps s (label_alone {l = l} {c = c} {name = name} k) = label_again line e l c [] name (a_statement s) k refl

-- a line's tokens

pub line_read : (number : ℕ) (ps : List Piece) (o : Option SourceRow) → row_of_pieces number ps ≡ Ok o → (said : Said) × LineSays number ps said × (row_for number said ≡ o)
line_read number [] o h = (says_nothing, empty_line, ok_same h)
line_read number (p ∷ ps) o h =
    let b = bind_ok (row_at (st number (end_of_line (p ∷ ps)) (p ∷ ps))) (λ (r : SourceRow). let y : Result (Option SourceRow) ParseFault = Ok (Some r) in y) o h in
    let k = row_read number (end_of_line (p ∷ ps)) p ps b.0 b.1 in
    (k.said, k.line_says, k.row_is ∙ ok_same b.2)

abbrev some_row : SourceRow → Result (Option SourceRow) ParseFault
some_row r = Ok (Some r)

statement_some : (number : ℕ) (ps : List Piece) (s : Statement) → IsStatement number ps s → row_of_pieces number ps ≡ Ok (Some (a_statement s))
statement_some number [] s h = absurd (none h)
  where
    none : IsStatement number [] s → ⊥
    none x = elim x [ ]
statement_some number (p ∷ ps) s h = bind_to (row_at (st number (end_of_line (p ∷ ps)) (p ∷ ps))) some_row (a_statement s) (Ok (Some (a_statement s))) (statement_again number (end_of_line (p ∷ ps)) (p ∷ ps) s h) refl

head_some : (number : ℕ) (ps : List Piece) (name : List ℕ) → IsHead ps name → row_of_pieces number ps ≡ Ok (Some (a_head name number))
head_some number [] name h = absurd (none h)
  where
    none : IsHead [] name → ⊥
    none x = elim x [ ]
head_some number (p ∷ ps) name h = bind_to (row_at (st number (end_of_line (p ∷ ps)) (p ∷ ps))) some_row (a_head name number) (Ok (Some (a_head name number))) (head_again number (end_of_line (p ∷ ps)) (p ∷ ps) name h) refl

pub line_again : (number : ℕ) (ps : List Piece) (said : Said) → LineSays number ps said → row_of_pieces number ps ≡ Ok (row_for number said)
line_again number ps said empty_line = refl
line_again number ps said (statement_line {s = s} h) = statement_some number ps s h
line_again number ps said (module_line {name = name} h) = head_some number ps name h
