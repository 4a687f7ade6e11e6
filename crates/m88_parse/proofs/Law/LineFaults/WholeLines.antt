-- The fault that is read in a line's tokens is the one of the language.
use Rattle.std.proofs.Common.{◌≡◌, ℕ, suc, Bool, true, false, if◌then◌else◌, inl, inr, List, [], ◌∷◌, ◌++◌, length, Option, Some, None, Result, Ok, Err, refl, sym, ap, ap₂, ◌∙◌, subst, arith, append_assoc, append-nil, true≢false, codes}
use Rattle.m88_isa.specs.declared.mnemonic.Mnemonic.{Mnemonic}
use Rattle.m88_isa.specs.Mnemonic.{text_of}
use Rattle.m88_isa.specs.Letters.{begun_with, mnemonic_of}
use Rattle.m88_parse.specs.declared.fault.ParseKind.{ParseKind}
use Rattle.m88_parse.specs.declared.fault.ParseKind.TheVariants.{Syntax, NoSuchName}
use Rattle.m88_parse.specs.declared.fault.ParseFault.{ParseFault}
use Rattle.m88_parse.specs.declared.directive.Directive.{Directive}
use Rattle.m88_parse.specs.declared.unit.Body.{Body}
use Rattle.m88_parse.specs.Inside.Names.{is_module, is_symbol}
use Rattle.m88_parse.specs.Language.Pieces.{TokenValue, a_name, a_number, a_text, a_mark, Piece}
use Rattle.m88_parse.specs.Inside.State.{ReaderState, says_first, first, place, past, is_mark_of, ◌>>=◌}
use Rattle.m88_parse.specs.Inside.Slots.{symbol_on, symbol_at}
use Rattle.m88_parse.specs.Inside.Shapes.{shape_of}
use Rattle.m88_parse.specs.Inside.Directives.{directive_text, all_directives, directive_of}
use Rattle.m88_parse.specs.Inside.Grammar.{Form, read, form_of, directive_form}
use Rattle.m88_parse.specs.Inside.Source.{SourceRow, form_in, form_named, by_form, operation_on, operation_at, statement, labelled_on, labelled_at, head_at, is_label_on, is_head_on, row_at, end_of_line, row_of_pieces}
use Rattle.m88_parse.specs.Language.Names.{IsMark, IsNamed, IsSymbol}
use Rattle.m88_parse.specs.Language.Statements.{IsBody, text as text_body, IsLabel, IsStatement, unlabelled, labelled as labelled_body, label_alone, IsHead, head}
use Rattle.m88_parse.specs.Language.Units.{Said, LineSays, empty_line, statement_line, module_line}
use Rattle.m88_parse.specs.Language.LineFaults.{IsOperation, operation, head_of_module, Continues, MayFollow, misplaced, Stops, IsBroken, IsLineFault, no_label, labelled_head, behind_label, without_label}
use Rattle.m88_parse.proofs.Law.TestsAndChoices.{chosen, tested, take_then, take_else}
use Rattle.m88_parse.proofs.Law.Names.{symbol_is, symbol_name_again}
use Rattle.m88_parse.proofs.Law.SingleTokens.{st, mark_says, own_names, kind_for, saying, any, any_is_symbol, NoName, number_is, text_is, mark_is}
use Rattle.m88_parse.proofs.Law.Operations.{body_again}
use Rattle.m88_parse.proofs.Law.Statements.{label_marks, head_named, head_then, head_start, no_colon}
use Rattle.m88_parse.proofs.Law.LineFaults.Readers.{fault_in, Reader, here, row_or_head, heard, EndsAt, Told, Good, Wanted, same_fault}
use Rattle.m88_parse.proofs.Law.LineFaults.TokenByToken.{fresh_behind, misplaced_by, told}
use Rattle.m88_parse.proofs.Law.Readings.{faults_of, begun}
use Rattle.m88_parse.proofs.Law.OperandForms.{form_walk}
use Rattle.m88_parse.proofs.Law.LineFaults.WholeOperations.{heard_law}

-- the first token of an operation

stated_fault : (r : Result Body ParseFault) (g : Body → SourceRow) → fault_in (r >>= λ (b : Body). let y : Result SourceRow ParseFault = Ok (g b) in y) ≡ fault_in r
stated_fault (Ok b) g = refl
stated_fault (Err f) g = refl

heard_body : (line e : ℕ) (p : Piece) (ps : List Piece) → is_head_on (Some p.says) ≡ false → heard line e (p ∷ ps) ≡ fault_in (operation_at (st line e (p ∷ ps)))
heard_body line e p ps n =
    ap (λ (r : Result SourceRow ParseFault). fault_in r) (take_else (is_head_on (Some p.says)) _ _ n)
    ∙ stated_fault (operation_at (st line e (p ∷ ps))) (λ b. statement (st line e (p ∷ ps)) None (place (st line e (p ∷ ps))) b)

heard_plain : (line e : ℕ) (p : Piece) (ps : List Piece) (m : TokenValue) → p.says ≡ m → is_head_on (Some m) ≡ false → heard line e (p ∷ ps) ≡ fault_in (operation_on (st line e (p ∷ ps)) (Some m))
unfolding operation_at
heard_plain line e p ps m h n =
    heard_body line e p ps (ap (λ (o : TokenValue). is_head_on (Some o)) h ∙ n)
    ∙ ap (λ (o : TokenValue). fault_in (operation_on (st line e (p ∷ ps)) (Some o))) h

heard_named : (line e : ℕ) (p : Piece) (ps : List Piece) (name : List ℕ) → p.says ≡ a_name name → is_module name ≡ false → heard line e (p ∷ ps) ≡ fault_in (by_form (st line e (p ∷ ps)) (form_named name))
heard_named line e p ps name h n = heard_plain line e p ps (a_name name) h n ∙ ap (λ (r : Result Body ParseFault). fault_in r) (take_else (is_module name) _ _ n)

heard_other : (line e : ℕ) (p : Piece) (ps : List Piece) (m : TokenValue) → p.says ≡ m → NoName m → heard line e (p ∷ ps) ≡ here line p.col Syntax
heard_other line e p ps m h number_is = heard_plain line e p ps m h refl
heard_other line e p ps m h text_is = heard_plain line e p ps m h refl
heard_other line e p ps m h mark_is = heard_plain line e p ps m h refl

-- what may stand first

text_piece : Piece
text_piece = saying (a_name (codes ".text"))

text_says : IsNamed (codes ".text") text_piece
unfolding text_piece
text_says = refl

begins : Continues []
begins = (text_piece ∷ [], operation (text_body text_says))

unnamed : form_named (codes "x") ≡ None
unfolding text_of begun_with directive_text all_directives
unnamed = refl

not_first : (p : Piece) → ((ps : List Piece) → heard 0 0 (p ∷ ps) ≡ None → ⊥) → MayFollow [] p → ⊥
not_first p n x = n x.0 ((heard_law 0 0 (p ∷ x.0)).1 x.1)

no_any : (ps : List Piece) → heard 0 0 (any ∷ ps) ≡ None → ⊥
no_any ps h =
    let x : heard 0 0 (any ∷ ps) ≡ here 0 any.col NoSuchName = heard_named 0 0 any ps (codes "x") any_is_symbol.0 refl ∙ ap (λ (o : Option Form). fault_in (by_form (st 0 0 (any ∷ ps)) o)) unnamed in
    let y : ◌≡◌ {A = Option ParseFault} (here 0 any.col NoSuchName) None = sym x ∙ h in
    absurd cc

no_other : (p : Piece) (m : TokenValue) → p.says ≡ m → NoName m → (ps : List Piece) → heard 0 0 (p ∷ ps) ≡ None → ⊥
no_other p m h z ps n = let y : ◌≡◌ {A = Option ParseFault} (here 0 p.col Syntax) None = sym (heard_other 0 0 p ps m h z) ∙ n in absurd cc

first_wanted : Wanted false own_names []
first_wanted = record {
  numbers = λ x. not_first x.0 (no_other x.0 (a_number x.1) x.2 number_is) x.3;
  names = ((text_piece, codes ".text", text_says, ([], operation (text_body text_says))), λ all. not_first any (no_any) (all any (codes "x") any_is_symbol));
  opening = λ o h. not_first o (no_other o (a_mark 40) h mark_is);
}

no_last : (before : List Piece) (p : Piece) → ◌≡◌ {A = List Piece} [] (before ++ p ∷ []) → ⊥
no_last [] p h = absurd cc
no_last (q ∷ before) p h = absurd cc

first_told : (line e : ℕ) (p : Piece) (ps : List Piece) (f : ParseFault) → ((l c : ℕ) (qs : List Piece) → heard l c (p ∷ qs) ≡ here l p.col (kind_for false own_names p.says)) → heard line e (p ∷ ps) ≡ Some f
    → Told line (p ∷ ps) f
first_told line e p ps f x h =
    told line [] (p ∷ ps) p.col (kind_for false own_names p.says) f (begins)
    (not_first p (λ qs n. let y : ◌≡◌ {A = Option ParseFault} (here 0 p.col (kind_for false own_names p.says)) None = sym (x 0 0 qs) ∙ n in absurd cc))
    (misplaced (λ g y. no_last y.before g y.tokens) (misplaced_by false own_names [] p p.says refl (λ m y. no_last y.before m y.tokens) (first_wanted)))
    (sym h ∙ x line e ps)

-- an operation by its name

no_minus : (p : Piece) (name : List ℕ) → p.says ≡ a_name name → IsMark 45 p → ⊥
no_minus p name h m = let x = sym h ∙ m in cc

by_good : (line e : ℕ) (p : Piece) (ps : List Piece) (f : ParseFault) (name : List ℕ) (k : Reader) → p.says ≡ a_name name → ((qs : List Piece) → heard line e (p ∷ qs) ≡ k qs)
    → Good (suc (length ps)) line e k → EndsAt (p ∷ ps) e → heard line e (p ∷ ps) ≡ Some f → Told line (p ∷ ps) f
by_good line e p ps f name k h x g a i = g.1 (heard_law line e) (p ∷ []) (fresh_behind [] p (no_minus p name h)) x ps f (omega arith) a i

form_told : (line e : ℕ) (p : Piece) (ps : List Piece) (f : ParseFault) (name : List ℕ) (form : Form) → p.says ≡ a_name name → is_module name ≡ false → form_named name ≡ Some form
    → Good (suc (length ps)) line e (λ qs. fault_in (read form (st line e qs))) → EndsAt (p ∷ ps) e → heard line e (p ∷ ps) ≡ Some f → Told line (p ∷ ps) f
form_told line e p ps f name form h n i g =
    by_good line e p ps f name (λ qs. fault_in (read form (st line e qs))) h (λ qs. heard_named line e p qs name h n ∙ ap (λ (o : Option Form). fault_in (by_form (st line e (p ∷ qs)) o)) i) g

named_told : (line e : ℕ) (p : Piece) (ps : List Piece) (f : ParseFault) (name : List ℕ) (m : Option Mnemonic) (d : Option Directive) → p.says ≡ a_name name → is_module name ≡ false → mnemonic_of name ≡ m → directive_of name ≡ d
    → EndsAt (p ∷ ps) e → heard line e (p ∷ ps) ≡ Some f → Told line (p ∷ ps) f
named_told line e p ps f name (Some m) d h n i j =
    form_told line e p ps f name (form_of (shape_of m)) h n (ap (λ (o : Option Mnemonic). form_in o (directive_of name)) i) ((form_walk (form_of (shape_of m)) (suc (length ps)) line e).faults)
named_told line e p ps f name None (Some d) h n i j =
    form_told line e p ps f name (directive_form d) h n (ap₂ (λ (a : Option Mnemonic) (b : Option Directive). form_in a b) i j) ((form_walk (directive_form d) (suc (length ps)) line e).faults)
named_told line e p ps f name None None h n i j =
    λ a. first_told line e p ps f
    (λ l c qs. heard_named l c p qs name h n ∙ ap₂ (λ (a : Option Mnemonic) (b : Option Directive). fault_in (by_form (st l c (p ∷ qs)) (form_in a b))) i j ∙ ap (λ (o : TokenValue). here l p.col (kind_for false own_names o)) (sym h))

-- the head of a module

head_reader : (line e : ℕ) (p : Piece) (ps : List Piece) (name : List ℕ) → p.says ≡ a_name name → is_module name ≡ true
    → heard line e (p ∷ ps) ≡ faults_of line e (head_then line) ps
unfolding head_at
head_reader line e p ps name h t = same_fault (take_then (is_head_on (Some p.says)) _ _ (ap (λ (o : TokenValue). is_head_on (Some o)) h ∙ t))

module_told : (line e : ℕ) (p : Piece) (ps : List Piece) (f : ParseFault) (name : List ℕ) → p.says ≡ a_name name → is_module name ≡ true → EndsAt (p ∷ ps) e → heard line e (p ∷ ps) ≡ Some f → Told line (p ∷ ps) f
module_told line e p ps f name h t a i =
    by_good line e p ps f name (faults_of line e (head_then line)) h (λ qs. head_reader line e p qs name h t)
    (begun (head_start (suc (length ps)) line e)).faults a i

other_told : (line e : ℕ) (p : Piece) (ps : List Piece) (f : ParseFault) (m : TokenValue) → p.says ≡ m → NoName m → heard line e (p ∷ ps) ≡ Some f → Told line (p ∷ ps) f
other_told line e p ps f m h z = first_told line e p ps f (λ l c qs. heard_other l c p qs m h z ∙ same l m h z)
  where
    same : (l : ℕ) (o : TokenValue) → p.says ≡ o → NoName o → here l p.col Syntax ≡ here l p.col (kind_for false own_names p.says)
    same l o i number_is = ap (λ (v : TokenValue). here l p.col (kind_for false own_names v)) (sym i)
    same l o i text_is = ap (λ (v : TokenValue). here l p.col (kind_for false own_names v)) (sym i)
    same l o i mark_is = ap (λ (v : TokenValue). here l p.col (kind_for false own_names v)) (sym i)

pub operation_told : (line e : ℕ) (p : Piece) (ps : List Piece) (f : ParseFault) → EndsAt (p ∷ ps) e → heard line e (p ∷ ps) ≡ Some f → Told line (p ∷ ps) f
operation_told line e p ps f a h = by_says p.says refl
  where
    by_module : (name : List ℕ) → p.says ≡ a_name name → (t : Bool) → is_module name ≡ t → Told line (p ∷ ps) f
    by_module name i true t = module_told line e p ps f name i t a h
    by_module name i false t = named_told line e p ps f name (mnemonic_of name) (directive_of name) i t refl refl a h

    by_says : (m : TokenValue) → p.says ≡ m → Told line (p ∷ ps) f
    by_says (a_name name) i = by_module name i (is_module name) refl
    by_says (a_number v) i = other_told line e p ps f (a_number v) i number_is h
    by_says (a_text bytes) i = other_told line e p ps f (a_text bytes) i text_is h
    by_says (a_mark b) i = other_told line e p ps f (a_mark b) i mark_is h

-- lines

pub end_of_is : (p : Piece) (ps : List Piece) → EndsAt (p ∷ ps) (end_of_line (p ∷ ps))
end_of_is p [] = ([], p, refl, refl)
end_of_is p (q ∷ ps) = let r = end_of_is q ps in (p ∷ r.0, r.1, ap (λ (qs : List Piece). p ∷ qs) r.2, r.3)

abbrev pub LineFaultBy : ℕ → List Piece → ParseFault → Type 0
LineFaultBy number ps f = IsLineFault ps f.col f.kind × (number ≡ f.line)

err_is : {A : Type 0} {a b : ParseFault} → ◌≡◌ {A = Result A ParseFault} (Err a) (Err b) → a ≡ b
err_is h = cc

then_ok : {A B : Type 0} (r : Result A ParseFault) (g : A → B) (f : ParseFault) → (r >>= λ (x : A). let y : Result B ParseFault = Ok (g x) in y) ≡ Err f → r ≡ Err f
then_ok (Ok x) g f h = absurd cc
then_ok (Err k) g f h = let e = err_is h in ap (λ (y : ParseFault). let r : Result _ ParseFault = Err y in r) e

line_fault_is : (number : ℕ) (ps : List Piece) (col : ℕ) (kind : ParseKind) (f : ParseFault) → IsLineFault ps col kind → record { line = number; col = col; kind = kind } ≡ f → LineFaultBy number ps f
line_fault_is number ps col kind f u e = subst (LineFaultBy number ps) e (u, refl)

not_symbol : (p : Piece) (text : List ℕ) → p.says ≡ a_name text → is_symbol text ≡ false → (name : List ℕ) → IsSymbol name p → ⊥
not_symbol p text h t name i =
    let e : text ≡ name = let x = sym h ∙ i.0 in cc in
    true≢false (sym (symbol_name_again name i.1) ∙ ap is_symbol (sym e) ∙ t)

module_fault : (line e : ℕ) (q : Piece) (rs : List Piece) (f : ParseFault) → IsNamed (codes ".module") q → operation_at (st line e (q ∷ rs)) ≡ Err f → record { line = line; col = q.col; kind = Syntax } ≡ f
unfolding operation_at
module_fault line e q rs f n h =
    let x : ◌≡◌ {A = Result Body ParseFault} (Err (record { line = line; col = q.col; kind = Syntax })) (Err f) = sym (ap (λ (o : TokenValue). operation_on (st line e (q ∷ rs)) (Some o)) n) ∙ h in
    err_is x

behind_told : (line : ℕ) (p c : Piece) (qs : List Piece) (name : List ℕ) (f : ParseFault) → IsLabel p c name → labelled_on (st line (end_of_line (p ∷ c ∷ qs)) qs) (name, p.col) (first (st line (end_of_line (p ∷ c ∷ qs)) qs)) ≡ Err f → LineFaultBy line (p ∷ c ∷ qs) f
behind_told line p c [] name f l h = absurd cc
behind_told line p c (q ∷ rs) name f l h =
    let o = then_ok (operation_at (st line (end_of_line (q ∷ rs)) (q ∷ rs))) (λ b. statement (st line (end_of_line (q ∷ rs)) (q ∷ rs)) (Some (name, p.col)) q.col b) f h in
    elim (tested (is_head_on (Some q.says))) [
      | inl t ↦
          let n = head_named q.says t in
          line_fault_is line (p ∷ c ∷ q ∷ rs) q.col Syntax f (labelled_head l n) (module_fault line (end_of_line (q ∷ rs)) q rs f n o)
      | inr t ↦
          let no : IsNamed (codes ".module") q → ⊥ = λ n. true≢false (sym (ap (λ (m : TokenValue). is_head_on (Some m)) n) ∙ t) in
          let b = operation_told line (end_of_line (q ∷ rs)) q rs f (end_of_is q rs) (heard_body line (end_of_line (q ∷ rs)) q rs t ∙ ap (λ (r : Result Body ParseFault). fault_in r) o) in
          (behind_label l no b.0, b.1)
    ]

symbol_step : (line e : ℕ) (p : Piece) (ps : List Piece) (text : List ℕ) → p.says ≡ a_name text → symbol_at (st line e (p ∷ ps)) ≡ (if is_symbol text then Ok ((text, p.col), st line e ps) else Err (record { line = line; col = p.col; kind = Syntax }))
unfolding symbol_at
symbol_step line e p ps text h = ap (λ (m : TokenValue). symbol_on (st line e (p ∷ ps)) (Some m)) h

label_told : (line : ℕ) (p c : Piece) (qs : List Piece) (text : List ℕ) (f : ParseFault) → p.says ≡ a_name text → IsMark 58 c → labelled_at (st line (end_of_line (p ∷ c ∷ qs)) (p ∷ c ∷ qs)) ≡ Err f → LineFaultBy line (p ∷ c ∷ qs) f
unfolding labelled_at
label_told line p c qs text f h m i = by_symbol (is_symbol text) refl
  where
    step : symbol_at (st line (end_of_line (p ∷ c ∷ qs)) (p ∷ c ∷ qs)) ≡ (if is_symbol text then Ok ((text, p.col), st line (end_of_line (p ∷ c ∷ qs)) (c ∷ qs)) else Err (record { line = line; col = p.col; kind = Syntax }))
    step = symbol_step line (end_of_line (p ∷ c ∷ qs)) p (c ∷ qs) text h

    by_symbol : (t : Bool) → is_symbol text ≡ t → LineFaultBy line (p ∷ c ∷ qs) f
    by_symbol true t =
        behind_told line p c qs text f (record { symbol = (h, symbol_is text t); colon = m })
        (sym (ap (λ (r : Result ((List ℕ × ℕ) × ReaderState) ParseFault). r >>= λ (label : (List ℕ × ℕ) × ReaderState). labelled_on (past label.1) label.0 (first (past label.1))) (step ∙ take_then (is_symbol text) _ _ t)) ∙ i)
    by_symbol false t =
        let x : ◌≡◌ {A = Result SourceRow ParseFault} (Err (record { line = line; col = p.col; kind = Syntax })) (Err f) =
        sym (ap (λ (r : Result ((List ℕ × ℕ) × ReaderState) ParseFault). r >>= λ (label : (List ℕ × ℕ) × ReaderState). labelled_on (past label.1) label.0 (first (past label.1))) (step ∙ take_else (is_symbol text) _ _ t)) ∙ i in
        line_fault_is line (p ∷ c ∷ qs) p.col Syntax f (no_label m (not_symbol p text h t)) (err_is x)

colon_told : (line : ℕ) (p : Piece) (ps : List Piece) (f : ParseFault) → is_label_on (Some p.says) (says_first ps) ≡ true → labelled_at (st line (end_of_line (p ∷ ps)) (p ∷ ps)) ≡ Err f → LineFaultBy line (p ∷ ps) f
colon_told line p ps f t h = by_says p.says refl ps t h
  where
    by_says : (m : TokenValue) → p.says ≡ m → (qs : List Piece) → is_label_on (Some p.says) (says_first qs) ≡ true → labelled_at (st line (end_of_line (p ∷ qs)) (p ∷ qs)) ≡ Err f → LineFaultBy line (p ∷ qs) f
    by_says m i [] k j = let x = label_marks p.says None k in absurd cc
    by_says (a_name text) i (c ∷ qs) k j = label_told line p c qs text f i (mark_says 58 c.says (label_marks p.says (Some c.says) k)) j
    by_says (a_number v) i (c ∷ qs) k j = let x = sym (ap (λ (o : TokenValue). is_label_on (Some o) (Some c.says)) i) ∙ k in absurd cc
    by_says (a_text bytes) i (c ∷ qs) k j = let x = sym (ap (λ (o : TokenValue). is_label_on (Some o) (Some c.says)) i) ∙ k in absurd cc
    by_says (a_mark b) i (c ∷ qs) k j = let x = sym (ap (λ (o : TokenValue). is_label_on (Some o) (Some c.says)) i) ∙ k in absurd cc

plain_told : (line : ℕ) (p : Piece) (ps : List Piece) (f : ParseFault) → is_label_on (Some p.says) (says_first ps) ≡ false → row_or_head (st line (end_of_line (p ∷ ps)) (p ∷ ps)) ≡ Err f → LineFaultBy line (p ∷ ps) f
plain_told line p ps f t h = by_says p.says refl
  where
    is_told : Told line (p ∷ ps) f
    is_told = operation_told line (end_of_line (p ∷ ps)) p ps f (end_of_is p ps) (ap (λ (r : Result SourceRow ParseFault). fault_in r) h)

    no_name_colon : (c : Piece) (qs : List Piece) (m : TokenValue) → p.says ≡ m → NoName m → (name : List ℕ) → IsSymbol name p → ⊥
    no_name_colon c qs m i number_is name s = let x = sym i ∙ s.0 in cc
    no_name_colon c qs m i text_is name s = let x = sym i ∙ s.0 in cc
    no_name_colon c qs m i mark_is name s = let x = sym i ∙ s.0 in cc

    by_colon : (qs : List Piece) (m : TokenValue) → p.says ≡ m → NoName m → heard line (end_of_line (p ∷ qs)) (p ∷ qs) ≡ Some f → Told line (p ∷ qs) f → LineFaultBy line (p ∷ qs) f
    by_colon [] m i z k b = (without_label tt b.0, b.1)
    by_colon (c ∷ qs) m i z k b = elim (tested (is_mark_of 58 (Some c.says))) [
      | inl u ↦
          let x : ◌≡◌ {A = Option ParseFault} (here line p.col Syntax) (Some f) = sym (heard_other line (end_of_line (p ∷ c ∷ qs)) p (c ∷ qs) m i z) ∙ k in
          line_fault_is line (p ∷ c ∷ qs) p.col Syntax f (no_label (mark_says 58 c.says u) (no_name_colon c qs m i z)) cc
      | inr u ↦ (without_label (λ x. true≢false (sym (ap (λ (o : TokenValue). is_mark_of 58 (Some o)) x) ∙ u)) b.0, b.1)
    ]

    by_says : (m : TokenValue) → p.says ≡ m → LineFaultBy line (p ∷ ps) f
    by_says (a_name name) i = let b = is_told in (without_label (no_colon p.says ps name i t) b.0, b.1)
    by_says (a_number v) i = by_colon ps (a_number v) i number_is (ap (λ (r : Result SourceRow ParseFault). fault_in r) h) is_told
    by_says (a_text bytes) i = by_colon ps (a_text bytes) i text_is (ap (λ (r : Result SourceRow ParseFault). fault_in r) h) is_told
    by_says (a_mark b) i = by_colon ps (a_mark b) i mark_is (ap (λ (r : Result SourceRow ParseFault). fault_in r) h) is_told

pub line_fault_told : (number : ℕ) (ps : List Piece) (f : ParseFault) → row_of_pieces number ps ≡ Err f → LineFaultBy number ps f
unfolding row_at
line_fault_told number [] f h = absurd cc
line_fault_told number (p ∷ ps) f h =
    let r = then_ok (row_at (st number (end_of_line (p ∷ ps)) (p ∷ ps))) (λ x. let y : Option SourceRow = Some x in y) f h in
    elim (chosen (is_label_on (Some p.says) (says_first ps)) _ _ _ r) [
      | inl j ↦ colon_told number p ps f j.0 j.1
      | inr j ↦ plain_told number p ps f j.0 j.1
    ]

-- a line that says something has no fault

broken_not : (ps : List Piece) (col : ℕ) (kind : ParseKind) → IsBroken ps col kind → IsOperation ps → ⊥
broken_not ps col kind b o = by_rest b.rest b.tokens b.stops
  where
    by_rest : (rest : List Piece) → ps ≡ b.front ++ rest → Stops b.front rest → ⊥
    by_rest [] t s = s (subst (IsOperation) (t ∙ append-nil b.front) o)
    by_rest (p ∷ rest) t s = s (rest, subst (IsOperation) (t ∙ sym (append_assoc b.front (p ∷ []) rest)) o)

module_no_body : (p : Piece) (ps : List Piece) (c : Body) → IsBody (p ∷ ps) c → IsNamed (codes ".module") p → ⊥
unfolding operation_at
module_no_body p ps c h n =
    let x : ◌≡◌ {A = Result Body ParseFault} (Err (record { line = 0; col = p.col; kind = Syntax })) (Ok c) = sym (ap (λ (o : TokenValue). operation_on (st 0 0 (p ∷ ps)) (Some o)) n) ∙ body_again 0 0 (p ∷ ps) c h in
    absurd cc

pub said_not_faulty : (number : ℕ) (ps : List Piece) (said : Said) (col : ℕ) (kind : ParseKind) → LineSays number ps said → IsLineFault ps col kind → ⊥
said_not_faulty number ps said col kind empty_line u = elim u [ ]
said_not_faulty number ps said col kind (statement_line s) u = statement_not number ps _ col kind s u
  where
    statement_not : (number : ℕ) (ps : List Piece) (s : _) (col : ℕ) (kind : ParseKind) → IsStatement number ps s → IsLineFault ps col kind → ⊥
    statement_not number ps s col kind (unlabelled h k) (no_label c n) = k c
    statement_not number ps s col kind (unlabelled h k) (labelled_head l n) = k l.colon
    statement_not number ps s col kind (unlabelled h k) (behind_label l n b) = k l.colon
    statement_not number ps s col kind (unlabelled h k) (without_label n b) = broken_not _ col kind b (operation h)
    statement_not number ps s col kind (labelled_body {name = name} l h) (no_label c n) = n name l.symbol
    statement_not number ps s col kind (labelled_body l h) (labelled_head k n) = module_no_body _ _ _ h n
    statement_not number ps s col kind (labelled_body l h) (behind_label k n b) = broken_not _ col kind b (operation h)
    statement_not number ps s col kind (labelled_body l h) (without_label n b) = n l.colon
    statement_not number ps s col kind (label_alone {name = name} l) (no_label c n) = n name l.symbol
    statement_not number ps s col kind (label_alone l) (without_label n b) = n l.colon
said_not_faulty number ps said col kind (module_line h) u = head_not ps _ col kind h u
  where
    head_not : (ps : List Piece) (name : List ℕ) (col : ℕ) (kind : ParseKind) → IsHead ps name → IsLineFault ps col kind → ⊥
    head_not ps name col kind (head n k v) (no_label c m) = let x = sym k ∙ c in cc
    head_not ps name col kind (head n k v) (without_label m b) = broken_not _ col kind b (head_of_module (head n k v))
