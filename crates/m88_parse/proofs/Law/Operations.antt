-- The law of operations: a directive or an instruction is read as the body that it is related to.
use Rattle.std.proofs.Common.{◌≡◌, ℕ, Bool, true, false, inl, inr, List, [], ◌∷◌, Option, Some, None, Ok, refl, sym, ap, ap₂, ◌∙◌, arith, subst, bytes_eq, find}
use Rattle.std.proofs.lemmas.Slice.Eq.{bytes_eq-Decides}
use Rattle.m88_isa.specs.declared.mnemonic.Mnemonic.{Mnemonic}
use Rattle.m88_isa.specs.declared.mnemonic.Mnemonic.TheVariants as mnemonic
use Rattle.m88_isa.specs.Mnemonic.{text_of}
use Rattle.m88_isa.specs.Letters.{begun_with, mnemonic_of}
use Rattle.m88_isa.proofs.Laws.{spelled_once, spells}
use Rattle.m88_parse.specs.declared.unit.Body.{Body}
use Rattle.m88_parse.specs.declared.unit.Body.TheVariants as body
use Rattle.m88_parse.specs.declared.directive.Directive.{Directive}
use Rattle.m88_parse.specs.declared.directive.Directive.TheVariants as directive
use Rattle.m88_parse.specs.Inside.Names.{is_module}
use Rattle.m88_parse.specs.Language.Pieces.{TokenValue, a_name, a_number, a_text, a_mark, Piece}
use Rattle.m88_parse.specs.Inside.Shapes.{shape_of}
use Rattle.m88_parse.specs.Inside.Directives.{directive_text, all_directives, directive_of}
use Rattle.m88_parse.specs.Inside.Grammar.{read, form_of, directive_form}
use Rattle.m88_parse.specs.Inside.Source.{instruction_form, form_in, by_form, operation_on, operation_at}
use Rattle.m88_parse.specs.Language.Names.{IsNamed}
use Rattle.m88_parse.specs.Language.Statements.{IsBody, text, data_section, at, word, half, byte, ascii, zeros, align, global, set, code}
use Rattle.m88_parse.proofs.Law.TestsAndChoices.{chosen, take_else}
use Rattle.m88_parse.proofs.Law.Names.{some_same}
use Rattle.m88_parse.proofs.Law.SingleTokens.{st}
use Rattle.m88_parse.proofs.Law.Values.{word_signed, signed_word}
use Rattle.m88_parse.proofs.Law.OperandForms.{Meets, form_law}
use Rattle.m88_parse.proofs.Law.Mnemonics.{name_of_shape}
use Rattle.m88_parse.proofs.Law.Instructions.{first_met, only_met, met_one, met_first, operands_met, met_operands}

-- the names of operations

found : {A : Type 0} (p : A → Bool) (xs : List A) (x : A) → find p xs ≡ Some x → p x ≡ true
found p [] x h = absurd cc
found p (y ∷ ys) x h =
    elim (chosen (p y) (Some y) (find p ys) (Some x) h) [
      | inl j ↦ ap p (sym (some_same j.1)) ∙ j.0
      | inr j ↦ found p ys x j.1
    ]

directive_is : (name : List ℕ) (d : Directive) → directive_of name ≡ Some d → name ≡ directive_text d
directive_is name d h = sym ((bytes_eq-Decides (directive_text d) name).0 (found (λ k. bytes_eq (directive_text k) name) all_directives d h))

directive_once : (d : Directive) → directive_of (directive_text d) ≡ Some d
unfolding directive_text all_directives
directive_once directive.Text = refl
directive_once _ = refl

no_mnemonic : (d : Directive) → mnemonic_of (directive_text d) ≡ None
unfolding directive_text begun_with text_of
no_mnemonic directive.Text = refl
no_mnemonic _ = refl

no_module : (d : Directive) → is_module (directive_text d) ≡ false
unfolding directive_text
no_module directive.Text = refl
no_module _ = refl

no_module_mnemonic : (m : Mnemonic) → is_module (text_of m) ≡ false
unfolding text_of
no_module_mnemonic mnemonic.XmemBu = refl
no_module_mnemonic _ = refl

-- directives: what is read is related

moved : (p : Piece) (ps qs : List Piece) (b c : Body) → ps ≡ qs → b ≡ c → IsBody (p ∷ qs) b → IsBody (p ∷ ps) c
moved p ps qs b c t k h = subst (IsBody (p ∷ ps)) k (subst (λ (xs : List Piece). IsBody (p ∷ xs) b) (sym t) h)

directive_met : (d : Directive) (p : Piece) (ps : List Piece) (c : Body) → IsNamed (directive_text d) p → Meets (directive_form d) ps c → IsBody (p ∷ ps) c
unfolding directive_text directive_form
directive_met directive.Text p ps c n h = moved p ps [] body.Text c h.0 h.1 (text n)
directive_met directive.Data p ps c n h = moved p ps [] body.DataSection c h.0 h.1 (data_section n)
directive_met directive.At p ps c n h = let k = only_met h in let l = k.3.1 in moved p ps (k.1 ∷ []) (body.At k.0) c k.2 k.4 (at n k.3.0 (omega arith))
directive_met directive.Word p ps c n h = moved p ps ps (body.Word h.0) c refl h.2 (word n h.1)
directive_met directive.Half p ps c n h = moved p ps ps (body.Half h.0) c refl h.2 (half n h.1)
directive_met directive.Byte p ps c n h = moved p ps ps (body.Byte h.0) c refl h.2 (byte n h.1)
directive_met directive.Ascii p ps c n h = let k = only_met h in moved p ps (k.1 ∷ []) (body.Ascii k.0) c k.2 k.4 (ascii n k.3)
directive_met directive.Zero p ps c n h = let k = only_met h in let l = k.3.1 in moved p ps (k.1 ∷ []) (body.Zero k.0) c k.2 k.4 (zeros n k.3.0 (omega arith))
directive_met directive.Align p ps c n h = let k = only_met h in moved p ps (k.1 ∷ []) (body.Align k.0) c k.2 k.4 (align n k.3.0 k.3.1)
directive_met directive.Global p ps c n h = let k = only_met h in moved p ps (k.1 ∷ []) (body.Global k.0.0) c k.2 k.4 (global n k.3.0)
directive_met directive.Set p ps c n h =
    let k = first_met h in let v = k.next in
    moved p ps (k.piece ∷ k.comma ∷ k.rest) (body.Set k.value.0 k.piece.col v.0) c k.tokens (ap (λ (col : ℕ). body.Set k.value.0 col v.0) (sym k.is.1) ∙ v.2) (set n k.is.0 k.parted (word_signed k.rest v.0 v.1))

instruction_read : (m : Mnemonic) (line e : ℕ) (p : Piece) (ps : List Piece) (c : Body) → IsNamed (text_of m) p → read (instruction_form m) (st line e ps) ≡ Ok c → IsBody (p ∷ ps) c
instruction_read m line e p ps c n h =
    let k = operands_met (shape_of m) ps c ((form_law (form_of (shape_of m)) line e ps c).0 h) in
    subst (IsBody (p ∷ ps)) k.body_is (code (n ∙ ap a_name (k.named (text_of m) (name_of_shape m))) k.operands)

form_read : (line e : ℕ) (p : Piece) (ps : List Piece) (name : List ℕ) (m : Option Mnemonic) (d : Option Directive) (c : Body) → IsNamed name p → mnemonic_of name ≡ m → directive_of name ≡ d
    → by_form (st line e (p ∷ ps)) (form_in m d) ≡ Ok c → IsBody (p ∷ ps) c
form_read line e p ps name (Some m) d c n f g h = instruction_read m line e p ps c (n ∙ ap a_name (sym (spells name m f))) h
form_read line e p ps name None (Some d) c n f g h = directive_met d p ps c (n ∙ ap a_name (directive_is name d g)) ((form_law (directive_form d) line e ps c).0 h)
form_read line e p ps name None None c n f g h = absurd cc

operation_by : (line e : ℕ) (p : Piece) (ps : List Piece) (m : TokenValue) (c : Body) → p.says ≡ m → operation_on (st line e (p ∷ ps)) (Some m) ≡ Ok c → IsBody (p ∷ ps) c
operation_by line e p ps (a_name name) c n h =
    elim (chosen (is_module name) _ _ _ h) [
      | inl j ↦ absurd cc
      | inr j ↦ form_read line e p ps name (mnemonic_of name) (directive_of name) c n refl refl j.1
    ]
operation_by line e p ps (a_number k) c n h = absurd cc
operation_by line e p ps (a_text bytes) c n h = absurd cc
operation_by line e p ps (a_mark k) c n h = absurd cc

pub operation_read : (line e : ℕ) (p : Piece) (ps : List Piece) (c : Body) → operation_at (st line e (p ∷ ps)) ≡ Ok c → IsBody (p ∷ ps) c
unfolding operation_at
operation_read line e p ps c h = operation_by line e p ps p.says c refl h

-- what is related is read

by_directive : (d : Directive) (line e : ℕ) (p : Piece) (ps : List Piece) (c : Body) → IsNamed (directive_text d) p → Meets (directive_form d) ps c → operation_at (st line e (p ∷ ps)) ≡ Ok c
unfolding operation_at
by_directive d line e p ps c n h =
    let s = st line e (p ∷ ps) in
    ap (λ (m : TokenValue). operation_on s (Some m)) n
    ∙ take_else (is_module (directive_text d)) _ _ (no_module d)
    ∙ ap₂ (λ (m : Option Mnemonic) (k : Option Directive). by_form s (form_in m k)) (no_mnemonic d) (directive_once d)
    ∙ (form_law (directive_form d) line e ps c).1 h

by_mnemonic : (m : Mnemonic) (line e : ℕ) (p : Piece) (ps : List Piece) (c : Body) → IsNamed (text_of m) p → Meets (form_of (shape_of m)) ps c → operation_at (st line e (p ∷ ps)) ≡ Ok c
unfolding operation_at
by_mnemonic m line e p ps c n h =
    let s = st line e (p ∷ ps) in
    ap (λ (o : TokenValue). operation_on s (Some o)) n
    ∙ take_else (is_module (text_of m)) _ _ (no_module_mnemonic m)
    ∙ ap (λ (o : Option Mnemonic). by_form s (form_in o (directive_of (text_of m)))) (spelled_once m)
    ∙ (form_law (form_of (shape_of m)) line e ps c).1 h

pub body_again : (line e : ℕ) (ps : List Piece) (c : Body) → IsBody ps c → operation_at (st line e ps) ≡ Ok c
unfolding directive_text directive_form
body_again line e ps c (text {p = p} n) = by_directive directive.Text line e p [] c n (refl, refl)
body_again line e ps c (data_section {p = p} n) = by_directive directive.Data line e p [] c n (refl, refl)
body_again line e ps c (at {p = p} {q = q} {n = v} n h l) = by_directive directive.At line e p (q ∷ []) c n (met_one v (h, omega arith) (refl, refl))
body_again line e ps c (word {p = p} {ps = qs} {vs = vs} n h) = by_directive directive.Word line e p qs c n (vs, h, refl)
body_again line e ps c (half {p = p} {ps = qs} {ns = ns} n h) = by_directive directive.Half line e p qs c n (ns, h, refl)
body_again line e ps c (byte {p = p} {ps = qs} {ns = ns} n h) = by_directive directive.Byte line e p qs c n (ns, h, refl)
body_again line e ps c (ascii {p = p} {q = q} {bytes = bs} n h) = by_directive directive.Ascii line e p (q ∷ []) c n (met_one bs h (refl, refl))
body_again line e ps c (zeros {p = p} {q = q} {n = v} n h l) = by_directive directive.Zero line e p (q ∷ []) c n (met_one v (h, omega arith) (refl, refl))
body_again line e ps c (align {p = p} {q = q} {n = v} n h k) = by_directive directive.Align line e p (q ∷ []) c n (met_one v (h, k) (refl, refl))
body_again line e ps c (global {p = p} {q = q} {name = name} n h) = by_directive directive.Global line e p (q ∷ []) c n (met_one (name, q.col) (h, refl) (refl, refl))
body_again line e ps c (set {p = p} {q = q} {c = k} {ps = qs} {name = name} {n = v} n h t w) = by_directive directive.Set line e p (q ∷ k ∷ qs) c n (met_first (name, q.col) (h, refl) t (v, signed_word qs v w, refl))
body_again line e ps c (code {p = p} {ps = qs} {instr = i} {fixup = f} n h) =
    let k = met_operands qs i f h in by_mnemonic k.mnemonic line e p qs c (n ∙ ap a_name (sym k.spelled)) k.meets
