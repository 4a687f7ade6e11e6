-- Statements as whole lists of tokens: a label, an operation, both or neither (statements and directives of the
-- assembly language).
use Rattle.std.specs.Prelude.{ℕ, ◌≡◌, ◌≢◌, ◌⊎◌, ◌<◌, ◌^◌, List, [], ◌∷◌, ◌++◌, Option, Some, None, codes}
use Rattle.m88_base.specs.Name.{IsName}
use Rattle.m88_base.specs.declared.fixup.Kind.TheVariants.{Abs32}
use Rattle.m88_base.specs.declared.fixup.Fixup.{Fixup}
use Rattle.m88_isa.specs.declared.instr.Instr.{Instr}
use Rattle.m88_parse.specs.declared.unit.Value.{Value}
use Rattle.m88_parse.specs.declared.unit.Body.{Body}
use Rattle.m88_parse.specs.declared.unit.Body.TheVariants as body
use Rattle.m88_parse.specs.declared.unit.Statement.{Statement}
use Rattle.m88_isa.specs.Names.{operation_name}
use Rattle.m88_parse.specs.Language.Bytes.{colon_mark}
use Rattle.m88_parse.specs.Language.Pieces.{a_text, a_mark, Piece}
use Rattle.m88_parse.specs.Language.Names.{IsMark, IsComma, IsNumber, IsNamed, IsSymbol}
use Rattle.m88_parse.specs.Language.Operands.{IsSigned, IsValue, AreOperands}

-- one or more operands of a kind, parted by commas
pub data AreParted {A : Type 0} (Is : List Piece → A → Type 0) : List Piece → List A → Type 0 where
  one : {ps : List Piece} {x : A} → Is ps x → AreParted Is ps (x ∷ [])
  more : {ps front rest : List Piece} (c : Piece) {x : A} {xs : List A} → ps ≡ front ++ c ∷ rest → Is front x
      → IsComma c → AreParted Is rest xs → AreParted Is ps (x ∷ xs)

-- an operation with its operands, and what it says
pub data IsBody : List Piece → Body → Type 0 where
  text : {p : Piece} → IsNamed (codes ".text") p → IsBody (p ∷ []) body.Text
  data_section : {p : Piece} → IsNamed (codes ".data") p → IsBody (p ∷ []) body.DataSection
  at : {p q : Piece} {n : ℕ} → IsNamed (codes ".at") p → IsNumber n q → n < 2 ^ 32 → IsBody (p ∷ q ∷ []) (body.At n)
  word : {p : Piece} {ps : List Piece} {vs : List Value} → IsNamed (codes ".word") p → AreParted (IsValue Abs32) ps vs
      → IsBody (p ∷ ps) (body.Word vs)
  half : {p : Piece} {ps : List Piece} {ns : List ℕ} → IsNamed (codes ".half") p → AreParted (IsSigned (2 ^ 16)) ps ns
      → IsBody (p ∷ ps) (body.Half ns)
  byte : {p : Piece} {ps : List Piece} {ns : List ℕ} → IsNamed (codes ".byte") p → AreParted (IsSigned (2 ^ 8)) ps ns
      → IsBody (p ∷ ps) (body.Byte ns)
  ascii : {p q : Piece} {bytes : List ℕ} → IsNamed (codes ".ascii") p → q.says ≡ a_text bytes
      → IsBody (p ∷ q ∷ []) (body.Ascii bytes)
  zeros : {p q : Piece} {n : ℕ} → IsNamed (codes ".zero") p → IsNumber n q → n < 2 ^ 32
      → IsBody (p ∷ q ∷ []) (body.Zero n)
  align : {p q : Piece} {n : ℕ} → IsNamed (codes ".align") p → IsNumber n q
      → (n ≡ 1) ⊎ ((n ≡ 2) ⊎ ((n ≡ 4) ⊎ (n ≡ 8))) → IsBody (p ∷ q ∷ []) (body.Align n)
  global : {p q : Piece} {name : List ℕ} → IsNamed (codes ".global") p → IsSymbol name q
      → IsBody (p ∷ q ∷ []) (body.Global name)
  set : {p q c : Piece} {ps : List Piece} {name : List ℕ} {n : ℕ} → IsNamed (codes ".set") p → IsSymbol name q
      → IsComma c → IsSigned (2 ^ 32) ps n → IsBody (p ∷ q ∷ c ∷ ps) (body.Set name q.col n)
  code : {p : Piece} {ps : List Piece} {instr : Instr} {fixup : Option Fixup}
      → IsNamed (operation_name instr) p → AreOperands ps instr fixup → IsBody (p ∷ ps) (body.Code instr fixup)

-- a label is a symbol with a colon behind it
pub record IsLabel (l c : Piece) (name : List ℕ) : Type 0 where
  pub symbol : IsSymbol name l
  pub colon : IsMark colon_mark c

-- no colon comes first: a name with a colon behind it would be a label
abbrev pub BeginsWithNoColon : List Piece → Type 0
BeginsWithNoColon [] = Unit {0}
BeginsWithNoColon (p ∷ ps) = p.says ≢ a_mark colon_mark

-- the statement of a line's tokens, with the line's number
pub data IsStatement (line : ℕ) : List Piece → Statement → Type 0 where
  unlabelled : {p : Piece} {ps : List Piece} {said : Body} → IsBody (p ∷ ps) said → BeginsWithNoColon ps
      → IsStatement line (p ∷ ps) (record { line = line; label = None; col = p.col; body = said })
  labelled : {l c p : Piece} {ps : List Piece} {name : List ℕ} {said : Body}
      → IsLabel l c name → IsBody (p ∷ ps) said
      → IsStatement line (l ∷ c ∷ p ∷ ps) (record { line = line; label = Some (name, l.col); col = p.col; body = said })
  label_alone : {l c : Piece} {name : List ℕ} → IsLabel l c name
      → IsStatement line (l ∷ c ∷ [])
      (record { line = line; label = Some (name, l.col); col = l.col; body = body.Empty })

-- the line that begins a module; its name is any name
pub data IsHead : List Piece → List ℕ → Type 0 where
  head : {p q : Piece} {name : List ℕ} → IsNamed (codes ".module") p → IsNamed name q → IsName name
      → IsHead (p ∷ q ∷ []) name
