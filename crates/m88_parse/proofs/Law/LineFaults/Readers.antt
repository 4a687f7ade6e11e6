-- Readers of tokens, of which only the fault counts here, and what they say of the tokens behind a front.
use Rattle.std.proofs.Common.{◌≡◌, ◌↔◌, ℕ, ◌+◌, ◌<◌, Bool, true, false, if◌then◌else◌, List, [], ◌∷◌, ◌++◌, length, Option, Some, None, Result, Ok, Err, ap}
use Rattle.m88_parse.specs.declared.fault.ParseKind.{ParseKind}
use Rattle.m88_parse.specs.declared.fault.ParseFault.{ParseFault}
use Rattle.m88_parse.specs.Language.Pieces.{Piece}
use Rattle.m88_parse.specs.Inside.State.{ReaderState, first}
use Rattle.m88_parse.specs.Inside.Source.{SourceRow, unlabelled_at, head_at, is_head_on}
use Rattle.m88_parse.specs.Language.Names.{IsMark, IsNumber, IsNamed, IsSymbol}
use Rattle.m88_parse.specs.Language.LineFaults.{IsOperation, MayFollow, NumberMayFollow, NameMayFollow, EverySymbolMayFollow, EndsInSign, IsBroken}
use Rattle.m88_parse.proofs.Law.SingleTokens.{st, Naming, no_name, own_names, symbols}

-- what is read has this fault, or none
abbrev pub fault_in : {A : Type 0} → Result A ParseFault → Option ParseFault
fault_in (Ok x) = None
fault_in (Err f) = Some f

pub same_fault : {A : Type 0} {q r : Result A ParseFault} → q ≡ r → fault_in q ≡ fault_in r
same_fault {A = A} h = ap (λ (x : Result A ParseFault). fault_in x) h

abbrev pub Reader : Type 0
Reader = List Piece → Option ParseFault

-- a fault of a line
abbrev pub here : ℕ → ℕ → ParseKind → Option ParseFault
here line col kind = Some (record { line = line; col = col; kind = kind })

-- the fault of a token, or of the end of the line
pub some_same : {a b : ParseFault} → ◌≡◌ {A = Option ParseFault} (Some a) (Some b) → a ≡ b
some_same h = cc

-- the reader of operations, and without a label of heads of modules too
abbrev pub row_or_head : ReaderState → Result SourceRow ParseFault
row_or_head s = if is_head_on (first s) then head_at s else unlabelled_at s

abbrev pub heard : ℕ → ℕ → Reader
heard line e ps = fault_in (row_or_head (st line e ps))

-- some tokens have no fault
abbrev pub Goes : Reader → Type 0
Goes k = (ps : List Piece) × (k ps ≡ None)

-- whatever follows this token, there is a fault
abbrev pub Refuses : Reader → Piece → Type 0
Refuses k p = (ps : List Piece) → k (p ∷ ps) ≡ None → ⊥

-- what is heard without a fault is an operation, and the other way round
abbrev pub HeardLaw : ℕ → ℕ → Type 0
HeardLaw line e = (ps : List Piece) → (heard line e ps ≡ None) ↔ IsOperation ps

-- what is heard behind a front
abbrev pub Reads : ℕ → ℕ → List Piece → Reader → Type 0
Reads line e front k = (ps : List Piece) → heard line e (front ++ ps) ≡ k ps

-- the line ends just before this column
abbrev pub EndsAt : List Piece → ℕ → Type 0
EndsAt ps e = (before : List Piece) × (p : Piece) × (ps ≡ before ++ p ∷ []) × (p.col + length p.text ≡ e)

-- the fault is the one of the language
abbrev pub Told : ℕ → List Piece → ParseFault → Type 0
Told line ps f = IsBroken ps f.col f.kind × (line ≡ f.line)

-- each fault behind this front is the one of the language, where fewer tokens than so many are left
abbrev pub Traced : ℕ → ℕ → ℕ → List Piece → Type 0
Traced few line e front = (ps : List Piece) (f : ParseFault) → length ps < few → EndsAt (front ++ ps) e → heard line e (front ++ ps) ≡ Some f → Told line (front ++ ps) f

-- the front doesn't end in a number's own sign
abbrev pub Fresh : List Piece → Type 0
Fresh front = (m : Piece) → EndsInSign front m → ⊥

-- a reader that some tokens satisfy, and whose faults are those of the language wherever it reads on, by the law of what
-- is heard
abbrev pub Good : ℕ → ℕ → ℕ → Reader → Type 0
Good few line e k = Goes k × (HeardLaw line e → (front : List Piece) → Fresh front → Reads line e front k → Traced few line e front)

-- what a reader wants

abbrev pub WantsNumbers : Bool → Reader → Type 0
WantsNumbers true k = (p : Piece) × (n : ℕ) × IsNumber n p × Goes (λ ps. k (p ∷ ps))
WantsNumbers false k = (p : Piece) (n : ℕ) → IsNumber n p → Refuses k p

abbrev pub WantsNames : Naming → Reader → Type 0
WantsNames no_name k = (p : Piece) (name : List ℕ) → IsNamed name p → Refuses k p
WantsNames own_names k = ((p : Piece) × (name : List ℕ) × IsNamed name p × Goes (λ ps. k (p ∷ ps))) × ((p : Piece) × (name : List ℕ) × IsSymbol name p × Refuses k p)
WantsNames symbols k = (p : Piece) (name : List ℕ) → IsSymbol name p → Goes (λ ps. k (p ∷ ps))

pub record Wants (num : Bool) (nam : Naming) (k : Reader) : Type 0 where
  pub numbers : WantsNumbers num k
  pub names : WantsNames nam k
  pub opening : (o : Piece) → IsMark 40 o → Refuses k o

-- what is wanted behind a front

abbrev pub NumbersWanted : Bool → List Piece → Type 0
NumbersWanted true front = NumberMayFollow front
NumbersWanted false front = NumberMayFollow front → ⊥

abbrev pub NamesWanted : Naming → List Piece → Type 0
NamesWanted no_name front = NameMayFollow front → ⊥
NamesWanted own_names front = NameMayFollow front × (EverySymbolMayFollow front → ⊥)
NamesWanted symbols front = EverySymbolMayFollow front

pub record Wanted (num : Bool) (nam : Naming) (front : List Piece) : Type 0 where
  pub numbers : NumbersWanted num front
  pub names : NamesWanted nam front
  pub opening : (o : Piece) → IsMark 40 o → MayFollow front o → ⊥
