-- What single tokens stand for where an operand wants a register, a control register, a bit, a condition or a symbol
-- (operand syntax of the assembly language).
use Rattle.std.specs.Prelude.{ℕ, Bool, true, false, ◌≡◌, ◌≢◌, ◌⊎◌, ◌<◌, ◌≤◌, List, ◌++◌, Some, codes, decimal}
use Rattle.m88_base.specs.declared.reg.Reg.{Reg}
use Rattle.m88_base.specs.Reg.{reg_of}
use Rattle.m88_base.specs.Name.{IsName}
use Rattle.m88_parse.specs.Language.Bytes.{comma_mark}
use Rattle.m88_parse.specs.Language.Pieces.{a_name, a_number, a_mark, Piece}
use Rattle.m88_parse.specs.Language.Words.{bit_named, condition_named}

-- letters and then a number in decimal without a needless 0, at most a last one
abbrev pub IsNumbered : List ℕ → ℕ → List ℕ → ℕ → Type 0
IsNumbered letters last name n = (name ≡ letters ++ decimal n) × (n ≤ last)

-- r0 to r31
abbrev pub IsRegisterName : List ℕ → ℕ → Type 0
IsRegisterName name n = IsNumbered (codes "r") 31 name n

-- cr0 to cr63 of the integer unit, fcr0 to fcr63 of the floating-point unit
abbrev pub IsControlName : Bool → List ℕ → ℕ → Type 0
IsControlName false name n = IsNumbered (codes "cr") 63 name n
IsControlName true name n = IsNumbered (codes "fcr") 63 name n

-- a name that is neither . nor a register of any kind
pub record IsSymbolName (name : List ℕ) : Type 0 where
  pub valid : IsName name
  pub no_place : name ≢ codes "."
  pub no_register : (n : ℕ) → IsRegisterName name n → ⊥
  pub no_control : (float : Bool) (n : ℕ) → IsControlName float name n → ⊥

-- a mark, by its byte
abbrev pub IsMark : ℕ → Piece → Type 0
IsMark m p = p.says ≡ a_mark m

-- the mark between two operands
abbrev pub IsComma : Piece → Type 0
IsComma p = IsMark comma_mark p

-- a number, also a character in single quotes
abbrev pub IsNumber : ℕ → Piece → Type 0
IsNumber n p = p.says ≡ a_number n

-- this name
abbrev pub IsNamed : List ℕ → Piece → Type 0
IsNamed name p = p.says ≡ a_name name

-- a general register
abbrev pub IsRegister : Reg → Piece → Type 0
IsRegister r p = (name : List ℕ) × (n : ℕ) × IsNamed name p × IsRegisterName name n × (r ≡ reg_of n)

-- a control register, of the floating-point unit where float
abbrev pub IsControl : Bool → ℕ → Piece → Type 0
IsControl float n p = (name : List ℕ) × IsNamed name p × IsControlName float name n

-- the number of a bit, 0 to 31, or the name of a bit of the word that cmp gives
abbrev pub IsBit : ℕ → Piece → Type 0
IsBit n p = (IsNumber n p × (n < 32)) ⊎ ((name : List ℕ) × IsNamed name p × (bit_named name ≡ Some n))

-- the mask of a condition, 0 to 15, or the name of one
abbrev pub IsCondition : ℕ → Piece → Type 0
IsCondition n p = (IsNumber n p × (n < 16)) ⊎ ((name : List ℕ) × IsNamed name p × (condition_named name ≡ Some n))

-- a symbol
abbrev pub IsSymbol : List ℕ → Piece → Type 0
IsSymbol name p = IsNamed name p × IsSymbolName name
