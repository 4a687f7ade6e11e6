-- Names with a meaning of their own as they are read: registers and control registers, in lower case and with no
-- needless 0 in their numbers, and symbols.
use Rattle.std.specs.Prelude.{ℕ, ◌≡◌, ◌<◌, Bool, true, false, List, [], ◌∷◌, ◌==◌, ◌&&◌, ◌||◌, not, nat_lt, length, if◌then◌else◌, Option, None, IfSome, is_some, codes}
use Rattle.std.specs.List.{list_all}
use Rattle.std.specs.Str.{bytes_eq}
use Rattle.m88_base.specs.Numerals.{decimal_in}
use Rattle.m88_base.specs.Name.{begins_name, continues_name}

-- a call gave the number that is said, and that is below a limit where there is one
pub record GivesBelow (limit : ℕ) (result said : Option ℕ) : Type 0 where
  pub value : result ≡ said
  pub bound : IfSome result (λ n. n < limit)

-- rN, N to 31
unfoldable pub register_of : List ℕ → Option ℕ
register_of (r ∷ ds) = if r == 114 then decimal_in 31 ds else None
register_of [] = None

-- crN, N to 63
unfoldable pub control_of : List ℕ → Option ℕ
control_of (c ∷ r ∷ ds) = if c == 99 && r == 114 then decimal_in 63 ds else None
control_of _ = None

-- fcrN, N to 63
unfoldable pub float_control_of : List ℕ → Option ℕ
float_control_of (f ∷ name) = if f == 102 then control_of name else None
float_control_of [] = None

-- the control register of the integer unit's or of the floating-point unit's instructions
abbrev pub control_in : Bool → List ℕ → Option ℕ
control_in false name = control_of name
control_in true name = float_control_of name

-- the place of a statement
abbrev pub is_here : List ℕ → Bool
is_here name = bytes_eq name (codes ".")

-- the name that begins a module
abbrev pub is_module : List ℕ → Bool
is_module name = bytes_eq name (codes ".module")

-- a name: 1 to 64 letters, digits, _ . $, and no digit first
unfoldable pub is_valid_name : List ℕ → Bool
is_valid_name [] = false
is_valid_name (b ∷ bs) = begins_name b && nat_lt (length bs) 64 && list_all continues_name bs

-- what a label or a symbol may be called: any name but . and the registers
unfoldable pub is_symbol : List ℕ → Bool
is_symbol name = is_valid_name name
    && not (is_here name || is_some (register_of name) || is_some (control_of name) || is_some (float_control_of name))
