-- The operands of instructions, by what stands where one is wanted.
use Rattle.std.specs.Prelude.{ℕ, ◌-◌, ◌<◌, ◌≤◌, ◌/◌, ◌%◌, ◌^◌, ℤ, pos, negsuc, neg_ℤ, Bool, true, false, ◌==◌, ◌&&◌, nat_le, if◌then◌else◌, Option, Some, None, Ok}
use Rattle.std.specs.Option.{option_map}
use Rattle.m88_base.specs.Reg.{reg_of}
use Rattle.m88_base.specs.declared.reg.Reg.{Reg}
use Rattle.m88_base.specs.declared.fixup.Kind.{Kind}
use Rattle.m88_base.specs.declared.fixup.Kind.TheVariants.{Hi16}
use Rattle.m88_parse.specs.declared.fault.ParseKind.TheVariants.{Syntax, NoSuchName, OutOfRange}
use Rattle.m88_parse.specs.declared.unit.Value.{Value}
use Rattle.m88_parse.specs.declared.unit.Value.TheVariants as value
use Rattle.m88_parse.specs.declared.operand.Immediate.{Immediate}
use Rattle.m88_parse.specs.declared.operand.Operand.{Operand}
use Rattle.m88_parse.specs.declared.operand.Operand.TheVariants as operand
use Rattle.m88_parse.specs.declared.operand.Bound.{Bound}
use Rattle.m88_parse.specs.declared.operand.Bound.TheVariants as bound
use Rattle.m88_parse.specs.declared.operand.Index.{Index}
use Rattle.m88_parse.specs.declared.operand.Index.TheVariants as index
use Rattle.m88_parse.specs.declared.operand.Field.{Field}
use Rattle.m88_parse.specs.declared.operand.Field.TheVariants as field
use Rattle.m88_parse.specs.declared.operand.Target.{Target}
use Rattle.m88_parse.specs.Inside.Names.{register_of, is_here}
use Rattle.m88_parse.specs.Language.Bytes.{opening_parenthesis, closing_parenthesis, opening_bracket, closing_bracket, opening_angle, closing_angle, plus_mark, comma_mark, minus_mark}
use Rattle.m88_parse.specs.Language.Words.{half_named}
use Rattle.m88_parse.specs.Language.Pieces.{TokenValue, a_name, a_number}
use Rattle.m88_parse.specs.Inside.State.{ReaderState, first, second, past, trouble, is_mark_of, is_next_mark, ◌>>=◌}
use Rattle.m88_parse.specs.Inside.Slots.{Read, mark_at, unsigned_at, register_at, fixup_at, value_at}

-- the upper or the lower 16 bits of a number
abbrev pub half : Kind → ℕ → ℕ
half Hi16 n = n / 65536
half _ n = n % 65536

-- half of a value as an immediate
abbrev pub half_immediate : Kind → Value → Immediate
half_immediate kind (value.Number n) = record { imm = half kind n; fixup = None }
half_immediate kind (value.Symbol f) = record { imm = 0; fixup = Some f }

-- hi16 or lo16 of a value in parentheses
unfoldable pub half_at : Kind → ReaderState → Read Immediate
half_at kind s = do
  opened ← mark_at opening_parenthesis (past s)
  v ← value_at kind opened
  closed ← mark_at closing_parenthesis v.1
  Ok (half_immediate kind v.0, closed)

-- which half two tokens begin: hi16 and lo16 are ordinary names where no ( follows
abbrev pub half_on : Option TokenValue → Option TokenValue → Option Kind
half_on (Some (a_name text)) next = if is_mark_of opening_parenthesis next then half_named text else None
half_on _ next = None

-- a number of 16 bits, by what stands there
abbrev pub short_on : ReaderState → Option TokenValue → Read Immediate
short_on s (Some (a_number n)) =
    if nat_le n 65535 then Ok (record { imm = n; fixup = None }, past s) else trouble OutOfRange s
short_on s (Some (a_name _)) = trouble NoSuchName s
short_on s _ = trouble Syntax s

-- half of a value where one begins, or a number of 16 bits
abbrev pub immediate_of : ReaderState → Option Kind → Read Immediate
immediate_of s (Some kind) = half_at kind s
immediate_of s None = short_on s (first s)

-- a number of 16 bits, or half of a value
unfoldable pub immediate_at : ReaderState → Read Immediate
immediate_at s = immediate_of s (half_on (first s) (second s))

-- the register that a token names
abbrev pub register_in : Option TokenValue → Option Reg
register_in (Some (a_name text)) = option_map reg_of (register_of text)
register_in _ = None

-- that register, or a number of 16 bits or half of a value
abbrev pub operand_of : ReaderState → Option Reg → Read Operand
operand_of s (Some r) = Ok (operand.Register r, past s)
operand_of s None = immediate_at s >>= λ x. Ok (operand.Immediate x.0, x.1)

-- a register, a number of 16 bits, or half of a value
unfoldable pub operand_at : ReaderState → Read Operand
operand_at s = operand_of s (register_in (first s))

-- a register, or a number of 16 bits, by what stands there
abbrev pub bound_on : ReaderState → Option TokenValue → Read Bound
bound_on s (Some (a_name _)) = register_at s >>= λ r. Ok (bound.Register r.0, r.1)
bound_on s (Some (a_number n)) = if nat_le n 65535 then Ok (bound.Number n, past s) else trouble OutOfRange s
bound_on s _ = trouble Syntax s

-- a register, or a number of 16 bits
unfoldable pub bound_at : ReaderState → Read Bound
bound_at s = bound_on s (first s)

-- a scaled register: in brackets
unfoldable pub scaled_at : ReaderState → Read Reg
scaled_at s = do
  opened ← mark_at opening_bracket s
  r ← register_at opened
  closed ← mark_at closing_bracket r.1
  Ok (r.0, closed)

-- behind the base register: a scaled register, or a comma and what a slot gives
abbrev pub indexed_at : {X C : Type 0} → (ReaderState → Read X) → (Reg → C) → (X → C) → ReaderState → Read C
indexed_at slot scaled plain s =
    if is_next_mark opening_bracket s then (scaled_at s >>= λ r. Ok (scaled r.0, r.1))
    else (mark_at comma_mark s >>= λ t. slot t >>= λ x. Ok (plain x.0, x.1))

-- behind the base register of a memory operand: a scaled register, or a comma and an operand
unfoldable pub index_at : ReaderState → Read Index
index_at s = indexed_at operand_at (λ r. index.Scaled r) (λ x. index.Offset x) s

-- the same of a register alone, and whether it is scaled
unfoldable pub user_index_at : ReaderState → Read (Reg × Bool)
user_index_at s = indexed_at register_at (λ r. (r, true)) (λ r. (r, false)) s

-- a width, 0 to most; no width is 0
unfoldable pub width_at : ℕ → ReaderState → Read ℕ
width_at most s = if is_next_mark opening_angle s then Ok (0, s) else unsigned_at most s

-- a width and an offset, as in 5<3>
unfoldable pub literal_at : ℕ → ReaderState → Read Field
literal_at most s = do
  width ← width_at most s
  opened ← mark_at opening_angle width.1
  offset ← unsigned_at 31 opened
  closed ← mark_at closing_angle offset.1
  Ok (field.Literal width.0 offset.0, closed)

-- a bit field, by what stands there
abbrev pub field_on : ℕ → ReaderState → Option TokenValue → Read Field
field_on most s (Some (a_name _)) = register_at s >>= λ r. Ok (field.Register r.0, r.1)
field_on most s _ = literal_at most s

-- a bit field: literals, or a register
unfoldable pub field_at : ℕ → ReaderState → Read Field
field_at most s = field_on most s (first s)

-- a distance in bytes that is a whole number of words, most at the most, as that number, by what stands there
abbrev pub distance_on : ℕ → ReaderState → Option TokenValue → Read ℕ
distance_on most s (Some (a_number n)) =
    if n % 4 == 0 && nat_le (n / 4) most then Ok (n / 4, past s) else trouble OutOfRange s
distance_on most s _ = trouble Syntax s

-- a distance in bytes as words
unfoldable pub distance_at : ℕ → ReaderState → Read ℕ
distance_at most s = distance_on most s (first s)

-- behind the . of a target: words forward or back, which fit a sign and the bits below limit
unfoldable pub words_at : ℕ → ReaderState → Read ℤ
words_at limit s =
    if is_next_mark plus_mark s then (distance_at (limit - 1) (past s) >>= λ n. Ok (pos n.0, n.1))
    else (if is_next_mark minus_mark s then (distance_at limit (past s) >>= λ n. Ok (neg_ℤ (pos n.0), n.1))
    else Ok (pos 0, s))

-- a field takes words forward below the limit, and back down to it
pub record IsReach (limit : ℕ) : Type 0 where
  pub least : 0 < limit
  pub most : limit ≤ 2 ^ 25

-- words that fit a sign and the bits below the limit
abbrev pub AreWordsWithin : ℕ → ℤ → Type 0
AreWordsWithin limit (pos n) = n < limit
AreWordsWithin limit (negsuc n) = n < limit

-- whether what a token says is the place of the statement
abbrev pub is_here_on : Option TokenValue → Bool
is_here_on (Some (a_name text)) = is_here text
is_here_on _ = false

-- where a branch goes: a symbol with what is added to it, or . with a distance
unfoldable pub target_at : Kind → ℕ → ReaderState → Read Target
target_at kind limit s =
    if is_here_on (first s) then (words_at limit (past s) >>= λ n. Ok (record { words = n.0; fixup = None }, n.1))
    else (fixup_at kind s >>= λ x. Ok (record { words = pos 0; fixup = Some x.0 }, x.1))
