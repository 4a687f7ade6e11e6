-- Operands of one or a few tokens, by what stands where one is wanted. A slot gives its value and what is left behind
-- it, or the fault of the first token that can't stand there.
use Rattle.std.specs.Prelude.{ℕ, ◌-◌, ◌<◌, ◌^◌, Bool, List, ◌==◌, ◌||◌, length, nat_le, if◌then◌else◌, Option, Some, None, Result, Ok, OnOk}
use Rattle.std.specs.Option.{option_map}
use Rattle.m88_base.specs.Reg.{reg_of}
use Rattle.m88_base.specs.declared.reg.Reg.{Reg}
use Rattle.m88_base.specs.declared.fixup.Kind.{Kind}
use Rattle.m88_base.specs.declared.fixup.Fixup.{Fixup}
use Rattle.m88_parse.specs.declared.fault.ParseFault.{ParseFault}
use Rattle.m88_parse.specs.declared.fault.ParseKind.TheVariants.{Syntax, NoSuchName, OutOfRange}
use Rattle.m88_parse.specs.declared.unit.Value.{Value}
use Rattle.m88_parse.specs.declared.unit.Value.TheVariants as value
use Rattle.m88_parse.specs.Fault.{Gives}
use Rattle.m88_parse.specs.Inside.Names.{register_of, control_in, is_valid_name, is_symbol}
use Rattle.m88_parse.specs.Language.Bytes.{comma_mark, plus_mark, minus_mark}
use Rattle.m88_parse.specs.Language.Operands.{minus}
use Rattle.m88_parse.specs.Language.Words.{bit_named, condition_named}
use Rattle.m88_parse.specs.Language.Pieces.{TokenValue, a_name, a_number, a_text}
use Rattle.m88_parse.specs.Inside.State.{ReaderState, first, place, past, trouble, is_next_mark, ◌>>=◌}

-- a value and what is left behind it, or a fault
abbrev pub Read : Type 0 → Type 0
Read A = Result (A × ReaderState) ParseFault

-- a call read a slot: what it gives and what is left behind it are what is said, and at least a token was taken
pub record ReadsSlot {A : Type 0} (before after : ReaderState) (result : Result A ParseFault) (said : Read A) : Type 0 where
  pub value : Gives (λ x. (x, after)) result said
  pub shorter : OnOk result (length after.rest < length before.rest)

-- what a name that has a meaning of its own stands for
abbrev pub meaning_or_fault : {A : Type 0} → ReaderState → Option A → Read A
meaning_or_fault s (Some x) = Ok (x, past s)
meaning_or_fault s None = trouble NoSuchName s

-- a number, where it is in range
abbrev pub ranged : ℕ → ℕ → ReaderState → Read ℕ
ranged most n s = if nat_le n most then Ok (n, past s) else trouble OutOfRange s

-- a mark
abbrev pub mark_at : ℕ → ReaderState → Result ReaderState ParseFault
mark_at m s = if is_next_mark m s then Ok (past s) else trouble Syntax s

-- the end of the line, by what stands there
abbrev pub line_end_on : ReaderState → Option TokenValue → Result ReaderState ParseFault
line_end_on s None = Ok s
line_end_on s (Some _) = trouble Syntax s

-- the end of the line
abbrev pub line_end_at : ReaderState → Result ReaderState ParseFault
line_end_at s = line_end_on s (first s)

-- a number, 0 to most, by what stands there
abbrev pub unsigned_on : ℕ → ReaderState → Option TokenValue → Read ℕ
unsigned_on most s (Some (a_number n)) = ranged most n s
unsigned_on most s _ = trouble Syntax s

-- a number, 0 to most
unfoldable pub unsigned_at : ℕ → ReaderState → Read ℕ
unsigned_at most s = unsigned_on most s (first s)

-- the negative of a number, modulo 2 ^ 32
abbrev pub negated : ℕ → ℕ
negated n = minus (2 ^ 32) n

-- a number behind its own sign, down to -low
abbrev pub negative_on : ℕ → ReaderState → ReaderState → Option TokenValue → Read ℕ
negative_on low s t (Some (a_number n)) = if nat_le n low then Ok (negated n, past t) else trouble OutOfRange s
negative_on low s t _ = trouble Syntax t

-- a number modulo 2 ^ 32, from -low to most: its own sign is one of its tokens
unfoldable pub signed_at : ℕ → ℕ → ReaderState → Read ℕ
signed_at low most s =
    if is_next_mark minus_mark s then negative_on low s (past s) (first (past s)) else unsigned_on most s (first s)

-- a general register, by what stands there
abbrev pub register_on : ReaderState → Option TokenValue → Read Reg
register_on s (Some (a_name text)) = meaning_or_fault s (option_map reg_of (register_of text))
register_on s _ = trouble Syntax s

-- a general register
unfoldable pub register_at : ReaderState → Read Reg
register_at s = register_on s (first s)

-- rN and a comma
unfoldable pub register_comma_at : ReaderState → Read Reg
register_comma_at s = register_at s >>= λ r. mark_at comma_mark r.1 >>= λ t. Ok (r.0, t)

-- rD,rS1
unfoldable pub two_registers_at : ReaderState → Read (Reg × Reg)
two_registers_at s = register_comma_at s >>= λ d. register_at d.1 >>= λ s1. Ok ((d.0, s1.0), s1.1)

-- rD,rS1 and a comma
unfoldable pub two_registers_comma_at : ReaderState → Read (Reg × Reg)
two_registers_comma_at s = register_comma_at s >>= λ d. register_comma_at d.1 >>= λ s1. Ok ((d.0, s1.0), s1.1)

-- a control register, by what stands there
abbrev pub control_on : Bool → ReaderState → Option TokenValue → Read ℕ
control_on float s (Some (a_name text)) = meaning_or_fault s (control_in float text)
control_on float s _ = trouble Syntax s

-- a control register
unfoldable pub control_at : Bool → ReaderState → Read ℕ
control_at float s = control_on float s (first s)

-- a number, 0 to most, or a name of a table, by what stands there
abbrev pub tabled_on : (List ℕ → Option ℕ) → ℕ → ReaderState → Option TokenValue → Read ℕ
tabled_on table most s (Some (a_name text)) = meaning_or_fault s (table text)
tabled_on table most s (Some (a_number n)) = ranged most n s
tabled_on table most s _ = trouble Syntax s

-- a bit, 0 to 31 or by its name
unfoldable pub bit_at : ReaderState → Read ℕ
bit_at s = tabled_on bit_named 31 s (first s)

-- a condition, 0 to 15 or by its name
unfoldable pub mask_at : ReaderState → Read ℕ
mask_at s = tabled_on condition_named 15 s (first s)

-- a symbol's name with its column, by what stands there
abbrev pub symbol_on : ReaderState → Option TokenValue → Read (List ℕ × ℕ)
symbol_on s (Some (a_name text)) = if is_symbol text then Ok ((text, place s), past s) else trouble Syntax s
symbol_on s _ = trouble Syntax s

-- a symbol's name with its column
unfoldable pub symbol_at : ReaderState → Read (List ℕ × ℕ)
symbol_at s = symbol_on s (first s)

-- what is added to a symbol, modulo 2 ^ 32: nothing, or a number below 2 ^ 31 behind + or -
unfoldable pub addend_at : ReaderState → Read ℕ
addend_at s =
    if is_next_mark plus_mark s then unsigned_at (2 ^ 31 - 1) (past s)
    else (if is_next_mark minus_mark s then (unsigned_at (2 ^ 31 - 1) (past s) >>= λ n. Ok (negated n.0, n.1))
    else Ok (0, s))

-- a symbol with what is added to it
unfoldable pub fixup_at : Kind → ReaderState → Read Fixup
fixup_at kind s = do
  name ← symbol_at s
  more ← addend_at name.1
  Ok (record { kind = kind; symbol = name.0.0; addend = more.0; col = name.0.1 }, more.1)

-- a number of 32 bits, or a symbol with what is added to it, by what stands there
abbrev pub value_on : Kind → ReaderState → Option TokenValue → Read Value
value_on kind s (Some (a_name _)) = fixup_at kind s >>= λ x. Ok (value.Symbol x.0, x.1)
value_on kind s _ = signed_at (2 ^ 31) (2 ^ 32 - 1) s >>= λ n. Ok (value.Number n.0, n.1)

-- a number of 32 bits, or a symbol with what is added to it
unfoldable pub value_at : Kind → ReaderState → Read Value
value_at kind s = value_on kind s (first s)

-- the bytes of a text, by what stands there
abbrev pub text_on : ReaderState → Option TokenValue → Read (List ℕ)
text_on s (Some (a_text bytes)) = Ok (bytes, past s)
text_on s _ = trouble Syntax s

-- the bytes of a text
unfoldable pub text_at : ReaderState → Read (List ℕ)
text_at s = text_on s (first s)

-- any name, by what stands there
abbrev pub any_name_on : ReaderState → Option TokenValue → Read (List ℕ)
any_name_on s (Some (a_name text)) = if is_valid_name text then Ok (text, past s) else trouble Syntax s
any_name_on s _ = trouble Syntax s

-- any name
unfoldable pub any_name_at : ReaderState → Read (List ℕ)
any_name_at s = any_name_on s (first s)

-- an alignment, by what stands there
abbrev pub alignment_on : ReaderState → Option TokenValue → Read ℕ
alignment_on s (Some (a_number n)) =
    if n == 1 || n == 2 || n == 4 || n == 8 then Ok (n, past s) else trouble OutOfRange s
alignment_on s _ = trouble Syntax s

-- an alignment: 1, 2, 4 or 8
unfoldable pub alignment_at : ReaderState → Read ℕ
alignment_at s = alignment_on s (first s)
