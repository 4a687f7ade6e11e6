-- Texts that are put together from parts, each one token of the assembly language, and the tokens that they are.
use Rattle.std.proofs.Common.{◌≡◌, ℕ, ◌+◌, ◌/◌, ◌%◌, ◌<◌, ◌≤◌, ◌^◌, Bool, true, false, ◌&&◌, ◌||◌, nat_le, nat_lt, inl, inr, List, [], ◌∷◌, ◌++◌, length, get_or, refl, sym, ap, ◌∙◌, arith, lit<, append-nil, length-append, lt-ltb, ltb-true, decimal}
use Rattle.std.specs.Prelude.{flat_map}
use Rattle.std.specs.Char.{digit_value}
use Rattle.std.specs.List.{list_all}
use Rattle.std.specs.Str.Parse.{AllDigits, digits_value}
use Rattle.std.proofs.lemmas.Bool.{and_parts}
use Rattle.std.proofs.lemmas.Bool.Decides.{nat_tests}
use Rattle.std.proofs.lemmas.Fmt.{decimal_is_IsNumeral, length-decimal-le}
use Rattle.std.proofs.lemmas.List.Folds.{list_all-append}
use Rattle.std.proofs.lemmas.List.Sums.{AllPass-from_list_all, list_all-from_AllPass}
use Rattle.m88_base.specs.Hex.{hex_digit, hex2, hex8}
use Rattle.m88_base.specs.Name.{IsName, begins_name, continues_name}
use Rattle.m88_base.proofs.Laws.{decimal_leads, value_of_hex8}
use Rattle.m88_isa.specs.declared.instr.ImmOp.{ImmOp}
use Rattle.m88_isa.specs.declared.instr.ImmOp.TheVariants as imm
use Rattle.m88_isa.specs.declared.instr.RegOp.{RegOp}
use Rattle.m88_isa.specs.declared.instr.RegOp.TheVariants as reg
use Rattle.m88_isa.specs.declared.instr.MemOp.{MemOp}
use Rattle.m88_isa.specs.declared.instr.MemOp.TheVariants as mem
use Rattle.m88_isa.specs.declared.instr.LdaSize.{LdaSize}
use Rattle.m88_isa.specs.declared.instr.LdaSize.TheVariants as lda
use Rattle.m88_isa.specs.declared.instr.BitOp.{BitOp}
use Rattle.m88_isa.specs.declared.instr.BitOp.TheVariants as bits
use Rattle.m88_isa.specs.declared.instr.Instr.{Instr}
use Rattle.m88_isa.specs.declared.instr.Instr.TheVariants as instr
use Rattle.m88_isa.specs.Names.{imm_name, reg_name, index_name, lda_name, bits_name, find_name, branch_name, branch_bit_name, branch_cond_name, jump_name, trap_bit_name, ldcr_name, stcr_name, xcr_name, operation_name}
use Rattle.m88_parse.specs.Language.Bytes.{are_digits, is_mark}
use Rattle.m88_parse.specs.Language.Pieces.{Piece, TokenValue, a_name, a_number, a_mark}
use Rattle.m88_parse.specs.Language.Tokens.{AreNameBytes, AreTokens, BeginsWithNoNameByte, HasNoNeedlessZero, IsDecimal, IsToken, LineTokens}

-- a name, a number in decimal, a number in hexadecimal by its digits, or a mark
pub data Part : Type 0 where
  part_name : List ℕ → Part
  part_number : ℕ → Part
  part_hex : List ℕ → ℕ → Part
  part_mark : ℕ → Part

-- its bytes
abbrev pub part_text : Part → List ℕ
part_text (part_name name) = name
part_text (part_number n) = decimal n
part_text (part_hex digits n) = 48 ∷ 120 ∷ digits
part_text (part_mark b) = b ∷ []

-- what it stands for
abbrev pub part_says : Part → TokenValue
part_says (part_name name) = a_name name
part_says (part_number n) = a_number n
part_says (part_hex digits n) = a_number n
part_says (part_mark b) = a_mark b

-- whether it is a mark
abbrev pub is_mark_part : Part → Bool
is_mark_part (part_mark b) = true
is_mark_part _ = false

-- a byte that ends no line
abbrev pub is_printed : ℕ → Bool
is_printed b = nat_le 32 b

-- bytes that end no line
abbrev pub are_printed : List ℕ → Bool
are_printed bytes = list_all is_printed bytes

-- the text of a part is a token
abbrev pub IsGood : Part → Type 0
IsGood (part_name name) = IsName name
IsGood (part_number n) = n < 2 ^ 32
IsGood (part_hex digits n) =
    (0 < length digits) × (are_digits 16 digits ≡ true) × (n ≡ digits_value 16 digits) × (n < 2 ^ 32)
IsGood (part_mark b) = (is_mark b ≡ true) × (continues_name b ≡ false) × (is_printed b ≡ true)

-- each part is a token
abbrev pub AreGood : List Part → Type 0
AreGood [] = Unit {0}
AreGood (p ∷ ps) = IsGood p × AreGood ps

-- no two names or numbers stand side by side
abbrev pub parted_from : Part → List Part → Bool
parted_from p [] = true
parted_from p (q ∷ qs) = is_mark_part q || is_mark_part p

-- that is so all along
abbrev pub are_parted : List Part → Bool
are_parted [] = true
are_parted (p ∷ ps) = parted_from p ps && are_parted ps

-- the bytes of parts in turn
abbrev pub parts_text : List Part → List ℕ
parts_text ps = flat_map part_text ps

-- a part as a token at a column, and parts from a column on
abbrev pub piece_of : ℕ → Part → Piece
piece_of col p = record { text = part_text p; col = col; says = part_says p }

-- parts as tokens from a column on
abbrev pub pieces : ℕ → List Part → List Piece
pieces col [] = []
pieces col (p ∷ ps) = piece_of col p ∷ pieces (col + length (part_text p)) ps

-- decimal digits
are_all : (base : ℕ) (ds : List ℕ) → AllDigits base ds → are_digits base ds ≡ true
are_all base [] h = refl
are_all base (d ∷ ds) h =
    ap (λ (t : Bool). t && are_digits base ds) (lt-ltb (digit_value d) base h.0) ∙ are_all base ds h.1

is_short : (text : List ℕ) → (get_or text 0 0 ≡ 48 → length text ≡ 1) → HasNoNeedlessZero text
is_short [] f = tt
is_short (d ∷ []) f = tt
is_short (d ∷ e ∷ ds) f = λ is. let k = f is in absurd (omega (arith, k))

decimal_is : (n : ℕ) → n < 2 ^ 32 → IsDecimal (decimal n) n
decimal_is n h =
    let small : n < 2 ^ 64 = omega arith in
    let k = decimal_is_IsNumeral n small in
    record {
      some = k.0.0;
      digits = are_all 10 (decimal n) k.0.1;
      short = is_short (decimal n) (decimal_leads n small);
      value = sym k.1;
    }

good_token : (p : Part) → IsGood p → IsToken (part_text p) (part_says p)
good_token (part_name name) h = (refl, h)
good_token (part_number n) h = inl (inl (decimal_is n h), h)
good_token (part_hex digits n) h =
    inl (inr (record { digits = digits; bytes = refl; some = h.0; hexadecimal = h.1; value = h.2 }), h.3)
good_token (part_mark b) h = (refl, h.0)

-- a name or a number is as long as it can be
ends : (p : Part) (ps : List Part) → IsGood p → AreGood ps → parted_from p ps ≡ true
    → AreNameBytes (part_text p) → BeginsWithNoNameByte (parts_text ps)
ends p [] g gs a h = tt
ends (part_mark b) (q ∷ qs) g gs a h = let e = and_parts (continues_name b) true h in absurd cc
ends p (part_mark b ∷ qs) g gs a h = gs.0.1
ends _ (_ ∷ qs) g gs a h = absurd cc

-- parts are their tokens
tokens_of : (col : ℕ) (ps : List Part) → AreGood ps → are_parted ps ≡ true
    → AreTokens col (parts_text ps) (pieces col ps)
tokens_of col [] gs a = record { gap = []; tail = []; bytes_are = refl; blank = refl; comment = tt }
tokens_of col (p ∷ ps) gs a =
    let k = and_parts (parted_from p ps) (are_parted ps) a in (
      parts_text ps,
      record {
        gap = [];
        bytes_are = refl;
        blank = refl;
        place = omega arith;
        token = good_token p gs.0;
        longest = ends p ps gs.0 gs.1 k.0;
      },
      tokens_of (col + length (part_text p)) ps gs.1 k.1,
    )

-- the tokens of an operation by its name and of its operands behind a blank
abbrev pub line_pieces : List ℕ → List Part → List Piece
line_pieces op ps = piece_of 1 (part_name op) ∷ pieces (1 + length op + 1) ps

pub line_tokens : (op : List ℕ) (p : Part) (ps : List Part) → IsName op → AreGood (p ∷ ps) → are_parted (p ∷ ps) ≡ true
    → LineTokens (op ++ 32 ∷ parts_text (p ∷ ps)) (line_pieces op (p ∷ ps))
line_tokens op p ps name gs a =
    let k = and_parts (parted_from p ps) (are_parted ps) a in (
      32 ∷ parts_text (p ∷ ps),
      record {
        gap = [];
        bytes_are = refl;
        blank = refl;
        place = refl;
        token = (refl, name);
        longest = λ h. refl;
      },
      (
        parts_text ps,
        record {
          gap = 32 ∷ [];
          bytes_are = refl;
          blank = refl;
          place = refl;
          token = good_token p gs.0;
          longest = ends p ps gs.0 gs.1 k.0;
        },
        tokens_of (1 + length op + 1 + length (part_text p)) ps gs.1 k.1,
      ),
    )

-- a name alone
pub name_token : (op : List ℕ) → IsName op → LineTokens op (piece_of 1 (part_name op) ∷ [])
name_token op name = (
  [],
  record {
    gap = [];
    bytes_are = sym (append-nil op);
    blank = refl;
    place = refl;
    token = (refl, name);
    longest = λ h. tt;
  },
  record { gap = []; tail = []; bytes_are = refl; blank = refl; comment = tt },
)

-- a test of names
abbrev pub is_name_text : List ℕ → Bool
is_name_text [] = false
is_name_text (b ∷ bs) = (begins_name b && nat_lt (length bs) 64) && list_all continues_name bs

name_passes : (text : List ℕ) → is_name_text text ≡ true → IsName text
name_passes [] e = absurd cc
name_passes (b ∷ bs) e =
    let h = and_parts (begins_name b && nat_lt (length bs) 64) (list_all continues_name bs) e in
    let k = and_parts (begins_name b) (nat_lt (length bs) 64) h.0 in
    (k.0, AllPass-from_list_all continues_name bs h.1, ltb-true (length bs) 64 k.1)

pub word_name : (text : List ℕ) → is_name_text text ≡ true → IsName text
word_name text e = name_passes text e

imm_passes : (op : ImmOp) → is_name_text (imm_name op) ≡ true
imm_passes imm.And = refl
imm_passes _ = refl

reg_passes : (op : RegOp) → is_name_text (reg_name op) ≡ true
reg_passes reg.And = refl
reg_passes _ = refl

index_passes : (op : MemOp) (usr : Bool) → is_name_text (index_name op usr) ≡ true
index_passes mem.XmemBu true = refl
index_passes mem.XmemBu false = refl
index_passes _ true = refl
index_passes _ false = refl

lda_passes : (size : LdaSize) → is_name_text (lda_name size) ≡ true
lda_passes lda.Double = refl
lda_passes _ = refl

bits_passes : (op : BitOp) → is_name_text (bits_name op) ≡ true
bits_passes bits.Clr = refl
bits_passes _ = refl

-- a name by one mark, and by two
by_mark : (name : Bool → List ℕ) → is_name_text (name true) ≡ true → is_name_text (name false) ≡ true → (b : Bool)
    → is_name_text (name b) ≡ true
by_mark name t f true = t
by_mark name t f false = f

by_marks : (name : Bool → Bool → List ℕ) → is_name_text (name true true) ≡ true → is_name_text (name true false) ≡ true
    → is_name_text (name false true) ≡ true → is_name_text (name false false) ≡ true → (a b : Bool)
    → is_name_text (name a b) ≡ true
by_marks name both tf ft ff true b = by_mark (name true) both tf b
by_marks name both tf ft ff false b = by_mark (name false) ft ff b

operation_passes : (i : Instr) → is_name_text (operation_name i) ≡ true
operation_passes (instr.Imm op d s1 n) = imm_passes op
operation_passes (instr.Regs op d s1 s2) = reg_passes op
operation_passes (instr.MemImm op d s1 n) = index_passes op false
operation_passes (instr.MemReg op d s1 s2 scaled usr) = index_passes op usr
operation_passes (instr.Lda size d s1 s2) = lda_passes size
operation_passes (instr.BitLit op d s1 width offset) = bits_passes op
operation_passes (instr.BitReg op d s1 s2) = bits_passes op
operation_passes (instr.Find ones d s2) = by_mark find_name refl refl ones
operation_passes (instr.Branch link delayed words) = by_marks branch_name refl refl refl refl link delayed
operation_passes (instr.BranchBit set delayed bit s1 words) = by_marks branch_bit_name refl refl refl refl set delayed
operation_passes (instr.BranchCond delayed mask s1 words) = by_mark branch_cond_name refl refl delayed
operation_passes (instr.Jump link delayed s2) = by_marks jump_name refl refl refl refl link delayed
operation_passes (instr.TrapBit set bit s1 vector) = by_mark trap_bit_name refl refl set
operation_passes (instr.TrapCond mask s1 vector) = refl
operation_passes (instr.BoundImm s1 n) = refl
operation_passes (instr.BoundReg s1 s2) = refl
operation_passes instr.Rte = refl
operation_passes (instr.Ldcr d cr float) = by_mark ldcr_name refl refl float
operation_passes (instr.Stcr s1 cr float) = by_mark stcr_name refl refl float
operation_passes (instr.Xcr d s1 cr float) = by_mark xcr_name refl refl float
operation_passes (instr.Sfu unit rest) = refl

pub operation_named : (i : Instr) → IsName (operation_name i)
operation_named i = name_passes (operation_name i) (operation_passes i)

-- digits go on with a name
digit_continues : (d : ℕ) → digit_value d < 10 → continues_name d ≡ true
digit_continues d h = grind (arith, nat_tests)

digits_continue : (ds : List ℕ) → AllDigits 10 ds → list_all continues_name ds ≡ true
digits_continue [] h = refl
digits_continue (d ∷ ds) h =
    ap (λ (t : Bool). t && list_all continues_name ds) (digit_continues d h.0) ∙ digits_continue ds h.1

-- letters and a short number
pub numbered_name : (first : ℕ) (letters : List ℕ) (n : ℕ) → begins_name first ≡ true
    → list_all continues_name letters ≡ true
    → length letters ≤ 3 → n < 100 → IsName (first ∷ letters ++ decimal n)
numbered_name first letters n b ls short small =
    let k = decimal_is_IsNumeral n (omega arith) in
    let digits : list_all continues_name (decimal n) ≡ true = digits_continue (decimal n) k.0.1 in
    let all : list_all continues_name (letters ++ decimal n) ≡ true =
    rw (list_all-append continues_name letters (decimal n), ls, digits) refl in
    let few : length (decimal n) ≤ 2 = length-decimal-le 2 n (omega arith) (omega arith) (omega arith) in
    let len : length (letters ++ decimal n) ≡ length letters + length (decimal n) = length-append letters (decimal n) in
    (b, AllPass-from_list_all continues_name (letters ++ decimal n) all, omega (arith, few, len))

-- hexadecimal digits
one_digit : (d : ℕ) → d < 16 → nat_lt (digit_value (hex_digit d)) 16 ≡ true
one_digit d h = grind (arith, nat_tests)

eight_digits : (n : ℕ) → are_digits 16 (hex8 n) ≡ true
eight_digits n =
    rw (
      one_digit (n / 268435456 % 16) (omega arith),
      one_digit (n / 16777216 % 16) (omega arith),
      one_digit (n / 1048576 % 16) (omega arith),
      one_digit (n / 65536 % 16) (omega arith),
      one_digit (n / 4096 % 16) (omega arith),
      one_digit (n / 256 % 16) (omega arith),
      one_digit (n / 16 % 16) (omega arith),
      one_digit (n / 1 % 16) (omega arith),
    ) refl

pub word_part_good : (n : ℕ) → n < 2 ^ 32 → IsGood (part_hex (hex8 n) n)
word_part_good n small = (lit< tt, eight_digits n, sym (value_of_hex8 n small), small)

digit_back : (d : ℕ) → d < 16 → digit_value (hex_digit d) ≡ d
digit_back d h = grind (arith, nat_tests)

two_digits : (n : ℕ) → are_digits 16 (hex2 n) ≡ true
two_digits n = rw (one_digit (n / 16 % 16) (omega arith), one_digit (n / 1 % 16) (omega arith)) refl

value_of_hex2 : (n : ℕ) → n < 2 ^ 8 → digits_value 16 (hex2 n) ≡ n
value_of_hex2 n small = rw (digit_back (n / 16 % 16) (omega arith), digit_back (n / 1 % 16) (omega arith)) (omega arith)

pub byte_part_good : (n : ℕ) → n < 2 ^ 8 → IsGood (part_hex (hex2 n) n)
byte_part_good n small = (lit< tt, two_digits n, sym (value_of_hex2 n small), omega arith)

-- what is printed ends no line
name_printed : (b : ℕ) → continues_name b ≡ true → is_printed b ≡ true
name_printed b h = grind (arith, nat_tests)

names_printed : (bs : List ℕ) → list_all continues_name bs ≡ true → are_printed bs ≡ true
names_printed [] h = refl
names_printed (b ∷ bs) h =
    let k = and_parts (continues_name b) (list_all continues_name bs) h in
    ap (λ (t : Bool). t && are_printed bs) (name_printed b k.0) ∙ names_printed bs k.1

first_printed : (b : ℕ) → begins_name b ≡ true → is_printed b ≡ true
first_printed b h = grind (arith, nat_tests)

pub name_is_printed : (name : List ℕ) → IsName name → are_printed name ≡ true
name_is_printed [] h = absurd h
name_is_printed (b ∷ bs) h =
    ap (λ (t : Bool). t && are_printed bs) (first_printed b h.0)
    ∙ names_printed bs (list_all-from_AllPass continues_name bs h.1)

digit_printed : (b : ℕ) → digit_value b < 16 → is_printed b ≡ true
digit_printed b h = grind (arith, nat_tests)

digits_printed : (bs : List ℕ) → are_digits 16 bs ≡ true → are_printed bs ≡ true
digits_printed [] h = refl
digits_printed (b ∷ bs) h =
    let k = and_parts (nat_lt (digit_value b) 16) (are_digits 16 bs) h in
    ap (λ (t : Bool). t && are_printed bs) (digit_printed b (ltb-true (digit_value b) 16 k.0)) ∙ digits_printed bs k.1

decimals_printed : (n : ℕ) → n < 2 ^ 32 → are_printed (decimal n) ≡ true
decimals_printed n h =
    names_printed (decimal n) (digits_continue (decimal n) (decimal_is_IsNumeral n (omega arith)).0.1)

part_printed : (p : Part) → IsGood p → are_printed (part_text p) ≡ true
part_printed (part_name name) g = name_is_printed name g
part_printed (part_number n) g = decimals_printed n g
part_printed (part_hex digits n) g = digits_printed digits g.1
part_printed (part_mark b) g = rw g.2 refl

printed_behind : (xs ys : List ℕ) → are_printed xs ≡ true → are_printed ys ≡ true → are_printed (xs ++ ys) ≡ true
printed_behind xs ys e f = list_all-append is_printed xs ys ∙ rw (e, f) refl

parts_printed : (ps : List Part) → AreGood ps → are_printed (parts_text ps) ≡ true
parts_printed [] gs = refl
parts_printed (p ∷ ps) gs = printed_behind (part_text p) (parts_text ps) (part_printed p gs.0) (parts_printed ps gs.1)

pub line_printed : (op : List ℕ) (ps : List Part) → IsName op → AreGood ps
    → are_printed (op ++ 32 ∷ parts_text ps) ≡ true
line_printed op ps name gs = printed_behind op (32 ∷ parts_text ps) (name_is_printed op name) (parts_printed ps gs)
