-- The law of operands of one token, in one walk over the tokens that may stand there: what is read is what the token says,
-- the other way round, and which token is a fault whatever follows it.
use Rattle.std.proofs.Common.{◌≡◌, ℕ, suc, ◌≤◌, ◌<◌, Bool, true, false, ◌||◌, ◌==◌, nat_le, ◌⊎◌, inl, inr, List, [], ◌∷◌, Option, Some, None, Ok, Err, Result, refl, sym, ap, ◌∙◌, arith, subst, eqb-true, eq-eqb, leb-true, le-leb, if◌then◌else◌, codes}
use Rattle.std.specs.Option.{option_map}
use Rattle.m88_base.specs.Reg.{reg_of}
use Rattle.m88_base.specs.Name.{IsName}
use Rattle.m88_base.specs.declared.reg.Reg.{Reg}
use Rattle.m88_parse.specs.declared.fault.ParseKind.{ParseKind}
use Rattle.m88_parse.specs.declared.fault.ParseKind.TheVariants.{Syntax, NoSuchName, OutOfRange}
use Rattle.m88_parse.specs.declared.fault.ParseFault.{ParseFault}
use Rattle.m88_parse.specs.Language.Pieces.{TokenValue, a_name, a_number, a_text, a_mark, Piece}
use Rattle.m88_parse.specs.Inside.Names.{register_of, control_of, float_control_of, control_in, is_valid_name, is_symbol}
use Rattle.m88_parse.specs.Language.Words.{bit_named, condition_named}
use Rattle.m88_parse.specs.Inside.State.{ReaderState, first, is_mark_of, is_next_mark, ◌>>=◌}
use Rattle.m88_parse.specs.Inside.Slots.{Read, meaning_or_fault, mark_at, unsigned_on, unsigned_at, register_on, register_at, control_on, control_at, tabled_on, bit_at, mask_at, symbol_on, symbol_at, text_on, text_at, any_name_on, any_name_at, alignment_on, alignment_at}
use Rattle.m88_parse.specs.Language.Names.{IsMark, IsNumber, IsNamed, IsRegister, IsControl, IsBit, IsCondition, IsSymbol}
use Rattle.m88_parse.proofs.Law.TestsAndChoices.{either, take_then, take_else}
use Rattle.m88_parse.proofs.Law.Names.{some_same, register_is, register_name_again, control_name_is, control_name_again, symbol_is, symbol_name_again, name_is, name_spelled_again}

-- where a reading stands
abbrev pub st : ℕ → ℕ → List Piece → ReaderState
st line e ps = record { line = line; end_col = e; rest = ps }

pub ok_same : {A : Type 0} {a b : A} → ◌≡◌ {A = Result A ParseFault} (Ok a) (Ok b) → a ≡ b
ok_same h = cc

pub bind_ok : {A B : Type 0} (r : Result A ParseFault) (f : A → Result B ParseFault) (y : B) → (r >>= f) ≡ Ok y → (x : A) × (r ≡ Ok x) × (f x ≡ Ok y)
bind_ok (Ok x) f y h = (x, refl, h)
bind_ok (Err e) f y h = absurd cc

pub bind_to : {A B : Type 0} (r : Result A ParseFault) (f : A → Result B ParseFault) (x : A) (z : Result B ParseFault) → r ≡ Ok x → f x ≡ z → (r >>= f) ≡ z
bind_to r f x z h k = ap (λ (y : Result _ ParseFault). y >>= f) h ∙ k

-- readings in turn, the last of which is read on from
pub turns : {A B C : Type 0} (r : Result A ParseFault) (f : A → Result B ParseFault) (g : B → Result C ParseFault) (h : A → Result C ParseFault)
    → ((x : A) → (f x >>= g) ≡ h x) → ((r >>= f) >>= g) ≡ (r >>= h)
turns (Ok x) f g h same = same x
turns (Err y) f g h same = refl

-- what is read by a slot and then changed
pub mapped : (A B C : Type 0) (r : Read A) (f : A → C) (k : C → ReaderState → Result B ParseFault)
    → ((r >>= λ (x : A × ReaderState). let y : Read C = Ok (f x.0, x.1) in y) >>= λ (y : C × ReaderState). k y.0 y.1)
    ≡ (r >>= λ (x : A × ReaderState). k (f x.0) x.1)
mapped A B C (Ok x) f k = refl
mapped A B C (Err g) f k = refl

-- a mark

pub mark_says : (m : ℕ) (o : TokenValue) → is_mark_of m (Some o) ≡ true → o ≡ a_mark m
mark_says m (a_name text) h = absurd cc
mark_says m (a_number n) h = absurd cc
mark_says m (a_text bytes) h = absurd cc
mark_says m (a_mark b) h = ap a_mark (eqb-true b m h)

pub next_again : (m line e : ℕ) (p : Piece) (ps : List Piece) → IsMark m p → is_next_mark m (st line e (p ∷ ps)) ≡ true
next_again m line e p ps h = ap (λ (o : TokenValue). is_mark_of m (Some o)) h ∙ eq-eqb m m refl

-- which names are wanted: none, those with a meaning of their own, or symbols
pub data Naming : Type 0 where
  no_name : Naming
  own_names : Naming
  symbols : Naming

abbrev pub kind_of_number : Bool → ParseKind
kind_of_number true = OutOfRange
kind_of_number false = Syntax

abbrev pub kind_of_name : Naming → ParseKind
kind_of_name no_name = Syntax
kind_of_name own_names = NoSuchName
kind_of_name symbols = Syntax

-- the kind of fault of a token where numbers or names are wanted
abbrev pub kind_for : Bool → Naming → TokenValue → ParseKind
kind_for num nam (a_name name) = kind_of_name nam
kind_for num nam (a_number n) = kind_of_number num
kind_for num nam (a_text bytes) = Syntax
kind_for num nam (a_mark m) = Syntax

pub plain_kind : (m : TokenValue) → Syntax ≡ kind_for false no_name m
plain_kind (a_name name) = refl
plain_kind (a_number n) = refl
plain_kind (a_text bytes) = refl
plain_kind (a_mark m) = refl

-- tokens that are no names
pub data NoName : TokenValue → Type 0 where
  number_is : {n : ℕ} → NoName (a_number n)
  text_is : {bytes : List ℕ} → NoName (a_text bytes)
  mark_is : {b : ℕ} → NoName (a_mark b)

pub no_named : (m : TokenValue) (text : List ℕ) → NoName m → m ≡ a_name text → ⊥
no_named m text number_is h = cc
no_named m text text_is h = cc
no_named m text mark_is h = cc

-- whichever names are wanted, their fault is of one kind
pub same_kind : (num : Bool) (mine other : Naming) (m : TokenValue) → NoName m → kind_for num other m ≡ kind_for num mine m
same_kind num mine other m number_is = refl
same_kind num mine other m text_is = refl
same_kind num mine other m mark_is = refl

-- a token that says this
abbrev pub saying : TokenValue → Piece
saying m = record { text = []; col = 0; says = m }

-- a symbol that has no meaning of its own
unfoldable pub any : Piece
any = saying (a_name (codes "x"))

pub any_is_symbol : IsSymbol (codes "x") any
unfolding any is_symbol is_valid_name register_of control_of float_control_of
any_is_symbol = (refl, symbol_is (codes "x") refl)

-- what a token gives
abbrev pub gives : {A : Type 0} → ℕ → ℕ → Piece → List Piece → ParseKind → Option A → Read A
gives line e p ps kind (Some x) = Ok (x, st line e ps)
gives line e p ps kind None = Err (record { line = line; col = p.col; kind = kind })

abbrev pub GivesNumbers : {A : Type 0} → Bool → (Piece → Option A) → Type 0
GivesNumbers {A = A} true given = (p : Piece) × (n : ℕ) × (x : A) × IsNumber n p × (given p ≡ Some x)
GivesNumbers {A = A} false given = (p : Piece) (n : ℕ) → IsNumber n p → given p ≡ None

abbrev pub GivesNames : {A : Type 0} → Naming → (Piece → Option A) → Type 0
GivesNames {A = A} no_name given = (p : Piece) (name : List ℕ) → IsNamed name p → given p ≡ None
GivesNames {A = A} own_names given = ((p : Piece) × (name : List ℕ) × (x : A) × IsNamed name p × (given p ≡ Some x)) × ((p : Piece) × (name : List ℕ) × IsSymbol name p × (given p ≡ None))
GivesNames {A = A} symbols given = (p : Piece) (name : List ℕ) → IsSymbol name p → (x : A) × (given p ≡ Some x)

-- a slot of one token, walked once: what a token gives there is what it is by the relation, and one that gives nothing is a fault
-- whatever follows it
pub record OneToken (A : Type 0) (Is : A → Piece → Type 0) (num : Bool) (nam : Naming) (line e : ℕ) (slot : ReaderState → Read A) : Type 0 where
  pub given : Piece → Option A
  pub empty : slot (st line e []) ≡ Err (record { line = line; col = e; kind = Syntax })
  pub each : (p : Piece) (ps : List Piece) → slot (st line e (p ∷ ps)) ≡ gives line e p ps (kind_for num nam p.says) (given p)
  pub is : (p : Piece) (x : A) → given p ≡ Some x → Is x p
  pub again : (p : Piece) (x : A) → Is x p → given p ≡ Some x
  pub numbers : GivesNumbers num given
  pub names : GivesNames nam given
  pub marks : (p : Piece) (m : ℕ) → (m ≡ 40) ⊎ (m ≡ 45) → IsMark m p → given p ≡ None
  pub some : (p : Piece) × (x : A) × (given p ≡ Some x)

-- a token by what it says

abbrev pub nothing : {B A : Type 0} → B → Option A
nothing x = None

abbrev pub by_token : {A : Type 0} → (List ℕ → Option A) → (ℕ → Option A) → (List ℕ → Option A) → TokenValue → Option A
by_token names numbers texts (a_name name) = names name
by_token names numbers texts (a_number n) = numbers n
by_token names numbers texts (a_text bytes) = texts bytes
by_token names numbers texts (a_mark m) = None

pub token_gives : {A : Type 0} (num : Bool) (nam : Naming) (line e : ℕ) (p : Piece) (ps : List Piece) (on : TokenValue → Read A) (look : TokenValue → Option A)
    → ((name : List ℕ) → IsNamed name p → on (a_name name) ≡ gives line e p ps (kind_of_name nam) (look (a_name name)))
    → ((n : ℕ) → on (a_number n) ≡ gives line e p ps (kind_of_number num) (look (a_number n)))
    → ((bytes : List ℕ) → on (a_text bytes) ≡ gives line e p ps Syntax (look (a_text bytes)))
    → ((m : ℕ) → on (a_mark m) ≡ gives line e p ps Syntax (look (a_mark m)))
    → (m : TokenValue) → p.says ≡ m → on m ≡ gives line e p ps (kind_for num nam m) (look m)
token_gives num nam line e p ps on look a b c d (a_name name) h = a name h
token_gives num nam line e p ps on look a b c d (a_number n) h = b n
token_gives num nam line e p ps on look a b c d (a_text bytes) h = c bytes
token_gives num nam line e p ps on look a b c d (a_mark m) h = d m

pub token_is : {A : Type 0} (Is : A → Piece → Type 0) (names : List ℕ → Option A) (numbers : ℕ → Option A) (p : Piece) (x : A)
    → ((name : List ℕ) → IsNamed name p → names name ≡ Some x → Is x p) → ((n : ℕ) → IsNumber n p → numbers n ≡ Some x → Is x p)
    → (m : TokenValue) → p.says ≡ m → by_token names numbers nothing m ≡ Some x → Is x p
token_is Is names numbers p x a b (a_name name) i k = a name i k
token_is Is names numbers p x a b (a_number n) i k = b n i k
token_is Is names numbers p x a b (a_text bytes) i k = absurd cc
token_is Is names numbers p x a b (a_mark m) i k = absurd cc

-- what a test lets through

abbrev pub only_if : {A : Type 0} → Bool → A → Option A
only_if t x = if t then Some x else None

pub tested_gives : {A : Type 0} (t : Bool) (x : A) (kind : ParseKind) (line e : ℕ) (p : Piece) (ps : List Piece) → (if t then Ok (x, st line e ps) else Err (record { line = line; col = p.col; kind = kind })) ≡ gives line e p ps kind (only_if t x)
tested_gives true x kind line e p ps = refl
tested_gives false x kind line e p ps = refl

pub tested_is : {A : Type 0} (t : Bool) (x y : A) → only_if t x ≡ Some y → (t ≡ true) × (x ≡ y)
tested_is true x y h = (refl, some_same h)
tested_is false x y h = absurd cc

pub named_gives : {A : Type 0} (o : Option A) (line e : ℕ) (p : Piece) (ps : List Piece) → meaning_or_fault (st line e (p ∷ ps)) o ≡ gives line e p ps NoSuchName o
named_gives (Some x) line e p ps = refl
named_gives None line e p ps = refl

-- a mark, where only what is left counts

abbrev pub mark_slot : ℕ → ReaderState → Read (Unit {0})
mark_slot m s = mark_at m s >>= λ t. Ok (tt, t)

abbrev mark_by : ℕ → TokenValue → Option (Unit {0})
mark_by m o = only_if (is_mark_of m (Some o)) tt

pub one_mark : (m line e : ℕ) → (40 == m) ≡ false → (45 == m) ≡ false → OneToken (Unit {0}) (λ u. IsMark m) false no_name line e (mark_slot m)
one_mark m line e h k = record {
  given = λ p. mark_by m p.says;
  empty = refl;
  each = λ p ps. by_test p ps (is_mark_of m (Some p.says));
  is = λ p x i. mark_says m p.says (tested_is (is_mark_of m (Some p.says)) tt x i).0;
  again = λ p x i. take_then (is_mark_of m (Some p.says)) _ _ (next_again m line e p [] i);
  numbers = λ p n i. ap (mark_by m) i;
  names = λ p name i. ap (mark_by m) i;
  marks = λ p n w i. ap (mark_by m) i ∙ take_else (n == m) _ _ (elim w [ inl j ↦ ap (λ (x : ℕ). x == m) j ∙ h | inr j ↦ ap (λ (x : ℕ). x == m) j ∙ k ]);
  some = (saying (a_mark m), tt, take_then (m == m) _ _ (eq-eqb m m refl));
}
  where
    by_test : (p : Piece) (ps : List Piece) (t : Bool)
        → ((if t then Ok (st line e ps) else Err (record { line = line; col = p.col; kind = Syntax })) >>= λ (u : ReaderState). let y : Read (Unit {0}) = Ok (tt, u) in y) ≡ gives line e p ps (kind_for false no_name p.says) (only_if t tt)
    by_test p ps true = refl
    by_test p ps false = ap (λ (kind : ParseKind). let y : Read (Unit {0}) = Err (record { line = line; col = p.col; kind = kind }) in y) (plain_kind p.says)

-- numbers

abbrev pub within : ℕ → ℕ → Option ℕ
within most n = only_if (nat_le n most) n

pub within_is : (most n x : ℕ) → within most n ≡ Some x → (n ≡ x) × (x ≤ most)
within_is most n x h = let j = tested_is (nat_le n most) n x h in (j.1, subst (λ (v : ℕ). v ≤ most) j.1 (leb-true n most j.0))

pub within_again : (most n : ℕ) → n ≤ most → within most n ≡ Some n
within_again most n h = take_then (nat_le n most) _ _ (le-leb n most h)

abbrev pub IsUpTo : ℕ → ℕ → Piece → Type 0
IsUpTo most n p = IsNumber n p × (n ≤ most)

abbrev number_in : ℕ → TokenValue → Option ℕ
number_in most = by_token nothing (within most) nothing

pub one_number : (most line e : ℕ) → OneToken ℕ (IsUpTo most) true no_name line e (unsigned_at most)
unfolding unsigned_at
one_number most line e = record {
  given = λ p. number_in most p.says;
  empty = refl;
  each = λ p ps. token_gives true no_name line e p ps (λ o. unsigned_on most (st line e (p ∷ ps)) (Some o)) (number_in most) (λ name i. refl) (λ n. tested_gives (nat_le n most) n OutOfRange line e p ps) (λ bytes. refl) (λ m. refl) p.says refl;
  is = λ p x. token_is (IsUpTo most) nothing (within most) p x (λ name i k. absurd cc) (λ n i k. let j = within_is most n x k in (i ∙ ap a_number j.0, j.1)) p.says refl;
  again = λ p x h. ap (number_in most) h.0 ∙ within_again most x h.1;
  numbers = (saying (a_number 0), 0, 0, refl, within_again most 0 (omega arith));
  names = λ p name i. ap (number_in most) i;
  marks = λ p m w i. ap (number_in most) i;
  some = (saying (a_number 0), 0, within_again most 0 (omega arith));
}

-- a general register

pub register_found : (p : Piece) (text : List ℕ) (x : Reg) → IsNamed text p → (o : Option ℕ) → register_of text ≡ o → option_map reg_of o ≡ Some x → IsRegister x p
register_found p text x i (Some n) j k = (text, n, i, register_is text n j, sym (some_same k))
register_found p text x i None j k = absurd cc

abbrev register_on_name : List ℕ → Option Reg
register_on_name text = option_map reg_of (register_of text)

abbrev register_by : TokenValue → Option Reg
register_by = by_token register_on_name nothing nothing

pub one_register : (line e : ℕ) → OneToken Reg IsRegister false own_names line e register_at
unfolding register_at register_of any
one_register line e = record {
  given = λ p. register_by p.says;
  empty = refl;
  each = λ p ps. token_gives false own_names line e p ps (λ o. register_on (st line e (p ∷ ps)) (Some o)) register_by (λ name i. named_gives (register_on_name name) line e p ps) (λ n. refl) (λ bytes. refl) (λ m. refl) p.says refl;
  is = λ p x. token_is IsRegister register_on_name nothing p x (λ name i. register_found p name x i (register_of name) refl) (λ n i k. absurd cc) p.says refl;
  again = λ p x h. ap register_by h.2 ∙ ap (option_map reg_of) (register_name_again h.0 h.1 h.3) ∙ ap (λ (r : Reg). let y : Option Reg = Some r in y) (sym h.4);
  numbers = λ p n i. ap register_by i;
  names = ((saying (a_name (codes "r0")), codes "r0", reg_of 0, refl, refl), (any, codes "x", any_is_symbol, refl));
  marks = λ p m w i. ap register_by i;
  some = (saying (a_name (codes "r0")), reg_of 0, refl);
}

-- a control register

abbrev first_control : Bool → List ℕ
first_control false = codes "cr0"
first_control true = codes "fcr0"

first_control_is : (float : Bool) → control_in float (first_control float) ≡ Some 0
unfolding control_of float_control_of
first_control_is false = refl
first_control_is true = refl

no_control : (float : Bool) → control_in float (codes "x") ≡ None
unfolding control_of float_control_of
no_control false = refl
no_control true = refl

abbrev control_by : Bool → TokenValue → Option ℕ
control_by float = by_token (control_in float) nothing nothing

pub one_control : (float : Bool) (line e : ℕ) → OneToken ℕ (IsControl float) false own_names line e (control_at float)
unfolding control_at any
one_control float line e = record {
  given = λ p. control_by float p.says;
  empty = refl;
  each = λ p ps. token_gives false own_names line e p ps (λ o. control_on float (st line e (p ∷ ps)) (Some o)) (control_by float) (λ name i. named_gives (control_in float name) line e p ps) (λ n. refl) (λ bytes. refl) (λ m. refl) p.says refl;
  is = λ p x. token_is (IsControl float) (control_in float) nothing p x (λ name i k. (name, i, control_name_is float name x k)) (λ n i k. absurd cc) p.says refl;
  again = λ p x h. ap (control_by float) h.1 ∙ control_name_again float h.0 x h.2;
  numbers = λ p n i. ap (control_by float) i;
  names = ((saying (a_name (first_control float)), first_control float, 0, refl, first_control_is float), (any, codes "x", any_is_symbol, no_control float));
  marks = λ p m w i. ap (control_by float) i;
  some = (saying (a_name (first_control float)), 0, first_control_is float);
}

-- a bit and a condition: a number, or a name of a table

abbrev IsTabled : (List ℕ → Option ℕ) → ℕ → ℕ → Piece → Type 0
IsTabled table most n p = (IsNumber n p × (n < suc most)) ⊎ ((name : List ℕ) × IsNamed name p × (table name ≡ Some n))

abbrev tabled : (List ℕ → Option ℕ) → ℕ → TokenValue → Option ℕ
tabled table most = by_token table (within most) nothing

one_tabled : (table : List ℕ → Option ℕ) (most line e : ℕ) (name : List ℕ) (v : ℕ) → table name ≡ Some v → table (codes "x") ≡ None → OneToken ℕ (IsTabled table most) true own_names line e (λ s. tabled_on table most s (first s))
unfolding any
one_tabled table most line e name v some none = record {
  given = λ p. tabled table most p.says;
  empty = refl;
  each = λ p ps. token_gives true own_names line e p ps (λ o. tabled_on table most (st line e (p ∷ ps)) (Some o)) (tabled table most) (λ text i. named_gives (table text) line e p ps) (λ n. tested_gives (nat_le n most) n OutOfRange line e p ps) (λ bytes. refl) (λ m. refl) p.says refl;
  is = λ p x. token_is (IsTabled table most) table (within most) p x (λ text i k. inr (text, i, k)) (λ n i k. let j = within_is most n x k in inl (i ∙ ap a_number j.0, omega (arith, j.1))) p.says refl;
  again = λ p x h. elim h [ inl i ↦ ap (tabled table most) i.0 ∙ within_again most x (omega (arith, i.1)) | inr i ↦ ap (tabled table most) i.1 ∙ i.2 ];
  numbers = (saying (a_number 0), 0, 0, refl, within_again most 0 (omega arith));
  names = ((saying (a_name name), name, v, refl, some), (any, codes "x", any_is_symbol, none));
  marks = λ p m w i. ap (tabled table most) i;
  some = (saying (a_number 0), 0, within_again most 0 (omega arith));
}

pub one_bit : (line e : ℕ) → OneToken ℕ IsBit true own_names line e bit_at
unfolding bit_at bit_named
one_bit line e = one_tabled bit_named 31 line e (codes "eq") 2 refl refl

pub one_mask : (line e : ℕ) → OneToken ℕ IsCondition true own_names line e mask_at
unfolding mask_at condition_named
one_mask line e = one_tabled condition_named 15 line e (codes "eq0") 2 refl refl

-- a symbol with its column

abbrev pub IsSymbolAt : List ℕ × ℕ → Piece → Type 0
IsSymbolAt x p = IsSymbol x.0 p × (x.1 ≡ p.col)

abbrev symbol_here : ℕ → List ℕ → Option (List ℕ × ℕ)
symbol_here col text = only_if (is_symbol text) (text, col)

abbrev symbol_by : ℕ → TokenValue → Option (List ℕ × ℕ)
symbol_by col = by_token (symbol_here col) nothing nothing

symbol_given : (p : Piece) (name : List ℕ) → IsSymbol name p → symbol_by p.col p.says ≡ Some (name, p.col)
symbol_given p name h = ap (symbol_by p.col) h.0 ∙ take_then (is_symbol name) _ _ (symbol_name_again name h.1)

pub one_symbol : (line e : ℕ) → OneToken (List ℕ × ℕ) IsSymbolAt false symbols line e symbol_at
unfolding symbol_at
one_symbol line e = record {
  given = λ p. symbol_by p.col p.says;
  empty = refl;
  each = λ p ps. token_gives false symbols line e p ps (λ o. symbol_on (st line e (p ∷ ps)) (Some o)) (symbol_by p.col) (λ name i. tested_gives (is_symbol name) (name, p.col) Syntax line e p ps) (λ n. refl) (λ bytes. refl) (λ m. refl) p.says refl;
  is = λ p x. token_is IsSymbolAt (symbol_here p.col) nothing p x (λ name i k. let j = tested_is (is_symbol name) (name, p.col) x k in subst (λ (y : List ℕ × ℕ). IsSymbolAt y p) j.1 ((i, symbol_is name j.0), refl)) (λ n i k. absurd cc) p.says refl;
  again = λ p x h. symbol_given p x.0 h.0 ∙ ap (λ (c : ℕ). let y : Option (List ℕ × ℕ) = Some (x.0, c) in y) (sym h.1);
  numbers = λ p n i. ap (symbol_by p.col) i;
  names = λ p name i. ((name, p.col), symbol_given p name i);
  marks = λ p m w i. ap (symbol_by p.col) i;
  some = (any, (codes "x", any.col), symbol_given any (codes "x") any_is_symbol);
}

-- any name, and a text

abbrev pub IsAnyName : List ℕ → Piece → Type 0
IsAnyName name p = IsNamed name p × IsName name

abbrev name_here : List ℕ → Option (List ℕ)
name_here text = only_if (is_valid_name text) text

abbrev name_by : TokenValue → Option (List ℕ)
name_by = by_token name_here nothing nothing

name_given : (p : Piece) (name : List ℕ) → IsAnyName name p → name_by p.says ≡ Some name
name_given p name h = ap name_by h.0 ∙ take_then (is_valid_name name) _ _ (name_spelled_again name h.1)

pub one_any_name : (line e : ℕ) → OneToken (List ℕ) IsAnyName false symbols line e any_name_at
unfolding any_name_at
one_any_name line e = record {
  given = λ p. name_by p.says;
  empty = refl;
  each = λ p ps. token_gives false symbols line e p ps (λ o. any_name_on (st line e (p ∷ ps)) (Some o)) name_by (λ name i. tested_gives (is_valid_name name) name Syntax line e p ps) (λ n. refl) (λ bytes. refl) (λ m. refl) p.says refl;
  is = λ p x. token_is IsAnyName name_here nothing p x (λ name i k. let j = tested_is (is_valid_name name) name x k in subst (λ (y : List ℕ). IsAnyName y p) j.1 (i, name_is name j.0)) (λ n i k. absurd cc) p.says refl;
  again = λ p x h. name_given p x h;
  numbers = λ p n i. ap name_by i;
  names = λ p name i. (name, name_given p name (i.0, i.1.valid));
  marks = λ p m w i. ap name_by i;
  some = (any, codes "x", name_given any (codes "x") (any_is_symbol.0, any_is_symbol.1.valid));
}

abbrev pub IsText : List ℕ → Piece → Type 0
IsText bytes p = p.says ≡ a_text bytes

abbrev text_by : TokenValue → Option (List ℕ)
text_by = by_token nothing nothing (λ bytes. Some bytes)

text_found : (p : Piece) (x : List ℕ) (m : TokenValue) → p.says ≡ m → text_by m ≡ Some x → IsText x p
text_found p x (a_name name) i k = absurd cc
text_found p x (a_number n) i k = absurd cc
text_found p x (a_text bytes) i k = i ∙ ap a_text (some_same k)
text_found p x (a_mark m) i k = absurd cc

pub one_text : (line e : ℕ) → OneToken (List ℕ) IsText false no_name line e text_at
unfolding text_at
one_text line e = record {
  given = λ p. text_by p.says;
  empty = refl;
  each = λ p ps. token_gives false no_name line e p ps (λ o. text_on (st line e (p ∷ ps)) (Some o)) text_by (λ name i. refl) (λ n. refl) (λ bytes. refl) (λ m. refl) p.says refl;
  is = λ p x. text_found p x p.says refl;
  again = λ p x h. ap text_by h;
  numbers = λ p n i. ap text_by i;
  names = λ p name i. ap text_by i;
  marks = λ p m w i. ap text_by i;
  some = (saying (a_text []), [], refl);
}

-- 1, 2, 4 or 8

abbrev pub IsPower : ℕ → Piece → Type 0
IsPower n p = IsNumber n p × ((n ≡ 1) ⊎ ((n ≡ 2) ⊎ ((n ≡ 4) ⊎ (n ≡ 8))))

power_is : (n : ℕ) → (n == 1 || n == 2 || n == 4 || n == 8) ≡ true → (n ≡ 1) ⊎ ((n ≡ 2) ⊎ ((n ≡ 4) ⊎ (n ≡ 8)))
power_is n h =
    elim (either (n == 1 || n == 2 || n == 4) (n == 8) h) [
      | inl i ↦
          elim (either (n == 1 || n == 2) (n == 4) i) [
            | inl j ↦ elim (either (n == 1) (n == 2) j) [ inl k ↦ inl (eqb-true n 1 k) | inr k ↦ inr (inl (eqb-true n 2 k)) ]
            | inr j ↦ inr (inr (inl (eqb-true n 4 j)))
          ]
      | inr i ↦ inr (inr (inr (eqb-true n 8 i)))
    ]

power_again : (n : ℕ) → (n ≡ 1) ⊎ ((n ≡ 2) ⊎ ((n ≡ 4) ⊎ (n ≡ 8))) → (n == 1 || n == 2 || n == 4 || n == 8) ≡ true
power_again n (inl h) = rw h refl
power_again n (inr (inl h)) = rw h refl
power_again n (inr (inr (inl h))) = rw h refl
power_again n (inr (inr (inr h))) = rw h refl

abbrev is_power : ℕ → Bool
is_power n = n == 1 || n == 2 || n == 4 || n == 8

abbrev power_here : ℕ → Option ℕ
power_here n = only_if (is_power n) n

abbrev power_by : TokenValue → Option ℕ
power_by = by_token nothing power_here nothing

pub one_alignment : (line e : ℕ) → OneToken ℕ IsPower true no_name line e alignment_at
unfolding alignment_at
one_alignment line e = record {
  given = λ p. power_by p.says;
  empty = refl;
  each = λ p ps. token_gives true no_name line e p ps (λ o. alignment_on (st line e (p ∷ ps)) (Some o)) power_by (λ name i. refl) (λ n. tested_gives (is_power n) n OutOfRange line e p ps) (λ bytes. refl) (λ m. refl) p.says refl;
  is = λ p x. token_is IsPower nothing power_here p x (λ name i k. absurd cc) (λ n i k. let j = tested_is (is_power n) n x k in subst (λ (y : ℕ). IsPower y p) j.1 (i, power_is n j.0)) p.says refl;
  again = λ p x h. ap power_by h.0 ∙ take_then (is_power x) _ _ (power_again x h.1);
  numbers = (saying (a_number 1), 1, 1, refl, refl);
  names = λ p name i. ap power_by i;
  marks = λ p m w i. ap power_by i;
  some = (saying (a_number 1), 1, refl);
}
