-- The law of the front of a line's rest: what is cut off is a gap, a comment or a token, and the other way round.
use Rattle.std.proofs.Common.{◌≡◌, ◌≢◌, ℕ, suc, ◌+◌, ◌<◌, ◌≤◌, Bool, true, false, not, ◌&&◌, ◌||◌, ◌==◌, nat_lt, ◌⊎◌, inl, inr, List, [], ◌∷◌, ◌++◌, length, take, drop, Option, Some, None, Ok, Err, refl, sym, ap, ap₂, ◌∙◌, arith, subst, subst₂, take_at, drop_at, eqb-true, ne_eqb, ltb-false, le-ltb, Result, if◌then◌else◌, length-take, length-append, one-add, take-append-drop, append_assoc, true≢false}
use Rattle.std.specs.List.{All, list_any, list_all, prefix_len}
use Rattle.std.specs.Prelude.{codes}
use Rattle.std.specs.Char.{is_ascii_digit, digit_value}
use Rattle.std.proofs.Math.Seq.{take-append_seam}
use Rattle.std.proofs.lemmas.List.Sums.{prefix_len-le-length, list_all-from_AllPass, AllPass-from_list_all}
use Rattle.std.proofs.lemmas.Bool.{eqb-false}
use Rattle.std.proofs.lemmas.Bool.Decides.{nat_tests}
use Rattle.m88_base.specs.Name.{IsName, begins_name, continues_name}
use Rattle.m88_parse.specs.declared.fault.ParseKind.{ParseKind}
use Rattle.m88_parse.specs.declared.fault.ParseKind.TheVariants.{NotAscii, OutOfRange}
use Rattle.m88_parse.specs.declared.scan.Flaw.{Flaw}
use Rattle.m88_parse.specs.Inside.Tokens.{inside_len, holds_escapes, text_bytes, character, Cut, gap, token_cut, flaw, token_or_flaw, name_front, number_front, as_number, quoted_value, quoted, word_front, front, numeral}
use Rattle.m88_parse.specs.Language.Bytes.{space, tab, is_blank, is_comment, is_plain, is_mark, are_digits}
use Rattle.m88_parse.specs.Language.Pieces.{TokenValue, a_name, a_number, a_text, a_mark}
use Rattle.m88_parse.specs.Language.Tokens.{AreNameBytes, BeginsWithNoNameByte, IsDecimal, IsNumeral, Holds, IsToken}
use Rattle.m88_parse.proofs.Law.TestsAndChoices.{both, either, not_true, chosen, take_then, take_else, Stops, prefix_all, all_of_prefix, stops_prefix, prefix_whole, whole_prefix}
use Rattle.m88_parse.proofs.Law.Numbers.{number_is, number_again}
use Rattle.m88_parse.proofs.Law.Quotes.{holds_len, inside_fits, inside_again, closed_by, not_lone, holds_plain, holds_again, bytes_again, character_again, text_is, character_is}

-- classes of bytes

-- a byte that fails a test is not one that passes it
other_byte : (p : ℕ → Bool) (x b : ℕ) → p x ≡ true → p b ≡ false → (b == x) ≡ false
other_byte p x b h k = ne_eqb b x (λ (e : b ≡ x). true≢false (sym (ap p e ∙ h) ∙ k))

pub no_such_byte : (p : ℕ → Bool) (x y b : ℕ) → p x ≡ true → p y ≡ true → p b ≡ false → (b == x || b == y) ≡ false
no_such_byte p x y b h i k = ap₂ (λ (s t : Bool). s || t) (other_byte p x b h k) (other_byte p y b i k)

-- one of some bytes passes a test that all of them pass
one_of : (p : ℕ → Bool) (xs : List ℕ) (b : ℕ) → list_all p xs ≡ true → list_any (λ m. b == m) xs ≡ true → p b ≡ true
one_of p [] b h k = absurd (true≢false (sym k))
one_of p (x ∷ xs) b h k =
    let j = both (p x) (list_all p xs) h in
    elim (either (b == x) (list_any (λ m. b == m) xs) k) [ inl e ↦ ap p (eqb-true b x e) ∙ j.0 | inr e ↦ one_of p xs b j.1 e ]

word_plain : (b : ℕ) → continues_name b ≡ true → is_plain b ≡ true
word_plain b h = grind (arith, nat_tests)

word_byte : (b : ℕ) → continues_name b ≡ true → (is_comment b ≡ false) × (is_blank b ≡ false) × (is_plain b ≡ true)
word_byte b h =
    let k : not (continues_name b) ≡ false = ap not h in
    (no_such_byte (λ x. not (continues_name x)) 59 35 b refl refl k, no_such_byte (λ x. not (continues_name x)) space tab b refl refl k, word_plain b h)

mark_byte : (b : ℕ) → is_mark b ≡ true → (is_comment b ≡ false) × (is_blank b ≡ false) × (is_plain b ≡ true) × (continues_name b ≡ false)
mark_byte b h = (
  not_true (is_comment b) (one_of (λ x. not (is_comment x)) marks b refl h),
  not_true (is_blank b) (one_of (λ x. not (is_blank x)) marks b refl h),
  one_of is_plain marks b refl h,
  not_true (continues_name b) (one_of (λ x. not (continues_name x)) marks b refl h),
)
  where
    marks : List ℕ
    marks = codes ",:[]<>()+-"

or_first : (a b : Bool) → a ≡ true → (a || b) ≡ true
or_first a b h = ap (λ (t : Bool). t || b) h

or_second : (a b : Bool) → b ≡ true → (a || b) ≡ true
or_second true b h = refl
or_second false b h = h

pub digit_word : (b : ℕ) → is_ascii_digit b ≡ true → continues_name b ≡ true
digit_word b h = or_second (begins_name b) (is_ascii_digit b) h

-- the front by its first byte

pub run_at : (b : ℕ) (bs : List ℕ) → continues_name b ≡ true → take (prefix_len continues_name (b ∷ bs)) (b ∷ bs) ≡ b ∷ take (prefix_len continues_name bs) bs
run_at b bs h =
    let e : prefix_len continues_name (b ∷ bs) ≡ suc (prefix_len continues_name bs) = take_then (continues_name b) (1 + prefix_len continues_name bs) 0 h ∙ one-add (prefix_len continues_name bs) in
    ap (λ (n : ℕ). take n (b ∷ bs)) e

front_word : (b : ℕ) (bs : List ℕ) → continues_name b ≡ true → front (b ∷ bs) ≡ word_front b (b ∷ take (prefix_len continues_name bs) bs)
unfolding front
front_word b bs h =
    let w = word_byte b h in
    take_else (is_comment b) _ _ w.0
    ∙ take_else (is_blank b) _ _ w.1
    ∙ take_else (not (is_plain b)) _ _ (ap not w.2)
    ∙ take_then (continues_name b) _ _ h
    ∙ ap (word_front b) (run_at b bs h)

front_mark : (b : ℕ) (bs : List ℕ) → is_mark b ≡ true → front (b ∷ bs) ≡ token_cut 1 (a_mark b)
unfolding front
front_mark b bs h =
    let w = mark_byte b h in
    take_else (is_comment b) _ _ w.0
    ∙ take_else (is_blank b) _ _ w.1
    ∙ take_else (not (is_plain b)) _ _ (ap not w.2)
    ∙ take_else (continues_name b) _ _ w.3
    ∙ take_then (is_mark b) _ _ h

pub front_double : (bs : List ℕ) → front (34 ∷ bs) ≡ quoted 34 bs
unfolding front
front_double bs = refl

pub front_single : (bs : List ℕ) → front (39 ∷ bs) ≡ quoted 39 bs
unfolding front
front_single bs = refl

-- related: what is cut off

length_text : (q : ℕ) (inside : List ℕ) → length inside + 2 ≡ length (q ∷ inside ++ q ∷ [])
length_text q inside = omega (arith, length-append inside (q ∷ []))

abbrev quoted_by : ℕ → ℕ → ℕ → List ℕ → Result Cut Flaw
quoted_by q total len inside =
    if nat_lt (prefix_len is_plain inside) len then flaw NotAscii (prefix_len is_plain inside + 1)
    else token_or_flaw (len + 2) (if len == total then None else quoted_value q inside)

quoted_again : (q : ℕ) (m : TokenValue) (inside bytes rest : List ℕ) → (92 == q) ≡ false → Holds q inside bytes → quoted_value q inside ≡ Some m
    → quoted q (inside ++ q ∷ rest) ≡ token_cut (length inside + 2) m
unfolding quoted
quoted_again q m inside bytes rest k h e =
    let bs = inside ++ q ∷ rest in
    let l = holds_len q k h rest in
    let t : take (inside_len q false bs) bs ≡ inside = ap (λ (n : ℕ). take n bs) l ∙ take-append_seam inside (q ∷ rest) in
    let p : prefix_len is_plain inside ≡ length inside = prefix_whole is_plain inside (holds_plain q h) in
    let d : length inside ≢ length bs = λ (x : length inside ≡ length bs). omega (arith, length-append inside (q ∷ rest)) in
    ap₂ (λ (n : ℕ) (xs : List ℕ). quoted_by q (length bs) n xs) l t
    ∙ take_else (nat_lt (prefix_len is_plain inside) (length inside)) _ _ (le-ltb (prefix_len is_plain inside) (length inside) (omega (arith, p)))
    ∙ ap (token_or_flaw (length inside + 2)) (take_else (length inside == length bs) _ _ (ne_eqb (length inside) (length bs) d) ∙ e)

all_as : (p q : ℕ → Bool) → ((b : ℕ) → p b ≡ true → q b ≡ true) → (xs : List ℕ) → list_all p xs ≡ true → list_all q xs ≡ true
all_as p q f [] h = refl
all_as p q f (x ∷ xs) h = let k = both (p x) (list_all p xs) h in ap (λ (t : Bool). t && list_all q xs) (f x k.0) ∙ all_as p q f xs k.1

value_digit : (d : ℕ) → nat_lt (digit_value d) 10 ≡ true → is_ascii_digit d ≡ true
value_digit d h = grind (arith, nat_tests)

value_word : (d : ℕ) → nat_lt (digit_value d) 16 ≡ true → continues_name d ≡ true
value_word d h = grind (arith, nat_tests)

pub front_run : (b : ℕ) (t rest : List ℕ) → AreNameBytes (b ∷ t) → BeginsWithNoNameByte rest → front (b ∷ (t ++ rest)) ≡ word_front b (b ∷ t)
front_run b t rest h k =
    let j = both (continues_name b) (list_all continues_name t) h in
    let e : prefix_len continues_name (t ++ rest) ≡ length t = prefix_all continues_name t rest j.1 (stops rest k) in
    let f : take (prefix_len continues_name (t ++ rest)) (t ++ rest) ≡ t = ap (λ (n : ℕ). take n (t ++ rest)) e ∙ take-append_seam t rest in
    front_word b (t ++ rest) j.0 ∙ ap (λ (bs : List ℕ). word_front b (b ∷ bs)) f
  where
    stops : (xs : List ℕ) → BeginsWithNoNameByte xs → Stops continues_name xs
    stops [] x = tt
    stops (y ∷ ys) x = x

begin_word : (b : ℕ) → begins_name b ≡ true → continues_name b ≡ true
begin_word b h = or_first (begins_name b) (is_ascii_digit b) h

begin_no_digit : (b : ℕ) → begins_name b ≡ true → is_ascii_digit b ≡ false
begin_no_digit b h = grind (arith, nat_tests)

word_begin : (b : ℕ) → continues_name b ≡ true → is_ascii_digit b ≡ false → begins_name b ≡ true
word_begin b h d = elim (either (begins_name b) (is_ascii_digit b) h) [ inl e ↦ e | inr e ↦ absurd (true≢false (sym e ∙ d)) ]

all_here : (p : ℕ → Bool) (xs : List ℕ) → All (λ b. p b ≡ true) xs → list_all p xs ≡ true
all_here p xs h = list_all-from_AllPass p xs h

all_there : (p : ℕ → Bool) (xs : List ℕ) → list_all p xs ≡ true → All (λ b. p b ≡ true) xs
all_there p xs h = AllPass-from_list_all p xs h

name_again : (name rest : List ℕ) → IsName name → (AreNameBytes name → BeginsWithNoNameByte rest) → front (name ++ rest) ≡ token_cut (length name) (a_name name)
name_again [] rest h k = absurd h
name_again (b ∷ t) rest h k =
    let r : AreNameBytes (b ∷ t) = ap (λ (u : Bool). u && list_all continues_name t) (begin_word b h.0) ∙ all_here continues_name t h.1 in
    let l = h.2 in
    front_run b t rest r (k r)
    ∙ take_else (is_ascii_digit b) _ _ (begin_no_digit b h.0)
    ∙ take_else (nat_lt 64 (length (b ∷ t))) _ _ (le-ltb 64 (length (b ∷ t)) (omega (arith, l)))

number_run : (text rest : List ℕ) (n : ℕ) → 0 < length text → AreNameBytes text → BeginsWithNoNameByte rest → list_all is_ascii_digit (take 1 text) ≡ true → numeral text ≡ Ok n → front (text ++ rest) ≡ token_cut (length text) (a_number n)
number_run [] rest n s h k d e = absurd (omega arith)
number_run (b ∷ t) rest n s h k d e =
    front_run b t rest h k
    ∙ take_then (is_ascii_digit b) _ _ (both (is_ascii_digit b) true d).0
    ∙ ap (number_front (length (b ∷ t))) e

-- decimal digits, and 0x with hexadecimal digits, are runs that begin with a digit
pub decimal_run : (text : List ℕ) (n : ℕ) → IsDecimal text n → AreNameBytes text
decimal_run text n h = all_as (λ d. nat_lt (digit_value d) 10) continues_name (λ d e. digit_word d (value_digit d e)) text h.digits

pub decimal_first : (text : List ℕ) → are_digits 10 text ≡ true → list_all is_ascii_digit (take 1 text) ≡ true
decimal_first [] h = refl
decimal_first (d ∷ ds) h = ap (λ (t : Bool). t && true) (value_digit d (both (nat_lt (digit_value d) 10) (are_digits 10 ds) h).0)

pub hexadecimal_run : (digits : List ℕ) → are_digits 16 digits ≡ true → AreNameBytes (48 ∷ 120 ∷ digits)
hexadecimal_run digits h = all_as (λ d. nat_lt (digit_value d) 16) continues_name value_word digits h

numeral_again : (text rest : List ℕ) (n : ℕ) → IsNumeral text n → n < 4294967296 → (AreNameBytes text → BeginsWithNoNameByte rest) → front (text ++ rest) ≡ token_cut (length text) (a_number n)
numeral_again text rest n (inl h) b k =
    let r = decimal_run text n h in
    number_run text rest n h.some r (k r) (decimal_first text h.digits) (number_again text n (inl h) b)
numeral_again text rest n (inr h) b k =
    let r : AreNameBytes text = rw h.bytes (hexadecimal_run h.digits h.hexadecimal) in
    let s : 0 < length text = rw h.bytes (omega arith) in
    let d : list_all is_ascii_digit (take 1 text) ≡ true = rw h.bytes refl in
    number_run text rest n s r (k r) d (number_again text n (inr h) b)

pub between : (q : ℕ) (inside rest : List ℕ) → (q ∷ inside ++ q ∷ []) ++ rest ≡ q ∷ (inside ++ q ∷ rest)
between q inside rest = ap (λ (bs : List ℕ). q ∷ bs) (append_assoc inside (q ∷ []) rest)

double_again : (inside bytes rest : List ℕ) → Holds 34 inside bytes → front ((34 ∷ inside ++ 34 ∷ []) ++ rest) ≡ token_cut (length (34 ∷ inside ++ 34 ∷ [])) (a_text bytes)
double_again inside bytes rest h =
    let v : quoted_value 34 inside ≡ Some (a_text bytes) = take_then (holds_escapes false inside) _ _ (holds_again 34 h) ∙ ap (λ (bs : List ℕ). let o : Option TokenValue = Some (a_text bs) in o) (bytes_again 34 h) in
    ap front (between 34 inside rest) ∙ front_double (inside ++ 34 ∷ rest) ∙ quoted_again 34 (a_text bytes) inside bytes rest refl h v ∙ ap (λ (n : ℕ). token_cut n (a_text bytes)) (length_text 34 inside)

single_again : (inside rest : List ℕ) (n : ℕ) → Holds 39 inside (n ∷ []) → front ((39 ∷ inside ++ 39 ∷ []) ++ rest) ≡ token_cut (length (39 ∷ inside ++ 39 ∷ [])) (a_number n)
single_again inside rest n h =
    let v : quoted_value 39 inside ≡ Some (a_number n) = ap as_number (character_again 39 n h) in
    ap front (between 39 inside rest) ∙ front_single (inside ++ 39 ∷ rest) ∙ quoted_again 39 (a_number n) inside (n ∷ []) rest refl h v ∙ ap (λ (k : ℕ). token_cut k (a_number n)) (length_text 39 inside)

pub front_again : (text rest : List ℕ) (m : TokenValue) → IsToken text m → (AreNameBytes text → BeginsWithNoNameByte rest) → front (text ++ rest) ≡ token_cut (length text) m
front_again text rest (a_name name) h k =
    let e : text ≡ name = h.0 in
    rw e (name_again name rest h.1 (subst (λ (bs : List ℕ). AreNameBytes bs → BeginsWithNoNameByte rest) e k))
front_again text rest (a_number n) (inl h) k = numeral_again text rest n h.0 h.1 k
front_again text rest (a_number n) (inr h) k = rw h.text_is (single_again h.inside rest n h.holds)
front_again text rest (a_text bytes) h k = rw h.text_is (double_again h.inside bytes rest h.holds)
front_again text rest (a_mark m) h k = rw h.0 (front_mark m rest h.1)

-- read: what stands there

-- a token at the front of bytes, of the length and meaning that a cut says
pub record TokenAt (bytes : List ℕ) (c : Cut) : Type 0 where
  pub meaning : TokenValue
  pub says : c.says ≡ Some meaning
  pub token : IsToken (take c.len bytes) meaning
  pub longest : AreNameBytes (take c.len bytes) → BeginsWithNoNameByte (drop c.len bytes)
  pub some : 0 < c.len
  pub fits : c.len ≤ length bytes

-- a comment takes all, a blank is one byte, and anything else is a token
pub data Stands : List ℕ → Cut → Type 0 where
  comment_stands : {b : ℕ} {bs : List ℕ} → is_comment b ≡ true → Stands (b ∷ bs) (record { len = suc (length bs); says = None })
  blank_stands : {b : ℕ} {bs : List ℕ} → is_blank b ≡ true → Stands (b ∷ bs) (record { len = 1; says = None })
  token_stands : {bytes : List ℕ} {c : Cut} → TokenAt bytes c → Stands bytes c

ok_cut : {a b : Cut} → ◌≡◌ {A = Result Cut Flaw} (Ok a) (Ok b) → a ≡ b
ok_cut h = cc

no_cut : {f : Flaw} {c : Cut} → ◌≡◌ {A = Result Cut Flaw} (Err f) (Ok c) → ⊥
no_cut h = cc

no_value : {m : TokenValue} → ◌≡◌ {A = Option TokenValue} None (Some m) → ⊥
no_value h = cc

same_value : {m n : TokenValue} → ◌≡◌ {A = Option TokenValue} (Some m) (Some n) → m ≡ n
same_value h = cc

token_is : (bytes text rest : List ℕ) (m : TokenValue) (len : ℕ) → bytes ≡ text ++ rest → length text ≡ len → 0 < len → IsToken text m → (AreNameBytes text → BeginsWithNoNameByte rest) → TokenAt bytes (record { len = len; says = Some m })
token_is bytes text rest m len e l s t k =
    let f : take len bytes ≡ text = ap (take len) e ∙ take_at text rest len l in
    let g : drop len bytes ≡ rest = ap (drop len) e ∙ drop_at text rest len l in
    record {
      meaning = m;
      says = refl;
      token = subst (λ (bs : List ℕ). IsToken bs m) (sym f) t;
      longest = subst₂ (λ (x y : List ℕ). AreNameBytes x → BeginsWithNoNameByte y) (sym f) (sym g) k;
      some = s;
      fits = omega (arith, l, ap length e, length-append text rest);
    }

word_stands : (b : ℕ) (t rest : List ℕ) (c : Cut) → AreNameBytes (b ∷ t) → BeginsWithNoNameByte rest → word_front b (b ∷ t) ≡ Ok c → TokenAt (b ∷ (t ++ rest)) c
word_stands b t rest c r k h =
    elim (chosen (is_ascii_digit b) (number_front (length (b ∷ t)) (numeral (b ∷ t))) (name_front (b ∷ t)) (Ok c) h) [
      | inl j ↦ number_stands (numeral (b ∷ t)) refl j.1
      | inr j ↦
          elim (chosen (nat_lt 64 (length (b ∷ t))) (flaw OutOfRange 0) (token_cut (length (b ∷ t)) (a_name (b ∷ t))) (Ok c) j.1) [
            | inl i ↦ absurd (no_cut i.1)
            | inr i ↦ name_stands (ok_cut i.1) j.0 (ltb-false 64 (length (b ∷ t)) i.0)
          ]
    ]
  where
    made : (m : TokenValue) → IsToken (b ∷ t) m → record { len = length (b ∷ t); says = Some m } ≡ c → TokenAt (b ∷ (t ++ rest)) c
    made m x e = subst (TokenAt (b ∷ (t ++ rest))) e (token_is (b ∷ (t ++ rest)) (b ∷ t) rest m (length (b ∷ t)) refl refl (omega arith) x (λ _. k))

    number_stands : (v : Result ℕ ParseKind) → numeral (b ∷ t) ≡ v → number_front (length (b ∷ t)) v ≡ Ok c → TokenAt (b ∷ (t ++ rest)) c
    number_stands (Ok n) e f = made (a_number n) (inl (number_is (b ∷ t) n (omega arith) e)) (ok_cut f)
    number_stands (Err kind) e f = absurd (no_cut f)

    name_stands : record { len = length (b ∷ t); says = Some (a_name (b ∷ t)) } ≡ c → is_ascii_digit b ≡ false → length (b ∷ t) ≤ 64 → TokenAt (b ∷ (t ++ rest)) c
    name_stands e d l =
        let k = both (continues_name b) (list_all continues_name t) r in
        let x : IsName (b ∷ t) = (word_begin b k.0 d, all_there continues_name t k.1, omega (arith, l)) in
        made (a_name (b ∷ t)) (refl, x) e

-- what two quotes of a kind hold is a token of that kind
abbrev pub Makes : ℕ → Type 0
Makes q = (inside : List ℕ) → inside_len q false inside ≡ length inside → list_all is_plain inside ≡ true → inside ≢ 92 ∷ [] → (m : TokenValue) → quoted_value q inside ≡ Some m → IsToken (q ∷ inside ++ q ∷ []) m

quoted_made : (q : ℕ) (bs inside rest : List ℕ) (m : TokenValue) (c : Cut) → continues_name q ≡ false → bs ≡ inside ++ q ∷ rest → IsToken (q ∷ inside ++ q ∷ []) m → inside_len q false bs ≡ length inside → token_cut (inside_len q false bs + 2) m ≡ Ok c → TokenAt (q ∷ bs) c
quoted_made q bs inside rest m c w b t l f =
    let x : q ∷ bs ≡ (q ∷ inside ++ q ∷ []) ++ rest = ap (λ (xs : List ℕ). q ∷ xs) b ∙ sym (between q inside rest) in
    let y : length (q ∷ inside ++ q ∷ []) ≡ inside_len q false bs + 2 = omega (arith, l, length_text q inside) in
    let no_run : AreNameBytes (q ∷ inside ++ q ∷ []) → BeginsWithNoNameByte rest = λ (r : AreNameBytes (q ∷ inside ++ q ∷ [])). absurd (true≢false (sym (both (continues_name q) (list_all continues_name (inside ++ q ∷ [])) r).0 ∙ w)) in
    subst (TokenAt (q ∷ bs)) (ok_cut f) (token_is (q ∷ bs) (q ∷ inside ++ q ∷ []) rest m (inside_len q false bs + 2) x y (omega arith) t no_run)

token_made : (len : ℕ) (o : Option TokenValue) (c : Cut) → token_or_flaw len o ≡ Ok c → (m : TokenValue) × (o ≡ Some m) × (token_cut len m ≡ Ok c)
token_made len (Some m) c h = (m, refl, h)
token_made len None c h = absurd (no_cut h)

quoted_closed : (q : ℕ) (bs : List ℕ) (c : Cut) → Makes q → continues_name q ≡ false → length (take (inside_len q false bs) bs) ≡ inside_len q false bs → inside_len q false bs ≤ length bs → list_all is_plain (take (inside_len q false bs) bs) ≡ true
    → token_or_flaw (inside_len q false bs + 2) (if inside_len q false bs == length bs then None else quoted_value q (take (inside_len q false bs) bs)) ≡ Ok c → TokenAt (q ∷ bs) c
quoted_closed q bs c tokens w size fits plain g =
    let inside = take (inside_len q false bs) bs in
    let t = token_made (inside_len q false bs + 2) (if inside_len q false bs == length bs then None else quoted_value q inside) c g in
    elim (chosen (inside_len q false bs == length bs) None (quoted_value q inside) (Some t.0) t.1) [
      | inl j ↦ absurd (no_value j.1)
      | inr j ↦
          let d = eqb-false (inside_len q false bs) (length bs) j.0 in
          let below : inside_len q false bs < length bs = omega (arith, fits, d) in
          let r = closed_by q false bs below in
          quoted_made q bs inside r.0 t.0 c w r.1 (tokens inside (inside_again q false bs ∙ sym size) plain (not_lone q bs below) t.0 j.1) (sym size) t.2
    ]

quoted_stands : (q : ℕ) (bs : List ℕ) (c : Cut) → Makes q → continues_name q ≡ false → quoted q bs ≡ Ok c → TokenAt (q ∷ bs) c
unfolding quoted
quoted_stands q bs c tokens w h =
    let len = inside_len q false bs in
    let inside = take len bs in
    let fits = inside_fits q false bs in
    let size : length inside ≡ len = omega (arith, length-take len bs, fits) in
    elim (chosen (nat_lt (prefix_len is_plain inside) len) (flaw NotAscii (prefix_len is_plain inside + 1)) (token_or_flaw (len + 2) (if len == length bs then None else quoted_value q inside)) (Ok c) h) [
      | inl j ↦ absurd (no_cut j.1)
      | inr j ↦
          let plain : list_all is_plain inside ≡ true =
          whole_prefix is_plain inside (omega (arith, size, prefix_len-le-length is_plain inside, ltb-false (prefix_len is_plain inside) len j.0)) in
          quoted_closed q bs c tokens w size fits plain j.1
    ]

pub makes_text : Makes 34
makes_text inside l p w m h =
    elim (chosen (holds_escapes false inside) (Some (a_text (text_bytes false inside))) None (Some m) h) [
      | inl j ↦
          let e : a_text (text_bytes false inside) ≡ m = same_value j.1 in
          subst (IsToken (34 ∷ inside ++ 34 ∷ [])) e (record { inside = inside; text_is = refl; holds = text_is 34 inside l p j.0 })
      | inr j ↦ absurd (no_value j.1)
    ]

number_made : (o : Option ℕ) (m : TokenValue) → as_number o ≡ Some m → (n : ℕ) × (o ≡ Some n) × (a_number n ≡ m)
number_made None m h = absurd (no_value h)
number_made (Some n) m h = (n, refl, same_value h)

pub makes_character : Makes 39
makes_character inside l p w m h =
    let n = number_made (character inside) m h in
    subst (IsToken (39 ∷ inside ++ 39 ∷ [])) n.2 (inr (record { inside = inside; text_is = refl; holds = character_is 39 n.0 inside l p w n.1 }))

pub is_quote : (b : ℕ) → (b == 34 || b == 39) ≡ true → (b ≡ 34) ⊎ (b ≡ 39)
is_quote b h = elim (either (b == 34) (b == 39) h) [ inl e ↦ inl (eqb-true b 34 e) | inr e ↦ inr (eqb-true b 39 e) ]

quote_stands : (b : ℕ) (bs : List ℕ) (c : Cut) → (b ≡ 34) ⊎ (b ≡ 39) → quoted b bs ≡ Ok c → TokenAt (b ∷ bs) c
quote_stands b bs c (inl e) h = subst (λ (q : ℕ). TokenAt (q ∷ bs) c) (sym e) (quoted_stands 34 bs c makes_text refl (ap (λ (q : ℕ). quoted q bs) (sym e) ∙ h))
quote_stands b bs c (inr e) h = subst (λ (q : ℕ). TokenAt (q ∷ bs) c) (sym e) (quoted_stands 39 bs c makes_character refl (ap (λ (q : ℕ). quoted q bs) (sym e) ∙ h))

run_stands : (b : ℕ) (bs : List ℕ) (c : Cut) → continues_name b ≡ true → word_front b (b ∷ take (prefix_len continues_name bs) bs) ≡ Ok c → TokenAt (b ∷ bs) c
run_stands b bs c w h =
    let n = prefix_len continues_name bs in
    let r : AreNameBytes (b ∷ take n bs) = ap (λ (t : Bool). t && list_all continues_name (take n bs)) w ∙ all_of_prefix continues_name bs in
    let e : b ∷ (take n bs ++ drop n bs) ≡ b ∷ bs = ap (λ (xs : List ℕ). b ∷ xs) (take-append-drop n bs) in
    subst (λ (xs : List ℕ). TokenAt xs c) e (word_stands b (take n bs) (drop n bs) c r (ends (drop n bs) (stops_prefix continues_name bs)) h)
  where
    ends : (xs : List ℕ) → Stops continues_name xs → BeginsWithNoNameByte xs
    ends [] x = tt
    ends (y ∷ ys) x = x

pub front_stands : (bytes : List ℕ) (c : Cut) → 0 < length bytes → front bytes ≡ Ok c → Stands bytes c
unfolding front
front_stands [] c s h = absurd (omega arith)
front_stands (b ∷ bs) c s h =
    elim (chosen (is_comment b) _ _ _ h) [
      | inl i ↦ subst (Stands (b ∷ bs)) (ok_cut i.1) (comment_stands i.0)
      | inr i ↦
          elim (chosen (is_blank b) _ _ _ i.1) [
            | inl j ↦ subst (Stands (b ∷ bs)) (ok_cut j.1) (blank_stands j.0)
            | inr j ↦
                elim (chosen (not (is_plain b)) _ _ _ j.1) [
                  | inl k ↦ absurd (no_cut k.1)
                  | inr k ↦
                      elim (chosen (continues_name b) _ _ _ k.1) [
                        | inl l ↦ token_stands (run_stands b bs c l.0 (ap (word_front b) (sym (run_at b bs l.0)) ∙ l.1))
                        | inr l ↦
                            elim (chosen (is_mark b) _ _ _ l.1) [
                              | inl m ↦
                                  let t = token_is (b ∷ bs) (b ∷ []) bs (a_mark b) 1 refl refl (omega arith) (refl, m.0)
                                  (λ (r : AreNameBytes (b ∷ [])). absurd (true≢false (sym (both (continues_name b) true r).0 ∙ l.0))) in
                                  token_stands (subst (TokenAt (b ∷ bs)) (ok_cut m.1) t)
                              | inr m ↦
                                  elim (chosen (b == 34 || b == 39) _ _ _ m.1) [
                                    | inl n ↦ token_stands (quote_stands b bs c (is_quote b n.0) n.1)
                                    | inr n ↦ absurd (no_cut n.1)
                                  ]
                            ]
                      ]
                ]
          ]
    ]

pub front_comment : (b : ℕ) (bs : List ℕ) → is_comment b ≡ true → front (b ∷ bs) ≡ gap (length (b ∷ bs))
unfolding front
front_comment b bs h = take_then (is_comment b) _ _ h

blank_no_comment : (b : ℕ) → is_blank b ≡ true → is_comment b ≡ false
blank_no_comment b h = elim (either (b == space) (b == tab) h) [ inl e ↦ ap is_comment (eqb-true b space e) | inr e ↦ ap is_comment (eqb-true b tab e) ]

pub front_blank : (b : ℕ) (bs : List ℕ) → is_blank b ≡ true → front (b ∷ bs) ≡ gap 1
unfolding front
front_blank b bs h = take_else (is_comment b) _ _ (blank_no_comment b h) ∙ take_then (is_blank b) _ _ h
