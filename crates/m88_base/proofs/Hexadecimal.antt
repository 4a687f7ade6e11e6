-- A word and its eight digits: each tells the other.
use Rattle.std.proofs.Common.{◌≡◌, ℕ, ◌<◌, ◌^◌, ◌*◌, ◌+◌, ◌/◌, ◌%◌, ◌==◌, List, [], ◌∷◌, Bool, true, false, Some, None, length, refl, ap, sym, ◌∙◌, arith}
use Rattle.std.specs.Prelude.{IfSome, if◌then◌else◌}
use Rattle.std.specs.Char.{digit_value, is_digit}
use Rattle.std.specs.List.{list_all}
use Rattle.std.specs.Str.Parse.{digits_value}
use Rattle.std.proofs.lemmas.Bool.{and_parts, eqb-true}
use Rattle.std.proofs.lemmas.Bool.Decides.{nat_tests}
use Rattle.m88_base.specs.Hex.{hex_digit, hex8, hex8_of, is_hex_digit, is_hex8}
use Rattle.m88_base.specs.Numerals.{number_in}
use Rattle.m88_base.proofs.Digits.{tells, are_digits}

-- what a digit stands for, and the digit of it
value_of_digit : (d : ℕ) → d < 16 → digit_value (hex_digit d) ≡ d
value_of_digit d h = grind (arith, nat_tests)

is_one : (d : ℕ) → d < 16 → is_hex_digit (hex_digit d) ≡ true
is_one d h = grind (arith, nat_tests)

in_base : (d : ℕ) → d < 16 → is_digit (hex_digit d) 16 ≡ true
in_base d h = grind (arith, nat_tests)

below_16 : (b : ℕ) → is_hex_digit b ≡ true → digit_value b < 16
below_16 b h = grind (arith, nat_tests)

digit_of_value : (b : ℕ) → is_hex_digit b ≡ true → b ≡ hex_digit (digit_value b)
digit_of_value b h = grind (arith, nat_tests)

-- a text of eight digits by what they stand for
record Eight (text : List ℕ) : Type 0 where
  a : ℕ
  b : ℕ
  c : ℕ
  d : ℕ
  e : ℕ
  f : ℕ
  g : ℕ
  h : ℕ
  small : (a < 16) × (b < 16) × (c < 16) × (d < 16) × (e < 16) × (f < 16) × (g < 16) × (h < 16)
  is : text ≡ hex_digit a ∷ hex_digit b ∷ hex_digit c ∷ hex_digit d ∷ hex_digit e ∷ hex_digit f ∷ hex_digit g ∷ hex_digit h ∷ []

eight : (text : List ℕ) → is_hex8 text ≡ true → Eight text
eight [] k = absurd cc
eight (a ∷ []) k = absurd cc
eight (a ∷ b ∷ []) k = absurd cc
eight (a ∷ b ∷ c ∷ []) k = absurd cc
eight (a ∷ b ∷ c ∷ d ∷ []) k = absurd cc
eight (a ∷ b ∷ c ∷ d ∷ e ∷ []) k = absurd cc
eight (a ∷ b ∷ c ∷ d ∷ e ∷ f ∷ []) k = absurd cc
eight (a ∷ b ∷ c ∷ d ∷ e ∷ f ∷ g ∷ []) k = absurd cc
eight (a ∷ b ∷ c ∷ d ∷ e ∷ f ∷ g ∷ h ∷ []) k =
    let k1 = and_parts (is_hex_digit a) (list_all is_hex_digit (b ∷ c ∷ d ∷ e ∷ f ∷ g ∷ h ∷ [])) k in
    let k2 = and_parts (is_hex_digit b) (list_all is_hex_digit (c ∷ d ∷ e ∷ f ∷ g ∷ h ∷ [])) k1.1 in
    let k3 = and_parts (is_hex_digit c) (list_all is_hex_digit (d ∷ e ∷ f ∷ g ∷ h ∷ [])) k2.1 in
    let k4 = and_parts (is_hex_digit d) (list_all is_hex_digit (e ∷ f ∷ g ∷ h ∷ [])) k3.1 in
    let k5 = and_parts (is_hex_digit e) (list_all is_hex_digit (f ∷ g ∷ h ∷ [])) k4.1 in
    let k6 = and_parts (is_hex_digit f) (list_all is_hex_digit (g ∷ h ∷ [])) k5.1 in
    let k7 = and_parts (is_hex_digit g) (list_all is_hex_digit (h ∷ [])) k6.1 in
    let k8 = and_parts (is_hex_digit h) true k7.1 in
    record {
      a = digit_value a;
      b = digit_value b;
      c = digit_value c;
      d = digit_value d;
      e = digit_value e;
      f = digit_value f;
      g = digit_value g;
      h = digit_value h;
      small = (below_16 a k1.0, below_16 b k2.0, below_16 c k3.0, below_16 d k4.0, below_16 e k5.0, below_16 f k6.0, below_16 g k7.0, below_16 h k8.0);
      is = rw (
        ← digit_of_value a k1.0,
        ← digit_of_value b k2.0,
        ← digit_of_value c k3.0,
        ← digit_of_value d k4.0,
        ← digit_of_value e k5.0,
        ← digit_of_value f k6.0,
        ← digit_of_value g k7.0,
        ← digit_of_value h k8.0,
      ) refl;
    }
eight (a ∷ b ∷ c ∷ d ∷ e ∷ f ∷ g ∷ h ∷ i ∷ more) k =
    let text : List ℕ = a ∷ b ∷ c ∷ d ∷ e ∷ f ∷ g ∷ h ∷ i ∷ more in
    let l : length text ≡ 8 = eqb-true (length text) 8 (and_parts (length text == 8) (list_all is_hex_digit text) k).0 in
    absurd (omega (arith, l))

-- the word of eight digits by what they stand for
abbrev word : ℕ → ℕ → ℕ → ℕ → ℕ → ℕ → ℕ → ℕ → ℕ
word a b c d e f g h = ((((((a * 16 + b) * 16 + c) * 16 + d) * 16 + e) * 16 + f) * 16 + g) * 16 + h

value_of_word : {text : List ℕ} (k : Eight text) → digits_value 16 text ≡ word k.a k.b k.c k.d k.e k.f k.g k.h
value_of_word k =
    ap (digits_value 16) k.is
    ∙ rw (
      value_of_digit k.a k.small.0,
      value_of_digit k.b k.small.1,
      value_of_digit k.c k.small.2,
      value_of_digit k.d k.small.3,
      value_of_digit k.e k.small.4,
      value_of_digit k.f k.small.5,
      value_of_digit k.g k.small.6,
      value_of_digit k.h k.small.7,
    ) (omega arith)

below_word : {text : List ℕ} (k : Eight text) → word k.a k.b k.c k.d k.e k.f k.g k.h < 2 ^ 32
below_word k = let s = k.small in omega (arith, s)

-- the digits of a word are those that it is made of
digits_of_word : (n a b c d e f g h : ℕ) → n ≡ word a b c d e f g h
    → (a < 16) × (b < 16) × (c < 16) × (d < 16) × (e < 16) × (f < 16) × (g < 16) × (h < 16)
    → hex8 n ≡ hex_digit a ∷ hex_digit b ∷ hex_digit c ∷ hex_digit d ∷ hex_digit e ∷ hex_digit f ∷ hex_digit g ∷ hex_digit h ∷ []
digits_of_word n a b c d e f g h is s =
    let a_is : n / 268435456 % 16 ≡ a = omega (arith, s, is) in
    let b_is : n / 16777216 % 16 ≡ b = omega (arith, s, is) in
    let c_is : n / 1048576 % 16 ≡ c = omega (arith, s, is) in
    let d_is : n / 65536 % 16 ≡ d = omega (arith, s, is) in
    let e_is : n / 4096 % 16 ≡ e = omega (arith, s, is) in
    let f_is : n / 256 % 16 ≡ f = omega (arith, s, is) in
    let g_is : n / 16 % 16 ≡ g = omega (arith, s, is) in
    let h_is : n / 1 % 16 ≡ h = omega (arith, s, is) in
    rw (a_is, b_is, c_is, d_is, e_is, f_is, g_is, h_is) refl

-- the text of eight digits is that of the word that they write
pub text_of_word : (text : List ℕ) → is_hex8 text ≡ true → text ≡ hex8 (digits_value 16 text)
text_of_word text is =
    let k = eight text is in
    k.is ∙ sym (digits_of_word (digits_value 16 text) k.a k.b k.c k.d k.e k.f k.g k.h (value_of_word k) k.small)

-- reading them as digits of any count finds the same word
pub read_as_digits : (text : List ℕ) → is_hex8 text ≡ true → number_in 16 4294967295 text ≡ Some (digits_value 16 text)
read_as_digits text is =
    let k = eight text is in
    let below : digits_value 16 text < 2 ^ 32 = rw (value_of_word k) (below_word k) in
    let digits : are_digits 16 text ≡ true = ap (are_digits 16) k.is
    ∙ rw (
      in_base k.a k.small.0,
      in_base k.b k.small.1,
      in_base k.c k.small.2,
      in_base k.d k.small.3,
      in_base k.e k.small.4,
      in_base k.f k.small.5,
      in_base k.g k.small.6,
      in_base k.h k.small.7,
    ) refl in
    let some : length text ≡ 8 = ap length k.is in
    tells 16 4294967295 (digits_value 16 text) text (omega (arith, some)) digits refl (omega (arith, below))

-- the eight digits of a word, each below 16
eight_of : (n : ℕ) → Eight (hex8 n)
eight_of n = record {
  a = n / 268435456 % 16;
  b = n / 16777216 % 16;
  c = n / 1048576 % 16;
  d = n / 65536 % 16;
  e = n / 4096 % 16;
  f = n / 256 % 16;
  g = n / 16 % 16;
  h = n / 1 % 16;
  small = (omega arith, omega arith, omega arith, omega arith, omega arith, omega arith, omega arith, omega arith);
  is = refl;
}

is_hex8-eight : {text : List ℕ} (k : Eight text) → is_hex8 text ≡ true
is_hex8-eight k =
    ap is_hex8 k.is
    ∙ rw (
      is_one k.a k.small.0,
      is_one k.b k.small.1,
      is_one k.c k.small.2,
      is_one k.d k.small.3,
      is_one k.e k.small.4,
      is_one k.f k.small.5,
      is_one k.g k.small.6,
      is_one k.h k.small.7,
    ) refl

pub is_hex8-hex8 : (n : ℕ) → is_hex8 (hex8 n) ≡ true
is_hex8-hex8 n = is_hex8-eight (eight_of n)

word_of_digits : (n : ℕ) → n < 2 ^ 32
    → word (n / 268435456 % 16) (n / 16777216 % 16) (n / 1048576 % 16) (n / 65536 % 16) (n / 4096 % 16) (n / 256 % 16) (n / 16 % 16) (n / 1 % 16) ≡ n
word_of_digits n small = omega (arith, small)

pub value_of_hex8 : (n : ℕ) → n < 2 ^ 32 → digits_value 16 (hex8 n) ≡ n
unfolding eight_of
value_of_hex8 n small = value_of_word (eight_of n) ∙ word_of_digits n small

-- the laws: what was written is read again, and what is read was written
pub hex8_of-hex8 : (n : ℕ) → n < 2 ^ 32 → hex8_of (hex8 n) ≡ Some n
hex8_of-hex8 n small = rw (is_hex8-hex8 n, value_of_hex8 n small) refl

pub hex8-hex8_of : (text : List ℕ) → IfSome (hex8_of text) (λ n. (text ≡ hex8 n) × (n < 2 ^ 32))
hex8-hex8_of text = by_test (is_hex8 text) refl
  where
    by_test : (t : Bool) → is_hex8 text ≡ t → IfSome (if t then Some (digits_value 16 text) else None) (λ n. (text ≡ hex8 n) × (n < 2 ^ 32))
    by_test true is = (text_of_word text is, let k = eight text is in rw (value_of_word k) (below_word k))
    by_test false is = tt
