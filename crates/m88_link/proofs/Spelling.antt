-- The words of an object text, each written and read: what was written is read again, and what is read was written.
use Rattle.std.proofs.Common.{◌≡◌, ℕ, ◌<◌, ◌≤◌, ◌^◌, Bool, true, false, List, [], ◌∷◌, ◌++◌, length, refl, sym, ap, ◌∙◌, subst, inl, inr, arith, nat_le}
use Rattle.std.specs.Prelude.{◌⊎◌, Option, None, Some, ◌==◌, ◌&&◌, nat_lt, codes, decimal, bytes_eq, option_map, IfSome, if◌then◌else◌}
use Rattle.std.specs.Char.{digit_value, is_digit}
use Rattle.std.specs.List.{list_all}
use Rattle.std.specs.Str.Parse.{AllDigits, digits_value}
use Rattle.std.proofs.lemmas.Bool.Decides.{nat_tests}
use Rattle.std.proofs.lemmas.Bool.{and_parts, leb-true, lt-ltb}
use Rattle.std.proofs.lemmas.Fmt.{decimal_is_IsNumeral}
use Rattle.std.proofs.lemmas.Option.{option_and_then_some, some_pair_parts}
use Rattle.std.proofs.lemmas.Slice.Eq.{bytes_eq-Decides}
use Rattle.m88_base.specs.Hex.{hex8, hex8_of, is_hex_digit}
use Rattle.m88_base.specs.Name.{IsName, begins_name, continues_name}
use Rattle.m88_base.specs.Numerals.{has_no_needless_zero, is_numeral, number_in}
use Rattle.m88_base.specs.declared.fixup.Kind.{Kind}
use Rattle.m88_base.specs.declared.fixup.Kind.TheVariants.{Hi16, Lo16, Pc26, Pc16, Abs32}
use Rattle.m88_base.proofs.Laws.{cut_found, decimal_found, decimal_needed, decimal_told, hex8-hex8_of, hex8_of-hex8, is_hex8-hex8, is_other, lacks_by, split_first}
use Rattle.m88_link.specs.ObjectText.{kind_word, section_word}
use Rattle.m88_link.specs.Inside.Rows.{◌>>=◌, first_word, hex8_word, is_name_text, field_kind_of, kind_word_of, name_written, name_word, decimal_value, number_word, scope_of, scope_word, symbol_section_of, section_word_of, word_by}
use Rattle.m88_link.proofs.Divided.{is_named, name_is}
use Rattle.m88_base.specs.Cut.{lacks}

-- the bytes are no blank and no LF
abbrev pub IsWord : List ℕ → Type 0
IsWord text = (lacks 32 text ≡ true) × (lacks 10 text ≡ true)

-- what passes a test that blanks and LFs don't pass
word_by_test : (p : ℕ → Bool) → ((b : ℕ) → p b ≡ true → is_other 32 b ≡ true) → ((b : ℕ) → p b ≡ true → is_other 10 b ≡ true)
    → (text : List ℕ) → list_all p text ≡ true → IsWord text
word_by_test p no_blank no_end text h = (lacks_by p 32 no_blank text h, lacks_by p 10 no_end text h)

-- names
name_first : (b : ℕ) (bs : List ℕ) → is_name_text (b ∷ bs) ≡ true → list_all continues_name (b ∷ bs) ≡ true
name_first b bs e =
    let k = and_parts (begins_name b && list_all continues_name bs) (nat_lt (length bs) 64) e in
    let l = and_parts (begins_name b) (list_all continues_name bs) k.0 in
    grind (arith, nat_tests, l)

named_all : (text : List ℕ) → is_name_text text ≡ true → list_all continues_name text ≡ true
named_all [] e = absurd cc
named_all (b ∷ bs) e = name_first b bs e

pub name_is_word : (text : List ℕ) → IsName text → IsWord text
name_is_word text h =
    word_by_test continues_name (λ b e. grind (arith, nat_tests)) (λ b e. grind (arith, nat_tests)) text (named_all text (name_is text h))

pub name_of-name : (text : List ℕ) → IsName text → name_written text ≡ Some text
name_of-name text h = ap (λ (t : Bool). if t then Some text else None) (name_is text h)

pub name_found : (text name : List ℕ) → name_written text ≡ Some name → (text ≡ name) × IsName name
name_found text name e = by_test (is_name_text text) refl e
  where
    by_test : (t : Bool) → is_name_text text ≡ t → (if t then Some text else None) ≡ Some name → (text ≡ name) × IsName name
    by_test true is e = let same : text ≡ name = cc in (same, subst IsName same (is_named text is))
    by_test false is e = absurd cc

-- eight digits
pub hex8_is_word : (n : ℕ) → IsWord (hex8 n)
hex8_is_word n =
    word_by_test is_hex_digit (λ b e. grind (arith, nat_tests)) (λ b e. grind (arith, nat_tests)) (hex8 n)
    (and_parts (length (hex8 n) == 8) (list_all is_hex_digit (hex8 n)) (is_hex8-hex8 n)).1

pub hex8_found : (text : List ℕ) (n : ℕ) → hex8_of text ≡ Some n → (text ≡ hex8 n) × (n < 2 ^ 32)
hex8_found text n e = subst (λ o. IfSome o (λ n. (text ≡ hex8 n) × (n < 2 ^ 32))) e (hex8-hex8_of text)

-- decimal numbers
digits_all : (ds : List ℕ) → AllDigits 10 ds → list_all (λ b. is_digit b 10) ds ≡ true
digits_all [] h = refl
digits_all (d ∷ ds) h = ap (λ (t : Bool). t && list_all (λ b. is_digit b 10) ds) (lt-ltb (digit_value d) 10 h.0) ∙ digits_all ds h.1

pub decimal_is_word : (n : ℕ) → n < 2 ^ 32 → IsWord (decimal n)
decimal_is_word n small =
    word_by_test (λ b. is_digit b 10) (λ b e. grind (arith, nat_tests)) (λ b e. grind (arith, nat_tests)) (decimal n)
    (digits_all (decimal n) (decimal_is_IsNumeral n (omega arith)).0.1)

pub number_of-decimal : (n : ℕ) → n < 2 ^ 32 → decimal_value (decimal n) ≡ Some n
number_of-decimal n small =
    ap (λ (t : Bool). if t then number_in 10 4294967295 (decimal n) else None) (decimal_needed n (omega arith))
    ∙ decimal_told 4294967295 n (omega arith) (omega arith)

bounded : (a b : Bool) (v n : ℕ) → (if a && b then Some v else None) ≡ Some n → (b ≡ true) × (v ≡ n)
bounded true true v n e = (refl, cc)
bounded true false v n e = absurd cc
bounded false b v n e = absurd cc

pub number_found : (text : List ℕ) (n : ℕ) → decimal_value text ≡ Some n → (text ≡ decimal n) × (n < 2 ^ 32)
number_found text n e = by_test (has_no_needless_zero text) refl e
  where
    by_test : (t : Bool) → has_no_needless_zero text ≡ t → (if t then number_in 10 4294967295 text else None) ≡ Some n
        → (text ≡ decimal n) × (n < 2 ^ 32)
    by_test true is e =
        let k = bounded (is_numeral 10 text) (nat_le (digits_value 10 text) 4294967295) (digits_value 10 text) n e in
        let below : digits_value 10 text ≤ 4294967295 = leb-true _ _ k.0 in
        (decimal_found 4294967295 text (Some n) (omega arith) is (sym e), omega (arith, below, k.1))
    by_test false is e = absurd cc

-- a word and the blank behind it
pub word_read : {A : Type 0} (of : List ℕ → Option A) (word rest : List ℕ) (a : A) → lacks 32 word ≡ true → of word ≡ Some a
    → word_by of (word ++ 32 ∷ rest) ≡ Some (a, rest)
word_read of word rest a lacking e =
    ap (λ o. o >>= λ p. (of p.0 >>= λ a. Some (a, p.1))) (split_first 32 word rest lacking)
    ∙ ap (λ o. o >>= λ a. Some (a, rest)) e

-- a word that was read, and the blank behind it
pub record WordIs {A : Type 0} (of : List ℕ → Option A) (text : List ℕ) (a : A) (rest : List ℕ) : Type 0 where
  pub word : List ℕ
  pub text_is : text ≡ word ++ 32 ∷ rest
  pub says : of word ≡ Some a

word_told : {A : Type 0} (of : List ℕ → Option A) (text word rest rest' : List ℕ) (a b : A) → text ≡ word ++ 32 ∷ rest → of word ≡ Some b
    → ◌≡◌ {A = Option (A × List ℕ)} (Some (b, rest)) (Some (a, rest')) → WordIs of text a rest'
word_told of text word rest rest' a b is says e =
    let k = some_pair_parts b a rest rest' e in
    record { word = word; text_is = is ∙ ap (λ l. word ++ 32 ∷ l) k.1; says = says ∙ ap Some k.0 }

pub word_back : {A : Type 0} (of : List ℕ → Option A) (text rest : List ℕ) (a : A) → word_by of text ≡ Some (a, rest) → WordIs of text a rest
word_back of text rest a e =
    option_and_then_some (λ p. of p.0 >>= λ a. Some (a, p.1)) (first_word text) (a, rest) e (λ p found f.
    option_and_then_some (λ a. Some (a, p.1)) (of p.0) (a, rest) f (λ b says g.
    word_told of text p.0 p.1 rest a b (cut_found 32 text p found).text_is says g))

-- the words of each kind, read
module _ (rest : List ℕ) where
  pub name_read : (name : List ℕ) → IsName name → name_word (name ++ 32 ∷ rest) ≡ Some (name, rest)
  unfolding name_word
  name_read name h = word_read name_written name rest name (name_is_word name h).0 (name_of-name name h)

  pub hex8_read : (n : ℕ) → n < 2 ^ 32 → hex8_word (hex8 n ++ 32 ∷ rest) ≡ Some (n, rest)
  unfolding hex8_word
  hex8_read n small = word_read hex8_of (hex8 n) rest n (hex8_is_word n).0 (hex8_of-hex8 n small)

  pub number_read : (n : ℕ) → n < 2 ^ 32 → number_word (decimal n ++ 32 ∷ rest) ≡ Some (n, rest)
  unfolding number_word
  number_read n small = word_read decimal_value (decimal n) rest n (decimal_is_word n small).0 (number_of-decimal n small)

-- and what they were
pub name_back : (text name rest : List ℕ) → name_word text ≡ Some (name, rest) → (text ≡ name ++ 32 ∷ rest) × IsName name
unfolding name_word
name_back text name rest e =
    let k = word_back name_written text rest name e in
    let n = name_found k.word name k.says in
    (k.text_is ∙ ap (λ l. l ++ 32 ∷ rest) n.0, n.1)

pub hex8_back : (text rest : List ℕ) (n : ℕ) → hex8_word text ≡ Some (n, rest) → (text ≡ hex8 n ++ 32 ∷ rest) × (n < 2 ^ 32)
unfolding hex8_word
hex8_back text rest n e =
    let k = word_back hex8_of text rest n e in
    let h = hex8_found k.word n k.says in
    (k.text_is ∙ ap (λ l. l ++ 32 ∷ rest) h.0, h.1)

pub number_back : (text rest : List ℕ) (n : ℕ) → number_word text ≡ Some (n, rest) → (text ≡ decimal n ++ 32 ∷ rest) × (n < 2 ^ 32)
unfolding number_word
number_back text rest n e =
    let k = word_back decimal_value text rest n e in
    let h = number_found k.word n k.says in
    (k.text_is ∙ ap (λ l. l ++ 32 ∷ rest) h.0, h.1)

-- the words for a scope, a section and a kind
abbrev pub scope_text : Bool → List ℕ
scope_text true = codes "g"
scope_text false = codes "l"

pub scope_read : (scope : Bool) (rest : List ℕ) → scope_word (scope_text scope ++ 32 ∷ rest) ≡ Some (scope, rest)
unfolding scope_word
scope_read true rest = word_read scope_of (codes "g") rest true refl refl
scope_read false rest = word_read scope_of (codes "l") rest false refl refl

pub kind_read : (kind : Kind) (rest : List ℕ) → kind_word_of (kind_word kind ++ 32 ∷ rest) ≡ Some (kind, rest)
unfolding kind_word_of
kind_read Hi16 rest = word_read field_kind_of (codes "hi16") rest Hi16 refl refl
kind_read Lo16 rest = word_read field_kind_of (codes "lo16") rest Lo16 refl refl
kind_read Pc26 rest = word_read field_kind_of (codes "pc26") rest Pc26 refl refl
kind_read Pc16 rest = word_read field_kind_of (codes "pc16") rest Pc16 refl refl
kind_read Abs32 rest = word_read field_kind_of (codes "abs32") rest Abs32 refl refl

pub same_text : (xs ys : List ℕ) → bytes_eq xs ys ≡ true → xs ≡ ys
same_text xs ys e = (bytes_eq-Decides xs ys).0 e

pub if_same : {A : Type 0} (b : Bool) (x y : A) (o : Option A) → (if b then Some x else o) ≡ Some y → ((b ≡ true) × (x ≡ y)) ⊎ ((b ≡ false) × (o ≡ Some y))
if_same true x y o e = inl (refl, cc)
if_same false x y o e = inr (refl, e)

scope_found : (text : List ℕ) (scope : Bool) → scope_of text ≡ Some scope → text ≡ scope_text scope
scope_found text scope e = elim (if_same (bytes_eq text (codes "g")) true scope _ e) [
  | inl here ↦ same_text text (codes "g") here.0 ∙ ap scope_text here.1
  | inr later ↦ elim (if_same (bytes_eq text (codes "l")) false scope _ later.1) [
    | inl here ↦ same_text text (codes "l") here.0 ∙ ap scope_text here.1
    | inr never ↦ absurd (let h = never.1 in cc)
  ]
]

pub scope_back : (text rest : List ℕ) (scope : Bool) → scope_word text ≡ Some (scope, rest) → text ≡ scope_text scope ++ 32 ∷ rest
unfolding scope_word
scope_back text rest scope e =
    let k = word_back scope_of text rest scope e in
    k.text_is ∙ ap (λ l. l ++ 32 ∷ rest) (scope_found k.word scope k.says)

kind_found : (text : List ℕ) (kind : Kind) → field_kind_of text ≡ Some kind → text ≡ kind_word kind
kind_found text kind e = elim (if_same (bytes_eq text (codes "hi16")) Hi16 kind _ e) [
  | inl here ↦ same_text text (codes "hi16") here.0 ∙ ap kind_word here.1
  | inr later ↦ elim (if_same (bytes_eq text (codes "lo16")) Lo16 kind _ later.1) [
    | inl here ↦ same_text text (codes "lo16") here.0 ∙ ap kind_word here.1
    | inr later ↦ elim (if_same (bytes_eq text (codes "pc26")) Pc26 kind _ later.1) [
      | inl here ↦ same_text text (codes "pc26") here.0 ∙ ap kind_word here.1
      | inr later ↦ elim (if_same (bytes_eq text (codes "pc16")) Pc16 kind _ later.1) [
        | inl here ↦ same_text text (codes "pc16") here.0 ∙ ap kind_word here.1
        | inr later ↦ elim (if_same (bytes_eq text (codes "abs32")) Abs32 kind _ later.1) [
          | inl here ↦ same_text text (codes "abs32") here.0 ∙ ap kind_word here.1
          | inr never ↦ absurd (let h = never.1 in cc)
        ]
      ]
    ]
  ]
]

pub kind_back : (text rest : List ℕ) (kind : Kind) → kind_word_of text ≡ Some (kind, rest) → text ≡ kind_word kind ++ 32 ∷ rest
unfolding kind_word_of
kind_back text rest kind e =
    let k = word_back field_kind_of text rest kind e in
    k.text_is ∙ ap (λ l. l ++ 32 ∷ rest) (kind_found k.word kind k.says)

-- a section's number is not `abs`
first_digit : (n : ℕ) → n < 2 ^ 32 → bytes_eq (decimal n) (codes "abs") ≡ false
first_digit n small = not_abs (decimal n) (digits_all (decimal n) (decimal_is_IsNumeral n (omega arith)).0.1)
  where
    not_abs : (ds : List ℕ) → list_all (λ b. is_digit b 10) ds ≡ true → bytes_eq ds (codes "abs") ≡ false
    not_abs [] h = refl
    not_abs (d ∷ ds) h =
        let k = and_parts (is_digit d 10) (list_all (λ b. is_digit b 10) ds) h in
        let e : (d == 97) ≡ false = grind (arith, nat_tests, k.0) in
        ap (λ (t : Bool). t && bytes_eq ds (98 ∷ 115 ∷ [])) e

pub section_read : (section : Option ℕ) (rest : List ℕ) → IfSome section (λ k. k < 2 ^ 32)
    → section_word_of (section_word section ++ 32 ∷ rest) ≡ Some (section, rest)
unfolding section_word_of
section_read None rest h = word_read symbol_section_of (codes "abs") rest None refl refl
section_read (Some k) rest h =
    word_read symbol_section_of (decimal k) rest (Some k) (decimal_is_word k h).0
    (ap (λ (t : Bool). if t then Some None else option_map Some (decimal_value (decimal k))) (first_digit k h) ∙ ap (option_map Some) (number_of-decimal k h))

section_found : (text : List ℕ) (section : Option ℕ) → symbol_section_of text ≡ Some section
    → (text ≡ section_word section) × IfSome section (λ k. k < 2 ^ 32)
section_found text section e = elim (if_same (bytes_eq text (codes "abs")) None section _ e) [
  | inl here ↦ absent section here.1 (same_text text (codes "abs") here.0)
  | inr later ↦ numbered (decimal_value text) refl section later.1
]
  where
    absent : (section : Option ℕ) → None ≡ section → text ≡ codes "abs" → (text ≡ section_word section) × IfSome section (λ k. k < 2 ^ 32)
    absent None e h = (h, tt)
    absent (Some k) e h = absurd cc

    numbered : (o : Option ℕ) → decimal_value text ≡ o → (section : Option ℕ) → option_map Some o ≡ Some section
        → (text ≡ section_word section) × IfSome section (λ k. k < 2 ^ 32)
    numbered None is section h = absurd cc
    numbered (Some n) is None h = absurd (let k : Some n ≡ None = cc in cc)
    numbered (Some n) is (Some k) h =
        let same : n ≡ k = cc in
        let f = number_found text n is in
        (f.0 ∙ ap decimal same, omega (arith, f.1, same))

pub section_back : (text rest : List ℕ) (section : Option ℕ) → section_word_of text ≡ Some (section, rest)
    → (text ≡ section_word section ++ 32 ∷ rest) × IfSome section (λ k. k < 2 ^ 32)
unfolding section_word_of
section_back text rest section e =
    let k = word_back symbol_section_of text rest section e in
    let h = section_found k.word section k.says in
    (k.text_is ∙ ap (λ l. l ++ 32 ∷ rest) h.0, h.1)
