-- A text says one set of absent pages.
use Rattle.std.proofs.Common.{◌≡◌, ℕ, Option, Some, None, ◌≤◌, ◌<◌, ◌+◌, List, [], ◌∷◌, ◌++◌, Bool, codes, inl, inr, length, get_or, refl, ap, sym, ◌∙◌, arith, subst, append_assoc, length-append}
use Rattle.std.specs.Prelude.{IfSome}
use Rattle.std.specs.Str.Parse.{AllDigits, IsNumeral, digits_value}
use Rattle.std.specs.Char.{digit_value}
use Rattle.std.proofs.lemmas.List.{append_cancel_left}
use Rattle.m88_base.specs.Cut.{Lacks}
use Rattle.m88_base.specs.Pages.{no_page, every_page}
use Rattle.m88_session.specs.Numbers.{IsShortNumber}
use Rattle.m88_commands.specs.Pages.{ArePageNumbers, IsAbsent, IsPageNumber, comma, in_decimal, in_hexadecimal, more_numbers, most_numbers, one_number}
use Rattle.m88_base.proofs.Laws.{cut_once, none_in_digits, not_cut}

-- the first digit
first_digit : (base : ℕ) (text : List ℕ) → IsNumeral base text → digit_value (get_or text 0 0) < base
first_digit base [] h = absurd (omega (arith, h.0))
first_digit base (d ∷ ds) h = h.1.0

-- the text of a number begins with a decimal digit
page_first : (text : List ℕ) (n : ℕ) → IsPageNumber text n → digit_value (get_or text 0 0) < 10
page_first text n (in_decimal h below) = first_digit 10 text h.numeral
page_first text n (in_hexadecimal digits is h below) =
    let first : digit_value (get_or text 0 0) ≡ digit_value 48 = ap (λ (t : List ℕ). digit_value (get_or t 0 0)) is in
    omega (arith, first)

-- and has no comma
pub page_no_comma : (text : List ℕ) (n : ℕ) → IsPageNumber text n → Lacks comma text
page_no_comma text n (in_decimal h below) = none_in_digits comma 10 text (omega arith) h.numeral.1
page_no_comma text n (in_hexadecimal digits is h below) = subst (Lacks comma) (sym is) (none_in_digits comma 16 digits (omega arith) h.numeral.1)

-- a text with digits behind `0x` is none of decimal digits
not_decimal : (text digits : List ℕ) → text ≡ codes "0x" ++ digits → AllDigits 10 text → ⊥
not_decimal text digits is all =
    let x : AllDigits 10 (codes "0x" ++ digits) = subst (AllDigits 10) is all in
    absurd (omega (arith, x.1.0))

-- a text writes one page number
pub same_page : (text : List ℕ) (m n : ℕ) → IsPageNumber text m → IsPageNumber text n → m ≡ n
same_page text m n (in_decimal a below) (in_decimal b under) = a.value ∙ sym b.value
same_page text m n (in_decimal a below) (in_hexadecimal digits is b under) = absurd (not_decimal text digits is a.numeral.1)
same_page text m n (in_hexadecimal digits is a below) (in_decimal b under) = absurd (not_decimal text digits is b.numeral.1)
same_page text m n (in_hexadecimal digits is a below) (in_hexadecimal others is_too b under) =
    let same : digits ≡ others = append_cancel_left (codes "0x") digits others (sym is ∙ is_too) in
    a.value ∙ ap (digits_value 16) same ∙ sym b.value

-- what is read behind `0x`, and of decimal digits
pub hexadecimal_found : (text digits : List ℕ) (o : Option ℕ) → text ≡ codes "0x" ++ digits → IfSome o (IsShortNumber 16 5 digits)
    → IfSome o (λ n. n ≤ 0xFFFFF) → IfSome o (IsPageNumber text)
hexadecimal_found text digits None is found bound = tt
hexadecimal_found text digits (Some n) is found bound = in_hexadecimal digits is found (omega (arith, bound))

pub decimal_found : (text : List ℕ) (o : Option ℕ) → IfSome o (IsShortNumber 10 7 text) → IfSome o (λ n. n ≤ 0xFFFFF) → IfSome o (IsPageNumber text)
decimal_found text None found bound = tt
decimal_found text (Some n) found bound = in_decimal found (omega (arith, bound))

pub hexadecimal_told : (text digits : List ℕ) (n : ℕ) (o : Option ℕ) → text ≡ codes "0x" ++ digits
    → ((k : ℕ) → k ≤ 0xFFFFF → IsShortNumber 16 5 digits k → o ≡ Some k) → IsPageNumber text n → o ≡ Some n
hexadecimal_told text digits n o is only (in_decimal h below) = absurd (not_decimal text digits is h.numeral.1)
hexadecimal_told text digits n o is only (in_hexadecimal others is_too h below) =
    let same : others ≡ digits = append_cancel_left (codes "0x") others digits (sym is_too ∙ is) in
    only n (omega (arith, below)) (subst (λ ds. IsShortNumber 16 5 ds n) same h)

pub decimal_told : (text : List ℕ) (n : ℕ) (o : Option ℕ) → ((digits : List ℕ) → text ≡ codes "0x" ++ digits → ⊥)
    → ((k : ℕ) → k ≤ 0xFFFFF → IsShortNumber 10 7 text k → o ≡ Some k) → IsPageNumber text n → o ≡ Some n
decimal_told text n o none only (in_decimal h below) = only n (omega (arith, below)) h
decimal_told text n o none only (in_hexadecimal digits is h below) = absurd (none digits is)

-- a list of page numbers begins with a decimal digit
front_first : (a b : List ℕ) → digit_value (get_or a 0 0) < 10 → digit_value (get_or (a ++ b) 0 0) < 10
front_first [] b h = absurd (omega (arith, h))
front_first (c ∷ a) b h = h

pub list_first : (text : List ℕ) (ns : List ℕ) → ArePageNumbers text ns → digit_value (get_or text 0 0) < 10
list_first text [] is = elim is [ ]
list_first text (n ∷ []) (one_number is) = page_first text n is
list_first text (n ∷ ns) (more_numbers first rest is more e) =
    subst (λ (t : List ℕ). digit_value (get_or t 0 0) < 10) (sym e) (front_first first (comma ∷ rest) (page_first first n is))

-- so it is no word that begins with another byte
not_word : (text ns word : List ℕ) → 10 ≤ digit_value (get_or word 0 0) → ArePageNumbers text ns → text ≡ word → ⊥
not_word text ns word other is e =
    let first : digit_value (get_or text 0 0) ≡ digit_value (get_or word 0 0) =
    ap (λ (t : List ℕ). digit_value (get_or t 0 0)) e in
    absurd (omega (arith, first, other, list_first text ns is))

-- what a list of numbers is whose text has no comma: one number
pub alone : (text ns : List ℕ) → Lacks comma text → ArePageNumbers text ns → (n : ℕ) × IsPageNumber text n × (ns ≡ n ∷ [])
alone text [] none is = elim is [ ]
alone text (n ∷ []) none (one_number is) = (n, is, refl)
alone text (n ∷ ns) none (more_numbers first rest is more e) = absurd (not_cut comma first rest (subst (Lacks comma) e none))

-- and of one whose text is cut at its first comma: the number before it, and those of the rest
pub record Cut (first rest : List ℕ) (ns : List ℕ) : Type 0 where
  pub number : ℕ
  pub numbers : List ℕ
  pub is_number : IsPageNumber first number
  pub are_numbers : ArePageNumbers rest numbers
  pub all_are : ns ≡ number ∷ numbers

pub cut : (text first rest ns : List ℕ) → text ≡ first ++ comma ∷ rest → Lacks comma first → ArePageNumbers text ns → Cut first rest ns
cut text first rest [] e none is = elim is [ ]
cut text first rest (n ∷ []) e none (one_number is) = absurd (not_cut comma first rest (subst (Lacks comma) e (page_no_comma text n is)))
cut text first rest (n ∷ ns) e none (more_numbers front others is more f) =
    let same = cut_once comma front others first rest (page_no_comma front n is) none (sym f ∙ e) in
    record {
      number = n;
      numbers = ns;
      is_number = subst (λ t. IsPageNumber t n) same.0 is;
      are_numbers = subst (λ t. ArePageNumbers t ns) same.1 more;
      all_are = refl;
    }

-- what is known of the numbers of a text while it is read: the numbers so far and those of the rest are all of them
pub record Sofar (text rest : List ℕ) (sofar : List ℕ) : Type 0 where
  pub ahead : (ns : List ℕ) → ArePageNumbers rest ns → ArePageNumbers text (sofar ++ ns)
  pub back : (ns : List ℕ) → ArePageNumbers text ns → (others : List ℕ) × ArePageNumbers rest others × (ns ≡ sofar ++ others)

-- one more
pub one_more : (text rest first others sofar later : List ℕ) → Sofar text rest sofar → rest ≡ first ++ comma ∷ others → Lacks comma first
    → (n : ℕ) × IsPageNumber first n × (later ≡ sofar ++ n ∷ []) → Sofar text others later
one_more text rest first others sofar later h e none (n, is, more) = record {
  ahead = λ ns are.
      let all = h.ahead (n ∷ ns) (more_numbers first others is are e) in
      let same : sofar ++ n ∷ ns ≡ later ++ ns = sym (append_assoc sofar (n ∷ []) ns) ∙ ap (λ xs. xs ++ ns) (sym more) in
      subst (ArePageNumbers text) same all;
  back = λ ns are.
      let old = h.back ns are in
      let own = cut rest first others old.0 e none old.1 in
      let same : own.number ≡ n = same_page first own.number n own.is_number is in
      let all : ns ≡ later ++ own.numbers =
      old.2 ∙ ap (λ xs. sofar ++ xs) (own.all_are ∙ ap (λ k. k ∷ own.numbers) same) ∙ sym (append_assoc sofar (n ∷ []) own.numbers)
      ∙ ap (λ xs. xs ++ own.numbers) (sym more) in
      (own.numbers, own.are_numbers, all);
}

-- a number that can't be added before a comma: the text has no numbers, or too many
pub none_before : (text rest first others sofar ns : List ℕ) → Sofar text rest sofar → rest ≡ first ++ comma ∷ others → Lacks comma first
    → ((n : ℕ) → IsPageNumber first n → most_numbers ≤ length sofar) → ArePageNumbers text ns → length ns ≤ most_numbers → ⊥
none_before text rest first others sofar ns h e none full are few =
    let old = h.back ns are in
    let own = cut rest first others old.0 e none old.1 in
    let room = full own.number own.is_number in
    let long : length ns ≡ length sofar + length (own.number ∷ own.numbers) =
    ap length (old.2 ∙ ap (λ xs. sofar ++ xs) own.all_are) ∙ length-append sofar (own.number ∷ own.numbers) in
    absurd (omega (arith, long, room, few))

-- the last one
pub last_found : (text rest sofar later : List ℕ) → Sofar text rest sofar → (n : ℕ) × IsPageNumber rest n × (later ≡ sofar ++ n ∷ [])
    → ArePageNumbers text later
last_found text rest sofar later h (n, is, more) = subst (ArePageNumbers text) (sym more) (h.ahead (n ∷ []) (one_number is))

pub last_only : (text rest sofar later ns : List ℕ) → Sofar text rest sofar → Lacks comma rest → (n : ℕ) × IsPageNumber rest n × (later ≡ sofar ++ n ∷ [])
    → ArePageNumbers text ns → later ≡ ns
last_only text rest sofar later ns h none (n, is, more) are =
    let old = h.back ns are in
    let own = alone rest old.0 none old.1 in
    let same : n ≡ own.0 = same_page rest n own.0 is own.1 in
    more ∙ ap (λ k. sofar ++ k ∷ []) same ∙ ap (λ xs. sofar ++ xs) (sym own.2) ∙ sym old.2

pub none_last : (text rest sofar ns : List ℕ) → Sofar text rest sofar → Lacks comma rest
    → ((n : ℕ) → IsPageNumber rest n → most_numbers ≤ length sofar) → ArePageNumbers text ns → length ns ≤ most_numbers → ⊥
none_last text rest sofar ns h none full are few =
    let old = h.back ns are in
    let own = alone rest old.0 none old.1 in
    let room = full own.0 own.1 in
    let long : length ns ≡ length sofar + 1 = ap length (old.2 ∙ ap (λ xs. sofar ++ xs) own.2) ∙ length-append sofar (own.0 ∷ []) in
    absurd (omega (arith, long, room, few))

-- each of the two words says one set
pub only_none : (text : List ℕ) (absent : ℕ → Bool) → text ≡ codes "none" → IsAbsent text absent → no_page ≡ absent
only_none text absent e (inl h) = sym h.1
only_none text absent e (inr (inl h)) = absurd (let same = sym e ∙ h.0 in cc)
only_none text absent e (inr (inr h)) = absurd (not_word text h.0 (codes "none") (omega arith) h.1 e)

pub only_all : (text : List ℕ) (absent : ℕ → Bool) → text ≡ codes "all" → IsAbsent text absent → every_page ≡ absent
only_all text absent e (inl h) = absurd (let same = sym e ∙ h.0 in cc)
only_all text absent e (inr (inl h)) = sym h.1
only_all text absent e (inr (inr h)) = absurd (not_word text h.0 (codes "all") (omega arith) h.1 e)
