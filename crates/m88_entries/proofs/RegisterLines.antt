-- The registers that lines tell, one line after the other.
use Rattle.std.specs.Prelude.{ℕ, zero, suc, true, false, List, [], ◌∷◌, ◌++◌, ◌≡◌, ◌+◌, ◌<◌, Some, None, Result, Ok, Err, drop, length, take}
use Rattle.std.proofs.Common.{arith, refl, sym, ap, append_assoc, ◌∙◌}
use Rattle.std.proofs.lemmas.List.{append-nil}
use Rattle.m88_base.specs.Lines.{lines_of}
use Rattle.m88_serving.specs.Cases.{word_before, word_told}
use Rattle.m88_serving.specs.Faults.{is_named, repeated_from}
use Rattle.m88_entries.specs.Inside.Parts.{words_behind}
use Rattle.m88_entries.specs.Told.{given_by, register_told, registers_told, with_given}

-- a word that was read goes behind those before it
joined_more : (words : List (ℕ × ℕ)) (word : ℕ × ℕ) (rest : Result (List (ℕ × ℕ)) ℕ)
    → words_behind (words ++ word ∷ []) rest ≡ words_behind words (word_before word rest)
joined_more words word (Ok more) = ap Ok (append_assoc words (word ∷ []) more)
joined_more words word (Err number) = refl

pub joined_first : (rest : Result (List (ℕ × ℕ)) ℕ) → words_behind [] rest ≡ rest
joined_first (Ok more) = refl
joined_first (Err number) = refl

-- one line more that tells a register
pub words_more : (words : List (ℕ × ℕ)) (number : ℕ) (line rest behind : List ℕ) (word : ℕ × ℕ)
    → lines_of rest ≡ line ∷ lines_of behind → register_told line ≡ Some word
    → words_behind (words ++ word ∷ []) (registers_told (number + 1) (lines_of behind)) ≡ words_behind words (registers_told number (lines_of rest))
unfolding registers_told
words_more words number line rest behind word lines told =
    joined_more words word (registers_told (number + 1) (lines_of behind))
    ∙ sym (ap (λ ls. words_behind words (registers_told number ls)) lines
    ∙ ap (λ w. words_behind words (word_told number w (registers_told (number + 1) (lines_of behind)))) told)

-- a line that tells none
pub words_wrong : (words : List (ℕ × ℕ)) (number : ℕ) (line rest behind : List ℕ)
    → lines_of rest ≡ line ∷ lines_of behind → register_told line ≡ None → words_behind words (registers_told number (lines_of rest)) ≡ Err number
unfolding registers_told
words_wrong words number line rest behind lines told =
    ap (λ ls. words_behind words (registers_told number ls)) lines
    ∙ ap (λ w. words_behind words (word_told number w (registers_told (number + 1) (lines_of behind)))) told

-- where no line is left, the registers are those that were read
pub words_last : (words : List (ℕ × ℕ)) (number : ℕ) (rest : List ℕ) → length rest < 1 → words_behind words (registers_told number (lines_of rest)) ≡ Ok words
unfolding registers_told lines_of
words_last words number [] none = ap Ok (append-nil words)
words_last words number (b ∷ rest) none = absurd (omega (arith, none))

-- a register that is told again
again_here : (number : ℕ) (before words : List (ℕ × ℕ)) (word : ℕ × ℕ) → is_named before word.0 ≡ true
    → repeated_from number before (word ∷ words) ≡ Some number
unfolding repeated_from
again_here number before words word e = rw e refl

once_here : (number : ℕ) (before words : List (ℕ × ℕ)) (word : ℕ × ℕ) → is_named before word.0 ≡ false
    → repeated_from number before (word ∷ words) ≡ repeated_from (number + 1) (before ++ word ∷ []) words
unfolding repeated_from
once_here number before words word e = rw e refl

-- the first so many are put in, none of them twice
pub record HasGiven (words : List (ℕ × ℕ)) (first n : ℕ) (start given : List ℕ) : Type 0 where
  pub same : repeated_from (first + n) (take n words) (drop n words) ≡ repeated_from first [] words
  pub put : given_by given (drop n words) ≡ given_by start words

first_is : (first : ℕ) → first + 0 ≡ first
first_is first = omega arith

pub none_given : (words : List (ℕ × ℕ)) (first : ℕ) (start : List ℕ) → HasGiven words first 0 start start
none_given words first start = record {
  same = ap (λ (n : ℕ). repeated_from n [] words) (first_is first);
  put = refl;
}

one_put : (given : List ℕ) (word : ℕ × ℕ) (words : List (ℕ × ℕ)) → given_by given (word ∷ words) ≡ given_by (with_given given word) words
unfolding given_by
one_put given word words = refl

pub one_given : (words : List (ℕ × ℕ)) (first n : ℕ) (word : ℕ × ℕ) (start given : List ℕ)
    → drop n words ≡ word ∷ drop (n + 1) words → take (n + 1) words ≡ take n words ++ word ∷ []
    → HasGiven words first n start given → is_named (take n words) word.0 ≡ false
    → HasGiven words first (n + 1) start (with_given given word)
one_given words first n word start given dropped taken h fresh =
    let next : first + (n + 1) ≡ (first + n) + 1 = omega arith in
    record {
      same = ap (λ (k : ℕ). repeated_from k (take (n + 1) words) (drop (n + 1) words)) next
          ∙ ap (λ before. repeated_from ((first + n) + 1) before (drop (n + 1) words)) taken
          ∙ sym (once_here (first + n) (take n words) (drop (n + 1) words) word fresh)
          ∙ ap (repeated_from (first + n) (take n words)) (sym dropped)
          ∙ h.same;
      put = sym (one_put given word (drop (n + 1) words)) ∙ ap (given_by given) (sym dropped) ∙ h.put;
    }

pub given_twice : (words : List (ℕ × ℕ)) (first n : ℕ) (word : ℕ × ℕ) (start given : List ℕ)
    → drop n words ≡ word ∷ drop (n + 1) words → HasGiven words first n start given → is_named (take n words) word.0 ≡ true
    → repeated_from first [] words ≡ Some (first + n)
given_twice words first n word start given dropped h again =
    sym h.same ∙ ap (repeated_from (first + n) (take n words)) dropped
    ∙ again_here (first + n) (take n words) (drop (n + 1) words) word again

none_left : (n : ℕ) (words : List (ℕ × ℕ)) → length words ≡ n → drop n words ≡ []
none_left zero [] e = refl
none_left zero (w ∷ words) e = absurd (omega (arith, e))
none_left (suc n) [] e = refl
none_left (suc n) (w ∷ words) e = none_left n words (omega (arith, e))

no_more : (number : ℕ) (before : List (ℕ × ℕ)) → repeated_from number before [] ≡ None
unfolding repeated_from
no_more number before = refl

all_put : (given : List ℕ) → given_by given [] ≡ given
unfolding given_by
all_put given = refl

pub all_given : (words : List (ℕ × ℕ)) (first n : ℕ) (start given : List ℕ) → length words ≡ n → HasGiven words first n start given
    → (given ≡ given_by start words) × (repeated_from first [] words ≡ None)
all_given words first n start given size h =
    let left : drop n words ≡ [] = none_left n words size in (
      sym (all_put given) ∙ ap (given_by given) (sym left) ∙ h.put,
      sym h.same ∙ ap (repeated_from (first + n) (take n words)) left ∙ no_more (first + n) (take n words),
    )
