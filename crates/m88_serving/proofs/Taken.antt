-- How the lines that were read and those that are left make up what an input tells.
use Rattle.std.specs.Prelude.{ℕ, true, false, List, [], ◌∷◌, ◌++◌, ◌≡◌, ◌≢◌, ◌+◌, ◌%◌, ◌<◌, ◌==◌, Option, Some, None, Result, Ok, Err, codes, length, option_and_then, take}
use Rattle.std.proofs.Common.{arith, refl, sym, ap, ◌∙◌, append_assoc}
use Rattle.std.proofs.lemmas.Bool.{eqb-true}
use Rattle.std.proofs.lemmas.Bool.Decides.{nat_tests}
use Rattle.std.proofs.lemmas.List.{append-nil, length-take}
use Rattle.m88_base.specs.Lines.{lines_of}
use Rattle.m88_isa.proofs.Laws.{by_test}
use Rattle.m88_serving.specs.Cases.{first_told, word_before, word_told, words_told}
use Rattle.m88_serving.specs.Lines.{at_word, last_word, word_after, word_first, named_word_in}
use Rattle.m88_serving.specs.Inside.Replies.{words_behind}

-- before the first
pub joined_first : (rest : Result (List (ℕ × ℕ)) ℕ) → words_behind [] rest ≡ rest
joined_first (Ok more) = refl
joined_first (Err number) = refl

-- a word that was read goes behind those before it
joined_more : (words : List (ℕ × ℕ)) (word : ℕ × ℕ) (rest : Result (List (ℕ × ℕ)) ℕ)
    → words_behind (words ++ word ∷ []) rest ≡ words_behind words (word_before word rest)
joined_more words word (Ok more) = ap Ok (append_assoc words (word ∷ []) more)
joined_more words word (Err number) = refl

-- one line more that tells a word
pub words_more : (words : List (ℕ × ℕ)) (number : ℕ) (line rest behind : List ℕ) (word : ℕ × ℕ)
    → lines_of rest ≡ line ∷ lines_of behind → named_word_in line ≡ Some word
    → words_behind (words ++ word ∷ []) (words_told (number + 1) (lines_of behind)) ≡ words_behind words (words_told number (lines_of rest))
unfolding words_told
words_more words number line rest behind word lines told =
    joined_more words word (words_told (number + 1) (lines_of behind))
    ∙ sym (ap (λ ls. words_behind words (words_told number ls)) lines
    ∙ ap (λ w. words_behind words (word_told number w (words_told (number + 1) (lines_of behind)))) told)

-- a line that tells none
pub words_wrong : (words : List (ℕ × ℕ)) (number : ℕ) (line rest behind : List ℕ)
    → lines_of rest ≡ line ∷ lines_of behind → named_word_in line ≡ None → words_behind words (words_told number (lines_of rest)) ≡ Err number
unfolding words_told
words_wrong words number line rest behind lines told =
    ap (λ ls. words_behind words (words_told number ls)) lines
    ∙ ap (λ w. words_behind words (word_told number w (words_told (number + 1) (lines_of behind)))) told

-- where no line is left, the words are those that were read
pub words_last : (words : List (ℕ × ℕ)) (number : ℕ) (rest : List ℕ) → length rest < 1 → words_behind words (words_told number (lines_of rest)) ≡ Ok words
unfolding words_told lines_of
words_last words number [] none = ap Ok (append-nil words)
words_last words number (b ∷ rest) none = absurd (omega (arith, none))

-- where no line is left, none tells anything
pub none_first : {X : Type 0} (tells : List ℕ → Option X) (rest : List ℕ) → (length rest == 0) ≡ true → first_told tells (lines_of rest) ≡ None
unfolding first_told lines_of
none_first tells [] none = refl
none_first tells (b ∷ rest) none = let size = eqb-true (length (b ∷ rest)) 0 none in absurd (omega (arith, size))

-- the address that a line tells is that of a word
aligned_word : (address : ℕ) (value : Option ℕ) (word : ℕ × ℕ) → option_and_then (at_word address) value ≡ Some word → word.0 % 4 ≡ 0
aligned_word address None word e = absurd cc
aligned_word address (Some value) word e = by_test (address % 4 == 0)
    (λ aligned. let told : Some (address, value) ≡ Some word = rw aligned at e in
    let same : (address, value) ≡ word = cc in ap (λ w. w.0 % 4) (sym same) ∙ eqb-true (address % 4) 0 aligned)
    (λ other. let told : None ≡ Some word = rw other at e in absurd cc)

aligned_behind : (first : Option (ℕ × List ℕ)) (word : ℕ × ℕ)
    → option_and_then (λ address. option_and_then (at_word address.0) (last_word (codes " ") address.1)) first ≡ Some word → word.0 % 4 ≡ 0
aligned_behind None word e = absurd cc
aligned_behind (Some first) word e = aligned_word first.0 (last_word (codes " ") first.1) word e

pub word_aligned : (line : List ℕ) (word : ℕ × ℕ) → named_word_in line ≡ Some word → word.0 % 4 ≡ 0
unfolding named_word_in
word_aligned line word e = aligned_behind (word_after (codes "mem ") line) word e

-- a text of fewer than eight bytes begins with no word
pub short_word : (text : List ℕ) → length text < 8 → word_first text ≡ None
short_word text few =
    let size = length-take 8 text in
    let apart : length (take 8 text) ≢ 8 = omega (arith, size, few) in
    let other : (length (take 8 text) == 8) ≡ false = grind (arith, nat_tests) in
    rw other refl
