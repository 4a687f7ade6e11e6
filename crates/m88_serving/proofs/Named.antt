-- Words named one after the other in an image.
use Rattle.std.specs.Prelude.{ℕ, Bool, true, false, ◌≡◌, ◌≢◌, ◌+◌, ◌≤◌, ◌%◌, ◌==◌, ◌||◌, List, [], ◌∷◌, ◌++◌, Some, None, drop, is_some, length, take, unwrap_or}
use Rattle.std.proofs.Common.{arith, refl, sym, ap, ◌∙◌}
use Rattle.std.proofs.Math.Path.{fun_ext}
use Rattle.std.proofs.lemmas.Bool.{eqb-false, eqb-true}
use Rattle.std.proofs.lemmas.Bool.Decides.{nat_tests}
use Rattle.std.proofs.lemmas.List.{drop_all}
use Rattle.std.proofs.lemmas.List.Folds.{list_any-append}
use Rattle.m88_base.specs.Image.{ProgramImage, byte_at}
use Rattle.m88_isa.proofs.Laws.{by_test}
use Rattle.m88_isa.specs.Address.{word_address}
use Rattle.m88_isa.specs.Bus.{in_words}
use Rattle.m88_mem.specs.DataBus.{image_bus, image_bytes}
use Rattle.m88_serving.proofs.Puts.{same_number}
use Rattle.m88_serving.specs.Faults.{is_named, repeated_from}
use Rattle.m88_serving.specs.Serving.{named_bus, with_words}
use Rattle.m88_serving.specs.Inside.Naming.{HasNamed, StoodBefore, NamesOneMore}

-- before the first
pub named_none : (words : List (ℕ × ℕ)) (image : ProgramImage) → ((a : ℕ) → byte_at image a ≡ None) → HasNamed words 0 image
unfolding in_words image_bytes
named_none words image empty = record {
  same = refl;
  bus = ap (λ bus. with_words bus words) (fun_ext (λ a.
      same_number (image_bytes image) (λ x. 0) (word_address a) (λ k below. ap (λ o. unwrap_or o 0) (empty (word_address a + k)))));
  taken = λ a. ap is_some (empty a);
}

-- the address of a word is in it
its_own : (at : ℕ) → at % 4 ≡ 0 → word_address at ≡ at
its_own at aligned = omega (arith, aligned)

named_more : (words : List (ℕ × ℕ)) (word : ℕ × ℕ) (w : ℕ) → (is_named words w || w == word.0) ≡ is_named (words ++ word ∷ []) w
named_more words word w =
    sym (list_any-append (λ (other : ℕ × ℕ). other.0 == w) words (word ∷ []) ∙ ap (λ t. is_named words w || t) (turned word.0 w))
  where
    none : (b : Bool) → (b || false) ≡ b
    none true = refl
    none false = refl

    turned : (n w : ℕ) → (n == w || false) ≡ (w == n)
    turned n w = none (n == w) ∙ by_test (n == w)
        (λ same. let e : n ≡ w = eqb-true n w same in let back : (w == n) ≡ true = grind (arith, nat_tests) in same ∙ sym back)
        (λ other. let e : n ≢ w = eqb-false n w other in let back : (w == n) ≡ false = grind (arith, nat_tests) in other ∙ sym back)

-- a word that wasn't named goes to those before, and one that was is told
repeated_next : (number : ℕ) (before : List (ℕ × ℕ)) (word : ℕ × ℕ) (words : List (ℕ × ℕ)) → is_named before word.0 ≡ false
    → repeated_from number before (word ∷ words) ≡ repeated_from (number + 1) (before ++ word ∷ []) words
unfolding repeated_from
repeated_next number before word words new = rw new refl

repeated_here : (number : ℕ) (before : List (ℕ × ℕ)) (word : ℕ × ℕ) (words : List (ℕ × ℕ)) → is_named before word.0 ≡ true
    → repeated_from number before (word ∷ words) ≡ Some number
unfolding repeated_from
repeated_here number before word words there = rw there refl

-- one word more
pub named_one : (words : List (ℕ × ℕ)) (n : ℕ) (word : ℕ × ℕ) (old new : ProgramImage) → word.0 % 4 ≡ 0
    → drop n words ≡ word ∷ drop (n + 1) words → take (n + 1) words ≡ take n words ++ word ∷ []
    → HasNamed words n old → NamesOneMore old new word.0 word.1 → HasNamed words (n + 1) new
unfolding with_words
named_one words n word old new aligned next front named puts =
    let unnamed : is_named (take n words) word.0 ≡ false =
    ap (λ w. is_named (take n words) w) (sym (its_own word.0 aligned)) ∙ sym (named.taken word.0) ∙ ap is_some puts.free in
    record {
      same = ap (λ k. repeated_from k (take (n + 1) words) (drop (n + 1) words)) (five_more n)
          ∙ ap (λ ws. repeated_from (5 + n + 1) ws (drop (n + 1) words)) front
          ∙ sym (repeated_next (5 + n) (take n words) word (drop (n + 1) words) unnamed)
          ∙ sym (ap (repeated_from (5 + n) (take n words)) next) ∙ named.same;
      bus = ap (λ bus. with_words bus (drop (n + 1) words)) puts.bus ∙ sym (ap (with_words (image_bus old)) next) ∙ named.bus;
      taken = λ a. puts.taken a ∙ ap (λ t. t || word_address a == word.0) (named.taken a)
          ∙ named_more (take n words) word (word_address a) ∙ ap (λ ws. is_named ws (word_address a)) (sym front);
    }
  where
    five_more : (n : ℕ) → 5 + (n + 1) ≡ 5 + n + 1
    five_more n = omega arith

-- a word that is there already
pub named_twice : (words : List (ℕ × ℕ)) (n : ℕ) (word : ℕ × ℕ) (image : ProgramImage)
    → drop n words ≡ word ∷ drop (n + 1) words → HasNamed words n image → StoodBefore image word.0 → repeated_from 5 [] words ≡ Some (5 + n)
named_twice words n word image next named there =
    sym named.same ∙ ap (repeated_from (5 + n) (take n words)) next
    ∙ repeated_here (5 + n) (take n words) word (drop (n + 1) words)
    (ap (λ w. is_named (take n words) w) (sym there.inside) ∙ sym (named.taken there.a) ∙ there.found)

-- behind the last
pub named_all : (words : List (ℕ × ℕ)) (n : ℕ) (image : ProgramImage) → length words ≤ n → HasNamed words n image
    → (repeated_from 5 [] words ≡ None) × (image_bus image ≡ named_bus words)
unfolding repeated_from with_words
named_all words n image behind named =
    let none : drop n words ≡ [] = drop_all n words behind in
    (sym named.same ∙ ap (repeated_from (5 + n) (take n words)) none, sym (ap (with_words (image_bus image)) none) ∙ named.bus)
