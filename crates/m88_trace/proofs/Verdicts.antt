-- A text is checked line by line, and has one verdict.
use Rattle.std.specs.Prelude.{ℕ, zero, suc, Bool, true, false, List, [], ◌∷◌, ◌++◌, Option, Some, None, ◌≡◌, ◌≢◌, ◌≤◌, ◌<◌, ◌+◌, ◌-◌, ◌==◌, ◌⊎◌, is_some, unwrap_or, length, nat_lt}
use Rattle.std.proofs.Common.{arith, add-one, add-suc, append_assoc, inl, inr, length-append, refl, sym, ap, subst, ⊎_elim, ◌∙◌}
use Rattle.std.proofs.lemmas.Bool.{eqb-false, eqb-true, ltb-false, ltb-true}
use Rattle.std.proofs.lemmas.List.{append-nil}
use Rattle.m88_isa.proofs.Laws.{by_test}
use Rattle.m88_base.specs.OneVerdict.{HasOneVerdict}
use Rattle.m88_trace.specs.Texts.{BeginsOtherwise, DiffersBehind, HasLines, IsText, text_of_first}

-- where more lines are there, the text of so many goes on with the next
text_goes : (line : ℕ → Option (List ℕ)) (n more : ℕ) →
    (rest : List ℕ) × (text_of_first line (n + suc more) ≡ text_of_first line n ++ (unwrap_or (line n) [] ++ rest))
unfolding text_of_first
text_goes line n zero = ([], rw add-one (ap (λ xs. text_of_first line n ++ xs) (sym (append-nil (unwrap_or (line n) [])))))
text_goes line n (suc more) =
    let before = text_goes line n more in (
      before.0 ++ unwrap_or (line (n + suc more)) [],
      ap (text_of_first line) (add-suc n (suc more))
          ∙ ap (λ xs. xs ++ unwrap_or (line (n + suc more)) []) before.1
          ∙ append_assoc (text_of_first line n) _ _
          ∙ ap (λ xs. text_of_first line n ++ xs) (append_assoc (unwrap_or (line n) []) before.0 _),
    )

cancel : (xs ys zs : List ℕ) → xs ++ ys ≡ xs ++ zs → ys ≡ zs
cancel [] ys zs h = h
cancel (x ∷ xs) ys zs h = cancel xs ys zs cc

begins : (line : ℕ → Option (List ℕ)) (a b : ℕ) (text rest : List ℕ) → a < b → text ≡ text_of_first line b ++ rest →
    (more : List ℕ) × (text ≡ text_of_first line a ++ (unwrap_or (line a) [] ++ more))
begins line a b text rest less h =
    let goes = text_goes line a (b - a - 1) in
    let e : a + suc (b - a - 1) ≡ b = omega (arith, less) in (
      goes.0 ++ rest,
      h
          ∙ ap (λ n. text_of_first line n ++ rest) (sym e)
          ∙ ap (λ xs. xs ++ rest) goes.1
          ∙ append_assoc (text_of_first line a) _ rest
          ∙ ap (λ xs. text_of_first line a ++ xs) (append_assoc (unwrap_or (line a) []) goes.0 rest),
    )

not_otherwise : (o : Option (List ℕ)) (rest more : List ℕ) → is_some o ≡ true → rest ≡ unwrap_or o [] ++ more →
    BeginsOtherwise o rest →
    ⊥
not_otherwise None rest more some h other = cc
not_otherwise (Some bytes) rest more some h other = other more h

-- a text that differs behind so many lines has no more of them
differs_first : (line : ℕ → Option (List ℕ)) (text : List ℕ) (a b : ℕ) (rest : List ℕ) → DiffersBehind line text a →
    HasLines line b →
    text ≡ text_of_first line b ++ rest →
    b ≤ a
differs_first line text a b rest differs there h = by_test (nat_lt a b)
    (λ less.
    let below = ltb-true a b less in
    let more = begins line a b text rest below h in
    absurd (not_otherwise (line a) differs.rest more.0 (there a below)
    (cancel (text_of_first line a) differs.rest (unwrap_or (line a) [] ++ more.0) (sym differs.whole ∙ more.1))
    differs.otherwise))
    (λ most. ltb-false a b most)

one_place : (line : ℕ → Option (List ℕ)) (text : List ℕ) (a b : ℕ) → DiffersBehind line text a →
    DiffersBehind line text b → a ≡ b
one_place line text a b x y =
    let low = differs_first line text a b y.rest x y.there y.whole in
    let high = differs_first line text b a x.rest y x.there x.whole in
    omega (arith, low, high)

no_empty : (o : Option (List ℕ)) (more : List ℕ) → is_some o ≡ true → o ≢ Some [] → unwrap_or o [] ++ more ≡ [] → ⊥
no_empty (Some []) more some h e = h refl
no_empty _ more some h e = cc

-- a text of more lines than another isn't the same
shorter : (line : ℕ → Option (List ℕ)) (a b : ℕ) (rest : List ℕ) → ((k : ℕ) → line k ≢ Some []) → HasLines line b →
    a < b →
    text_of_first line a ≡ text_of_first line b ++ rest →
    ⊥
shorter line a b rest are there less h =
    let more = begins line a b (text_of_first line a) rest less h in
    no_empty (line a) more.0 (there a less) (are a)
    (sym (cancel (text_of_first line a) [] (unwrap_or (line a) [] ++ more.0) (append-nil (text_of_first line a) ∙ more.1)))

one_count : (line : ℕ → Option (List ℕ)) (text : List ℕ) (a b : ℕ) → ((k : ℕ) → line k ≢ Some []) → IsText line text a →
    IsText line text b →
    a ≡ b
one_count line text a b are x y = by_test (nat_lt a b)
    (λ less. absurd (shorter line a b [] are y.there (ltb-true a b less) (sym x.whole ∙ y.whole
    ∙ sym (append-nil (text_of_first line b)))))
    (λ more. by_test (nat_lt b a)
    (λ less. absurd (shorter line b a [] are x.there (ltb-true b a less) (sym y.whole ∙ x.whole
    ∙ sym (append-nil (text_of_first line a)))))
    (λ most. omega (arith, ltb-false a b more, ltb-false b a most)))

-- a text that is so many lines differs nowhere
not_both : (line : ℕ → Option (List ℕ)) (text : List ℕ) (n a : ℕ) → ((k : ℕ) → line k ≢ Some []) → IsText line text n →
    DiffersBehind line text a →
    ⊥
not_both line text n a are is differs =
    let low = differs_first line text a n [] differs is.there (is.whole ∙ sym (append-nil (text_of_first line n))) in
    by_test (nat_lt n a)
    (λ less. shorter line n a differs.rest are differs.there (ltb-true n a less) (sym is.whole ∙ differs.whole))
    (λ most.
    let same : a ≡ n = let high = ltb-false n a most in omega (arith, low, high) in
    differs.some (cancel (text_of_first line a) differs.rest []
    (sym differs.whole ∙ is.whole ∙ ap (text_of_first line) (sym same) ∙ sym (append-nil (text_of_first line a)))))

-- so many lines are read, and this is left
pub record HasRead (line : ℕ → Option (List ℕ)) (text rest : List ℕ) (k : ℕ) : Type 0 where
  pub there : HasLines line k
  pub whole : text ≡ text_of_first line k ++ rest

pub read_none : (line : ℕ → Option (List ℕ)) (text : List ℕ) → HasRead line text text 0
unfolding text_of_first
read_none line text = record { there = λ k h. absurd (omega (arith, h)); whole = refl }

there_more : (line : ℕ → Option (List ℕ)) (k : ℕ) → HasLines line k → is_some (line k) ≡ true → HasLines line (k + 1)
there_more line k there some j h = by_test (j == k)
    (λ t. subst (λ n. is_some (line n) ≡ true) (sym (eqb-true j k t)) some)
    (λ f. let d = eqb-false j k f in there j (omega (arith, h, d)))

-- the text of one line more
pub text_more : (line : ℕ → Option (List ℕ)) (k : ℕ) (bytes : List ℕ) → line k ≡ Some bytes →
    text_of_first line (k + 1) ≡ text_of_first line k ++ bytes
unfolding text_of_first
text_more line k bytes l = rw (add-one, l) refl

pub read_more : (line : ℕ → Option (List ℕ)) (text rest bytes more : List ℕ) (k : ℕ) → HasRead line text rest k →
    line k ≡ Some bytes →
    rest ≡ bytes ++ more →
    HasRead line text more (k + 1)
read_more line text rest bytes more k read l e = record {
  there = there_more line k read.there (ap is_some l);
  whole =
      read.whole
      ∙ ap (λ xs. text_of_first line k ++ xs) e
      ∙ sym (append_assoc (text_of_first line k) bytes more)
      ∙ ap (λ xs. xs ++ more) (sym (text_more line k bytes l));
}

-- nothing is left
pub read_all : (line : ℕ → Option (List ℕ)) (text rest : List ℕ) (k : ℕ) → HasRead line text rest k → rest ≡ [] →
    IsText line text k
read_all line text rest k read none = record {
  there = read.there;
  whole = read.whole ∙ ap (λ xs. text_of_first line k ++ xs) none ∙ append-nil (text_of_first line k);
}

-- what is left doesn't begin with the next line
pub differs_by : (line : ℕ → Option (List ℕ)) (text rest bytes : List ℕ) (k : ℕ) → HasRead line text rest k →
    rest ≢ [] →
    line k ≡ Some bytes →
    ((more : List ℕ) → rest ≢ bytes ++ more) →
    DiffersBehind line text k
differs_by line text rest bytes k read some l other = record {
  there = read.there;
  rest = rest;
  whole = read.whole;
  some = some;
  otherwise = subst (λ o. BeginsOtherwise o rest) (sym l) other;
}

-- or there is none
pub differs_past : (line : ℕ → Option (List ℕ)) (text rest : List ℕ) (k : ℕ) → HasRead line text rest k → rest ≢ [] →
    line k ≡ None →
    DiffersBehind line text k
differs_past line text rest k read some l = record {
  there = read.there;
  rest = rest;
  whole = read.whole;
  some = some;
  otherwise = subst (λ o. BeginsOtherwise o rest) (sym l) tt;
}

-- a text begins with some bytes, or it doesn't
begins_or_not : (xs bytes : List ℕ) → ((more : List ℕ) × (xs ≡ bytes ++ more)) ⊎ ((more : List ℕ) → xs ≢ bytes ++ more)
begins_or_not xs [] = inl (xs, refl)
begins_or_not [] (b ∷ bytes) = inr (λ more e. absurd cc)
begins_or_not (x ∷ xs) (b ∷ bytes) = by_test (x == b)
    (λ t. ⊎_elim
    (λ begins. inl (begins.0, rw (eqb-true x b t) (ap (λ zs. b ∷ zs) begins.1)))
    (λ other. inr (λ more e. other more cc))
    (begins_or_not xs bytes))
    (λ f. inr (λ more e. eqb-false x b f cc))

-- a text that begins with some bytes is longer than what is behind them
less_behind : (bytes more : List ℕ) → bytes ≢ [] → length more < length (bytes ++ more)
less_behind [] more some = absurd (some refl)
less_behind (b ∷ bytes) more some = let split = length-append bytes more in omega (arith, split)

-- a text is so many lines, or differs behind so many
abbrev SomeVerdict : (ℕ → Option (List ℕ)) → List ℕ → Type 0
SomeVerdict line text = ((n : ℕ) × IsText line text n) ⊎ ((n : ℕ) × DiffersBehind line text n)

-- so it is where it is behind each next line that it goes on with
verdict_by : (line : ℕ → Option (List ℕ)) (text rest : List ℕ) (k : ℕ) (next : Option (List ℕ)) →
    ((j : ℕ) → line j ≢ Some []) →
    HasRead line text rest k →
    rest ≢ [] →
    ((more : List ℕ) → HasRead line text more (k + 1) → length more < length rest → SomeVerdict line text) →
    line k ≡ next →
    SomeVerdict line text
verdict_by line text rest k None are read some later l = inr (k, differs_past line text rest k read some l)
verdict_by line text rest k (Some bytes) are read some later l = ⊎_elim
    (λ begins.
    let less = less_behind bytes begins.0 (λ e. are k (l ∙ ap Some e)) in
    let long = ap length begins.1 in
    later begins.0 (read_more line text rest bytes begins.0 k read l begins.1) (omega (arith, less, long)))
    (λ other. inr (k, differs_by line text rest bytes k read some l other))
    (begins_or_not rest bytes)

-- what is left has as many bytes at most
some_verdict : (line : ℕ → Option (List ℕ)) (text rest : List ℕ) (k most : ℕ) → ((j : ℕ) → line j ≢ Some []) →
    HasRead line text rest k →
    length rest ≤ most →
    SomeVerdict line text
some_verdict line text [] k most are read within = inl (k, read_all line text [] k read refl)
some_verdict line text (x ∷ xs) k zero are read within = absurd (omega (arith, within))
some_verdict line text (x ∷ xs) k (suc most) are read within =
    verdict_by line text (x ∷ xs) k (line k) are read (λ e. cc)
    (λ more next less. some_verdict line text more (k + 1) most are next (omega (arith, less, within))) refl

-- where no line is empty, a text has one verdict
pub one_verdict : (line : ℕ → Option (List ℕ)) (text : List ℕ) → ((k : ℕ) → line k ≢ Some []) →
    HasOneVerdict (IsText line text) (DiffersBehind line text)
one_verdict line text are = record {
  some = some_verdict line text text 0 (length text) are (read_none line text) (omega arith);
  not_both = λ m n. not_both line text m n are;
  one_value = λ m n. one_count line text m n are;
  one_fault = one_place line text;
}

pub not_empty : (xs : List ℕ) (b : Bool) → b ≡ (length xs == 0) → b ≡ false → xs ≢ []
not_empty xs b h f e = let t : false ≡ (length xs == 0) = sym f ∙ h in let u = rw e at t in cc

pub is_empty : (xs : List ℕ) (b : Bool) → b ≡ (length xs == 0) → b ≡ true → xs ≡ []
is_empty [] b h t = refl
is_empty (x ∷ xs) b h t = absurd (let e = eqb-true (length (x ∷ xs)) 0 (sym h ∙ t) in omega (arith, e))
