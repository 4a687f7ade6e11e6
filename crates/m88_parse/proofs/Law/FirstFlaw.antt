-- The law of flaws: nothing can be cut off exactly where and for the reason that is related to the bytes.
use Rattle.std.proofs.Common.{◌≡◌, ◌≢◌, ℕ, ◌+◌, ◌<◌, ◌≤◌, Bool, true, false, not, ◌&&◌, ◌||◌, ◌==◌, nat_lt, ◌⊎◌, inl, inr, List, [], ◌∷◌, ◌++◌, length, take, drop, Option, Some, None, Ok, Err, refl, sym, ap, ap₂, ◌∙◌, arith, subst, eqb-true, eq-eqb, ne_eqb, ltb-true, ltb-false, lt-ltb, le-ltb, Result, if◌then◌else◌, length-take, length-drop, length-append, one-add, take-append-drop, true≢false}
use Rattle.std.specs.List.{list_all, prefix_len}
use Rattle.std.specs.Char.{is_ascii_digit}
use Rattle.std.specs.Str.Parse.{digits_value}
use Rattle.std.proofs.lemmas.List.Sums.{prefix_len-le-length}
use Rattle.std.proofs.lemmas.Bool.{eqb-false}
use Rattle.m88_parse.specs.declared.fault.ParseKind.{ParseKind}
use Rattle.m88_parse.specs.declared.fault.ParseKind.TheVariants.{NotAscii, Syntax, OutOfRange}
use Rattle.m88_parse.specs.declared.scan.Flaw.{Flaw}
use Rattle.m88_parse.specs.Inside.Tokens.{is_hexadecimal_number, is_decimal, bounded, inside_len, Cut, token_cut, flaw, token_or_flaw, name_front, number_front, quoted_value, quoted, word_front, front, numeral}
use Rattle.m88_parse.specs.Language.Bytes.{space, tab, is_blank, is_comment, is_plain, is_mark}
use Rattle.m88_base.specs.Name.{continues_name}
use Rattle.m88_parse.specs.Language.Pieces.{TokenValue, a_name}
use Rattle.m88_parse.specs.Language.Tokens.{AreNameBytes, BeginsWithNoNameByte, IsNumeral, IsToken}
use Rattle.m88_parse.specs.Language.FirstFaults.{Takes, line_ends, quote_closes, byte_taken, pair_taken, last_taken, IsQuote, BeginsWithDigit, IsStray, IsFlaw, foreign_byte, foreign_in_quotes, no_quoted_token, long_name, no_number, large_number, stray_byte}
use Rattle.m88_parse.proofs.Law.TestsAndChoices.{both, chosen, tested, not_true, not_false, take_then, take_else, Stops, prefix_all, all_of_prefix, stops_prefix, prefix_whole, whole_prefix}
use Rattle.m88_parse.proofs.Law.Numbers.{read_decimal, hexadecimal_is, decimal_is, is_decimal_again, is_hexadecimal_again, number_is, bounded_above, at_decimal, at_hexadecimal}
use Rattle.m88_parse.proofs.Law.Quotes.{inside_fits, inside_again, closed_by, not_lone}
use Rattle.m88_parse.proofs.Law.FirstToken.{no_such_byte, front_again, front_run, Makes, makes_text, makes_character, decimal_first, run_at, front_double, front_single, between, is_quote}

flaw_same : {a b : Flaw} → ◌≡◌ {A = Result Cut Flaw} (Err a) (Err b) → a ≡ b
flaw_same h = cc

no_flaw : {c : Cut} {f : Flaw} → ◌≡◌ {A = Result Cut Flaw} (Ok c) (Err f) → ⊥
no_flaw h = cc

-- numerals that are none, or too large

-- why a run is no number
pub data NoNumber : List ℕ → ParseKind → Type 0 where
  spelled_wrong : {run : List ℕ} → ((n : ℕ) → IsNumeral run n → ⊥) → NoNumber run Syntax
  too_large : {run : List ℕ} (n : ℕ) → IsNumeral run n → 4294967296 ≤ n → NoNumber run OutOfRange

bounded_err : (v : ℕ) (kind : ParseKind) → bounded v ≡ Err kind → (4294967296 ≤ v) × (OutOfRange ≡ kind)
bounded_err v kind h =
    elim (chosen (nat_lt v 4294967296) (Ok v) (Err OutOfRange) (Err kind) h) [
      | inl j ↦ absurd cc
      | inr j ↦ (ltb-false v 4294967296 j.0, cc)
    ]

numeral_of : (run : List ℕ) (n : ℕ) → IsNumeral run n → numeral run ≡ bounded n
numeral_of run n (inl h) = at_decimal run n h
numeral_of run n (inr h) = at_hexadecimal run n h

numeral_err : (run : List ℕ) (kind : ParseKind) → 0 < length run → numeral run ≡ Err kind → NoNumber run kind
numeral_err run kind s h =
    elim (chosen (is_hexadecimal_number run) (bounded (digits_value 16 (drop 2 run))) (read_decimal run) (Err kind) h) [
      | inl j ↦
          let b = bounded_err (digits_value 16 (drop 2 run)) kind j.1 in
          subst (NoNumber run) b.1 (too_large (digits_value 16 (drop 2 run)) (inr (hexadecimal_is run j.0)) b.0)
      | inr j ↦
          elim (chosen (is_decimal run) (bounded (digits_value 10 run)) (Err Syntax) (Err kind) j.1) [
            | inl k ↦
                let b = bounded_err (digits_value 10 run) kind k.1 in
                subst (NoNumber run) b.1 (too_large (digits_value 10 run) (inl (decimal_is run s k.0)) b.0)
            | inr k ↦
                let e : Syntax ≡ kind = cc in
                subst (NoNumber run) e (spelled_wrong (neither_spelled run j.0 k.0))
          ]
    ]
  where
    neither_spelled : (run : List ℕ) → is_hexadecimal_number run ≡ false → is_decimal run ≡ false → (n : ℕ) → IsNumeral run n → ⊥
    neither_spelled run a b n (inl x) = true≢false (sym (is_decimal_again run n x) ∙ b)
    neither_spelled run a b n (inr x) = true≢false (sym (is_hexadecimal_again run x.digits x.bytes x.some x.hexadecimal) ∙ a)

no_numeral_err : (run : List ℕ) → 0 < length run → ((n : ℕ) → IsNumeral run n → ⊥) → numeral run ≡ Err Syntax
no_numeral_err run s h = by_result (numeral run) refl
  where
    by_reason : (kind : ParseKind) → NoNumber run kind → kind ≡ Syntax
    by_reason kind (spelled_wrong x) = refl
    by_reason kind (too_large n x l) = absurd (h n x)

    by_result : (r : Result ℕ ParseKind) → numeral run ≡ r → r ≡ Err Syntax
    by_result (Ok n) e = absurd (h n (number_is run n s e).0)
    by_result (Err kind) e = ap (λ (k : ParseKind). let r : Result ℕ ParseKind = Err k in r) (by_reason kind (numeral_err run kind s e))

-- what quotes take

opens : (q : ℕ) → IsQuote q → (92 == q) ≡ false
opens q (inl e) = rw e refl
opens q (inr e) = rw e refl

pub takes_len : (q : ℕ) → (92 == q) ≡ false → {bs inside : List ℕ} → Takes q bs inside → inside_len q false bs ≡ length inside
takes_len q k line_ends = refl
takes_len q k (quote_closes {bs = bs}) = take_then (q == q) 0 (1 + inside_len q (q == 92) bs) (eq-eqb q q refl)
takes_len q k (byte_taken {b = b} {bs = bs} n m h) =
    let ih = takes_len q k h in
    let e : inside_len q (b == 92) bs ≡ inside_len q false bs = ap (λ (t : Bool). inside_len q t bs) (ne_eqb b 92 m) in
    take_else (b == q) 0 (1 + inside_len q (b == 92) bs) (ne_eqb b q n) ∙ omega (arith, e, ih)
takes_len q k (pair_taken {bs = bs} h) =
    let ih = takes_len q k h in
    take_else (92 == q) 0 (1 + (1 + inside_len q false bs)) k ∙ omega (arith, ih)
takes_len q k last_taken = take_else (92 == q) 0 1 k

pub takes_front : (q : ℕ) {bs inside : List ℕ} → Takes q bs inside → take (length inside) bs ≡ inside
takes_front q line_ends = refl
takes_front q quote_closes = refl
takes_front q (byte_taken {b = b} n m h) = ap (λ (xs : List ℕ). b ∷ xs) (takes_front q h)
takes_front q (pair_taken {e = e} h) = ap (λ (xs : List ℕ). 92 ∷ e ∷ xs) (takes_front q h)
takes_front q last_taken = refl

abbrev TakesFlag : ℕ → Bool → List ℕ → Type 0
TakesFlag q false bs = Takes q bs (take (inside_len q false bs) bs)
TakesFlag q true bs = Takes q (92 ∷ bs) (92 ∷ take (inside_len q true bs) bs)

takes_flag : (q : ℕ) (f : Bool) (bs : List ℕ) → TakesFlag q f bs
takes_flag q false [] = line_ends
takes_flag q true [] = last_taken
takes_flag q true (b ∷ bs) =
    subst (λ (n : ℕ). Takes q (92 ∷ b ∷ bs) (92 ∷ take n (b ∷ bs))) (sym (one-add (inside_len q false bs))) (pair_taken (takes_flag q false bs))
takes_flag q false (b ∷ bs) =
    elim (tested (b == q)) [
      | inl e ↦
          subst (λ (n : ℕ). Takes q (b ∷ bs) (take n (b ∷ bs))) (sym (take_then (b == q) 0 (1 + inside_len q (b == 92) bs) e))
          (subst (λ (x : ℕ). Takes q (x ∷ bs) []) (sym (eqb-true b q e)) quote_closes)
      | inr e ↦
          subst (λ (n : ℕ). Takes q (b ∷ bs) (take n (b ∷ bs))) (sym (take_else (b == q) 0 (1 + inside_len q (b == 92) bs) e ∙ one-add (inside_len q (b == 92) bs)))
          (elim (tested (b == 92)) [
            | inl k ↦
                subst (λ (t : Bool). Takes q (b ∷ bs) (b ∷ take (inside_len q t bs) bs)) (sym k)
                (subst (λ (x : ℕ). Takes q (x ∷ bs) (x ∷ take (inside_len q true bs) bs)) (sym (eqb-true b 92 k)) (takes_flag q true bs))
            | inr k ↦
                subst (λ (t : Bool). Takes q (b ∷ bs) (b ∷ take (inside_len q t bs) bs)) (sym k) (byte_taken (eqb-false b q e) (eqb-false b 92 k) (takes_flag q false bs))
          ])
    ]

-- related: nothing is cut off

word_flaw : (b : ℕ) (t rest : List ℕ) (kind : ParseKind) → AreNameBytes (b ∷ t) → BeginsWithNoNameByte rest → word_front b (b ∷ t) ≡ flaw kind 0 → front (b ∷ (t ++ rest)) ≡ flaw kind 0
word_flaw b t rest kind r k h = front_run b t rest r k ∙ h

long_again : (run rest : List ℕ) → AreNameBytes run → BeginsWithNoNameByte rest → BeginsWithDigit run false → 64 < length run → front (run ++ rest) ≡ flaw OutOfRange 0
long_again [] rest r k d l = absurd d
long_again (b ∷ t) rest r k d l = word_flaw b t rest OutOfRange r k (take_else (is_ascii_digit b) _ _ d ∙ take_then (nat_lt 64 (length (b ∷ t))) _ _ (lt-ltb 64 (length (b ∷ t)) l))

number_flaw : (run rest : List ℕ) (kind : ParseKind) → AreNameBytes run → BeginsWithNoNameByte rest → BeginsWithDigit run true → numeral run ≡ Err kind → front (run ++ rest) ≡ flaw kind 0
number_flaw [] rest kind r k d h = absurd d
number_flaw (b ∷ t) rest kind r k d h = word_flaw b t rest kind r k (take_then (is_ascii_digit b) _ _ d ∙ ap (number_front (length (b ∷ t))) h)

some_run : (run : List ℕ) (digit : Bool) → BeginsWithDigit run digit → 0 < length run
some_run [] digit d = absurd d
some_run (b ∷ t) digit d = omega arith

digit_first : (run : List ℕ) (n : ℕ) → IsNumeral run n → BeginsWithDigit run true
digit_first [] n (inl h) = let s = h.some in absurd (omega arith)
digit_first (b ∷ t) n (inl h) = (both (is_ascii_digit b) true (decimal_first (b ∷ t) h.digits)).0
digit_first [] n (inr h) = let e = h.bytes in absurd cc
digit_first (b ∷ t) n (inr h) = let e = h.bytes in let x : b ≡ 48 = cc in ap is_ascii_digit x

front_plain : (b : ℕ) (bs : List ℕ) → is_comment b ≡ false → is_blank b ≡ false → is_plain b ≡ false → front (b ∷ bs) ≡ flaw NotAscii 0
unfolding front
front_plain b bs c k h = take_else (is_comment b) _ _ c ∙ take_else (is_blank b) _ _ k ∙ take_then (not (is_plain b)) _ _ (ap not h)

foreign_no_comment : (b : ℕ) → is_plain b ≡ false → is_comment b ≡ false
foreign_no_comment b h = no_such_byte is_plain 59 35 b refl refl h

foreign_no_blank : (b : ℕ) → is_plain b ≡ false → is_blank b ≡ false
foreign_no_blank b h = no_such_byte is_plain space tab b refl refl h

front_stray : (b : ℕ) (bs : List ℕ) → IsStray b → front (b ∷ bs) ≡ flaw Syntax 0
unfolding front
front_stray b bs h =
    let d = h.no_quote in
    let q : (b == 34 || b == 39) ≡ false = no_quote_byte b d in
    take_else (is_comment b) _ _ h.no_comment
    ∙ take_else (is_blank b) _ _ h.no_blank
    ∙ take_else (not (is_plain b)) _ _ (ap not h.valid)
    ∙ take_else (continues_name b) _ _ h.no_word
    ∙ take_else (is_mark b) _ _ h.no_mark
    ∙ take_else (b == 34 || b == 39) _ _ q
  where
    no_quote_byte : (b : ℕ) → (IsQuote b → ⊥) → (b == 34 || b == 39) ≡ false
    no_quote_byte b d = elim (tested (b == 34 || b == 39)) [ inl e ↦ absurd (d (is_quote b e)) | inr e ↦ e ]

front_quote : (q : ℕ) (bs : List ℕ) → IsQuote q → front (q ∷ bs) ≡ quoted q bs
front_quote q bs (inl e) = subst (λ (x : ℕ). front (x ∷ bs) ≡ quoted x bs) (sym e) (front_double bs)
front_quote q bs (inr e) = subst (λ (x : ℕ). front (x ∷ bs) ≡ quoted x bs) (sym e) (front_single bs)

makes : (q : ℕ) → IsQuote q → Makes q
makes q (inl e) = subst Makes (sym e) makes_text
makes q (inr e) = subst Makes (sym e) makes_character

abbrev pub quoted_from : ℕ → ℕ → ℕ → List ℕ → Result Cut Flaw
quoted_from q total len inside =
    if nat_lt (prefix_len is_plain inside) len then flaw NotAscii (prefix_len is_plain inside + 1)
    else token_or_flaw (len + 2) (if len == total then None else quoted_value q inside)

quoted_at : (q : ℕ) (bs inside : List ℕ) → (92 == q) ≡ false → Takes q bs inside → quoted q bs ≡ quoted_from q (length bs) (length inside) inside
unfolding quoted
quoted_at q bs inside k t =
    let l = takes_len q k t in
    ap₂ (λ (n : ℕ) (xs : List ℕ). quoted_from q (length bs) n xs) l (ap (λ (n : ℕ). take n bs) l ∙ takes_front q t)

foreign_len : (before : List ℕ) (b : ℕ) (after : List ℕ) → list_all is_plain before ≡ true → is_plain b ≡ false → prefix_len is_plain (before ++ b ∷ after) ≡ length before
foreign_len before b after h k = prefix_all is_plain before (b ∷ after) h k

foreign_again : (q : ℕ) (bs before : List ℕ) (b : ℕ) (after : List ℕ) → IsQuote q → Takes q bs (before ++ b ∷ after) → list_all is_plain before ≡ true → is_plain b ≡ false → front (q ∷ bs) ≡ flaw NotAscii (length before + 1)
foreign_again q bs before b after i t h k =
    let inside = before ++ b ∷ after in
    let p = foreign_len before b after h k in
    let l : prefix_len is_plain inside < length inside = omega (arith, p, length-append before (b ∷ after)) in
    front_quote q bs i
    ∙ quoted_at q bs inside (opens q i) t
    ∙ take_then (nat_lt (prefix_len is_plain inside) (length inside)) _ _ (lt-ltb (prefix_len is_plain inside) (length inside) l)
    ∙ ap (λ (n : ℕ). flaw NotAscii (n + 1)) p

no_token_made : (q : ℕ) (bs inside : List ℕ) → IsQuote q → Takes q bs inside → list_all is_plain inside ≡ true
    → ((m : TokenValue) (rest : List ℕ) → bs ≡ inside ++ q ∷ rest → IsToken (q ∷ inside ++ q ∷ []) m → ⊥)
    → (if length inside == length bs then None else quoted_value q inside) ≡ None
no_token_made q bs inside i t p h = by_length (tested (length inside == length bs))
  where
    by_meaning : (length inside == length bs) ≡ false → (o : Option TokenValue) → quoted_value q inside ≡ o → o ≡ None
    by_meaning e None f = refl
    by_meaning e (Some m) f =
        let l = takes_len q (opens q i) t in
        let s : take (inside_len q false bs) bs ≡ inside = ap (λ (n : ℕ). take n bs) l ∙ takes_front q t in
        let fits = inside_fits q false bs in
        let d = eqb-false (length inside) (length bs) e in
        let below : inside_len q false bs < length bs = omega (arith, l, fits, d) in
        let r = closed_by q false bs below in
        let again : inside_len q false inside ≡ length inside = sym (ap (inside_len q false) s) ∙ inside_again q false bs ∙ l in
        let lone : inside ≢ 92 ∷ [] = λ (x : inside ≡ 92 ∷ []). not_lone q bs below (s ∙ x) in
        absurd (h m r.0 (r.1 ∙ ap (λ (xs : List ℕ). xs ++ q ∷ r.0) s) (makes q i inside again p lone m f))

    by_length : ((length inside == length bs) ≡ true) ⊎ ((length inside == length bs) ≡ false) → (if length inside == length bs then None else quoted_value q inside) ≡ None
    by_length (inl e) = take_then (length inside == length bs) None (quoted_value q inside) e
    by_length (inr e) = take_else (length inside == length bs) None (quoted_value q inside) e ∙ by_meaning e (quoted_value q inside) refl

unquoted_again : (q : ℕ) (bs inside : List ℕ) → IsQuote q → Takes q bs inside → list_all is_plain inside ≡ true
    → ((m : TokenValue) (rest : List ℕ) → bs ≡ inside ++ q ∷ rest → IsToken (q ∷ inside ++ q ∷ []) m → ⊥) → front (q ∷ bs) ≡ flaw Syntax 0
unquoted_again q bs inside i t p h =
    let w = prefix_whole is_plain inside p in
    front_quote q bs i
    ∙ quoted_at q bs inside (opens q i) t
    ∙ take_else (nat_lt (prefix_len is_plain inside) (length inside)) _ _ (le-ltb (prefix_len is_plain inside) (length inside) (omega (arith, w)))
    ∙ ap (token_or_flaw (length inside + 2)) (no_token_made q bs inside i t p h)

pub flaw_again : (bytes : List ℕ) (at : ℕ) (kind : ParseKind) → IsFlaw bytes at kind → front bytes ≡ flaw kind at
flaw_again bytes at kind (foreign_byte {b = b} {bs = bs} h) = front_plain b bs (foreign_no_comment b h) (foreign_no_blank b h) h
flaw_again bytes at kind (foreign_in_quotes {q = q} {bs = bs} before b after i t h k) = foreign_again q bs before b after i t h k
flaw_again bytes at kind (no_quoted_token {q = q} {bs = bs} inside i t p h) = unquoted_again q bs inside i t p h
flaw_again bytes at kind (long_name run rest e r k d l) = ap front e ∙ long_again run rest r k d l
flaw_again bytes at kind (no_number run rest e r k d h) = ap front e ∙ number_flaw run rest Syntax r k d (no_numeral_err run (some_run run true d) h)
flaw_again bytes at kind (large_number run rest n e r k h l) = ap front e ∙ number_flaw run rest OutOfRange r k (digit_first run n h) (numeral_of run n h ∙ bounded_above n l)
flaw_again bytes at kind (stray_byte {b = b} {bs = bs} h) = front_stray b bs h

-- read: why nothing is cut off

pub flaw_some : (bytes : List ℕ) (at : ℕ) (kind : ParseKind) → IsFlaw bytes at kind → 0 < length bytes
flaw_some bytes at kind (foreign_byte h) = omega arith
flaw_some bytes at kind (foreign_in_quotes before b after i t h k) = omega arith
flaw_some bytes at kind (no_quoted_token inside i t p h) = omega arith
flaw_some bytes at kind (long_name run rest e r k d l) = omega (arith, ap length e, length-append run rest, some_run run false d)
flaw_some bytes at kind (no_number run rest e r k d h) = omega (arith, ap length e, length-append run rest, some_run run true d)
flaw_some bytes at kind (large_number run rest n e r k h l) = omega (arith, ap length e, length-append run rest, some_run run true (digit_first run n h))
flaw_some bytes at kind (stray_byte h) = omega arith

abbrev Flawed : List ℕ → Flaw → Type 0
Flawed bytes f = IsFlaw bytes f.at f.kind

no_number_is : (b : ℕ) (t rest bytes : List ℕ) (kind : ParseKind) → bytes ≡ (b ∷ t) ++ rest → AreNameBytes (b ∷ t) → BeginsWithNoNameByte rest → is_ascii_digit b ≡ true → NoNumber (b ∷ t) kind → IsFlaw bytes 0 kind
no_number_is b t rest bytes kind e r k d (spelled_wrong h) = no_number (b ∷ t) rest e r k d h
no_number_is b t rest bytes kind e r k d (too_large n h l) = large_number (b ∷ t) rest n e r k h l

word_flawed : (b : ℕ) (t rest bytes : List ℕ) (f : Flaw) → bytes ≡ (b ∷ t) ++ rest → AreNameBytes (b ∷ t) → BeginsWithNoNameByte rest → word_front b (b ∷ t) ≡ Err f → Flawed bytes f
word_flawed b t rest bytes f e r k h =
    elim (chosen (is_ascii_digit b) (number_front (length (b ∷ t)) (numeral (b ∷ t))) (name_front (b ∷ t)) (Err f) h) [
      | inl j ↦ by_numeral (numeral (b ∷ t)) refl j.0 j.1
      | inr j ↦
          elim (chosen (nat_lt 64 (length (b ∷ t))) (flaw OutOfRange 0) (token_cut (length (b ∷ t)) (a_name (b ∷ t))) (Err f) j.1) [
            | inl i ↦ subst (Flawed bytes) (flaw_same i.1) (long_name (b ∷ t) rest e r k j.0 (ltb-true 64 (length (b ∷ t)) i.0))
            | inr i ↦ absurd (no_flaw i.1)
          ]
    ]
  where
    by_numeral : (v : Result ℕ ParseKind) → numeral (b ∷ t) ≡ v → is_ascii_digit b ≡ true → number_front (length (b ∷ t)) v ≡ Err f → Flawed bytes f
    by_numeral (Ok n) x d g = absurd (no_flaw g)
    by_numeral (Err kind) x d g = subst (Flawed bytes) (flaw_same g) (no_number_is b t rest bytes kind e r k d (numeral_err (b ∷ t) kind (omega arith) x))

run_flawed : (b : ℕ) (bs : List ℕ) (f : Flaw) → continues_name b ≡ true → word_front b (b ∷ take (prefix_len continues_name bs) bs) ≡ Err f → Flawed (b ∷ bs) f
run_flawed b bs f w h =
    let n = prefix_len continues_name bs in
    let r : AreNameBytes (b ∷ take n bs) = ap (λ (t : Bool). t && list_all continues_name (take n bs)) w ∙ all_of_prefix continues_name bs in
    word_flawed b (take n bs) (drop n bs) (b ∷ bs) f (ap (λ (xs : List ℕ). b ∷ xs) (sym (take-append-drop n bs))) r (ends (drop n bs) (stops_prefix continues_name bs)) h
  where
    ends : (xs : List ℕ) → Stops continues_name xs → BeginsWithNoNameByte xs
    ends [] x = tt
    ends (y ∷ ys) x = x

-- a list that a test stops in
split_at : (p : ℕ → Bool) (xs : List ℕ) → prefix_len p xs < length xs → (b : ℕ) × (after : List ℕ) × (xs ≡ take (prefix_len p xs) xs ++ b ∷ after) × (p b ≡ false)
split_at p xs h = by_rest (drop (prefix_len p xs) xs) refl (stops_prefix p xs)
  where
    by_rest : (ys : List ℕ) → drop (prefix_len p xs) xs ≡ ys → Stops p (drop (prefix_len p xs) xs) → (b : ℕ) × (after : List ℕ) × (xs ≡ take (prefix_len p xs) xs ++ b ∷ after) × (p b ≡ false)
    by_rest [] e s = absurd (omega (arith, h, ap length e, length-drop (prefix_len p xs) xs))
    by_rest (y ∷ ys) e s = (y, ys, sym (take-append-drop (prefix_len p xs) xs) ∙ ap (λ (zs : List ℕ). take (prefix_len p xs) xs ++ zs) e, subst (Stops p) e s)

no_meaning : (len : ℕ) (o : Option TokenValue) (f : Flaw) → token_or_flaw len o ≡ Err f → record { at = 0; kind = Syntax } ≡ f
no_meaning len (Some m) f h = absurd (no_flaw h)
no_meaning len None f h = flaw_same h

quote_no_word : (q : ℕ) → IsQuote q → continues_name q ≡ false
quote_no_word q (inl e) = ap continues_name e
quote_no_word q (inr e) = ap continues_name e

quoted_flawed : (q : ℕ) (bs : List ℕ) (f : Flaw) → IsQuote q → quoted q bs ≡ Err f → Flawed (q ∷ bs) f
quoted_flawed q bs f i h =
    let len = inside_len q false bs in
    let inside = take len bs in
    let fits = inside_fits q false bs in
    let size : length inside ≡ len = omega (arith, length-take len bs, fits) in
    let t = takes_flag q false bs in
    let k : quoted_from q (length bs) (length inside) inside ≡ Err f = sym (quoted_at q bs inside (opens q i) t) ∙ h in
    elim (chosen (nat_lt (prefix_len is_plain inside) (length inside)) (flaw NotAscii (prefix_len is_plain inside + 1)) (token_or_flaw (length inside + 2) (if length inside == length bs then None else quoted_value q inside)) (Err f) k) [
      | inl j ↦
          let s = split_at is_plain inside (ltb-true (prefix_len is_plain inside) (length inside) j.0) in
          let before = take (prefix_len is_plain inside) inside in
          let l : length before ≡ prefix_len is_plain inside = omega (arith, length-take (prefix_len is_plain inside) inside, prefix_len-le-length is_plain inside) in
          subst (Flawed (q ∷ bs)) (ap (λ (n : ℕ). let x : Flaw = record { at = n + 1; kind = NotAscii } in x) l ∙ flaw_same j.1)
          (foreign_in_quotes before s.0 s.1 i (subst (Takes q bs) s.2 t) (all_of_prefix is_plain inside) s.3)
      | inr j ↦
          let plain : list_all is_plain inside ≡ true = whole_prefix is_plain inside (omega (arith, prefix_len-le-length is_plain inside, ltb-false (prefix_len is_plain inside) (length inside) j.0)) in
          let e = no_meaning (length inside + 2) (if length inside == length bs then None else quoted_value q inside) f j.1 in
          subst (Flawed (q ∷ bs)) e (no_quoted_token inside i t plain (λ (m : TokenValue) (rest : List ℕ) (b : bs ≡ inside ++ q ∷ rest) (x : IsToken (q ∷ inside ++ q ∷ []) m). cuts inside rest m b x))
    ]
  where
    cuts : (inside rest : List ℕ) (m : TokenValue) → bs ≡ inside ++ q ∷ rest → IsToken (q ∷ inside ++ q ∷ []) m → ⊥
    cuts inside rest m b x =
        let no_run : AreNameBytes (q ∷ inside ++ q ∷ []) → BeginsWithNoNameByte rest = λ (r : AreNameBytes (q ∷ inside ++ q ∷ [])). absurd (true≢false (sym (both (continues_name q) (list_all continues_name (inside ++ q ∷ [])) r).0 ∙ quote_no_word q i)) in
        let c : front (q ∷ bs) ≡ token_cut (length (q ∷ inside ++ q ∷ [])) m =
        ap front (ap (λ (xs : List ℕ). q ∷ xs) b ∙ sym (between q inside rest)) ∙ front_again (q ∷ inside ++ q ∷ []) rest m x no_run in
        let e : ◌≡◌ {A = Result Cut Flaw} (Err f) (token_cut (length (q ∷ inside ++ q ∷ [])) m) = sym h ∙ sym (front_quote q bs i) ∙ c in
        no_flaw (sym e)

stray_is : (b : ℕ) → is_plain b ≡ true → is_comment b ≡ false → is_blank b ≡ false → continues_name b ≡ false → is_mark b ≡ false → (b == 34 || b == 39) ≡ false → IsStray b
stray_is b p c k w m q = record { valid = p; no_comment = c; no_blank = k; no_word = w; no_mark = m; no_quote = none }
  where
    none : IsQuote b → ⊥
    none (inl e) = true≢false (sym (ap (λ (x : ℕ). x == 34 || x == 39) e) ∙ q)
    none (inr e) = true≢false (sym (ap (λ (x : ℕ). x == 34 || x == 39) e) ∙ q)

pub front_flawed : (b : ℕ) (bs : List ℕ) (f : Flaw) → front (b ∷ bs) ≡ Err f → Flawed (b ∷ bs) f
unfolding front
front_flawed b bs f h =
    elim (chosen (is_comment b) _ _ _ h) [
      | inl i ↦ absurd (no_flaw i.1)
      | inr i ↦
          elim (chosen (is_blank b) _ _ _ i.1) [
            | inl j ↦ absurd (no_flaw j.1)
            | inr j ↦
                elim (chosen (not (is_plain b)) _ _ _ j.1) [
                  | inl k ↦ subst (Flawed (b ∷ bs)) (flaw_same k.1) (foreign_byte (not_true (is_plain b) k.0))
                  | inr k ↦
                      elim (chosen (continues_name b) _ _ _ k.1) [
                        | inl l ↦ run_flawed b bs f l.0 (ap (word_front b) (sym (run_at b bs l.0)) ∙ l.1)
                        | inr l ↦
                            elim (chosen (is_mark b) _ _ _ l.1) [
                              | inl m ↦ absurd (no_flaw m.1)
                              | inr m ↦
                                  elim (chosen (b == 34 || b == 39) _ _ _ m.1) [
                                    | inl n ↦ quoted_flawed b bs f (is_quote b n.0) n.1
                                    | inr n ↦ subst (Flawed (b ∷ bs)) (flaw_same n.1) (stray_byte (stray_is b (not_false (is_plain b) k.0) i.0 j.0 l.0 m.0 n.0))
                                  ]
                            ]
                      ]
                ]
          ]
    ]
