-- The law of quotes: what is read behind an opening quote is what stands between two quotes.
use Rattle.std.proofs.Common.{◌≡◌, ◌≢◌, ℕ, suc, ◌+◌, ◌<◌, ◌≤◌, Bool, true, false, cond, not, ◌&&◌, ◌==◌, inl, inr, List, [], ◌∷◌, ◌++◌, length, take, Some, None, refl, sym, ap, ◌∙◌, arith, subst, eqb-true, eq-eqb, ne_eqb, one-add, zero-le}
use Rattle.std.specs.List.{list_all}
use Rattle.std.proofs.lemmas.Bool.{eqb-false}
use Rattle.std.proofs.lemmas.Bool.Decides.{nat_tests}
use Rattle.m88_parse.specs.Inside.Tokens.{begins_escape, closes, inside_len, holds_escapes, text_bytes, character}
use Rattle.m88_parse.specs.Language.Bytes.{is_plain, is_escape, escape_value}
use Rattle.m88_parse.specs.Language.Tokens.{Holds, nothing, itself, escape}
use Rattle.m88_parse.proofs.Law.TestsAndChoices.{both, chosen, tested, take_then, take_else}

pub escape_plain : (e : ℕ) → is_escape e ≡ true → is_plain e ≡ true
escape_plain e h = grind (arith, nat_tests)

-- related: what is read of it

pub holds_len : (q : ℕ) → (92 == q) ≡ false → {inside bytes : List ℕ} → Holds q inside bytes → (rest : List ℕ) → inside_len q false (inside ++ q ∷ rest) ≡ length inside
holds_len q k nothing rest = take_then (q == q) 0 (1 + inside_len q (q == 92) rest) (eq-eqb q q refl)
holds_len q k (itself {b = b} {inside = inside} p x y h) rest =
    let ih = holds_len q k h rest in
    let e : inside_len q (b == 92) (inside ++ q ∷ rest) ≡ inside_len q false (inside ++ q ∷ rest) = ap (λ (t : Bool). inside_len q t (inside ++ q ∷ rest)) (ne_eqb b 92 x) in
    take_else (b == q) 0 (1 + inside_len q (b == 92) (inside ++ q ∷ rest)) (ne_eqb b q y) ∙ omega (arith, e, ih)
holds_len q k (escape {e = e} {inside = inside} p h) rest =
    let ih = holds_len q k h rest in
    take_else (92 == q) 0 (1 + (1 + inside_len q false (inside ++ q ∷ rest))) k ∙ omega (arith, ih)

pub holds_plain : (q : ℕ) {inside bytes : List ℕ} → Holds q inside bytes → list_all is_plain inside ≡ true
holds_plain q nothing = refl
holds_plain q (itself {b = b} {inside = inside} p x y h) = ap (λ (t : Bool). t && list_all is_plain inside) p ∙ holds_plain q h
holds_plain q (escape {e = e} {inside = inside} p h) = ap (λ (t : Bool). t && list_all is_plain inside) (escape_plain e p) ∙ holds_plain q h

pub holds_again : (q : ℕ) {inside bytes : List ℕ} → Holds q inside bytes → holds_escapes false inside ≡ true
holds_again q nothing = refl
holds_again q (itself {b = b} {inside = inside} p x y h) = ap (λ (t : Bool). holds_escapes t inside) (ne_eqb b 92 x) ∙ holds_again q h
holds_again q (escape {e = e} {inside = inside} p h) = ap (λ (t : Bool). not (not t) && holds_escapes false inside) p ∙ holds_again q h

pub bytes_again : (q : ℕ) {inside bytes : List ℕ} → Holds q inside bytes → text_bytes false inside ≡ bytes
bytes_again q nothing = refl
bytes_again q (itself {b = b} {inside = inside} {bytes = bytes} p x y h) =
    take_else (b == 92) (text_bytes true inside) (b ∷ text_bytes false inside) (ne_eqb b 92 x) ∙ ap (λ (bs : List ℕ). b ∷ bs) (bytes_again q h)
bytes_again q (escape {e = e} {inside = inside} p h) = ap (λ (bs : List ℕ). escape_value e ∷ bs) (bytes_again q h)

pub character_again : (q n : ℕ) {inside : List ℕ} → Holds q inside (n ∷ []) → character inside ≡ Some n
character_again q n (itself p x y nothing) = refl
character_again q n (escape {e = e} p nothing) = take_then (is_escape e) (Some (escape_value e)) None p

-- read: how it is related

not_not : (a : Bool) → not (not a) ≡ true → a ≡ true
not_not true h = refl
not_not false h = absurd cc

some_is : {a b : ℕ} → Some a ≡ Some b → a ≡ b
some_is h = cc

abbrev FromFlag : ℕ → Bool → List ℕ → Type 0
FromFlag q false inside = Holds q inside (text_bytes false inside)
FromFlag q true inside = Holds q (92 ∷ inside) (text_bytes true inside)

goes_on : (t : Bool) (n m : ℕ) → cond t 0 (1 + n) ≡ suc m → (t ≡ false) × (n ≡ m)
goes_on true n m h = absurd (omega (arith, h))
goes_on false n m h = (refl, omega (arith, h))

with_backslash : (q b : ℕ) (inside : List ℕ) → (b == 92) ≡ true → Holds q (92 ∷ inside) (text_bytes true inside) → Holds q (b ∷ inside) (text_bytes false (b ∷ inside))
with_backslash q b inside e h =
    subst (λ (bs : List ℕ). Holds q (b ∷ inside) bs) (sym (take_then (b == 92) (text_bytes true inside) (b ∷ text_bytes false inside) e))
    (subst (λ (x : ℕ). Holds q (x ∷ inside) (text_bytes true inside)) (sym (eqb-true b 92 e)) h)

with_itself : (q b : ℕ) (inside : List ℕ) → (b == 92) ≡ false → Holds q (b ∷ inside) (b ∷ text_bytes false inside) → Holds q (b ∷ inside) (text_bytes false (b ∷ inside))
with_itself q b inside e h =
    subst (λ (bs : List ℕ). Holds q (b ∷ inside) bs) (sym (take_else (b == 92) (text_bytes true inside) (b ∷ text_bytes false inside) e)) h

from_flag : (q : ℕ) (f : Bool) (inside : List ℕ) → inside_len q f inside ≡ length inside → list_all is_plain inside ≡ true → holds_escapes f inside ≡ true → FromFlag q f inside
from_flag q false [] l p h = nothing
from_flag q true [] l p h = absurd cc
from_flag q true (b ∷ inside) l p h =
    let j = both (not (not (is_escape b))) (holds_escapes false inside) h in
    let k = both (is_plain b) (list_all is_plain inside) p in
    escape (not_not (is_escape b) j.0) (from_flag q false inside (omega (arith, l)) k.1 j.1)
from_flag q false (b ∷ inside) l p h =
    let j = both (is_plain b) (list_all is_plain inside) p in
    let k = goes_on (b == q) (inside_len q (b == 92) inside) (length inside) l in
    elim (tested (b == 92)) [
      | inl e ↦
          let l' : inside_len q true inside ≡ length inside = sym (ap (λ (t : Bool). inside_len q t inside) e) ∙ k.1 in
          let h' : holds_escapes true inside ≡ true = sym (ap (λ (t : Bool). holds_escapes t inside) e) ∙ h in
          with_backslash q b inside e (from_flag q true inside l' j.1 h')
      | inr e ↦
          let l' : inside_len q false inside ≡ length inside = sym (ap (λ (t : Bool). inside_len q t inside) e) ∙ k.1 in
          let h' : holds_escapes false inside ≡ true = sym (ap (λ (t : Bool). holds_escapes t inside) e) ∙ h in
          with_itself q b inside e (itself j.0 (eqb-false b 92 e) (eqb-false b q k.0) (from_flag q false inside l' j.1 h'))
    ]

pub text_is : (q : ℕ) (inside : List ℕ) → inside_len q false inside ≡ length inside → list_all is_plain inside ≡ true → holds_escapes false inside ≡ true → Holds q inside (text_bytes false inside)
text_is q inside l p h = from_flag q false inside l p h

-- a character: no backslash stands alone before a closing quote
pub character_is : (q n : ℕ) (inside : List ℕ) → inside_len q false inside ≡ length inside → list_all is_plain inside ≡ true → inside ≢ 92 ∷ [] → character inside ≡ Some n → Holds q inside (n ∷ [])
character_is q n [] l p w h = absurd cc
character_is q n (b ∷ []) l p w h =
    let j = both (is_plain b) true p in
    let k = goes_on (b == q) (inside_len q (b == 92) []) 0 l in
    let e : b ≡ n = cc in
    subst (λ (v : ℕ). Holds q (b ∷ []) (v ∷ [])) e (itself j.0 (λ (x : b ≡ 92). w (ap (λ (y : ℕ). y ∷ []) x)) (eqb-false b q k.0) nothing)
character_is q n (b ∷ e ∷ []) l p w h =
    elim (chosen (b == 92 && is_escape e) (Some (escape_value e)) None (Some n) h) [
      | inl j ↦
          let k = both (b == 92) (is_escape e) j.0 in
          let v : escape_value e ≡ n = some_is j.1 in
          subst (λ (x : ℕ). Holds q (x ∷ e ∷ []) (n ∷ [])) (sym (eqb-true b 92 k.0)) (subst (λ (x : ℕ). Holds q (92 ∷ e ∷ []) (x ∷ [])) v (escape k.1 nothing))
      | inr j ↦ absurd cc
    ]
character_is q n (b ∷ e ∷ d ∷ bs) l p w h = absurd cc

-- where a closing quote stands

len_closed : (q : ℕ) (f : Bool) (b : ℕ) (bs : List ℕ) → closes q f b ≡ true → inside_len q f (b ∷ bs) ≡ 0
len_closed q f b bs e = take_then (closes q f b) 0 (1 + inside_len q (begins_escape f b) bs) e

len_open : (q : ℕ) (f : Bool) (b : ℕ) (bs : List ℕ) → closes q f b ≡ false → inside_len q f (b ∷ bs) ≡ suc (inside_len q (begins_escape f b) bs)
len_open q f b bs e = take_else (closes q f b) 0 (1 + inside_len q (begins_escape f b) bs) e ∙ one-add (inside_len q (begins_escape f b) bs)

pub inside_fits : (q : ℕ) (f : Bool) (bs : List ℕ) → inside_len q f bs ≤ length bs
inside_fits q f [] = zero-le
inside_fits q f (b ∷ bs) =
    let ih = inside_fits q (begins_escape f b) bs in
    elim (tested (closes q f b)) [
      | inl e ↦ omega (arith, len_closed q f b bs e)
      | inr e ↦ omega (arith, len_open q f b bs e, ih)
    ]

pub inside_again : (q : ℕ) (f : Bool) (bs : List ℕ) → inside_len q f (take (inside_len q f bs) bs) ≡ inside_len q f bs
inside_again q f [] = refl
inside_again q f (b ∷ bs) =
    let ih = inside_again q (begins_escape f b) bs in
    elim (tested (closes q f b)) [
      | inl e ↦ let l = len_closed q f b bs e in ap (λ (n : ℕ). inside_len q f (take n (b ∷ bs))) l ∙ sym l
      | inr e ↦
          let l = len_open q f b bs e in
          ap (λ (n : ℕ). inside_len q f (take n (b ∷ bs))) l
          ∙ len_open q f b (take (inside_len q (begins_escape f b) bs) bs) e
          ∙ ap suc ih
          ∙ sym l
    ]

-- behind what stands inside comes the quote
pub closed_by : (q : ℕ) (f : Bool) (bs : List ℕ) → inside_len q f bs < length bs → (rest : List ℕ) × (bs ≡ take (inside_len q f bs) bs ++ q ∷ rest)
closed_by q f [] h = absurd (omega arith)
closed_by q f (b ∷ bs) h =
    elim (tested (closes q f b)) [
      | inl e ↦
          let l = len_closed q f b bs e in
          (bs, ap (λ (x : ℕ). x ∷ bs) (eqb-true b q (both (not f) (b == q) e).1) ∙ sym (ap (λ (n : ℕ). take n (b ∷ bs) ++ q ∷ bs) l))
      | inr e ↦
          let l = len_open q f b bs e in
          let r = closed_by q (begins_escape f b) bs (omega (arith, l, h)) in
          (r.0, ap (λ (xs : List ℕ). b ∷ xs) r.1 ∙ sym (ap (λ (n : ℕ). take n (b ∷ bs) ++ q ∷ r.0) l))
    ]

some_escaped : (q : ℕ) (bs : List ℕ) → inside_len q true bs < length bs → take (inside_len q true bs) bs ≢ []
some_escaped q [] h e = omega arith
some_escaped q (c ∷ cs) h e =
    let f : c ∷ take (inside_len q false cs) cs ≡ [] = sym (ap (λ (n : ℕ). take n (c ∷ cs)) (one-add (inside_len q false cs))) ∙ e in
    cc

-- a backslash doesn't stand alone there
pub not_lone : (q : ℕ) (bs : List ℕ) → inside_len q false bs < length bs → take (inside_len q false bs) bs ≢ 92 ∷ []
not_lone q [] h e = omega arith
not_lone q (b ∷ bs) h e =
    elim (tested (closes q false b)) [
      | inl c ↦ let f : ◌≡◌ {A = List ℕ} [] (92 ∷ []) = sym (ap (λ (n : ℕ). take n (b ∷ bs)) (len_closed q false b bs c)) ∙ e in cc
      | inr c ↦
          let l = len_open q false b bs c in
          let f : b ∷ take (inside_len q (b == 92) bs) bs ≡ 92 ∷ [] = sym (ap (λ (n : ℕ). take n (b ∷ bs)) l) ∙ e in
          let x : b ≡ 92 = cc in
          let y : take (inside_len q (b == 92) bs) bs ≡ [] = cc in
          let t : inside_len q (b == 92) bs ≡ inside_len q true bs = ap (λ (u : Bool). inside_len q u bs) (eq-eqb b 92 x) in
          some_escaped q bs (omega (arith, l, h, t)) (sym (ap (λ (n : ℕ). take n bs) t) ∙ y)
    ]
