-- The law of names: which names are registers, control registers and symbols.
use Rattle.std.proofs.Common.{◌≡◌, ◌≢◌, ℕ, ◌<◌, ◌≤◌, Bool, true, false, not, ◌&&◌, ◌||◌, ◌==◌, nat_le, nat_lt, inl, inr, List, [], ◌∷◌, length, Option, Some, None, is_some, refl, sym, ap, ◌∙◌, arith, subst, ap₂, eqb-true, ltb-true, lt-ltb, leb-true, codes, decimal, bytes_eq, true≢false}
use Rattle.std.specs.Str.Parse.{digits_value}
use Rattle.std.specs.List.{list_all}
use Rattle.std.proofs.lemmas.List.Sums.{list_all-from_AllPass, AllPass-from_list_all}
use Rattle.std.proofs.lemmas.Slice.Eq.{bytes_eq-Decides}
use Rattle.m88_base.specs.Numerals.{is_numeral, number_in, has_no_needless_zero, decimal_in}
use Rattle.m88_base.proofs.Laws.{decimal_found, decimal_needed, decimal_told}
use Rattle.m88_base.specs.Name.{IsName, begins_name, continues_name}
use Rattle.m88_parse.specs.Inside.Names.{register_of, control_of, float_control_of, control_in, is_here, is_valid_name, is_symbol}
use Rattle.m88_parse.specs.Language.Names.{IsRegisterName, IsControlName, IsSymbolName}
use Rattle.m88_parse.proofs.Law.TestsAndChoices.{both, neither, chosen, not_true, take_then, tested}

pub some_same : {A : Type 0} {a b : A} → Some a ≡ Some b → a ≡ b
some_same h = cc

decimal_is : (most n : ℕ) (ds : List ℕ) → most < 4294967296 → decimal_in most ds ≡ Some n → (ds ≡ decimal n) × (n ≤ most)
decimal_is most n ds small h =
    elim (chosen (has_no_needless_zero ds) (number_in 10 most ds) None (Some n) h) [
      | inl j ↦
          elim (chosen (is_numeral 10 ds && nat_le (digits_value 10 ds) most) (Some (digits_value 10 ds)) None (Some n) j.1) [
            | inl k ↦
                let b = both (is_numeral 10 ds) (nat_le (digits_value 10 ds) most) k.0 in
                (decimal_found most ds (Some n) small j.0 (sym j.1), subst (λ (x : ℕ). x ≤ most) (some_same k.1) (leb-true (digits_value 10 ds) most b.1))
            | inr k ↦ absurd cc
          ]
      | inr j ↦ absurd cc
    ]

decimal_again : (most n : ℕ) → most < 4294967296 → n ≤ most → decimal_in most (decimal n) ≡ Some n
decimal_again most n small l =
    take_then (has_no_needless_zero (decimal n)) (number_in 10 most (decimal n)) None (decimal_needed n (omega (arith, small, l))) ∙ decimal_told most n small l

pub register_is : (name : List ℕ) (n : ℕ) → register_of name ≡ Some n → IsRegisterName name n
unfolding register_of
register_is [] n h = absurd cc
register_is (r ∷ ds) n h =
    elim (chosen (r == 114) (decimal_in 31 ds) None (Some n) h) [
      | inl j ↦ let e = eqb-true r 114 j.0 in let k = decimal_is 31 n ds (omega arith) j.1 in (ap₂ (λ (x : ℕ) (xs : List ℕ). x ∷ xs) e k.0, k.1)
      | inr j ↦ absurd cc
    ]

pub register_name_again : (name : List ℕ) (n : ℕ) → IsRegisterName name n → register_of name ≡ Some n
unfolding register_of
register_name_again name n h = ap register_of h.0 ∙ decimal_again 31 n (omega arith) h.1

control_is : (name : List ℕ) (n : ℕ) → control_of name ≡ Some n → IsControlName false name n
unfolding control_of
control_is [] n h = absurd cc
control_is (c ∷ []) n h = absurd cc
control_is (c ∷ r ∷ ds) n h =
    elim (chosen (c == 99 && r == 114) (decimal_in 63 ds) None (Some n) h) [
      | inl j ↦
          let b = both (c == 99) (r == 114) j.0 in
          let e = eqb-true c 99 b.0 in
          let f = eqb-true r 114 b.1 in
          let k = decimal_is 63 n ds (omega arith) j.1 in
          (ap₂ (λ (x y : ℕ). x ∷ y ∷ ds) e f ∙ ap (λ (xs : List ℕ). 99 ∷ 114 ∷ xs) k.0, k.1)
      | inr j ↦ absurd cc
    ]

control_again : (name : List ℕ) (n : ℕ) → IsControlName false name n → control_of name ≡ Some n
unfolding control_of
control_again name n h = ap control_of h.0 ∙ decimal_again 63 n (omega arith) h.1

float_is : (name : List ℕ) (n : ℕ) → float_control_of name ≡ Some n → IsControlName true name n
unfolding float_control_of
float_is [] n h = absurd cc
float_is (f ∷ name) n h =
    elim (chosen (f == 102) (control_of name) None (Some n) h) [
      | inl j ↦
          let k = control_is name n j.1 in
          (ap₂ (λ (x : ℕ) (xs : List ℕ). x ∷ xs) (eqb-true f 102 j.0) k.0, k.1)
      | inr j ↦ absurd cc
    ]

float_again : (name : List ℕ) (n : ℕ) → IsControlName true name n → float_control_of name ≡ Some n
unfolding float_control_of control_of
float_again name n h = ap float_control_of h.0 ∙ decimal_again 63 n (omega arith) h.1

pub control_name_is : (float : Bool) (name : List ℕ) (n : ℕ) → control_in float name ≡ Some n → IsControlName float name n
control_name_is false name n h = control_is name n h
control_name_is true name n h = float_is name n h

pub control_name_again : (float : Bool) (name : List ℕ) (n : ℕ) → IsControlName float name n → control_in float name ≡ Some n
control_name_again false name n h = control_again name n h
control_name_again true name n h = float_again name n h

pub name_is : (name : List ℕ) → is_valid_name name ≡ true → IsName name
unfolding is_valid_name
name_is [] h = absurd cc
name_is (b ∷ bs) h =
    let i = both (begins_name b && nat_lt (length bs) 64) (list_all continues_name bs) h in
    let j = both (begins_name b) (nat_lt (length bs) 64) i.0 in
    (j.0, AllPass-from_list_all continues_name bs i.1, ltb-true (length bs) 64 j.1)

pub name_spelled_again : (name : List ℕ) → IsName name → is_valid_name name ≡ true
unfolding is_valid_name
name_spelled_again [] h = absurd h
name_spelled_again (b ∷ bs) h =
    ap (λ (t : Bool). t && nat_lt (length bs) 64 && list_all continues_name bs) h.0
    ∙ ap (λ (t : Bool). t && list_all continues_name bs) (lt-ltb (length bs) 64 h.2)
    ∙ list_all-from_AllPass continues_name bs h.1

never : (o : Option ℕ) → is_some o ≡ false → (n : ℕ) → o ≡ Some n → ⊥
never None h n e = cc
never (Some m) h n e = cc

not_some : (o : Option ℕ) → ((n : ℕ) → o ≡ Some n → ⊥) → is_some o ≡ false
not_some None h = refl
not_some (Some m) h = absurd (h m refl)

same_bytes : (a b : List ℕ) → bytes_eq a b ≡ true → a ≡ b
same_bytes a b h = (bytes_eq-Decides a b).0 h

pub equal_bytes : (a b : List ℕ) → a ≡ b → bytes_eq a b ≡ true
equal_bytes a b h = (bytes_eq-Decides a b).1 h

pub other_bytes : (a b : List ℕ) → a ≢ b → bytes_eq a b ≡ false
other_bytes a b h = elim (tested (bytes_eq a b)) [ inl e ↦ absurd (h (same_bytes a b e)) | inr e ↦ e ]

no_control_name : (name : List ℕ) → is_some (control_of name) ≡ false → is_some (float_control_of name) ≡ false → (float : Bool) (n : ℕ) → IsControlName float name n → ⊥
no_control_name name c f false n h = never (control_of name) c n (control_again name n h)
no_control_name name c f true n h = never (float_control_of name) f n (float_again name n h)

pub symbol_is : (name : List ℕ) → is_symbol name ≡ true → IsSymbolName name
unfolding is_symbol
symbol_is name h =
    let i = both (is_valid_name name) (not (is_here name || is_some (register_of name) || is_some (control_of name) || is_some (float_control_of name))) h in
    let j = neither (is_here name || is_some (register_of name) || is_some (control_of name)) (is_some (float_control_of name)) (not_true _ i.1) in
    let k = neither (is_here name || is_some (register_of name)) (is_some (control_of name)) j.0 in
    let l = neither (is_here name) (is_some (register_of name)) k.0 in
    record {
      valid = name_is name i.0;
      no_place = λ (e : name ≡ codes "."). true≢false (sym (equal_bytes name (codes ".") e) ∙ l.0);
      no_register = λ (n : ℕ) (r : IsRegisterName name n). never (register_of name) l.1 n (register_name_again name n r);
      no_control = no_control_name name k.1 j.1;
    }

pub symbol_name_again : (name : List ℕ) → IsSymbolName name → is_symbol name ≡ true
unfolding is_symbol
symbol_name_again name h =
    ap₂ (λ (a b : Bool). a && not (b || is_some (register_of name) || is_some (control_of name) || is_some (float_control_of name))) (name_spelled_again name h.valid) (other_bytes name (codes ".") h.no_place)
    ∙ ap (λ (b : Bool). not (b || is_some (control_of name) || is_some (float_control_of name))) (not_some (register_of name) (λ (n : ℕ) (e : register_of name ≡ Some n). h.no_register n (register_is name n e)))
    ∙ ap₂ (λ (a b : Bool). not (a || b)) (not_some (control_of name) (λ (n : ℕ) (e : control_of name ≡ Some n). h.no_control false n (control_is name n e))) (not_some (float_control_of name) (λ (n : ℕ) (e : float_control_of name ≡ Some n). h.no_control true n (float_is name n e)))
