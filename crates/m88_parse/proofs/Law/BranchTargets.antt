-- The law of where branches go, walked once.
use Rattle.std.proofs.Common.{◌≡◌, ◌↔◌, ℕ, ◌-◌, ◌*◌, ◌/◌, ◌%◌, ◌^◌, ◌<◌, ◌≤◌, ℤ, pos, Bool, true, false, ◌&&◌, ◌==◌, nat_le, inl, inr, List, [], ◌∷◌, Option, Some, None, Ok, refl, sym, ap, ap₂, ◌∙◌, arith, subst, eqb-true, leb-true, le-leb, codes, true≢false}
use Rattle.std.specs.Prelude.{neg_ℤ}
use Rattle.std.proofs.Math.Pow.{suc_ones}
use Rattle.std.proofs.lemmas.Slice.Eq.{bytes_eq-Decides}
use Rattle.m88_base.specs.declared.fixup.Kind.{Kind}
use Rattle.m88_base.specs.declared.fixup.Fixup.{Fixup}
use Rattle.m88_parse.specs.declared.fault.ParseKind.TheVariants.{OutOfRange}
use Rattle.m88_parse.specs.declared.unit.Body.{Body}
use Rattle.m88_parse.specs.declared.operand.Target.{Target}
use Rattle.m88_parse.specs.Language.Pieces.{TokenValue, a_name, a_number, a_text, a_mark, Piece}
use Rattle.m88_parse.specs.Inside.State.{ReaderState, says_first, ◌>>=◌}
use Rattle.m88_parse.specs.Inside.Slots.{Read, fixup_at}
use Rattle.m88_parse.specs.Inside.Operands.{distance_on, distance_at, words_at, is_here_on, target_at}
use Rattle.m88_parse.specs.Inside.Grammar.{end_with}
use Rattle.m88_parse.specs.Language.Names.{IsNumber, IsNamed}
use Rattle.m88_parse.specs.Language.Operands.{IsFixup, IsPlace, IsGoal, place as a_place, symbol as a_symbol}
use Rattle.m88_parse.proofs.Law.TestsAndChoices.{both, tested, take_then, take_else}
use Rattle.m88_parse.proofs.Law.Names.{other_bytes}
use Rattle.m88_parse.proofs.Law.SingleTokens.{st, no_name, symbols, any, any_is_symbol, saying, OneToken, nothing, by_token, token_gives, token_is, only_if, tested_gives, tested_is, mapped}
use Rattle.m88_parse.proofs.Law.Values.{fixup_start}
use Rattle.m88_parse.proofs.Law.Readings.{Reading, Relation, Then, Last, Ends, Walk, Start, begun, faults_of, turn, turn_leads, turn_as, turns_start, start_as, end_start, one_end, ended, last_start, end_unsigned, AfterSign, sign_start}
use Rattle.m88_parse.proofs.Law.LineFaults.Readers.{WantsNames, same_fault}

-- a distance in words

-- a number of bytes, four for each word
abbrev pub IsFourfold : ℕ → ℕ → Piece → Type 0
IsFourfold most n p = IsNumber (4 * n) p × (n ≤ most)

abbrev is_distance : ℕ → ℕ → Bool
is_distance most n = n % 4 == 0 && nat_le (n / 4) most

abbrev distance_here : ℕ → ℕ → Option ℕ
distance_here most n = only_if (is_distance most n) (n / 4)

abbrev distance_by : ℕ → TokenValue → Option ℕ
distance_by most = by_token nothing (distance_here most) nothing

distance_found : (most : ℕ) (p : Piece) (n x : ℕ) → IsNumber n p → distance_here most n ≡ Some x → IsFourfold most x p
distance_found most p n x i k =
    let j = tested_is (is_distance most n) (n / 4) x k in
    let b = both (n % 4 == 0) (nat_le (n / 4) most) j.0 in
    let z = eqb-true (n % 4) 0 b.0 in
    let f : n ≡ 4 * (n / 4) = omega (arith, z) in
    subst (λ (y : ℕ). IsFourfold most y p) j.1 (i ∙ ap a_number f, leb-true (n / 4) most b.1)

distance_given : (most n : ℕ) → n ≤ most → distance_here most (4 * n) ≡ Some n
distance_given most n l =
    let m : (4 * n) % 4 ≡ 0 = omega arith in
    let d : (4 * n) / 4 ≡ n = omega arith in
    take_then (is_distance most (4 * n)) _ _ (ap₂ (λ (a b : ℕ). a == 0 && nat_le b most) m d ∙ le-leb n most l)
    ∙ ap (λ (k : ℕ). let y : Option ℕ = Some k in y) d

pub one_distance : (most line e : ℕ) → OneToken ℕ (IsFourfold most) true no_name line e (distance_at most)
unfolding distance_at
one_distance most line e = record {
  given = λ p. distance_by most p.says;
  empty = refl;
  each =
      λ p ps. token_gives true no_name line e p ps (λ o. distance_on most (st line e (p ∷ ps)) (Some o)) (distance_by most) (λ name i. refl)
      (λ n. tested_gives (is_distance most n) (n / 4) OutOfRange line e p ps) (λ bytes. refl) (λ m. refl) p.says refl;
  is = λ p x. token_is (IsFourfold most) nothing (distance_here most) p x (λ name i k. absurd cc) (λ n. distance_found most p n x) p.says refl;
  again = λ p x h. ap (distance_by most) h.0 ∙ distance_given most x h.1;
  numbers = (saying (a_number 0), 0, 0, refl, distance_given most 0 (omega arith));
  names = λ p name i. ap (distance_by most) i;
  marks = λ p m w i. ap (distance_by most) i;
  some = (saying (a_number 0), 0, distance_given most 0 (omega arith));
}

-- what stands behind the . of a target: nothing, or a distance forward or back

abbrev OneEnd : (ℕ → Piece → Type 0) → (ℕ → Body) → Relation Body
OneEnd Is made ps b = Then ℕ Is (λ n qs. (qs ≡ []) × (made n ≡ b)) ps

abbrev WordsEnd : ℕ → (ℤ → Body) → Relation Body
WordsEnd limit made =
    AfterSign (OneEnd (IsFourfold (limit - 1)) (λ n. made (pos n))) (OneEnd (IsFourfold limit) (λ n. made (neg_ℤ (pos n))))
    (λ ps b. (ps ≡ []) × (made (pos 0) ≡ b))

words_start : (few line e limit : ℕ) (made : ℤ → Body) → Start few false no_name line e (ended (words_at limit) made) (WordsEnd limit made)
unfolding words_at
words_start few line e limit made =
    sign_start (λ s. distance_at (limit - 1) s >>= λ (d : ℕ × ReaderState). let y : Read ℤ = Ok (pos d.0, d.1) in y)
    (λ s. distance_at limit s >>= λ (d : ℕ × ReaderState). let y : Read ℤ = Ok (neg_ℤ (pos d.0), d.1) in y) (pos 0) (λ x. end_with (made x))
    (distance (limit - 1) (λ n. pos n)) (distance limit (λ n. neg_ℤ (pos n))) (end_start few line e (made (pos 0))) (λ ps b w. end_unsigned ps w.0)
  where
    distance : (most : ℕ) (f : ℕ → ℤ) → Walk few line e
        (λ s. (distance_at most s >>= λ (d : ℕ × ReaderState). let y : Read ℤ = Ok (f d.0, d.1) in y) >>= λ (x : ℤ × ReaderState). end_with (made x.0) x.1)
        (OneEnd (IsFourfold most) (λ n. made (f n)))
    distance most f =
        begun (start_as (λ s. (distance_at most s >>= λ (d : ℕ × ReaderState). let y : Read ℤ = Ok (f d.0, d.1) in y) >>= λ (x : ℤ × ReaderState). end_with (made x.0) x.1) (OneEnd (IsFourfold most) (λ n. made (f n)))
        (λ ps. mapped ℕ Body ℤ (distance_at most (st line e ps)) f (λ x. end_with (made x))) (λ ps b. (λ w. w, λ w. w))
        (one_end (one_distance most line e) (λ n. made (f n))))

-- a place

some_words : (bits : ℕ) → 0 < 2 ^ bits
some_words bits = subst (λ (n : ℕ). 0 < n) (suc_ones bits) (omega arith)

two_tokens : (ps : List Piece) (m p : Piece) (qs rest : List Piece) → ps ≡ m ∷ qs → qs ≡ p ∷ rest → rest ≡ [] → ps ≡ m ∷ p ∷ []
two_tokens ps m p qs rest t u v = t ∙ ap (λ (xs : List Piece). m ∷ xs) (u ∙ ap (λ (xs : List Piece). p ∷ xs) v)

place_met : (bits : ℕ) (made : ℤ → Body) (h : Piece) (ps : List Piece) (b : Body) → IsNamed (codes ".") h → WordsEnd (2 ^ bits) made ps b
    → Last ℤ (λ qs n. IsPlace bits (h ∷ qs) n) made ps b
place_met bits made h ps b i (inl w) =
    let t = w.4 in
    let l = t.is.1 in
    let s = some_words bits in
    let below : t.value < 2 ^ bits = omega (arith, l, s) in
    (pos t.value, subst (λ (qs : List Piece). IsPlace bits (h ∷ qs) (pos t.value)) (sym (two_tokens ps w.0 t.piece w.1 t.rest w.2 t.tokens t.next.0)) (i, (t.value, t.is.0, inl (w.3, below, refl))), t.next.1)
place_met bits made h ps b i (inr (inl w)) =
    let t = w.4 in
    (neg_ℤ (pos t.value), subst (λ (qs : List Piece). IsPlace bits (h ∷ qs) (neg_ℤ (pos t.value))) (sym (two_tokens ps w.0 t.piece w.1 t.rest w.2 t.tokens t.next.0)) (i, (t.value, t.is.0, inr (w.3, t.is.1, refl))), t.next.1)
place_met bits made h ps b i (inr (inr w)) = (pos 0, subst (λ (qs : List Piece). IsPlace bits (h ∷ qs) (pos 0)) (sym w.0) (i, refl), w.1)

met_place : (bits : ℕ) (made : ℤ → Body) (h : Piece) (ps : List Piece) (b : Body) (n : ℤ) → IsPlace bits (h ∷ ps) n → made n ≡ b → WordsEnd (2 ^ bits) made ps b
met_place bits made h [] b n w k = inr (inr (refl, ap made (sym w.1) ∙ k))
met_place bits made h (m ∷ []) b n w k = absurd w
met_place bits made h (m ∷ p ∷ []) b n w k = let d = w.1 in elim d.2 [
  | inl x ↦ let l = x.1 in inl (m, p ∷ [], refl, x.0, record { value = d.0; piece = p; rest = []; tokens = refl; is = (d.1, omega (arith, l)); next = (refl, ap made (sym x.2) ∙ k) })
  | inr x ↦ inr (inl (m, p ∷ [], refl, x.0, record { value = d.0; piece = p; rest = []; tokens = refl; is = (d.1, x.1); next = (refl, ap made (sym x.2) ∙ k) }))
]
met_place bits made h (m ∷ p ∷ q ∷ ps) b n w k = absurd w

-- where a branch goes

abbrev pub IsTargetOf : Kind → ℕ → List Piece → Target → Type 0
IsTargetOf kind bits ps x = IsGoal kind bits ps x.words x.fixup

abbrev place_target : ℤ → Target
place_target n = record { words = n; fixup = None }

abbrev symbol_target : Fixup → Target
symbol_target f = record { words = pos 0; fixup = Some f }

here_says : (o : TokenValue) → is_here_on (Some o) ≡ true → o ≡ a_name (codes ".")
here_says (a_name text) h = ap a_name ((bytes_eq-Decides text (codes ".")).0 h)
here_says (a_number n) h = absurd cc
here_says (a_text bytes) h = absurd cc
here_says (a_mark m) h = absurd cc

not_here : (kind : Kind) (ps : List Piece) (f : Fixup) → IsFixup kind ps f → is_here_on (says_first ps) ≡ false
not_here kind [] f h = absurd h
not_here kind (s ∷ []) f h = ap (λ (m : TokenValue). is_here_on (Some m)) h.0.1.0 ∙ other_bytes f.symbol (codes ".") h.0.1.1.no_place
not_here kind (s ∷ m ∷ []) f h = absurd h
not_here kind (s ∷ m ∷ p ∷ []) f h = ap (λ (m : TokenValue). is_here_on (Some m)) h.0.1.0 ∙ other_bytes f.symbol (codes ".") h.0.1.1.no_place
not_here kind (s ∷ m ∷ p ∷ q ∷ ps) f h = absurd h

named_here : (bits : ℕ) (ps : List Piece) (n : ℤ) → IsPlace bits ps n → is_here_on (says_first ps) ≡ true
named_here bits [] n h = absurd h
named_here bits (p ∷ []) n h = ap (λ (m : TokenValue). is_here_on (Some m)) h.0
named_here bits (p ∷ m ∷ []) n h = absurd h
named_here bits (p ∷ m ∷ q ∷ []) n h = ap (λ (o : TokenValue). is_here_on (Some o)) h.0
named_here bits (p ∷ m ∷ q ∷ r ∷ ps) n h = absurd h

symbol_start : (kind : Kind) (few line e : ℕ) (made : Fixup → Body)
    → Start few false symbols line e (ended (fixup_at kind) made) (Last Fixup (IsFixup kind) made)
symbol_start kind few line e made =
    last_start (IsFixup kind) (fixup_at kind) made
    (fixup_start kind (λ f. end_with (made f)) (Ends made) (λ f. end_start few line e (made f)) (λ f ps b w. end_unsigned ps w.0))

pub target_start : (kind : Kind) (bits few line e : ℕ) (made : Target → Body)
    → Start few false symbols line e (ended (target_at kind (2 ^ bits)) made) (Last Target (IsTargetOf kind bits) made)
unfolding target_at
target_start kind bits few line e made =
    turns_start all All rest names (let y = names any (codes "x") any_is_symbol in (any ∷ y.0, y.1)) (λ p n i ps. by_fixup (p ∷ ps) (says p (a_number n) i))
    (λ p i ps. by_fixup (p ∷ ps) (says p (a_mark 40) i))
    (by_fixup [] refl) (λ b. alike [] b refl) (λ p. elim (tested (is_here_on (Some p.says))) [
      | inl t ↦ turn_leads all All p (λ ps. by_place p ps t) (λ ps b. placed p ps b t) (inr refl) (begun (words_start few line e (2 ^ bits) places))
      | inr t ↦ turn_as all All p (λ ps. by_fixup (p ∷ ps) t) (λ ps b. alike (p ∷ ps) b t) refl (turn rest p)
    ])
  where
    all : Reading Body
    all s = ended (target_at kind (2 ^ bits)) made s

    All : Relation Body
    All ps b = Last Target (IsTargetOf kind bits) made ps b

    places : ℤ → Body
    places n = made (place_target n)

    fixups : Fixup → Body
    fixups f = made (symbol_target f)

    rest : Start few false symbols line e (ended (fixup_at kind) fixups) (Last Fixup (IsFixup kind) fixups)
    rest = symbol_start kind few line e fixups

    says : (p : Piece) (m : TokenValue) → p.says ≡ m → is_here_on (Some p.says) ≡ is_here_on (Some m)
    says p m h = ap (λ (o : TokenValue). is_here_on (Some o)) h

    by_place : (p : Piece) (ps : List Piece) → is_here_on (Some p.says) ≡ true → all (st line e (p ∷ ps)) ≡ ended (words_at (2 ^ bits)) places (st line e ps)
    by_place p ps t =
        ap (λ (r : Read Target). r >>= λ (x : Target × ReaderState). end_with (made x.0) x.1) (take_then (is_here_on (Some p.says)) _ _ t)
        ∙ mapped ℤ Body Target (words_at (2 ^ bits) (st line e ps)) place_target (λ x. end_with (made x))

    by_fixup : (ps : List Piece) → is_here_on (says_first ps) ≡ false → all (st line e ps) ≡ ended (fixup_at kind) fixups (st line e ps)
    by_fixup ps t =
        ap (λ (r : Read Target). r >>= λ (x : Target × ReaderState). end_with (made x.0) x.1) (take_else (is_here_on (says_first ps)) _ _ t)
        ∙ mapped Fixup Body Target (fixup_at kind (st line e ps)) symbol_target (λ x. end_with (made x))

    names : WantsNames symbols (faults_of line e all)
    names p name h =
        let y = rest.node.wants.names p name h in
        (y.0, same_fault (by_fixup (p ∷ y.0) (says p (a_name name) h.0 ∙ other_bytes name (codes ".") h.1.no_place)) ∙ y.1)

    placed : (p : Piece) (ps : List Piece) (b : Body) → is_here_on (Some p.says) ≡ true → WordsEnd (2 ^ bits) places ps b ↔ All (p ∷ ps) b
    placed p ps b t = (
      λ w. let k = place_met bits places p ps b (here_says p.says t) w in (place_target k.0, a_place k.1, k.2),
      λ w. from w.0.words w.0.fixup w.1 w.2,
    )
      where
        from : (words : ℤ) (fixup : Option Fixup) → IsGoal kind bits (p ∷ ps) words fixup → made (record { words = words; fixup = fixup }) ≡ b
            → WordsEnd (2 ^ bits) places ps b
        from words fixup (a_place h) k = met_place bits places p ps b words h k
        from words fixup (a_symbol {f = f} h) k = absurd (true≢false (sym t ∙ not_here kind (p ∷ ps) f h))

    alike : (ps : List Piece) (b : Body) → is_here_on (says_first ps) ≡ false → Last Fixup (IsFixup kind) fixups ps b ↔ All ps b
    alike ps b t = (λ k. (symbol_target k.0, a_symbol k.1, k.2), λ w. from w.0.words w.0.fixup w.1 w.2)
      where
        from : (words : ℤ) (fixup : Option Fixup) → IsGoal kind bits ps words fixup → made (record { words = words; fixup = fixup }) ≡ b
            → Last Fixup (IsFixup kind) fixups ps b
        from words fixup (a_place h) k = absurd (true≢false (sym (named_here bits ps words h) ∙ t))
        from words fixup (a_symbol {f = f} h) k = (f, h, k)
