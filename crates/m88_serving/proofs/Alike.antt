-- What is written of a service depends on data memory at the addresses of its transactions alone.
use Rattle.std.specs.Prelude.{ℕ, zero, suc, Bool, true, false, List, [], ◌∷◌, ◌++◌, ◌≡◌, ◌⊎◌, ◌%◌, ◌*◌, ◌^◌, ◌==◌, flat_map, if◌then◌else◌}
use Rattle.std.proofs.Common.{arith, refl, sym, ap, ◌∙◌, inl, inr, subst}
use Rattle.std.proofs.lemmas.Bool.{eqb-true}
use Rattle.std.proofs.lemmas.Bool.Decides.{nat_tests}
use Rattle.m88_base.specs.Reg.{with_register}
use Rattle.m88_base.specs.RegisterSet.{registers_in}
use Rattle.m88_base.specs.declared.triple.Triple.{Triple}
use Rattle.m88_isa.proofs.Laws.{by_test}
use Rattle.m88_isa.specs.Address.{word_address}
use Rattle.m88_isa.specs.Bus.{bus_after, changed_among, changed_words, loaded, stored, with_word}
use Rattle.m88_isa.specs.Lanes.{datum_of, merged}
use Rattle.m88_isa.specs.Triples.{access_in, is_valid_triple}
use Rattle.m88_isa.specs.declared.planned.Access.{Access}
use Rattle.m88_monitor.proofs.Laws.{second_kept, third_kept, third_kept_again}
use Rattle.m88_monitor.specs.Serving.{Serving, after_access_at, after_service, after_triple, triple_at}
use Rattle.m88_report.specs.Report.{word_line}
use Rattle.m88_serving.specs.Served.{access_line, left_text, registers_below, served_text, slots_text, transactions_text, triple_text}

-- memory that was x and y at first, by words: a word is the same in both and was so at first, or is as it was in each
abbrev AreAlike : (x y now later : ℕ → ℕ) → Type 0
AreAlike x y now later = (a : ℕ) → a % 4 ≡ 0 → ((x a ≡ y a) × (now a ≡ later a)) ⊎ ((now a ≡ x a) × (later a ≡ y a))

-- a word that was the same at first is the same
same_word : (x y now later : ℕ → ℕ) (a : ℕ) → AreAlike x y now later → a % 4 ≡ 0 → x a ≡ y a → now a ≡ later a
same_word x y now later a alike aligned same = elim (alike a aligned) [
  | inl both ↦ both.1
  | inr each ↦ each.0 ∙ same ∙ sym each.1
]

-- after a store of the same value to one
stored_alike : (x y now later : ℕ → ℕ) (a : Access) → AreAlike x y now later → a.addr % 4 ≡ 0 → x a.addr ≡ y a.addr
    → AreAlike x y (stored a now) (stored a later)
unfolding stored with_word
stored_alike x y now later a alike aligned same = λ b even. by_test (word_address b == a.addr)
    (λ here.
    let is : b ≡ a.addr = (let e : word_address b ≡ b = omega (arith, even) in sym e ∙ eqb-true (word_address b) a.addr here) in
    rw here (inl (ap x is ∙ same ∙ ap y (sym is), ap (merged a.en a.value) (same_word x y now later a.addr alike aligned same))))
    (λ there. rw there (alike b even))

made_alike : (x y now later : ℕ → ℕ) (a : Access) → AreAlike x y now later → a.addr % 4 ≡ 0 → x a.addr ≡ y a.addr
    → AreAlike x y (bus_after a now) (bus_after a later)
unfolding stored
made_alike x y now later a alike aligned same = by_test a.write
    (λ writes. rw writes (stored_alike x y now later a alike aligned same))
    (λ reads. rw reads alike)

-- the words that differ from those at first
abbrev entry : Bool → ℕ → ℕ → List (ℕ × ℕ)
entry same at word = if same then [] else (at, word) ∷ []

no_entry : (m n at : ℕ) → n ≡ m → entry (m == n) at n ≡ []
no_entry m n at is = ap (λ k. entry (m == k) at k) is ∙ ap (λ t. entry t at m) (same_true m)
  where
    same_true : (n : ℕ) → (n == n) ≡ true
    same_true n = grind (arith, nat_tests)

entry_alike : (x y now later : ℕ → ℕ) (at : ℕ) → ((x at ≡ y at) × (now at ≡ later at)) ⊎ ((now at ≡ x at) × (later at ≡ y at))
    → entry (x at == now at) at (now at) ≡ entry (y at == later at) at (later at)
entry_alike x y now later at (inl both) = λ i. entry (both.0 i == both.1 i) at (both.1 i)
entry_alike x y now later at (inr each) = no_entry (x at) (now at) at each.0 ∙ sym (no_entry (y at) (later at) at each.1)

changed_alike : (count : ℕ) (x y now later : ℕ → ℕ) → AreAlike x y now later → changed_among count x now ≡ changed_among count y later
unfolding changed_among
changed_alike zero x y now later alike = refl
changed_alike (suc words) x y now later alike = λ i.
    changed_alike words x y now later alike i ++ entry_alike x y now later (4 * words) (alike (4 * words) (omega arith)) i

-- the word that a transaction touches is the same in both
pub record Agrees (x y : ℕ → ℕ) (t : Triple) : Type 0 where
  pub aligned : is_valid_triple t ≡ true → t.dma % 4 ≡ 0
  pub same : is_valid_triple t ≡ true → x t.dma ≡ y t.dma

-- the service of a transaction over other words leaves other words alone, and writes the same line
abbrev over : (ℕ → ℕ) → Serving → Serving
over bus s = record s { bus = bus }

same_load : (x y now later : ℕ → ℕ) (a : Access) → AreAlike x y now later → a.addr % 4 ≡ 0 → x a.addr ≡ y a.addr → loaded a later ≡ loaded a now
unfolding loaded
same_load x y now later a alike aligned same = ap (datum_of a.en a.signed) (sym (same_word x y now later a.addr alike aligned same))

made_over : (index : ℕ) (a : Access) (s : Serving) (later : ℕ → ℕ) → loaded a later ≡ loaded a s.bus
    → after_access_at index a (over later s) ≡ over (bus_after a later) (after_access_at index a s)
made_over index a s later same = λ i.
    record (after_access_at index a s) {
      numbers = if a.write then s.numbers else with_register a.reg (same i) s.numbers;
      bus = bus_after a later;
    }

record IsAlikeBehind (x y : ℕ → ℕ) (index : ℕ) (s : Serving) (later : ℕ → ℕ) : Type 0 where
  bus : ℕ → ℕ
  line : triple_text index (over later s) ≡ triple_text index s
  rest : after_triple index (over later s) ≡ over bus (after_triple index s)
  words : AreAlike x y (after_triple index s).bus bus

behind_valid : (x y : ℕ → ℕ) (index : ℕ) (s : Serving) (later : ℕ → ℕ) (t : Triple) → triple_at index s.control ≡ t → is_valid_triple t ≡ true
    → AreAlike x y s.bus later → Agrees x y t → IsAlikeBehind x y index s later
behind_valid x y index s later t is valid alike agrees =
    let here : is_valid_triple (triple_at index s.control) ≡ true = ap is_valid_triple is ∙ valid in
    let a : Access = access_in (triple_at index s.control) in
    let aligned : a.addr % 4 ≡ 0 = ap (λ (u : Triple). u.dma % 4) is ∙ agrees.aligned valid in
    let same : x a.addr ≡ y a.addr = ap (λ (u : Triple). x u.dma) is ∙ agrees.same valid ∙ ap (λ (u : Triple). y u.dma) (sym is) in
    let load : loaded a later ≡ loaded a s.bus = same_load x y s.bus later a alike aligned same in
    let made : after_triple index s ≡ after_access_at index a s = ap (λ (v : Bool). if v then after_access_at index a s else s) here in
    record {
      bus = bus_after a later;
      line = ap (λ (v : Bool). if v then access_line index a (loaded a later) else []) here ∙ ap (access_line index a) load
          ∙ ap (λ (v : Bool). if v then access_line index a (loaded a s.bus) else []) (sym here);
      rest = ap (λ (v : Bool). if v then after_access_at index a (over later s) else over later s) here
          ∙ made_over index a s later load ∙ ap (over (bus_after a later)) (sym made);
      words = subst (λ (u : Serving). AreAlike x y u.bus (bus_after a later)) (sym made) (made_alike x y s.bus later a alike aligned same);
    }

behind : (x y : ℕ → ℕ) (index : ℕ) (s : Serving) (later : ℕ → ℕ) (t : Triple) → triple_at index s.control ≡ t
    → AreAlike x y s.bus later → Agrees x y t → IsAlikeBehind x y index s later
behind x y index s later t is alike agrees = by_test (is_valid_triple t)
    (λ valid. behind_valid x y index s later t is valid alike agrees)
    (λ none.
    let here : is_valid_triple (triple_at index s.control) ≡ false = ap is_valid_triple is ∙ none in
    let a : Access = access_in (triple_at index s.control) in
    let made : after_triple index s ≡ s = ap (λ (v : Bool). if v then after_access_at index a s else s) here in
    record {
      bus = later;
      line = ap (λ (v : Bool). if v then access_line index a (loaded a later) else []) here
          ∙ ap (λ (v : Bool). if v then access_line index a (loaded a s.bus) else []) (sym here);
      rest = ap (λ (v : Bool). if v then after_access_at index a (over later s) else over later s) here ∙ ap (over later) (sym made);
      words = subst (λ (u : Serving). AreAlike x y u.bus later) (sym made) alike;
    })

-- so the text of the service is the same over words that agree where its transactions go
pub same_text : (s : Serving) (other : ℕ → ℕ) → Agrees s.bus other s.control.t0 → Agrees s.bus other s.control.t1 → Agrees s.bus other s.control.t2
    → served_text (over other s) ≡ served_text s
unfolding served_text changed_words
same_text s other agrees0 agrees1 agrees2 =
    let s1 : Serving = after_triple 0 s in
    let s2 : Serving = after_triple 1 s1 in
    let step0 : IsAlikeBehind s.bus other 0 s other = behind s.bus other 0 s other s.control.t0 refl (λ a even. inr (refl, refl)) agrees0 in
    let step1 : IsAlikeBehind s.bus other 1 s1 step0.bus = behind s.bus other 1 s1 step0.bus s.control.t1 (second_kept s) step0.words agrees1 in
    let step2 : IsAlikeBehind s.bus other 2 s2 step1.bus =
    behind s.bus other 2 s2 step1.bus s.control.t2 (third_kept_again s1 ∙ third_kept s) step1.words agrees2 in
    let second : after_triple 1 (after_triple 0 (over other s)) ≡ over step1.bus s2 = ap (after_triple 1) step0.rest ∙ step1.rest in
    let third : after_service (over other s) ≡ over step2.bus (after_service s) = ap (after_triple 2) second ∙ step2.rest in
    (λ i. step0.line i ++ (ap (triple_text 1) step0.rest ∙ step1.line) i ++ (ap (triple_text 2) second ∙ step2.line) i
    ++ left_text (over other s) (third i))
    ∙ (λ i. transactions_text s ++ (registers_below (registers_in s.control.ssbr) (after_service s).numbers 32
    ++ flat_map word_line (sym (changed_alike (2 ^ 30) s.bus other (after_service s).bus step2.bus step2.words) i)
    ++ slots_text (after_service s).control.ssbr (after_service s).control.snip (after_service s).control.sfip))
