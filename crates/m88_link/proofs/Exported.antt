-- The table of global symbols: what it has of symbols in two parts, and what it finds by a name.
use Rattle.std.proofs.Common.{◌≡◌, ℕ, ◌+◌, ◌<◌, Bool, true, false, List, [], ◌∷◌, ◌++◌, cond, refl, sym, ap, ◌∙◌, subst, arith, append_assoc}
use Rattle.std.proofs.lemmas.Bool.Decides.{nat_tests}
use Rattle.std.proofs.lemmas.List.{append-nil}
use Rattle.std.proofs.lemmas.List.Folds.{find-append}
use Rattle.std.proofs.lemmas.List.Sums.{sum_by-append, sum_by-cons}
use Rattle.std.proofs.lemmas.Slice.Eq.{bytes_eq-Decides}
use Rattle.std.specs.Prelude.{◌==◌, Option, None, Some, bytes_eq, count_by, is_some, nat_lt, if◌then◌else◌}
use Rattle.std.specs.List.{AllByRecursion}
use Rattle.std.specs.Option.{option_map, option_or}
use Rattle.m88_base.proofs.Laws.{option_or_assoc}
use Rattle.m88_link.specs.declared.fault.LinkFault.{LinkFault}
use Rattle.m88_link.specs.declared.object.Symbol.{Symbol}
use Rattle.m88_link.specs.Inside.Exports.{with_global, repeated_in, taken, taken_one, withdrawn}
use Rattle.m88_link.specs.Refusal.{duplicate, duplicate_fault}
use Rattle.m88_link.specs.Symbols.{Repetition, repetition, repeated_after, symbol_of}

-- the first of symbols that repeats a name, as a fault
abbrev pub fault_in : List Symbol → List Symbol → Option LinkFault
fault_in table ss = option_map duplicate_fault (repeated_in table ss)

-- symbols in two parts
pub taken-append : (table xs ys : List Symbol) → taken table (xs ++ ys) ≡ taken (taken table xs) ys
taken-append table [] ys = refl
taken-append table (x ∷ xs) ys = taken-append (taken_one table x) xs ys

repeated_in-append : (table xs ys : List Symbol) → repeated_in table (xs ++ ys) ≡ option_or (repeated_in table xs) (repeated_in (taken table xs) ys)
repeated_in-append table [] ys = refl
repeated_in-append table (x ∷ xs) ys =
    ap (λ o. option_or (repetition table x) o) (repeated_in-append (taken_one table x) xs ys)
    ∙ sym (option_or_assoc (repetition table x) (repeated_in (taken_one table x) xs) (repeated_in (taken (taken_one table x) xs) ys))

mapped_or : {A B : Type 0} (f : A → B) (o r : Option A) → option_map f (option_or o r) ≡ option_or (option_map f o) (option_map f r)
mapped_or f None r = refl
mapped_or f (Some x) r = refl

pub fault_in-append : (table xs ys : List Symbol) → fault_in table (xs ++ ys) ≡ option_or (fault_in table xs) (fault_in (taken table xs) ys)
fault_in-append table xs ys =
    ap (option_map duplicate_fault) (repeated_in-append table xs ys) ∙ mapped_or duplicate_fault (repeated_in table xs) (repeated_in (taken table xs) ys)

-- the first fault of a part behind which there are others, and before which there is none
pub fault_in_within : (table done one rest : List Symbol) (e : LinkFault) → fault_in table done ≡ None → fault_in (taken table done) one ≡ Some e
    → fault_in table (done ++ (one ++ rest)) ≡ Some e
fault_in_within table done one rest e clean h =
    fault_in-append table done (one ++ rest)
    ∙ ap (λ o. option_or o (fault_in (taken table done) (one ++ rest))) clean
    ∙ fault_in-append (taken table done) one rest
    ∙ ap (λ o. option_or o (fault_in (taken (taken table done) one) rest)) h

-- how many symbols have a name
abbrev pub count : List ℕ → List Symbol → ℕ
count name xs = count_by (λ (g : Symbol). bytes_eq name g.name) xs

-- a table finds by each name the first symbol that has it, which is global where no other has it
abbrev pub Finds : List Symbol → List Symbol → Type 0
Finds all table = (name : List ℕ) → symbol_of table name ≡ option_map (with_global (count name all == 1)) (symbol_of all name)

-- one symbol more
found_more : (xs : List Symbol) (s : Symbol) (name : List ℕ)
    → symbol_of (xs ++ s ∷ []) name ≡ option_or (symbol_of xs name) (if bytes_eq name s.name then Some s else None)
found_more xs s name = find-append (λ (g : Symbol). bytes_eq name g.name) xs (s ∷ [])

count_more : (xs : List Symbol) (s : Symbol) (name : List ℕ) → count name (xs ++ s ∷ []) ≡ count name xs + cond (bytes_eq name s.name) 1 0
count_more xs s name =
    let f = λ (g : Symbol). cond (bytes_eq name g.name) 1 0 in
    let all = sum_by-append f xs (s ∷ []) in
    let one = sum_by-cons f s [] in
    omega (arith, all, one)

one_more : (n : ℕ) → true ≡ nat_lt 0 (1 + n)
one_more n = grind (arith, nat_tests)

none_more : (n : ℕ) → n ≡ 0 + n
none_more n = omega arith

-- a name is found where some symbol has it
pub found_some : (xs : List Symbol) (name : List ℕ) → is_some (symbol_of xs name) ≡ nat_lt 0 (count name xs)
found_some [] name = refl
found_some (x ∷ xs) name =
    by (bytes_eq name x.name) (found_some xs name)
    ∙ ap (nat_lt 0) (sym (sum_by-cons (λ (g : Symbol). cond (bytes_eq name g.name) 1 0) x xs))
  where
    by : (t : Bool) → is_some (symbol_of xs name) ≡ nat_lt 0 (count name xs)
        → is_some (if t then Some x else symbol_of xs name) ≡ nat_lt 0 (cond t 1 0 + count name xs)
    by true more = one_more (count name xs)
    by false more = more ∙ ap (nat_lt 0) (none_more (count name xs))

pub no_count : (xs : List Symbol) (name : List ℕ) → symbol_of xs name ≡ None → count name xs ≡ 0
no_count xs name absent = zero_is (count name xs) (sym (found_some xs name) ∙ ap is_some absent)
  where
    zero_is : (n : ℕ) → nat_lt 0 n ≡ false → n ≡ 0
    zero_is n h = grind (arith, nat_tests)

same_name : (name : List ℕ) (s : Symbol) → bytes_eq name s.name ≡ true → name ≡ s.name
same_name name s e = (bytes_eq-Decides name s.name).0 e

nothing : (f : Symbol → Symbol) (o : Option Symbol) → option_map f o ≡ None → o ≡ None
nothing f None h = refl
nothing f (Some x) h = cc

or_none : (o : Option Symbol) → option_or o None ≡ o
or_none None = refl
or_none (Some x) = refl

still_many : (n : ℕ) → (n == 1) ≡ (n + 0 == 1)
still_many n = ap (λ (k : ℕ). k == 1) (omega arith)

-- what is found by a name after one is withdrawn
withdrawn_found : (own : List ℕ) (ss : List Symbol) (name : List ℕ)
    → symbol_of (withdrawn own ss) name ≡ (if bytes_eq name own then option_map (with_global false) (symbol_of ss name) else symbol_of ss name)
withdrawn_found own [] name = by (bytes_eq name own)
  where
    by : (t : Bool) → ◌≡◌ {A = Option Symbol} None (if t then None else None)
    by true = refl
    by false = refl
withdrawn_found own (s ∷ ss) name = by (bytes_eq own s.name) (bytes_eq name s.name) (bytes_eq name own) refl refl refl (withdrawn_found own ss name)
  where
    all_three : bytes_eq own s.name ≡ false → bytes_eq name s.name ≡ true → bytes_eq name own ≡ true → ⊥
    all_three a b c =
        let same : own ≡ s.name = sym ((bytes_eq-Decides name own).0 c) ∙ (bytes_eq-Decides name s.name).0 b in
        let yes : bytes_eq own s.name ≡ true = (bytes_eq-Decides own s.name).1 same in
        absurd cc

    same_test : bytes_eq own s.name ≡ true → bytes_eq name s.name ≡ bytes_eq name own
    same_test a = ap (bytes_eq name) (sym ((bytes_eq-Decides own s.name).0 a))

    by : (a b c : Bool) → bytes_eq own s.name ≡ a → bytes_eq name s.name ≡ b → bytes_eq name own ≡ c
        → symbol_of (withdrawn own ss) name ≡ (if c then option_map (with_global false) (symbol_of ss name) else symbol_of ss name)
        → symbol_of (if a then with_global false s ∷ ss else s ∷ withdrawn own ss) name
        ≡ (if c then option_map (with_global false) (if b then Some s else symbol_of ss name) else (if b then Some s else symbol_of ss name))
    by true true true ea eb ec rest = ap (λ (t : Bool). if t then Some (with_global false s) else symbol_of ss name) eb
    by true false false ea eb ec rest = ap (λ (t : Bool). if t then Some (with_global false s) else symbol_of ss name) eb
    by true true false ea eb ec rest = absurd (let clash : true ≡ false = sym eb ∙ same_test ea ∙ ec in cc)
    by true false true ea eb ec rest = absurd (let clash : false ≡ true = sym eb ∙ same_test ea ∙ ec in cc)
    by false true true ea eb ec rest = absurd (all_three ea eb ec)
    by false true false ea eb ec rest = ap (λ (t : Bool). if t then Some s else symbol_of (withdrawn own ss) name) eb
    by false false true ea eb ec rest = ap (λ (t : Bool). if t then Some s else symbol_of (withdrawn own ss) name) eb ∙ rest
    by false false false ea eb ec rest = ap (λ (t : Bool). if t then Some s else symbol_of (withdrawn own ss) name) eb ∙ rest

-- a symbol of a new name
finds_new : (all table : List Symbol) (s : Symbol) → Finds all table → s.global ≡ true → symbol_of table s.name ≡ None
    → Finds (all ++ s ∷ []) (table ++ s ∷ [])
finds_new all table s h seen absent name =
    found_more table s name
    ∙ ap (λ o. option_or o (if bytes_eq name s.name then Some s else None)) (h name)
    ∙ by (bytes_eq name s.name) refl
    ∙ ap (λ (n : ℕ). option_map (with_global (n == 1)) (option_or (symbol_of all name) (if bytes_eq name s.name then Some s else None))) (sym (count_more all s name))
    ∙ ap (option_map (with_global (count name (all ++ s ∷ []) == 1))) (sym (found_more all s name))
  where
    none : bytes_eq name s.name ≡ true → symbol_of all name ≡ None
    none e =
        nothing (with_global (count name all == 1)) (symbol_of all name)
        (sym (h name) ∙ ap (symbol_of table) (same_name name s e) ∙ absent)

    by : (t : Bool) → bytes_eq name s.name ≡ t
        → option_or (option_map (with_global (count name all == 1)) (symbol_of all name)) (if t then Some s else None)
        ≡ option_map (with_global (count name all + cond t 1 0 == 1)) (option_or (symbol_of all name) (if t then Some s else None))
    by true e =
        ap (λ o. option_or (option_map (with_global (count name all == 1)) o) (Some s)) (none e)
        ∙ ap (λ (b : Bool). Some (with_global b s)) seen
        ∙ ap (λ (n : ℕ). Some (with_global (n + 1 == 1) s)) (sym (no_count all name (none e)))
        ∙ ap (λ o. option_map (with_global (count name all + 1 == 1)) (option_or o (Some s))) (sym (none e))
    by false e =
        or_none (option_map (with_global (count name all == 1)) (symbol_of all name))
        ∙ ap (λ (b : Bool). option_map (with_global b) (symbol_of all name)) (still_many (count name all))
        ∙ ap (option_map (with_global (count name all + 0 == 1))) (sym (or_none (symbol_of all name)))

-- a symbol of a name that is there
finds_again : (all table : List Symbol) (s : Symbol) → Finds all table → is_some (symbol_of table s.name) ≡ true
    → Finds (all ++ s ∷ []) (withdrawn s.name table)
finds_again all table s h there name =
    withdrawn_found s.name table name
    ∙ ap (λ o. if bytes_eq name s.name then option_map (with_global false) o else o) (h name)
    ∙ by (bytes_eq name s.name) refl
    ∙ ap (λ (n : ℕ). option_map (with_global (n == 1)) (option_or (symbol_of all name) (if bytes_eq name s.name then Some s else None))) (sym (count_more all s name))
    ∙ ap (option_map (with_global (count name (all ++ s ∷ []) == 1))) (sym (found_more all s name))
  where
    kept : (f : Symbol → Symbol) (o : Option Symbol) → is_some (option_map f o) ≡ is_some o
    kept f None = refl
    kept f (Some x) = refl

    some : bytes_eq name s.name ≡ true → is_some (symbol_of all name) ≡ true
    some e =
        sym (kept (with_global (count name all == 1)) (symbol_of all name)) ∙ ap is_some (sym (h name))
        ∙ ap (λ (n : List ℕ). is_some (symbol_of table n)) (same_name name s e) ∙ there

    more_than_one : (n : ℕ) → nat_lt 0 n ≡ true → false ≡ (n + 1 == 1)
    more_than_one n e = grind (arith, nat_tests)

    first : (o : Option Symbol) (t u : Bool) → is_some o ≡ true → false ≡ u
        → option_map (with_global false) (option_map (with_global t) o) ≡ option_map (with_global u) (option_or o (Some s))
    first None t u h e = cc
    first (Some x) t u h e = ap (λ (b : Bool). Some (with_global b x)) e

    by : (t : Bool) → bytes_eq name s.name ≡ t
        → (if t then option_map (with_global false) (option_map (with_global (count name all == 1)) (symbol_of all name))
        else option_map (with_global (count name all == 1)) (symbol_of all name))
        ≡ option_map (with_global (count name all + cond t 1 0 == 1)) (option_or (symbol_of all name) (if t then Some s else None))
    by true e =
        first (symbol_of all name) (count name all == 1) (count name all + 1 == 1) (some e)
        (more_than_one (count name all) (sym (found_some all name) ∙ some e))
    by false e =
        ap (λ (b : Bool). option_map (with_global b) (symbol_of all name)) (still_many (count name all))
        ∙ ap (option_map (with_global (count name all + 0 == 1))) (sym (or_none (symbol_of all name)))

finds_one : (all table : List Symbol) (s : Symbol) → Finds all table → s.global ≡ true → Finds (all ++ s ∷ []) (taken_one table s)
finds_one all table s h seen = by (symbol_of table s.name) refl
  where
    by : (o : Option Symbol) → symbol_of table s.name ≡ o → Finds (all ++ s ∷ []) (if is_some o then withdrawn s.name table else table ++ s ∷ [])
    by None e = finds_new all table s h seen e
    by (Some x) e = finds_again all table s h (ap is_some e)

-- symbols that are global
abbrev pub AreGlobal : List Symbol → Type 0
AreGlobal ss = AllByRecursion (λ s. s.global ≡ true) ss

pub finds_taken : (all table ss : List Symbol) → Finds all table → AreGlobal ss → Finds (all ++ ss) (taken table ss)
finds_taken all table [] h seen = subst (λ xs. Finds xs table) (sym (append-nil all)) h
finds_taken all table (s ∷ ss) h seen =
    subst (λ xs. Finds xs (taken (taken_one table s) ss)) (append_assoc all (s ∷ []) ss)
    (finds_taken (all ++ s ∷ []) (taken_one table s) ss (finds_one all table s h seen.0) seen.1)

-- the first that repeats a name in the table is the first that repeats one of all
same_repetition : (all table : List Symbol) (s : Symbol) → Finds all table → repetition table s ≡ repetition all s
same_repetition all table s h =
    ap (option_map (λ (f : Symbol). let r : Repetition = record { symbol = s; first = f.line } in r)) (h s.name) ∙ by (symbol_of all s.name)
  where
    by : (o : Option Symbol)
        → option_map (λ (f : Symbol). let r : Repetition = record { symbol = s; first = f.line } in r) (option_map (with_global (count s.name all == 1)) o)
        ≡ option_map (λ (f : Symbol). let r : Repetition = record { symbol = s; first = f.line } in r) o
    by None = refl
    by (Some x) = refl

repeats_taken : (all table ss : List Symbol) → Finds all table → AreGlobal ss → repeated_in table ss ≡ repeated_after all ss
repeats_taken all table [] h seen = refl
repeats_taken all table (s ∷ ss) h seen =
    ap (λ o. option_or o (repeated_in (taken_one table s) ss)) (same_repetition all table s h)
    ∙ ap (option_or (repetition all s)) (repeats_taken (all ++ s ∷ []) (taken_one table s) ss (finds_one all table s h seen.0) seen.1)

none_found : Finds [] []
none_found name = refl

-- so of all symbols
pub finds_all : (ss : List Symbol) → AreGlobal ss → Finds ss (taken [] ss)
finds_all ss seen = finds_taken [] [] ss none_found seen

pub fault_is : (ss : List Symbol) → AreGlobal ss → fault_in [] ss ≡ duplicate ss
fault_is ss seen = ap (option_map duplicate_fault) (repeats_taken [] [] ss none_found seen)

-- no name has two symbols of those that repeat none
pub both_none : {A : Type 0} (o r : Option A) → option_or o r ≡ None → (o ≡ None) × (r ≡ None)
both_none None r h = (refl, h)
both_none (Some x) r h = cc

no_repetition : (before : List Symbol) (s : Symbol) → repetition before s ≡ None → symbol_of before s.name ≡ None
no_repetition before s h = by (symbol_of before s.name) h
  where
    by : (o : Option Symbol) → option_map (λ (f : Symbol). let r : Repetition = record { symbol = s; first = f.line } in r) o ≡ None → o ≡ None
    by None h = refl
    by (Some x) h = cc

counts_low : (before ss : List Symbol) (name : List ℕ) → repeated_after before ss ≡ None → count name before < 2 → count name before + count name ss < 2
counts_low before [] name h few = omega (arith, few)
counts_low before (s ∷ ss) name h few =
    let parts = both_none (repetition before s) (repeated_after (before ++ s ∷ []) ss) h in
    let more = count_more before s name in
    let low : count name (before ++ s ∷ []) < 2 = by (bytes_eq name s.name) refl parts.0 more in
    let rest = counts_low (before ++ s ∷ []) ss name parts.1 low in
    let all = sum_by-cons (λ (g : Symbol). cond (bytes_eq name g.name) 1 0) s ss in
    omega (arith, rest, more, all)
  where
    by : (t : Bool) → bytes_eq name s.name ≡ t → repetition before s ≡ None → count name (before ++ s ∷ []) ≡ count name before + cond t 1 0
        → count name (before ++ s ∷ []) < 2
    by true e new more =
        let none = no_count before name (ap (symbol_of before) (same_name name s e) ∙ no_repetition before s new) in
        omega (arith, more, none)
    by false e new more = omega (arith, more, few)

pub once_low : (ss : List Symbol) (name : List ℕ) → duplicate ss ≡ None → count name ss < 2
once_low ss name h =
    let low = counts_low [] ss name (unmapped (repeated_after [] ss) h) (omega arith) in
    omega (arith, low)
  where
    unmapped : (o : Option Repetition) → option_map duplicate_fault o ≡ None → o ≡ None
    unmapped None h = refl
    unmapped (Some x) h = cc
