-- Symbols as the entries of a map: what is found there, what one more leaves, and that no name is there twice.
use Rattle.std.proofs.Common.{◌≡◌, ℕ, List, [], ◌∷◌, ◌++◌, Bool, true, false, refl, sym, ap, ◌∙◌, cond, append_assoc}
use Rattle.std.proofs.lemmas.List.{append-nil}
use Rattle.std.proofs.lemmas.Map.Keys.{IsDistinct-head, IsDistinct-tail}
use Rattle.std.proofs.lemmas.Slice.Eq.{bytes_eq-Decides}
use Rattle.std.specs.Prelude.{bytes_eq, None, Some, if◌then◌else◌}
use Rattle.std.specs.List.{AllByRecursion, IsDistinct}
use Rattle.std.specs.Option.{option_or, option_map}
use Rattle.std.specs.Map.{keys_of, lookup}
use Rattle.indexmap.specs.IndexMap.{insert_entry}
use Rattle.m88_base.proofs.Laws.{option_or-none, option_or_assoc}
use Rattle.m88_link.specs.declared.object.Definition.{Definition}
use Rattle.m88_link.specs.declared.object.Symbol.{Symbol}
use Rattle.m88_link.specs.Symbols.{joined, repetition, repeated_after, first_repeated, symbol_of}
use Rattle.m88_link.specs.Inside.Exports.{withdrawn}
use Rattle.m88_link.specs.Inside.Tables.{entry_symbols}

-- what is found under a name is the first symbol of that name
pub found : (name : List ℕ) (es : List (List ℕ × Definition)) → option_map (joined name) (lookup (bytes_eq name) es) ≡ symbol_of (entry_symbols es) name
found name [] = refl
found name (e ∷ es) = by (bytes_eq name e.0) refl (found name es)
  where
    by : (b : Bool) → bytes_eq name e.0 ≡ b → option_map (joined name) (lookup (bytes_eq name) es) ≡ symbol_of (entry_symbols es) name
        → option_map (joined name) (cond b (Some e.1) (lookup (bytes_eq name) es)) ≡ cond b (Some (joined e.0 e.1)) (symbol_of (entry_symbols es) name)
    by true same rest = ap (λ n. Some (joined n e.1)) ((bytes_eq-Decides name e.0).0 same)
    by false other rest = rest

-- a definition of a new name goes last
pub added : (name : List ℕ) (d : Definition) (es : List (List ℕ × Definition)) → symbol_of (entry_symbols es) name ≡ None
    → entry_symbols (insert_entry bytes_eq es name d) ≡ entry_symbols es ++ joined name d ∷ []
added name d [] absent = refl
added name d (e ∷ es) absent = by (bytes_eq name e.0) absent (added name d es)
  where
    by : (b : Bool) → cond b (Some (joined e.0 e.1)) (symbol_of (entry_symbols es) name) ≡ None
        → (symbol_of (entry_symbols es) name ≡ None → entry_symbols (insert_entry bytes_eq es name d) ≡ entry_symbols es ++ joined name d ∷ [])
        → entry_symbols (if b then (e.0, d) ∷ es else e ∷ insert_entry bytes_eq es name d) ≡ entry_symbols (e ∷ es) ++ joined name d ∷ []
    by true h rest = absurd (some_none h)
      where
        some_none : Some (joined e.0 e.1) ≡ None → ⊥
        some_none i = cc
    by false h rest = ap (λ l. joined e.0 e.1 ∷ l) (rest h)

-- a definition that isn't global any more stands where it did
pub withdrawn_is : (name : List ℕ) (d : Definition) (es : List (List ℕ × Definition)) → lookup (bytes_eq name) es ≡ Some d
    → entry_symbols (insert_entry bytes_eq es name (record d { global = false })) ≡ withdrawn name (entry_symbols es)
withdrawn_is name d [] there = cc
withdrawn_is name d (e ∷ es) there = by (bytes_eq name e.0) there (withdrawn_is name d es)
  where
    by : (b : Bool) → cond b (Some e.1) (lookup (bytes_eq name) es) ≡ Some d
        → (lookup (bytes_eq name) es ≡ Some d → entry_symbols (insert_entry bytes_eq es name (record d { global = false })) ≡ withdrawn name (entry_symbols es))
        → entry_symbols (if b then (e.0, record d { global = false }) ∷ es else e ∷ insert_entry bytes_eq es name (record d { global = false }))
        ≡ (if b then record (joined e.0 e.1) { global = false } ∷ entry_symbols es else joined e.0 e.1 ∷ withdrawn name (entry_symbols es))
    by true h rest =
        let same : e.1 ≡ d = cc in
        ap (λ (x : Definition). record (joined e.0 x) { global = false } ∷ entry_symbols es) (sym same)
    by false h rest = ap (λ l. joined e.0 e.1 ∷ l) (rest h)

-- a name that isn't there has none
pub withdrawn_none : (name : List ℕ) (ss : List Symbol) → symbol_of ss name ≡ None → withdrawn name ss ≡ ss
withdrawn_none name [] absent = refl
withdrawn_none name (s ∷ ss) absent = by (bytes_eq name s.name) absent (withdrawn_none name ss)
  where
    by : (b : Bool) → cond b (Some s) (symbol_of ss name) ≡ None → (symbol_of ss name ≡ None → withdrawn name ss ≡ ss)
        → (if b then record s { global = false } ∷ ss else s ∷ withdrawn name ss) ≡ s ∷ ss
    by true h rest = cc
    by false h rest = ap (λ l. s ∷ l) (rest h)

-- names are apart either way
other_way : (x y : List ℕ) → bytes_eq x y ≡ false → bytes_eq y x ≡ false
other_way x y apart = by (bytes_eq y x) refl
  where
    by : (b : Bool) → bytes_eq y x ≡ b → b ≡ false
    by false h = refl
    by true h = absurd (both (sym apart ∙ (bytes_eq-Decides x y).1 (sym ((bytes_eq-Decides y x).0 h))))
      where
        both : false ≡ true → ⊥
        both i = cc

-- a symbol that is added repeats a name, or one of the others does
pub repeated_after-push : (before ss : List Symbol) (s : Symbol)
    → repeated_after before (ss ++ s ∷ []) ≡ option_or (repeated_after before ss) (repetition (before ++ ss) s)
repeated_after-push before [] s =
    option_or-none (repetition before s) ∙ ap (λ l. repetition l s) (sym (append-nil before))
repeated_after-push before (x ∷ xs) s =
    ap (λ o. option_or (repetition before x) o) (repeated_after-push (before ++ x ∷ []) xs s)
    ∙ sym (option_or_assoc (repetition before x) (repeated_after (before ++ x ∷ []) xs) (repetition ((before ++ x ∷ []) ++ xs) s))
    ∙ ap (λ l. option_or (option_or (repetition before x) (repeated_after (before ++ x ∷ []) xs)) (repetition l s)) (append_assoc before (x ∷ []) xs)

-- a name that none of the symbols has, nor one more, none of them all has
symbol_of-push : (before : List Symbol) (x : Symbol) (name : List ℕ) → symbol_of before name ≡ None → bytes_eq name x.name ≡ false
    → symbol_of (before ++ x ∷ []) name ≡ None
symbol_of-push [] x name absent other = ap (λ b. cond b (Some x) None) other
symbol_of-push (s ∷ ss) x name absent other = by (bytes_eq name s.name) absent (λ h. symbol_of-push ss x name h other)
  where
    by : (b : Bool) → cond b (Some s) (symbol_of ss name) ≡ None → (symbol_of ss name ≡ None → symbol_of (ss ++ x ∷ []) name ≡ None)
        → cond b (Some s) (symbol_of (ss ++ x ∷ []) name) ≡ None
    by true h rest = h
    by false h rest = rest h

-- names that none of the symbols has are still new behind one more, which has another
still_new : (before : List Symbol) (x : Symbol) (names : List (List ℕ)) → AllByRecursion (λ n. symbol_of before n ≡ None) names
    → AllByRecursion (λ n. bytes_eq x.name n ≡ false) names → AllByRecursion (λ n. symbol_of (before ++ x ∷ []) n ≡ None) names
still_new before x [] new other = tt
still_new before x (n ∷ ns) new other =
    (symbol_of-push before x n new.0 (other_way x.name n other.0), still_new before x ns new.1 other.1)

none_yet : (names : List (List ℕ)) → AllByRecursion (λ n. symbol_of [] n ≡ None) names
none_yet [] = tt
none_yet (n ∷ ns) = (refl, none_yet ns)

-- definitions of names that are apart, and that none of the symbols before them has, repeat none
once_after : (before : List Symbol) (es : List (List ℕ × Definition)) → AllByRecursion (λ n. symbol_of before n ≡ None) (keys_of es)
    → IsDistinct bytes_eq (keys_of es) → repeated_after before (entry_symbols es) ≡ None
once_after before [] new distinct = refl
once_after before (e ∷ es) new distinct =
    let x = joined e.0 e.1 in
    let alone : repetition before x ≡ None = ap (λ o. option_map (λ f. record { symbol = x; first = f.line }) o) new.0 in
    ap (λ o. option_or o (repeated_after (before ++ x ∷ []) (entry_symbols es))) alone
    ∙ once_after (before ++ x ∷ []) es (still_new before x (keys_of es) new.1 (IsDistinct-head bytes_eq e.0 (keys_of es) distinct))
    (IsDistinct-tail bytes_eq e.0 (keys_of es) distinct)

-- no symbol of a map's entries repeats a name: the keys of the map are distinct
pub once : (es : List (List ℕ × Definition)) → IsDistinct bytes_eq (keys_of es) → first_repeated (entry_symbols es) ≡ None
once es distinct = once_after [] es (none_yet (keys_of es)) distinct
