-- What the symbols of such statements mean: each name once, and what it stands for; and each use of one is in reach.
use Rattle.std.proofs.Common.{◌≡◌, ◌⊎◌, ℕ, ◌+◌, ◌%◌, ◌<◌, ◌^◌, Bool, true, false, inl, inr, List, [], ◌∷◌, ◌++◌, length, refl, sym, ap, subst, ◌∙◌, arith, append-nil, append_assoc, length-append, true≢false}
use Rattle.std.proofs.lemmas.List.{map-append}
use Rattle.std.specs.Prelude.{Option, None, Some, IfSome, bytes_eq, cond, filter, flat_map, if◌then◌else◌, map}
use Rattle.std.specs.Int.{cast_signed, w32}
use Rattle.std.specs.List.{AllByRecursion}
use Rattle.std.specs.Option.{option_map, option_or}
use Rattle.std.proofs.lemmas.Slice.Eq.{bytes_eq-Decides}
use Rattle.m88_base.specs.Placed.{Placed}
use Rattle.m88_parse.specs.declared.unit.Body.TheVariants as body
use Rattle.m88_parse.specs.declared.unit.Statement.{Statement}
use Rattle.m88_link.specs.Bases.{Placement}
use Rattle.m88_link.specs.Field.{distance, is_in_reach}
use Rattle.m88_link.specs.Layout.{Reference, reference}
use Rattle.m88_link.specs.Refusal.{duplicate, duplicate_fault, far_from, too_far, too_far_in, undefined, undefined_in}
use Rattle.m88_link.specs.Symbols.{absolute, exported, repeated_after, symbol_meaning, symbol_of, value_in}
use Rattle.m88_link.specs.declared.fault.LinkFault.{LinkFault}
use Rattle.m88_link.specs.declared.fault.LinkKind.TheVariants as kind
use Rattle.m88_link.specs.declared.object.Reloc.{Reloc}
use Rattle.m88_link.specs.declared.object.Symbol.{Symbol}
use Rattle.m88_parse.specs.declared.unit.Module.{Module}
use Rattle.m88_asm.specs.Counters.{Counters, Located, after, at_begin, located, offset_of, section_of}
use Rattle.m88_asm.specs.Objects.{labels_at, sets_at, symbol_uses, symbols_of}
use Rattle.m88_asm.specs.Units.{address_in, base_in}
use Rattle.m88_disasm.specs.Read.{unlabelled}
use Rattle.m88_disasm.proofs.Accepting.{AreNew}
use Rattle.m88_disasm.proofs.Given.{Data, IsUse, Names, PartsData, Sets, a_set, more_data, more_parts, no_data, no_parts, no_set}
use Rattle.m88_disasm.proofs.Standing.{Bases, Empty, Fresh, Stands, address_is, empty_behind, fresh_behind, located_cons, located_none, opens_part, stands_behind}

-- names, each once
-- a name is none of those before
abbrev pub IsNew : List ℕ → List (List ℕ) → Type 0
IsNew name before = AllByRecursion (λ n. bytes_eq name n ≡ false) before

-- each name is none of those before it
abbrev pub AreOnce : List (List ℕ) → List (List ℕ) → Type 0
AreOnce before [] = Unit {0}
AreOnce before (n ∷ ns) = IsNew n before × AreOnce (before ++ n ∷ []) ns

not_before : (before : List Symbol) (name : List ℕ) → IsNew name (map (λ (s : Symbol). s.name) before)
    → symbol_of before name ≡ None
not_before [] name new = refl
not_before (s ∷ ss) name new =
    ap (λ (t : Bool). cond t (Some s) (symbol_of ss name)) new.0 ∙ not_before ss name new.1

once_from : (before : List Symbol) (ss : List Symbol)
    → AreOnce (map (λ (s : Symbol). s.name) before) (map (λ (s : Symbol). s.name) ss)
    → repeated_after before ss ≡ None
once_from before [] once = refl
once_from before (s ∷ ss) once =
    let names : map (λ (x : Symbol). x.name) (before ++ s ∷ []) ≡ map (λ (x : Symbol). x.name) before ++ s.name ∷ [] =
    map-append (λ (x : Symbol). x.name) before (s ∷ []) in
    ap (λ (o : Option Symbol).
    option_or (option_map (λ f. record { symbol = s; first = f.line }) o) (repeated_after (before ++ s ∷ []) ss))
    (not_before before s.name once.0)
    ∙ once_from (before ++ s ∷ []) ss
    (subst (λ (ns : List (List ℕ)). AreOnce ns (map (λ (x : Symbol). x.name) ss)) (sym names) once.1)

once_split : (before xs ys : List (List ℕ)) → AreOnce before (xs ++ ys) → AreOnce before xs × AreOnce (before ++ xs) ys
once_split before [] ys once = (tt, subst (λ (ns : List (List ℕ)). AreOnce ns ys) (sym (append-nil before)) once)
once_split before (x ∷ xs) ys once =
    let k = once_split (before ++ x ∷ []) xs ys once.1 in (
      (once.0, k.0),
      subst (λ (ns : List (List ℕ)). AreOnce ns ys) (append_assoc before (x ∷ []) xs) k.1,
    )

-- the names that a statement defines, wherever it stands
abbrev pub names_of : Statement → List (List ℕ)
names_of x = map (λ (s : Symbol). s.name) (labels_at at_begin x.line x.label ++ sets_at x.line x.body)

label_names : (c : Counters) (line : ℕ) (label : Option (List ℕ × ℕ)) (others : List Symbol)
    → map (λ (s : Symbol). s.name) (labels_at c line label ++ others)
    ≡ map (λ (s : Symbol). s.name) (labels_at at_begin line label ++ others)
label_names c line None others = refl
label_names c line (Some l) others = refl

names_are : (c : Counters) (x : Statement)
    → map (λ (s : Symbol). s.name) (symbols_of (record { before = c; statement = x })) ≡ names_of x
names_are c x = label_names c x.line x.label (sets_at x.line x.body)

-- those that statements define
abbrev pub names_in : List Statement → List (List ℕ)
names_in xs = flat_map names_of xs

pub symbol_names : (c : Counters) (xs : List Statement)
    → map (λ (s : Symbol). s.name) (flat_map symbols_of (located c xs)) ≡ names_in xs
symbol_names c [] = ap (λ (rs : List Located). map (λ (s : Symbol). s.name) (flat_map symbols_of rs)) (located_none c)
symbol_names c (x ∷ xs) =
    let r : Located = record { before = c; statement = x } in
    ap (λ (rs : List Located). map (λ (s : Symbol). s.name) (flat_map symbols_of rs)) (located_cons c x xs)
    ∙ map-append (λ (s : Symbol). s.name) (symbols_of r) (flat_map symbols_of (located (after c x.body) xs))
    ∙ ap (λ (ns : List (List ℕ)). ns ++ map (λ (s : Symbol). s.name) (flat_map symbols_of (located (after c x.body) xs)))
    (names_are c x)
    ∙ ap (λ (ns : List (List ℕ)). names_of x ++ ns) (symbol_names (after c x.body) xs)

pub new_symbols : (defined : List Symbol) (c : Counters) (xs : List Statement)
    → AreOnce (map (λ (s : Symbol). s.name) defined) (names_in xs) → AreNew defined (located c xs)
new_symbols defined c [] once = subst (AreNew defined) (sym (located_none c)) tt
new_symbols defined c (x ∷ xs) once =
    let r : Located = record { before = c; statement = x } in
    let names : List (List ℕ) = map (λ (s : Symbol). s.name) defined in
    let parts = once_split names (names_of x) (names_in xs) once in
    let all : map (λ (s : Symbol). s.name) (defined ++ symbols_of r) ≡ names ++ names_of x =
    map-append (λ (s : Symbol). s.name) defined (symbols_of r) ∙ ap (λ (ns : List (List ℕ)). names ++ ns) (names_are c x) in
    subst (AreNew defined) (sym (located_cons c x xs)) (
      once_from defined (symbols_of r) (subst (λ (ns : List (List ℕ)). AreOnce names ns) (sym (names_are c x)) parts.0),
      new_symbols (defined ++ symbols_of r) (after c x.body) xs
          (subst (λ (ns : List (List ℕ)). AreOnce ns (names_in xs)) (sym all) parts.1),
    )

-- what names mean
-- each symbol is the address that its name stands for
abbrev pub AreNamed : Names → (ℕ → ℕ) → List Symbol → Type 0
AreNamed Named base ss = AllByRecursion (λ s. Named s.name (value_in base s)) ss

all_behind : {A : Type 0} (P : A → Type 0) (xs ys : List A) → AllByRecursion P xs → AllByRecursion P ys
    → AllByRecursion P (xs ++ ys)
all_behind P [] ys h k = k
all_behind P (x ∷ xs) ys h k = (h.0, all_behind P xs ys h.1 k)

-- a name stands for an address
abbrev pub AreLow : Names → Type 0
AreLow Named = (name : List ℕ) (a : ℕ) → Named name a → a < 2 ^ 32

-- and for one
abbrev pub MeanOne : Names → Type 0
MeanOne Named = (name : List ℕ) (a b : ℕ) → Named name a → Named name b → a ≡ b

label_named : (Named : Names) (d : Placement Module) (c : Counters) (line at : ℕ) (label : Option (List ℕ × ℕ))
    → AreLow Named → base_in d c.here + c.lengths c.here ≡ at → IfSome label (λ l. Named l.0 at)
    → AreNamed Named (base_in d) (labels_at c line label)
label_named Named d c line at None low place named = tt
label_named Named d c line at (Some l) low place named =
    let small : at < 2 ^ 32 = low l.0 at named in
    let same : at ≡ (base_in d c.here + c.lengths c.here) % 2 ^ 32 = omega (arith, place, small) in
    (subst (Named l.0) same named, tt)

data_named : (Named : Names) (d : Placement Module) (k at done : ℕ) (c : Counters) (from : ℕ) (bytes : List ℕ)
    (own more : List Statement)
    → AreLow Named → base_in d k ≡ at → from ≡ at + done → Stands c k at done → Data Named from bytes own
    → ((e : Counters) → Stands e k at (done + length bytes)
    → AreNamed Named (base_in d) (flat_map symbols_of (located e more)))
    → AreNamed Named (base_in d) (flat_map symbols_of (located c (own ++ more)))
data_named Named d k at done c from _ _ more low base begins s no_data rest =
    let none : done ≡ done + 0 = omega arith in
    rest c (subst (λ (m : ℕ). Stands c k at m) none s)
data_named Named d k at done c from bytes _ more low base begins s
    (more_data {x = x} {xs = xs} given left bytes_are gives tail) rest =
    let next : from + length given ≡ at + (done + length given) = omega arith in
    let size : length bytes ≡ length given + length left = ap length bytes_are ∙ length-append given left in
    let later : (e : Counters) → Stands e k at (done + length given + length left)
    → AreNamed Named (base_in d) (flat_map symbols_of (located e more)) =
    λ e h. rest e (let same : done + length given + length left ≡ done + length bytes = omega (arith, size) in
    subst (λ (i : ℕ). Stands e k at i) same h) in
    let ih = data_named Named d k at (done + length given) (after c x.body) (from + length given) left xs more low base
    next (stands_behind Named c k at done from x given gives s) tail later in
    let place : base_in d c.here + c.lengths c.here ≡ from =
    ap (λ (i : ℕ). base_in d i + c.lengths i) s.here ∙ (let e = s.has in omega (arith, e, base, begins)) in
    let r : Located = record { before = c; statement = x } in
    let first : AreNamed Named (base_in d) (symbols_of r) =
    all_behind (λ s. Named s.name (value_in (base_in d) s)) (labels_at c x.line x.label) (sets_at x.line x.body)
    (label_named Named d c x.line from x.label low place gives.labelled)
    (subst (AreNamed Named (base_in d)) (sym gives.sets_none) tt) in
    subst (λ (rs : List Located). AreNamed Named (base_in d) (flat_map symbols_of rs)) (sym (located_cons c x (xs ++ more)))
    (all_behind (λ s. Named s.name (value_in (base_in d) s)) (symbols_of r)
    (flat_map symbols_of (located (after c x.body) (xs ++ more))) first ih)

pub parts_named : (Named : Names) (d : Placement Module) (c : Counters) (n : ℕ) (runs : List Placed)
    (xs : List Statement)
    → AreLow Named → Bases d n runs → Fresh c n → PartsData Named runs xs
    → AreNamed Named (base_in d) (flat_map symbols_of (located c xs))
parts_named Named d c n _ _ low bases f no_parts =
    subst (λ (rs : List Located). AreNamed Named (base_in d) (flat_map symbols_of rs)) (sym (located_none c)) tt
parts_named Named d c n _ xs low bases f (more_parts {run = run} {runs = runs} i own more statements_are datas others) =
    let opened : Counters = after c (body.At run.at) in
    let x : Statement = unlabelled i (body.At run.at) in
    let behind : (e : Counters) → Stands e n run.at (0 + length run.bytes)
    → AreNamed Named (base_in d) (flat_map symbols_of (located e more)) =
    λ e h. parts_named Named d e (n + 1) runs more low bases.1 (fresh_behind e n run.at (0 + length run.bytes) h)
    others in
    let own_named = data_named Named d n run.at 0 opened run.at run.bytes own more low bases.0 (omega arith)
    (opens_part c n run.at f) datas behind in
    subst (λ (ys : List Statement). AreNamed Named (base_in d) (flat_map symbols_of (located c ys))) (sym statements_are)
    (subst (λ (rs : List Located). AreNamed Named (base_in d) (flat_map symbols_of rs)) (sym (located_cons c x (own ++ more)))
    own_named)

pub named_behind : (Named : Names) (base : ℕ → ℕ) (c : Counters) (sets xs : List Statement) → Sets Named sets
    → Empty c
    → ((e : Counters) → Empty e → AreNamed Named base (flat_map symbols_of (located e xs)))
    → AreNamed Named base (flat_map symbols_of (located c (sets ++ xs)))
named_behind Named base c _ xs no_set empty rest = rest c empty
named_behind Named base c _ xs (a_set {xs = sets} n name col value named others) empty rest =
    let x : Statement = unlabelled n (body.Set name col value) in
    subst (λ (rs : List Located). AreNamed Named base (flat_map symbols_of rs)) (sym (located_cons c x (sets ++ xs)))
    (named, named_behind Named base (after c x.body) sets xs others (empty_behind c name col value empty) rest)

-- some name is this one
abbrev pub HasName : List ℕ → List (List ℕ) → Type 0
HasName name [] = ⊥
HasName name (n ∷ ns) = (n ≡ name) ⊎ HasName name ns

-- a name that is defined means what it stands for, whichever symbol is found first
pub meaning_is : (Named : Names) (base : ℕ → ℕ) (ss : List Symbol) (name : List ℕ) (a : ℕ)
    → MeanOne Named → Named name a → AreNamed Named base ss → HasName name (map (λ (s : Symbol). s.name) ss)
    → option_map (value_in base) (symbol_of ss name) ≡ Some a
meaning_is Named base [] name a one named are has = absurd has
meaning_is Named base (s ∷ ss) name a one named are has =
    by (bytes_eq name s.name) refl (λ h. meaning_is Named base ss name a one named are.1 h) has
  where
    by : (t : Bool) → bytes_eq name s.name ≡ t
        → (HasName name (map (λ (x : Symbol). x.name) ss) → option_map (value_in base) (symbol_of ss name) ≡ Some a)
        → ((s.name ≡ name) ⊎ HasName name (map (λ (x : Symbol). x.name) ss))
        → option_map (value_in base) (cond t (Some s) (symbol_of ss name)) ≡ Some a
    by true e ih h =
        let same : name ≡ s.name = (bytes_eq-Decides name s.name).0 e in
        ap (λ v. Some v) (one name (value_in base s) a (subst (λ n. Named n (value_in base s)) (sym same) are.0) named)
    by false e ih (inl h) = absurd (true≢false (sym ((bytes_eq-Decides name s.name).1 (sym h)) ∙ e))
    by false e ih (inr h) = ih h

-- uses
-- a use of a name that is in reach, where modules stand so
pub record IsInReach (Named : Names) (d : Placement Module) (r : Reloc) : Type 0 where
  pub to : ℕ
  pub named : Named r.symbol to
  pub alone : r.addend ≡ 0
  pub near : is_in_reach r.kind to (base_in d r.section + r.offset) ≡ true

in_reach : (Named : Names) (d : Placement Module) (at section offset : ℕ) (us : List Reloc)
    → base_in d section + offset ≡ at → AllByRecursion (IsUse Named at section offset) us
    → AllByRecursion (IsInReach Named d) us
in_reach Named d at section offset [] place h = tt
in_reach Named d at section offset (u ∷ us) place h =
    let first = h.0 in
    let there : base_in d u.section + u.offset ≡ at =
    ap (λ (k : ℕ). base_in d k + u.offset) first.section_is
    ∙ ap (λ (m : ℕ). base_in d section + m) first.offset_is ∙ place in (
      record {
        to = first.to;
        named = first.named;
        alone = first.alone;
        near = ap (is_in_reach u.kind first.to) there ∙ first.near;
      },
      in_reach Named d at section offset us place h.1,
    )

data_use : (Named : Names) (d : Placement Module) (k at done : ℕ) (c : Counters) (from : ℕ) (bytes : List ℕ)
    (own more : List Statement)
    → base_in d k ≡ at → from ≡ at + done → Stands c k at done → Data Named from bytes own
    → ((e : Counters) → Stands e k at (done + length bytes)
    → AllByRecursion (IsInReach Named d) (flat_map symbol_uses (located e more)))
    → AllByRecursion (IsInReach Named d) (flat_map symbol_uses (located c (own ++ more)))
data_use Named d k at done c from _ _ more base begins s no_data rest =
    let none : done ≡ done + 0 = omega arith in
    rest c (subst (λ (m : ℕ). Stands c k at m) none s)
data_use Named d k at done c from bytes _ more base begins s
    (more_data {x = x} {xs = xs} given left bytes_are gives tail) rest =
    let next : from + length given ≡ at + (done + length given) = omega arith in
    let size : length bytes ≡ length given + length left = ap length bytes_are ∙ length-append given left in
    let later : (e : Counters) → Stands e k at (done + length given + length left)
    → AllByRecursion (IsInReach Named d) (flat_map symbol_uses (located e more)) =
    λ e h. rest e (let same : done + length given + length left ≡ done + length bytes = omega (arith, size) in
    subst (λ (i : ℕ). Stands e k at i) same h) in
    let ih = data_use Named d k at (done + length given) (after c x.body) (from + length given) left xs more base
    next (stands_behind Named c k at done from x given gives s) tail later in
    let place : base_in d c.here + c.lengths c.here ≡ from =
    ap (λ (i : ℕ). base_in d i + c.lengths i) s.here ∙ (let e = s.has in omega (arith, e, base, begins)) in
    let r : Located = record { before = c; statement = x } in
    let there : address_in d r ≡ from = address_is Named d c from x given gives ∙ place in
    subst (λ (rs : List Located). AllByRecursion (IsInReach Named d) (flat_map symbol_uses rs))
    (sym (located_cons c x (xs ++ more)))
    (all_behind (IsInReach Named d) (symbol_uses r) (flat_map symbol_uses (located (after c x.body) (xs ++ more)))
    (in_reach Named d from (section_of r) (offset_of r) (symbol_uses r) there (gives.uses (section_of r) (offset_of r)))
    ih)

pub parts_use : (Named : Names) (d : Placement Module) (c : Counters) (n : ℕ) (runs : List Placed)
    (xs : List Statement)
    → Bases d n runs → Fresh c n → PartsData Named runs xs
    → AllByRecursion (IsInReach Named d) (flat_map symbol_uses (located c xs))
parts_use Named d c n _ _ bases f no_parts =
    subst (λ (rs : List Located). AllByRecursion (IsInReach Named d) (flat_map symbol_uses rs)) (sym (located_none c)) tt
parts_use Named d c n _ xs bases f (more_parts {run = run} {runs = runs} i own more statements_are datas others) =
    let opened : Counters = after c (body.At run.at) in
    let x : Statement = unlabelled i (body.At run.at) in
    let behind : (e : Counters) → Stands e n run.at (0 + length run.bytes)
    → AllByRecursion (IsInReach Named d) (flat_map symbol_uses (located e more)) =
    λ e h. parts_use Named d e (n + 1) runs more bases.1 (fresh_behind e n run.at (0 + length run.bytes) h) others in
    let own_uses = data_use Named d n run.at 0 opened run.at run.bytes own more bases.0 (omega arith)
    (opens_part c n run.at f) datas behind in
    subst (λ (ys : List Statement). AllByRecursion (IsInReach Named d) (flat_map symbol_uses (located c ys)))
    (sym statements_are)
    (subst (λ (rs : List Located). AllByRecursion (IsInReach Named d) (flat_map symbol_uses rs))
    (sym (located_cons c x (own ++ more))) own_uses)

pub uses_behind : (Named : Names) (d : Placement Module) (c : Counters) (sets xs : List Statement) → Sets Named sets
    → Empty c
    → ((e : Counters) → Empty e → AllByRecursion (IsInReach Named d) (flat_map symbol_uses (located e xs)))
    → AllByRecursion (IsInReach Named d) (flat_map symbol_uses (located c (sets ++ xs)))
uses_behind Named d c _ xs no_set empty rest = rest c empty
uses_behind Named d c _ xs (a_set {xs = sets} n name col value named others) empty rest =
    subst (λ (rs : List Located). AllByRecursion (IsInReach Named d) (flat_map symbol_uses rs))
    (sym (located_cons c (unlabelled n (body.Set name col value)) (sets ++ xs)))
    (uses_behind Named d (after c (body.Set name col value)) sets xs others (empty_behind c name col value empty) rest)

-- where each name that is used means what it stands for, no reference is undefined or too far
abbrev pub MeanAll : Names → List Symbol → (ℕ → ℕ) → List Symbol → Type 0
MeanAll Named g base ss = (name : List ℕ) (a : ℕ) → Named name a → symbol_meaning g base ss name ≡ Some a

in_reach_far : (r : Reference) (t : ℕ) → is_in_reach r.kind t r.at ≡ true → far_from r t ≡ None
in_reach_far r t e =
    ap (λ (b : Bool). if b then None else
    Some (record { line = r.line; col = r.col; kind = kind.TooFar (cast_signed w32 (distance t r.at)) })) e

one_reference : (Named : Names) (g : List Symbol) (d : Placement Module) (ss : List Symbol) (r : Reloc)
    → AreLow Named → MeanAll Named g (base_in d) ss → IsInReach Named d r
    → (undefined_in (reference g (base_in d) ss r) ≡ None) × (too_far_in (reference g (base_in d) ss r) ≡ None)
one_reference Named g d ss r low means near =
    let low_to : near.to < 2 ^ 32 = low r.symbol near.to near.named in
    let sum : (near.to + r.addend) % 2 ^ 32 ≡ near.to = let e = near.alone in omega (arith, e, low_to) in
    let found : (reference g (base_in d) ss r).target ≡ Some near.to =
    ap (option_map (λ v. (v + r.addend) % 2 ^ 32)) (means r.symbol near.to near.named) ∙ ap (λ v. Some v) sum in
    let told : Option ℕ → Reference = λ o. record {
      kind = r.kind;
      at = base_in d r.section + r.offset;
      name = r.symbol;
      target = o;
      line = r.line;
      col = r.col;
    } in (
      ap (λ o. undefined_in (told o)) found,
      ap (λ o. too_far_in (told o)) found
          ∙ in_reach_far (told (Some near.to)) near.to near.near,
    )

pub no_bad_reference : (Named : Names) (g : List Symbol) (d : Placement Module) (ss : List Symbol) (us : List Reloc)
    → AreLow Named → MeanAll Named g (base_in d) ss → AllByRecursion (IsInReach Named d) us
    → (undefined (map (reference g (base_in d) ss) us) ≡ None) × (too_far (map (reference g (base_in d) ss) us) ≡ None)
no_bad_reference Named g d ss [] low means h = (refl, refl)
no_bad_reference Named g d ss (u ∷ us) low means h =
    let one = one_reference Named g d ss u low means h.0 in
    let others = no_bad_reference Named g d ss us low means h.1 in (
      ap (λ (o : Option LinkFault). option_or o (undefined (map (reference g (base_in d) ss) us))) one.0 ∙ others.0,
      ap (λ (o : Option LinkFault). option_or o (too_far (map (reference g (base_in d) ss) us))) one.1 ∙ others.1,
    )

-- global symbols
new_behind : (name n : List ℕ) (ns : List (List ℕ)) → IsNew name (ns ++ n ∷ [])
    → IsNew name ns × (bytes_eq name n ≡ false)
new_behind name n [] h = (tt, h.0)
new_behind name n (m ∷ ns) h = let k = new_behind name n ns h.1 in ((h.0, k.0), k.1)

new_with : (name n : List ℕ) (ns : List (List ℕ)) → IsNew name ns → bytes_eq name n ≡ false
    → IsNew name (ns ++ n ∷ [])
new_with name n [] h e = (e, tt)
new_with name n (m ∷ ns) h e = (h.0, new_with name n ns h.1 e)

-- of symbols whose names come once the global ones repeat none, either
kept_once : (before kept : List (List ℕ)) (base : ℕ → ℕ) (ss : List Symbol)
    → ((name : List ℕ) → IsNew name before → IsNew name kept)
    → AreOnce before (map (λ (s : Symbol). s.name) ss)
    → AreOnce kept (map (λ (s : Symbol). s.name) (exported base ss))
kept_once before kept base [] less once = tt
kept_once before kept base (s ∷ ss) less once =
    by s.global
    (kept_once (before ++ s.name ∷ []) (kept ++ s.name ∷ []) base ss
    (λ name new. let k = new_behind name s.name before new in new_with name s.name kept (less name k.0) k.1) once.1)
    (kept_once (before ++ s.name ∷ []) kept base ss (λ name new. less name (new_behind name s.name before new).0) once.1)
  where
    by : (t : Bool)
        → AreOnce (kept ++ s.name ∷ []) (map (λ (x : Symbol). x.name) (map (absolute base) (filter (λ x. x.global) ss)))
        → AreOnce kept (map (λ (x : Symbol). x.name) (map (absolute base) (filter (λ x. x.global) ss)))
        → AreOnce kept (map (λ (x : Symbol). x.name)
        (map (absolute base) (cond t (s ∷ filter (λ x. x.global) ss) (filter (λ x. x.global) ss))))
    by true with_it without_it = (less s.name once.0, with_it)
    by false with_it without_it = without_it

pub no_duplicate : (base : ℕ → ℕ) (ss : List Symbol) → AreOnce [] (map (λ (s : Symbol). s.name) ss)
    → duplicate (exported base ss) ≡ None
no_duplicate base ss once =
    ap (option_map duplicate_fault) (once_from [] (exported base ss) (kept_once [] [] base ss (λ name new. new) once))

-- the value of a global name is found among the global symbols
pub global_value : (Named : Names) (base : ℕ → ℕ) (ss : List Symbol) (name : List ℕ) (a : ℕ) → MeanOne Named
    → Named name a → AreNamed Named base ss → HasName name (map (λ (s : Symbol). s.name) ss)
    → AllByRecursion (λ (s : Symbol). s.name ≡ name → s.global ≡ true) ss
    → option_map (λ g. g.value) (symbol_of (exported base ss) name) ≡ Some a
global_value Named base [] name a one named are has global = absurd has
global_value Named base (s ∷ ss) name a one named are has global =
    by s.global refl (bytes_eq name s.name) refl (λ h. global_value Named base ss name a one named are.1 h global.1) has
  where
    by : (g : Bool) → s.global ≡ g → (t : Bool) → bytes_eq name s.name ≡ t
        → (HasName name (map (λ (x : Symbol). x.name) ss)
        → option_map (λ x. x.value) (symbol_of (map (absolute base) (filter (λ x. x.global) ss)) name) ≡ Some a)
        → ((s.name ≡ name) ⊎ HasName name (map (λ (x : Symbol). x.name) ss))
        → option_map (λ x. x.value)
        (symbol_of (map (absolute base) (cond g (s ∷ filter (λ x. x.global) ss) (filter (λ x. x.global) ss))) name) ≡ Some a
    by true e true f ih h =
        let same : name ≡ s.name = (bytes_eq-Decides name s.name).0 f in
        ap (λ (t : Bool). option_map (λ (x : Symbol). x.value)
        (cond t (Some (absolute base s)) (symbol_of (map (absolute base) (filter (λ x. x.global) ss)) name))) f
        ∙ ap (λ v. Some v) (one name (value_in base s) a (subst (λ n. Named n (value_in base s)) (sym same) are.0) named)
    by true e false f ih (inl h) = absurd (true≢false (sym ((bytes_eq-Decides name s.name).1 (sym h)) ∙ f))
    by true e false f ih (inr h) =
        ap (λ (t : Bool). option_map (λ (x : Symbol). x.value)
        (cond t (Some (absolute base s)) (symbol_of (map (absolute base) (filter (λ x. x.global) ss)) name))) f
        ∙ ih h
    by false e t f ih (inl h) = absurd (true≢false (sym (global.0 h) ∙ e))
    by false e t f ih (inr h) = ih h
