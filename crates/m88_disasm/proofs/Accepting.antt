-- Statements that give the bytes of parts fit where they stand, and open the sections of the parts.
use Rattle.std.proofs.Common.{◌≡◌, ℕ, ◌+◌, ◌%◌, ◌≤◌, ◌^◌, Bool, false, ◌||◌, nat_lt, List, [], ◌∷◌, ◌++◌, length, refl, sym, ap, subst, ◌∙◌, arith, eq-eqb, le-ltb, length-append, append_assoc}
use Rattle.std.specs.Prelude.{Option, None, Some, flat_map, if◌then◌else◌, slice_get}
use Rattle.std.specs.List.{list_any}
use Rattle.std.specs.Option.{option_map, option_map_or, option_or}
use Rattle.m88_base.specs.Image.{most_bytes}
use Rattle.m88_base.specs.Placed.{Placed}
use Rattle.m88_parse.specs.declared.unit.Body.TheVariants as body
use Rattle.m88_parse.specs.declared.unit.Statement.{Statement}
use Rattle.m88_link.specs.declared.object.Place.TheVariants.{At}
use Rattle.m88_link.specs.declared.object.Symbol.{Symbol}
use Rattle.m88_asm.specs.declared.fault.AsmFault.{AsmFault}
use Rattle.m88_asm.specs.declared.fault.AsmKind.TheVariants as kind
use Rattle.m88_asm.specs.Counters.{Counters, Located, after, length_at, located, offset_here, offset_of, place_here, place_of}
use Rattle.m88_asm.specs.Faults.{alignment_of, duplicate_at, fault_in, misfit_at, misplaced_at, statements_fault, too_large_at}
use Rattle.m88_link.specs.Symbols.{Repetition, repeated_after}
use Rattle.m88_asm.specs.Objects.{Head, declares, heads_in, opened_by, opens, symbols_of}
use Rattle.m88_link.specs.Bases.{Placement, base_at}
use Rattle.m88_parse.specs.declared.unit.Module.{Module}
use Rattle.m88_disasm.specs.Read.{unlabelled}
use Rattle.m88_disasm.proofs.Bodies.{ArePieces}
use Rattle.m88_disasm.proofs.Given.{Data, Names, PartsData, Sets, a_set, more_data, more_parts, no_data, no_parts, no_set}
use Rattle.m88_disasm.proofs.Standing.{Bases, Empty, Fresh, Stands, empty_behind, fresh_behind, located_cons, located_none, opens_part, put_same, stands_behind}

-- a statement that fits where it stands
fits : (offset place : ℕ) (x : Statement) → place % alignment_of x.body ≡ 0
    → offset + length_at place x.body ≤ most_bytes
    → place + length_at place x.body ≤ 2 ^ 32 → misfit_at offset place x ≡ None
fits offset place x stands few low =
    let misplaced : misplaced_at place x ≡ None =
    ap (λ (t : Bool). if t then None else Some (record { line = x.line; col = x.col; kind = kind.Alignment }))
    (eq-eqb (place % alignment_of x.body) 0 stands) in
    let large : too_large_at offset place x ≡ None =
    ap (λ (t : Bool). if t || nat_lt (2 ^ 32) (place + length_at place x.body)
    then Some (record { line = x.line; col = x.col; kind = kind.TooLarge }) else None)
    (le-ltb most_bytes (offset + length_at place x.body) few)
    ∙ ap (λ (t : Bool). if t then Some (record { line = x.line; col = x.col; kind = kind.TooLarge }) else None)
    (le-ltb (2 ^ 32) (place + length_at place x.body) low) in
    ap (λ (o : Option AsmFault). option_or o (too_large_at offset place x)) misplaced ∙ large

pub faults_cons : (defined : List Symbol) (r : Located) (rs : List Located) → fault_in defined r ≡ None
    → statements_fault (defined ++ symbols_of r) rs ≡ None → statements_fault defined (r ∷ rs) ≡ None
unfolding statements_fault
faults_cons defined r rs first others =
    ap (λ (o : Option AsmFault). option_or o (statements_fault (defined ++ symbols_of r) rs)) first ∙ others

no_faults : (defined : List Symbol) → statements_fault defined [] ≡ None
unfolding statements_fault
no_faults defined = refl

-- no statement defines what is defined before
abbrev pub AreNew : List Symbol → List Located → Type 0
AreNew defined [] = Unit {0}
AreNew defined (r ∷ rs) = (repeated_after defined (symbols_of r) ≡ None) × AreNew (defined ++ symbols_of r) rs

-- each statement fits where it stands
abbrev pub AreFitting : List Located → Type 0
AreFitting [] = Unit {0}
AreFitting (r ∷ rs) = (misfit_at (offset_of r) (place_of r) r.statement ≡ None) × AreFitting rs

-- then they meet no fault
pub faultless : (defined : List Symbol) (rs : List Located) → AreNew defined rs → AreFitting rs
    → statements_fault defined rs ≡ None
faultless defined [] new fit = no_faults defined
faultless defined (r ∷ rs) new fit =
    faults_cons defined r rs
    (ap (λ (o : Option Repetition). option_or (option_map duplicate_at o) (misfit_at (offset_of r) (place_of r) r.statement))
    new.0 ∙ fit.0)
    (faultless (defined ++ symbols_of r) rs new.1 fit.1)

fitting_cons : (c : Counters) (x : Statement) (xs : List Statement)
    → misfit_at (offset_of (record { before = c; statement = x })) (place_of (record { before = c; statement = x })) x ≡ None
    → AreFitting (located (after c x.body) xs) → AreFitting (located c (x ∷ xs))
fitting_cons c x xs first others = subst AreFitting (sym (located_cons c x xs)) (first, others)

data_fitting : (Named : Names) (k at done : ℕ) (c : Counters) (from : ℕ) (bytes : List ℕ) (own more : List Statement)
    → from ≡ at + done → done + length bytes ≤ most_bytes → from + length bytes ≤ 2 ^ 32 → Stands c k at done
    → Data Named from bytes own
    → ((e : Counters) → Stands e k at (done + length bytes) → AreFitting (located e more))
    → AreFitting (located c (own ++ more))
data_fitting Named k at done c from _ _ more begins few low s no_data rest =
    let none : done ≡ done + 0 = omega arith in
    rest c (subst (λ (m : ℕ). Stands c k at m) none s)
data_fitting Named k at done c from bytes _ more begins few low s
    (more_data {x = x} {xs = xs} given left bytes_are gives tail) rest =
    let next : from + length given ≡ at + (done + length given) = omega arith in
    let size : length bytes ≡ length given + length left = ap length bytes_are ∙ length-append given left in
    let later : (e : Counters) → Stands e k at (done + length given + length left) → AreFitting (located e more) =
    λ e h. rest e (let same : done + length given + length left ≡ done + length bytes = omega (arith, size) in
    subst (λ (i : ℕ). Stands e k at i) same h) in
    let r : Located = record { before = c; statement = x } in
    let ih : AreFitting (located (after c x.body) (xs ++ more)) =
    data_fitting Named k at (done + length given) (after c x.body) (from + length given) left xs more next
    (omega (arith, size)) (omega (arith, size)) (stands_behind Named c k at done from x given gives s) tail later in
    let offset : offset_of r ≡ done = ap offset_here (gives.stays c) ∙ ap c.lengths s.here ∙ s.has in
    let place : place_of r ≡ from =
    ap place_here (gives.stays c)
    ∙ ap (λ (i : ℕ). c.starts i + c.lengths i) s.here
    ∙ (let e = s.has in let f = s.begins in omega (arith, e, f, begins)) in
    let len : length_at from x.body ≡ length given = gives.length_is from in
    fitting_cons c x (xs ++ more)
    (ap (λ (i : ℕ). misfit_at i (place_of r) x) offset
    ∙ ap (λ (i : ℕ). misfit_at done i x) place
    ∙ fits done from x gives.stands (omega (arith, size, len)) (omega (arith, size, len)))
    ih

-- the parts have no more bytes together than an image
abbrev pub AreFew : List Placed → Type 0
AreFew [] = Unit {0}
AreFew (run ∷ runs) = (length run.bytes ≤ most_bytes) × AreFew runs

place_fits : (c : Counters) (n at : ℕ) → c.lengths c.count ≡ 0 → at ≤ 2 ^ 32
    → misfit_at (c.lengths c.count) (place_of (record { before = c; statement = unlabelled n (body.At at) }))
    (unlabelled n (body.At at)) ≡ None
place_fits c n at none low =
    let x : Statement = unlabelled n (body.At at) in
    let r : Located = record { before = c; statement = x } in
    let place : place_of r ≡ at =
    ap (λ (k : ℕ). k + c.lengths c.count) (put_same c.starts c.count at) ∙ omega (arith, none) in
    ap (λ (i : ℕ). misfit_at i (place_of r) x) none
    ∙ ap (λ (i : ℕ). misfit_at 0 i x) place
    ∙ fits 0 at x (omega arith) (omega arith) (omega arith)

pub parts_fitting : (Named : Names) (c : Counters) (n : ℕ) (runs : List Placed) (xs : List Statement)
    → ArePieces runs → AreFew runs → Fresh c n → PartsData Named runs xs → AreFitting (located c xs)
parts_fitting Named c n _ _ pieces few f no_parts = subst AreFitting (sym (located_none c)) tt
parts_fitting Named c n _ xs pieces few f
    (more_parts {run = run} {runs = runs} i own more statements_are datas others) =
    let opened : Counters = after c (body.At run.at) in
    let x : Statement = unlabelled i (body.At run.at) in
    let behind : (e : Counters) → Stands e n run.at (0 + length run.bytes) → AreFitting (located e more) =
    λ e h. parts_fitting Named e (n + 1) runs more pieces.3 few.1 (fresh_behind e n run.at (0 + length run.bytes) h)
    others in
    let own_fit : AreFitting (located opened (own ++ more)) =
    data_fitting Named n run.at 0 opened run.at run.bytes own more (omega arith)
    (let h = few.0 in omega arith) pieces.2 (opens_part c n run.at f) datas behind in
    let none : c.lengths c.count ≡ 0 = f.empty c.count (let e = f.count in omega arith) in
    subst (λ (ys : List Statement). AreFitting (located c ys)) (sym statements_are)
    (fitting_cons c x (own ++ more) (place_fits c i run.at none (let e = pieces.2 in omega arith)) own_fit)

-- statements that give names values fit, and what stands behind them
pub fitting_behind : (Named : Names) (c : Counters) (sets xs : List Statement) → Sets Named sets → Empty c
    → ((e : Counters) → Empty e → AreFitting (located e xs)) → AreFitting (located c (sets ++ xs))
fitting_behind Named c _ xs no_set empty rest = rest c empty
fitting_behind Named c _ xs (a_set {xs = sets} n name col value named others) empty rest =
    let x : Statement = unlabelled n (body.Set name col value) in
    let place : c.starts c.here + c.lengths c.here ≡ c.starts 0 =
    ap (λ (i : ℕ). c.starts i + c.lengths i) empty.here ∙ (let e = empty.text in omega (arith, e)) in
    fitting_cons c x (sets ++ xs)
    (ap (λ (i : ℕ). misfit_at i (c.starts c.here + c.lengths c.here) x) (ap c.lengths empty.here ∙ empty.text)
    ∙ ap (λ (i : ℕ). misfit_at 0 i x) (place ∙ empty.begins)
    ∙ fits 0 0 x (omega arith) (omega arith) (omega arith))
    (fitting_behind Named (after c x.body) sets xs others (empty_behind c name col value empty) rest)

-- the sections that statements open
pub opened_sections : (c : Counters) (xs : List Statement)
    → flat_map opens (located c xs) ≡ flat_map (λ x. opened_by x.line x.body) xs
opened_sections c [] = ap (flat_map opens) (located_none c)
opened_sections c (x ∷ xs) =
    ap (flat_map opens) (located_cons c x xs)
    ∙ ap (λ (hs : List Head). opened_by x.line x.body ++ hs) (opened_sections (after c x.body) xs)

-- the heads are those of the parts
abbrev pub HeadsAre : List Head → List Placed → Type 0
HeadsAre [] [] = Unit {0}
HeadsAre (h ∷ hs) (run ∷ runs) = (h.place ≡ At run.at) × HeadsAre hs runs
HeadsAre _ _ = ⊥

-- the sections that statements open, wherever they stand
abbrev pub opened_in : List Statement → List Head
opened_in xs = flat_map (λ x. opened_by x.line x.body) xs

data_heads : (Named : Names) (from : ℕ) (bytes : List ℕ) (own more : List Statement) (runs : List Placed)
    → Data Named from bytes own → HeadsAre (opened_in more) runs → HeadsAre (opened_in (own ++ more)) runs
data_heads Named from _ _ more runs no_data rest = rest
data_heads Named from _ _ more runs (more_data {x = x} {xs = xs} given left bytes_are gives tail) rest =
    subst (λ (hs : List Head). HeadsAre (hs ++ opened_in (xs ++ more)) runs) (sym gives.opens_none)
    (data_heads Named (from + length given) left xs more runs tail rest)

pub parts_heads : (Named : Names) (runs : List Placed) (xs : List Statement) → PartsData Named runs xs
    → HeadsAre (opened_in xs) runs
parts_heads Named _ _ no_parts = tt
parts_heads Named _ xs (more_parts {run = run} {runs = runs} n own more statements_are datas others) =
    subst (λ (ys : List Statement). HeadsAre (opened_in ys) (run ∷ runs)) (sym statements_are)
    (refl, data_heads Named run.at run.bytes own more runs datas (parts_heads Named runs more others))

pub sets_heads : (Named : Names) (sets xs : List Statement) → Sets Named sets → opened_in (sets ++ xs) ≡ opened_in xs
sets_heads Named _ xs no_set = refl
sets_heads Named _ xs (a_set {xs = sets} n name col value named others) = sets_heads Named sets xs others

-- so their sections begin where the parts do
get_behind : (pre : List Head) (h : Head) (hs : List Head) → slice_get (pre ++ h ∷ hs) (length pre) ≡ Some h
get_behind [] h hs = refl
get_behind (p ∷ pre) h hs = get_behind pre h hs

pub bases_are : (d : Placement Module) (n : ℕ) (pre hs : List Head) (runs : List Placed) → heads_in d.part ≡ pre ++ hs
    → length pre ≡ n
    → HeadsAre hs runs → Bases d n runs
bases_are d n pre [] [] heads len are = tt
bases_are d n pre (h ∷ hs) (run ∷ runs) heads len are =
    let found : slice_get (heads_in d.part) n ≡ Some h =
    ap (λ (k : ℕ). slice_get (heads_in d.part) k) (sym len)
    ∙ ap (λ (xs : List Head). slice_get xs (length pre)) heads ∙ get_behind pre h hs in (
      ap (λ (o : Option Head). option_map_or (λ x. base_at d x.place) o 0) found ∙ ap (base_at d) are.0,
      bases_are d (n + 1) (pre ++ h ∷ []) hs runs (heads ∙ sym (append_assoc pre (h ∷ []) hs))
          (length-append pre (h ∷ []) ∙ ap (λ (k : ℕ). k + 1) len) are.1,
    )
bases_are d n pre [] (run ∷ runs) heads len are = absurd are
bases_are d n pre (h ∷ hs) [] heads len are = absurd are

-- no statement says that a name is global
pub data_silent : (Named : Names) (name : List ℕ) (from : ℕ) (bytes : List ℕ) (own more : List Statement)
    → Data Named from bytes own → list_any (λ (x : Statement). declares name x.body) more ≡ false
    → list_any (λ (x : Statement). declares name x.body) (own ++ more) ≡ false
data_silent Named name from _ _ more no_data rest = rest
data_silent Named name from _ _ more (more_data {x = x} {xs = xs} given left bytes_are gives tail) rest =
    ap (λ (t : Bool). t || list_any (λ (y : Statement). declares name y.body) (xs ++ more)) (gives.declares_none name)
    ∙ data_silent Named name (from + length given) left xs more tail rest

pub parts_silent : (Named : Names) (name : List ℕ) (runs : List Placed) (xs : List Statement) → PartsData Named runs xs
    → list_any (λ (x : Statement). declares name x.body) xs ≡ false
parts_silent Named name _ _ no_parts = refl
parts_silent Named name _ xs (more_parts {run = run} {runs = runs} n own more statements_are datas others) =
    ap (list_any (λ (x : Statement). declares name x.body)) statements_are
    ∙ data_silent Named name run.at run.bytes own more datas (parts_silent Named name runs more others)

pub sets_silent : (Named : Names) (name : List ℕ) (sets xs : List Statement) → Sets Named sets
    → list_any (λ (x : Statement). declares name x.body) xs ≡ false
    → list_any (λ (x : Statement). declares name x.body) (sets ++ xs) ≡ false
sets_silent Named name _ xs no_set rest = rest
sets_silent Named name _ xs (a_set {xs = sets} n set_name col value named others) rest =
    sets_silent Named name sets xs others rest
