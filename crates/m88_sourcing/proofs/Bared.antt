-- The skeleton of statements that give the bytes of parts gives as many zeros, at the same addresses or further on.
use Rattle.std.proofs.Common.{◌≡◌, ◌⊎◌, ℕ, ◌+◌, ◌<◌, ◌≤◌, ◌^◌, inl, inr, List, [], ◌∷◌, ◌++◌, length, replicate, zero, suc, refl, sym, ap, subst, ◌∙◌, arith, length-append}
use Rattle.std.specs.Prelude.{IfSome, Option, None, Some, map}
use Rattle.std.proofs.lemmas.List.{length-replicate, replicate-append-replicate}
use Rattle.std.proofs.lemmas.List.Concat.{flat_map-append}
use Rattle.m88_base.specs.Placed.{Placed}
use Rattle.m88_base.proofs.Laws.{AreBytes}
use Rattle.m88_parse.specs.declared.unit.Body.{Body}
use Rattle.m88_parse.specs.declared.unit.Body.TheVariants as body
use Rattle.m88_parse.specs.declared.unit.Statement.{Statement}
use Rattle.m88_link.specs.declared.object.Symbol.{Symbol}
use Rattle.m88_asm.specs.Counters.{at_begin, length_at}
use Rattle.m88_asm.specs.Objects.{labels_at, opened_by, sets_at}
use Rattle.m88_disasm.specs.Read.{unlabelled}
use Rattle.m88_disasm.proofs.Laws.{ArePieces, Data, Gives, HasName, Names, PartsData, Sets, a_set, more_data, more_parts, names_in, names_of, no_data, no_parts, no_set}
use Rattle.m88_sourcing.proofs.Names.{name_before, name_behind}
use Rattle.m88_sourcing.proofs.Skeleton.{bare, bared, skeleton, skeleton_behind}

abbrev pub zeros : ℕ → List ℕ
zeros n = replicate n 0

pub zeros_length : (n : ℕ) → length (zeros n) ≡ n
zeros_length n = length-replicate {A = ℕ} n 0

pub zeros_behind : (m n : ℕ) → zeros m ++ zeros n ≡ zeros (m + n)
zeros_behind m n = replicate-append-replicate {A = ℕ} m n 0

abbrev pub bared_run : Placed → Placed
bared_run run = record { at = run.at; bytes = zeros (length run.bytes) }

-- a statement that gives bytes
bare_is : (line : ℕ) (b : Body) → opened_by line b ≡ [] → sets_at line b ≡ [] → bare b ≡ body.Zero (length_at 0 b)
bare_is line (body.At a) none no_value = absurd cc
bare_is line (body.Set name col value) none no_value = absurd cc
bare_is line b none no_value = refl

pub gives_none : (Named : Names) (at n : ℕ) (x : Statement) → x.body ≡ body.Zero n → IfSome x.label (λ l. Named l.0 at)
    → Gives Named at x (zeros n)
gives_none Named at n x is label =
    subst (λ (b : Body). Gives Named at (record { line = x.line; label = x.label; col = x.col; body = b }) (zeros n))
    (sym is)
    (record {
      stays = λ c. refl;
      length_is = λ place. sym (zeros_length n);
      stands = omega arith;
      bytes_are = λ value place means. refl;
      opens_none = refl;
      sets_none = refl;
      declares_none = λ name. refl;
      labelled = label;
      uses = λ section offset. tt;
    })

-- the names that statements give to what is at an address stand for what is n bytes further on
abbrev pub MovesNames : Names → Names → ℕ → List Statement → Type 0
MovesNames Old New n xs = (name : List ℕ) (a : ℕ) → HasName name (names_in xs) → Old name a → New name (a + n)

label_moves : (Old New : Names) (n at line : ℕ) (label : Option (List ℕ × ℕ)) (others : List Symbol)
    → IfSome label (λ l. Old l.0 at)
    → ((name : List ℕ) → HasName name (map (λ (s : Symbol). s.name) (labels_at at_begin line label ++ others))
    → Old name at → New name (at + n))
    → IfSome label (λ l. New l.0 (at + n))
label_moves Old New n at line None others h move = tt
label_moves Old New n at line (Some l) others h move = move l.0 (inl refl) h

bare_gives : (Old New : Names) (n at : ℕ) (x : Statement) (given : List ℕ) → Gives Old at x given
    → ((name : List ℕ) → HasName name (names_of x) → Old name at → New name (at + n))
    → Gives New (at + n) (bared x) (zeros (length given))
bare_gives Old New n at x given g move =
    subst (λ (k : ℕ). Gives New (at + n) (bared x) (zeros k)) (g.length_is 0)
    (gives_none New (at + n) (length_at 0 x.body) (bared x) (bare_is x.line x.body g.opens_none g.sets_none)
    (label_moves Old New n at x.line x.label (sets_at x.line x.body) g.labelled move))

pub bare_data : (Old New : Names) (n at : ℕ) (bytes : List ℕ) (xs : List Statement) → Data Old at bytes xs
    → MovesNames Old New n xs → Data New (at + n) (zeros (length bytes)) (skeleton xs)
bare_data Old New n at _ _ no_data move = no_data
bare_data Old New n at bytes _ (more_data {x = x} {xs = xs} given rest bytes_are gives tail) move =
    let size : length bytes ≡ length given + length rest = ap length bytes_are ∙ length-append given rest in
    let given_size = zeros_length (length given) in
    let next : at + length given + n ≡ at + n + length (zeros (length given)) = omega (arith, given_size) in
    more_data (zeros (length given)) (zeros (length rest))
    (ap zeros size ∙ sym (zeros_behind (length given) (length rest)))
    (bare_gives Old New n at x given gives
    (λ name has old. move name at (name_before name (names_of x) (names_in xs) has) old))
    (subst (λ (a : ℕ). Data New a (zeros (length rest)) (skeleton xs)) next
    (bare_data Old New n (at + length given) rest xs tail
    (λ name a has old. move name a (name_behind name (names_of x) (names_in xs) has) old)))

pub bare_parts : (Old New : Names) (runs : List Placed) (xs : List Statement) → PartsData Old runs xs
    → MovesNames Old New 0 xs → PartsData New (map bared_run runs) (skeleton xs)
bare_parts Old New _ _ no_parts move = no_parts
bare_parts Old New _ xs (more_parts {run = run} {runs = runs} number own more are datas others) move =
    let names : names_in xs ≡ names_in own ++ names_in more =
    ap names_in are ∙ flat_map-append names_of own more in
    let same : run.at + 0 ≡ run.at = omega arith in
    more_parts number (skeleton own) (skeleton more)
    (ap skeleton are ∙ ap (λ (zs : List Statement). unlabelled number (body.At run.at) ∷ zs) (skeleton_behind own more))
    (subst (λ (a : ℕ). Data New a (zeros (length run.bytes)) (skeleton own)) same
    (bare_data Old New 0 run.at run.bytes own datas (λ name a has old.
    move name a (subst (HasName name) (sym names) (name_before name (names_in own) (names_in more) has)) old)))
    (bare_parts Old New runs more others (λ name a has old.
    move name a (subst (HasName name) (sym names) (name_behind name (names_in own) (names_in more) has)) old))

-- zeros are bytes
zeros_small : (n : ℕ) → AreBytes (zeros n)
zeros_small zero = tt
zeros_small (suc n) = (omega arith, zeros_small n)

pub bared_pieces : (runs : List Placed) → ArePieces runs → ArePieces (map bared_run runs)
bared_pieces [] h = tt
bared_pieces (run ∷ runs) h =
    let size = zeros_length (length run.bytes) in
    let some = h.1 in
    let low = h.2 in
    (zeros_small (length run.bytes), omega (arith, size, some), omega (arith, size, low), bared_pieces runs h.3)

pub one_piece : (at n : ℕ) → 0 < n → at + n ≤ 2 ^ 32
    → AreBytes (zeros n) × (0 < length (zeros n)) × (at + length (zeros n) ≤ 2 ^ 32)
one_piece at n some low =
    let size = zeros_length n in (zeros_small n, omega (arith, size, some), omega (arith, size, low))

-- a name that is given to something stands for something
pub name_in_either : (name : List ℕ) (ns ms : List (List ℕ)) → HasName name (ns ++ ms)
    → HasName name ns ⊎ HasName name ms
name_in_either name [] ms h = inr h
name_in_either name (m ∷ ns) ms (inl h) = inl (inl h)
name_in_either name (m ∷ ns) ms (inr h) = elim (name_in_either name ns ms h) [
  | inl k ↦ inl (inr k)
  | inr k ↦ inr k
]

pub data_stands : (Named : Names) (name : List ℕ) (at : ℕ) (bytes : List ℕ) (xs : List Statement)
    → Data Named at bytes xs
    → HasName name (names_in xs) → (a : ℕ) × Named name a
data_stands Named name at _ _ no_data has = absurd has
data_stands Named name at bytes _ (more_data {x = x} {xs = xs} given rest bytes_are gives tail) has =
    elim (name_in_either name (names_of x) (names_in xs) has) [
      | inl here ↦ (
        at,
        by x.label gives.labelled
            (subst (λ (ss : List Symbol). HasName name (map (λ (s : Symbol). s.name)
            (labels_at at_begin x.line x.label ++ ss)))
            gives.sets_none here),
      )
      | inr later ↦ data_stands Named name (at + length given) rest xs tail later
    ]
  where
    by : (label : Option (List ℕ × ℕ)) → IfSome label (λ l. Named l.0 at)
        → HasName name (map (λ (s : Symbol). s.name) (labels_at at_begin x.line label ++ [])) → Named name at
    by None h k = absurd k
    by (Some l) h (inl same) = subst (λ (m : List ℕ). Named m at) same h
    by (Some l) h (inr none) = absurd none

pub parts_stand : (Named : Names) (name : List ℕ) (runs : List Placed) (xs : List Statement) → PartsData Named runs xs
    → HasName name (names_in xs) → (a : ℕ) × Named name a
parts_stand Named name _ _ no_parts has = absurd has
parts_stand Named name _ xs (more_parts {run = run} {runs = runs} number own more are datas others) has =
    let names : names_in xs ≡ names_in own ++ names_in more =
    ap names_in are ∙ flat_map-append names_of own more in
    elim (name_in_either name (names_in own) (names_in more) (subst (HasName name) names has)) [
      | inl here ↦ data_stands Named name run.at run.bytes own datas here
      | inr later ↦ parts_stand Named name runs more others later
    ]

pub sets_stand : (Named : Names) (name : List ℕ) (sets : List Statement) → Sets Named sets
    → HasName name (names_in sets) → (a : ℕ) × Named name a
sets_stand Named name _ no_set has = absurd has
sets_stand Named name _ (a_set {xs = xs} n set_name col value named others) (inl same) =
    (value, subst (λ (m : List ℕ). Named m value) same named)
sets_stand Named name _ (a_set {xs = xs} n set_name col value named others) (inr has) =
    sets_stand Named name xs others has
