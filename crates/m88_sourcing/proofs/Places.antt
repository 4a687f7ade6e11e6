-- Where statements stand that give bytes one behind the other.
use Rattle.std.proofs.Common.{◌≡◌, ◌⊎◌, ℕ, pos, ◌+◌, inl, inr, List, [], ◌∷◌, ◌++◌, length, refl, sym, ap, subst, ◌∙◌, arith, append_assoc, length-append}
use Rattle.std.specs.Prelude.{None, Some}
use Rattle.std.specs.List.{AllByRecursion}
use Rattle.m88_base.specs.Image.{ProgramImage}
use Rattle.m88_base.specs.declared.fixup.Fixup.{Fixup}
use Rattle.m88_base.specs.declared.fixup.Kind.{Kind}
use Rattle.m88_base.specs.declared.fixup.Kind.TheVariants.{Pc16, Pc26}
use Rattle.m88_isa.specs.declared.instr.Instr.{Instr}
use Rattle.m88_isa.specs.declared.instr.Instr.TheVariants as instr
use Rattle.m88_parse.specs.declared.unit.Body.{Body}
use Rattle.m88_parse.specs.declared.unit.Body.TheVariants as body
use Rattle.m88_parse.specs.declared.unit.Statement.{Statement}
use Rattle.m88_parse.specs.declared.unit.Value.{Value}
use Rattle.m88_parse.specs.declared.unit.Value.TheVariants.{Number, Symbol}
use Rattle.m88_asm.specs.Counters.{length_at}
use Rattle.m88_asm.specs.Objects.{opened_by}
use Rattle.m88_base.specs.Placed.{Placed}
use Rattle.m88_disasm.specs.Read.{unlabelled}
use Rattle.m88_disasm.proofs.Laws.{Data, Names, PartsData, more_data, more_parts, no_data, no_parts}
use Rattle.m88_sourcing.specs.Code.{IsCode, HoldsInstruction}
use Rattle.m88_sourcing.specs.Flow.{branch_target}
use Rattle.m88_sourcing.specs.Labels.{label_of}
use Rattle.m88_sourcing.specs.Said.{Said}
use Rattle.m88_sourcing.specs.Targets.{counting}

-- where the next byte goes behind a body at an address
abbrev pub place_behind : ℕ → Body → ℕ
place_behind at (body.At a) = a
place_behind at b = at + length_at 0 b

-- one of the statements from an address on is so, at its address
abbrev pub HasAt : (ℕ → Statement → Type 0) → ℕ → List Statement → Type 0
HasAt Is at [] = ⊥
HasAt Is at (x ∷ xs) = Is at x ⊎ HasAt Is (place_behind at x.body) xs

-- each of them is so
abbrev pub AllAt : (ℕ → Statement → Type 0) → ℕ → List Statement → Type 0
AllAt Is at [] = Unit {0}
AllAt Is at (x ∷ xs) = Is at x × AllAt Is (place_behind at x.body) xs

-- a statement at an address is a branch that waits for the name of its target, with nothing added to it
pub record WaitsFor (i : Instr) (t : ℕ) (x : Statement) : Type 0 where
  pub name : Fixup
  pub body_is : x.body ≡ body.Code (counting (pos 0) i) (Some name)
  pub symbol : name.symbol ≡ label_of t
  pub alone : name.addend ≡ 0

abbrev pub IsBranchTo : ℕ → Instr → ℕ → ℕ → Statement → Type 0
IsBranchTo a i t at x = (at ≡ a) × WaitsFor i t x

-- values without names
abbrev pub AreNumbers : List Value → Type 0
AreNumbers [] = Unit {0}
AreNumbers (Number n ∷ vs) = AreNumbers vs
AreNumbers (Symbol f ∷ vs) = ⊥

-- a body whose bytes hang on no name
abbrev pub IsPlain : Body → Type 0
IsPlain body.Empty = Unit {0}
IsPlain (body.At a) = Unit {0}
IsPlain (body.Word vs) = AreNumbers vs
IsPlain (body.Byte bs) = Unit {0}
IsPlain (body.Ascii bs) = Unit {0}
IsPlain (body.Zero n) = Unit {0}
IsPlain (body.Code i None) = Unit {0}
IsPlain b = ⊥

-- the kind of the field of a branch
abbrev pub branch_kind : Instr → Kind
branch_kind (instr.Branch link delayed words) = Pc26
branch_kind i = Pc16

-- a statement at an address is the branch that stands there
pub record IsBranchAt (image : ProgramImage) (said : Said) (at : ℕ) (x : Statement) : Type 0 where
  pub i : Instr
  pub t : ℕ
  pub code : IsCode image said at
  pub stands : HoldsInstruction image at i
  pub leads : branch_target at i ≡ Some t
  pub waits : WaitsFor i t x
  pub kind : waits.name.kind ≡ branch_kind i

-- the statements of a source are plain, or branches
abbrev pub IsSimple : ProgramImage → Said → ℕ → Statement → Type 0
IsSimple image said at x = IsPlain x.body ⊎ IsBranchAt image said at x

pub all_plain : (image : ProgramImage) (said : Said) (at : ℕ) (xs : List Statement)
    → AllByRecursion (λ x. IsPlain x.body) xs → AllAt (IsSimple image said) at xs
all_plain image said at [] h = tt
all_plain image said at (x ∷ xs) h = (inl h.0, all_plain image said (place_behind at x.body) xs h.1)

pub has_in_front : (Is : ℕ → Statement → Type 0) (at : ℕ) (xs ys : List Statement) → HasAt Is at xs → HasAt Is at (xs ++ ys)
has_in_front Is at [] ys h = absurd h
has_in_front Is at (x ∷ xs) ys (inl h) = inl h
has_in_front Is at (x ∷ xs) ys (inr h) = inr (has_in_front Is (place_behind at x.body) xs ys h)

pub place_given : (line at n : ℕ) (b : Body) → opened_by line b ≡ [] → length_at 0 b ≡ n → place_behind at b ≡ at + n
place_given line at n (body.At a) none size = absurd cc
place_given line at n b none size = ap (λ (k : ℕ). at + k) size

-- what stands behind statements that give bytes
pub has_behind_data : (Is : ℕ → Statement → Type 0) (Named : Names) (at next : ℕ) (bytes : List ℕ) (xs ys : List Statement)
    → next ≡ at + length bytes → Data Named at bytes xs → HasAt Is next ys → HasAt Is at (xs ++ ys)
has_behind_data Is Named at next _ _ ys is no_data h =
    let same : next ≡ at = omega (arith, is) in subst (λ (a : ℕ). HasAt Is a ys) same h
has_behind_data Is Named at next bytes _ ys is (more_data {x = x} {xs = xs} given left bytes_are gives tail) h =
    let size : length bytes ≡ length given + length left = ap length bytes_are ∙ length-append given left in
    let place : place_behind at x.body ≡ at + length given =
    place_given x.line at (length given) x.body gives.opens_none (gives.length_is 0) in
    inr (subst (λ (a : ℕ). HasAt Is a (xs ++ ys)) (sym place)
    (has_behind_data Is Named (at + length given) next left xs ys (omega (arith, is, size)) tail h))

-- statements of parts stand where their parts say
-- no part begins with a statement that is so
abbrev pub NoPlaceIs : (ℕ → Statement → Type 0) → Type 0
NoPlaceIs Is = (at n a : ℕ) → Is at (unlabelled n (body.At a)) → ⊥

pub no_branch : (a : ℕ) (i : Instr) (t : ℕ) → NoPlaceIs (IsBranchTo a i t)
no_branch a i t at n b (same, waits) = absurd (no_code (WaitsFor.body_is waits))
  where
    no_code : {j : Instr} {f : Fixup} → body.At b ≡ body.Code j (Some f) → ⊥
    no_code e = absurd cc

pub anywhere : (Is : ℕ → Statement → Type 0) (Named : Names) (p q : ℕ) (runs : List Placed) (xs : List Statement)
    → NoPlaceIs Is → PartsData Named runs xs → HasAt Is p xs → HasAt Is q xs
anywhere Is Named p q _ _ never no_parts h = absurd h
anywhere Is Named p q _ xs never (more_parts {run = run} n own more are datas others) h =
    subst (HasAt Is q) (sym are) (by (subst (HasAt Is p) are h))
  where
    by : (Is p (unlabelled n (body.At run.at)) ⊎ HasAt Is run.at (own ++ more))
        → (Is q (unlabelled n (body.At run.at)) ⊎ HasAt Is run.at (own ++ more))
    by (inl place) = absurd (never p n run.at place)
    by (inr rest) = inr rest

pub has_behind_parts : (Is : ℕ → Statement → Type 0) (Named : Names) (p : ℕ) (runs : List Placed)
    (xs ys : List Statement) → PartsData Named runs xs → ((q : ℕ) → HasAt Is q ys) → HasAt Is p (xs ++ ys)
has_behind_parts Is Named p _ _ ys no_parts rest = rest p
has_behind_parts Is Named p _ xs ys (more_parts {run = run} {runs = runs} n own more are datas others) rest =
    let end : ℕ = run.at + length run.bytes in
    let tail : HasAt Is run.at (own ++ (more ++ ys)) =
    has_behind_data Is Named run.at end run.bytes own (more ++ ys) refl datas
    (has_behind_parts Is Named end runs more ys others rest) in
    subst (λ (zs : List Statement). HasAt Is p (zs ++ ys)) (sym are)
    (inr (subst (HasAt Is run.at) (sym (append_assoc own more ys)) tail))

-- the same of all statements
pub all_behind_data : (Is : ℕ → Statement → Type 0) (Named : Names) (at next : ℕ) (bytes : List ℕ)
    (xs ys : List Statement)
    → next ≡ at + length bytes → Data Named at bytes xs → AllAt Is at xs → AllAt Is next ys → AllAt Is at (xs ++ ys)
all_behind_data Is Named at next _ _ ys is no_data h k =
    let same : next ≡ at = omega (arith, is) in subst (λ (a : ℕ). AllAt Is a ys) same k
all_behind_data Is Named at next bytes _ ys is (more_data {x = x} {xs = xs} given left bytes_are gives tail) h k =
    let size : length bytes ≡ length given + length left = ap length bytes_are ∙ length-append given left in
    let place : place_behind at x.body ≡ at + length given =
    place_given x.line at (length given) x.body gives.opens_none (gives.length_is 0) in (
      h.0,
      subst (λ (a : ℕ). AllAt Is a (xs ++ ys)) (sym place)
          (all_behind_data Is Named (at + length given) next left xs ys (omega (arith, is, size)) tail
          (subst (λ (a : ℕ). AllAt Is a xs) place h.1) k),
    )

-- and of each part of them
pub all_apart : (Is : ℕ → Statement → Type 0) (Named : Names) (at next : ℕ) (bytes : List ℕ) (xs ys : List Statement)
    → next ≡ at + length bytes → Data Named at bytes xs → AllAt Is at (xs ++ ys) → AllAt Is at xs × AllAt Is next ys
all_apart Is Named at next _ _ ys is no_data h =
    let same : at ≡ next = omega (arith, is) in (tt, subst (λ (a : ℕ). AllAt Is a ys) same h)
all_apart Is Named at next bytes _ ys is (more_data {x = x} {xs = xs} given left bytes_are gives tail) h =
    let size : length bytes ≡ length given + length left = ap length bytes_are ∙ length-append given left in
    let place : place_behind at x.body ≡ at + length given =
    place_given x.line at (length given) x.body gives.opens_none (gives.length_is 0) in
    let parts : AllAt Is (at + length given) xs × AllAt Is next ys =
    all_apart Is Named (at + length given) next left xs ys (omega (arith, is, size)) tail
    (subst (λ (a : ℕ). AllAt Is a (xs ++ ys)) place h.1) in
    ((h.0, subst (λ (a : ℕ). AllAt Is a xs) (sym place) parts.0), parts.1)

pub all_anywhere : (image : ProgramImage) (said : Said) (Named : Names) (p q : ℕ) (runs : List Placed)
    (xs : List Statement) → PartsData Named runs xs → AllAt (IsSimple image said) p xs
    → AllAt (IsSimple image said) q xs
all_anywhere image said Named p q _ _ no_parts h = tt
all_anywhere image said Named p q _ xs (more_parts {run = run} n own more are datas others) h =
    subst (AllAt (IsSimple image said) q) (sym are) (inl tt, (subst (AllAt (IsSimple image said) p) are h).1)

pub all_behind_parts : (image : ProgramImage) (said : Said) (Named : Names) (p : ℕ) (runs : List Placed)
    (xs ys : List Statement) → PartsData Named runs xs → AllAt (IsSimple image said) p xs
    → ((q : ℕ) → AllAt (IsSimple image said) q ys) → AllAt (IsSimple image said) p (xs ++ ys)
all_behind_parts image said Named p _ _ ys no_parts h rest = rest p
all_behind_parts image said Named p _ xs ys
    (more_parts {run = run} {runs = runs} n own more are datas others) h rest =
    let Is : ℕ → Statement → Type 0 = IsSimple image said in
    let end : ℕ = run.at + length run.bytes in
    let own_all : AllAt Is run.at (own ++ more) = (subst (AllAt Is p) are h).1 in
    let parts : AllAt Is run.at own × AllAt Is end more =
    all_apart Is Named run.at end run.bytes own more refl datas own_all in
    let tail : AllAt Is run.at (own ++ (more ++ ys)) =
    all_behind_data Is Named run.at end run.bytes own (more ++ ys) refl datas parts.0
    (all_behind_parts image said Named end runs more ys others parts.1 rest) in
    subst (λ (zs : List Statement). AllAt Is p (zs ++ ys)) (sym are)
    (inl tt, subst (AllAt Is run.at) (sym (append_assoc own more ys)) tail)
