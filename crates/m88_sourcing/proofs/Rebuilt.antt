-- The source of an image builds the image again.
use Rattle.std.proofs.Common.{◌≡◌, ◌⊎◌, ℕ, zero, suc, ◌+◌, ◌%◌, ◌<◌, ◌≤◌, ◌^◌, inl, inr, List, [], ◌∷◌, ◌++◌, length, get_or, refl, sym, ap, subst, ◌∙◌, arith, append_assoc, codes, length-append}
use Rattle.std.specs.Prelude.{Contains, IsSome, None, Option, Some, map}
use Rattle.std.specs.Cmp.{nat_cmp_is}
use Rattle.std.specs.List.{AllByRecursion}
use Rattle.std.specs.List.Sorted.{IsStrictlySortedBy}
use Rattle.std.specs.Option.{option_or}
use Rattle.std.proofs.Common.{Equal, Less}
use Rattle.std.specs.Ordering.{nat_cmp}
use Rattle.std.proofs.lemmas.Bool.{cases_lt}
use Rattle.std.proofs.lemmas.List.Concat.{flat_map-append}
use Rattle.std.proofs.lemmas.List.Sums.{sum_by-append, sum_by-cons}
use Rattle.m88_base.specs.Found.{IsPart}
use Rattle.m88_base.specs.Image.{IsImage, ProgramImage, byte_at, byte_count, most_bytes, parts}
use Rattle.m88_base.specs.Lines.{text_of_lines}
use Rattle.m88_base.specs.Placed.{AreApart, Placed, byte_among, byte_in, count_among}
use Rattle.m88_base.proofs.Laws.{byte_among-append, byte_in_above, byte_in_below, run_is_part}
use Rattle.m88_parse.specs.declared.unit.Body.TheVariants as body
use Rattle.m88_parse.specs.declared.unit.Statement.{Statement}
use Rattle.m88_disasm.specs.Listing.{start_line}
use Rattle.m88_disasm.specs.Read.{WritesImage, unlabelled}
use Rattle.std.proofs.lemmas.List.{map-append}
use Rattle.m88_disasm.proofs.Laws.{AreOnce, ArePieces, HasName, IsNew, IsWritten, Sets, Stated, a_set, accepted, bytes_are, names_in, names_of, no_set, pieces_of, said_start, spoken, start_is, stated_behind, unit_is, unit_of}
use Rattle.m88_isa.specs.declared.instr.Instr.{Instr}
use Rattle.m88_parse.specs.Language.Units.{IsUnit}
use Rattle.m88_sourcing.specs.Flow.{branch_target}
use Rattle.m88_sourcing.specs.Code.{InCode, IsCode, HoldsInstruction}
use Rattle.m88_sourcing.specs.Labels.{IsTarget, label_of}
use Rattle.m88_sourcing.specs.Said.{Said}
use Rattle.m88_sourcing.specs.Source.{AreFar, AreSourceLines, IsSource, LineWhere, far_line}
use Rattle.m88_sourcing.specs.Source.LineWhere.{so, not_so}
use Rattle.m88_sourcing.specs.Source.AreSourceLines.{no_part, part}
use Rattle.m88_sourcing.proofs.Cutting.{code_stands, part_whole}
use Rattle.m88_sourcing.proofs.Labelled.{said_far}
use Rattle.m88_sourcing.proofs.Names.{IsNameable, NameOnly, are_low, mean_one, name_before, name_behind, named, once_both, one_name, only_more, other_bytes}
use Rattle.m88_sourcing.proofs.OneInstruction.{no_byte_within}
use Rattle.m88_sourcing.proofs.Places.{HasAt, IsBranchTo}
use Rattle.m88_sourcing.proofs.Runs.{InParts, ToldPart, ToldRuns, follow_order, runs_both, runs_from, runs_none, told_pieces}
use Rattle.m88_sourcing.proofs.Told.{Among, AreThose, target_low}

-- the parts
pub in_above : (from a : ℕ) (runs : List Placed) → AreApart from runs → InParts runs a → from ≤ a
in_above from a [] apart h = absurd h
in_above from a (run ∷ runs) apart (inl h) = let x = h.0 in let y = apart.0 in omega (arith, x, y)
in_above from a (run ∷ runs) apart (inr h) =
    let x = in_above (run.at + length run.bytes + 1) a runs apart.2 h in let y = apart.0 in omega (arith, x, y)

not_both : (from a : ℕ) (run : Placed) (runs : List Placed) → AreApart from (run ∷ runs)
    → Among run.at (length run.bytes) a → InParts runs a → ⊥
not_both from a run runs apart h k =
    let x = h.1 in
    let y = in_above (run.at + length run.bytes + 1) a runs apart.2 k in
    absurd (omega (arith, x, y))

-- each part of an image is all that stands there
abbrev pub EachPart : ProgramImage → List Placed → Type 0
EachPart image runs = AllByRecursion (λ run. IsPart (byte_at image) run.at run.bytes) runs

pub record ToldParts (image : ProgramImage) (said : Said) (number from : ℕ) (runs : List Placed)
    (lines : List (List ℕ)) : Type 0 where
  pub to : ℕ
  pub told : ToldRuns image said number from to lines (InParts runs) (InParts runs) (InParts runs image.start)
  pub bytes_are : (a : ℕ) → byte_among told.runs a ≡ byte_among runs a
  pub count : count_among told.runs ≡ count_among runs

pub instruction_first : (image : ProgramImage) (said : Said) (run : Placed)
    → IsPart (byte_at image) run.at run.bytes → 0 < length run.bytes → InCode image said run.at → run.at % 4 ≡ 0
instruction_first image said run is some c = part_whole image run.at run.bytes is (code_stands image said _ c)

pub told_parts : (image : ProgramImage) (said : Said) (number from : ℕ) (runs : List Placed)
    (lines : List (List ℕ))
    → AreApart from runs → ArePieces runs → count_among runs ≤ most_bytes → EachPart image runs
    → AreSourceLines (λ _. []) image said runs lines → ToldParts image said number from runs lines
told_parts image said number from _ _ apart pieces few each no_part = record {
  to = from;
  told = runs_none image said number from;
  bytes_are = λ a. refl;
  count = refl;
}
told_parts image said number from _ _ apart pieces few each
    (part {run = run} {runs = runs} {own = own} {lines = lines} are rest) =
    let sum = sum_by-cons (λ (r : Placed). length r.bytes) run runs in
    let end : ℕ = run.at + length run.bytes in
    let p : ToldPart image said number run.at end run.bytes own (Among run.at (length run.bytes))
    (Among run.at (length run.bytes) image.start) =
    told_pieces image said number run.at run.bytes own pieces.2 (omega (arith, sum, few)) pieces.0 each.0.there
    (instruction_first image said run each.0) are in
    let later : ℕ = number + length own in
    let others : ToldParts image said later (end + 1) runs lines =
    told_parts image said later (end + 1) runs lines apart.2 pieces.3 (omega (arith, sum, few)) each.1 rest in
    record {
      to = others.to;
      told = runs_both image said number later from end others.to own lines (Among run.at (length run.bytes))
          (InParts runs) (Among run.at (length run.bytes)) (InParts runs) (Among run.at (length run.bytes) image.start) (InParts runs image.start) refl
          (λ a. not_both from a run runs apart) (not_both from image.start run runs apart)
          (runs_from image said number from run.at end own _ _ _ apart.0 p.told)
          (runs_from image said later end (end + 1) others.to lines _ _ _ (omega arith) others.told);
      bytes_are = λ a.
          byte_among-append p.told.runs others.told.runs a
          ∙ ap (λ (o : Option ℕ). option_or o (byte_among others.told.runs a)) (p.bytes_are a)
          ∙ ap (λ (o : Option ℕ). option_or (byte_in run a) o) (others.bytes_are a);
      count =
          sum_by-append (λ (r : Placed). length r.bytes) p.told.runs others.told.runs
          ∙ (let m = p.count in let n = others.count in omega (arith, sum, m, n));
    }

-- a byte is in a part
pub in_part : (runs : List Placed) (a : ℕ) → IsSome (byte_among runs a) → InParts runs a
in_part [] a some = absurd cc
in_part (run ∷ runs) a some = elim (cases_lt a run.at) [
  | inl low ↦
      inr (in_part runs a (subst (λ (o : Option ℕ). IsSome (option_or o (byte_among runs a))) (byte_in_below run a low) some))
  | inr from ↦ elim (cases_lt a (run.at + length run.bytes)) [
    | inl low ↦ inl (from, low)
    | inr high ↦
        inr (in_part runs a
        (subst (λ (o : Option ℕ). IsSome (option_or o (byte_among runs a))) (byte_in_above run a high) some))
  ]
]

-- the names of values
far_statements : ℕ → List ℕ → List Statement
far_statements number [] = []
far_statements number (t ∷ ts) = unlabelled number (body.Set (label_of t) 6 t) ∷ far_statements (number + 1) ts

abbrev IsFar : ProgramImage → Said → ℕ → Type 0
IsFar image said t = IsTarget image said t × (byte_at image t ≡ None)

far_stated : (image : ProgramImage) (said : Said) (number : ℕ) (ts : List ℕ)
    → AllByRecursion (IsFar image said) ts → Stated number (map far_line ts) (far_statements number ts)
unfolding far_statements
far_stated image said number [] all = tt
far_stated image said number (t ∷ ts) all = (
  spoken number (far_line t) (body.Set (label_of t) 6 t) (said_far number t (target_low image said t all.0.0)),
  far_stated image said (number + 1) ts all.1,
)

far_sets : (image : ProgramImage) (said : Said) (number : ℕ) (ts : List ℕ)
    → AllByRecursion (IsFar image said) ts → Sets (named image said) (far_statements number ts)
unfolding far_statements
far_sets image said number [] all = no_set
far_sets image said number (t ∷ ts) all =
    a_set number (label_of t) 6 t (target_low image said t all.0.0, inr (refl, inr all.0))
    (far_sets image said (number + 1) ts all.1)

far_names : (number : ℕ) (ts : List ℕ) → names_in (far_statements number ts) ≡ map label_of ts
unfolding far_statements
far_names number [] = refl
far_names number (t ∷ ts) =
    ap (λ (ns : List (List ℕ)). let ms : List (List ℕ) = label_of t ∷ ns in ms) (far_names (number + 1) ts)

far_only : (image : ProgramImage) (said : Said) (S : Type 0) (ts : List ℕ)
    → AllByRecursion (IsFar image said) ts → NameOnly (λ a. byte_at image a ≡ None) S (map label_of ts)
far_only image said S [] all = tt
far_only image said S (t ∷ ts) all =
    (inr (t, refl, target_low image said t all.0.0, all.0.1), far_only image said S ts all.1)

-- each is none of some
abbrev NoneOf : List ℕ → ℕ → Type 0
NoneOf before t = AllByRecursion (λ b. t ≡ b → ⊥) before

new_name : (before : List ℕ) (t : ℕ) → t < 2 ^ 32 → AllByRecursion (λ b. b < 2 ^ 32) before → NoneOf before t
    → IsNew (label_of t) (map label_of before)
new_name [] t low lows none = tt
new_name (b ∷ before) t low lows none = (
  other_bytes (label_of t) (label_of b) (λ e. none.0 (one_name t b low lows.0 e)),
  new_name before t low lows.1 none.1,
)

all_and : {A : Type 0} (P : A → Type 0) (xs : List A) (x : A) → AllByRecursion P xs → P x → AllByRecursion P (xs ++ x ∷ [])
all_and P [] x h k = (k, tt)
all_and P (y ∷ xs) x h k = (h.0, all_and P xs x h.1 k)

less_other : (x y : ℕ) → nat_cmp x y ≡ Less → y ≡ x → ⊥
less_other x y less same =
    let equal : Equal ≡ nat_cmp x x = nat_cmp_is x x Equal refl in
    let e : Less ≡ Equal = sym less ∙ ap (nat_cmp x) same ∙ sym equal in
    absurd cc

none_more : (before : List ℕ) (x : ℕ) (ts : List ℕ) → AllByRecursion (NoneOf before) ts
    → AllByRecursion (λ y. nat_cmp x y ≡ Less) ts → AllByRecursion (NoneOf (before ++ x ∷ [])) ts
none_more before x [] none less = tt
none_more before x (t ∷ ts) none less =
    (all_and (λ b. t ≡ b → ⊥) before x none.0 (less_other x t less.0), none_more before x ts none.1 less.1)

far_once : (before ts : List ℕ) → AllByRecursion (λ b. b < 2 ^ 32) before → AllByRecursion (λ b. b < 2 ^ 32) ts
    → AllByRecursion (NoneOf before) ts → IsStrictlySortedBy nat_cmp ts → AreOnce (map label_of before) (map label_of ts)
unfolding IsStrictlySortedBy
far_once before [] lows low none sorted = tt
far_once before (t ∷ ts) lows low none sorted = (
  new_name before t low.0 lows none.0,
  subst (λ (ns : List (List ℕ)). AreOnce ns (map label_of ts)) (map-append label_of before (t ∷ []))
      (far_once (before ++ t ∷ []) ts (all_and (λ b. b < 2 ^ 32) before t lows low.0) low.1
      (none_more before t ts none.1 sorted.0) sorted.1),
)

-- what is in the list of far targets, one by one
all_by : (P : ℕ → Type 0) (xs : List ℕ) → ((t : ℕ) → Contains xs t → P t) → AllByRecursion P xs
all_by P [] h = tt
all_by P (x ∷ xs) h = (
  h x (0, omega arith, refl),
  all_by P xs (λ t c. h t (suc c.0, (let e = c.1 in omega (arith, e)), c.2)),
)

name_contained : (xs : List ℕ) (t : ℕ) → Contains xs t → HasName (label_of t) (map label_of xs)
name_contained [] t (k, low, is) = absurd (omega (arith, low))
name_contained (x ∷ xs) t (zero, low, is) = inl (ap label_of is)
name_contained (x ∷ xs) t (suc k, low, is) = inr (name_contained xs t (k, omega (arith, low), is))

none_before : (ts : List ℕ) → AllByRecursion (NoneOf []) ts
none_before [] = tt
none_before (t ∷ ts) = (tt, none_before ts)

-- the statements in front of the parts
pub record Front (image : ProgramImage) (said : Said) (far : List ℕ) (lines : List (List ℕ)) : Type 0 where
  pub statements : List Statement
  pub stated : Stated 1 lines statements
  pub are_sets : Sets (named image said) statements
  pub only : NameOnly (λ a. byte_at image a ≡ None) (IsCode image said image.start → ⊥) (names_in statements)
  pub once : AreOnce [] (names_in statements)
  pub far_named : (t : ℕ) → Contains far t → HasName (label_of t) (names_in statements)
  pub start : HasName (codes "_start") (names_in statements) ⊎ ((IsCode image said image.start → ⊥) → ⊥)

start_only : (image : ProgramImage) (said : Said) → (IsCode image said image.start → ⊥)
    → NameOnly (λ a. ⊥) (IsCode image said image.start → ⊥) (codes "_start" ∷ [])
start_only image said none = (inl (refl, none), tt)

pub front : (image : ProgramImage) (said : Said) (far : List ℕ) (start : List (List ℕ)) → image.start < 2 ^ 32
    → LineWhere (¬ IsCode image said image.start) (start_line image.start) start → AreFar image said far
    → Front image said far (start ++ map far_line far)
front image said far start low is_start are = by start is_start
  where
    each : AllByRecursion (IsFar image said) far
    each = all_by (IsFar image said) far (λ t c. (are.exactly t).0 c)

    lows : AllByRecursion (λ t. t < 2 ^ 32) far
    lows = all_by (λ t. t < 2 ^ 32) far (λ t c. target_low image said t ((are.exactly t).0 c).0)

    once : AreOnce [] (map label_of far)
    once = far_once [] far tt lows (none_before far) are.ascending

    by : (lines : List (List ℕ)) → LineWhere (¬ IsCode image said image.start) (start_line image.start) lines
        → Front image said far (lines ++ map far_line far)
    by _ (so none) =
        let names : names_in (far_statements 2 far) ≡ map label_of far = far_names 2 far in
        record {
          statements = unlabelled 1 (body.Set (codes "_start") 6 image.start) ∷ far_statements 2 far;
          stated = (
            spoken 1 (start_line image.start) (body.Set (codes "_start") 6 image.start) (said_start 1 image.start low),
            far_stated image said 2 far each,
          );
          are_sets = a_set 1 (codes "_start") 6 image.start (low, inl (refl, refl)) (far_sets image said 2 far each);
          only =
              (inl (refl, none), subst (NameOnly _ _) (sym names) (far_only image said _ far each));
          once =
              subst (λ (ns : List (List ℕ)). AreOnce [] (codes "_start" ∷ ns)) (sym names)
              (once_both (λ a. ⊥) (λ a. byte_at image a ≡ None) (IsCode image said image.start → ⊥) ⊥
              (codes "_start" ∷ []) (map label_of far) (λ a h k. h) (λ s h. h) (start_only image said none)
              (far_only image said ⊥ far each) (tt, tt) once);
          far_named = λ t c.
              inr (subst (HasName (label_of t)) (sym names) (name_contained far t c));
          start = inl (inl refl);
        }
    by _ (not_so double) =
        let names : names_in (far_statements 1 far) ≡ map label_of far = far_names 1 far in
        record {
          statements = far_statements 1 far;
          stated = far_stated image said 1 far each;
          are_sets = far_sets image said 1 far each;
          only = subst (NameOnly _ _) (sym names) (far_only image said _ far each);
          once = subst (AreOnce []) (sym names) once;
          far_named = λ t c. subst (HasName (label_of t)) (sym names) (name_contained far t c);
          start = inr double;
        }

-- what a source is made of
pub record IsMade (image : ProgramImage) (said : Said) (text : List ℕ) : Type 0 where
  pub runs : List Placed
  pub sets : List Statement
  pub statements : List Statement
  pub written : IsWritten (named image said) image.start runs sets statements
  pub is_unit : IsUnit text (unit_of (sets ++ statements))
  pub same : (a : ℕ) → byte_among runs a ≡ byte_at image a
  pub branches : (a : ℕ) → IsCode image said a → (i : Instr) (t : ℕ) → HoldsInstruction image a i → branch_target a i ≡ Some t
      → HasAt (IsBranchTo a i t) 0 statements

sets_behind : (image : ProgramImage) (said : Said) (xs ys : List Statement) → Sets (named image said) xs
    → Sets (named image said) ys → Sets (named image said) (xs ++ ys)
sets_behind image said _ ys no_set k = k
sets_behind image said _ ys (a_set {xs = xs} n name col value is others) k =
    a_set n name col value is (sets_behind image said xs ys others k)

pub each_part : (image : ProgramImage) → IsImage image → (from : List Placed) (runs : List Placed)
    → parts image ≡ from ++ runs → EachPart image runs
unfolding byte_at
each_part image is from [] all = tt
each_part image is from (run ∷ runs) all =
    let size = length-append from (run ∷ runs) in
    let whole = ap length all in
    let here : run ≡ get_or (parts image) (length from) run =
    sym (get_behind from) ∙ ap (λ (xs : List Placed). get_or xs (length from) run) (sym all) in (
      run_is_part (parts image) (length from) run is.apart (omega (arith, size, whole)) here,
      each_part image is (from ++ run ∷ []) runs (all ∙ sym (append_assoc from (run ∷ []) runs)),
    )
  where
    get_behind : (xs : List Placed) → get_or (xs ++ run ∷ runs) (length xs) run ≡ run
    get_behind [] = refl
    get_behind (x ∷ xs) = get_behind xs

-- each name of a source is defined, once
pub record AreDefined (image : ProgramImage) (said : Said) (first last : List (List ℕ)) : Type 0 where
  pub once : AreOnce [] (first ++ last)
  pub defined : (name : List ℕ) (a : ℕ) → named image said name a → HasName name (first ++ last)

pub code_some : (image : ProgramImage) (said : Said) (a : ℕ) → IsCode image said a → IsSome (byte_at image a)
code_some image said a code = by (byte_at image a) refl
  where
    by : (o : Option ℕ) → byte_at image a ≡ o → IsSome (byte_at image a)
    by (Some b) e = subst IsSome (sym e) refl
    by None e =
        absurd (no_byte_within image a 0 (code_stands image said a code) (omega arith)
        (ap (byte_at image) (let f : a + 0 ≡ a = omega arith in f) ∙ e))

pub are_defined : (image : ProgramImage) (said : Said) (far : List ℕ) (lines : List (List ℕ)) → AreFar image said far
    → (f : Front image said far lines) (last : List (List ℕ))
    → AreThose image said last (InParts (parts image)) (InParts (parts image) image.start)
    → AreDefined image said (names_in f.statements) last
unfolding byte_at
are_defined image said far lines are_far f last those = record {
  once = once_both (λ a. byte_at image a ≡ None) (λ a. IsSome (byte_at image a)) (IsCode image said image.start → ⊥)
      (IsCode image said image.start) first last (λ a h k. some_not (byte_at image a) k h) (λ h k. h k) f.only
      (only_more _ _ _ _ last (λ a h. h.1) (λ h. h.1) those.only) f.once those.once;
  defined = λ name a h. defined name a h.1;
}
  where
    first : List (List ℕ)
    first = names_in f.statements

    some_not : (o : Option ℕ) → IsSome o → o ≡ None → ⊥
    some_not (Some b) some e = absurd cc
    some_not None some e = absurd cc

    start_by : HasName (codes "_start") first ⊎ ((IsCode image said image.start → ⊥) → ⊥)
        → HasName (codes "_start") (first ++ last)
    start_by (inl has) = name_before (codes "_start") first last has
    start_by (inr double) =
        elim (has_byte (byte_at image image.start) refl) [
          | inl some ↦ elim (those.start (in_part (parts image) image.start some)) [
            | inl has ↦ name_behind (codes "_start") first last has
            | inr none ↦ absurd (double none)
          ]
          | inr none ↦ absurd (double (λ code. some_not (byte_at image image.start)
              (code_some image said image.start code) none))
        ]
      where
        has_byte : (o : Option ℕ) → byte_at image image.start ≡ o
            → IsSome (byte_at image image.start) ⊎ (byte_at image image.start ≡ None)
        has_byte (Some b) e = inl (subst IsSome (sym e) refl)
        has_byte None e = inr e

    defined : (name : List ℕ) (a : ℕ)
        → ((name ≡ codes "_start") × (a ≡ image.start)) ⊎ ((name ≡ label_of a) × IsNameable image said a)
        → HasName name (first ++ last)
    defined name a (inl x) = subst (λ (n : List ℕ). HasName n (first ++ last)) (sym x.0) (start_by f.start)
    defined name a (inr (e, inl label)) =
        subst (λ (n : List ℕ). HasName n (first ++ last)) (sym e)
        (name_behind (label_of a) first last (those.labels a (in_part (parts image) a label.0) label))
    defined name a (inr (e, inr is_far)) =
        subst (λ (n : List ℕ). HasName n (first ++ last)) (sym e)
        (name_before (label_of a) first last (f.far_named a ((are_far.exactly a).1 is_far)))

pub source_made : (image : ProgramImage) (said : Said) (text : List ℕ) → IsImage image → IsSource image said text
    → IsMade image said text
unfolding byte_at byte_count
source_made image said text is s =
    let runs : List Placed = parts image in
    let pieces : ArePieces runs = pieces_of 0 runs is.apart is.bytes in
    let f : Front image said s.far (s.start ++ map far_line s.far) =
    front image said s.far s.start is.start s.starts s.are_far in
    let later : ℕ = 1 + length (s.start ++ map far_line s.far) in
    let t : ToldParts image said later 0 runs s.lines =
    told_parts image said later 0 runs s.lines is.apart pieces is.few (each_part image is [] runs refl) s.are_lines in
    let names : names_in (f.statements ++ t.told.statements) ≡ names_in f.statements ++ names_in t.told.statements =
    flat_map-append names_of f.statements t.told.statements in
    let all : AreDefined image said (names_in f.statements) (names_in t.told.statements) =
    are_defined image said s.far (s.start ++ map far_line s.far) s.are_far f (names_in t.told.statements)
    t.told.those in
    record {
      runs = t.told.runs;
      sets = f.statements;
      statements = t.told.statements;
      written = record {
        are_sets = f.are_sets;
        datas = t.told.datas;
        low = are_low image said;
        one = mean_one image said;
        once = subst (AreOnce []) (sym names) all.once;
        defined = λ name a h. subst (HasName name) (sym names) (all.defined name a h);
        starts = (is.start, inl (refl, refl));
        pieces = t.told.pieces;
        order = follow_order 0 t.to t.told.runs t.told.order;
        few = let c = t.count in let e = is.few in omega (arith, c, e);
      };
      is_unit =
          unit_is ((s.start ++ map far_line s.far) ++ s.lines) (f.statements ++ t.told.statements) text
          (s.text_is ∙ ap text_of_lines (sym (append_assoc s.start (map far_line s.far) s.lines)))
          (stated_behind 1 later (s.start ++ map far_line s.far) s.lines f.statements t.told.statements refl f.stated
          t.told.stated);
      same = t.bytes_are;
      branches = λ a code. t.told.branches a (in_part runs a (code_some image said a code)) code;
    }

-- so `build` of it makes the image
pub source_again : (image : ProgramImage) (said : Said) (text : List ℕ) → IsImage image → IsSource image said text
    → WritesImage text image
source_again image said text is s =
    let m : IsMade image said text = source_made image said text is s in
    record {
      unit = unit_of (m.sets ++ m.statements);
      is_unit = m.is_unit;
      accepted = accepted (named image said) image.start m.runs m.sets m.statements m.written;
      bytes = λ a. bytes_are (named image said) image.start m.runs m.sets m.statements a m.written ∙ m.same a;
      start = start_is (named image said) image.start m.runs m.sets m.statements m.written;
    }
