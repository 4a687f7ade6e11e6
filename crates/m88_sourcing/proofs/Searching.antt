-- Where the bytes and the branches of an image are found among the statements of a source with one more.
use Rattle.std.proofs.Common.{◌≡◌, ℕ, ◌+◌, ◌-◌, ◌<◌, ◌≤◌, inl, inr, List, [], ◌∷◌, ◌++◌, length, refl, sym, ap, subst, ◌∙◌, arith, length-append}
use Rattle.std.specs.Prelude.{IsSome, Some, slice_get}
use Rattle.std.proofs.lemmas.Bool.{cases_lt}
use Rattle.m88_base.specs.Image.{ProgramImage, byte_at, parts}
use Rattle.m88_base.specs.Placed.{Placed}
use Rattle.m88_base.proofs.Laws.{slice_get-append_left, slice_get-append_right}
use Rattle.m88_base.specs.declared.fixup.Fixup.{Fixup}
use Rattle.m88_isa.specs.declared.instr.Instr.{Instr}
use Rattle.m88_parse.specs.declared.unit.Body.TheVariants as body
use Rattle.m88_parse.specs.declared.unit.Statement.{Statement}
use Rattle.m88_asm.specs.Counters.{length_at}
use Rattle.m88_asm.specs.Filled.{filled_bytes}
use Rattle.m88_disasm.proofs.Laws.{Data, Means, Names, PartsData, more_data, more_parts, no_data, no_parts}
use Rattle.m88_sourcing.specs.Code.{IsCode, HoldsInstruction}
use Rattle.m88_sourcing.specs.Flow.{branch_target}
use Rattle.m88_sourcing.specs.Insertion.{IsAgainAt}
use Rattle.m88_sourcing.specs.Said.{Said}
use Rattle.m88_sourcing.proofs.Names.{named}
use Rattle.m88_sourcing.proofs.Parted.{Parted, found_before, found_behind, found_past, parted}
use Rattle.m88_sourcing.proofs.Places.{AllAt, HasAt, IsBranchAt, IsBranchTo, IsPlain, IsSimple, NoPlaceIs, WaitsFor, all_apart, anywhere, has_behind_data, has_behind_parts, has_in_front, place_behind, place_given}
use Rattle.m88_sourcing.proofs.Rebuilt.{code_some, in_part}
use Rattle.m88_sourcing.proofs.Runs.{EachHas, InParts}
use Rattle.m88_sourcing.proofs.Skeleton.{behind_bare}
use Rattle.m88_sourcing.proofs.Told.{Among, HasBytes}

-- a statement at an address that gives the byte of the image at another
pub record HoldsByte (image : ProgramImage) (said : Said) (a q : ℕ) (x : Statement) : Type 0 where
  pub from : q ≤ a
  pub below : a < q + length_at 0 x.body
  pub simple : IsSimple image said q x
  pub byte : (value : List ℕ → ℕ) → Means (named image said) value
      → slice_get (filled_bytes value q 0 x.body) (a - q) ≡ byte_at image a

bytes_behind : (image : ProgramImage) (at : ℕ) (given rest bytes : List ℕ) → bytes ≡ given ++ rest
    → HasBytes image at bytes → HasBytes image (at + length given) rest
bytes_behind image at given rest bytes are has k low =
    let size : length bytes ≡ length given + length rest = ap length are ∙ length-append given rest in
    let e : at + length given + k ≡ at + (length given + k) = omega arith in
    let f : length given + k - length given ≡ k = omega arith in
    ap (byte_at image) e ∙ has (length given + k) (omega (arith, size, low))
    ∙ ap (λ (bs : List ℕ). slice_get bs (length given + k)) are
    ∙ slice_get-append_right given rest (length given + k) (omega arith)
    ∙ ap (slice_get rest) f

byte_data : (image : ProgramImage) (said : Said) (a q : ℕ) (bytes : List ℕ) (xs : List Statement)
    → Data (named image said) q bytes xs → AllAt (IsSimple image said) q xs → HasBytes image q bytes
    → Among q (length bytes) a → HasAt (HoldsByte image said a) q xs
byte_data image said a q _ _ no_data all has among =
    absurd (let x = among.0 in let y = among.1 in omega (arith, x, y))
byte_data image said a q bytes _ (more_data {x = x} {xs = xs} given rest are gives tail) all has among =
    let size : length bytes ≡ length given + length rest = ap length are ∙ length-append given rest in
    let place : place_behind q x.body ≡ q + length given =
    place_given x.line q (length given) x.body gives.opens_none (gives.length_is 0) in
    let from = among.0 in
    let past = among.1 in
    let long = gives.length_is 0 in
    elim (cases_lt a (q + length given)) [
      | inl low ↦
          inl (record {
            from = from;
            below = omega (arith, low, long);
            simple = all.0;
            byte = λ value means.
                let there : q + (a - q) ≡ a = omega (arith, from) in
                ap (λ (bs : List ℕ). slice_get bs (a - q)) (gives.bytes_are value 0 means)
                ∙ sym (slice_get-append_left given rest (a - q) (omega (arith, low, from)))
                ∙ sym (ap (λ (bs : List ℕ). slice_get bs (a - q)) are)
                ∙ sym (has (a - q) (omega (arith, past, from)))
                ∙ ap (byte_at image) there;
          })
      | inr high ↦
          inr (subst (λ (p : ℕ). HasAt (HoldsByte image said a) p xs) (sym place)
          (byte_data image said a (q + length given) rest xs tail
          (subst (λ (p : ℕ). AllAt (IsSimple image said) p xs) place all.1)
          (bytes_behind image q given rest bytes are has) (high, omega (arith, past, size))))
    ]

byte_parts : (image : ProgramImage) (said : Said) (a p : ℕ) (runs : List Placed) (xs : List Statement)
    → PartsData (named image said) runs xs → AllAt (IsSimple image said) p xs → EachHas image runs
    → InParts runs a → HasAt (HoldsByte image said a) p xs
byte_parts image said a p _ _ no_parts all has among = absurd among
byte_parts image said a p _ xs (more_parts {run = run} {runs = runs} n own more are datas others) all has among =
    let Is : ℕ → Statement → Type 0 = IsSimple image said in
    let Holds : ℕ → Statement → Type 0 = HoldsByte image said a in
    let end : ℕ = run.at + length run.bytes in
    let each : AllAt Is run.at own × AllAt Is end more =
    all_apart Is (named image said) run.at end run.bytes own more refl datas (subst (AllAt Is p) are all).1 in
    subst (HasAt Holds p) (sym are)
    (inr (elim among [
      | inl h ↦
          has_in_front Holds run.at own more (byte_data image said a run.at run.bytes own datas each.0 has.0 h)
      | inr h ↦
          has_behind_data Holds (named image said) run.at end run.bytes own more refl datas
          (byte_parts image said a end runs more others each.1 has.1 h)
    ]))

-- among statements further on
pub has_map : (Is So : ℕ → Statement → Type 0) (p : ℕ) (xs : List Statement)
    → ((q : ℕ) (x : Statement) → Is q x → So q x) → HasAt Is p xs → HasAt So p xs
has_map Is So p [] to h = absurd h
has_map Is So p (x ∷ xs) to (inl h) = inl (to p x h)
has_map Is So p (x ∷ xs) to (inr h) = inr (has_map Is So (place_behind p x.body) xs to h)

pub has_all : (Is So : ℕ → Statement → Type 0) (p : ℕ) (xs : List Statement) → HasAt Is p xs → AllAt So p xs
    → HasAt (λ q x. Is q x × So q x) p xs
has_all Is So p [] h k = absurd h
has_all Is So p (x ∷ xs) (inl h) k = inl (h, k.0)
has_all Is So p (x ∷ xs) (inr h) k = inr (has_all Is So (place_behind p x.body) xs h k.1)

has_any : (Is : ℕ → Statement → Type 0) (p : ℕ) (xs ys : List Statement) → ((q : ℕ) → HasAt Is q ys)
    → HasAt Is p (xs ++ ys)
has_any Is p [] ys rest = rest p
has_any Is p (x ∷ xs) ys rest = inr (has_any Is (place_behind p x.body) xs ys rest)

abbrev pub Further : ℕ → (ℕ → Statement → Type 0) → ℕ → Statement → Type 0
Further n Is p x = (q : ℕ) × (p ≡ q + n) × Is q x

further : (Is : ℕ → Statement → Type 0) (Named : Names) (n q : ℕ) (bytes : List ℕ) (xs : List Statement)
    → Data Named q bytes xs → HasAt Is q xs → HasAt (Further n Is) (q + n) xs
further Is Named n q _ _ no_data h = absurd h
further Is Named n q bytes _ (more_data {x = x} {xs = xs} given rest are gives tail) h =
    let place : (p : ℕ) → place_behind p x.body ≡ p + length given = λ p.
    place_given x.line p (length given) x.body gives.opens_none (gives.length_is 0) in
    let next : q + length given + n ≡ q + n + length given = omega arith in
    elim h [
      | inl is ↦ inl (q, refl, is)
      | inr later ↦
          inr (subst (λ (p : ℕ). HasAt (Further n Is) p xs) (next ∙ sym (place (q + n)))
          (further Is Named n (q + length given) rest xs tail (subst (λ (p : ℕ). HasAt Is p xs) (place q) later)))
    ]

-- the parts of a source with a statement more
in_first : (image : ProgramImage) (said : Said) (w : ℕ) (m : Parted image said w) (Is : ℕ → Statement → Type 0)
    → HasAt Is 0 m.l.front.statements → HasAt Is 0 (parted m)
in_first image said w m Is h = has_in_front Is 0 m.l.front.statements _ h

behind_first : (image : ProgramImage) (said : Said) (w : ℕ) (m : Parted image said w)
    (Is : ℕ → Statement → Type 0)
    → HasAt Is m.l.s (m.l.a.listed.statements ++ m.x ∷ (m.l.b.listed.statements ++ m.l.back.statements))
    → HasAt Is 0 (parted m)
behind_first image said w m Is h =
    has_behind_parts Is (named image said) 0 m.l.front.runs m.l.front.statements _ m.l.front.datas (λ q. inr h)

in_own : (image : ProgramImage) (said : Said) (w : ℕ) (m : Parted image said w) (Is : ℕ → Statement → Type 0)
    → HasAt Is m.l.s m.l.a.listed.statements → HasAt Is 0 (parted m)
in_own image said w m Is h =
    behind_first image said w m Is (has_in_front Is m.l.s m.l.a.listed.statements _ h)

behind_own : (image : ProgramImage) (said : Said) (w : ℕ) (m : Parted image said w)
    (Is : ℕ → Statement → Type 0)
    → HasAt Is (w + 4 + 4) (m.l.b.listed.statements ++ m.l.back.statements) → HasAt Is 0 (parted m)
behind_own image said w m Is h =
    let place : place_behind (w + 4) m.x.body ≡ w + 4 + 4 =
    sym (behind_bare (w + 4) m.x.body m.tame) ∙ ap (place_behind (w + 4)) m.bare_is in
    behind_first image said w m Is
    (has_behind_data Is (named image said) m.l.s (w + 4) m.l.bytes_a m.l.a.listed.statements _ (sym m.l.a_ends)
    m.l.a.listed.datas (inr (subst (λ (p : ℕ). HasAt Is p (m.l.b.listed.statements ++ m.l.back.statements)) (sym place)
    h)))

in_more : (image : ProgramImage) (said : Said) (w : ℕ) (m : Parted image said w) (Is : ℕ → Statement → Type 0)
    → HasAt Is (w + 4 + 4) m.l.b.listed.statements → HasAt Is 0 (parted m)
in_more image said w m Is h =
    behind_own image said w m Is (has_in_front Is (w + 4 + 4) m.l.b.listed.statements m.l.back.statements h)

in_last : (image : ProgramImage) (said : Said) (w : ℕ) (m : Parted image said w) (Is : ℕ → Statement → Type 0)
    → NoPlaceIs Is → HasAt Is m.l.e m.l.back.statements → HasAt Is 0 (parted m)
in_last image said w m Is never h =
    behind_own image said w m Is (has_any Is (w + 4 + 4) m.l.b.listed.statements m.l.back.statements
    (λ q. anywhere Is (named image said) m.l.e q m.l.back.runs m.l.back.statements never m.l.back.datas h))

-- each byte of the image is given at the address where it is found again
pub record IsByteAgain (image : ProgramImage) (said : Said) (w a p : ℕ) (x : Statement) : Type 0 where
  pub q : ℕ
  pub holds : HoldsByte image said a q x
  pub found : IsAgainAt image said w a (p + (a - q))

byte_again : (image : ProgramImage) (said : Said) (w a n : ℕ) → IsAgainAt image said w a (a + n) → (p : ℕ)
    (x : Statement) → Further n (HoldsByte image said a) p x → IsByteAgain image said w a p x
byte_again image said w a n found p x (q, is, holds) =
    let from = holds.from in
    let there : a + n ≡ p + (a - q) = omega (arith, is, from) in
    record { q = q; holds = holds; found = subst (IsAgainAt image said w a) there found }

no_byte_of_place : (image : ProgramImage) (said : Said) (w a : ℕ) → NoPlaceIs (IsByteAgain image said w a)
no_byte_of_place image said w a at n b is =
    let from = is.holds.from in let below = is.holds.below in absurd (omega (arith, from, below))

pub find_byte : (image : ProgramImage) (said : Said) (w : ℕ) (m : Parted image said w) (a : ℕ)
    → IsSome (byte_at image a) → HasAt (IsByteAgain image said w a) 0 (parted m)
unfolding byte_at
find_byte image said w m a some =
    let k : InParts (parts image) a = in_part (parts image) a some in
    let holds = m.l.holds in
    let a_ends = m.l.a_ends in
    let b_ends = m.l.b_ends in
    let Holds : ℕ → Statement → Type 0 = HoldsByte image said a in
    let Is : ℕ → Statement → Type 0 = IsByteAgain image said w a in
    let same : (q : ℕ) (x : Statement) → Holds q x → Further 0 Holds q x = λ q x h. (q, omega arith, h) in
    elim (cases_lt a m.l.s) [
      | inl low ↦
          in_first image said w m Is
          (has_map Holds Is 0 m.l.front.statements
          (λ q x h. byte_again image said w a 0 (found_before image said w m a (omega (arith, low, holds))) q x
          (same q x h))
          (byte_parts image said a 0 m.l.front.runs m.l.front.statements m.l.front.datas m.l.front.simple
          m.l.front.has
          (m.l.front.covers a (k, low))))
      | inr from ↦ elim (cases_lt a (w + 4)) [
        | inl low ↦
            in_own image said w m Is
            (has_map Holds Is m.l.s m.l.a.listed.statements
            (λ q x h. byte_again image said w a 0 (found_before image said w m a low) q x (same q x h))
            (byte_data image said a m.l.s m.l.bytes_a m.l.a.listed.statements m.l.a.listed.datas m.l.a.simple
            m.l.has_a
            (from, omega (arith, low, a_ends))))
        | inr behind ↦ elim (cases_lt a m.l.e) [
          | inl low ↦
              in_more image said w m Is
              (has_map (Further 4 Holds) Is (w + 4 + 4) m.l.b.listed.statements
              (byte_again image said w a 4 (found_behind image said w m a (behind, omega (arith, low, b_ends))))
              (further Holds (named image said) 4 (w + 4) m.l.bytes_b m.l.b.listed.statements m.l.b.listed.datas
              (byte_data image said a (w + 4) m.l.bytes_b m.l.b.listed.statements m.l.b.listed.datas m.l.b.simple
              m.l.has_b (behind, omega (arith, low, b_ends)))))
          | inr high ↦
              in_last image said w m Is (no_byte_of_place image said w a)
              (has_map Holds Is m.l.e m.l.back.statements
              (λ q x h. byte_again image said w a 0 (found_past image said w m a high) q x (same q x h))
              (byte_parts image said a m.l.e m.l.back.runs m.l.back.statements m.l.back.datas m.l.back.simple
              m.l.back.has (m.l.back.covers a (k, high))))
        ]
      ]
    ]

-- and each branch stands there
pub record IsBranchAgain (image : ProgramImage) (said : Said) (w a p : ℕ) (x : Statement) : Type 0 where
  pub branch : IsBranchAt image said a x
  pub found : IsAgainAt image said w a p

branch_again : (image : ProgramImage) (said : Said) (w a n : ℕ) (i : Instr) (t : ℕ)
    → IsAgainAt image said w a (a + n) → (p : ℕ) (x : Statement)
    → Further n (λ q y. IsBranchTo a i t q y × IsSimple image said q y) p x → IsBranchAgain image said w a p x
branch_again image said w a n i t found p x (q, is, ((same, waits), simple)) =
    let there : a + n ≡ p = omega (arith, is, same) in
    record {
      branch = by simple;
      found = subst (IsAgainAt image said w a) there found;
    }
  where
    no_plain : (f : Instr) → x.body ≡ body.Code f (Some (WaitsFor.name waits)) → IsPlain x.body → ⊥
    no_plain f e plain = subst IsPlain e plain

    by : IsSimple image said q x → IsBranchAt image said a x
    by (inl plain) = absurd (no_plain _ (WaitsFor.body_is waits) plain)
    by (inr b) = subst (λ (r : ℕ). IsBranchAt image said r x) same b

no_branch_of_place : (image : ProgramImage) (said : Said) (w a : ℕ) → NoPlaceIs (IsBranchAgain image said w a)
no_branch_of_place image said w a at n b is = absurd (no_code (WaitsFor.body_is is.branch.waits))
  where
    no_code : {j : Instr} {f : Fixup} → body.At b ≡ body.Code j (Some f) → ⊥
    no_code e = absurd cc

pub find_branch : (image : ProgramImage) (said : Said) (w : ℕ) (m : Parted image said w) (a : ℕ) (i : Instr)
    (t : ℕ)
    → IsCode image said a → HoldsInstruction image a i → branch_target a i ≡ Some t
    → HasAt (IsBranchAgain image said w a) 0 (parted m)
unfolding byte_at
find_branch image said w m a i t code stands to =
    let k : InParts (parts image) a = in_part (parts image) a (code_some image said a code) in
    let holds = m.l.holds in
    let a_ends = m.l.a_ends in
    let b_ends = m.l.b_ends in
    let Old : ℕ → Statement → Type 0 = λ q y. IsBranchTo a i t q y × IsSimple image said q y in
    let Is : ℕ → Statement → Type 0 = IsBranchAgain image said w a in
    let same : (q : ℕ) (x : Statement) → Old q x → Further 0 Old q x = λ q x h. (q, omega arith, h) in
    elim (cases_lt a m.l.s) [
      | inl low ↦
          in_first image said w m Is
          (has_map Old Is 0 m.l.front.statements
          (λ q x h. branch_again image said w a 0 i t (found_before image said w m a (omega (arith, low, holds)))
          q x
          (same q x h))
          (has_all (IsBranchTo a i t) (IsSimple image said) 0 m.l.front.statements
          (m.l.front.branches a (k, low) code i t stands to) m.l.front.simple))
      | inr from ↦ elim (cases_lt a (w + 4)) [
        | inl low ↦
            in_own image said w m Is
            (has_map Old Is m.l.s m.l.a.listed.statements
            (λ q x h. branch_again image said w a 0 i t (found_before image said w m a low) q x (same q x h))
            (has_all (IsBranchTo a i t) (IsSimple image said) m.l.s m.l.a.listed.statements
            (m.l.a.branches a (from, omega (arith, low, a_ends)) code i t stands to) m.l.a.simple))
        | inr behind ↦ elim (cases_lt a m.l.e) [
          | inl low ↦
              in_more image said w m Is
              (has_map (Further 4 Old) Is (w + 4 + 4) m.l.b.listed.statements
              (branch_again image said w a 4 i t
              (found_behind image said w m a (behind, omega (arith, low, b_ends))))
              (further Old (named image said) 4 (w + 4) m.l.bytes_b m.l.b.listed.statements m.l.b.listed.datas
              (has_all (IsBranchTo a i t) (IsSimple image said) (w + 4) m.l.b.listed.statements
              (m.l.b.branches a (behind, omega (arith, low, b_ends)) code i t stands to) m.l.b.simple)))
          | inr high ↦
              in_last image said w m Is (no_branch_of_place image said w a)
              (has_map Old Is m.l.e m.l.back.statements
              (λ q x h. branch_again image said w a 0 i t (found_past image said w m a high) q x (same q x h))
              (has_all (IsBranchTo a i t) (IsSimple image said) m.l.e m.l.back.statements
              (m.l.back.branches a (k, high) code i t stands to) m.l.back.simple))
        ]
      ]
    ]
