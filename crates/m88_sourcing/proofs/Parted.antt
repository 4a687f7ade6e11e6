-- A source with one statement more as the statements of its parts, and what these say where it is accepted.
use Rattle.std.proofs.Common.{◌≡◌, ◌⊎◌, ℕ, ◌+◌, ◌<◌, ◌≤◌, ◌^◌, inl, inr, List, [], ◌∷◌, ◌++◌, length, refl, sym, ap, subst, ◌∙◌, arith, append-nil, append_assoc, codes}
use Rattle.std.specs.Prelude.{IfSome, IsSome, None, Option, Some, map}
use Rattle.std.proofs.lemmas.Bool.{cases_lt}
use Rattle.std.proofs.lemmas.List.Concat.{flat_map-append}
use Rattle.m88_base.specs.Image.{IsImage, ProgramImage, byte_at, most_bytes, parts}
use Rattle.m88_base.specs.Placed.{Placed, count_among}
use Rattle.m88_base.proofs.Laws.{AreBytes}
use Rattle.m88_parse.specs.declared.unit.Body.TheVariants as body
use Rattle.m88_parse.specs.declared.unit.Statement.{Statement}
use Rattle.m88_link.specs.declared.object.Symbol.{Symbol}
use Rattle.m88_asm.specs.Accepted.{IsAcceptedUnit}
use Rattle.m88_asm.specs.Counters.{at_begin, length_at}
use Rattle.m88_asm.specs.Objects.{labels_at, sets_at}
use Rattle.m88_asm.specs.Units.{extents_in}
use Rattle.m88_disasm.specs.Read.{unlabelled}
use Rattle.m88_disasm.proofs.Laws.{AreInOrder, AreOnce, ArePieces, Data, HasName, IsWritten, Names, PartsData, Sets, a_set, data_behind, more_data, more_parts, names_in, names_of, no_set, stood, unit_of}
use Rattle.m88_sourcing.specs.Code.{InCode}
use Rattle.m88_sourcing.specs.Insertion.{IsAgainAt, IsCarriedBy}
use Rattle.m88_sourcing.specs.Insertion.IsAgainAt.{carried, stays}
use Rattle.m88_sourcing.specs.Labels.{label_of}
use Rattle.m88_sourcing.specs.Said.{Said, Stays}
use Rattle.m88_sourcing.specs.Source.{AreFar}
use Rattle.m88_sourcing.proofs.Accepted.{AreRoomed, EndLow, all_in_front, are_roomed, next_begins, small_enough}
use Rattle.m88_sourcing.proofs.Bared.{MovesNames, bare_data, bare_parts, bared_pieces, bared_run, gives_none, name_in_either, one_piece, parts_stand, sets_stand, zeros, zeros_behind, zeros_length}
use Rattle.m88_sourcing.proofs.Lengthened.{Below, From, Longer}
use Rattle.m88_sourcing.proofs.Moved.{StartsAt, low_newly, moved_sets, moves_names, newly, one_newly}
use Rattle.m88_sourcing.proofs.Names.{IsNameable, named}
use Rattle.m88_sourcing.proofs.Rebuilt.{AreDefined, Front, are_defined, code_some}
use Rattle.m88_sourcing.proofs.Runs.{Follow, InParts, parts_behind, pieces_behind}
use Rattle.m88_sourcing.proofs.Skeleton.{AreTame, IsTame, all_tame, bare, bared, extents_same, names_skeleton, sets_skeleton, sets_tame, skeleton, skeleton_behind, tame_behind}
use Rattle.m88_sourcing.proofs.Told.{Among, AreThose, those_as, those_both}

-- a source with a statement more
pub record Parted (image : ProgramImage) (said : Said) (w : ℕ) : Type 0 where
  pub line : List ℕ
  pub later : ℕ
  pub to : ℕ
  pub lines : List (List ℕ)
  pub l : Longer image said w line later 0 to lines (InParts (parts image))
  pub far : List ℕ
  pub far_lines : List (List ℕ)
  pub are_far : AreFar image said far
  pub f : Front image said far far_lines
  pub x : Statement
  pub none : x.label ≡ None
  pub tame : IsTame x.body
  pub bare_is : bare x.body ≡ body.Zero 4
  pub unset : sets_at x.line x.body ≡ []
  pub four : length_at 0 x.body ≡ 4

-- its statements behind those that name values
abbrev pub parted : {image : ProgramImage} {said : Said} {w : ℕ} → Parted image said w → List Statement
parted m =
    m.l.front.statements
    ++ unlabelled m.l.n (body.At m.l.s)
    ∷ (m.l.a.listed.statements ++ m.x ∷ (m.l.b.listed.statements ++ m.l.back.statements))

pub parted_tame : (image : ProgramImage) (said : Said) (w : ℕ) (m : Parted image said w) → AreTame (parted m)
parted_tame image said w m =
    tame_behind m.l.front.statements _ (all_tame image said 0 m.l.front.statements m.l.front.simple) (
      tt,
      tame_behind m.l.a.listed.statements _ (all_tame image said m.l.s m.l.a.listed.statements m.l.a.simple) (
        m.tame,
        tame_behind m.l.b.listed.statements m.l.back.statements
            (all_tame image said (w + 4) m.l.b.listed.statements m.l.b.simple)
            (all_tame image said m.l.e m.l.back.statements m.l.back.simple),
      ),
    )

-- its names
no_names : (x : Statement) → x.label ≡ None → sets_at x.line x.body ≡ [] → names_of x ≡ []
no_names x none unset =
    ap (λ (label : Option (List ℕ × ℕ)). map (λ (s : Symbol). s.name)
    (labels_at at_begin x.line label ++ sets_at x.line x.body))
    none
    ∙ ap (map (λ (s : Symbol). s.name)) unset

pub parted_names : (image : ProgramImage) (said : Said) (w : ℕ) (m : Parted image said w)
    → names_in (parted m)
    ≡ names_in m.l.front.statements ++ (names_in m.l.a.listed.statements
    ++ (names_in m.l.b.listed.statements ++ names_in m.l.back.statements))
parted_names image said w m =
    let a : List Statement = m.l.a.listed.statements in
    let b : List Statement = m.l.b.listed.statements in
    let back : List Statement = m.l.back.statements in
    flat_map-append names_of m.l.front.statements (unlabelled m.l.n (body.At m.l.s) ∷ (a ++ m.x ∷ (b ++ back)))
    ∙ ap (λ (ns : List (List ℕ)). names_in m.l.front.statements ++ ns)
    (flat_map-append names_of a (m.x ∷ (b ++ back))
    ∙ ap (λ (ns : List (List ℕ)). names_in a ++ ns)
    (ap (λ (ns : List (List ℕ)). ns ++ names_in (b ++ back)) (no_names m.x m.none m.unset)
    ∙ flat_map-append names_of b back))

parted_those : (image : ProgramImage) (said : Said) (w : ℕ) (m : Parted image said w)
    → AreThose image said (names_in (parted m)) (InParts (parts image)) (InParts (parts image) image.start)
unfolding byte_at
parted_those image said w m =
    subst (λ (ns : List (List ℕ)). AreThose image said ns K (K image.start)) (sym (parted_names image said w m))
    (those_as image said _ Parts K (Parts image.start) (K image.start) onto off (onto image.start) (off image.start)
    (those_both image said _ _ (Below K s) _ _ _ first_apart (first_apart image.start) m.l.front.those
    (those_both image said _ _ (Among s na) _ _ _ second_apart (second_apart image.start) m.l.a.those
    (those_both image said _ _ (Among (w + 4) nb) (From K e) _ _ third_apart (third_apart image.start) m.l.b.those
    m.l.back.those))))
  where
    K : ℕ → Type 0
    K = InParts (parts image)

    s : ℕ
    s = m.l.s

    e : ℕ
    e = m.l.e

    na : ℕ
    na = length m.l.bytes_a

    nb : ℕ
    nb = length m.l.bytes_b

    a_ends : s + na ≡ w + 4
    a_ends = m.l.a_ends

    b_ends : w + 4 + nb ≡ e
    b_ends = m.l.b_ends

    Parts : ℕ → Type 0
    Parts a = Below K s a ⊎ (Among s na a ⊎ (Among (w + 4) nb a ⊎ From K e a))

    first_apart : (a : ℕ) → Below K s a → (Among s na a ⊎ (Among (w + 4) nb a ⊎ From K e a)) → ⊥
    first_apart a h (inl k) = let x = h.1 in let y = k.0 in absurd (omega (arith, x, y))
    first_apart a h (inr (inl k)) = let x = h.1 in let y = k.0 in absurd (omega (arith, x, y, a_ends))
    first_apart a h (inr (inr k)) = let x = h.1 in let y = k.1 in absurd (omega (arith, x, y, a_ends, b_ends))

    second_apart : (a : ℕ) → Among s na a → (Among (w + 4) nb a ⊎ From K e a) → ⊥
    second_apart a h (inl k) = let x = h.1 in let y = k.0 in absurd (omega (arith, x, y, a_ends))
    second_apart a h (inr k) = let x = h.1 in let y = k.1 in absurd (omega (arith, x, y, a_ends, b_ends))

    third_apart : (a : ℕ) → Among (w + 4) nb a → From K e a → ⊥
    third_apart a h k = let x = h.1 in let y = k.1 in absurd (omega (arith, x, y, b_ends))

    onto : (a : ℕ) → Parts a → K a
    onto a (inl h) = h.0
    onto a (inr (inl h)) = let x = h.0 in let y = h.1 in m.l.kind a x (omega (arith, y, a_ends, b_ends))
    onto a (inr (inr (inl h))) =
        let x = h.0 in let y = h.1 in m.l.kind a (omega (arith, x, a_ends)) (omega (arith, y, b_ends))
    onto a (inr (inr (inr h))) = h.0

    off : (a : ℕ) → K a → Parts a
    off a k = elim (cases_lt a s) [
      | inl low ↦ inl (k, low)
      | inr from ↦ elim (cases_lt a (w + 4)) [
        | inl low ↦ inr (inl (from, omega (arith, low, a_ends)))
        | inr behind ↦ elim (cases_lt a e) [
          | inl low ↦ inr (inr (inl (behind, omega (arith, low, b_ends))))
          | inr high ↦ inr (inr (inr (k, high)))
        ]
      ]
    ]

pub parted_defined : (image : ProgramImage) (said : Said) (w : ℕ) (m : Parted image said w)
    → AreDefined image said (names_in m.f.statements) (names_in (parted m))
parted_defined image said w m =
    are_defined image said m.far m.far_lines m.are_far m.f (names_in (parted m)) (parted_those image said w m)

-- its skeleton gives zeros, four more in the piece of w
abbrev pub middle : {image : ProgramImage} {said : Said} {w : ℕ} → Parted image said w → Placed
middle m = record { at = m.l.s; bytes = zeros (length m.l.bytes_a + (4 + length m.l.bytes_b)) }

abbrev pub parted_runs : {image : ProgramImage} {said : Said} {w : ℕ} → Parted image said w → List Placed
parted_runs m = map bared_run m.l.front.runs ++ middle m ∷ map bared_run m.l.back.runs

pub parted_datas : (image : ProgramImage) (said : Said) (w : ℕ) (m : Parted image said w) (New : Names)
    → MovesNames (named image said) New 0 m.l.front.statements
    → MovesNames (named image said) New 0 m.l.a.listed.statements
    → MovesNames (named image said) New 4 m.l.b.listed.statements
    → MovesNames (named image said) New 0 m.l.back.statements
    → PartsData New (parted_runs m) (skeleton (parted m))
parted_datas image said w m New move_front move_a move_b move_back =
    let a : List Statement = m.l.a.listed.statements in
    let b : List Statement = m.l.b.listed.statements in
    let back : List Statement = m.l.back.statements in
    let na : ℕ = length m.l.bytes_a in
    let nb : ℕ = length m.l.bytes_b in
    let a_ends = m.l.a_ends in
    let size_a = zeros_length na in
    let here : m.l.s + 0 ≡ m.l.s = omega arith in
    let next : w + 4 + 4 ≡ w + 4 + length (zeros 4) = omega arith in
    let first : Data New m.l.s (zeros na) (skeleton a) =
    subst (λ (k : ℕ). Data New k (zeros na) (skeleton a)) here
    (bare_data (named image said) New 0 m.l.s m.l.bytes_a a m.l.a.listed.datas move_a) in
    let last : Data New (w + 4 + length (zeros 4)) (zeros nb) (skeleton b) =
    subst (λ (k : ℕ). Data New k (zeros nb) (skeleton b)) next
    (bare_data (named image said) New 4 (w + 4) m.l.bytes_b b m.l.b.listed.datas move_b) in
    let own : Data New m.l.s (zeros na ++ (zeros 4 ++ zeros nb)) (skeleton a ++ bared m.x ∷ skeleton b) =
    data_behind New m.l.s (w + 4) (zeros na) (zeros 4 ++ zeros nb) (skeleton a) (bared m.x ∷ skeleton b)
    (omega (arith, a_ends, size_a)) first
    (more_data (zeros 4) (zeros nb) refl
    (gives_none New (w + 4) 4 (bared m.x) m.bare_is (subst (λ label. IfSome label (λ l. New l.0 (w + 4))) (sym m.none)
    tt))
    last) in
    let sum : zeros na ++ (zeros 4 ++ zeros nb) ≡ zeros (na + (4 + nb)) =
    ap (λ (bs : List ℕ). zeros na ++ bs) (zeros_behind 4 nb) ∙ zeros_behind na (4 + nb) in
    let all : skeleton (unlabelled m.l.n (body.At m.l.s) ∷ (a ++ m.x ∷ (b ++ back)))
    ≡ unlabelled m.l.n (body.At m.l.s) ∷ ((skeleton a ++ bared m.x ∷ skeleton b) ++ skeleton back) =
    ap (λ (zs : List Statement). let ys : List Statement = unlabelled m.l.n (body.At m.l.s) ∷ zs in ys)
    (skeleton_behind a (m.x ∷ (b ++ back))
    ∙ ap (λ (zs : List Statement). skeleton a ++ bared m.x ∷ zs) (skeleton_behind b back)
    ∙ sym (append_assoc (skeleton a) (bared m.x ∷ skeleton b) (skeleton back))) in
    subst (PartsData New (parted_runs m))
    (sym (skeleton_behind m.l.front.statements (unlabelled m.l.n (body.At m.l.s) ∷ (a ++ m.x ∷ (b ++ back)))))
    (parts_behind New (map bared_run m.l.front.runs) (middle m ∷ map bared_run m.l.back.runs)
    (skeleton m.l.front.statements) _
    (bare_parts (named image said) New m.l.front.runs m.l.front.statements m.l.front.datas move_front)
    (more_parts m.l.n (skeleton a ++ bared m.x ∷ skeleton b) (skeleton back) all
    (subst (λ (bs : List ℕ). Data New m.l.s bs (skeleton a ++ bared m.x ∷ skeleton b)) sum own)
    (bare_parts (named image said) New m.l.back.runs back m.l.back.datas move_back)))

-- where it is accepted its parts have their room
pub record HasRoom (image : ProgramImage) (said : Said) (w : ℕ) (m : Parted image said w) : Type 0 where
  pub few : count_among (parted_runs m) ≤ most_bytes
  pub low : m.l.e + 4 ≤ 2 ^ 32
  pub order : AreInOrder 0 (parted_runs m)

order_on : (low s : ℕ) (before runs : List Placed) → Follow low before s → AreInOrder s runs
    → AreInOrder low (map bared_run before ++ runs)
order_on low s [] [] up order = tt
order_on low s [] (run ∷ runs) up order = (let x = order.0 in omega (arith, up, x), order.1)
order_on low s (run ∷ before) runs up order =
    let size = zeros_length (length run.bytes) in (
      up.0,
      order_on (run.at + length (zeros (length run.bytes))) s before runs
          (subst (λ (k : ℕ). Follow (run.at + k) before s) (sym size) up.1) order,
    )

order_back : (low end to : ℕ) (runs : List Placed) → Follow end runs to
    → ((run : Placed) (others : List Placed) → runs ≡ run ∷ others → low ≤ run.at)
    → AreInOrder low (map bared_run runs)
order_back low end to [] follow first = tt
order_back low end to (run ∷ runs) follow first = (
  first run runs refl,
  subst (λ (zs : List Placed). AreInOrder (run.at + length (zeros (length run.bytes))) zs)
      (append-nil (map bared_run runs))
      (order_on (run.at + length (zeros (length run.bytes))) to runs []
      (subst (λ (k : ℕ). Follow (run.at + k) runs to) (sym (zeros_length (length run.bytes))) follow.1) tt),
)

pub has_room : (image : ProgramImage) (said : Said) (w : ℕ) (m : Parted image said w)
    → IsAcceptedUnit (unit_of (m.f.statements ++ parted m)) → HasRoom image said w m
has_room image said w m accepted = record {
  few = enough.0;
  low = let x = middle_low in omega (arith, x, size, a_ends, b_ends);
  order = order_on 0 s m.l.front.runs (middle m ∷ map bared_run m.l.back.runs) m.l.front.order
      (omega arith, order_back (s + length (middle m).bytes) m.l.e m.to m.l.back.runs m.l.back.order first);
}
  where
    Any : Names
    Any name a = Unit {0}

    s : ℕ
    s = m.l.s

    a_ends : s + length m.l.bytes_a ≡ w + 4
    a_ends = m.l.a_ends

    b_ends : w + 4 + length m.l.bytes_b ≡ m.l.e
    b_ends = m.l.b_ends

    size : length (middle m).bytes ≡ length m.l.bytes_a + (4 + length m.l.bytes_b)
    size = zeros_length (length m.l.bytes_a + (4 + length m.l.bytes_b))

    datas : PartsData Any (parted_runs m) (skeleton (parted m))
    datas =
        parted_datas image said w m Any (λ name a has old. tt) (λ name a has old. tt) (λ name a has old. tt)
        (λ name a has old. tt)

    any_sets : (sets : List Statement) → Sets (named image said) sets → Sets Any sets
    any_sets _ no_set = no_set
    any_sets _ (a_set {xs = xs} n name col value is others) = a_set n name col value tt (any_sets xs others)

    same : skeleton (m.f.statements ++ parted m) ≡ m.f.statements ++ skeleton (parted m)
    same =
        skeleton_behind m.f.statements (parted m)
        ∙ ap (λ (zs : List Statement). zs ++ skeleton (parted m))
        (sets_skeleton (named image said) m.f.statements m.f.are_sets)

    extents : extents_in (stood (m.f.statements ++ skeleton (parted m)))
        ≡ extents_in (stood (m.f.statements ++ parted m))
    extents =
        ap (λ (zs : List Statement). extents_in (stood zs)) (sym same)
        ∙ extents_same (m.f.statements ++ parted m)
        (tame_behind m.f.statements (parted m) (sets_tame (named image said) m.f.statements m.f.are_sets)
        (parted_tame image said w m))

    roomed : AreRoomed (parted_runs m) (extents_in (stood (m.f.statements ++ parted m)) ++ [])
    roomed =
        subst (AreRoomed (parted_runs m)) (extents ∙ sym (append-nil (extents_in (stood (m.f.statements ++ parted m)))))
        (are_roomed Any (parted_runs m) m.f.statements (skeleton (parted m)) (any_sets m.f.statements m.f.are_sets)
        datas)

    enough : (count_among (parted_runs m) ≤ most_bytes) × EndLow (parted_runs m)
    enough = small_enough (parted_runs m) _ roomed accepted.linkable.fits

    middle_low : s + length (middle m).bytes ≤ 2 ^ 32
    middle_low = (all_in_front _ (map bared_run m.l.front.runs) (middle m ∷ map bared_run m.l.back.runs) enough.1).1.0

    first : (run : Placed) (others : List Placed) → m.l.back.runs ≡ run ∷ others → s + length (middle m).bytes ≤ run.at
    first run others is =
        let from : m.l.e ≤ run.at = (subst (λ (rs : List Placed). Follow m.l.e rs m.to) is m.l.back.order).0 in
        let some : 0 < length run.bytes = (subst ArePieces is m.l.back.pieces).1 in
        let size_run = zeros_length (length run.bytes) in
        let holds = m.l.holds in
        next_begins (map bared_run m.l.front.runs) (middle m) (bared_run run) (map bared_run others) _
        (subst (λ (rs : List Placed). AreRoomed (map bared_run m.l.front.runs ++ middle m ∷ map bared_run rs)
        (extents_in (stood (m.f.statements ++ parted m)) ++ [])) is roomed)
        accepted.linkable.disjoint (omega (arith, from, a_ends, b_ends)) (omega (arith, some, size_run))

-- where an address of the piece is found again, and one beside it
pub found_behind : (image : ProgramImage) (said : Said) (w : ℕ) (m : Parted image said w) (a : ℕ)
    → Among (w + 4) (length m.l.bytes_b) a → IsAgainAt image said w a (a + 4)
found_behind image said w m a h =
    let from = h.0 in
    let below = h.1 in
    let holds = m.l.holds in
    let b_ends = m.l.b_ends in
    carried (
      from,
      λ b up down. m.l.all_code b (omega (arith, holds, up)) (omega (arith, down, below, b_ends)),
      λ b up down. m.l.none_stays b (omega (arith, holds, up)) (omega (arith, down, below, b_ends)),
    )

pub found_before : (image : ProgramImage) (said : Said) (w : ℕ) (m : Parted image said w) (a : ℕ) → a < w + 4
    → IsAgainAt image said w a (a + 0)
found_before image said w m a low =
    let same : a ≡ a + 0 = omega arith in
    subst (IsAgainAt image said w a) same (stays (λ c. let x = c.0 in absurd (omega (arith, x, low))))

pub not_past : (image : ProgramImage) (said : Said) (w : ℕ) (m : Parted image said w) (a : ℕ) → m.l.e ≤ a
    → IsCarriedBy image said w a → ⊥
not_past image said w m a high c = by m.l.ends
  where
    behind : w < m.l.e
    behind = let b_ends = m.l.b_ends in omega (arith, b_ends)

    by : ¬ InCode image said m.l.e ⊎ Stays said m.l.e → ⊥
    by (inl none) = none (c.1 m.l.e (let up = behind in omega (arith, up)) high)
    by (inr place) = c.2 m.l.e behind high place

pub found_past : (image : ProgramImage) (said : Said) (w : ℕ) (m : Parted image said w) (a : ℕ) → m.l.e ≤ a
    → IsAgainAt image said w a (a + 0)
found_past image said w m a high =
    let same : a ≡ a + 0 = omega arith in
    subst (IsAgainAt image said w a) same (stays (not_past image said w m a high))

-- and what its names stand for then
pub record IsPartedAs (image : ProgramImage) (said : Said) (w : ℕ) (m : Parted image said w) : Type 0 where
  pub start : ℕ
  pub starts : newly image said w (codes "_start") start
  pub means : (name : List ℕ) (a : ℕ) → named image said name a → (p : ℕ) × newly image said w name p
  pub written : IsWritten (newly image said w) start (parted_runs m) m.f.statements (skeleton (parted m))

pub parted_as : (image : ProgramImage) (said : Said) (w : ℕ) (m : Parted image said w) → IsImage image
    → HasRoom image said w m → IsPartedAs image said w m
parted_as image said w m is room =
    let start : (a : ℕ) × New (codes "_start") a =
    value (codes "_start") (defined.defined (codes "_start") image.start (is.start, inl (refl, refl))) in
    record {
      start = start.0;
      starts = start.1;
      means = λ name a old. value name (defined.defined name a old);
      written = record {
        are_sets = sets;
        datas = datas;
        low = low_newly image said w;
        one = one_newly image said w;
        once = subst (AreOnce []) (sym names) defined.once;
        defined = λ name a h. subst (HasName name) (sym names) (old_name name a h.1);
        starts = start.1;
        pieces = pieces_behind (map bared_run m.l.front.runs) (middle m ∷ map bared_run m.l.back.runs)
            (bared_pieces m.l.front.runs m.l.front.pieces)
            (one.0, one.1, one.2, bared_pieces m.l.back.runs m.l.back.pieces);
        order = room.order;
        few = room.few;
      };
    }
  where
    New : Names
    New = newly image said w

    holds : m.l.s ≤ w
    holds = m.l.holds

    a_ends : m.l.s + length m.l.bytes_a ≡ w + 4
    a_ends = m.l.a_ends

    b_ends : w + 4 + length m.l.bytes_b ≡ m.l.e
    b_ends = m.l.b_ends

    one : AreBytes (zeros (length m.l.bytes_a + (4 + length m.l.bytes_b)))
        × (0 < length (zeros (length m.l.bytes_a + (4 + length m.l.bytes_b))))
        × (m.l.s + length (zeros (length m.l.bytes_a + (4 + length m.l.bytes_b))) ≤ 2 ^ 32)
    one =
        one_piece m.l.s (length m.l.bytes_a + (4 + length m.l.bytes_b)) (omega arith)
        (let x = room.low in omega (arith, x, a_ends, b_ends))

    low_there : (a : ℕ) → IsSome (byte_at image a) → a + 0 < 2 ^ 32
    low_there a some = by (byte_at image a) (is.bytes a) some
      where
        by : (o : Option ℕ) → IfSome o (λ b. (a < 2 ^ 32) × (b < 256)) → IsSome o → a + 0 < 2 ^ 32
        by None h k = absurd cc
        by (Some b) h k = let x = h.0 in omega (arith, x)

    datas : PartsData New (parted_runs m) (skeleton (parted m))
    datas =
        parted_datas image said w m New
        (moves_names image said w 0 (λ a. (a < m.l.s) × IsSome (byte_at image a)) _ _ m.l.front.statements
        (λ a k. let x = k.0 in found_before image said w m a (omega (arith, x, holds))) (λ a k. low_there a k.1)
        (λ a k. (k.0.1, k.1)) (λ k. ((k.0.1, code_some image said image.start k.1), k.1)) m.l.front.those.only)
        (moves_names image said w 0 (λ a. Among m.l.s (length m.l.bytes_a) a × IsSome (byte_at image a)) _ _
        m.l.a.listed.statements
        (λ a k. let x = k.0.1 in found_before image said w m a (omega (arith, x, a_ends))) (λ a k. low_there a k.1)
        (λ a k. k) (λ k. ((k.0, code_some image said image.start k.1), k.1)) m.l.a.those.only)
        (moves_names image said w 4 (Among (w + 4) (length m.l.bytes_b)) _ _ m.l.b.listed.statements
        (found_behind image said w m) (λ a k. let x = k.1 in let y = room.low in omega (arith, x, y, b_ends))
        (λ a k. k.0) (λ k. k) m.l.b.those.only)
        (moves_names image said w 0 (λ a. (m.l.e ≤ a) × IsSome (byte_at image a)) _ _ m.l.back.statements
        (λ a k. found_past image said w m a k.0) (λ a k. low_there a k.1)
        (λ a k. (k.0.1, k.1)) (λ k. ((k.0.1, code_some image said image.start k.1), k.1)) m.l.back.those.only)

    sets : Sets New m.f.statements
    sets = moved_sets image said w m.f.statements m.f.only m.f.are_sets

    defined : AreDefined image said (names_in m.f.statements) (names_in (parted m))
    defined = parted_defined image said w m

    names : names_in (m.f.statements ++ skeleton (parted m)) ≡ names_in m.f.statements ++ names_in (parted m)
    names =
        flat_map-append names_of m.f.statements (skeleton (parted m))
        ∙ ap (λ (ns : List (List ℕ)). names_in m.f.statements ++ ns)
        (names_skeleton (parted m) (parted_tame image said w m))

    value : (name : List ℕ) → HasName name (names_in m.f.statements ++ names_in (parted m)) → (a : ℕ) × New name a
    value name has = elim (name_in_either name (names_in m.f.statements) (names_in (parted m)) has) [
      | inl first ↦ sets_stand New name m.f.statements sets first
      | inr last ↦
          parts_stand New name (parted_runs m) (skeleton (parted m)) datas
          (subst (HasName name) (sym (names_skeleton (parted m) (parted_tame image said w m))) last)
    ]

    old_name : (name : List ℕ) (p : ℕ)
        → (((name ≡ codes "_start") × StartsAt image said w p)
        ⊎ ((q : ℕ) × (name ≡ label_of q) × (q < 2 ^ 32) × IsNameable image said q × IsAgainAt image said w q p))
        → HasName name (names_in m.f.statements ++ names_in (parted m))
    old_name name p (inl x) = defined.defined name image.start (is.start, inl (x.0, refl))
    old_name name p (inr x) = defined.defined name x.0 (x.2, inr (x.1, x.3))
