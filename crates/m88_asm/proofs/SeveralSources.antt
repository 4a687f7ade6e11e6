-- An input is parted into sources in one way: so it is accepted or has one refusal, never both.
use Rattle.std.proofs.Common.{◌≡◌, ℕ, zero, suc, ◌+◌, ◌≤◌, List, [], ◌∷◌, ◌++◌, Some, length, length-append, append_assoc, ap, inl, inr, refl, sym, ◌∙◌, subst, arith}
use Rattle.std.specs.Prelude.{◌⊎◌, slice_get}
use Rattle.std.specs.List.{All}
use Rattle.std.proofs.lemmas.List.{append-nil}
use Rattle.std.proofs.lemmas.List.Elements.{All-head, All-nil, All-push, All-tail}
use Rattle.std.proofs.lemmas.Option.{slice_get_cases, slice_get_within}
use Rattle.m88_base.proofs.Laws.{one_parting, parted_not_unparted, parted_told, told_once}
use Rattle.m88_base.specs.Lines.{lines_of}
use Rattle.m88_base.specs.OneVerdict.{HasOneFaultUnless}
use Rattle.m88_base.specs.Parted.{IsParted, LacksLine}
use Rattle.m88_base.specs.Refusal.{Refusal}
use Rattle.m88_asm.specs.Sources.{IsRefusedProgram}
use Rattle.m88_asm.specs.Several.{AreSources, AreSourcesBehind, HasPrograms, HasRefusedSource, HasTooMany, IsPlacedProgram, LacksPrograms, PlacedSource, program_line, sources_refusal}
use Rattle.m88_asm.proofs.SourceVerdicts.{not_linked, program_or_refusal, same_program_refusal}

-- sources that agree are one
same_source : (a b : PlacedSource) → a.lines ≡ b.lines → a.source ≡ b.source → a ≡ b
same_source a b lines source = λ i. record { lines = lines i; source = source i }

-- what stands behind lines is parted into sources in one way
pub one_list : (n : ℕ) (text : List ℕ) (a b : List PlacedSource) → AreSourcesBehind n text a → AreSourcesBehind n text b → a ≡ b
unfolding AreSourcesBehind
one_list n text [] b h k = absurd h
one_list n text (x ∷ xs) [] h k = absurd k
one_list n text (x ∷ []) (y ∷ []) h k =
    ap (λ s. let all : List PlacedSource = s ∷ [] in all) (same_source x y (h.0 ∙ sym k.0) (h.1 ∙ sym k.1))
one_list n text (x ∷ []) (y ∷ z ∷ ys) h k = absurd (parted_not_unparted program_line text y.source k.1 k.2 k.3 (length (lines_of text)) (record { has_none = h.2; number = refl }))
one_list n text (x ∷ w ∷ xs) (y ∷ []) h k = absurd (parted_not_unparted program_line text x.source h.1 h.2 h.3 (length (lines_of text)) (record { has_none = k.2; number = refl }))
one_list n text (x ∷ w ∷ xs) (y ∷ z ∷ ys) h k =
    let same = one_parting program_line text x.source h.1 h.2 h.3 y.source k.1 k.2 k.3 in
    let later : AreSourcesBehind (n + k.1) k.2 (w ∷ xs) =
    subst (λ bs. AreSourcesBehind (n + k.1) bs (w ∷ xs)) same.2 (subst (λ m. AreSourcesBehind (n + m) h.2 (w ∷ xs)) same.1 h.4) in
    let rest = one_list (n + k.1) k.2 (w ∷ xs) (z ∷ ys) later k.4 in
    let first = same_source x y (h.0 ∙ sym k.0) same.0 in
    λ i. first i ∷ rest i

-- a text is a last source, or one before others
pub last_source : (n : ℕ) (text : List ℕ) → LacksLine program_line text → AreSourcesBehind n text (record { lines = n; source = text } ∷ [])
unfolding AreSourcesBehind
last_source n text none = (refl, refl, none)

pub more_sources : (n : ℕ) (text source : List ℕ) (lines : ℕ) (behind : List ℕ) (more : List PlacedSource)
    → IsParted program_line text source lines behind → AreSourcesBehind (n + lines) behind more
    → AreSourcesBehind n text (record { lines = n; source = source } ∷ more)
unfolding AreSourcesBehind
more_sources n text source lines behind [] parted are = absurd are
more_sources n text source lines behind (s ∷ more) parted are = (refl, lines, behind, parted, are)

-- the first of them stands behind the lines before all
first_lines : (n : ℕ) (text : List ℕ) (s : PlacedSource) (more : List PlacedSource) → AreSourcesBehind n text (s ∷ more) → s.lines ≡ n
unfolding AreSourcesBehind
first_lines n text s [] are = are.0
first_lines n text s (t ∷ more) are = are.0

-- each text is some sources
pub sources_behind : (n : ℕ) (text : List ℕ) → (sources : List PlacedSource) × AreSourcesBehind n text sources
sources_behind n text = by_lines (length (lines_of text)) n text (omega arith)
  where
    by_lines : (most n : ℕ) (text : List ℕ) → length (lines_of text) ≤ most → (sources : List PlacedSource) × AreSourcesBehind n text sources
    by_lines zero n text few = elim (parted_told program_line text) [
      | inr none ↦ (_, last_source n text none.1.has_none)
      | inl p ↦ absurd (
          let whole = ap length p.is_parted.lines_are in
          let both = length-append (lines_of p.before) (program_line ∷ lines_of p.behind) in
          omega (arith, few, whole, both)
          )
    ]
    by_lines (suc most) n text few = elim (parted_told program_line text) [
      | inr none ↦ (_, last_source n text none.1.has_none)
      | inl p ↦ (
          let whole = ap length p.is_parted.lines_are in
          let both = length-append (lines_of p.before) (program_line ∷ lines_of p.behind) in
          let more = by_lines most (n + p.lines) p.behind (omega (arith, few, whole, both)) in
          (record { lines = n; source = p.before } ∷ more.0, more_sources n text p.before p.lines p.behind more.0 p.is_parted more.1)
          )
    ]

-- some sources stand at the front of an input, and whatever sources the rest is stand behind them
abbrev pub StandBefore : List ℕ → List PlacedSource → ℕ → List ℕ → Type 0
StandBefore input sources n rest =
    (more : List PlacedSource) → AreSourcesBehind n rest more → AreSourcesBehind 0 input (sources ++ more)

pub none_before : (input : List ℕ) → StandBefore input [] 0 input
none_before input more are = are

pub one_more_before : (input : List ℕ) (sources : List PlacedSource) (n : ℕ) (rest source : List ℕ) (lines : ℕ) (behind : List ℕ)
    → StandBefore input sources n rest → IsParted program_line rest source lines behind
    → StandBefore input (sources ++ record { lines = n; source = source } ∷ []) (n + lines) behind
one_more_before input sources n rest source lines behind stand parted more are =
    subst (AreSourcesBehind 0 input) (sym (append_assoc sources (record { lines = n; source = source } ∷ []) more))
    (stand (record { lines = n; source = source } ∷ more) (more_sources n rest source lines behind more parted are))

pub last_before : (input : List ℕ) (sources : List PlacedSource) (n : ℕ) (rest : List ℕ) → StandBefore input sources n rest
    → LacksLine program_line rest → AreSourcesBehind 0 input (sources ++ record { lines = n; source = rest } ∷ [])
last_before input sources n rest stand none = stand (record { lines = n; source = rest } ∷ []) (last_source n rest none)

-- what stands second behind some sources
second_behind : (xs : List PlacedSource) (s t : PlacedSource) (ts : List PlacedSource) → slice_get (xs ++ s ∷ t ∷ ts) (suc (length xs)) ≡ Some t
second_behind [] s t ts = refl
second_behind (x ∷ xs) s t ts =
    let more : suc (length (x ∷ xs)) ≡ suc (suc (length xs)) = omega arith in
    ap (slice_get (x ∷ xs ++ s ∷ t ∷ ts)) more ∙ second_behind xs s t ts

-- an input with one source less than the most before the rest, which is parted once more, has too many
pub too_many : (most : ℕ) (input : List ℕ) (sources : List PlacedSource) (n : ℕ) (rest source : List ℕ) (lines : ℕ) (behind : List ℕ)
    → StandBefore input sources n rest → IsParted program_line rest source lines behind → length sources + 1 ≡ most
    → HasTooMany most input (sources_refusal (n + lines))
unfolding AreSourcesBehind
too_many most input sources n rest source lines behind stand parted many = by_more (sources_behind (n + lines) behind)
  where
    by_more : ((more : List PlacedSource) × AreSourcesBehind (n + lines) behind more) → HasTooMany most input (sources_refusal (n + lines))
    by_more ([], are) = absurd are
    by_more (t ∷ ts, are) =
        let before : AreSourcesBehind n rest (record { lines = n; source = source } ∷ t ∷ ts) =
        more_sources n rest source lines behind (t ∷ ts) parted are in
        let place : most ≡ suc (length sources) = omega (arith, many) in
        record {
          sources = sources ++ record { lines = n; source = source } ∷ t ∷ ts;
          are_sources = stand (record { lines = n; source = source } ∷ t ∷ ts) before;
          one_more = t;
          is_one_more =
              ap (slice_get (sources ++ record { lines = n; source = source } ∷ t ∷ ts)) place
              ∙ second_behind sources (record { lines = n; source = source }) t ts;
          refusal = ap sources_refusal (sym (first_lines (n + lines) behind t ts are));
        }

-- a source among others
among : (before : List PlacedSource) (s : PlacedSource) (behind : List PlacedSource) → All IsPlacedProgram (before ++ s ∷ behind) → IsPlacedProgram s
among [] s behind all = All-head IsPlacedProgram s behind all
among (x ∷ xs) s behind all = among xs s behind (All-tail IsPlacedProgram x (xs ++ s ∷ behind) all)

-- an input that is refused isn't accepted
not_accepted : (most : ℕ) (input : List ℕ) (r : Refusal) → HasPrograms most input → LacksPrograms most input r → ⊥
not_accepted most input r accepted (inl many) =
    let same = ap length (one_list 0 input accepted.sources many.sources accepted.are_sources many.are_sources) in
    let past = slice_get_within many.sources most many.one_more many.is_one_more in
    let few = accepted.few in
    absurd (omega (arith, same, past, few))
not_accepted most input r accepted (inr h) =
    let same = one_list 0 input accepted.sources (h.before ++ h.refused ∷ h.behind) accepted.are_sources h.are_sources in
    not_linked h.refused.lines h.refused.source r (among h.before h.refused h.behind (subst (All IsPlacedProgram) same accepted.are_programs)) h.is_refused

-- the first of them that is refused is one
one_first : (xs ys : List PlacedSource) (s t : PlacedSource) (ms ns : List PlacedSource) (r q : Refusal) → xs ++ s ∷ ms ≡ ys ++ t ∷ ns
    → All IsPlacedProgram xs → All IsPlacedProgram ys → IsRefusedProgram s.lines s.source r → IsRefusedProgram t.lines t.source q → r ≡ q
one_first [] [] s t ms ns r q e h k a b =
    let same : s ≡ t = cc in
    same_program_refusal t.lines t.source r q (subst (λ (u : PlacedSource). IsRefusedProgram u.lines u.source r) same a) b
one_first [] (y ∷ ys) s t ms ns r q e h k a b =
    let same : y ≡ s = cc in
    absurd (not_linked s.lines s.source r (subst IsPlacedProgram same (All-head IsPlacedProgram y ys k)) a)
one_first (x ∷ xs) [] s t ms ns r q e h k a b =
    let same : x ≡ t = cc in
    absurd (not_linked t.lines t.source q (subst IsPlacedProgram same (All-head IsPlacedProgram x xs h)) b)
one_first (x ∷ xs) (y ∷ ys) s t ms ns r q e h k a b =
    let later : xs ++ s ∷ ms ≡ ys ++ t ∷ ns = cc in
    one_first xs ys s t ms ns r q later (All-tail IsPlacedProgram x xs h) (All-tail IsPlacedProgram y ys k) a b

-- an input with too many sources has no first refused one among the others
many_or_few : (most : ℕ) (input : List ℕ) (r q : Refusal) → HasTooMany most input r → HasRefusedSource most input q → ⊥
many_or_few most input r q many h =
    let same = ap length (one_list 0 input many.sources (h.before ++ h.refused ∷ h.behind) many.are_sources h.are_sources) in
    let past = slice_get_within many.sources most many.one_more many.is_one_more in
    let few = h.few in
    absurd (omega (arith, same, past, few))

-- an input has one refusal
refused_once : (most : ℕ) (input : List ℕ) (r s : Refusal) → LacksPrograms most input r → LacksPrograms most input s → r ≡ s
refused_once most input r s (inl a) (inl b) =
    let same = one_list 0 input a.sources b.sources a.are_sources b.are_sources in
    let both : Some a.one_more ≡ Some b.one_more = sym a.is_one_more ∙ ap (λ sources. slice_get sources most) same ∙ b.is_one_more in
    let past : a.one_more ≡ b.one_more = cc in
    a.refusal ∙ ap (λ (n : PlacedSource). sources_refusal n.lines) past ∙ sym b.refusal
refused_once most input r s (inl a) (inr b) = absurd (many_or_few most input r s a b)
refused_once most input r s (inr a) (inl b) = absurd (many_or_few most input s r b a)
refused_once most input r s (inr a) (inr b) =
    one_first a.before b.before a.refused b.refused a.behind b.behind r s
    (one_list 0 input (a.before ++ a.refused ∷ a.behind) (b.before ++ b.refused ∷ b.behind) a.are_sources b.are_sources)
    a.are_programs b.are_programs a.is_refused b.is_refused

-- an input is accepted or refused
abbrev IsTold : ℕ → List ℕ → Type 0
IsTold most input = HasPrograms most input ⊎ ((r : Refusal) × LacksPrograms most input r)

module _ (most : ℕ) (input : List ℕ) where
  told_from : (before rest : List PlacedSource) → AreSources input (before ++ rest) → length (before ++ rest) ≤ most
      → All IsPlacedProgram before → IsTold most input
  told_from before [] are few all = inl (record {
    sources = before;
    are_sources = subst (AreSources input) (append-nil before) are;
    few = subst (λ (ss : List PlacedSource). length ss ≤ most) (append-nil before) few;
    are_programs = all;
  })
  told_from before (s ∷ rest) are few all = elim (program_or_refusal s.lines s.source) [
    | inl program ↦ told_from (before ++ s ∷ []) rest (subst (AreSources input) (sym (append_assoc before (s ∷ []) rest)) are)
        (subst (λ (ss : List PlacedSource). length ss ≤ most) (sym (append_assoc before (s ∷ []) rest)) few)
        (All-push IsPlacedProgram before s all program)
    | inr refused ↦ inr (
      refused.0,
      inr (record {
        before = before;
        refused = s;
        behind = rest;
        are_sources = are;
        few = few;
        are_programs = all;
        is_refused = refused.1;
      }),
    )
  ]

  sources_or_refusal : IsTold most input
  sources_or_refusal = by_count (sources_behind 0 input)
    where
      by_count : ((sources : List PlacedSource) × AreSources input sources) → IsTold most input
      by_count (sources, are) = elim (slice_get_cases sources most).1 [
        | inl (one_more, past, is, read) ↦ inr (_, inl (record { sources = sources; are_sources = are; one_more = one_more; is_one_more = is; refusal = refl }))
        | inr (few, none) ↦ told_from [] sources are few (All-nil IsPlacedProgram)
      ]

-- so an input has one verdict
pub one_verdict : (most : ℕ) (input : List ℕ) → HasOneFaultUnless (HasPrograms most input) (LacksPrograms most input)
one_verdict most input = told_once (LacksPrograms most input) (sources_or_refusal most input) (not_accepted most input) (refused_once most input)
