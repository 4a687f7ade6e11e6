-- An image has one source.
use Rattle.std.proofs.Common.{◌≡◌, ℕ, zero, suc, ◌+◌, ◌*◌, ◌<◌, Bool, true, false, inl, inr, List, [], ◌∷◌, ◌++◌, take, drop, map, refl, sym, ap, subst, ◌∙◌, arith, IsTrue}
use Rattle.std.specs.Prelude.{◌↔◌}
use Rattle.std.specs.BTreeSet.{BTreeSet, contains as has}
use Rattle.std.specs.Ordering.{nat_cmp}
use Rattle.std.proofs.lemmas.Bool.{cases_lt}
use Rattle.std.proofs.lemmas.Cmp.{nat_cmp_total}
use Rattle.std.proofs.lemmas.Map.Lookups.{btree_set_from_contains, exact_unsigned}
use Rattle.std.proofs.lemmas.Map.Views.{btree_set_contains_iff}
use Rattle.m88_base.specs.Image.{ProgramImage, parts}
use Rattle.m88_base.specs.Lines.{text_of_lines}
use Rattle.m88_base.specs.Placed.{Placed}
use Rattle.m88_disasm.proofs.Laws.{one_more}
use Rattle.m88_sourcing.specs.Code.{InCode}
use Rattle.m88_sourcing.specs.Data.{AreDataLines}
use Rattle.m88_sourcing.specs.Data.AreDataLines.{no_line, item}
use Rattle.m88_sourcing.specs.Labels.{code_text}
use Rattle.m88_sourcing.specs.Said.{Said, Stays}
use Rattle.m88_sourcing.specs.Source.{AreCodeLines, AreFar, AreLooseLines, AreSourceLines, ArePieceLines, IsCutPiece, IsPiece, IsSourceWith, IsStretch, LineWhere, far_line}
use Rattle.m88_sourcing.specs.Source.LineWhere.{so, not_so}
use Rattle.m88_sourcing.specs.Source.AreCodeLines.{no_word, word}
use Rattle.m88_sourcing.specs.Source.AreLooseLines.{no_byte, stretch}
use Rattle.m88_sourcing.specs.Source.ArePieceLines.{no_piece, code, loose}
use Rattle.m88_sourcing.specs.Source.AreSourceLines.{no_part, part}
use Rattle.m88_sourcing.proofs.OneInstruction.{same_instruction}

-- a line where something holds
one_where : (P : Type 0) (line : List ℕ) (ls ms : List (List ℕ)) → LineWhere P line ls → LineWhere P line ms → ls ≡ ms
one_where P line _ _ (so p) (so q) = refl
one_where P line _ _ (so p) (not_so none) = absurd (none p)
one_where P line _ _ (not_so none) (so q) = absurd (none q)
one_where P line _ _ (not_so none) (not_so none2) = refl

joined : (a b c d : List (List ℕ)) → a ≡ b → c ≡ d → a ++ c ≡ b ++ d
joined a b c d e f = cc

one_code : (put : ℕ → List (List ℕ)) (image : ProgramImage) (said : Said) (at n : ℕ) (ls ms : List (List ℕ))
    → AreCodeLines put image said at n ls → AreCodeLines put image said at n ms → ls ≡ ms
one_code put image said at zero _ _ no_word no_word = refl
one_code put image said at (suc n) _ _ (word i s l f r) (word j t m g q) =
    joined _ _ _ _ (one_where _ _ _ _ l m) (joined _ _ _ _ (one_where _ _ _ _ f g)
    (one_more _ _ _ _ (ap (code_text at) (same_instruction image at i j s t))
    (joined _ _ _ _ refl (one_code put image said (at + 4) n _ _ r q))))

one_data : (at : ℕ) (bytes : List ℕ) (ls ms : List (List ℕ)) → AreDataLines at bytes ls → AreDataLines at bytes ms → ls ≡ ms
one_data at _ _ _ no_line no_line = refl
one_data at _ _ _ no_line (item some e rest) = absurd (omega (arith, some))
one_data at _ _ _ (item some e rest) no_line = absurd (omega (arith, some))
one_data at bytes _ _ (item {n = n} {lines = ls} some e rest) (item {n = m} {lines = ms} some2 f rest2) =
    let same : m ≡ n = f ∙ sym e in
    one_more _ _ _ _ refl (one_data (at + n) (drop n bytes) ls ms rest
    (subst (λ (k : ℕ). AreDataLines (at + k) (drop k bytes) ms) same rest2))

-- pieces and stretches are as long as they are
shorter : (K : ℕ → Type 0) (at : ℕ) (bytes : List ℕ) (n m : ℕ) → IsPiece K at bytes n → IsPiece K at bytes m → n < m → ⊥
shorter K at bytes n m p q low = elim p.longest [
  | inl all ↦ absurd (let within = q.within in omega (arith, all, within, low))
  | inr other ↦ other (q.even n low)
]

same_piece : (K : ℕ → Type 0) (at : ℕ) (bytes : List ℕ) (n m : ℕ) → IsPiece K at bytes n → IsPiece K at bytes m → n ≡ m
same_piece K at bytes n m p q = elim (cases_lt n m) [
  | inl low ↦ absurd (shorter K at bytes n m p q low)
  | inr from ↦ elim (cases_lt m n) [
    | inl low ↦ absurd (shorter K at bytes m n q p low)
    | inr from2 ↦ omega (arith, from, from2)
  ]
]

shorter_stretch : (K : ℕ → Type 0) (at : ℕ) (bytes : List ℕ) (n m : ℕ) → IsStretch K at bytes n → IsStretch K at bytes m
    → n < m → ⊥
shorter_stretch K at bytes n m p q low = elim p.longest [
  | inl all ↦ absurd (let within = q.within in omega (arith, all, within, low))
  | inr labelled ↦ q.plain n p.some low labelled
]

same_stretch : (K : ℕ → Type 0) (at : ℕ) (bytes : List ℕ) (n m : ℕ) → IsStretch K at bytes n → IsStretch K at bytes m
    → n ≡ m
same_stretch K at bytes n m p q = elim (cases_lt n m) [
  | inl low ↦ absurd (shorter_stretch K at bytes n m p q low)
  | inr from ↦ elim (cases_lt m n) [
    | inl low ↦ absurd (shorter_stretch K at bytes m n q p low)
    | inr from2 ↦ omega (arith, from, from2)
  ]
]

one_loose : (image : ProgramImage) (said : Said) (at : ℕ) (bytes : List ℕ) (ls ms : List (List ℕ))
    → AreLooseLines image said at bytes ls → AreLooseLines image said at bytes ms → ls ≡ ms
one_loose image said at _ _ _ no_byte no_byte = refl
one_loose image said at _ _ _ no_byte (stretch n is l d r) =
    absurd (let some = is.some in let within = is.within in omega (arith, some, within))
one_loose image said at _ _ _ (stretch n is l d r) no_byte =
    absurd (let some = is.some in let within = is.within in omega (arith, some, within))
one_loose image said at bytes _ _ (stretch {lines = ls} n is l d r) (stretch {own = own} {lines = ms} m is2 k e q) =
    let same : m ≡ n = same_stretch _ at bytes m n is2 is in
    joined _ _ _ _ (one_where _ _ _ _ l k) (joined _ _ _ _
    (one_data at (take n bytes) _ _ d (subst (λ (j : ℕ). AreDataLines at (take j bytes) own) same e))
    (one_loose image said (at + n) (drop n bytes) ls ms r
    (subst (λ (j : ℕ). AreLooseLines image said (at + j) (drop j bytes) ms) same q)))

shorter_cut : (K S : ℕ → Type 0) (at : ℕ) (bytes : List ℕ) (n m : ℕ) → IsCutPiece K S at bytes n
    → IsCutPiece K S at bytes m → n < m → ⊥
shorter_cut K S at bytes n m p q low = elim p.longest [
  | inl all ↦ absurd (let within = q.within in omega (arith, all, within, low))
  | inr ends ↦ elim ends [
    | inl other ↦ other (q.even n low)
    | inr place ↦ q.plain n p.some low place
  ]
]

same_cut : (K S : ℕ → Type 0) (at : ℕ) (bytes : List ℕ) (n m : ℕ) → IsCutPiece K S at bytes n
    → IsCutPiece K S at bytes m → n ≡ m
same_cut K S at bytes n m p q = elim (cases_lt n m) [
  | inl low ↦ absurd (shorter_cut K S at bytes n m p q low)
  | inr from ↦ elim (cases_lt m n) [
    | inl low ↦ absurd (shorter_cut K S at bytes m n q p low)
    | inr from2 ↦ omega (arith, from, from2)
  ]
]

-- what is all code isn't what has none
not_both : (K S : ℕ → Type 0) (at n m : ℕ) (bytes : List ℕ) → IsCutPiece K S at bytes n
    → IsPiece (λ a. ¬ K a) at bytes m → ⊥
not_both K S at n m bytes p q = q.even 0 q.some (p.even 0 p.some)

one_pieces : (put : ℕ → List (List ℕ)) (image : ProgramImage) (said : Said) (at : ℕ) (bytes : List ℕ)
    (ls ms : List (List ℕ)) → ArePieceLines put image said at bytes ls → ArePieceLines put image said at bytes ms
    → ls ≡ ms
one_pieces put image said at _ _ _ no_piece no_piece = refl
one_pieces put image said at _ _ _ no_piece (code n is o r) =
    absurd (let some = is.some in let within = is.within in omega (arith, some, within))
one_pieces put image said at _ _ _ no_piece (loose n is o r) =
    absurd (let some = is.some in let within = is.within in omega (arith, some, within))
one_pieces put image said at _ _ _ (code n is o r) no_piece =
    absurd (let some = is.some in let within = is.within in omega (arith, some, within))
one_pieces put image said at _ _ _ (loose n is o r) no_piece =
    absurd (let some = is.some in let within = is.within in omega (arith, some, within))
one_pieces put image said at bytes _ _ (code n is o r) (loose m is2 p q) =
    absurd (not_both (InCode image said) (Stays said) at (4 * n) m bytes is is2)
one_pieces put image said at bytes _ _ (loose n is o r) (code m is2 p q) =
    absurd (not_both (InCode image said) (Stays said) at (4 * m) n bytes is2 is)
one_pieces put image said at bytes _ _ (code {lines = ls} n is o r) (code {own = own} {lines = ms} m is2 p q) =
    let all : 4 * m ≡ 4 * n = same_cut _ _ at bytes (4 * m) (4 * n) is2 is in
    let same : m ≡ n = omega (arith, all) in
    one_more _ _ _ _ refl (joined _ _ _ _
    (one_code put image said at n _ _ o (subst (λ (j : ℕ). AreCodeLines put image said at j own) same p))
    (one_pieces put image said (at + 4 * n) (drop (4 * n) bytes) ls ms r
    (subst (λ (j : ℕ). ArePieceLines put image said (at + 4 * j) (drop (4 * j) bytes) ms) same q)))
one_pieces put image said at bytes _ _ (loose {lines = ls} n is o r) (loose {own = own} {lines = ms} m is2 p q) =
    let same : m ≡ n = same_piece _ at bytes m n is2 is in
    one_more _ _ _ _ refl (joined _ _ _ _
    (one_loose image said at (take n bytes) _ _ o
    (subst (λ (j : ℕ). AreLooseLines image said at (take j bytes) own) same p))
    (one_pieces put image said (at + n) (drop n bytes) ls ms r
    (subst (λ (j : ℕ). ArePieceLines put image said (at + j) (drop j bytes) ms) same q)))

one_parts : (put : ℕ → List (List ℕ)) (image : ProgramImage) (said : Said) (runs : List Placed) (ls ms : List (List ℕ))
    → AreSourceLines put image said runs ls → AreSourceLines put image said runs ms → ls ≡ ms
one_parts put image said [] _ _ no_part no_part = refl
one_parts put image said (run ∷ runs) _ _ (part o r) (part p q) =
    joined _ _ _ _ (one_pieces put image said run.at run.bytes _ _ o p) (one_parts put image said runs _ _ r q)

-- two tests are the same where they hold together
same_test : (s t : Bool) → IsTrue s ↔ IsTrue t → s ≡ t
same_test true true same = refl
same_test false false same = refl
same_test true false same = absurd (let e = same.0 refl in cc)
same_test false true same = absurd (let e = same.1 refl in cc)

one_far : (image : ProgramImage) (said : Said) (xs ys : List ℕ) → AreFar image said xs → AreFar image said ys → xs ≡ ys
one_far image said xs ys p q =
    let s : BTreeSet ℕ = record { keys = xs } in
    let t : BTreeSet ℕ = record { keys = ys } in
    btree_set_from_contains nat_cmp_total s t p.ascending q.ascending
    (λ k. same_test (has nat_cmp s k) (has nat_cmp t k)
    (let a = btree_set_contains_iff nat_cmp_total exact_unsigned s k in
    let b = btree_set_contains_iff nat_cmp_total exact_unsigned t k in
    (λ h. b.1 ((q.exactly k).1 ((p.exactly k).0 (a.0 h))), λ h. a.1 ((p.exactly k).1 ((q.exactly k).0 (b.0 h))))))
    exact_unsigned

pub one_source : (put : ℕ → List (List ℕ)) (image : ProgramImage) (said : Said) (t u : List ℕ)
    → IsSourceWith put image said t → IsSourceWith put image said u → t ≡ u
one_source put image said t u a b =
    let start : a.start ≡ b.start = one_where _ _ _ _ a.starts b.starts in
    let far : a.far ≡ b.far = one_far image said a.far b.far a.are_far b.are_far in
    let lines : a.lines ≡ b.lines = one_parts put image said (parts image) _ _ a.are_lines b.are_lines in
    a.text_is
    ∙ ap text_of_lines
    (joined _ _ _ _ start (joined _ _ _ _ (ap (map far_line) far) lines))
    ∙ sym b.text_is
