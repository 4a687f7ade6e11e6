-- The law of an inserted statement.
use Rattle.std.proofs.Common.{◌≡◌, ◌⊎◌, ℕ, ◌+◌, inl, inr, List, [], ◌∷◌, ◌++◌, length, refl, sym, ap, subst, ◌∙◌, arith, append_assoc}
use Rattle.std.specs.Prelude.{map}
use Rattle.m88_base.specs.Image.{IsImage, ProgramImage, byte_at, byte_count, parts}
use Rattle.m88_base.specs.Lines.{text_of_lines}
use Rattle.m88_base.specs.Placed.{Placed}
use Rattle.m88_parse.proofs.Laws.{one_source_verdict}
use Rattle.m88_parse.specs.Language.Pieces.{Piece}
use Rattle.m88_parse.specs.Language.Statements.{IsBody, IsStatement, align, label_alone, labelled, unlabelled}
use Rattle.m88_parse.specs.Language.Units.{IsUnit}
use Rattle.m88_parse.specs.declared.unit.Body.{Body}
use Rattle.m88_parse.specs.declared.unit.Body.TheVariants as body
use Rattle.m88_parse.specs.declared.unit.Statement.{Statement}
use Rattle.m88_asm.specs.Accepted.{IsAcceptedUnit}
use Rattle.m88_asm.specs.Counters.{length_at}
use Rattle.m88_asm.specs.Objects.{sets_at}
use Rattle.m88_disasm.specs.Listing.{place_line}
use Rattle.m88_disasm.proofs.Laws.{AreRead, ArePieces, pieces_of, read_all, read_one, read_stated, read_unit, said_place, spoken, unit_of}
use Rattle.m88_sourcing.specs.Code.{IsCode}
use Rattle.m88_sourcing.specs.Insertion.{IsInserted, MovesCodeAlone}
use Rattle.m88_sourcing.specs.Laws.{EachKeepsItsBranches}
use Rattle.m88_sourcing.specs.Said.{Said}
use Rattle.m88_sourcing.specs.Source.{IsSourceWith, far_line}
use Rattle.m88_sourcing.proofs.Inserted.{moves_alone}
use Rattle.m88_sourcing.proofs.Lengthened.{Longer, LongerParts, longer_parts, put_behind}
use Rattle.m88_sourcing.proofs.Parted.{Parted, parted}
use Rattle.m88_sourcing.proofs.Rebuilt.{Front, code_some, each_part, front, in_part}
use Rattle.m88_sourcing.proofs.Rowed.{in_line, said_in}
use Rattle.m88_sourcing.proofs.Runs.{InParts}
use Rattle.m88_sourcing.proofs.Skeleton.{IsTame, bare}

-- a statement of four bytes wherever it stands
record IsFour (b : Body) : Type 0 where
  tame : IsTame b
  bare_is : bare b ≡ body.Zero 4
  unset : (line : ℕ) → sets_at line b ≡ []

four_body : (b : Body) → ((place : ℕ) → length_at place b ≡ 4) → ((n : ℕ) → b ≡ body.Align n → ⊥) → IsFour b
four_body body.Text four none = absurd (let e = four 0 in omega (arith, e))
four_body body.DataSection four none = absurd (let e = four 0 in omega (arith, e))
four_body (body.At a) four none = absurd (let e = four 0 in omega (arith, e))
four_body (body.Global name) four none = absurd (let e = four 0 in omega (arith, e))
four_body (body.Set name col value) four none = absurd (let e = four 0 in omega (arith, e))
four_body (body.Align n) four none = absurd (none n refl)
four_body b four none = record { tame = tt; bare_is = ap (λ (n : ℕ). body.Zero n) (four 0); unset = λ line. refl }

abbrev IsAlignment : ℕ → Type 0
IsAlignment n = (n ≡ 1) ⊎ ((n ≡ 2) ⊎ ((n ≡ 4) ⊎ (n ≡ 8)))

aligned_to : {ps : List Piece} {b : Body} (n : ℕ) → IsBody ps b → b ≡ body.Align n → IsAlignment n
aligned_to n (align {n = k} named number is) e = subst IsAlignment (same e) is
  where
    same : body.Align k ≡ body.Align n → k ≡ n
    same f = cc
aligned_to n is e = absurd cc

stated_to : {number : ℕ} {ps : List Piece} {x : Statement} (n : ℕ) → IsStatement number ps x → x.body ≡ body.Align n
    → IsAlignment n
stated_to n (unlabelled is none) e = aligned_to n is e
stated_to n (labelled label is) e = aligned_to n is e
stated_to n (label_alone label) e = absurd cc

no_alignment : (n : ℕ) → IsAlignment n → length_at 0 (body.Align n) ≡ 4 → ⊥
no_alignment n (inl e) four = no_four (sym (ap (λ (k : ℕ). length_at 0 (body.Align k)) e) ∙ four)
  where
    no_four : length_at 0 (body.Align 1) ≡ 4 → ⊥
    no_four f = absurd (omega (arith, f))
no_alignment n (inr (inl e)) four = no_four (sym (ap (λ (k : ℕ). length_at 0 (body.Align k)) e) ∙ four)
  where
    no_four : length_at 0 (body.Align 2) ≡ 4 → ⊥
    no_four f = absurd (omega (arith, f))
no_alignment n (inr (inr (inl e))) four = no_four (sym (ap (λ (k : ℕ). length_at 0 (body.Align k)) e) ∙ four)
  where
    no_four : length_at 0 (body.Align 4) ≡ 4 → ⊥
    no_four f = absurd (omega (arith, f))
no_alignment n (inr (inr (inr e))) four = no_four (sym (ap (λ (k : ℕ). length_at 0 (body.Align k)) e) ∙ four)
  where
    no_four : length_at 0 (body.Align 8) ≡ 4 → ⊥
    no_four f = absurd (omega (arith, f))

-- the statements of the longer source
record IsLengthened (image : ProgramImage) (said : Said) (w : ℕ) (longer : List ℕ) : Type 0 where
  m : Parted image said w
  is_unit : IsUnit longer (unit_of (m.f.statements ++ parted m))

lengthened : (image : ProgramImage) (said : Said) (w : ℕ) (longer : List ℕ) → IsImage image
    → IsCode image said w → IsInserted image said w longer → IsLengthened image said w longer
unfolding byte_at byte_count
lengthened image said w longer is code ins =
    let s : IsSourceWith (put_behind w ins.line) image said longer = ins.source in
    let runs : List Placed = parts image in
    let pieces : ArePieces runs = pieces_of 0 runs is.apart is.bytes in
    let first : List (List ℕ) = s.start ++ map far_line s.far in
    let f : Front image said s.far first = front image said s.far s.start is.start s.starts s.are_far in
    let later : ℕ = 1 + length first in
    let p : LongerParts image said w ins.line later 0 runs s.lines =
    longer_parts image said w ins.line later 0 0 runs s.lines code
    (in_part runs w (code_some image said w code)) (omega arith) is.apart pieces is.few
    (each_part image is [] runs refl)
    s.are_lines in
    let l : Longer image said w ins.line later 0 p.to s.lines (InParts runs) = p.longer in
    let number : ℕ = l.n + 1 + length l.own in
    let four : IsFour ins.statement.body =
    four_body ins.statement.body ins.four
    (λ n e. no_alignment n (stated_to n ins.states e) (sym (ap (length_at 0) e) ∙ ins.four 0)) in
    let m : Parted image said w = record {
      line = ins.line;
      later = later;
      to = p.to;
      lines = s.lines;
      l = l;
      far = s.far;
      far_lines = first;
      are_far = s.are_far;
      f = f;
      x = in_line number ins.statement;
      none = ins.unlabelled;
      tame = four.tame;
      bare_is = four.bare_is;
      unset = four.unset number;
      four = ins.four 0;
    } in
    let holds = l.holds in
    let b_ends = l.b_ends in
    let low = l.low in
    record {
      m = m;
      is_unit =
          read_unit (first ++ s.lines) (f.statements ++ parted m) longer
          (s.text_is ∙ ap text_of_lines (sym (append_assoc s.start (map far_line s.far) s.lines)))
          (read_stated 1 later first s.lines f.statements (parted m) refl f.stated
          (subst (λ (ls : List (List ℕ)). AreRead later ls (parted m)) (sym l.lines_are)
          (read_stated later l.n l.first _ l.front.statements _ l.n_is l.front.stated
          (read_stated l.n number (place_line l.s ∷ l.own) _ (_ ∷ l.a.listed.statements) _ (omega arith) (
            spoken l.n (place_line l.s) (body.At l.s)
                (said_place l.n l.s (omega (arith, holds, b_ends, low))),
            l.a.listed.stated,
          )
          (read_one number ins.line (l.more ++ l.last) ins.tokens (in_line number ins.statement)
          (l.b.listed.statements ++ l.back.statements) ins.is_line ins.are_tokens
          (said_in ins.number number ins.tokens ins.statement ins.states)
          (read_stated (number + 1) (number + 1 + length l.more) l.more l.last l.b.listed.statements l.back.statements
          refl
          l.b.listed.stated (read_all (number + 1 + length l.more) l.last l.back.statements l.back.stated)))))));
    }

pub keeps_branches : EachKeepsItsBranches
keeps_branches image said is w longer unit code ins is_unit accepted =
    let k : IsLengthened image said w longer = lengthened image said w longer is code ins in
    let same : unit_of (k.m.f.statements ++ parted k.m) ≡ unit =
    (one_source_verdict longer).one_value (unit_of (k.m.f.statements ++ parted k.m)) unit k.is_unit is_unit in
    subst (MovesCodeAlone image said w) same
    (moves_alone image said w k.m is code (subst IsAcceptedUnit (sym same) accepted))
