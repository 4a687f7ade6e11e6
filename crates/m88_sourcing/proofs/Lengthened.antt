-- The lines of a source with one more behind the word of code at w: what stands before the piece of w, that piece to w
-- and behind it, and what stands behind the piece, each as statements that give the bytes of the image.
use Rattle.std.proofs.Common.{◌≡◌, ◌≢◌, ◌⊎◌, ℕ, suc, ◌+◌, ◌*◌, ◌-◌, ◌%◌, ◌<◌, ◌≤◌, ◌^◌, Bool, true, false, ◌==◌, inl, inr, List, [], ◌∷◌, ◌++◌, length, take, drop, refl, sym, ap, subst, ◌∙◌, arith, append_assoc, eq-eqb, eqb-true, ne_eqb, length-append}
use Rattle.std.specs.Prelude.{if◌then◌else◌}
use Rattle.std.proofs.lemmas.Bool.{cases_lt, eqb-false}
use Rattle.std.proofs.lemmas.List.{length-drop, length-take-le}
use Rattle.std.proofs.lemmas.List.Sums.{sum_by-cons}
use Rattle.m88_base.specs.Found.{IsPart}
use Rattle.m88_base.specs.Image.{ProgramImage, byte_at, most_bytes}
use Rattle.m88_base.specs.Placed.{AreApart, Placed, count_among}
use Rattle.m88_base.proofs.Laws.{AreBytes, bytes_dropped}
use Rattle.m88_isa.specs.Address.{word_address}
use Rattle.m88_disasm.specs.Listing.{place_line}
use Rattle.m88_disasm.proofs.Laws.{ArePieces}
use Rattle.m88_sourcing.specs.Code.{InCode, IsCode, HoldsInstruction}
use Rattle.m88_sourcing.specs.Labels.{code_text}
use Rattle.m88_sourcing.specs.Said.{Said, Stays}
use Rattle.m88_isa.specs.declared.instr.Instr.{Instr}
use Rattle.m88_sourcing.specs.Source.{AreCodeLines, ArePieceLines, AreSourceLines, IsLabelled, IsCutPiece, IsStartMarked}
use Rattle.m88_sourcing.specs.Source.AreCodeLines.{no_word, word}
use Rattle.m88_sourcing.specs.Source.ArePieceLines.{code, loose, no_piece}
use Rattle.m88_sourcing.specs.Source.AreSourceLines.{no_part, part}
use Rattle.m88_sourcing.proofs.Cutting.{no_code_there}
use Rattle.m88_sourcing.proofs.Rebuilt.{EachPart, ToldParts, in_above, instruction_first, told_parts}
use Rattle.m88_sourcing.proofs.Runs.{InParts, ToldPart, ToldRuns, code_piece, loose_piece, loose_whole, piece_part, runs_as, runs_both, runs_from, runs_none, told_pieces}
use Rattle.m88_sourcing.proofs.Told.{Among, HasBytes, Told, code_whole, has_behind, has_front, told_code}

-- one line behind the word at w
abbrev pub put_behind : ℕ → List ℕ → ℕ → List (List ℕ)
put_behind w line a = if a == w then line ∷ [] else []

no_put : (w : ℕ) (line : List ℕ) (a : ℕ) → a ≢ w → put_behind w line a ≡ []
no_put w line a other = ap (λ (t : Bool). if t then line ∷ [] else []) (ne_eqb a w other)

own_put : (w : ℕ) (line : List ℕ) (a : ℕ) → a ≡ w → put_behind w line a ≡ line ∷ []
own_put w line a same = ap (λ (t : Bool). if t then line ∷ [] else []) (eq-eqb a w same)

-- lines to which none is put
quiet_code : (image : ProgramImage) (said : Said) (w : ℕ) (line : List ℕ) (at n : ℕ) (lines : List (List ℕ))
    → (w < at) ⊎ (at + 4 * n ≤ w)
    → AreCodeLines (put_behind w line) image said at n lines → AreCodeLines (λ _. []) image said at n lines
quiet_code image said w line at _ _ out no_word = no_word
quiet_code image said w line at (suc n) _ out
    (word {label = label} {start = start} {lines = lines} i stands is_label is_start rest) =
    subst (λ (ls : List (List ℕ)). AreCodeLines (λ _. []) image said at (suc n)
    (label ++ (start ++ code_text at i ∷ (ls ++ lines))))
    (sym (no_put w line at (λ same. elim out [
      | inl low ↦ absurd (omega (arith, same, low))
      | inr high ↦ absurd (omega (arith, same, high))
    ])))
    (word i stands is_label is_start (quiet_code image said w line (at + 4) n lines (elim out [
      | inl low ↦ inl (omega (arith, low))
      | inr high ↦ inr (omega (arith, high))
    ]) rest))

quiet_pieces : (image : ProgramImage) (said : Said) (w : ℕ) (line : List ℕ) (at : ℕ) (bytes : List ℕ)
    (lines : List (List ℕ)) → (w < at) ⊎ (at + length bytes ≤ w)
    → ArePieceLines (put_behind w line) image said at bytes lines
    → ArePieceLines (λ _. []) image said at bytes lines
quiet_pieces image said w line at _ _ out no_piece = no_piece
quiet_pieces image said w line at bytes _ out (code {own = own} {lines = lines} n is are rest) =
    let within = is.within in
    let left = length-drop (4 * n) bytes in
    code n is
    (quiet_code image said w line at n own (elim out [
      | inl low ↦ inl low
      | inr high ↦ inr (omega (arith, high, within))
    ]) are)
    (quiet_pieces image said w line (at + 4 * n) (drop (4 * n) bytes) lines (elim out [
      | inl low ↦ inl (omega (arith, low))
      | inr high ↦ inr (omega (arith, high, within, left))
    ]) rest)
quiet_pieces image said w line at bytes _ out (loose {own = own} {lines = lines} n is are rest) =
    let within = is.within in
    let left = length-drop n bytes in
    loose n is are
    (quiet_pieces image said w line (at + n) (drop n bytes) lines (elim out [
      | inl low ↦ inl (omega (arith, low))
      | inr high ↦ inr (omega (arith, high, within, left))
    ]) rest)

quiet_parts : (image : ProgramImage) (said : Said) (w : ℕ) (line : List ℕ) (from : ℕ) (runs : List Placed)
    (lines : List (List ℕ)) → AreApart from runs → w < from
    → AreSourceLines (put_behind w line) image said runs lines → AreSourceLines (λ _. []) image said runs lines
quiet_parts image said w line from _ _ apart low no_part = no_part
quiet_parts image said w line from _ _ apart low
    (part {run = run} {runs = runs} {own = own} {lines = lines} are rest) =
    let begins = apart.0 in
    part (quiet_pieces image said w line run.at run.bytes own (inl (omega (arith, begins, low))) are)
    (quiet_parts image said w line (run.at + length run.bytes + 1) runs lines apart.2 (omega (arith, begins, low))
    rest)

-- words of code with the line behind one of them
record CutCode (image : ProgramImage) (said : Said) (w : ℕ) (line : List ℕ) (at m : ℕ) (lines : List (List ℕ))
    : Type 0 where
  k : ℕ
  n : ℕ
  own : List (List ℕ)
  more : List (List ℕ)
  lines_are : lines ≡ own ++ line ∷ more
  size : k + n ≡ m
  place : at + 4 * k ≡ w + 4
  front : AreCodeLines (λ _. []) image said at k own
  back : AreCodeLines (λ _. []) image said (w + 4) n more

cut_lines : (label start own more : List (List ℕ)) (text line : List ℕ)
    → label ++ (start ++ text ∷ (own ++ line ∷ more)) ≡ (label ++ (start ++ text ∷ own)) ++ line ∷ more
cut_lines label start own more text line =
    ap (λ (ls : List (List ℕ)). label ++ ls) (sym (append_assoc start (text ∷ own) (line ∷ more)))
    ∙ sym (append_assoc label (start ++ text ∷ own) (line ∷ more))

cut_later : (image : ProgramImage) (said : Said) (w : ℕ) (line : List ℕ) (at m : ℕ) (i : Instr)
    (label start lines : List (List ℕ)) → at ≢ w → HoldsInstruction image at i → IsLabelled image said at label
    → IsStartMarked image at start → CutCode image said w line (at + 4) m lines
    → CutCode image said w line at (suc m) (label ++ (start ++ code_text at i ∷ (put_behind w line at ++ lines)))
cut_later image said w line at m i label start lines other stands is_label is_start c =
    let size = c.size in
    let place = c.place in
    record {
      k = suc c.k;
      n = c.n;
      own = label ++ (start ++ code_text at i ∷ c.own);
      more = c.more;
      lines_are =
          ap (λ (ls : List (List ℕ)). label ++ (start ++ code_text at i ∷ (ls ++ lines))) (no_put w line at other)
          ∙ ap (λ (ls : List (List ℕ)). label ++ (start ++ code_text at i ∷ ls)) c.lines_are
          ∙ cut_lines label start c.own c.more (code_text at i) line;
      size = omega (arith, size);
      place = omega (arith, place);
      front = word i stands is_label is_start c.front;
      back = c.back;
    }

cut_code : (image : ProgramImage) (said : Said) (w : ℕ) (line : List ℕ) (at m : ℕ) (lines : List (List ℕ))
    → at % 4 ≡ 0 → w % 4 ≡ 0 → at ≤ w → w < at + 4 * m → AreCodeLines (put_behind w line) image said at m lines
    → CutCode image said w line at m lines
cut_code image said w line at _ _ whole aligned from below no_word = absurd (omega (arith, from, below))
cut_code image said w line at (suc m) _ whole aligned from below
    (word {label = label} {start = start} {lines = lines} i stands is_label is_start rest) =
    by (at == w) refl
    (λ h k. cut_code image said w line (at + 4) m lines (omega (arith, whole)) aligned h k rest)
  where
    text : List ℕ
    text = code_text at i

    by : (t : Bool) → (at == w) ≡ t
        → (at + 4 ≤ w → w < at + 4 + 4 * m → CutCode image said w line (at + 4) m lines)
        → CutCode image said w line at (suc m) (label ++ (start ++ text ∷ (put_behind w line at ++ lines)))
    by true e others =
        let same : at ≡ w = eqb-true at w e in
        let next : at + 4 ≡ w + 4 = omega (arith, same) in
        record {
          k = 1;
          n = m;
          own = label ++ (start ++ text ∷ []);
          more = lines;
          lines_are =
              ap (λ (ls : List (List ℕ)). label ++ (start ++ text ∷ (ls ++ lines))) (own_put w line at same)
              ∙ cut_lines label start [] lines text line;
          size = omega arith;
          place = omega (arith, same);
          front = word i stands is_label is_start no_word;
          back =
              subst (λ (a : ℕ). AreCodeLines (λ _. []) image said a m lines) next
              (quiet_code image said w line (at + 4) m lines (inl (omega (arith, same))) rest);
        }
    by false e others =
        let other : at ≢ w = eqb-false at w e in
        cut_later image said w line at m i label start lines other stands is_label is_start
        (others (omega (arith, from, whole, aligned, other)) (omega (arith, below)))

-- addresses of a kind below another, and from another on
abbrev pub Below : (ℕ → Type 0) → ℕ → ℕ → Type 0
Below K s a = K a × (a < s)

abbrev pub From : (ℕ → Type 0) → ℕ → ℕ → Type 0
From K e a = K a × (e ≤ a)

-- lines of parts with a line more behind the word at w, which stands in the piece from s to e
pub record Longer (image : ProgramImage) (said : Said) (w : ℕ) (line : List ℕ) (number from to : ℕ)
    (lines : List (List ℕ)) (K : ℕ → Type 0) : Type 0 where
  pub s : ℕ
  pub e : ℕ
  pub n : ℕ
  pub bytes_a : List ℕ
  pub bytes_b : List ℕ
  pub first : List (List ℕ)
  pub own : List (List ℕ)
  pub more : List (List ℕ)
  pub last : List (List ℕ)
  pub lines_are : lines ≡ first ++ (place_line s ∷ (own ++ line ∷ (more ++ last)))
  pub n_is : n ≡ number + length first
  pub front : ToldRuns image said number from s first (Below K s) (Below K s) (Below K s image.start)
  pub a : Told image said (n + 1) s bytes_a own (Among s (length bytes_a)) (Among s (length bytes_a))
      (Among s (length bytes_a) image.start)
  pub b : Told image said (n + 1 + length own + 1) (w + 4) bytes_b more (Among (w + 4) (length bytes_b))
      (Among (w + 4) (length bytes_b)) (Among (w + 4) (length bytes_b) image.start)
  pub back : ToldRuns image said (n + 1 + length own + 1 + length more) e to last (From K e) (From K e)
      (From K e image.start)
  pub has_a : HasBytes image s bytes_a
  pub has_b : HasBytes image (w + 4) bytes_b
  pub a_ends : s + length bytes_a ≡ w + 4
  pub b_ends : w + 4 + length bytes_b ≡ e
  pub begins : from ≤ s
  pub holds : s ≤ w
  pub low : e ≤ 2 ^ 32
  pub all_code : (b : ℕ) → s ≤ b → b < e → InCode image said b
  pub none_stays : (b : ℕ) → s < b → b < e → ¬ Stays said b
  pub ends : ¬ InCode image said e ⊎ Stays said e
  pub kind : (b : ℕ) → s ≤ b → b < e → K b

-- behind other parts
longer_behind : (image : ProgramImage) (said : Said) (w : ℕ) (line : List ℕ) (number later from middle to : ℕ)
    (ls ms : List (List ℕ)) (K L M : ℕ → Type 0) → later ≡ number + length ls → from ≤ middle
    → ((a : ℕ) → K a → M a) → ((a : ℕ) → L a → M a) → ((a : ℕ) → M a → K a ⊎ L a)
    → ((a : ℕ) → K a → a < middle) → ((a : ℕ) → L a → middle ≤ a)
    → ToldRuns image said number from middle ls K K (K image.start)
    → Longer image said w line later middle to ms L → Longer image said w line number from to (ls ++ ms) M
longer_behind image said w line number later from middle to ls ms K L M later_is up in_k in_l out low high t l =
    let begins = l.begins in
    let holds = l.holds in
    let ends = l.b_ends in
    let size = length-append ls l.first in
    let n_is = l.n_is in
    record {
      s = l.s;
      e = l.e;
      n = l.n;
      bytes_a = l.bytes_a;
      bytes_b = l.bytes_b;
      first = ls ++ l.first;
      own = l.own;
      more = l.more;
      last = l.last;
      lines_are =
          ap (λ (xs : List (List ℕ)). ls ++ xs) l.lines_are
          ∙ sym (append_assoc ls l.first (place_line l.s ∷ (l.own ++ line ∷ (l.more ++ l.last))));
      n_is = omega (arith, later_is, n_is, size);
      front =
          runs_as image said number from l.s (ls ++ l.first) (λ a. K a ⊎ Below L l.s a) (Below M l.s)
          (λ a. K a ⊎ Below L l.s a) (Below M l.s) (K image.start ⊎ Below L l.s image.start) (Below M l.s image.start)
          (onto l.s begins) (off l.s) (off l.s) (onto l.s begins image.start) (off l.s image.start)
          (runs_both image said number later from middle l.s ls l.first K (Below L l.s) K (Below L l.s) _ _ later_is
          (apart l.s) (apart l.s image.start) t l.front);
      a = l.a;
      b = l.b;
      back =
          runs_as image said (l.n + 1 + length l.own + 1 + length l.more) l.e to l.last (From L l.e) (From M l.e)
          (From L l.e) (From M l.e) (From L l.e image.start) (From M l.e image.start)
          (λ a h. (in_l a h.0, h.1)) (back l.e (omega (arith, begins, holds, ends)))
          (back l.e (omega (arith, begins, holds, ends))) (λ h. (in_l image.start h.0, h.1))
          (back l.e (omega (arith, begins, holds, ends)) image.start) l.back;
      has_a = l.has_a;
      has_b = l.has_b;
      a_ends = l.a_ends;
      b_ends = l.b_ends;
      begins = omega (arith, up, begins);
      holds = l.holds;
      low = l.low;
      all_code = l.all_code;
      none_stays = l.none_stays;
      ends = l.ends;
      kind = λ b h k. in_l b (l.kind b h k);
    }
  where
    onto : (s : ℕ) → middle ≤ s → (a : ℕ) → (K a ⊎ Below L s a) → Below M s a
    onto s m a (inl k) = (in_k a k, let x = low a k in omega (arith, x, m))
    onto s m a (inr h) = (in_l a h.0, h.1)

    off : (s : ℕ) (a : ℕ) → Below M s a → (K a ⊎ Below L s a)
    off s a h = elim (out a h.0) [
      | inl k ↦ inl k
      | inr l ↦ inr (l, h.1)
    ]

    apart : (s : ℕ) (a : ℕ) → K a → Below L s a → ⊥
    apart s a k h = let x = low a k in let y = high a h.0 in absurd (omega (arith, x, y))

    back : (e : ℕ) → middle ≤ e → (a : ℕ) → From M e a → From L e a
    back e m a h = elim (out a h.0) [
      | inl k ↦ let x = low a k in let y = h.1 in absurd (omega (arith, x, y, m))
      | inr l ↦ (l, h.1)
    ]

-- before other parts
longer_before : (image : ProgramImage) (said : Said) (w : ℕ) (line : List ℕ) (number later from middle to : ℕ)
    (ls ms : List (List ℕ)) (K L M : ℕ → Type 0) → later ≡ number + length ls
    → ((a : ℕ) → K a → M a) → ((a : ℕ) → L a → M a) → ((a : ℕ) → M a → K a ⊎ L a)
    → ((a : ℕ) → K a → a < middle) → ((a : ℕ) → L a → middle ≤ a)
    → (l : Longer image said w line number from middle ls K) → l.e ≤ middle
    → ToldRuns image said later middle to ms L L (L image.start)
    → Longer image said w line number from to (ls ++ ms) M
longer_before image said w line number later from middle to ls ms K L M later_is in_k in_l out low high l inside t =
    let holds = l.holds in
    let ends = l.b_ends in
    let n_is = l.n_is in
    let size = ap length l.lines_are in
    let size1 = length-append l.first (place_line l.s ∷ (l.own ++ line ∷ (l.more ++ l.last))) in
    let size2 = length-append l.own (line ∷ (l.more ++ l.last)) in
    let size3 = length-append l.more l.last in
    let m : ℕ = l.n + 1 + length l.own + 1 + length l.more in
    record {
      s = l.s;
      e = l.e;
      n = l.n;
      bytes_a = l.bytes_a;
      bytes_b = l.bytes_b;
      first = l.first;
      own = l.own;
      more = l.more;
      last = l.last ++ ms;
      lines_are =
          ap (λ (xs : List (List ℕ)). xs ++ ms) l.lines_are
          ∙ append_assoc l.first (place_line l.s ∷ (l.own ++ line ∷ (l.more ++ l.last))) ms
          ∙ ap (λ (xs : List (List ℕ)). l.first ++ (place_line l.s ∷ xs))
          (append_assoc l.own (line ∷ (l.more ++ l.last)) ms
          ∙ ap (λ (xs : List (List ℕ)). l.own ++ line ∷ xs) (append_assoc l.more l.last ms));
      n_is = l.n_is;
      front =
          runs_as image said number from l.s l.first (Below K l.s) (Below M l.s) (Below K l.s) (Below M l.s)
          (Below K l.s image.start) (Below M l.s image.start)
          (λ a h. (in_k a h.0, h.1)) (front l.s (omega (arith, holds, ends, inside)))
          (front l.s (omega (arith, holds, ends, inside))) (λ h. (in_k image.start h.0, h.1))
          (front l.s (omega (arith, holds, ends, inside)) image.start) l.front;
      a = l.a;
      b = l.b;
      back =
          runs_as image said m l.e to (l.last ++ ms) (λ a. From K l.e a ⊎ L a) (From M l.e)
          (λ a. From K l.e a ⊎ L a) (From M l.e) (From K l.e image.start ⊎ L image.start) (From M l.e image.start)
          (onto l.e inside) (off l.e) (off l.e) (onto l.e inside image.start) (off l.e image.start)
          (runs_both image said m later l.e middle to l.last ms (From K l.e) L (From K l.e) L _ _
          (omega (arith, later_is, n_is, size, size1, size2, size3))
          (apart l.e) (apart l.e image.start) l.back t);
      has_a = l.has_a;
      has_b = l.has_b;
      a_ends = l.a_ends;
      b_ends = l.b_ends;
      begins = l.begins;
      holds = l.holds;
      low = l.low;
      all_code = l.all_code;
      none_stays = l.none_stays;
      ends = l.ends;
      kind = λ b h k. in_k b (l.kind b h k);
    }
  where
    front : (s : ℕ) → s ≤ middle → (a : ℕ) → Below M s a → Below K s a
    front s m a h = elim (out a h.0) [
      | inl k ↦ (k, h.1)
      | inr l ↦ let x = high a l in let y = h.1 in absurd (omega (arith, x, y, m))
    ]

    onto : (e : ℕ) → e ≤ middle → (a : ℕ) → (From K e a ⊎ L a) → From M e a
    onto e m a (inl h) = (in_k a h.0, h.1)
    onto e m a (inr l) = (in_l a l, let x = high a l in omega (arith, x, m))

    off : (e : ℕ) (a : ℕ) → From M e a → (From K e a ⊎ L a)
    off e a h = elim (out a h.0) [
      | inl k ↦ inl (k, h.1)
      | inr l ↦ inr l
    ]

    apart : (e : ℕ) (a : ℕ) → From K e a → L a → ⊥
    apart e a h l = let x = low a h.0 in let y = high a l in absurd (omega (arith, x, y))

-- bytes of a part whose piece of w begins where they do
longer_here : (image : ProgramImage) (said : Said) (w : ℕ) (line : List ℕ) (number from at n : ℕ)
    (bytes : List ℕ) (own lines : List (List ℕ)) → w % 4 ≡ 0 → at % 4 ≡ 0 → from ≤ at → at ≤ w → w < at + 4 * n
    → at + length bytes ≤ 2 ^ 32 → length bytes < 2 ^ 32 → AreBytes bytes → HasBytes image at bytes
    → ¬ InCode image said (at + length bytes) → IsCutPiece (InCode image said) (Stays said) at bytes (4 * n)
    → AreCodeLines (put_behind w line) image said at n own
    → ArePieceLines (λ _. []) image said (at + 4 * n) (drop (4 * n) bytes) lines
    → Longer image said w line number from (at + length bytes) (place_line at ∷ own ++ lines)
    (Among at (length bytes))
longer_here image said w line number from at n bytes own lines aligned begins up below high low few small has free is
    are rest =
    let within = is.within in
    let some = is.some in
    let c : CutCode image said w line at n own =
    cut_code image said w line at n own begins aligned below high are in
    let size = c.size in
    let place = c.place in
    let bytes_a : List ℕ = take (4 * c.k) bytes in
    let later : List ℕ = drop (4 * c.k) bytes in
    let bytes_b : List ℕ = take (4 * c.n) later in
    let left_a = length-drop (4 * c.k) bytes in
    let fits_a : 4 * c.k ≤ length bytes = omega (arith, size, within) in
    let fits_b : 4 * c.n ≤ length later = omega (arith, size, within, left_a) in
    let size_a = length-take-le (4 * c.k) bytes fits_a in
    let size_b = length-take-le (4 * c.n) later fits_b in
    let left = length-drop (4 * n) bytes in
    let code_at : (k : ℕ) → k < n → IsCode image said (at + 4 * k) = λ k h.
    subst (IsCode image said) (let e : word_address (at + 4 * k) ≡ at + 4 * k = omega (arith, begins) in e)
    (is.even (4 * k) (omega (arith, h))) in
    let has_a : HasBytes image at bytes_a = has_front image at (4 * c.k) bytes fits_a has in
    let has_b : HasBytes image (w + 4) bytes_b =
    subst (λ (a : ℕ). HasBytes image a bytes_b) place
    (has_front image (at + 4 * c.k) (4 * c.n) later fits_b (has_behind image at (4 * c.k) bytes fits_a has)) in
    let end : ℕ = at + 4 * n in
    let past : end + length (drop (4 * n) bytes) ≡ at + length bytes = omega (arith, left, within) in
    let m : ℕ = number + 1 + length c.own + 1 + length c.more in
    let others : ToldPart image said m end (end + length (drop (4 * n) bytes)) (drop (4 * n) bytes) lines
    (Among end (length (drop (4 * n) bytes))) (Among end (length (drop (4 * n) bytes)) image.start) =
    told_pieces image said m end (drop (4 * n) bytes) lines (omega (arith, past, low)) (omega (arith, left, few))
    (bytes_dropped (4 * n) bytes small) (has_behind image at (4 * n) bytes within has) (λ h d. omega (arith, begins))
    rest in
    let onto : (a : ℕ) → Among end (length (drop (4 * n) bytes)) a → From (Among at (length bytes)) end a = λ a h.
    let x = h.0 in let y = h.1 in ((omega (arith, x), omega (arith, y, past)), x) in
    let off : (a : ℕ) → From (Among at (length bytes)) end a → Among end (length (drop (4 * n) bytes)) a = λ a h.
    let x = h.0.1 in (h.1, omega (arith, x, past)) in
    let none : (a : ℕ) → Below (Among at (length bytes)) at a → ⊥ = λ a h.
    let x = h.0.0 in let y = h.1 in absurd (omega (arith, x, y)) in
    record {
      s = at;
      e = end;
      n = number;
      bytes_a = bytes_a;
      bytes_b = bytes_b;
      first = [];
      own = c.own;
      more = c.more;
      last = lines;
      lines_are =
          ap (λ (xs : List (List ℕ)). place_line at ∷ (xs ++ lines)) c.lines_are
          ∙ ap (λ (xs : List (List ℕ)). let ys : List (List ℕ) = place_line at ∷ xs in ys)
          (append_assoc c.own (line ∷ c.more) lines);
      n_is = omega arith;
      front =
          runs_from image said number from at at [] _ _ _ up
          (runs_as image said number at at [] (λ a. ⊥) (Below (Among at (length bytes)) at) (λ a. ⊥)
          (Below (Among at (length bytes)) at) ⊥ (Below (Among at (length bytes)) at image.start)
          (λ a h. absurd h) none none (λ h. absurd h) (none image.start) (runs_none image said number at));
      a =
          subst (λ (k : ℕ). Told image said (number + 1) at bytes_a c.own (Among at k) (Among at k)
          (Among at k image.start)) (sym size_a)
          (told_code image said (number + 1) at c.k bytes_a c.own begins (omega (arith, fits_a, low)) size_a has_a
          (λ k h. code_at k (omega (arith, h, size))) c.front);
      b =
          subst (λ (k : ℕ). Told image said (number + 1 + length c.own + 1) (w + 4) bytes_b c.more (Among (w + 4) k)
          (Among (w + 4) k) (Among (w + 4) k image.start)) (sym size_b)
          (told_code image said (number + 1 + length c.own + 1) (w + 4) c.n bytes_b c.more (omega (arith, aligned))
          (omega (arith, place, size, within, low)) size_b has_b
          (λ k h. subst (IsCode image said)
          (let e : at + 4 * (c.k + k) ≡ w + 4 + 4 * k = omega (arith, place) in e)
          (code_at (c.k + k) (omega (arith, h, size)))) c.back);
      back =
          subst (λ (to : ℕ). ToldRuns image said m end to lines (From (Among at (length bytes)) end)
          (From (Among at (length bytes)) end) (From (Among at (length bytes)) end image.start)) past
          (runs_as image said m end (end + length (drop (4 * n) bytes)) lines _ _ _ _ _ _ onto off off
          (onto image.start) (off image.start) others.told);
      has_a = has_a;
      has_b = has_b;
      a_ends = omega (arith, size_a, place);
      b_ends = omega (arith, size_b, place, size);
      begins = up;
      holds = below;
      low = omega (arith, within, low);
      all_code = λ b h k.
          subst (InCode image said) (let e : at + (b - at) ≡ b = omega (arith, h) in e)
          (is.even (b - at) (omega (arith, h, k)));
      none_stays = λ b h k stays.
          is.plain (b - at) (omega (arith, h)) (omega (arith, h, k))
          (subst (Stays said) (let e : b ≡ at + (b - at) = omega (arith, h) in e) stays);
      ends = elim is.longest [
        | inl all ↦ inl (subst (λ (k : ℕ). ¬ InCode image said (at + k)) (sym all) free)
        | inr next ↦ next
      ];
      kind = λ b h k. (h, omega (arith, k, within));
    }

-- a piece before the others of its part, in one of which w is
piece_longer : (image : ProgramImage) (said : Said) (w : ℕ) (line : List ℕ) (number from at n : ℕ)
    (bytes : List ℕ) (own lines : List (List ℕ)) → n ≤ length bytes → 0 < n → from ≤ at → at + length bytes ≤ 2 ^ 32
    → AreBytes bytes → HasBytes image at bytes
    → Told image said (number + 1) at (take n bytes) own (Among at n) (Among at n) (Among at n image.start)
    → Longer image said w line (number + length (place_line at ∷ own)) (at + n) (at + n + length (drop n bytes))
    lines
    (Among (at + n) (length (drop n bytes)))
    → Longer image said w line number from (at + length bytes) (place_line at ∷ own ++ lines)
    (Among at (length bytes))
piece_longer image said w line number from at n bytes own lines within some up low small has t l =
    let left = length-drop n bytes in
    let end : at + n + length (drop n bytes) ≡ at + length bytes = omega (arith, left, within) in
    let p : ToldPart image said number at (at + n) (take n bytes) (place_line at ∷ own) (Among at n)
    (Among at n image.start) =
    piece_part image said number at n bytes own within some small low has t in
    subst (λ (to : ℕ). Longer image said w line number from to (place_line at ∷ own ++ lines)
    (Among at (length bytes)))
    end
    (longer_behind image said w line number (number + length (place_line at ∷ own)) from (at + n)
    (at + n + length (drop n bytes)) (place_line at ∷ own) lines (Among at n) (Among (at + n) (length (drop n bytes)))
    (Among at (length bytes)) refl (omega (arith, up))
    (λ a h. let x = h.0 in let y = h.1 in (x, omega (arith, y, within)))
    (λ a h. let x = h.0 in let y = h.1 in (omega (arith, x), omega (arith, y, end)))
    (λ a h. elim (cases_lt a (at + n)) [
      | inl below ↦ inl (h.0, below)
      | inr high ↦ let y = h.1 in inr (high, omega (arith, y, end))
    ])
    (λ a h. h.1) (λ a h. h.0)
    (runs_from image said number from at (at + n) (place_line at ∷ own) _ _ _ up p.told) l)

-- the pieces of bytes among which w is
longer_pieces : (image : ProgramImage) (said : Said) (w : ℕ) (line : List ℕ) (number from at : ℕ) (bytes : List ℕ)
    (lines : List (List ℕ)) → IsCode image said w → Among at (length bytes) w → from ≤ at
    → at + length bytes ≤ 2 ^ 32 → length bytes < 2 ^ 32 → AreBytes bytes → HasBytes image at bytes
    → (0 < length bytes → InCode image said at → at % 4 ≡ 0) → ¬ InCode image said (at + length bytes)
    → ArePieceLines (put_behind w line) image said at bytes lines
    → Longer image said w line number from (at + length bytes) lines (Among at (length bytes))
longer_pieces image said w line number from at _ _ is_code among up low few small has whole free no_piece =
    absurd (let x = among.0 in let y = among.1 in omega (arith, x, y))
longer_pieces image said w line number from at bytes _ is_code among up low few small has whole free
    (code {own = own} {lines = lines} n is are rest) =
    let some = is.some in
    let within = is.within in
    let left = length-drop (4 * n) bytes in
    let aligned : w % 4 ≡ 0 = code_whole image said w is_code in
    let begins : at % 4 ≡ 0 =
    whole (omega (arith, some, within))
    (subst (InCode image said) (let e : at + 0 ≡ at = omega arith in e) (is.even 0 some)) in
    let x = among.0 in
    let y = among.1 in
    let end : at + 4 * n + length (drop (4 * n) bytes) ≡ at + length bytes = omega (arith, left, within) in
    elim (cases_lt w (at + 4 * n)) [
      | inl below ↦
          longer_here image said w line number from at n bytes own lines aligned begins up among.0 below low few
          small
          has free is are
          (quiet_pieces image said w line (at + 4 * n) (drop (4 * n) bytes) lines (inl below) rest)
      | inr high ↦
          piece_longer image said w line number from at (4 * n) bytes own lines within some up low small has
          (code_piece image said (number + 1) at n bytes own begins low has is
          (quiet_code image said w line at n own (inr high) are))
          (longer_pieces image said w line (number + length (place_line at ∷ own)) (at + 4 * n) (at + 4 * n)
          (drop (4 * n) bytes) lines is_code (high, omega (arith, y, end)) (omega arith)
          (omega (arith, end, low)) (omega (arith, left, few)) (bytes_dropped (4 * n) bytes small)
          (has_behind image at (4 * n) bytes within has) (λ h d. omega (arith, begins))
          (subst (λ (a : ℕ). ¬ InCode image said a) (sym end) free) rest)
    ]
longer_pieces image said w line number from at bytes _ is_code among up low few small has whole free
    (loose {own = own} {lines = lines} n is are rest) =
    let some = is.some in
    let within = is.within in
    let left = length-drop n bytes in
    let aligned : w % 4 ≡ 0 = code_whole image said w is_code in
    let x = among.0 in
    let y = among.1 in
    let end : at + n + length (drop n bytes) ≡ at + length bytes = omega (arith, left, within) in
    elim (cases_lt w (at + n)) [
      | inl below ↦
          absurd (is.even (w - at) (omega (arith, x, below))
          (subst (IsCode image said)
          (let e : w ≡ word_address (at + (w - at)) = omega (arith, x, aligned) in e) is_code))
      | inr high ↦
          piece_longer image said w line number from at n bytes own lines within some up low small has
          (loose_piece image said (number + 1) at n bytes own low few small is are)
          (longer_pieces image said w line (number + length (place_line at ∷ own)) (at + n) (at + n)
          (drop n bytes) lines is_code (high, omega (arith, y, end)) (omega arith)
          (omega (arith, end, low)) (omega (arith, left, few)) (bytes_dropped n bytes small)
          (has_behind image at n bytes within has) (λ h d. loose_whole image said at n is.some is.even d)
          (subst (λ (a : ℕ). ¬ InCode image said a) (sym end) free) rest)
    ]

-- parts among which w is
pub record LongerParts (image : ProgramImage) (said : Said) (w : ℕ) (line : List ℕ) (number from : ℕ)
    (runs : List Placed) (lines : List (List ℕ)) : Type 0 where
  pub to : ℕ
  pub longer : Longer image said w line number from to lines (InParts runs)

end_free : (image : ProgramImage) (said : Said) (run : Placed) → IsPart (byte_at image) run.at run.bytes
    → ¬ InCode image said (run.at + length run.bytes)
end_free image said run is = no_code_there image said (run.at + length run.bytes) is.above

pub longer_parts : (image : ProgramImage) (said : Said) (w : ℕ) (line : List ℕ) (number low from : ℕ)
    (runs : List Placed) (lines : List (List ℕ)) → IsCode image said w → InParts runs w → low ≤ from
    → AreApart from runs → ArePieces runs → count_among runs ≤ most_bytes → EachPart image runs
    → AreSourceLines (put_behind w line) image said runs lines
    → LongerParts image said w line number low runs lines
longer_parts image said w line number low from _ _ is_code among under apart pieces few each no_part = absurd among
longer_parts image said w line number low from _ _ is_code among under apart pieces few each
    (part {run = run} {runs = runs} {own = own} {lines = lines} are rest) =
    let sum = sum_by-cons (λ (r : Placed). length r.bytes) run runs in
    let end : ℕ = run.at + length run.bytes in
    let later : ℕ = number + length own in
    let begins = apart.0 in
    let few_own : length run.bytes < 2 ^ 32 = omega (arith, sum, few) in
    let few_others : count_among runs ≤ most_bytes = omega (arith, sum, few) in
    elim among [
      | inl h ↦
          let others : ToldParts image said later (end + 1) runs lines =
          told_parts image said later (end + 1) runs lines apart.2 pieces.3 few_others each.1
          (quiet_parts image said w line (end + 1) runs lines apart.2 (let y = h.1 in omega (arith, y)) rest) in
          let l : Longer image said w line number low end own (Among run.at (length run.bytes)) =
          longer_pieces image said w line number low run.at run.bytes own is_code h (omega (arith, under, begins))
          pieces.2 few_own pieces.0 each.0.there (instruction_first image said run each.0)
          (end_free image said run each.0) are in
          record {
            to = others.to;
            longer = longer_before image said w line number later low end others.to own lines
                (Among run.at (length run.bytes)) (InParts runs) (InParts (run ∷ runs)) refl
                (λ a k. inl k) (λ a k. inr k) (λ a k. k) (λ a k. k.1)
                (λ a k. let x = in_above (end + 1) a runs apart.2 k in omega (arith, x)) l
                (inside run (l.s) (l.e) (l.kind) (let x = l.holds in let y = l.b_ends in omega (arith, x, y)))
                (runs_from image said later end (end + 1) others.to lines _ _ _ (omega arith) others.told);
          }
      | inr h ↦
          let others : LongerParts image said w line later end runs lines =
          longer_parts image said w line later end (end + 1) runs lines is_code h (omega arith) apart.2 pieces.3
          few_others each.1 rest in
          let y = in_above (end + 1) w runs apart.2 h in
          let p : ToldPart image said number run.at end run.bytes own (Among run.at (length run.bytes))
          (Among run.at (length run.bytes) image.start) =
          told_pieces image said number run.at run.bytes own pieces.2 few_own pieces.0 each.0.there
          (instruction_first image said run each.0)
          (quiet_pieces image said w line run.at run.bytes own (inr (omega (arith, y))) are) in
          record {
            to = others.to;
            longer = longer_behind image said w line number later low end others.to own lines
                (Among run.at (length run.bytes)) (InParts runs) (InParts (run ∷ runs)) refl
                (omega (arith, under, begins)) (λ a k. inl k) (λ a k. inr k) (λ a k. k) (λ a k. k.1)
                (λ a k. let x = in_above (end + 1) a runs apart.2 k in omega (arith, x))
                (runs_from image said number low run.at end own _ _ _ (omega (arith, under, begins)) p.told)
                others.longer;
          }
    ]
  where
    inside : (run : Placed) (s e : ℕ) → ((b : ℕ) → s ≤ b → b < e → Among run.at (length run.bytes) b) → s < e
        → e ≤ run.at + length run.bytes
    inside run s e kind some =
        let h = (kind (e - 1) (omega (arith, some)) (omega (arith, some))).1 in omega (arith, h, some)
