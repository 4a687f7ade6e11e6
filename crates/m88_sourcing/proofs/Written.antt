-- The start, the far targets and the pieces are the source.
use Rattle.std.proofs.Common.{◌≡◌, ℕ, ◌+◌, ◌<◌, List, [], ◌∷◌, ◌++◌, append-nil, get_or, length, map, sym, take, ap, subst, ◌∙◌, append_assoc, IsTrue}
use Rattle.std.specs.Prelude.{◌↔◌}
use Rattle.std.proofs.lemmas.List.{map-append, take_more}
use Rattle.std.proofs.lemmas.List.Concat.{flat_map-append}
use Rattle.std.specs.FinSet.{contains}
use Rattle.m88_base.specs.Appended.{AreAppended}
use Rattle.m88_base.specs.Image.{ProgramImage, parts}
use Rattle.m88_base.specs.Lines.{line_end, text_of_lines}
use Rattle.m88_disasm.specs.Listing.{start_line}
use Rattle.m88_sourcing.specs.Inside.Members.{OutlinesImage}
use Rattle.m88_sourcing.specs.Said.{Said}
use Rattle.m88_sourcing.specs.Source.{AreSourceLines, IsSource, LineWhere, far_line}
use Rattle.m88_sourcing.specs.declared.outline.Outline.{Outline}
use Rattle.m88_sourcing.proofs.Cutting.{line_where}

not_same : (P Q : Type 0) → P ↔ Q → (¬ P) ↔ (¬ Q)
not_same P Q same = (λ none q. none (same.1 q), λ none p. none (same.0 p))

pub source_of : (image : ProgramImage) (said : Said) (o : Outline) (t1 t2 t3 : List ℕ) → OutlinesImage image said o
    → AreAppended (LineWhere (¬ IsTrue (contains o.code image.start)) (start_line image.start)) [] t1
    → t2 ≡ t1 ++ text_of_lines (map far_line o.far.items)
    → AreAppended (AreSourceLines (λ _. []) image said (parts image)) t2 t3 → IsSource image said t3
source_of image said o t1 t2 t3 is s far l = record {
  start = s.lines;
  far = o.far.items;
  lines = l.lines;
  starts = line_where _ _ _ _ (not_same _ _ (is.code image.start)) s.are;
  are_far = is.far;
  are_lines = l.are;
  text_is =
      l.text_is
      ∙ ap (λ (xs : List ℕ). xs ++ text_of_lines l.lines) (far ∙ ap (λ (xs : List ℕ). xs ++ text_of_lines (map far_line o.far.items)) s.text_is)
      ∙ append_assoc (text_of_lines s.lines) (text_of_lines (map far_line o.far.items)) (text_of_lines l.lines)
      ∙ ap (λ (xs : List ℕ). text_of_lines s.lines ++ xs)
      (sym (flat_map-append (λ line. line ++ line_end) (map far_line o.far.items) l.lines))
      ∙ sym (flat_map-append (λ line. line ++ line_end) s.lines (map far_line o.far.items ++ l.lines));
}

-- from an empty text on
pub whole_source : (image : ProgramImage) (said : Said) (o : Outline) (start : ℕ) (t0 t1 t2 t3 : List ℕ)
    → start ≡ image.start → t0 ≡ [] → OutlinesImage image said o
    → AreAppended (LineWhere (¬ IsTrue (contains o.code start)) (start_line start)) t0 t1
    → t2 ≡ t1 ++ text_of_lines (map far_line o.far.items)
    → AreAppended (AreSourceLines (λ _. []) image said (parts image)) t2 t3 → IsSource image said t3
whole_source image said o start t0 t1 t2 t3 start_is none is s far l =
    source_of image said o t1 t2 t3 is
    (subst
    (λ (t : List ℕ). AreAppended (LineWhere (¬ IsTrue (contains o.code image.start)) (start_line image.start)) t t1)
    none
    (subst (λ (a : ℕ). AreAppended (LineWhere (¬ IsTrue (contains o.code a)) (start_line a)) t0 t1) start_is s))
    far l

-- one far target more
pub far_more : (t0 t1 t2 targets : List ℕ) (k : ℕ) → k < length targets
    → t1 ≡ t0 ++ text_of_lines (map far_line (take k targets)) → t2 ≡ t1 ++ (far_line (get_or targets k 0) ++ line_end)
    → t2 ≡ t0 ++ text_of_lines (map far_line (take (k + 1) targets))
far_more t0 t1 t2 targets k low before now =
    let line : List ℕ = far_line (get_or targets k 0) in
    let all : map far_line (take (k + 1) targets) ≡ map far_line (take k targets) ++ line ∷ [] =
    ap (map far_line) (take_more targets k 0 low) ∙ map-append far_line (take k targets) (get_or targets k 0 ∷ []) in
    now
    ∙ ap (λ (xs : List ℕ). xs ++ (line ++ line_end)) before
    ∙ append_assoc t0 (text_of_lines (map far_line (take k targets))) (line ++ line_end)
    ∙ ap (λ (xs : List ℕ). t0 ++ xs)
    (ap (λ (xs : List ℕ). text_of_lines (map far_line (take k targets)) ++ xs) (sym (append-nil (line ++ line_end)))
    ∙ sym (flat_map-append (λ (x : List ℕ). x ++ line_end) (map far_line (take k targets)) (line ∷ []))
    ∙ ap text_of_lines (sym all))
