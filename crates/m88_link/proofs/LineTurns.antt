-- The turns of the loop over the lines of an object text: a line that is taken, one that is refused, and the end.
use Rattle.std.proofs.Common.{◌≡◌, ℕ, ◌+◌, ◌<◌, List, [], ◌∷◌, ◌++◌, length, refl, sym, ap, ◌∙◌, arith}
use Rattle.std.specs.Prelude.{Bool, true, false, ◌==◌, if◌then◌else◌, Option, None, Some, Result, Ok, Err}
use Rattle.std.proofs.lemmas.Bool.Decides.{nat_tests}
use Rattle.std.proofs.lemmas.List.{nil_from_length}
use Rattle.m88_link.specs.declared.object.Object.{Object}
use Rattle.m88_link.specs.declared.object_fault.ObjectFault.{ObjectFault}
use Rattle.m88_link.specs.declared.object_fault.ObjectFault.TheVariants.{Form}
use Rattle.m88_link.specs.Inside.Drafts.{GivesObjects, Progress, TakesOrRefuses, at_rest, ended_step, is_nil, line_step, read_from, read_on, unended}
use Rattle.m88_link.specs.ObjectRead.{ended_lines}
use Rattle.m88_base.specs.Cut.{lacks, split_at_byte}
use Rattle.m88_link.specs.Inside.Rows.{◌>>=◌}
use Rattle.m88_base.proofs.Laws.{cut_found, split_first, uncut}
use Rattle.m88_link.proofs.Lined.{lines_at, lines_none, one_line}

-- the first line and what it comes to
pub first_read : (n : ℕ) (s : Progress) (line : List ℕ) (lines : List (List ℕ)) (o : Option Progress) → ended_step s line ≡ o
    → read_from n s (line ∷ lines) ≡ read_on n o (λ t. read_from (n + 1) t lines)
unfolding read_from
first_read n s line lines o e = ap (λ p. read_on n p (λ t. read_from (n + 1) t lines)) e

pub none_read : (n : ℕ) (s : Progress) → read_from n s [] ≡ at_rest n s
unfolding read_from
none_read n s = refl

-- a line with its LF is judged without it
pub unended_is : (line : List ℕ) → lacks 10 line ≡ true → unended (line ++ 10 ∷ []) ≡ Some line
unended_is line lacking = ap (λ o. o >>= λ p. (if is_nil p.1 then Some p.0 else None)) (split_first 10 line [] lacking)

pub ended_is : (s : Progress) (line : List ℕ) → lacks 10 line ≡ true → ended_step s (line ++ 10 ∷ []) ≡ line_step s line
ended_is s line lacking = ap (λ o. o >>= line_step s) (unended_is line lacking)

module _ (n : ℕ) (s : Progress) (text : List ℕ) (said : Result (List Object) ObjectFault)
    (h : read_from n s (ended_lines text) ≡ said) where
  module _ (p : List ℕ × List ℕ) (e : split_at_byte 10 text ≡ Some p) (o : Option Progress) (step : line_step s p.0 ≡ o) where
    turn : read_on n o (λ t. read_from (n + 1) t (ended_lines p.1)) ≡ said
    turn =
        let k = cut_found 10 text p e in
        let lines = ap ended_lines k.text_is ∙ lines_at p.0 p.1 k.lacking in
        sym (ap (read_from n s) lines
        ∙ first_read n s (p.0 ++ 10 ∷ []) (ended_lines p.1) o (ended_is s p.0 k.lacking ∙ step))
        ∙ h

  pub line_taken : (line behind : List ℕ) (t : Progress) → split_at_byte 10 text ≡ Some (line, behind) → line_step s line ≡ Some t
      → read_from (n + 1) t (ended_lines behind) ≡ said
  line_taken line behind t e step = turn (line, behind) e (Some t) step

  pub line_refused : (line behind : List ℕ) → split_at_byte 10 text ≡ Some (line, behind) → line_step s line ≡ None → said ≡ Err (Form n)
  line_refused line behind e step = sym (turn (line, behind) e None step)

  pub line_unended : 0 < length text → split_at_byte 10 text ≡ None → said ≡ Err (Form n)
  line_unended some e =
      sym h ∙ ap (read_from n s) (one_line text some (uncut 10 text e))
      ∙ first_read n s text [] None (ap (λ o. (o >>= λ p. (if is_nil p.1 then Some p.0 else None)) >>= line_step s) e)

  pub lines_ended : length text ≡ 0 → at_rest n s ≡ said
  lines_ended none = sym (none_read n s) ∙ sym (ap (read_from n s) (ap ended_lines (nil_from_length text none) ∙ lines_none)) ∙ h

-- what a call says that took a line, or refused it
pub has_taken : {S : Type 0} (b : Bool) (new : S) (said : Option S) → TakesOrRefuses (Ok b) new said → b ≡ true → said ≡ Some new
has_taken true new said h e = h
has_taken false new said h e = absurd cc

pub has_refused : {S : Type 0} (b : Bool) (new : S) (said : Option S) → TakesOrRefuses (Ok b) new said → b ≡ false → said ≡ None
has_refused true new said h e = absurd cc
has_refused false new said h e = h

pub left_over : (b : Bool) (n : ℕ) → b ≡ (n == 0) → b ≡ false → 0 < n
left_over b n e f = grind (arith, nat_tests)

pub left_none : (b : Bool) (n : ℕ) → b ≡ (n == 0) → b ≡ true → n ≡ 0
left_none b n e f = grind (arith, nat_tests)

-- what is given at the end of a text, where that is what all of it comes to
pub given_objects : {X : Type 0} (seen : X → List Object) (r : Result X ObjectFault) (end said : Result (List Object) ObjectFault)
    → end ≡ said → GivesObjects seen r end → GivesObjects seen r said
given_objects seen r end said e h = rw (← e) h
