-- The first line of a text says that an entry was kept exactly where it was.
use Rattle.std.specs.Prelude.{ℕ, ◌≡◌, ◌↔◌, ◌++◌, ◌==◌, Bool, true, false, List, codes, slice_index}
use Rattle.std.proofs.Common.{ap, refl}
use Rattle.m88_base.specs.Lines.{line_end}
use Rattle.m88_entries.specs.Left.{entry_text, fault_of, fault_text, head_lines, left_lines, remark_text}
use Rattle.m88_handler.proofs.Laws.{each_kept_is_alike}
use Rattle.m88_handler.specs.Entering.{Faulted, entering}
use Rattle.m88_handler.specs.Judging.{came_of, judged}
use Rattle.m88_handler.specs.Machine.{Handling}
use Rattle.m88_handler.specs.declared.remark.Remark.{Remark}
use Rattle.m88_handler.specs.declared.remark.Remark.TheVariants as remark
use Rattle.m88_report.specs.Report.{count_line, out_text}
use Rattle.m88_supering.specs.Laws.{EachIsKeptWhereAlike, HandlerLaws, SaysKept}
use Rattle.m88_supering.proofs.Verdicts.{one_answer, one_verdict}

-- a text whose first line tells an entry
says : (r : Remark) (f : Faulted) (found left : Handling) → r ≡ remark.Kept → SaysKept (entry_text r f found left)
unfolding head_lines remark_text
says r f found left kept = rw kept (record {
  rest = (count_line (codes "steps") left.steps ++ codes "console " ++ out_text left.console ++ line_end) ++ left_lines f found left;
  is_text = refl;
})

-- the seventh byte of such a text is a k
is_k : List ℕ → Bool
is_k text = slice_index text 6 == 107

told : (r : Remark) (f : Faulted) (found left : Handling) → SaysKept (entry_text r f found left) → r ≡ remark.Kept
unfolding head_lines remark_text is_k
told remark.Kept f found left h = refl
told (remark.Differs d) f found left h = absurd (let e : false ≡ true = ap is_k h.is_text in cc)
told remark.Stops f found left h = absurd (let e : false ≡ true = ap is_k h.is_text in cc)
told (remark.Fails cause at) f found left h = absurd (let e : false ≡ true = ap is_k h.is_text in cc)

says_where_kept : (r : Remark) (f : Faulted) (found left : Handling) → SaysKept (entry_text r f found left) ↔ (r ≡ remark.Kept)
says_where_kept r f found left = (told r f found left, says r f found left)

pub each_is_kept_where_alike : EachIsKeptWhereAlike
unfolding fault_text
each_is_kept_where_alike p steps t =
    let f = fault_of t in
    let came = came_of p steps f in
    let said = says_where_kept (judged came f) f (entering p f) came.1 in
    let kept = each_kept_is_alike came f in
    (λ h. kept.0 (said.0 h), λ l. said.1 (kept.1 l))

pub handler_laws : HandlerLaws
handler_laws = record { one_verdict = one_verdict; one_text = one_answer; kept = each_is_kept_where_alike }
