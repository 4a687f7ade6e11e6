-- A run on a board, event by event, with its trace.
use Rattle.std.specs.Prelude.{ℕ, Bool, true, false, List, [], IfOk, Result, Ok, Err, ◌≡◌, ◌+◌, ◌==◌, ◌||◌}
use Rattle.std.proofs.Common.{arith, add-one, refl, sym, ap, ap₂, subst, ◌∙◌}
use Rattle.std.proofs.lemmas.Bool.{eqb-true}
use Rattle.std.proofs.lemmas.List.{drop_all}
use Rattle.m88_board.proofs.Laws.{not_yet}
use Rattle.m88_board.specs.Board.{BoardView}
use Rattle.m88_board.specs.Moves.{IsAt}
use Rattle.m88_event.specs.Bound.{one_if}
use Rattle.m88_event.specs.Letters.{letter_at}
use Rattle.m88_event.specs.Past.{HasPast}
use Rattle.m88_event.specs.Run.{IsRunning, moment_after, moment_along}
use Rattle.m88_event.specs.Timeline.{Moment, Run, after_letter, is_drained, is_idle, is_over, opening_moment}
use Rattle.m88_event.specs.declared.letter.Letter.{Letter}
use Rattle.m88_isa.proofs.Laws.{first_of, second_of}
use Rattle.m88_isa.specs.History.{transaction_count, transactions}
use Rattle.m88_isa.specs.Machine.{Program}
use Rattle.m88_trace.proofs.History.{lines_there, text_past}
use Rattle.m88_trace.specs.Inside.Running.{IsTraced}
use Rattle.m88_trace.specs.Inside.Sheets.{sheet_accesses, sheet_text}
use Rattle.m88_trace.specs.Texts.{HasLines, IsText, text_of_first}
use Rattle.m88_trace.specs.Trace.{trace_at, trace_line, trace_of}
use Rattle.m88_trace.specs.declared.sheet.Sheet.{Sheet}

-- after so many events, before each of which the run wasn't over, a board stands at the moment, and a sheet has its
-- trace
pub record Runs (r : Run) (k : ℕ) (b : BoardView) (s : Sheet) : Type 0 where
  pub at : IsAt r (moment_after r k) b
  pub traced : IsTraced r.program (moment_after r k) s
  pub first : IsRunning r k

-- at first
blank : (p : Program) (s : Sheet) → ((bus : ℕ → ℕ) → sheet_text s bus ≡ []) → sheet_accesses s ≡ [] →
    IsTraced p opening_moment s
unfolding text_of_first transactions
blank p s text waiting = record { text = text _; waiting = waiting }

pub runs_first : (r : Run) (k : ℕ) (b : BoardView) (s : Sheet) → k ≡ 0 → IsAt r opening_moment b →
    ((bus : ℕ → ℕ) → sheet_text s bus ≡ []) → sheet_accesses s ≡ [] → Runs r k b s
unfolding moment_along
runs_first r k b s e at text waiting =
    subst (λ (n : ℕ). Runs r n b s) (sym e) (record {
      at = at;
      traced = blank r.program s text waiting;
      first = λ j h. absurd (omega (arith, h));
    })

-- and after one event more
pub runs_next : (r : Run) {letters : List Letter} {k last : ℕ} {b c : BoardView} {s t : Sheet} → letters ≡ r.schedule →
    last ≡ k + 1 → Runs r k b s → is_over r (moment_after r k) ≡ false →
    IsAt r (after_letter r (letter_at letters k) (moment_after r k)) c →
    IsTraced r.program (after_letter r (letter_at letters k) (moment_after r k)) t →
    Runs r last c t
unfolding moment_along
runs_next r {letters} {k} {c} {t} same counts runs goes at traced =
    subst (λ (n : ℕ). Runs r n c t) (sym (counts ∙ add-one k)) (record {
      at = subst (λ (xs : List Letter). IsAt r (after_letter r (letter_at xs k) (moment_after r k)) c) same at;
      traced =
          subst (λ (xs : List Letter). IsTraced r.program (after_letter r (letter_at xs k) (moment_after r k)) t) same traced;
      first = not_yet (λ j. is_over r (moment_after r j)) k runs.first goes;
    })

-- where it is over, nothing waits
pub over_empty : (r : Run) (m : Moment) (s : Sheet) → IsTraced r.program m s → is_over r m ≡ true → sheet_accesses s ≡ []
over_empty r m s traced over =
    let drained = eqb-true m.done (transaction_count r.program m.retired) (first_of (is_drained r.program m) (is_idle r m) over) in
    traced.waiting ∙ drop_all m.done (transactions r.program m.retired) (omega (arith, drained))

-- and the trace is that of the program and the limit alone
module _ (r : Run) (m : Moment) (past : HasPast r m) where
  alone_by : (ended : Bool) → m.ended ≡ ended → (ended || m.retired == r.limit) ≡ true →
      text_of_first (trace_line r.program) (m.retired + one_if ended) ≡ trace_of r.program r.limit
  alone_by true is idle = let end = past.ended is in text_past r.program m.retired r.limit end.next end.early
  alone_by false is idle =
      let same : m.retired + one_if false ≡ r.limit = (let e = eqb-true m.retired r.limit idle in omega (arith, e)) in
      ap (text_of_first (trace_line r.program)) same

  pub over_alone : is_over r m ≡ true → trace_at r.program m ≡ trace_of r.program r.limit
  over_alone over = alone_by m.ended refl (second_of (is_drained r.program m) (is_idle r m) over)

-- it is so many of the lines
lines_by : (p : Program) (n : ℕ) (ended : Bool) → HasLines (trace_line p) (n + 1) →
    HasLines (trace_line p) (n + one_if ended)
lines_by p n true there = there
lines_by p n false there = λ k less. there k (omega (arith, less))

pub over_text : (r : Run) (m : Moment) (text : List ℕ) → HasPast r m → text ≡ trace_at r.program m →
    IsText (trace_line r.program) text (m.retired + one_if m.ended)
over_text r m text past is =
    record { there = lines_by r.program m.retired m.ended (lines_there r.program m.retired past.retired); whole = is }

-- what is said of an answer that is there
pub ok_said : {T E : Type 0} {P : T → Type 0} (r : Result T E) (Q : T → Type 0) → IfOk r P → ((x : T) → P x → Q x) →
    IfOk r Q
ok_said (Ok x) Q p h = h x p
ok_said (Err e) Q p h = tt

-- whether it is over is seen of a board that is shown
pub over_seen : (r : Run) (m : Moment) (shown b : BoardView) (over : Bool) → shown ≡ b → IsAt r m b →
    (IsAt r m shown → over ≡ is_over r m) → is_over r m ≡ over
over_seen r m shown b over same at says = sym (says (subst (λ (x : BoardView). IsAt r m x) (sym same) at))
