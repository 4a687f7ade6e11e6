-- What an event adds to a trace.
use Rattle.std.specs.Prelude.{ℕ, Bool, true, false, List, [], ◌∷◌, ◌++◌, Option, Some, None, ◌≡◌, ◌≢◌, ◌≤◌, ◌+◌, ◌==◌, ◌||◌, drop, length, take, unwrap_or}
use Rattle.std.proofs.Common.{arith, add-one, refl, sym, ap, ap₂, subst, ◌∙◌}
use Rattle.std.specs.Int.{from_be_bytes, w32}
use Rattle.std.proofs.lemmas.Nat.{from_be_bytes-to_be_bytes_4}
use Rattle.std.proofs.lemmas.List.{append-nil, drop-append-le, drop_all, length-drop, take-append-drop, take-append-le}
use Rattle.m88_base.specs.Pages.{page_number}
use Rattle.m88_board.specs.Board.{BoardView}
use Rattle.m88_board.specs.Moves.{IsAt}
use Rattle.m88_board.specs.Told.{IsTold, IsWordOf}
use Rattle.m88_board.specs.declared.told.Told.{Told}
use Rattle.m88_mem.specs.DataBus.{absent_of, bus_of}
use Rattle.m88_event.proofs.Laws.{Fits, answered_bus, fits, more_transactions, split_drop}
use Rattle.m88_event.specs.Bound.{one_if}
use Rattle.m88_event.specs.Choice.{Choice, answer_choice, end_by, faults, finishes, issue_choice, issues, replies, said, serves, turn_choice}
use Rattle.m88_event.specs.Past.{HasPast}
use Rattle.m88_event.specs.Timeline.{DoneWereMade, Moment, Run, absent_at, after_choice, after_letter, choice_at, is_idle, record_at, said_at, situation_at}
use Rattle.m88_event.specs.declared.happened.End.{End}
use Rattle.m88_event.specs.declared.happened.Happened.TheVariants as happened
use Rattle.m88_event.specs.declared.letter.Letter.{Letter}
use Rattle.m88_event.specs.declared.letter.Letter.TheVariants.{Issue, Answer, Evict}
use Rattle.m88_event.specs.declared.record.Record.{Record}
use Rattle.m88_isa.proofs.Laws.{TurnFits, bus_of_append, by_test, listed_recorded, state_bus}
use Rattle.m88_event.specs.EndText.{run_end_line}
use Rattle.m88_isa.specs.Bus.{bus_after_all, in_words, listed}
use Rattle.m88_isa.specs.Effect.{Change, recorded_change}
use Rattle.m88_isa.specs.Held.{Hold, held, instruction_at}
use Rattle.m88_isa.specs.History.{bus_at, pending_at, transaction_count, transactions, turn_accesses}
use Rattle.m88_isa.specs.Machine.{IsProgram, Program, Stop, Turn, changes, four_bytes, opening, outputs, state, stops, turn_at}
use Rattle.m88_isa.specs.declared.planned.Access.{Access}
use Rattle.m88_isa.specs.declared.planned.Effect.{Effect}
use Rattle.m88_isa.specs.declared.planned.Plan.TheVariants.{Go}
use Rattle.m88_trace.proofs.Following.{doing_fits, same_line}
use Rattle.m88_trace.proofs.History.{line_there, not_ended_at}
use Rattle.m88_trace.proofs.Nexts.{choice_shown, not_over_bubble, not_over_bubble_served, pages_at, words_at}
use Rattle.m88_trace.proofs.Verdicts.{text_more}
use Rattle.m88_trace.specs.Inside.Doings.{doing_line, doing_of}
use Rattle.m88_trace.specs.Inside.Running.{IsNext, IsTraced}
use Rattle.m88_trace.specs.Inside.Sheets.{AreData, AreDue, HasAdded, HasFilled, HasFilledAll, three_of, sheet_accesses, sheet_text}
use Rattle.m88_trace.specs.Texts.{text_of_first}
use Rattle.m88_trace.specs.Trace.{trace_line_at, trace_line, program_word_at}
use Rattle.m88_trace.specs.declared.doing.Doing.TheVariants.{Goes, Outputs}
use Rattle.m88_trace.specs.declared.sheet.Data.{Data}
use Rattle.m88_trace.specs.declared.sheet.Sheet.{Sheet}
use Rattle.m88_trace.specs.declared.upcoming.Upcoming.{Upcoming}
use Rattle.m88_event.specs.declared.happened.Happened.{Happened}

-- what the trace at a moment depends on
abbrev pub told_of : Moment → ℕ × ℕ × Bool
told_of m = (m.retired, m.done, m.ended)

pub traced_same : (p : Program) (m n : Moment) (s : Sheet) → told_of m ≡ told_of n → IsTraced p n s → IsTraced p m s
traced_same p m n s same traced = record {
  text =
      ap (λ (t : ℕ × ℕ × Bool). sheet_text s (bus_at p t.0 t.1)) same
      ∙ traced.text
      ∙ ap (λ (t : ℕ × ℕ × Bool). text_of_first (trace_line p) (t.0 + one_if t.2)) (sym same);
  waiting = traced.waiting ∙ ap (λ (t : ℕ × ℕ × Bool). pending_at p t.0 t.1) (sym same);
}

-- which choice an event tells of
abbrev pub Tells : Happened → Choice → Type 0
Tells happened.Issued choice = (change : Change) × (choice ≡ issues change)
Tells (happened.Served byte) choice = choice ≡ serves byte
Tells (happened.Ended end) choice = (stop : Stop) × (choice ≡ finishes stop) × (end ≡ end_by stop)
Tells happened.Answered choice = choice ≡ replies
Tells (happened.Faulted was) choice = choice ≡ faults
Tells _ choice = Unit {0}

told_choice : (choice : Choice) (fault : Record) → Tells (said choice fault) choice
told_choice (issues change) fault = (change, refl)
told_choice (serves byte) fault = refl
told_choice (finishes stop) fault = (stop, refl, refl)
told_choice replies fault = refl
told_choice faults fault = refl
told_choice _ fault = tt

-- an event of `i` that issues, puts out and ends nothing adds nothing
turn_tells : (turn : Turn) (fault : Record) (m : Moment) →
    happened.Issued ≢ said (turn_choice turn) fault →
    ((byte : ℕ) → happened.Served byte ≢ said (turn_choice turn) fault) →
    ((end : End) → happened.Ended end ≢ said (turn_choice turn) fault) →
    ⊥
turn_tells (changes change) fault m issued served ended = issued refl
turn_tells (outputs byte) fault m issued served ended = served byte refl
turn_tells (stops stop) fault m issued served ended = ended (end_by stop) refl

issue_tells : (pending : List Access) (idle bubble : Bool) (why : Option Hold) (turn : Turn) (fault : Record) (m : Moment) →
    happened.Issued ≢ said (issue_choice idle bubble why turn) fault →
    ((byte : ℕ) → happened.Served byte ≢ said (issue_choice idle bubble why turn) fault) →
    ((end : End) → happened.Ended end ≢ said (issue_choice idle bubble why turn) fault) →
    told_of (after_choice pending (issue_choice idle bubble why turn) fault m) ≡ told_of m
issue_tells pending true bubble why turn fault m issued served ended = refl
issue_tells pending false true why turn fault m issued served ended = refl
issue_tells pending false false (Some hold) turn fault m issued served ended = refl
issue_tells pending false false None turn fault m issued served ended = absurd (turn_tells turn fault m issued served ended)

pub issue_quiet : (r : Run) (m : Moment) →
    happened.Issued ≢ said_at r Issue m →
    ((byte : ℕ) → happened.Served byte ≢ said_at r Issue m) →
    ((end : End) → happened.Ended end ≢ said_at r Issue m) →
    told_of (after_letter r Issue m) ≡ told_of m
unfolding said_at after_letter
issue_quiet r m issued served ended =
    let idle = is_idle r m in
    let turn = turn_at r.program (state r.program m.retired) in
    let why = held (instruction_at r.program (state r.program m.retired).pc) turn (pending_at r.program m.retired m.done) in
    let shown = choice_shown r m in
    let fault = record_at r m in
    ap (λ (c : Choice). told_of (after_choice (pending_at r.program m.retired m.done) c fault m)) shown
    ∙ issue_tells (pending_at r.program m.retired m.done) idle m.bubble why turn fault m
    (subst (λ (c : Choice). happened.Issued ≢ said c fault) shown issued)
    (subst (λ (c : Choice). (byte : ℕ) → happened.Served byte ≢ said c fault) shown served)
    (subst (λ (c : Choice). (end : End) → happened.Ended end ≢ said c fault) shown ended)

-- an event of `r` that answers and faults nothing adds nothing
answer_tells : (pending : List Access) (absent : ℕ → Bool) (fault : Record) (m : Moment) →
    happened.Answered ≢ said (answer_choice pending absent) fault →
    ((was : Record) → happened.Faulted was ≢ said (answer_choice pending absent) fault) →
    told_of (after_choice pending (answer_choice pending absent) fault m) ≡ told_of m
answer_tells [] absent fault m answered faulted = refl
answer_tells (x ∷ pending) absent fault m answered faulted = by_test (absent (page_number x.addr))
    (λ gone. absurd (faulted fault (rw gone refl)))
    (λ there. absurd (answered (rw there refl)))

pub answer_quiet : (r : Run) (m : Moment) →
    happened.Answered ≢ said_at r Answer m →
    ((was : Record) → happened.Faulted was ≢ said_at r Answer m) →
    told_of (after_letter r Answer m) ≡ told_of m
unfolding said_at after_letter situation_at
answer_quiet r m answered faulted =
    answer_tells (pending_at r.program m.retired m.done) (absent_at r m) (record_at r m) m answered faulted

-- what a letter whose choice is known tells
pub told_by : (r : Run) (letter : Letter) (m : Moment) (choice : Choice) →
    choice_at r letter m ≡ choice →
    told_of (after_letter r letter m)
    ≡ told_of (after_choice (pending_at r.program m.retired m.done) choice (record_at r m) m)
unfolding after_letter
told_by r letter m choice e =
    ap (λ (c : Choice). told_of (after_choice (pending_at r.program m.retired m.done) c (record_at r m) m)) e

-- the words of memory once all that is pending at a moment is done are those of the state
pub words_then : (p : Program) (n done : ℕ) → IsProgram p → bus_after_all (pending_at p n done) (bus_at p n done)
    ≡ in_words (state p n).memory
words_then p n done is =
    sym (bus_of_append (take done (transactions p n)) (pending_at p n done) (in_words (opening p).memory))
    ∙ ap (λ xs. bus_after_all xs (in_words (opening p).memory)) (take-append-drop done (transactions p n))
    ∙ sym (state_bus p n is)

-- what one more step leaves of the transactions that are done
same_words : (p : Program) (n done : ℕ) (turn : Turn) → turn_at p (state p n) ≡ turn → done ≤ transaction_count p n →
    bus_at p (n + 1) done ≡ bus_at p n done
same_words p n done turn e h =
    ap (λ xs. bus_after_all xs (in_words (opening p).memory))
    (ap (take done) (more_transactions p n turn e) ∙ take-append-le done (transactions p n) (turn_accesses turn) h)

more_waits : (p : Program) (n done : ℕ) (turn : Turn) → turn_at p (state p n) ≡ turn → done ≤ transaction_count p n →
    pending_at p (n + 1) done ≡ pending_at p n done ++ turn_accesses turn
more_waits p n done turn e h =
    ap (drop done) (more_transactions p n turn e) ∙ drop-append-le done (transactions p n) (turn_accesses turn) h

-- the text with one line more, and how many transactions are pending at most
module _ (r : Run) (m : Moment) (past : HasPast r m) where
  one_line : m.ended ≡ false →
      text_of_first (trace_line r.program) (m.retired + 1)
      ≡ text_of_first (trace_line r.program) (m.retired + one_if m.ended)
      ++ trace_line_at r.program m.retired (state r.program m.retired)
  one_line lives =
      text_more (trace_line r.program) m.retired (trace_line_at r.program m.retired (state r.program m.retired))
      (line_there r.program m.retired (not_ended_at r.program m.retired past.retired))
      ∙ ap (λ k. text_of_first (trace_line r.program) k ++ trace_line_at r.program m.retired (state r.program m.retired))
      (let none : m.retired ≡ m.retired + one_if false = omega arith in
      none ∙ ap (λ (b : Bool). m.retired + one_if b) (sym lives))

  pub few_wait : (s : Sheet) → IsTraced r.program m s → length (sheet_accesses s) ≤ 3
  few_wait s traced =
      let few = past.pending in
      let left = length-drop m.done (transactions r.program m.retired) in
      let same = ap length traced.waiting in
      omega (arith, few, left, same)

-- the line of a turn of which the number, the address and the word are known
line_of_turn : (p : Program) (m : Moment) (number at word : ℕ) (turn : Turn) → IsProgram p →
    turn_at p (state p m.retired) ≡ turn →
    number ≡ m.retired →
    at ≡ (state p m.retired).pc →
    word ≡ program_word_at p (state p m.retired).pc →
    doing_line number at word (doing_of turn)
    (bus_after_all (pending_at p m.retired m.done) (bus_at p m.retired m.done))
    ≡ trace_line_at p m.retired (state p m.retired)
line_of_turn p m number at word turn is e numbers here words =
    ap₂ (λ (k : ℕ) (a : ℕ). doing_line k a word (doing_of turn)
    (bus_after_all (pending_at p m.retired m.done) (bus_at p m.retired m.done)))
    numbers here
    ∙ ap₂ (λ (w : ℕ) (bus : ℕ → ℕ). doing_line m.retired (state p m.retired).pc w (doing_of turn) bus) words
    (words_then p m.retired m.done is)
    ∙ ap (λ (t : Turn). doing_line m.retired (state p m.retired).pc (program_word_at p (state p m.retired).pc) (doing_of t)
    (in_words (state p m.retired).memory)) (sym e)
    ∙ same_line m.retired (state p m.retired).pc (program_word_at p (state p m.retired).pc) (turn_at p (state p m.retired))
    (in_words (state p m.retired).memory)
    (doing_fits p m.retired is)

-- what is written of an event
module _ (r : Run) (m n : Moment) (old new : Sheet) (traced : IsTraced r.program m old) where
  -- an instruction is retired, and its line is written
  traced_step : (number at word : ℕ) (turn : Turn) → IsProgram r.program → HasPast r m → DoneWereMade r.program m →
      turn_at r.program (state r.program m.retired) ≡ turn → m.ended ≡ false →
      told_of n ≡ (m.retired + 1, m.done, m.ended) →
      number ≡ m.retired → at ≡ (state r.program m.retired).pc → word ≡ program_word_at r.program (state r.program m.retired).pc →
      HasAdded (doing_line number at word (doing_of turn)) (turn_accesses turn) old new →
      IsTraced r.program n new
  traced_step number at word turn is past made e lives told numbers here words added =
      let bus = bus_at r.program m.retired m.done in
      traced_same r.program n (record m { retired = m.retired + 1 }) new told (record {
        text =
            ap (sheet_text new) (same_words r.program m.retired m.done turn e made)
            ∙ added.text bus
            ∙ ap₂ (λ (xs : List ℕ) (as' : List Access). xs ++ doing_line number at word (doing_of turn)
            (bus_after_all as' bus)) traced.text traced.waiting
            ∙ ap (λ (xs : List ℕ). text_of_first (trace_line r.program) (m.retired + one_if m.ended) ++ xs)
            (line_of_turn r.program m number at word turn is e numbers here words)
            ∙ sym (one_line r m past lives)
            ∙ (let none : m.retired + 1 ≡ m.retired + 1 + one_if false = omega arith in
            ap (text_of_first (trace_line r.program)) (none ∙ ap (λ (b : Bool). m.retired + 1 + one_if b) (sym lives)));
        waiting =
            added.waiting
            ∙ ap (λ (xs : List Access). xs ++ turn_accesses turn) traced.waiting
            ∙ sym (more_waits r.program m.retired m.done turn e made);
      })

  -- the program ends, and the line of its end is written
  traced_end : (stop : Stop) (end : End) → IsProgram r.program → HasPast r m →
      turn_at r.program (state r.program m.retired) ≡ stops stop → m.ended ≡ false →
      told_of n ≡ (m.retired, m.done, true) → end ≡ end_by stop → HasAdded (λ _. run_end_line end) [] old new →
      IsTraced r.program n new
  traced_end stop end is past e lives told ends added =
      let bus = bus_at r.program m.retired m.done in
      let s = state r.program m.retired in
      traced_same r.program n (record m { ended = true }) new told (record {
        text =
            added.text bus
            ∙ ap₂ (λ (e : End) (xs : List ℕ). xs ++ run_end_line e) ends traced.text
            ∙ ap (λ (xs : List ℕ). text_of_first (trace_line r.program) (m.retired + one_if m.ended) ++ xs)
            (line_of_turn r.program m m.retired s.pc (program_word_at r.program s.pc) (stops stop) is e refl refl refl)
            ∙ sym (one_line r m past lives);
        waiting = added.waiting ∙ append-nil (sheet_accesses old) ∙ traced.waiting;
      })

  -- one transaction is done, and its datum is written
  traced_answer : (datum : ℕ) (values : List ℕ) → told_of n ≡ (m.retired, m.done + 1, m.ended) →
      AreData (datum ∷ values) (pending_at r.program m.retired m.done) (bus_at r.program m.retired m.done) →
      HasFilled datum old new →
      IsTraced r.program n new
  traced_answer datum values told are filled =
      let bus = bus_at r.program m.retired m.done in
      traced_same r.program n (record m { done = m.done + 1 }) new told (record {
        text =
            ap (sheet_text new)
            (sym (answered_bus r.program m.retired m.done)
            ∙ ap (λ (xs : List Access). bus_after_all (take 1 xs) bus) (sym traced.waiting))
            ∙ filled.text bus values (subst (λ (xs : List Access). AreData (datum ∷ values) xs bus) (sym traced.waiting) are)
            ∙ traced.text;
        waiting =
            filled.waiting
            ∙ ap (drop 1) traced.waiting
            ∙ split_drop m.done (transactions r.program m.retired)
            ∙ ap (λ k. drop k (transactions r.program m.retired)) (sym (add-one m.done));
      })

  -- all that is pending is done, and all data are written
  traced_fault : (due : Data) → told_of n ≡ (m.retired, transaction_count r.program m.retired, m.ended) →
      length (sheet_accesses old) ≤ 3 →
      AreData (three_of due) (pending_at r.program m.retired m.done) (bus_at r.program m.retired m.done) →
      HasFilledAll due old new →
      IsTraced r.program n new
  traced_fault due told few are filled =
      let bus = bus_at r.program m.retired m.done in
      traced_same r.program n (record m { done = transaction_count r.program m.retired }) new told (record {
        text =
            filled.text bus _ (subst (λ (xs : List Access). AreData (three_of due) xs bus) (sym traced.waiting) are) few
            ∙ traced.text;
        waiting =
            filled.waiting few
            ∙ sym (drop_all (transaction_count r.program m.retired) (transactions r.program m.retired) (omega arith));
      })

-- the word that an event tells is the one of the history
pub word_told : (p : Program) (a word : ℕ) → IsWordOf (four_bytes p.byte a) word → word ≡ program_word_at p a
unfolding program_word_at
word_told p a word told =
    sym (from_be_bytes-to_be_bytes_4 word told.0)
    ∙ ap (λ (o : Option (List ℕ)). from_be_bytes w32 (unwrap_or o [])) (sym told.1)

-- the program ended, which it does only where it hasn't yet
ended_by : (idle bubble : Bool) (why : Option Hold) (turn : Turn) (stop : Stop) →
    issue_choice idle bubble why turn ≡ finishes stop → idle ≡ false
ended_by true bubble why turn stop e = absurd cc
ended_by false bubble why turn stop e = refl

lives_if : (ended reached : Bool) → (ended || reached) ≡ false → ended ≡ false
lives_if true reached h = h
lives_if false reached h = refl

lives_ended : (r : Run) (m : Moment) (stop : Stop) → choice_at r Issue m ≡ finishes stop → m.ended ≡ false
lives_ended r m stop e =
    let turn = turn_at r.program (state r.program m.retired) in
    lives_if m.ended (m.retired == r.limit)
    (ended_by (is_idle r m) m.bubble (held (instruction_at r.program (state r.program m.retired).pc) turn
    (pending_at r.program m.retired m.done)) turn stop
    (sym (choice_shown r m) ∙ e))

-- the events of a moment, by what they say
module _ (r : Run) (m : Moment) where
  -- what an event says tells its choice
  told_at : (letter : Letter) {h : Happened} → h ≡ said_at r letter m → Tells h (choice_at r letter m)
  unfolding said_at
  told_at letter says =
      subst (λ (h : Happened). Tells h (choice_at r letter m)) (sym says) (told_choice (choice_at r letter m) (record_at r m))

  -- a fault comes only where the choice is that
  pub fault_chosen : (was : Record) → happened.Faulted was ≡ said_at r Answer m →
      answer_choice (pending_at r.program m.retired m.done) (absent_at r m) ≡ faults
  unfolding situation_at
  fault_chosen was says = told_at Answer says

-- what a sheet has behind an event
module _ (r : Run) (m : Moment) (old new : Sheet) (traced : IsTraced r.program m old) where
  -- an instruction was issued
  pub issued_note : (next : Upcoming) (told : Told) → IsProgram r.program → HasPast r m → DoneWereMade r.program m →
      IsNext r.program m next → IsTold r m happened.Issued told → happened.Issued ≡ said_at r Issue m →
      ((effect : Effect) → told.plan ≡ Go effect
      → HasAdded (doing_line next.number next.at told.word (Goes effect)) (listed effect.accesses) old new) →
      IsTraced r.program (after_letter r Issue m) new
  issued_note next told is past made seen tells says adds =
      let found = told_at r m Issue says in
      let change = found.0 in
      let added = adds (recorded_change change) (tells.plan change found.1) in
      let fit : Fits r.program m (issues change) = subst (λ (c : Choice). Fits r.program m c) found.1 (fits r Issue m) in
      let unit : TurnFits (changes change) = subst (λ (t : Turn). TurnFits t) fit.0 (doing_fits r.program m.retired is) in
      traced_step r m (after_letter r Issue m) old new traced next.number next.at told.word (changes change) is past made fit.0
      fit.1 (told_by r Issue m (issues change) found.1) seen.number (seen.place (not_over_bubble r m change found.1))
      (word_told r.program (state r.program m.retired).pc told.word (tells.word tt))
      (record {
        text = added.text;
        waiting = added.waiting ∙ ap (λ (xs : List Access). sheet_accesses old ++ xs) (listed_recorded change.touches unit.short);
        made = added.made;
      })

  -- a byte was put out
  pub served_note : (next : Upcoming) (told : Told) (byte : ℕ) → IsProgram r.program → HasPast r m →
      DoneWereMade r.program m → IsNext r.program m next → IsTold r m (happened.Served byte) told →
      happened.Served byte ≡ said_at r Issue m →
      HasAdded (doing_line next.number next.at told.word (Outputs byte)) [] old new →
      IsTraced r.program (after_letter r Issue m) new
  served_note next told byte is past made seen tells says added =
      let found = told_at r m Issue says in
      let fit : Fits r.program m (serves byte) = subst (λ (c : Choice). Fits r.program m c) found (fits r Issue m) in
      traced_step r m (after_letter r Issue m) old new traced next.number next.at told.word (outputs byte) is past made fit.0
      fit.1 (told_by r Issue m (serves byte) found) seen.number (seen.place (not_over_bubble_served r m byte found))
      (word_told r.program (state r.program m.retired).pc told.word (tells.word tt)) added

  pub ended_note : (end : End) → IsProgram r.program → HasPast r m → happened.Ended end ≡ said_at r Issue m →
      HasAdded (λ _. run_end_line end) [] old new → IsTraced r.program (after_letter r Issue m) new
  ended_note end is past says added =
      let found = told_at r m Issue says in
      let stop = found.0 in
      let choice : choice_at r Issue m ≡ finishes stop = found.1 in
      let fit : Fits r.program m (finishes stop) = subst (λ (c : Choice). Fits r.program m c) choice (fits r Issue m) in
      traced_end r m (after_letter r Issue m) old new traced stop end is past fit.0 (lives_ended r m stop choice)
      (told_by r Issue m (finishes stop) choice) found.2 added

  -- the oldest transaction was answered
  pub answered_note : (datum : ℕ) (values : List ℕ) → happened.Answered ≡ said_at r Answer m →
      AreData (datum ∷ values) (pending_at r.program m.retired m.done) (bus_at r.program m.retired m.done) →
      HasFilled datum old new → IsTraced r.program (after_letter r Answer m) new
  answered_note datum values says are filled =
      traced_answer r m (after_letter r Answer m) old new traced datum values
      (told_by r Answer m replies (told_at r m Answer says)) are filled

  -- a data fault finished all
  pub faulted_note : (was : Record) (due : Data) → HasPast r m → DoneWereMade r.program m →
      happened.Faulted was ≡ said_at r Answer m →
      AreData (three_of due) (pending_at r.program m.retired m.done) (bus_at r.program m.retired m.done) →
      HasFilledAll due old new → IsTraced r.program (after_letter r Answer m) new
  faulted_note was due past made says are filled =
      let left = length-drop m.done (transactions r.program m.retired) in
      let all : m.done + length (pending_at r.program m.retired m.done) ≡ transaction_count r.program m.retired = omega (arith, left, made) in
      traced_fault r m (after_letter r Answer m) old new traced due
      (told_by r Answer m faults (told_at r m Answer says) ∙ ap (λ (done : ℕ). (m.retired, done, m.ended)) all)
      (few_wait r m past old traced) are filled

-- every page was made absent
pub evicted_note : (r : Run) (m : Moment) (s : Sheet) → IsTraced r.program m s → IsTraced r.program (after_letter r Evict m) s
unfolding after_letter
evicted_note r m s = traced_same r.program (after_letter r Evict m) m s refl

-- data by the words that a board has now
pub data_at : (r : Run) (m : Moment) (b : BoardView) (s : Sheet) (due : Data) →
    IsAt r m b → IsTraced r.program m s →
    AreDue due (sheet_accesses s) (absent_of b.memory) (bus_of b.memory) →
    AreDue due (pending_at r.program m.retired m.done) (absent_at r m) (bus_at r.program m.retired m.done)
data_at r m b s due at traced are =
    subst (λ (xs : List Access). AreDue due xs (absent_at r m) (bus_at r.program m.retired m.done)) traced.waiting
    (subst (λ (absent : ℕ → Bool). AreDue due (sheet_accesses s) absent (bus_at r.program m.retired m.done))
    (pages_at r m b at)
    (subst (λ (bus : ℕ → ℕ). AreDue due (sheet_accesses s) (absent_of b.memory) bus) (words_at r m b at) are))
