-- At each moment of a run the pending transactions lead from memory as it is then to that of the history, and give each
-- register that they load its value there, whatever it held.
use Rattle.std.specs.Prelude.{ℕ, zero, suc, Bool, true, false, List, [], ◌∷◌, ◌++◌, Option, Some, None, IfSome, ◌≡◌, ◌<◌, ◌≤◌, ◌+◌, ◌==◌, ◌&&◌, ◌||◌, drop, length, replicate, slice_index, slice_set, take, if◌then◌else◌}
use Rattle.std.specs.Int.{bit_at}
use Rattle.std.proofs.Common.{add-one, arith, refl, sym, ap, ◌∙◌, subst}
use Rattle.std.proofs.lemmas.Bool.{eqb-true}
use Rattle.std.proofs.lemmas.List.{append-nil, drop-append-le, drop_all, get_or-set_same, length-drop, length-set, take-append-le, take_all}
use Rattle.std.proofs.lemmas.List.Elements.{All-drop, All-weaker}
use Rattle.m88_base.proofs.Laws.{bit_of_set}
use Rattle.m88_base.specs.Pages.{page_number}
use Rattle.m88_base.specs.Reg.{number_of, with_register}
use Rattle.m88_base.specs.RegisterSet.{register_bits, registers_in}
use Rattle.m88_event.proofs.Laws.{Fits, answered_bus, fits, more_transactions, past_after, split_drop}
use Rattle.m88_event.specs.Choice.{Choice, answer_choice, choice_of, evicts, faults, finishes, holds, idles, issue_choice, issues, next_choice, passes, replies, serves, turn_choice}
use Rattle.m88_event.specs.Letters.{letter_at}
use Rattle.m88_event.specs.Run.{moment_after, moment_along}
use Rattle.m88_event.specs.Situation.{record_of}
use Rattle.m88_event.specs.Timeline.{Moment, Run, absent_at, after_choice, after_letter, is_idle, record_at, situation_at}
use Rattle.m88_event.specs.declared.letter.Letter.{Letter}
use Rattle.m88_event.specs.declared.letter.Letter.TheVariants.{Issue, Answer, Evict}
use Rattle.m88_event.specs.declared.record.Record.{Record}
use Rattle.m88_isa.proofs.Laws.{beyond_waits_not, by_test, cells_bus, late_change, same_after_accesses, state_agrees, state_bus, written_waits_not}
use Rattle.m88_isa.proofs.Plans.{IsLawful, lawful}
use Rattle.m88_isa.specs.Bus.{Cells, after_access, after_accesses, bus_after, bus_after_all, in_words, loaded, loads, waits_for}
use Rattle.m88_isa.specs.Effect.{Change, Meaning, goes, meaning_of, raises, traps}
use Rattle.m88_isa.specs.Held.{Hold, busy_register, exceeds, fetched_instruction, first_reason, held, instruction_at, is_pending, needs_empty}
use Rattle.m88_isa.specs.History.{Completed, after_turn, bus_at, change_accesses, completed_state, pending_at, transaction_count, transactions}
use Rattle.m88_isa.specs.Instr.{IsValid}
use Rattle.m88_isa.specs.Machine.{IsProgram, Program, Turn, carried_out, changes, fetched, four_bytes, opening, outputs, state, stops, turn_at, turn_of_service, with_written}
use Rattle.m88_isa.specs.Monitor.{service_of}
use Rattle.m88_isa.specs.Operands.{access_count_of, writes_of}
use Rattle.m88_isa.specs.declared.instr.Instr.{Instr}
use Rattle.m88_isa.specs.declared.monitor.Service.{Service}
use Rattle.m88_isa.specs.declared.monitor.Service.TheVariants.{End, Out, Unserved}
use Rattle.m88_isa.specs.declared.planned.Access.{Access}
use Rattle.m88_isa.specs.Memory.{IsWordAccess}
use Rattle.m88_monitor.proofs.Laws.{served_cells}
use Rattle.m88_monitor.specs.Serving.{Serving, after_service}
use Rattle.m88_serving.proofs.Faulted.{few_pending}
use Rattle.m88_serving.proofs.Touched.{IsCalled, transactions_told}
use Rattle.m88_serving.specs.Laws.{EachServiceCatchesUp}
use Rattle.m88_serving.specs.Serving.{serving_with}

-- an instruction that goes on with changes means these
served_not : (service : Service) (vector pc : ℕ) (change : Change) → turn_of_service service vector pc ≡ changes change → ⊥
served_not (Out byte) vector pc change e = cc
served_not _ vector pc change e = cc

went : (m : Meaning) (regs : List ℕ) (pc : ℕ) (change : Change) → carried_out m regs pc ≡ changes change → m ≡ goes change
went (raises vector) regs pc change e = absurd cc
went (traps vector) regs pc change e = absurd (served_not (service_of vector regs) vector pc change e)
went (goes other) regs pc change e = let same : other ≡ change = cc in ap goes same

-- the register that it writes at once doesn't wait, where none is busy that it uses or writes
free_fetched : (word : Option (List ℕ)) (i : Option Instr) (regs : List ℕ) (carry mxm : Bool) (pc next : ℕ) (pending : List Access) (change : Change)
    → IfSome i IsValid → fetched word i regs carry mxm pc next ≡ changes change → busy_register (fetched_instruction word i) pending ≡ None
    → IfSome change.register (λ w. waits_for pending (number_of w.0) ≡ false)
free_fetched None i regs carry mxm pc next pending change valid e free = absurd cc
free_fetched (Some word) None regs carry mxm pc next pending change valid e free = absurd cc
free_fetched (Some word) (Some i) regs carry mxm pc next pending change valid e free =
    let means : meaning_of i regs carry mxm pc next ≡ goes change = went (meaning_of i regs carry mxm pc next) regs pc change e in
    written_waits_not i pending change.register free
    (subst (IsLawful (access_count_of i) (writes_of i)) means (lawful i regs carry mxm pc next valid)).1

-- so it is wherever a letter issues an instruction
abbrev IsFree : Program → Moment → Choice → Type 0
IsFree p m (issues change) = IfSome change.register (λ w. waits_for (pending_at p m.retired m.done) (number_of w.0) ≡ false)
IsFree p m _ = Unit {0}

free_turn : (p : Program) (m : Moment) (turn : Turn) → IsProgram p → turn_at p (state p m.retired) ≡ turn
    → busy_register (instruction_at p (state p m.retired).pc) (pending_at p m.retired m.done) ≡ None → IsFree p m (turn_choice turn)
free_turn p m (changes change) is e free =
    free_fetched (four_bytes p.byte (state p m.retired).pc) (p.instruction (state p m.retired).pc) (state p m.retired).regs (state p m.retired).carry
    (state p m.retired).mxm (state p m.retired).pc (state p m.retired).next (pending_at p m.retired m.done) change
    (is.instructions (state p m.retired).pc) e free
free_turn p m _ is e free = tt

not_busy : (least : Option ℕ) (no_room waits : Bool) → first_reason least no_room waits ≡ None → least ≡ None
not_busy (Some register) no_room waits h = absurd cc
not_busy None no_room waits h = refl

free_next : (p : Program) (m : Moment) (turn : Turn) (why : Option Hold) → IsProgram p → turn_at p (state p m.retired) ≡ turn
    → held (instruction_at p (state p m.retired).pc) turn (pending_at p m.retired m.done) ≡ why → IsFree p m (next_choice why turn)
free_next p m turn None is e free =
    let i : Option Instr = instruction_at p (state p m.retired).pc in
    let pending : List Access = pending_at p m.retired m.done in
    free_turn p m turn is e (not_busy (busy_register i pending) (exceeds turn (length pending)) (is_pending pending && needs_empty i turn) free)
free_next p m turn (Some why) is e free = tt

free_issue : (p : Program) (m : Moment) (idle bubble : Bool) → IsProgram p
    → IsFree p m (issue_choice idle bubble
    (held (instruction_at p (state p m.retired).pc) (turn_at p (state p m.retired)) (pending_at p m.retired m.done)) (turn_at p (state p m.retired)))
free_issue p m true bubble is = tt
free_issue p m false true is = tt
free_issue p m false false is = free_next p m (turn_at p (state p m.retired)) _ is refl refl

free_page : (p : Program) (m : Moment) (absent : Bool) → IsFree p m (if absent then faults else replies)
free_page p m true = tt
free_page p m false = tt

free_answer : (p : Program) (m : Moment) (pending : List Access) (absent : ℕ → Bool) → IsFree p m (answer_choice pending absent)
free_answer p m [] absent = tt
free_answer p m (x ∷ xs) absent = free_page p m (absent (page_number x.addr))

free_choice : (r : Run) (letter : Letter) (m : Moment) → IsProgram r.program
    → IsFree r.program m (choice_of r.program letter (situation_at r m))
unfolding situation_at
free_choice r Issue m is = free_issue r.program m (is_idle r m) m.bubble is
free_choice r Answer m is = free_answer r.program m (pending_at r.program m.retired m.done) (absent_at r m)
free_choice r Evict m is = tt

-- registers and words of the history
abbrev cells_of : Completed → Cells
cells_of c = record { regs = c.regs; bus = c.bus }

abbrev cells_at : Program → ℕ → Cells
cells_at p n = cells_of (completed_state (state p n))

-- where the first so many transactions are done, the others lead from some registers to those of the history
record Leads (p : Program) (n done : ℕ) : Type 0 where
  made : done ≤ transaction_count p n
  regs : List ℕ
  long : length regs ≡ 32
  cells : after_accesses (pending_at p n done) (record { regs = regs; bus = bus_at p n done }) ≡ cells_at p n

-- there stay 32 registers
long_register : (d : _) (value : ℕ) (regs : List ℕ) → length regs ≡ 32 → length (with_register d value regs) ≡ 32
long_register d value regs long = by_test (number_of d == 0)
    (λ none. rw none long)
    (λ there. rw there (length-set regs (number_of d) value ∙ long))

long_written : (written : Option _) (regs : List ℕ) → length regs ≡ 32 → length (with_written written regs) ≡ 32
long_written None regs long = long
long_written (Some w) regs long = long_register w.0 w.1 regs long

long_access : (x : Access) (c : Cells) → length c.regs ≡ 32 → length (after_access x c).regs ≡ 32
unfolding loaded
long_access x c long = by_test x.write
    (λ writes. rw writes long)
    (λ reads. rw reads (long_register x.reg (loaded x c.bus) c.regs long))

long_accesses : (xs : List Access) (c : Cells) → length c.regs ≡ 32 → length (after_accesses xs c).regs ≡ 32
unfolding after_accesses
long_accesses [] c long = long
long_accesses (x ∷ xs) c long = long_accesses xs (after_access x c) (long_access x c long)

-- the next state is that behind the turn
next_state : (p : Program) (n : ℕ) (turn : Turn) → IsProgram p → turn_at p (state p n) ≡ turn
    → completed_state (state p (n + 1)) ≡ after_turn turn (completed_state (state p n))
next_state p n turn is e = rw (add-one, ← e) (state_agrees p n is)

-- an instruction is issued, whose accesses join the pending ones
issued : (p : Program) (n done : ℕ) (change : Change) → IsProgram p → turn_at p (state p n) ≡ changes change
    → IfSome change.register (λ w. waits_for (pending_at p n done) (number_of w.0) ≡ false) → Leads p n done → Leads p (n + 1) done
unfolding after_turn completed_state
issued p n done change is e free leads =
    let more : transactions p (n + 1) ≡ transactions p n ++ change_accesses change = more_transactions p n (changes change) e in
    let joined : pending_at p (n + 1) done ≡ pending_at p n done ++ change_accesses change =
    ap (drop done) more ∙ drop-append-le done (transactions p n) (change_accesses change) leads.made in
    let bus : bus_at p (n + 1) done ≡ bus_at p n done =
    ap (λ xs. bus_after_all (take done xs) (in_words (opening p).memory)) more
    ∙ ap (λ xs. bus_after_all xs (in_words (opening p).memory)) (take-append-le done (transactions p n) (change_accesses change) leads.made) in
    let next : completed_state (state p (n + 1)) ≡ after_turn (changes change) (completed_state (state p n)) = next_state p n _ is e in
    let size = length-drop done (transactions p n) in
    record {
      made = let count = ap length more in omega (arith, count, leads.made, split (transactions p n) (change_accesses change));
      regs = with_written change.register leads.regs;
      long = long_written change.register leads.regs leads.long;
      cells =
          (λ i. after_accesses (joined i) (record { regs = with_written change.register leads.regs; bus = bus i }))
          ∙ late_change (pending_at p n done) change (record { regs = leads.regs; bus = bus_at p n done }) (completed_state (state p n))
          (sym (ap (λ (c : Cells). c.regs) leads.cells)) (sym (ap (λ (c : Cells). c.bus) leads.cells)) free
          ∙ ap cells_of (sym next);
    }
  where
    split : (xs ys : List Access) → length xs ≤ length (xs ++ ys)
    split [] ys = omega arith
    split (x ∷ xs) ys = let rest = split xs ys in omega (arith, rest)

-- a byte is put out
put_out : (p : Program) (n done byte : ℕ) → IsProgram p → turn_at p (state p n) ≡ outputs byte → Leads p n done → Leads p (n + 1) done
unfolding after_turn completed_state
put_out p n done byte is e leads =
    let more : transactions p (n + 1) ≡ transactions p n = more_transactions p n (outputs byte) e ∙ append-nil (transactions p n) in
    let next : completed_state (state p (n + 1)) ≡ after_turn (outputs byte) (completed_state (state p n)) = next_state p n _ is e in
    record {
      made = subst (λ xs. done ≤ length xs) (sym more) leads.made;
      regs = leads.regs;
      long = leads.long;
      cells =
          (λ i. after_accesses (drop done (more i)) (record { regs = leads.regs; bus = bus_after_all (take done (more i)) (in_words (opening p).memory) }))
          ∙ leads.cells ∙ ap cells_of (sym next);
    }

-- the oldest transaction is answered
one_done : (xs : List Access) (c : Cells) → after_accesses (drop 1 xs) (after_accesses (take 1 xs) c) ≡ after_accesses xs c
unfolding after_accesses
one_done [] c = refl
one_done (x ∷ xs) c = refl

answered : (p : Program) (n done : ℕ) → done < transaction_count p n → Leads p n done → Leads p n (done + 1)
answered p n done some leads =
    let pending : List Access = pending_at p n done in
    let before : Cells = record { regs = leads.regs; bus = bus_at p n done } in
    let left : pending_at p n (done + 1) ≡ drop 1 pending =
    ap (λ k. drop k (transactions p n)) (add-one done) ∙ sym (split_drop done (transactions p n)) in
    let bus : bus_at p n (done + 1) ≡ (after_accesses (take 1 pending) before).bus =
    sym (answered_bus p n done) ∙ sym (cells_bus (take 1 pending) before) in
    record {
      made = omega (arith, some);
      regs = (after_accesses (take 1 pending) before).regs;
      long = long_accesses (take 1 pending) before leads.long;
      cells =
          (λ i. after_accesses (left i) (record { regs = (after_accesses (take 1 pending) before).regs; bus = bus i }))
          ∙ one_done pending before ∙ leads.cells;
    }

-- all of them are finished
finished : (p : Program) (n done : ℕ) → IsProgram p → Leads p n done → Leads p n (done + length (pending_at p n done))
unfolding completed_state after_accesses
finished p n done is leads =
    let size = length-drop done (transactions p n) in
    let all : transaction_count p n ≡ done + length (pending_at p n done) = omega (arith, size, leads.made) in
    let none : pending_at p n (done + length (pending_at p n done)) ≡ [] =
    drop_all (done + length (pending_at p n done)) (transactions p n) (omega (arith, all)) in
    let bus : bus_at p n (done + length (pending_at p n done)) ≡ in_words (state p n).memory =
    ap (λ xs. bus_after_all xs (in_words (opening p).memory)) (take_all (done + length (pending_at p n done)) (transactions p n) (omega (arith, all)))
    ∙ sym (state_bus p n is) in
    record {
      made = omega (arith, all);
      regs = (state p n).regs;
      long = ap length (sym (ap (λ (c : Cells). c.regs) leads.cells))
          ∙ long_accesses (pending_at p n done) (record { regs = leads.regs; bus = bus_at p n done }) leads.long;
      cells = λ i. after_accesses (none i) (record { regs = (state p n).regs; bus = bus i });
    }

-- so it stays by each choice, and is at each moment of a run
led : (p : Program) (m : Moment) (choice : Choice) (fault : Record) → IsProgram p → Fits p m choice → IsFree p m choice → Leads p m.retired m.done
    → Leads p (after_choice (pending_at p m.retired m.done) choice fault m).retired (after_choice (pending_at p m.retired m.done) choice fault m).done
led p m (issues change) fault is fit free leads = issued p m.retired m.done change is fit.0 free leads
led p m (serves byte) fault is fit free leads = put_out p m.retired m.done byte is fit.0 leads
led p m replies fault is fit free leads = answered p m.retired m.done fit leads
led p m faults fault is fit free leads = finished p m.retired m.done is leads
led p m _ fault is fit free leads = leads

opened : (p : Program) → Leads p 0 0
unfolding transactions state opening after_accesses bus_after_all completed_state
opened p = record { made = omega arith; regs = replicate 32 0; long = refl; cells = refl }

led_along : (r : Run) (k : ℕ) → IsProgram r.program
    → Leads r.program (moment_after r k).retired (moment_after r k).done
unfolding moment_along after_letter
led_along r zero is = opened r.program
led_along r (suc k) is =
    let m : Moment = moment_after r k in
    led r.program m (choice_of r.program (letter_at r.schedule k) (situation_at r m)) (record_of r.program (situation_at r m)) is
    (fits r (letter_at r.schedule k) m) (free_choice r (letter_at r.schedule k) m is) (led_along r k is)

-- a register that is loaded has what the access loads
its_value : (x : Access) (c : Cells) (r : ℕ) → loads x r ≡ true → length c.regs ≡ 32 → slice_index (after_access x c).regs r ≡ loaded x c.bus
unfolding loaded
its_value x c r it long = by_test x.write
    (λ writes. let no : false ≡ true = rw writes at it in absurd cc)
    (λ reads. by_test (r == 0)
    (λ zero. let no : false ≡ true = rw (reads, zero) at it in absurd cc)
    (λ there. let same : (number_of x.reg == r) ≡ true = rw (reads, there) at it in
    let is : number_of x.reg ≡ r = eqb-true (number_of x.reg) r same in
    let some : (number_of x.reg == 0) ≡ false = ap (λ n. n == 0) is ∙ there in
    let low = x.reg.in_range in
    rw (reads, some)
    (subst (λ (k : ℕ). slice_index (slice_set c.regs (number_of x.reg) (loaded x c.bus)) k ≡ loaded x c.bus) is
    (get_or-set_same c.regs (number_of x.reg) (loaded x c.bus) 0 (omega (arith, low, long))))))

-- whatever it held before
only_first : (a b : Bool) → (a || b) ≡ true → b ≡ false → a ≡ true
only_first true b h other = refl
only_first false b h other = let e : true ≡ false = sym h ∙ other in absurd cc

never_zero : (x : Access) (r : ℕ) → loads x r ≡ true → (r == 0) ≡ false
never_zero x r it = by_test (r == 0)
    (λ zero. by_test x.write
    (λ writes. let no : false ≡ true = rw writes at it in absurd cc)
    (λ reads. let no : false ≡ true = rw (reads, zero) at it in absurd cc))
    (λ there. there)

loaded_alike : (xs : List Access) (c d : Cells) (r : ℕ) → waits_for xs r ≡ true → c.bus ≡ d.bus → length c.regs ≡ 32 → length d.regs ≡ 32
    → slice_index (after_accesses xs c).regs r ≡ slice_index (after_accesses xs d).regs r
unfolding after_accesses waits_for
loaded_alike [] c d r waits same long longer = absurd cc
loaded_alike (x ∷ xs) c d r waits same long longer = by_test (waits_for xs r)
    (λ later. loaded_alike xs (after_access x c) (after_access x d) r later (ap (bus_after x) same) (long_access x c long) (long_access x d longer))
    (λ never.
    let it : loads x r ≡ true = only_first (loads x r) (waits_for xs r) waits never in
    same_after_accesses xs (after_access x c) r (never_zero x r it) never ∙ its_value x c r it long ∙ ap (loaded x) same
    ∙ sym (its_value x d r it longer) ∙ sym (same_after_accesses xs (after_access x d) r (never_zero x r it) never))

-- the registers of a word of a set are those of the set
member_of : (set : ℕ → Bool) (r : ℕ) → ((k : ℕ) → 32 ≤ k → set k ≡ false) → registers_in (register_bits set) r ≡ true → set r ≡ true
member_of set zero beyond it = absurd cc
member_of set (suc r) beyond it = by_test (set (suc r))
    (λ there. there)
    (λ none.
    let clear : bit_at (register_bits set) (suc r) ≡ 0 = bit_of_set set beyond (suc r) ∙ ap (λ (b : Bool). if b then 1 else 0) none in
    let no : false ≡ true = rw clear at it in absurd cc)

-- behind the service of the transactions of a moment
abbrev cells_left : Serving → Cells
cells_left s = record { regs = (after_service s).numbers; bus = (after_service s).bus }

pub each_service_catches_up : EachServiceCatchesUp
unfolding record_of situation_at in_words moment_along completed_state
each_service_catches_up = λ r k is.
    let m : Moment = moment_after r k in
    let pending : List Access = pending_at r.program m.retired m.done in
    let s : Serving = serving_with (record_at r m) (bus_at r.program m.retired m.done) in
    let leads : Leads r.program m.retired m.done = led_along r k is in
    let bare : Cells = record { regs = replicate 32 0; bus = bus_at r.program m.retired m.done } in
    let full : Cells = record { regs = leads.regs; bus = bus_at r.program m.retired m.done } in
    let made : cells_left s ≡ after_accesses pending bare =
    served_cells pending s refl refl refl
    (All-weaker IsCalled IsWordAccess (λ a called. called.made) pending
    (All-drop IsCalled m.done (transactions r.program m.retired) (transactions_told r.program m.retired)))
    (few_pending r m (past_after r k)) in
    record {
      memory =
          ap (λ (c : Cells). c.bus) made ∙ cells_bus pending bare ∙ sym (cells_bus pending full) ∙ ap (λ (c : Cells). c.bus) leads.cells;
      registers = λ n it.
          ap (λ (c : Cells). slice_index c.regs n) made
          ∙ loaded_alike pending bare full n (member_of (waits_for pending) n (beyond_waits_not pending) it) refl refl leads.long
          ∙ ap (λ (c : Cells). slice_index c.regs n) leads.cells;
    }
