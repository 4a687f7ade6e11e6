-- A move of a board, and what software makes of it, take what a moment looks like to what the next looks like.
use Rattle.std.specs.Prelude.{ℕ, Bool, true, false, List, [], ◌∷◌, ◌++◌, Option, Some, None, ◌≡◌, ◌≤◌, ◌+◌, drop, length, map, if◌then◌else◌}
use Rattle.std.proofs.Common.{add-one, refl, sym, ap, subst, ◌∙◌}
use Rattle.std.proofs.lemmas.List.{append-nil}
use Rattle.m88_isa.proofs.Laws.{TurnFits, turn_agrees, turn_fits}
use Rattle.m88_isa.specs.Address.{after_bytes}
use Rattle.m88_isa.specs.Bus.{bus_after_all, in_words}
use Rattle.m88_isa.specs.Held.{instruction_at}
use Rattle.m88_isa.specs.History.{after_turn, completed_state, turn_accesses}
use Rattle.m88_isa.specs.Machine.{IsProgram, Program, Stop, Turn, changes, opening, outputs, turn_at}
use Rattle.m88_isa.specs.Memory.{access_of}
use Rattle.m88_event.proofs.Laws.{AreWords, FitsAlong, IsStep, choice_seen, fits_along, next_xip, situation_seen, supplied}
use Rattle.m88_event.specs.Choice.{Choice, choice_of, end_by, finishes, issues, serves}
use Rattle.m88_event.specs.Local.{Local, local_along, move, move_by, with_move_counted}
use Rattle.m88_event.specs.Situation.{Situation, record_of}
use Rattle.m88_event.specs.Timeline.{Moment, Run, end_along, end_of_turn, situation_along}
use Rattle.m88_event.specs.declared.happened.End.{End}
use Rattle.m88_event.specs.declared.letter.Letter.{Letter}
use Rattle.m88_event.specs.declared.record.Record.{Record}
use Rattle.m88_emul.proofs.InWords.{IsSingle, byte_is, single_deed, state_bytes, stores_agree}
use Rattle.m88_emul.proofs.Mending.{bus_answered, bus_finished, bus_mended, bus_more, made_is}
use Rattle.m88_emul.specs.Aid.{Aid, with_all}
use Rattle.m88_emul.specs.Extended.{Deed, IsAlone, aided, alone, deed_at, deed_of, extended_history, extended_state, transactions_before}
use Rattle.m88_emul.specs.Inside.Settled.{LiesBehind, deed_seen, emulated_by, newly_emulated, settled, settled_by}
use Rattle.m88_emul.specs.Inside.Works.{bus_after_work, extended_bus, mends, transacted, transacts, work_before}
use Rattle.m88_emul.specs.Timeline.{ExtendedMoment, after_chosen, after_event, after_stop, has_place_in}
use Rattle.m88_emul.specs.declared.emulation.Emulation.{Emulation}

-- what is seen of a moment
abbrev pub seen_at : Run → Moment → Local
seen_at r = local_along (extended_history r.program) (extended_bus r.program) r

-- what becomes of an instruction by its turn
pub deed_goes : (p : Program) (n : ℕ) (t : Turn) → turn_at p (extended_state p n) ≡ t →
    deed_at p (extended_state p n)
    ≡ deed_of t (instruction_at p (extended_state p n).pc) (extended_state p n).regs (extended_state p n).memory
deed_goes p n t e = rw e refl

-- one more step that the machine makes alone
more_state : (p : Program) (n : ℕ) (t : Turn) → IsProgram p → deed_at p (extended_state p n) ≡ alone t → turn_at p (extended_state p n) ≡ t →
    completed_state (extended_state p (n + 1)) ≡ after_turn t (completed_state (extended_state p n))
unfolding extended_state
more_state p n t is d e =
    rw (add-one, d) (turn_agrees t (extended_state p n) (state_bytes p n is)
    (subst TurnFits e (turn_fits p (extended_state p n).regs (extended_state p n).carry (extended_state p n).mxm (extended_state p n).pc (extended_state p n).next is)))

pub more_work : (p : Program) (n : ℕ) (t : Turn) → deed_at p (extended_state p n) ≡ alone t → work_before p (n + 1) ≡ work_before p n ++ map transacts (turn_accesses t)
unfolding work_before
more_work p n t d = rw (add-one, d) refl

pub more_made : (p : Program) (n : ℕ) (t : Turn) → deed_at p (extended_state p n) ≡ alone t →
    transactions_before p (n + 1) ≡ transactions_before p n ++ turn_accesses t
unfolding transactions_before
more_made p n t d = rw (add-one, d) refl

-- what holds of the transactions holds of those among the work
pub of_work : (p : Program) (n done : ℕ) → done ≤ length (transactions_before p n) → done ≤ length (transacted (work_before p n))
of_work p n done h = subst (λ xs. done ≤ length xs) (sym (made_is p n)) h

one_step : (p : Program) (m : Moment) (t : Turn) → IsProgram p → LiesBehind p m → deed_at p (extended_state p m.retired) ≡ alone t →
    turn_at p (extended_state p m.retired) ≡ t →
    IsStep (extended_history p) (extended_bus p) m t
one_step p m t is stands d e = record {
  reached = more_state p m.retired t is d e;
  made = more_made p m.retired t d;
  kept = rw (more_work p m.retired t d) (sym (bus_more m.done (work_before p m.retired) (turn_accesses t) (in_words (opening p).memory)
      (of_work p m.retired m.done stands.within)));
}

are_words : (p : Program) (m : Moment) → IsProgram p → LiesBehind p m → AreWords (extended_history p) (extended_bus p) m
are_words p m is stands =
    let works = work_before p m.retired in
    let before = in_words (opening p).memory in
    record {
      within = stands.within;
      changed = λ change e. one_step p m (changes change) is stands (deed_goes p m.retired (changes change) e) e;
      put_out = λ byte e. one_step p m (outputs byte) is stands (deed_goes p m.retired (outputs byte) e) e;
      answered = rw (← made_is p m.retired, add-one) (bus_answered m.done works before stands.mended);
      finished = rw (← made_is p m.retired)
          (bus_finished m.done works before stands.mended (of_work p m.retired m.done stands.within));
    }

-- one more step that software completes
aided_state : (p : Program) (n vector : ℕ) (aid : Aid) → IsProgram p → deed_at p (extended_state p n) ≡ aided vector aid → IsSingle (aided vector aid) →
    completed_state (extended_state p (n + 1)) ≡ record {
      regs = with_all aid.writes (extended_state p n).regs;
      carry = (extended_state p n).carry;
      mxm = (extended_state p n).mxm;
      pc = (extended_state p n).next;
      next = after_bytes (extended_state p n).next 4;
      bus = bus_after_all (map access_of aid.stores) (in_words (extended_state p n).memory);
      out = (extended_state p n).out;
    }
unfolding extended_state completed_state
aided_state p n vector aid is d single =
    rw (add-one, d) (ap (λ (b : ℕ → ℕ). record {
      regs = with_all aid.writes (extended_state p n).regs;
      carry = (extended_state p n).carry;
      mxm = (extended_state p n).mxm;
      pc = (extended_state p n).next;
      next = after_bytes (extended_state p n).next 4;
      bus = b;
      out = (extended_state p n).out;
    }) (stores_agree aid.stores (extended_state p n).memory (state_bytes p n is) single))

pub aided_work : (p : Program) (n vector : ℕ) (aid : Aid) → deed_at p (extended_state p n) ≡ aided vector aid →
    work_before p (n + 1) ≡ work_before p n ++ (mends (map access_of aid.stores) ∷ [])
unfolding work_before
aided_work p n vector aid d = rw (add-one, d) refl

pub aided_made : (p : Program) (n vector : ℕ) (aid : Aid) → deed_at p (extended_state p n) ≡ aided vector aid →
    transactions_before p (n + 1) ≡ transactions_before p n
unfolding transactions_before
aided_made p n vector aid d = rw (add-one, d) (append-nil (transactions_before p n))

-- what is seen of a deed is the deed
seen_deed : (r : Run) (m : Moment) → IsProgram r.program → deed_seen r.program (seen_at r m) ≡ deed_at r.program (extended_state r.program m.retired)
unfolding completed_state
seen_deed r m is =
    ap (λ (memory : ℕ → ℕ). deed_of (turn_at r.program (extended_state r.program m.retired)) (instruction_at r.program (extended_state r.program m.retired).pc)
    (extended_state r.program m.retired).regs memory)
    (byte_is (extended_state r.program m.retired).memory (state_bytes r.program m.retired is))

-- software has nothing to complete
abbrev pub NoAid : Option End → Deed → Type 0
NoAid None d = Unit {0}
NoAid (Some end) d = IsAlone d

pub stays : (end : Option End) (d : Deed) (l : Local) → NoAid end d → settled_by end d l ≡ l
stays None d l h = refl
stays (Some end) (alone t) l h = refl
stays (Some end) (aided vector aid) l h = absurd h

no_aid : (ended : Bool) (end : End) (d : Deed) → (ended ≡ true → IsAlone d) → NoAid (if ended then Some end else None) d
no_aid true end d h = h refl
no_aid false end d h = tt

-- as it has nothing at a moment, and behind a choice that doesn't end the program
unaided : (r : Run) (m : Moment) → IsProgram r.program → LiesBehind r.program m →
    NoAid (end_along (extended_history r.program) m) (deed_seen r.program (seen_at r m))
unaided r m is stands =
    subst (NoAid (end_along (extended_history r.program) m)) (sym (seen_deed r m is)) (no_aid m.ended _ _ stands.ended)

living : (p : Program) (m : Moment) (d : Deed) → m.ended ≡ false → NoAid (end_along (extended_history p) m) d
living p m d lives = rw lives tt

abbrev GoesOn : Choice → Type 0
GoesOn (finishes stop) = ⊥
GoesOn _ = Unit {0}

left : (r : Run) (m : Moment) (choice : Choice) (fault : Record) → IsProgram r.program → LiesBehind r.program m →
    FitsAlong (extended_history r.program) m choice → GoesOn choice →
    NoAid (move_by choice fault (seen_at r m)).ended (deed_seen r.program (move_by choice fault (seen_at r m)))
left r m (issues change) fault is stands fit goes = living r.program m _ fit.1
left r m (serves byte) fault is stands fit goes = living r.program m _ fit.1
left r m (finishes stop) fault is stands fit goes = absurd goes
left r m choice fault is stands fit goes = unaided r m is stands

finished_by : (r : Run) (x : ExtendedMoment) (stop : Stop) (fault : Record) (d : Deed) → IsProgram r.program →
    LiesBehind r.program x.moment → FitsAlong (extended_history r.program) x.moment (finishes stop) →
    deed_at r.program (extended_state r.program x.moment.retired) ≡ d → IsSingle d →
    settled_by (Some (end_by stop)) d (record (seen_at r x.moment) { ended = Some (end_by stop) })
    ≡ seen_at r (after_stop d r.program x).moment
unfolding completed_state
finished_by r x stop fault (alone t) is stands fit d single =
    choice_seen (extended_history r.program) (extended_bus r.program) r x.moment (are_words r.program x.moment is stands) (finishes stop) fault fit
finished_by r x stop fault (aided vector aid) is stands fit d single =
    let m : Moment = x.moment in
    let completed = aided_state r.program m.retired vector aid is d single in
    let bus = sym (ap (λ ws. bus_after_work m.done ws (in_words (opening r.program).memory)) (aided_work r.program m.retired vector aid d)
    ∙ bus_mended m.done (work_before r.program m.retired) (map access_of aid.stores) (in_words (opening r.program).memory)) in
    let pending = ap (drop m.done) (sym (aided_made r.program m.retired vector aid d)) in
    let xip = next_xip (extended_history r.program) m.retired in
    let absent = supplied r m (has_place_in aid.places) in
    let ended : None ≡ (if m.ended then Some (end_of_turn (turn_at r.program (extended_state r.program (m.retired + 1)))) else None) = rw fit.1 refl in
    λ i. record (seen_at r m) {
      completed = sym completed i;
      bus = bus i;
      pending = pending i;
      xip = xip i;
      ended = ended i;
      absent = absent i;
      retired = m.retired + 1;
    }

by_choice : (r : Run) (x : ExtendedMoment) (choice : Choice) (fault : Record) → IsProgram r.program → LiesBehind r.program x.moment →
    FitsAlong (extended_history r.program) x.moment choice →
    settled r.program (move_by choice fault (seen_at r x.moment)) ≡ seen_at r (after_chosen r.program choice fault x).moment
unfolding settled
by_choice r x (finishes stop) fault is stands fit =
    ap (λ (d : Deed). settled_by (Some (end_by stop)) d (record (seen_at r x.moment) { ended = Some (end_by stop) })) (seen_deed r x.moment is)
    ∙ finished_by r x stop fault (deed_at r.program (extended_state r.program x.moment.retired)) is stands fit refl
    (single_deed (turn_at r.program (extended_state r.program x.moment.retired)) _ _ _)
by_choice r x choice fault is stands fit =
    stays _ _ _ (left r x.moment choice fault is stands fit tt)
    ∙ choice_seen (extended_history r.program) (extended_bus r.program) r x.moment (are_words r.program x.moment is stands) choice fault fit

-- an event is counted before software does its work, or behind it
counted_by : (end : Option End) (d : Deed) (l : Local) → settled_by end d (with_move_counted l) ≡ with_move_counted (settled_by end d l)
counted_by None d l = refl
counted_by (Some end) (alone t) l = refl
counted_by (Some end) (aided vector aid) l = refl

pub law : (r : Run) (letter : Letter) (x : ExtendedMoment) → IsProgram r.program → LiesBehind r.program x.moment →
    settled r.program (move r.program r.limit letter (seen_at r x.moment)) ≡ seen_at r (after_event r letter x).moment
unfolding move after_event settled
law r letter x is stands =
    let s : Situation = situation_along (extended_history r.program) r x.moment in
    let l : Local = move_by (choice_of r.program letter s) (record_of r.program s) (seen_at r x.moment) in
    ap (λ (at : Situation). settled r.program (with_move_counted (move_by (choice_of r.program letter at) (record_of r.program at) (seen_at r x.moment))))
    (situation_seen (extended_history r.program) (extended_bus r.program) r x.moment)
    ∙ counted_by l.ended (deed_seen r.program l) l
    ∙ ap with_move_counted (by_choice r x (choice_of r.program letter s) (record_of r.program s) is stands
    (fits_along (extended_history r.program) x.moment r letter))

-- what software did joins the emulations
pub none_new : (xs : List Emulation) (end : Option End) (d : Deed) (l : Local) → NoAid end d → xs ++ emulated_by end d l ≡ xs
none_new xs None d l h = append-nil xs
none_new xs (Some end) (alone t) l h = append-nil xs
none_new xs (Some end) (aided vector aid) l h = absurd h

joins_stop : (r : Run) (x : ExtendedMoment) (end : End) (d : Deed) →
    x.emulated ++ emulated_by (Some end) d (with_move_counted (record (seen_at r x.moment) { ended = Some end }))
    ≡ (after_stop d r.program x).emulated
unfolding completed_state
joins_stop r x end (alone t) = append-nil x.emulated
joins_stop r x end (aided vector aid) = refl

joins_choice : (r : Run) (x : ExtendedMoment) (choice : Choice) (fault : Record) → IsProgram r.program →
    LiesBehind r.program x.moment → FitsAlong (extended_history r.program) x.moment choice →
    x.emulated ++ newly_emulated r.program (with_move_counted (move_by choice fault (seen_at r x.moment)))
    ≡ (after_chosen r.program choice fault x).emulated
unfolding newly_emulated
joins_choice r x (finishes stop) fault is stands fit =
    ap (λ (d : Deed). x.emulated
    ++ emulated_by (Some (end_by stop)) d (with_move_counted (record (seen_at r x.moment) { ended = Some (end_by stop) })))
    (seen_deed r x.moment is)
    ∙ joins_stop r x (end_by stop) (deed_at r.program (extended_state r.program x.moment.retired))
joins_choice r x choice fault is stands fit =
    none_new x.emulated _ _ _ (left r x.moment choice fault is stands fit tt)

pub joins : (r : Run) (letter : Letter) (x : ExtendedMoment) → IsProgram r.program → LiesBehind r.program x.moment →
    x.emulated ++ newly_emulated r.program (move r.program r.limit letter (seen_at r x.moment)) ≡ (after_event r letter x).emulated
unfolding move after_event
joins r letter x is stands =
    let s : Situation = situation_along (extended_history r.program) r x.moment in
    ap (λ (at : Situation). x.emulated
    ++ newly_emulated r.program (with_move_counted (move_by (choice_of r.program letter at) (record_of r.program at) (seen_at r x.moment))))
    (situation_seen (extended_history r.program) (extended_bus r.program) r x.moment)
    ∙ joins_choice r x (choice_of r.program letter s) (record_of r.program s) is stands (fits_along (extended_history r.program) x.moment r letter)
