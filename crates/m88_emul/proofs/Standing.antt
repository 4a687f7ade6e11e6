-- What lies behind a moment stays so.
use Rattle.std.specs.Prelude.{Bool, false, ◌≡◌, ◌≤◌, ◌+◌, length, map}
use Rattle.std.proofs.Common.{arith, length-append, sym, ap, subst, ◌∙◌, refl}
use Rattle.std.proofs.lemmas.List.{length-drop}
use Rattle.m88_isa.specs.History.{turn_accesses}
use Rattle.m88_isa.specs.Machine.{Program, Turn, changes, outputs}
use Rattle.m88_isa.specs.Memory.{access_of}
use Rattle.m88_event.proofs.Laws.{FitsAlong, IsLastChoice, fits_along, nothing_left, precise_choice}
use Rattle.m88_event.specs.Choice.{Choice, choice_of, evicts, faults, finishes, holds, idles, issues, passes, replies, serves}
use Rattle.m88_event.specs.Situation.{Situation, record_of}
use Rattle.m88_event.specs.Timeline.{Moment, Run, opening_moment, pending_along, situation_along}
use Rattle.m88_event.specs.declared.letter.Letter.{Letter}
use Rattle.m88_event.specs.declared.record.Record.{Record}
use Rattle.m88_emul.proofs.Following.{aided_made, aided_work, deed_goes, more_made, more_work}
use Rattle.m88_emul.proofs.Mending.{made_is, mended_again, mended_more, mended_on}
use Rattle.m88_emul.specs.Extended.{Deed, IsAlone, aided, alone, deed_at, extended_history, extended_state, transactions_before}
use Rattle.m88_emul.specs.Inside.Settled.{IsMended, LiesBehind}
use Rattle.m88_emul.specs.Inside.Works.{work_before}
use Rattle.m88_emul.specs.Timeline.{ExtendedMoment, after_chosen, after_event, after_stop}

-- one more step that the machine makes alone
stands_alone : (p : Program) (m : Moment) (t : Turn) (bubble : Bool) → LiesBehind p m → deed_at p (extended_state p m.retired) ≡ alone t → m.ended ≡ false →
    LiesBehind p (record m { retired = m.retired + 1; bubble = bubble })
stands_alone p m t bubble stands d lives =
    let longer = ap length (more_made p m.retired t d) ∙ length-append (transactions_before p m.retired) (turn_accesses t) in
    let within = stands.within in
    record {
      within = omega (arith, longer, within);
      mended = subst (IsMended m.done) (sym (more_work p m.retired t d)) (mended_more m.done (work_before p m.retired) (turn_accesses t) stands.mended);
      ended = λ yes. absurd cc;
    }

stands_stop : (p : Program) (x : ExtendedMoment) (d : Deed) → LiesBehind p x.moment → deed_at p (extended_state p x.moment.retired) ≡ d →
    x.moment.ended ≡ false → length (transactions_before p x.moment.retired) ≤ x.moment.done →
    LiesBehind p (after_stop d p x).moment
stands_stop p x (alone t) stands d lives all = record {
  within = stands.within;
  mended = stands.mended;
  ended = λ yes. subst IsAlone (sym d) tt;
}
stands_stop p x (aided vector aid) stands d lives all =
    let m : Moment = x.moment in
    let works = aided_work p m.retired vector aid d in
    let longer = ap length (aided_made p m.retired vector aid d) in
    let within = stands.within in
    record {
      within = omega (arith, longer, within);
      mended = subst (IsMended m.done) (sym works) (mended_again m.done (work_before p m.retired) (map access_of aid.stores)
          (subst (λ xs. length xs ≤ m.done) (sym (made_is p m.retired)) all) stands.mended);
      ended = λ yes. absurd cc;
    }

stands_choice : (p : Program) (x : ExtendedMoment) (choice : Choice) (fault : Record) → LiesBehind p x.moment →
    FitsAlong (extended_history p) x.moment choice →
    (IsLastChoice choice → length (transactions_before p x.moment.retired) ≤ x.moment.done) →
    LiesBehind p (after_chosen p choice fault x).moment
stands_choice p x passes fault stands fit last = record { within = stands.within; mended = stands.mended; ended = stands.ended }
stands_choice p x (issues change) fault stands fit last =
    stands_alone p x.moment (changes change) change.bubble stands (deed_goes p x.moment.retired (changes change) fit.0) fit.1
stands_choice p x (serves byte) fault stands fit last =
    stands_alone p x.moment (outputs byte) false stands (deed_goes p x.moment.retired (outputs byte) fit.0) fit.1
stands_choice p x (finishes stop) fault stands fit last =
    stands_stop p x (deed_at p (extended_state p x.moment.retired)) stands refl fit.1 (last tt)
stands_choice p x replies fault stands fit last = record {
  within = omega (arith, fit);
  mended = mended_on x.moment.done (x.moment.done + 1) (work_before p x.moment.retired) (omega arith) stands.mended;
  ended = stands.ended;
}
stands_choice p x evicts fault stands fit last = record { within = stands.within; mended = stands.mended; ended = stands.ended }
stands_choice p x faults fault stands fit last =
    let m : Moment = x.moment in
    let rest = length-drop m.done (transactions_before p m.retired) in
    let within = stands.within in
    record {
      within = omega (arith, rest, within);
      mended = mended_on m.done (m.done + length (pending_along (extended_history p) m)) (work_before p m.retired) (omega arith) stands.mended;
      ended = stands.ended;
    }
stands_choice p x _ fault stands fit last = stands

pub stands_on : (r : Run) (letter : Letter) (x : ExtendedMoment) → LiesBehind r.program x.moment →
    LiesBehind r.program (after_event r letter x).moment
unfolding after_event
stands_on r letter x stands =
    let s : Situation = situation_along (extended_history r.program) r x.moment in
    let kept = stands_choice r.program x (choice_of r.program letter s) (record_of r.program s) stands (fits_along (extended_history r.program) x.moment r letter)
    (λ last. let all = nothing_left x.moment.done (transactions_before r.program x.moment.retired) stands.within (precise_choice r.program letter s last) in
    omega (arith, all)) in
    record { within = kept.within; mended = kept.mended; ended = kept.ended }

pub stands_first : (p : Program) → LiesBehind p opening_moment
unfolding work_before IsMended
stands_first p = record { within = omega arith; mended = tt; ended = λ yes. absurd cc }
