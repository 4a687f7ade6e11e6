-- Along the letters of a run, from its opening to the moment at which it is over.
use Rattle.std.specs.Prelude.{ℕ, suc, true, false, List, [], ◌++◌, ◌≡◌}
use Rattle.std.proofs.Common.{arith, refl, sym, ap, ap₂, ◌∙◌}
use Rattle.m88_board.proofs.Laws.{not_yet}
use Rattle.m88_event.proofs.Laws.{one_first, outcome_is_seen, over_seen}
use Rattle.m88_event.specs.Letters.{letter_at}
use Rattle.m88_event.specs.Local.{Local, is_over_by, local_at, move}
use Rattle.m88_event.specs.Run.{NotBefore, outcome_by}
use Rattle.m88_event.specs.Timeline.{Run, is_over_along, opening_moment, xip_along}
use Rattle.m88_event.specs.declared.letter.Letter.{Letter}
use Rattle.m88_event.specs.declared.outcome.Outcome.{Outcome}
use Rattle.m88_isa.specs.Bus.{bus_after_all, in_words}
use Rattle.m88_isa.specs.History.{transactions}
use Rattle.m88_isa.specs.Machine.{IsProgram, opening, state}
use Rattle.m88_emul.proofs.Following.{joins, law, seen_at}
use Rattle.m88_emul.proofs.Standing.{stands_first, stands_on}
use Rattle.m88_emul.specs.Extended.{extended_history, extended_state, transactions_before}
use Rattle.m88_emul.specs.Inside.Works.{bus_after_work, extended_bus, work_before}
use Rattle.m88_emul.specs.Inside.Settled.{LiesBehind, newly_emulated, settled}
use Rattle.m88_emul.specs.Timeline.{ExtendedMoment, IsExtendedOutcome, extended_after, extended_outcome}
use Rattle.m88_emul.specs.declared.emulation.EmulOutcome.{EmulOutcome}
use Rattle.m88_emul.specs.declared.emulation.Emulation.{Emulation}

-- what is seen is that of the moment after as many events, before none of which the run was over
pub record IsThere (r : Run) (k : ℕ) (l : Local) (emulated : List Emulation) :
    Type 0 where
  pub seen : l ≡ seen_at r (extended_after r k).moment
  pub stands : LiesBehind r.program (extended_after r k).moment
  pub joined : emulated ≡ (extended_after r k).emulated
  pub first : NotBefore (λ j. is_over_along (extended_history r.program) r (extended_after r j).moment) k

-- nothing has happened yet
same_opening : (r : Run) → local_at r opening_moment ≡ seen_at r opening_moment
unfolding local_at state extended_state transactions transactions_before work_before bus_after_all bus_after_work xip_along
same_opening r = refl

pub there_first : (r : Run) (l : Local) (emulated : List Emulation) →
    l ≡ local_at r opening_moment → emulated ≡ [] →
    IsThere r 0 l emulated
unfolding extended_after
there_first r l emulated opens none = record {
  seen = opens ∙ same_opening r;
  stands = stands_first r.program;
  joined = none;
  first = λ k h. absurd (omega (arith, h));
}

pub opens_empty : (r : Run) (l : Local) → l ≡ local_at r opening_moment → l.pending ≡ []
unfolding local_at transactions
opens_empty r l opens = ap (λ (x : Local). x.pending) opens

-- whether a run is over is seen
over_there : (r : Run) (k : ℕ) (l : Local) (emulated : List Emulation) →
    IsThere r k l emulated →
    is_over_along (extended_history r.program) r (extended_after r k).moment ≡ is_over_by r.limit l
over_there r k l emulated there =
    sym (over_seen (extended_history r.program) (extended_bus r.program) r (extended_after r k).moment there.stands.within)
    ∙ ap (is_over_by r.limit) (sym there.seen)

-- one event more
pub there_next : (r : Run) (k : ℕ) (l new : Local)
    (emulated more : List Emulation) → IsProgram r.program → IsThere r k l emulated → is_over_by r.limit l ≡ false →
    new ≡ settled r.program (move r.program r.limit (letter_at r.schedule k) l) →
    more ≡ emulated ++ newly_emulated r.program (move r.program r.limit (letter_at r.schedule k) l) →
    IsThere r (suc k) new more
unfolding extended_after
there_next r k l new emulated more is there goes moved joined =
    let x : ExtendedMoment = extended_after r k in
    let letter : Letter = letter_at r.schedule k in
    record {
      seen = moved ∙ ap (λ (s : Local). settled r.program (move r.program r.limit letter s)) there.seen ∙ law r letter x is there.stands;
      stands = stands_on r letter x there.stands;
      joined =
          joined
          ∙ ap₂ (λ (xs : List Emulation) (s : Local). xs ++ newly_emulated r.program (move r.program r.limit letter s)) there.joined there.seen
          ∙ joins r letter x is there.stands;
      first = not_yet (λ j. is_over_along (extended_history r.program) r (extended_after r j).moment) k there.first
          (over_there r k l emulated there ∙ goes);
    }

-- what a run comes to that is over
same_outcome : (r : Run) (x : ExtendedMoment) →
    record { outcome = outcome_by (in_words (opening r.program).memory) (seen_at r x.moment); emulated = x.emulated } ≡ extended_outcome r.program x
unfolding extended_outcome
same_outcome r x =
    ap (λ (o : Outcome). record { outcome = o; emulated = x.emulated }) (outcome_is_seen (extended_history r.program) (extended_bus r.program) r x.moment)

pub there_over : (r : Run) (k : ℕ) (l : Local) (emulated : List Emulation)
    (o : EmulOutcome) → IsThere r k l emulated → is_over_by r.limit l ≡ true →
    o ≡ record { outcome = outcome_by (in_words (opening r.program).memory) l; emulated = emulated } →
    IsExtendedOutcome r o
there_over r k l emulated o there over value = record {
  events = k;
  run = record { here = over_there r k l emulated there ∙ over; first = there.first };
  value =
      value
      ∙ ap₂ (λ (s : Local) (xs : List Emulation). record { outcome = outcome_by (in_words (opening r.program).memory) s; emulated = xs })
      there.seen there.joined
      ∙ same_outcome r (extended_after r k);
}

-- a run comes to one outcome
pub one_outcome : (r : Run) (a b : EmulOutcome) →
    IsExtendedOutcome r a →
    IsExtendedOutcome r b →
    a ≡ b
one_outcome r a b x y =
    let same = one_first (λ k. is_over_along (extended_history r.program) r (extended_after r k).moment) x.events y.events x.run y.run in
    x.value ∙ ap (λ k. extended_outcome r.program (extended_after r k)) same ∙ sym y.value
