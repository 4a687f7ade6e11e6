-- What the letter `t` comes to, by what is seen of the board.
use Rattle.std.specs.Prelude.{ℕ, true, false, not, List, [], ◌∷◌, ◌≡◌, ◌≢◌, ◌<◌, ◌≤◌, ◌+◌, length}
use Rattle.std.proofs.Common.{arith, refl, sym, ap, subst, ◌∙◌}
use Rattle.m88_isa.proofs.Laws.{by_test}
use Rattle.m88_isa.specs.Held.{is_pending}
use Rattle.m88_isa.specs.declared.planned.Access.{Access}
use Rattle.m88_event.specs.Timeline.{is_drained, record_at}
use Rattle.m88_event.specs.declared.record.Record.{Record}
use Rattle.m88_board.proofs.Laws.{drained_by}
use Rattle.m88_tasks.proofs.Choosing.{alone_stays, others_next}
use Rattle.m88_tasks.specs.Shared.{Group, SharedMoment, after_turn_letter, is_alone, next_from, own_run, pending_in, switch_at, switch_by, turn_letter_at}
use Rattle.m88_tasks.specs.Tasks.{ArePrograms, IsTaken, ProgramsView}
use Rattle.m88_tasks.specs.declared.letter.ShareLetter.TheVariants as share
use Rattle.m88_tasks.specs.declared.shared.Switch.{Switch}
use Rattle.m88_tasks.specs.declared.turned.Turned.{Turned}
use Rattle.m88_tasks.specs.declared.turned.Turned.TheVariants as turned

-- what is said is what the timeline says
pub taken_turn : (g : Group) (s : SharedMoment) (turned : Turned) (v : ProgramsView) (switches : List Switch) → turned ≡ turn_letter_at g s →
    ArePrograms g (after_turn_letter turned s).moments (after_turn_letter turned s).current v → switches ≡ (after_turn_letter turned s).switches →
    IsTaken g share.Turn s turned v switches
taken_turn g s turned v switches says are joined = record {
  says = says;
  programs = subst (λ (t : Turned). ArePrograms g (after_turn_letter t s).moments (after_turn_letter t s).current v) says are;
  joined = subst (λ (t : Turned). switches ≡ (after_turn_letter t s).switches) says joined;
}

some_pending : (pending : List Access) → 0 < length pending → is_pending pending ≡ true
some_pending [] h = absurd (omega (arith, h))
some_pending (a ∷ pending) h = refl

pub none_pending : (pending : List Access) (n : ℕ) → n ≡ length pending → n ≤ 0 → pending ≡ []
none_pending [] n e h = refl
none_pending (a ∷ pending) n e h = absurd (omega (arith, e, h))

-- something is pending
is_held : (g : Group) (s : SharedMoment) → is_drained (g.programs s.current) (s.moments s.current) ≡ false →
    turned.Held (pending_in g s) ≡ turn_letter_at g s
unfolding turn_letter_at
is_held g s h = rw h refl

pub held : (g : Group) (s : SharedMoment) (n : ℕ) (v : ProgramsView) → ArePrograms g s.moments s.current v → n ≡ length v.board.pending →
    n ≡ pending_in g s → 0 < n → turned.Held n ≡ turn_letter_at g s
held g s n v are seen many some =
    let drained = drained_by (own_run g s.current) (s.moments s.current) v.board are.board in
    ap (λ (k : ℕ). turned.Held k) many
    ∙ is_held g s (sym drained ∙ ap not (some_pending v.board.pending (omega (arith, seen, some))))

-- nothing is, and every other program is over
drained_then : (g : Group) (s : SharedMoment) (v : ProgramsView) → ArePrograms g s.moments s.current v → v.board.pending ≡ [] →
    is_drained (g.programs s.current) (s.moments s.current) ≡ true
drained_then g s v are empty =
    sym (drained_by (own_run g s.current) (s.moments s.current) v.board are.board) ∙ ap (λ (xs : List Access). not (is_pending xs)) empty

is_alone_there : (g : Group) (s : SharedMoment) → is_drained (g.programs s.current) (s.moments s.current) ≡ true →
    is_alone g s.moments s.current ≡ true → turned.Alone ≡ turn_letter_at g s
unfolding turn_letter_at
is_alone_there g s d h = rw (d, h) refl

pub alone : (g : Group) (s : SharedMoment) (v : ProgramsView) → ArePrograms g s.moments s.current v → v.board.pending ≡ [] →
    next_from g s.moments s.current ≡ s.current → turned.Alone ≡ turn_letter_at g s
alone g s v are empty same =
    is_alone_there g s (drained_then g s v are empty)
    (by_test (is_alone g s.moments s.current) (λ t. t) (λ f. absurd (others_next g s.moments s.current are.here f same)))

-- nothing is, and another program is next
is_switched : (g : Group) (s : SharedMoment) → is_drained (g.programs s.current) (s.moments s.current) ≡ true →
    is_alone g s.moments s.current ≡ false → turned.Switched (switch_at g s) ≡ turn_letter_at g s
unfolding turn_letter_at
is_switched g s d h = rw (d, h) refl

pub switched : (g : Group) (s : SharedMoment) (v : ProgramsView) → ArePrograms g s.moments s.current v → v.board.pending ≡ [] →
    next_from g s.moments s.current ≢ s.current → turned.Switched (switch_at g s) ≡ turn_letter_at g s
switched g s v are empty other =
    is_switched g s (drained_then g s v are empty)
    (by_test (is_alone g s.moments s.current) (λ t. absurd (other (alone_stays g s.moments s.current are.here t))) (λ f. f))

-- the switch by the record of the moment before
pub same_switch : (g : Group) (s : SharedMoment) (v : ProgramsView) (event from to : ℕ) (saved : Record) → ArePrograms g s.moments s.current v →
    event ≡ s.events + 1 → from ≡ v.current → to ≡ next_from g s.moments s.current →
    saved ≡ record_at (own_run g s.current) (s.moments s.current) → switch_by event from to saved ≡ switch_at g s
same_switch g s v event from to saved are number here next words =
    ap (λ (n : ℕ). switch_by n from to saved) number
    ∙ ap (λ (n : ℕ). switch_by (s.events + 1) n to saved) (here ∙ are.number)
    ∙ ap (λ (n : ℕ). switch_by (s.events + 1) s.current n saved) next
    ∙ ap (switch_by (s.events + 1) s.current (next_from g s.moments s.current)) words
