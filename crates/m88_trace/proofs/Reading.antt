-- A text is read line by line beside a follower.
use Rattle.std.specs.Prelude.{ℕ, Bool, true, false, List, [], ◌∷◌, ◌++◌, Some, ◌≡◌, ◌≢◌, ◌≤◌, ◌<◌, ◌+◌, length}
use Rattle.std.proofs.Common.{arith, length-append, refl, sym, ap, ◌∙◌}
use Rattle.m88_isa.specs.Machine.{Program, opening, state}
use Rattle.m88_trace.proofs.History.{ended_next, line_past, line_there, not_ended_first, some_line}
use Rattle.m88_trace.proofs.Verdicts.{HasRead, differs_by, differs_past, read_more, read_none}
use Rattle.m88_trace.specs.Inside.Doings.{WroteLine, Seen, seen_at_state, seen_by_follower}
use Rattle.m88_trace.specs.Texts.{DiffersBehind}
use Rattle.m88_trace.specs.Trace.{is_ended, trace_line}
use Rattle.m88_trace.specs.declared.follower.Follower.{Follower}

-- so many lines of a program's trace are read, and this is left; a follower stands behind as many steps, or at the end
pub record Reads (p : Program) (text rest : List ℕ) (k : ℕ) (f : Seen) (stopped : Bool) : Type 0 where
  pub read : HasRead (trace_line p) text rest k
  pub seen : f ≡ seen_at_state (state p k)
  pub ended : stopped ≡ is_ended p k

pub reads_none : (p : Program) (text : List ℕ) (f : Seen) → f ≡ seen_at_state (opening p) → Reads p text text 0 f false
unfolding state
reads_none p text f seen = record { read = read_none (trace_line p) text; seen = seen; ended = sym (not_ended_first p) }

-- the next line is read
pub reads_more : (p : Program) (text rest line more : List ℕ) (k : ℕ) (f : Seen) (stopped : Bool) (new : Follower) →
    Reads p text rest k f false →
    WroteLine p k line stopped new →
    rest ≡ line ++ more →
    Reads p text more (k + 1) (seen_by_follower new) stopped
reads_more p text rest line more k f stopped new reads follows begins = record {
  read =
      read_more (trace_line p) text rest line more k reads.read
      (line_there p k (sym reads.ended) ∙ ap Some (sym follows.text)) begins;
  seen = follows.seen;
  ended = follows.ended ∙ sym (ended_next p k);
}

-- what is left doesn't begin with the next line
pub reads_other : (p : Program) (text rest line : List ℕ) (k : ℕ) (f : Seen) (stopped : Bool) (new : Follower) →
    Reads p text rest k f false →
    WroteLine p k line stopped new →
    rest ≢ [] →
    ((more : List ℕ) → rest ≢ line ++ more) →
    DiffersBehind (trace_line p) text k
reads_other p text rest line k f stopped new reads follows some other =
    differs_by (trace_line p) text rest line k reads.read some
    (line_there p k (sym reads.ended) ∙ ap Some (sym follows.text)) other

-- the program has ended, and something is left
pub reads_past : (p : Program) (text rest : List ℕ) (k : ℕ) (f : Seen) → Reads p text rest k f true → rest ≢ [] →
    DiffersBehind (trace_line p) text k
reads_past p text rest k f reads some =
    differs_past (trace_line p) text rest k reads.read some (line_past p k (sym reads.ended))

-- a line that was read isn't empty, so that less is left
pub less_left : (p : Program) (text rest line more : List ℕ) (k : ℕ) (f : Seen) (stopped : Bool) (new : Follower) →
    Reads p text rest k f false →
    WroteLine p k line stopped new →
    rest ≡ line ++ more →
    length more < length rest
less_left p text rest line more k f stopped new reads follows begins =
    let long = some_length line
    (λ e. some_line p k (line_there p k (sym reads.ended) ∙ ap Some (sym follows.text ∙ e))) in
    let split = ap length begins ∙ length-append line more in
    omega (arith, long, split)
  where
    some_length : (xs : List ℕ) → xs ≢ [] → 1 ≤ length xs
    some_length [] some = absurd (some refl)
    some_length (x ∷ xs) some = omega arith
