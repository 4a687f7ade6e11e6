-- A program goes from words to words: each state of a history stands at the address of a word, and so does what follows.
use Rattle.std.specs.Prelude.{ℕ, zero, suc, Bool, true, false, not, Option, Some, None, List, [], ◌∷◌, ◌≡◌, ◌+◌, ◌%◌, ◌==◌, ◌&&◌, if◌then◌else◌}
use Rattle.std.proofs.Common.{arith, add-one, refl, sym, ap, subst, ◌∙◌}
use Rattle.m88_isa.proofs.Flows.{effect_flows}
use Rattle.m88_isa.specs.Address.{after_bytes}
use Rattle.m88_isa.specs.Effect.{Meaning, FlowsToWords, Change, effect, goes, inputs_of, meaning_of, plan_for, raises, traps}
use Rattle.m88_isa.specs.Flow.{FlowFits}
use Rattle.m88_isa.specs.Machine.{Program, State, Turn, after_touches, carried_out, changes, fetched, four_bytes, opening, outputs, state, state_after, stepped, stops, turn, turn_at, turn_of_service}
use Rattle.m88_isa.specs.Memory.{Touch}
use Rattle.m88_isa.specs.Monitor.{service_of}
use Rattle.m88_isa.specs.Operands.{is_flow}
use Rattle.m88_isa.specs.Vector.{unimplemented}
use Rattle.m88_isa.specs.declared.instr.Instr.{Instr}
use Rattle.m88_isa.specs.declared.monitor.Service.{Service}
use Rattle.m88_isa.specs.declared.monitor.Service.TheVariants.{End, Out, Unserved}

-- the addresses of a state's next two instructions are those of words
pub record AtWords (s : State) : Type 0 where
  pub here : s.pc % 4 ≡ 0
  pub behind : s.next % 4 ≡ 0

-- a turn that goes on does so at words
abbrev pub TurnFlows : Turn → Type 0
TurnFlows (changes change) = FlowFits change.after change.bubble
TurnFlows (outputs byte) = Unit {0}
TurnFlows (stops stop) = Unit {0}

service_flows : (service : Service) (vector pc : ℕ) → TurnFlows (turn_of_service service vector pc)
service_flows (Out byte) vector pc = tt
service_flows End vector pc = tt
service_flows Unserved vector pc = tt

meaning_flows : (m : Meaning) (regs : List ℕ) (pc : ℕ) → FlowsToWords (plan_for m) → TurnFlows (carried_out m regs pc)
meaning_flows (raises vector) regs pc h = tt
meaning_flows (traps vector) regs pc h = service_flows (service_of vector regs) vector pc
meaning_flows (goes change) regs pc h = h

-- in a taken delay slot too
slot_flows : (raised : Bool) (m : Meaning) → FlowsToWords (plan_for m) →
    FlowsToWords (plan_for (if raised then raises unimplemented else m))
slot_flows true m h = tt
slot_flows false m h = h

fetched_flows : (word : Option (List ℕ)) (i : Option Instr) (regs : List ℕ) (carry mxm : Bool) (pc next : ℕ) →
    pc % 4 ≡ 0 → next % 4 ≡ 0 → TurnFlows (fetched word i regs carry mxm pc next)
fetched_flows None i regs carry mxm pc next here behind = tt
fetched_flows (Some word) None regs carry mxm pc next here behind = tt
fetched_flows (Some word) (Some i) regs carry mxm pc next here behind =
    meaning_flows (meaning_of i regs carry mxm pc next) regs pc
    (slot_flows (is_flow i && not (next == after_bytes pc 4)) (effect i (inputs_of i regs carry mxm pc next))
    (effect_flows i regs carry mxm pc next here behind))

-- a program's turn at words goes on at words
pub turn_flows : (p : Program) (regs : List ℕ) (carry mxm : Bool) (pc next : ℕ) → pc % 4 ≡ 0 → next % 4 ≡ 0 →
    TurnFlows (turn p regs carry mxm pc next)
turn_flows p regs carry mxm pc next = fetched_flows (four_bytes p.byte pc) (p.instruction pc) regs carry mxm pc next

-- accesses leave both addresses
touches_stay : (ts : List Touch) (s : State) →
    ((after_touches ts s).pc ≡ s.pc) × ((after_touches ts s).next ≡ s.next)
touches_stay [] s = (refl, refl)
touches_stay (t ∷ ts) s = touches_stay ts _

after_turn_words : (t : Turn) (s : State) → TurnFlows t → AtWords s → AtWords (state_after (stepped t s) s)
after_turn_words (changes change) s fits at =
    let same = touches_stay change.touches _ in
    record { here = ap (λ a. a % 4) same.0 ∙ fits.here; behind = ap (λ a. a % 4) same.1 ∙ fits.behind }
after_turn_words (outputs byte) s fits at = let h = at.behind in record { here = h; behind = omega (arith, h) }
after_turn_words (stops stop) s fits at = at

-- each state of a history stands at words
pub state_words : (p : Program) (n : ℕ) → AtWords (state p n)
unfolding state opening
state_words p zero = record { here = omega arith; behind = omega arith }
state_words p (suc n) =
    let at = state_words p n in
    after_turn_words (turn_at p (state p n)) (state p n)
    (turn_flows p (state p n).regs (state p n).carry (state p n).mxm (state p n).pc (state p n).next at.here at.behind) at

-- behind a branch without a delay slot the next two instructions follow one another
pub state_straight : (p : Program) (n : ℕ) (change : Change) → turn_at p (state p n) ≡ changes change →
    change.bubble ≡ true → (state p (n + 1)).next ≡ after_bytes (state p (n + 1)).pc 4
unfolding state
state_straight p n change e flows =
    let at = state_words p n in
    let fits : FlowFits change.after change.bubble =
    subst TurnFlows e
    (turn_flows p (state p n).regs (state p n).carry (state p n).mxm (state p n).pc (state p n).next at.here at.behind) in
    let same = touches_stay change.touches _ in
    rw (add-one, e) (same.1 ∙ fits.straight flows ∙ ap (λ a. after_bytes a 4) (sym same.0))
