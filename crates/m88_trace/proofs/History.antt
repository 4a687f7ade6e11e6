-- The lines of a history.
use Rattle.std.specs.Prelude.{ℕ, zero, suc, Bool, true, false, List, [], ◌∷◌, ◌++◌, Some, None, ◌≡◌, ◌≢◌, ◌<◌, ◌+◌, ◌-◌, codes, is_some, unwrap_or, if◌then◌else◌}
use Rattle.std.proofs.Common.{arith, add-one, refl, sym, ap, subst, ◌∙◌}
use Rattle.std.proofs.lemmas.List.{append-nil}
use Rattle.m88_event.specs.Past.{HasInstructions}
use Rattle.m88_event.specs.Choice.{end_by}
use Rattle.m88_event.specs.EndText.{end_text}
use Rattle.m88_isa.specs.Held.{is_stop}
use Rattle.m88_isa.specs.History.{change_accesses}
use Rattle.m88_isa.specs.Machine.{Program, Turn, changes, outputs, state, stops, turn_at}
use Rattle.m88_trace.specs.Lines.{accesses_text, head_text, output_text, turn_line, written_text}
use Rattle.m88_trace.specs.Texts.{HasLines, text_of_first}
use Rattle.m88_trace.specs.Trace.{is_ended, trace_line_at, trace_line}

-- a text that ends with a byte isn't empty
some_last : (xs : List ℕ) (x : ℕ) → xs ++ x ∷ [] ≢ []
some_last [] x e = cc
some_last (y ∷ xs) x e = cc

-- no line is empty
some_turn : (number at word : ℕ) (turn : Turn) (bus : ℕ → ℕ) → turn_line number at word turn bus ≢ []
some_turn number at word (changes change) bus =
    some_last (head_text number at word ++ written_text change.register ++ accesses_text (change_accesses change) bus)
    10
some_turn number at word (outputs byte) bus = some_last (head_text number at word ++ output_text byte) 10
some_turn number at word (stops stop) bus = some_last (codes "end " ++ end_text (end_by stop)) 10

line_if : (ended : Bool) (bytes : List ℕ) → bytes ≢ [] → (if ended then None else Some bytes) ≢ Some []
line_if true bytes some e = cc
line_if false bytes some e = some cc

pub some_line : (p : Program) (k : ℕ) → trace_line p k ≢ Some []
unfolding trace_line
some_line p k = line_if (is_ended p k) (trace_line_at p k (state p k)) (some_turn k _ _ _ _)

-- the line of a step, and none behind the end
pub line_there : (p : Program) (k : ℕ) → is_ended p k ≡ false → trace_line p k ≡ Some (trace_line_at p k (state p k))
unfolding trace_line
line_there p k h = rw h refl

pub line_past : (p : Program) (k : ℕ) → is_ended p k ≡ true → trace_line p k ≡ None
unfolding trace_line
line_past p k h = rw h refl

-- whether it ended before a step
pub not_ended_first : (p : Program) → is_ended p 0 ≡ false
unfolding is_ended
not_ended_first p = refl

pub ended_next : (p : Program) (k : ℕ) → is_ended p (k + 1) ≡ is_stop (turn_at p (state p k))
unfolding is_ended
ended_next p k = rw add-one refl

-- no step before one of a history's instructions ended it
pub not_ended_at : (p : Program) (n : ℕ) → HasInstructions p n → is_ended p n ≡ false
unfolding is_ended
not_ended_at p zero has = refl
not_ended_at p (suc k) has = has k (omega arith)

-- so each has its line, and so has the next step
some_there : (p : Program) (k : ℕ) → is_ended p k ≡ false → is_some (trace_line p k) ≡ true
some_there p k h = ap is_some (line_there p k h)

pub lines_there : (p : Program) (n : ℕ) → HasInstructions p n → HasLines (trace_line p) (n + 1)
lines_there p n has k less = some_there p k (not_ended_at p k (λ j h. has j (omega (arith, h, less))))

-- from its end on a history stays where it is
stop_stays : (p : Program) (n : ℕ) (turn : Turn) → turn_at p (state p n) ≡ turn → is_stop turn ≡ true →
    state p (suc n) ≡ state p n
unfolding state
stop_stays p n (stops how) e stop = rw e refl
stop_stays p n _ e stop = absurd cc

stays_stopped : (p : Program) (n more : ℕ) → is_stop (turn_at p (state p n)) ≡ true →
    is_stop (turn_at p (state p (n + more))) ≡ true
stays_stopped p n zero stop = let e : n ≡ n + 0 = omega arith in
    subst (λ k. is_stop (turn_at p (state p k)) ≡ true) e stop
stays_stopped p n (suc more) stop =
    let before = stays_stopped p n more stop in
    let e : suc (n + more) ≡ n + suc more = omega arith in
    subst (λ k. is_stop (turn_at p (state p k)) ≡ true) e
    (ap (λ s. is_stop (turn_at p s)) (stop_stays p (n + more) (turn_at p (state p (n + more))) refl before) ∙ before)

-- so there is no more text behind the line of the end
past_none : (p : Program) (n more : ℕ) → is_stop (turn_at p (state p n)) ≡ true → trace_line p (n + 1 + more) ≡ None
unfolding is_ended
past_none p n more stop =
    let e : suc (n + more) ≡ n + 1 + more = omega arith in
    line_past p (n + 1 + more) (subst (λ k. is_ended p k ≡ true) e (stays_stopped p n more stop))

text_stays : (p : Program) (n more : ℕ) → is_stop (turn_at p (state p n)) ≡ true →
    text_of_first (trace_line p) (n + 1 + more) ≡ text_of_first (trace_line p) (n + 1)
unfolding text_of_first
text_stays p n zero stop = let e : n + 1 + 0 ≡ n + 1 = omega arith in ap (text_of_first (trace_line p)) e
text_stays p n (suc more) stop =
    let e : n + 1 + suc more ≡ suc (n + 1 + more) = omega arith in
    ap (text_of_first (trace_line p)) e
    ∙ ap (λ o. text_of_first (trace_line p) (n + 1 + more) ++ unwrap_or o []) (past_none p n more stop)
    ∙ append-nil (text_of_first (trace_line p) (n + 1 + more))
    ∙ text_stays p n more stop

pub text_past : (p : Program) (n limit : ℕ) → is_stop (turn_at p (state p n)) ≡ true → n < limit →
    text_of_first (trace_line p) (n + 1) ≡ text_of_first (trace_line p) limit
text_past p n limit stop early =
    let e : n + 1 + (limit - n - 1) ≡ limit = omega (arith, early) in
    sym (text_stays p n (limit - n - 1) stop) ∙ ap (text_of_first (trace_line p)) e
