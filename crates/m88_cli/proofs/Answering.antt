-- What the program answers, by its status.
use Rattle.std.proofs.Common.{◌≡◌, ◌≢◌, ◌<◌, ◌≤◌, ◌+◌, ◌⊎◌, ℕ, List, [], Option, Some, None, Bool, true, false, IfSome, ap, arith, inl, inr, length, length-append, refl, subst, sym, ◌∙◌}
use Rattle.std.specs.Prelude.{MatchBool, MatchOption, if◌then◌else◌, is_none}
use Rattle.std.specs.Io.KnownBytes.{Consumes}
use Rattle.m88_base.specs.Filter.{IsInputLeft}
use Rattle.m88_base.specs.Outside.{TakesExactly}
use Rattle.m88_base.specs.Reading.{most_input}
use Rattle.m88_base.specs.Status.{Answers, IsOfReading, WritesNothing}
use Rattle.m88_base.specs.declared.refused.Refused.{Refused as Told}
use Rattle.m88_base.specs.declared.status.Status.{Status}
use Rattle.m88_base.specs.declared.status.Status.TheVariants.{Done, Memory, Refused, SinkFault, SourceFault, TooLong, Usage}
use Rattle.m88_commands.specs.Command.{Command, reads_input}
use Rattle.m88_commands.specs.Inputs.{left_for}
use Rattle.m88_commands.specs.Status.{ShowsNothing}

-- words that spell no command are no fault of a source, nor a byte too many
pub of_words : (Usage ≢ SourceFault) × (Usage ≢ TooLong)
of_words = (λ e. absurd cc, λ e. absurd cc)

-- want of memory is no fault of a source, nor a byte too many
pub only_memory : (status : Status) → status ≡ Memory → (status ≢ SourceFault) × (status ≢ TooLong)
only_memory status e =
    (λ other. absurd (let clash : Memory ≡ SourceFault = sym e ∙ other in cc), λ other. absurd (let clash : Memory ≡ TooLong = sym e ∙ other in cc))

-- nor is anything else with which something was written
pub not_of_source : (status : Status) → ¬ WritesNothing status → (status ≢ SourceFault) × (status ≢ TooLong)
not_of_source status some = (λ e. some (subst WritesNothing (sym e) tt), λ e. some (subst WritesNothing (sym e) tt))

-- no more was taken from a source than the input that it had
no_longer : (old new : Option (List ℕ)) (input : List ℕ) → old ≡ Some input → length input ≤ most_input
    → TakesExactly old new (most_input + 1) → ⊥
no_longer old None input had short takes = absurd (subst (λ o. Consumes o None takes.0) had takes.1)
no_longer old (Some left) input had short takes =
    let all : Consumes (Some input) (Some left) takes.0 = subst (λ o. Consumes o (Some left) takes.0) had takes.1 in
    let long : length input ≡ length takes.0 + length left = ap length all ∙ length-append takes.0 left in
    let taken = takes.2 in
    absurd (omega (arith, long, taken, short))

-- an input that isn't too long isn't taken for one that is
not_longer : (reads : Bool) (before after : Option (List ℕ)) (input : List ℕ)
    → IsInputLeft (if reads then before else Some []) input
    → TakesExactly before after (most_input + 1) → (reads ≡ false → TooLong ≡ Memory) → ⊥
not_longer true before after input holds takes none = no_longer before after input holds.0 holds.1 takes
not_longer false before after input holds takes none = absurd (let clash = none refl in cc)

-- a call without a reply, whose source didn't fail and whose input isn't too long, answers that memory ran out
pub unanswered : (Accepted : Type 0) (command : Command) (before after : Option (List ℕ)) (input : List ℕ) (status : Status)
    → IsInputLeft (left_for command before) input → IsOfReading status → (status ≡ SourceFault → ⊥)
    → (status ≡ TooLong → TakesExactly before after (most_input + 1)) → (reads_input command ≡ false → status ≡ Memory)
    → Answers Accepted status
unanswered Accepted command before after input SourceFault holds of sound long none = absurd (sound refl)
unanswered Accepted command before after input Memory holds of sound long none = inl refl
unanswered Accepted command before after input TooLong holds of sound long none =
    absurd (not_longer (reads_input command) before after input holds (long refl) none)
unanswered Accepted command before after input _ holds of sound long none = absurd of

-- nor did it refuse
pub not_refused : (status : Status) → IsOfReading status → status ≢ Refused
not_refused status of = λ e. subst IsOfReading e of

-- a program that wrote and of which nobody was shown anything refused its input
pub shows_refused : (s : Status) → ¬ WritesNothing s → ShowsNothing s → s ≡ Refused
shows_refused Refused some none = refl
shows_refused Done some none = absurd none
shows_refused SinkFault some none = absurd none
shows_refused Memory some none = absurd none
shows_refused _ some none = absurd (some tt)

-- so the watch is as it was
pub watch_unshown : (refused : Option Told) (Shown Same : Type 0) → is_none refused ≡ false → MatchOption refused Shown (λ told. Same) → Same
watch_unshown None Shown Same e h = absurd cc
watch_unshown (Some told) Shown Same e h = h
