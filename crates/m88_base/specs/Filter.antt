-- What a filter does, a program between a source and a sink. Of a source or a sink that doesn't tell its bytes or its
-- calls, nothing is said of these.
use Rattle.std.specs.Prelude.{ℕ, ◌≡◌, ◌≢◌, ◌↔◌, ◌⊎◌, ◌+◌, ◌≤◌, List, Option, Some, MatchOption, length}
use Rattle.std.specs.Io.KnownBytes.{Appends}
use Rattle.m88_base.specs.Calls.{CallsWithin}
use Rattle.m88_base.specs.Causes.{Rose}
use Rattle.m88_base.specs.Outside.{AppendsPart, GivesAll, IsWhole, TakesAtMost, TakesExactly}
use Rattle.m88_base.specs.Reading.{most_input}
use Rattle.m88_base.specs.Status.{Answers, IsAnswered, WritesNothing}
use Rattle.m88_base.specs.declared.refused.Refused.{Refused as Told}
use Rattle.m88_base.specs.declared.reply.Answer.{Answer}
use Rattle.m88_base.specs.declared.status.Status.{Status}
use Rattle.m88_base.specs.declared.status.Status.TheVariants.{Done, Refused, SinkFault, SourceFault, TooLong, Usage}

-- what it does with its words: those that it doesn't take, and no others, are answered Usage, and then nothing is read
pub record UsageFor {S : Type 0} (Untaken : Type 0) (old new : S) (status : Status) : Type 0 where
  pub usage : (status ≡ Usage) ↔ Untaken
  pub unread : Untaken → new ≡ old

-- what it does to its source, where it ends with this status
pub record ReadsFor {S : Type 0} (left : S → Option (List ℕ)) (calls : S → Option ℕ) (faults : S → ℕ) (old new : S)
    (status : Status) : Type 0 where
  -- it makes at most two calls more than an input may have bytes
  pub reads : CallsWithin (most_input + 2) (calls old) (calls new)
  -- the source failed
  pub source_fault : status ≡ SourceFault → Rose (faults old) (faults new)
  -- the source has a byte too many: exactly then one more is taken than an input may have
  pub too_long : status ≡ TooLong → TakesExactly (left old) (left new) (most_input + 1)
  pub not_too_long : status ≢ TooLong → TakesAtMost (left old) (left new) most_input
  -- the input was answered, and no failure is passed over
  pub unfailed : IsAnswered status → faults new ≡ faults old

-- what it does to its sink, where it ends with this status
pub record WritesFor {K : Type 0} (faults : K → ℕ) (old new : K) (status : Status) : Type 0 where
  -- the sink failed
  pub sink_fault : status ≡ SinkFault → Rose (faults old) (faults new)
  -- the input was answered, and no failure is passed over
  pub unfailed : IsAnswered status → faults new ≡ faults old
  -- there is no text: nothing is written
  pub unwritten : WritesNothing status → new ≡ old

-- the sink was given the whole text behind what it held, by no more calls than the text has bytes
abbrev pub WritesText : {K : Type 0} → (K → Option (List ℕ)) → (K → Option ℕ) → K → K → List ℕ → Type 0
WritesText held calls old new text =
    Appends (held old) (held new) text × CallsWithin (length text) (calls old) (calls new)

-- it was given a front of the text that lacks at least one byte, by no more calls than the text has bytes
abbrev pub WritesPart : {K : Type 0} → (K → Option (List ℕ)) → (K → Option ℕ) → K → K → List ℕ → Type 0
WritesPart held calls old new text =
    AppendsPart (held old) (held new) text × CallsWithin (length text) (calls old) (calls new)

-- what the source has left is the input, and not too long
abbrev pub IsInputLeft : Option (List ℕ) → List ℕ → Type 0
IsInputLeft left input = (left ≡ Some input) × (length input ≤ most_input)

-- an input was answered: the source gave all that it had, the text is as told for it, and the sink was given the text
-- as told
pub record AnswersInput (before after : Option (List ℕ)) (IsText : List ℕ → List ℕ → Type 0)
    (SinkIsGiven : List ℕ → Type 0) : Type 0 where
  pub input : List ℕ
  pub given : GivesAll before after input
  pub text : List ℕ
  pub is_text : IsText input text
  pub written : SinkIsGiven text

-- what it answers, where it ends with this status: an input that is accepted has a text, and one that is refused
pub record AnswersFor {S K : Type 0} (left : S → Option (List ℕ)) (held : K → Option (List ℕ)) (calls : K → Option ℕ)
    (source source_after : S) (sink sink_after : K) (AcceptedWith RefusedWith : List ℕ → List ℕ → Type 0)
    (status : Status) : Type 0 where
  -- the input was read to its end and is accepted, and the sink was given its text
  pub done : status ≡ Done
      → AnswersInput (left source) (left source_after) AcceptedWith (WritesText held calls sink sink_after)
  -- the input was read to its end and is refused, and the sink was given the text that says so
  pub refused : status ≡ Refused
      → AnswersInput (left source) (left source_after) RefusedWith (WritesText held calls sink sink_after)
  -- an input whose refusal stands whole in the sink was refused
  pub refusal : (input text : List ℕ) → RefusedWith input text → left source ≡ Some input
      → IsWhole (held sink) (held sink_after) text → status ≡ Refused
  -- the sink failed, and was given a front of either text that lacks at least one byte
  pub part : status ≡ SinkFault
      → AnswersInput (left source) (left source_after) (λ input text. AcceptedWith input text ⊎ RefusedWith input text)
      (WritesPart held calls sink sink_after)

-- what it answers to an input where neither its source nor its sink failed: Done if that is accepted, Refused if it is
-- not, or Memory
abbrev pub AnswersUnfailed : {S K : Type 0} → (S → ℕ) → (K → ℕ) → S → S → K → K → (List ℕ → Type 0) → (List ℕ → Type 0)
    → Status → Type 0
AnswersUnfailed source_faults sink_faults source source_after sink sink_after IsInput IsAccepted status =
    (input : List ℕ) → IsInput input → ¬ Rose (source_faults source) (source_faults source_after)
    → ¬ Rose (sink_faults sink) (sink_faults sink_after) → Answers (IsAccepted input) status

-- what is answered of a refusal: none where the filter ends with any other status; else the input was read to its end,
-- and is refused so
abbrev pub TellsRefused : {S : Type 0} → (S → Option (List ℕ)) → S → S → (List ℕ → Told → Type 0) → Answer → Type 0
TellsRefused left source source_after IsRefusedSo answer =
    MatchOption answer.refused (answer.status ≢ Refused)
    (λ told. (answer.status ≡ Refused) × (input : List ℕ) × GivesAll (left source) (left source_after) input
    × IsRefusedSo input told)

-- what a filter does with its words, its source and its sink, where it ends with this status
pub record Filters {S K : Type 0} (left : S → Option (List ℕ)) (source_calls : S → Option ℕ) (source_faults : S → ℕ)
    (held : K → Option (List ℕ)) (sink_calls : K → Option ℕ) (sink_faults : K → ℕ) (source source_after : S)
    (sink sink_after : K) (Untaken : Type 0) (AcceptedWith RefusedWith : List ℕ → List ℕ → Type 0)
    (status : Status) : Type 0 where
  -- the words that it doesn't take are answered Usage, and no others; then nothing is read
  pub usage : UsageFor Untaken source source_after status
  -- it makes at most two calls more of the source than an input may have bytes; a source or a sink is blamed only for
  -- what it did, and no failure is passed over; without a text nothing is written
  pub reading : ReadsFor left source_calls source_faults source source_after status
  pub writing : WritesFor sink_faults sink sink_after status
  -- it ends with Done or Refused by what the input is, which was read to its end, and the sink was given the text for
  -- that; where the sink failed it was given a front of the text
  pub answers : AnswersFor left held sink_calls source source_after sink sink_after AcceptedWith RefusedWith status
