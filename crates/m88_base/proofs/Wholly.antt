-- Where a text stands whole behind what a sink held, it was written whole; and how a program ends that wrote.
use Rattle.std.proofs.Common.{◌≡◌, ℕ, ◌<◌, ◌+◌, List, Option, Some, None, inl, inr, length, length-append, take, ap, refl, ◌∙◌, arith}
use Rattle.std.proofs.lemmas.List.{length-take-le}
use Rattle.m88_base.specs.Outside.{AppendsPart, IsWhole}
use Rattle.m88_base.specs.Status.{Answers, IsOfReading, WritesNothing}
use Rattle.m88_base.specs.declared.status.Status.{Status}
use Rattle.m88_base.specs.declared.status.Status.TheVariants.{Done, Usage, SourceFault, SinkFault, Refused, Memory, TooLong}

-- where nothing was written, no text stands whole
pub not_whole : (held : Option (List ℕ)) (text : List ℕ) → 0 < length text → IsWhole held held text → ⊥
not_whole None text some whole = whole
not_whole (Some old) text some whole =
    let same : length old ≡ length old + length text = ap length whole ∙ length-append old text in
    absurd (omega arith)

-- where a part was written, the text does not stand whole
pub not_part : (old new : Option (List ℕ)) (text : List ℕ) → AppendsPart old new text → IsWhole old new text → ⊥
not_part None new text part whole = whole
not_part (Some old) None text part whole = whole
not_part (Some old) (Some new) text part whole =
    let front : length (take part.0 text) ≡ part.0 = length-take-le part.0 text (omega (arith, part.1)) in
    let shorter : length new ≡ length old + length (take part.0 text) = ap length part.2 ∙ length-append old (take part.0 text) in
    let longer : length new ≡ length old + length text = ap length whole ∙ length-append old text in
    absurd (omega (arith, part.1))

-- where there is no text, nothing was written
pub none_of_reading : (status : Status) → IsOfReading status → WritesNothing status
none_of_reading SourceFault of = tt
none_of_reading TooLong of = tt
none_of_reading Memory of = tt
none_of_reading _ of = absurd of

-- a program that wrote ended in one of the three other ways
pub answered : (Accepted : Type 0) (status : Status) → ¬ WritesNothing status → (status ≡ Done → Accepted) → (status ≡ Refused → ¬ Accepted)
    → (status ≡ SinkFault → ⊥) → Answers Accepted status
answered Accepted Done some done refused failed = inr (inl (done refl, refl))
answered Accepted Usage some done refused failed = absurd (some tt)
answered Accepted SourceFault some done refused failed = absurd (some tt)
answered Accepted SinkFault some done refused failed = absurd (failed refl)
answered Accepted Refused some done refused failed = inr (inr (refused refl, refl))
answered Accepted Memory some done refused failed = absurd (some tt)
answered Accepted TooLong some done refused failed = absurd (some tt)

pub only_refused : (status : Status) → ¬ WritesNothing status → (status ≡ Done → ⊥) → (status ≡ SinkFault → ⊥) → status ≡ Refused
only_refused Done some done failed = absurd (done refl)
only_refused Usage some done failed = absurd (some tt)
only_refused SourceFault some done failed = absurd (some tt)
only_refused SinkFault some done failed = absurd (failed refl)
only_refused Refused some done failed = refl
only_refused Memory some done failed = absurd (some tt)
only_refused TooLong some done failed = absurd (some tt)
