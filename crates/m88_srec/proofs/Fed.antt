-- A loader that was fed a text, by the fault that it keeps.
use Rattle.std.proofs.Common.{◌≡◌, ℕ, List, ◌++◌, sym, subst, inl, inr}
use Rattle.std.specs.Prelude.{Option, Some, None, Result, Err, ◌⊎◌}
use Rattle.m88_base.specs.Image.{ProgramImage}
use Rattle.m88_srec.specs.Accepted.{whole_of}
use Rattle.m88_srec.specs.Begun.{Begun, HoldsFault, LeadsTo, StaysRefused}
use Rattle.m88_srec.specs.Fed.{IsFed, IsLedTo, LoaderView, begun_in}
use Rattle.m88_srec.specs.GivesVerdict.{GivesVerdict, no_memory}
use Rattle.m88_srec.specs.Inside.Taking.{at_text_end}
use Rattle.m88_srec.specs.Verdict.{verdict}
use Rattle.m88_srec.specs.declared.fault.SrecFault.{SrecFault}
use Rattle.m88_srec.proofs.Feeding.{finished_is, is_held}

-- no fault is kept
pub led : (inside seen : LoaderView) (text : List ℕ) → inside ≡ seen → inside.fault ≡ None → IsFed text seen
    → LeadsTo text (begun_in inside)
led inside seen text view none h =
    subst (λ (o : Option SrecFault). IsLedTo o text (begun_in inside)) none (subst (IsFed text) (sym view) h)

-- one is kept
pub refused_by : (inside seen : LoaderView) (text : List ℕ) (fault : SrecFault) → inside ≡ seen
    → inside.fault ≡ Some fault → IsFed text seen → (fault ≡ no_memory) ⊎ StaysRefused text fault
refused_by inside seen text fault view some h =
    subst (λ (o : Option SrecFault). IsLedTo o text (begun_in inside)) some (subst (IsFed text) (sym view) h)

-- what one piece may come to, from wherever a text led
pub refused_now : (text piece : List ℕ) (b : Begun) (fault : SrecFault) → LeadsTo text b
    → (fault ≡ no_memory) ⊎ ((before : List ℕ) → LeadsTo before b → StaysRefused (before ++ piece) fault)
    → (fault ≡ no_memory) ⊎ StaysRefused (text ++ piece) fault
refused_now text piece b fault t (inl none) = inl none
refused_now text piece b fault t (inr stays) = inr (stays text t)

-- and it is the answer
pub answered : (text : List ℕ) (fault : SrecFault) → (fault ≡ no_memory) ⊎ StaysRefused text fault
    → (fault ≡ no_memory) ⊎ HoldsFault text fault
answered text fault (inl none) = inl none
answered text fault (inr stays) = inr (is_held text fault stays)

-- also where the text ends
pub refused_at_end : (text : List ℕ) (fault : SrecFault) → (fault ≡ no_memory) ⊎ StaysRefused text fault
    → (fault ≡ no_memory) ⊎ (verdict text ≡ Err fault)
refused_at_end text fault (inl none) = inl none
refused_at_end text fault (inr stays) = inr (is_held text fault stays).0

-- the image of a text that ended
pub ended_there : (text : List ℕ) (b : Begun) (result : Result ProgramImage SrecFault) → LeadsTo text b
    → GivesVerdict whole_of result (at_text_end b) → GivesVerdict whole_of result (verdict text)
ended_there text b result t h = subst (GivesVerdict whole_of result) (finished_is text b t) h
