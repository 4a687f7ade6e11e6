-- The turns of the reader's loop: a line that is taken, one that is refused, and the end.
use Rattle.std.proofs.Common.{◌≡◌, ℕ, ◌+◌, List, [], ◌∷◌, length, arith, sym, refl, ap, ◌∙◌, inl, inr}
use Rattle.std.specs.Prelude.{Result, Ok, Err, ◌⊎◌, IfOk, MatchResult}
use Rattle.m88_srec.specs.Accepted.{IsAccepted, Whole, whole_of}
use Rattle.m88_srec.specs.GivesVerdict.{GivesVerdict, no_memory}
use Rattle.m88_srec.specs.Inside.Loads.{fault_of_line}
use Rattle.m88_srec.specs.Verdict.{Load, ended_on, go_on, judged, verdict, verdict_from}
use Rattle.m88_base.specs.Image.{ProgramImage}
use Rattle.m88_base.specs.Lines.{lines_of}
use Rattle.m88_srec.proofs.Law.{is_accepted, verdict_takes}
use Rattle.m88_srec.specs.declared.fault.SrecFault.{SrecFault}
use Rattle.m88_srec.specs.declared.fault.SrecKind.{SrecKind}
use Rattle.m88_srec.specs.declared.fault.SrecKind.TheVariants.{Memory}

-- the verdict on lines of which the first is known
first_judged : (number : ℕ) (load : Load) (line : List ℕ) (lines all : List (List ℕ)) (r : Result Whole SrecFault) (j : Result Load SrecKind)
    → all ≡ line ∷ lines → judged load line ≡ j → verdict_from number load all ≡ r
    → go_on number j (λ later. verdict_from (number + 1) later lines) ≡ r
unfolding verdict_from
first_judged number load line lines all r j all_is e h =
    sym (ap (λ k. go_on number k (λ later. verdict_from (number + 1) later lines)) e) ∙ sym (ap (verdict_from number load) all_is) ∙ h

pub taken : (number : ℕ) (load later : Load) (line : List ℕ) (lines all : List (List ℕ)) (r : Result Whole SrecFault)
    → all ≡ line ∷ lines → judged load line ≡ Ok later → verdict_from number load all ≡ r → verdict_from (number + 1) later lines ≡ r
taken number load later line lines all r all_is e h = first_judged number load line lines all r (Ok later) all_is e h

pub not_memory : (number : ℕ) (kind : SrecKind)
    → (fault_of_line number kind ≡ no_memory) ⊎ (fault_of_line number kind ≡ record { line = number; kind = kind })
not_memory number Memory = inl refl
not_memory number _ = inr refl

pub refused : (number : ℕ) (load : Load) (line : List ℕ) (lines all : List (List ℕ)) (r : Result Whole SrecFault) (kind : SrecKind)
    → all ≡ line ∷ lines → (kind ≡ Memory) ⊎ (judged load line ≡ Err kind) → verdict_from number load all ≡ r
    → (fault_of_line number kind ≡ no_memory) ⊎ (r ≡ Err (fault_of_line number kind))
refused number load line lines all r kind all_is (inl memory) h = inl (ap (fault_of_line number) memory)
refused number load line lines all r kind all_is (inr e) h =
    let told : Err (record { line = number; kind = kind }) ≡ r = first_judged number load line lines all r (Err kind) all_is e h in
    elim (not_memory number kind) [
      | inl none ↦ inl none
      | inr some ↦ inr (sym told ∙ ap Err (sym some))
    ]

pub at_end : (number : ℕ) (load : Load) (all : List (List ℕ)) (r : Result Whole SrecFault) → all ≡ [] → verdict_from number load all ≡ r
    → ended_on number load.loaded load.start ≡ r
unfolding verdict_from
at_end number load all r all_is h = sym (ap (verdict_from number load) all_is) ∙ h

pub no_lines : (bytes : List ℕ) → length bytes ≡ 0 → lines_of bytes ≡ []
unfolding lines_of
no_lines [] e = refl
no_lines (b ∷ bs) e = absurd (omega arith)

-- what is read against the texts that are accepted
pub reads_accepted : (r : Result ProgramImage SrecFault) (text : List ℕ) → GivesVerdict whole_of r (verdict text)
    → IfOk r (λ image. IsAccepted text (whole_of image))
reads_accepted (Ok image) text e = is_accepted text (whole_of image) e
reads_accepted (Err fault) text e = tt

pub reads_only : (r : Result ProgramImage SrecFault) (text : List ℕ) → GivesVerdict whole_of r (verdict text)
    → (whole : Whole) → IsAccepted text whole
    → MatchResult r (λ image. whole_of image ≡ whole) (λ fault. fault ≡ no_memory)
reads_only (Ok image) text e whole a =
    let told = verdict_takes text whole a in
    let same : Ok (whole_of image) ≡ Ok whole = sym e ∙ told in cc
reads_only (Err fault) text (inl none) whole a = none
reads_only (Err fault) text (inr e) whole a =
    let told = verdict_takes text whole a in
    let same : Err fault ≡ Ok whole = sym e ∙ told in absurd cc
