-- A text is that of one list of sound objects, or has one first fault.
use Rattle.std.proofs.Common.{◌≡◌, ℕ, ◌+◌, List, inl, inr, refl}
use Rattle.std.specs.Prelude.{◌⊎◌, Result, Ok, Err}
use Rattle.m88_base.specs.OneVerdict.{HasOneVerdict}
use Rattle.m88_link.specs.declared.object.Object.{Object}
use Rattle.m88_link.specs.declared.object_fault.ObjectFault.{ObjectFault}
use Rattle.m88_link.specs.declared.object_fault.ObjectFault.TheVariants.{Form, Range, Memory}
use Rattle.m88_link.specs.Inside.Drafts.{nothing_read, read_from}
use Rattle.m88_link.specs.ObjectRead.{IsSoundText, IsTextFault, ended_lines}
use Rattle.m88_link.proofs.Judged.{read_refused}
use Rattle.m88_link.proofs.Soundness.{sound_or_not}
use Rattle.m88_link.proofs.Told.{range_told, sound_told, told_form, told_range, told_written}

-- objects as an answer to their text, and a fault as one
abbrev objects_read : List Object → Result (List Object) ObjectFault
objects_read objects = Ok objects

abbrev failed : ObjectFault → Result (List Object) ObjectFault
failed fault = Err fault

module _ (text : List ℕ) where
  -- a text is read or has a fault
  objects_or_fault : ((os : List Object) × IsSoundText os text) ⊎ ((fault : ObjectFault) × IsTextFault text fault)
  objects_or_fault = by_reading (read_from 1 nothing_read (ended_lines text)) refl
    where
      by_reading : (r : Result (List Object) ObjectFault) → read_from 1 nothing_read (ended_lines text) ≡ r
          → ((os : List Object) × IsSoundText os text) ⊎ ((fault : ObjectFault) × IsTextFault text fault)
      by_reading (Ok os) e = elim (sound_or_not os) [
        | inl sound ↦ inl (os, sound_told text os e sound)
        | inr found ↦ inr (Range (found.0 + 1), range_told text os e found.0 found.1)
      ]
      by_reading (Err fault) e = let k = read_refused text fault e in inr (Form k.0, k.2)

  -- not both
  no_fault : (os : List Object) (fault : ObjectFault) → IsSoundText os text → IsTextFault text fault → ⊥
  no_fault os (Form n) a form = told_form (λ (l : List Object). l) text (objects_read os) a n form
  no_fault os (Range n) a range = told_range (λ (l : List Object). l) text (objects_read os) a n range
  no_fault os Memory a none = none

  -- one of each
  one_list : (os ps : List Object) → IsSoundText os text → IsSoundText ps text → os ≡ ps
  one_list os ps a b = told_written (λ (l : List Object). l) text (objects_read os) a ps b

  only_told : (a b : ObjectFault) → IsTextFault text a → (a ≡ b) ⊎ (a ≡ Memory) → a ≡ b
  only_told a b first (inl same) = same
  only_told (Form n) b first (inr memory) = absurd cc
  only_told (Range n) b first (inr memory) = absurd cc
  only_told Memory b first (inr memory) = absurd first

  one_fault : (a b : ObjectFault) → IsTextFault text a → IsTextFault text b → a ≡ b
  one_fault a (Form n) h k = only_told a (Form n) h (told_form (λ (l : List Object). l) text (failed a) (inr h) n k)
  one_fault a (Range n) h k = only_told a (Range n) h (told_range (λ (l : List Object). l) text (failed a) (inr h) n k)
  one_fault a Memory h k = absurd k

  pub one_verdict : HasOneVerdict (λ os. IsSoundText os text) (IsTextFault text)
  one_verdict = record { some = objects_or_fault; not_both = no_fault; one_value = one_list; one_fault = one_fault }
