-- What is told of a text against the texts that are read and the lines at which texts are refused.
use Rattle.std.proofs.Common.{◌≡◌, ℕ, ◌+◌, ◌<◌, ◌^◌, List, length, sym, ap, ◌∙◌, subst, arith, inl, inr}
use Rattle.std.specs.Prelude.{◌⊎◌, All, IfErr, IfOk, MatchResult, Result, Ok, Err}
use Rattle.m88_link.specs.declared.object.Object.{Object}
use Rattle.m88_link.specs.declared.object_fault.ObjectFault.{ObjectFault}
use Rattle.m88_link.specs.declared.object_fault.ObjectFault.TheVariants.{Form, Range, Memory}
use Rattle.m88_link.specs.Inside.Drafts.{AnswersText, nothing_read, read_from}
use Rattle.m88_link.specs.ObjectRead.{IsFirstUnsound, IsFormLine, IsRangeLine, IsSoundText, IsTextFault, RefusesText, ended_lines}
use Rattle.m88_link.specs.Sound.{IsSound}
use Rattle.m88_link.specs.Inside.Walked.{AreSoundParts, IsFoundObject, objects_count}
use Rattle.m88_link.proofs.Judged.{no_form_line, one_form_line, read_refused, read_written, written_read}
use Rattle.m88_link.proofs.Ranged.{all_sound_objects, count_within, found_below, found_is_first, not_sound, one_unsound_line}

module _ (text : List ℕ) where
  -- a text that is no text of objects
  pub form_told : (e : ObjectFault) → (e ≡ Memory) ⊎ (read_from 1 nothing_read (ended_lines text) ≡ Err e)
      → (e ≡ Memory) ⊎ IsTextFault text e
  form_told e (inl memory) = inl memory
  form_told e (inr h) =
      let k = read_refused text e h in
      inr (subst (IsTextFault text) (sym k.1) k.2)

  module _ (os : List Object) (e : read_from 1 nothing_read (ended_lines text) ≡ Ok os) where
    -- the lines of objects are no more than the bytes of their text
    pub few_enough : length text < 2 ^ 31 → objects_count os < 2 ^ 31
    few_enough short =
        let k = read_written text os e in
        let few = count_within os text k.0 k.1 in
        omega (arith, few, short)

    -- a text of sound objects
    pub sound_told : All AreSoundParts os → IsSoundText os text
    sound_told sound =
        let k = read_written text os e in
        record { have = k.0; sound = all_sound_objects os k.0.each sound; text_is = k.1 }

    -- a text of objects that aren't all sound
    pub range_told : (n : ℕ) → IsFoundObject os n → IsRangeLine text (n + 1)
    range_told n f =
        let k = read_written text os e in
        record { objects = os; have = k.0; text_is = k.1; first = found_is_first os n k.0.each f }

    -- its line is a number of 32 bits
    pub small_line : length text < 2 ^ 31 → (n : ℕ) → IsFoundObject os n → n < 2 ^ 31
    small_line short n f = let few = few_enough short in let low = found_below os n f in omega (arith, few, low)

-- two lists of objects with one text are one
same_objects : (text : List ℕ) (os ps : List Object) → read_from 1 nothing_read (ended_lines text) ≡ Ok os
    → read_from 1 nothing_read (ended_lines text) ≡ Ok ps → os ≡ ps
same_objects text os ps e f = let same : Ok os ≡ Ok ps = sym e ∙ f in cc

module _ {X : Type 0} (seen : X → List Object) (text : List ℕ) where
  -- a text of sound objects is read
  pub told_written : (r : Result X ObjectFault) → AnswersText seen text r → (os : List Object) → IsSoundText os text
      → MatchResult r (λ x. seen x ≡ os) (λ e. e ≡ Memory)
  told_written (Ok x) h os k =
      same_objects text (seen x) os (written_read text (seen x) h.have h.text_is) (written_read text os k.have k.text_is)
  told_written (Err e) (inl memory) os k = memory
  told_written (Err (Form n)) (inr h) os k = absurd (no_form_line text n os k.have k.text_is h)
  told_written (Err (Range n)) (inr h) os k =
      let same : h.objects ≡ os = same_objects text h.objects os (written_read text h.objects h.have h.text_is) (written_read text os k.have k.text_is) in
      absurd (not_sound h.objects n h.first (subst (All IsSound) (sym same) k.sound))
  told_written (Err Memory) (inr h) os k = absurd h

  -- a line that no text continues is told
  pub told_form : (r : Result X ObjectFault) → AnswersText seen text r → (n : ℕ) → IsFormLine text n → RefusesText r (Form n)
  told_form (Ok x) h n k = no_form_line text n (seen x) h.have h.text_is k
  told_form (Err e) (inl memory) n k = inr memory
  told_form (Err (Form m)) (inr h) n k = inl (ap Form (one_form_line text m n h k))
  told_form (Err (Range m)) (inr h) n k = absurd (no_form_line text n h.objects h.have h.text_is k)
  told_form (Err Memory) (inr h) n k = absurd h

  -- a line by which an object isn't sound is told
  pub told_range : (r : Result X ObjectFault) → AnswersText seen text r → (n : ℕ) → IsRangeLine text n → RefusesText r (Range n)
  told_range (Ok x) h n k =
      let same : k.objects ≡ seen x = same_objects text k.objects (seen x) (written_read text k.objects k.have k.text_is) (written_read text (seen x) h.have h.text_is) in
      not_sound k.objects n k.first (subst (All IsSound) (sym same) h.sound)
  told_range (Err e) (inl memory) n k = inr memory
  told_range (Err (Form m)) (inr h) n k = absurd (no_form_line text m k.objects k.have k.text_is h)
  told_range (Err (Range m)) (inr h) n k =
      let same : h.objects ≡ k.objects = same_objects text h.objects k.objects (written_read text h.objects h.have h.text_is) (written_read text k.objects k.have k.text_is) in
      inl (ap Range (one_unsound_line k.objects m n (subst (λ l. IsFirstUnsound l m) same h.first) k.first))
  told_range (Err Memory) (inr h) n k = absurd h

  -- what is read, and what is refused
  pub told_read : (r : Result X ObjectFault) → AnswersText seen text r → IfOk r (λ x. IsSoundText (seen x) text)
  told_read (Ok x) h = h
  told_read (Err e) h = tt

  pub told_refused : (r : Result X ObjectFault) → AnswersText seen text r → IfErr r (λ e. (e ≡ Memory) ⊎ IsTextFault text e)
  told_refused (Ok x) h = tt
  told_refused (Err e) h = h
