-- The verdict on an input, by what was read of it.
use Rattle.std.specs.Prelude.{ℕ, List, [], ◌++◌, ◌≡◌, ◌<◌, true, Option, Some, None, IfOk, Result, Ok, Err, codes, length}
use Rattle.std.specs.Option.{option_or}
use Rattle.std.proofs.Common.{refl, sym, ap, ◌∙◌, arith, subst, length-append}
use Rattle.m88_base.proofs.Laws.{AreVerdicts, denies, refuses_so, unrefused}
use Rattle.m88_base.specs.Lines.{line_end, lines_of}
use Rattle.m88_base.specs.Refused.{placed_reason}
use Rattle.m88_base.specs.Refusal.{refusal_line}
use Rattle.m88_base.specs.Reply.{IsRefusalOf, accepts}
use Rattle.m88_base.specs.declared.failing.NoMemory.{NoMemory}
use Rattle.m88_base.specs.declared.reply.Reply.{Reply}
use Rattle.m88_serving.specs.Cases.{Case, case_in}
use Rattle.m88_serving.specs.Faults.{case_fault, fault_of_kind, record_fault, repeated_from, serve_reason}
use Rattle.m88_serving.specs.Served.{IsCaseRefusal, IsServed, IsTurnedDown, served_text, turned_down}
use Rattle.m88_serving.specs.Serving.{named_bus, serving_with}
use Rattle.m88_serving.specs.Verdict.{faultless, case_verdict, serve_verdict}
use Rattle.m88_serving.specs.Inside.Replies.{RepliesServed}
use Rattle.m88_serving.specs.declared.fault.ServeFault.{ServeFault}
use Rattle.m88_serving.specs.declared.fault.ServeKind.TheVariants as kind

-- the four ways of it
pub misformed : (input : List ℕ) (number : ℕ) → case_in (lines_of input) ≡ Err number → serve_verdict input ≡ Err (record { line = number; kind = kind.Form })
unfolding serve_verdict
misformed input number read = ap case_verdict read

pub faulty : (input : List ℕ) (c : Case) (fault : ServeFault) → case_in (lines_of input) ≡ Ok c → record_fault c.fault ≡ Some fault → serve_verdict input ≡ Err fault
unfolding serve_verdict case_fault
faulty input c fault read found =
    ap case_verdict read ∙ ap (λ o. faultless c (option_or o (fault_of_kind kind.Twice (repeated_from 5 [] c.words)))) found

pub repeated : (input : List ℕ) (c : Case) (number : ℕ) → case_in (lines_of input) ≡ Ok c → record_fault c.fault ≡ None
    → repeated_from 5 [] c.words ≡ Some number → serve_verdict input ≡ Err (record { line = number; kind = kind.Twice })
unfolding serve_verdict case_fault
repeated input c number read none again =
    ap case_verdict read ∙ ap (λ o. faultless c (option_or o (fault_of_kind kind.Twice (repeated_from 5 [] c.words)))) none
    ∙ ap (λ o. faultless c (fault_of_kind kind.Twice o)) again

pub accepted : (input : List ℕ) (c : Case) → case_in (lines_of input) ≡ Ok c → record_fault c.fault ≡ None → repeated_from 5 [] c.words ≡ None
    → serve_verdict input ≡ Ok c
unfolding serve_verdict case_fault
accepted input c read none once =
    ap case_verdict read ∙ ap (λ o. faultless c (option_or o (fault_of_kind kind.Twice (repeated_from 5 [] c.words)))) none
    ∙ ap (λ o. faultless c (fault_of_kind kind.Twice o)) once

-- what was accepted has a record without a fault
no_fault : (c told : Case) (a b : Option ServeFault) → faultless c (option_or a b) ≡ Ok told → (c ≡ told) × (a ≡ None)
no_fault c told (Some fault) b e = absurd cc
no_fault c told None None e = (cc, refl)
no_fault c told None (Some fault) e = absurd cc

told_of_case : (c : Result Case ℕ) (told : Case) → case_verdict c ≡ Ok told → record_fault told.fault ≡ None
unfolding case_fault
told_of_case (Err number) told e = absurd cc
told_of_case (Ok c) told e =
    let none = no_fault c told (record_fault c.fault) (fault_of_kind kind.Twice (repeated_from 5 [] c.words)) e in
    ap (λ (d : Case). record_fault d.fault) (sym none.0) ∙ none.1

pub accepted_record : (input : List ℕ) (told : Case) → serve_verdict input ≡ Ok told → record_fault told.fault ≡ None
unfolding serve_verdict
accepted_record input told e = told_of_case (case_in (lines_of input)) told e

-- the replies, where there was memory for one
pub refused_reply : (input : List ℕ) (fault : ServeFault) (result : Result Reply NoMemory) → serve_verdict input ≡ Err fault
    → IfOk result (IsRefusalOf (turned_down fault)) → IfOk result (RepliesServed input)
refused_reply input fault (Ok reply) refused is = (
  rw (denies (turned_down fault) reply is) (record { fault = fault; refused = refused; is_text = is.line }),
  refuses_so (turned_down fault) reply is (IsCaseRefusal input) (record { fault = fault; refused = refused; is = refl }),
)
refused_reply input fault (Err e) refused is = tt

pub accepted_reply : (input : List ℕ) (c : Case) (bus : ℕ → ℕ) (result : Result Reply NoMemory) → serve_verdict input ≡ Ok c → bus ≡ named_bus c.words
    → IfOk result (λ reply. accepts reply ≡ true)
    → IfOk result (λ reply. reply.text.items ≡ served_text (serving_with c.fault bus)) → IfOk result (RepliesServed input)
accepted_reply input c bus (Ok reply) accepted named granted is = (
  rw granted (record {
    told = c;
    accepted = accepted;
    is_text = is ∙ ap (λ b. served_text (serving_with c.fault b)) named;
  }),
  unrefused reply (IsCaseRefusal input) granted,
)
accepted_reply input c bus (Err e) accepted named granted is = tt

-- an input isn't accepted and refused
pub not_both : (input : List ℕ) (told : Case) (fault : ServeFault) → serve_verdict input ≡ Ok told → serve_verdict input ≡ Err fault → ⊥
not_both input told fault granted denied = let e : Ok told ≡ Err fault = sym granted ∙ denied in absurd cc

-- the line of a refusal has a byte
fault_line_some : (fault : ServeFault) → 0 < length (refusal_line (turned_down fault))
fault_line_some fault =
    omega (arith, length-append (codes "refused ") (placed_reason fault.line 1 (serve_reason fault.kind) ++ line_end))

pub turned_down_some : (input text : List ℕ) → IsTurnedDown input text → 0 < length text
turned_down_some input text h = subst (λ (t : List ℕ). 0 < length t) (sym h.is_text) (fault_line_some h.fault)

-- an input that is refused has one line
pub serve_verdicts : AreVerdicts IsServed IsTurnedDown
serve_verdicts = record {
  not_both = λ input a b served down. not_both input served.told down.fault served.accepted down.refused;
  one_refusal = λ input a b x y.
      let e : Err x.fault ≡ Err y.fault = sym x.refused ∙ y.refused in
      let same : x.fault ≡ y.fault = cc in
      x.is_text ∙ ap (λ (f : ServeFault). refusal_line (turned_down f)) same ∙ sym y.is_text;
}
