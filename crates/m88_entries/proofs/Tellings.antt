-- The verdict on what stands before the line `handler`, by its parts.
use Rattle.std.specs.Prelude.{ℕ, List, [], Some, None, Ok, Err, false, ◌≡◌, ◌+◌, length, replicate}
use Rattle.std.proofs.Common.{sym, ap, ◌∙◌}
use Rattle.m88_base.specs.Lines.{lines_of}
use Rattle.m88_serving.specs.Cases.{Case, case_in}
use Rattle.m88_serving.specs.Faults.{repeated_from}
use Rattle.m88_serving.specs.Told.{IsUntold}
use Rattle.m88_serving.specs.Verdict.{case_verdict, serve_verdict}
use Rattle.m88_serving.specs.declared.fault.ServeFault.{ServeFault}
use Rattle.m88_serving.specs.declared.fault.ServeKind.TheVariants as kind
use Rattle.m88_serving.specs.declared.telling.Untold.{Untold}
use Rattle.m88_serving.specs.declared.telling.Untold.TheVariants as untold
use Rattle.m88_entries.specs.ToldFaults.{IsUntoldAt}
use Rattle.m88_entries.specs.Told.{fault_part, given_by, once_told, register_part, registers_told, told_verdict, with_registers}

verdict_of : (faults registers : List (List ℕ)) (front rest : List ℕ) (n : ℕ) → lines_of front ≡ faults → lines_of rest ≡ registers
    → n ≡ length (lines_of front)
    → with_registers (length faults + 1) (case_verdict (case_in faults)) (registers_told (length faults + 1) registers)
    ≡ with_registers (n + 1) (serve_verdict front) (registers_told (n + 1) (lines_of rest))
unfolding serve_verdict
verdict_of faults registers front rest n f r count =
    sym (ap (λ k. with_registers (k + 1) (case_verdict (case_in (lines_of front))) (registers_told (k + 1) (lines_of rest))) count
    ∙ ap (λ ls. with_registers (length ls + 1) (case_verdict (case_in ls)) (registers_told (length ls + 1) (lines_of rest))) f
    ∙ ap (λ ls. with_registers (length faults + 1) (case_verdict (case_in faults)) (registers_told (length faults + 1) ls)) r)

module _ (before front rest : List ℕ) (n : ℕ) (f : lines_of front ≡ fault_part false (lines_of before))
    (r : lines_of rest ≡ register_part false (lines_of before)) (count : n ≡ length (lines_of front)) where
  pub verdict_by : told_verdict (lines_of before) ≡ with_registers (n + 1) (serve_verdict front) (registers_told (n + 1) (lines_of rest))
  unfolding told_verdict
  verdict_by = verdict_of (fault_part false (lines_of before)) (register_part false (lines_of before)) front rest n f r count

  -- the fault is refused
  pub refused_first : (fault : ServeFault) → serve_verdict front ≡ Err fault → told_verdict (lines_of before) ≡ Err fault
  refused_first fault e = verdict_by ∙ ap (λ v. with_registers (n + 1) v (registers_told (n + 1) (lines_of rest))) e

  pub untold_first : (e : Untold) → IsUntold front e → IsUntoldAt (told_verdict (lines_of before)) e
  untold_first (untold.Refused fault) h = refused_first fault h
  untold_first untold.Memory h = tt

  -- a line of a register isn't of the form
  pub refused_form : (c : Case) (at : ℕ) → serve_verdict front ≡ Ok c → registers_told (n + 1) (lines_of rest) ≡ Err at
      → told_verdict (lines_of before) ≡ Err (record { line = at; kind = kind.Form })
  refused_form c at e told =
      verdict_by ∙ ap (λ v. with_registers (n + 1) v (registers_told (n + 1) (lines_of rest))) e ∙ ap (with_registers (n + 1) (Ok c)) told

  -- a register is told twice
  pub refused_twice : (c : Case) (words : List (ℕ × ℕ)) (at : ℕ) → serve_verdict front ≡ Ok c → registers_told (n + 1) (lines_of rest) ≡ Ok words
      → repeated_from (n + 1) [] words ≡ Some at → told_verdict (lines_of before) ≡ Err (record { line = at; kind = kind.Twice })
  refused_twice c words at e told again =
      verdict_by ∙ ap (λ v. with_registers (n + 1) v (registers_told (n + 1) (lines_of rest))) e ∙ ap (with_registers (n + 1) (Ok c)) told
      ∙ ap (once_told c words) again

  -- all is told
  pub told_all : (c : Case) (words : List (ℕ × ℕ)) (given : List ℕ) → serve_verdict front ≡ Ok c → registers_told (n + 1) (lines_of rest) ≡ Ok words
      → repeated_from (n + 1) [] words ≡ None → given ≡ given_by (replicate 32 0) words
      → told_verdict (lines_of before) ≡ Ok (record { fault = c; given = given })
  told_all c words given e told once is =
      verdict_by ∙ ap (λ v. with_registers (n + 1) v (registers_told (n + 1) (lines_of rest))) e ∙ ap (with_registers (n + 1) (Ok c)) told
      ∙ ap (once_told c words) once ∙ ap (λ g. Ok (record { fault = c; given = g })) (sym is)
