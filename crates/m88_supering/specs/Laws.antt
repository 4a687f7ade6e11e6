-- What holds of every input and of every entry by a fault: an input is accepted or refused, and it has one text, which
-- says that the entry was kept exactly where it was.
use Rattle.std.specs.Prelude.{ℕ, ◌≡◌, ◌↔◌, ◌++◌, List, codes}
use Rattle.m88_base.specs.Lines.{line_end}
use Rattle.m88_base.specs.OneVerdict.{HasOneFaultUnless}
use Rattle.m88_entries.specs.Left.{fault_of, fault_text}
use Rattle.m88_entries.specs.Told.{Told}
use Rattle.m88_handler.specs.Judging.{LeavesAlike, came_of}
use Rattle.m88_isa.specs.Machine.{Program}
use Rattle.m88_supering.specs.Answer.{IsAccepted, IsAnswer, IsRefused}
use Rattle.m88_supering.specs.declared.request.Request.{Request}

-- the first line says that the entry was kept
pub record SaysKept (text : List ℕ) : Type 0 where
  pub rest : List ℕ
  pub is_text : text ≡ codes "entry kept" ++ line_end ++ rest

-- it says so exactly where the handler returned, could return, and left what the monitor's own service leaves
abbrev pub EachIsKeptWhereAlike : Type 0
EachIsKeptWhereAlike =
    (p : Program) (steps : ℕ) (t : Told)
    → SaysKept (fault_text p steps t) ↔ LeavesAlike (came_of p steps (fault_of t)) (fault_of t)

-- what holds of all of them
pub record HandlerLaws : Type 0 where
  -- an input is accepted, or refused for one reason, never both; and no two texts answer it
  pub one_verdict : (request : Request) (input : List ℕ)
      → HasOneFaultUnless (IsAccepted request input) (IsRefused request input)
  pub one_text : (request : Request) (input a b : List ℕ) → IsAnswer request input a → IsAnswer request input b → a ≡ b
  -- a text says `kept` exactly where the handler left what the monitor's own service leaves
  pub kept : EachIsKeptWhereAlike
