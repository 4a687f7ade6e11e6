-- A fault of a source is never want of memory, and one of a line that can't be cut never a name's.
use Rattle.std.proofs.Common.{◌≡◌, ◌⊎◌, inl, inr, ℕ, ◌+◌, List, [], ◌∷◌, length, Result, Ok, Err, IfErr}
use Rattle.m88_parse.specs.declared.fault.ParseKind.{ParseKind}
use Rattle.m88_parse.specs.declared.fault.ParseKind.TheVariants.{NotAscii, Syntax, NoSuchName, OutOfRange, Memory}
use Rattle.m88_parse.specs.declared.fault.ParseFault.{ParseFault}
use Rattle.m88_parse.specs.Fault.{out_of_memory, IsCutKind, IsSourceKind}
use Rattle.m88_parse.specs.Language.Pieces.{Piece}
use Rattle.m88_parse.specs.Language.LineFaults.{IsMisplaced, number_out_of_range, signed_out_of_range, no_such_name, other_token, IsFaultBehind, half_alone, misplaced, line_ends, IsLineFault, no_label, labelled_head, behind_label, without_label}
use Rattle.m88_parse.specs.Language.FirstFaults.{IsFlaw, foreign_byte, foreign_in_quotes, no_quoted_token, long_name, no_number, large_number, stray_byte, Breaks, IsTokenFault, FirstOf, uncut_line, faulty_line, later_line, IsFirstFault}

flaw_kind : {bytes : List ℕ} {at : ℕ} {kind : ParseKind} → IsFlaw bytes at kind → IsCutKind kind
flaw_kind (foreign_byte h) = tt
flaw_kind (foreign_in_quotes before b after q t p n) = tt
flaw_kind (no_quoted_token inside q t p n) = tt
flaw_kind (long_name run rest e r s d l) = tt
flaw_kind (no_number run rest e r s d n) = tt
flaw_kind (large_number run rest n e r s d l) = tt
flaw_kind (stray_byte s) = tt

breaks_kind : (ps : List Piece) (col : ℕ) (bytes : List ℕ) (at : ℕ) (kind : ParseKind) → Breaks col bytes ps at kind → IsCutKind kind
breaks_kind [] col bytes at kind h = flaw_kind h.flaw
breaks_kind (p ∷ ps) col bytes at kind h = breaks_kind ps (p.col + length p.text) h.0 at kind h.2

of_source : (kind : ParseKind) → IsCutKind kind → IsSourceKind kind
of_source NotAscii h = tt
of_source Syntax h = tt
of_source OutOfRange h = tt
of_source NoSuchName h = tt
of_source Memory h = h

misplaced_kind : {front : List Piece} {p : Piece} {at : ℕ} {kind : ParseKind} → IsMisplaced front p at kind → IsSourceKind kind
misplaced_kind (number_out_of_range n s) = tt
misplaced_kind (signed_out_of_range n s) = tt
misplaced_kind (no_such_name n) = tt
misplaced_kind (other_token n m) = tt

behind_kind : {front rest : List Piece} {at : ℕ} {kind : ParseKind} → IsFaultBehind front rest at kind → IsSourceKind kind
behind_kind (half_alone h) = tt
behind_kind (misplaced n h) = misplaced_kind h
behind_kind (line_ends before p n e) = tt

line_kind : {ps : List Piece} {at : ℕ} {kind : ParseKind} → IsLineFault ps at kind → IsSourceKind kind
line_kind (no_label c n) = tt
line_kind (labelled_head l n) = tt
line_kind (behind_label l n b) = behind_kind b.fault
line_kind (without_label n b) = behind_kind b.fault

first_kind : {number : ℕ} {lines : List (List ℕ)} {f : ParseFault} → FirstOf number lines f → IsSourceKind f.kind
first_kind (uncut_line {line = line} ps {at = at} {kind = kind} h) = of_source kind (breaks_kind ps 1 line at kind h)
first_kind (faulty_line ps t h) = line_kind h
first_kind (later_line ps said t h g) = first_kind g

-- what a call gives

pub cut_kinds : {V : Type 0} (number : ℕ) (line : List ℕ) (r : Result V ParseFault) → IfErr r (λ (e : ParseFault). (e ≡ out_of_memory) ⊎ IsTokenFault number line e) → IfErr r (λ (e : ParseFault). (e ≡ out_of_memory) ⊎ IsCutKind e.kind)
cut_kinds number line (Ok v) h = tt
cut_kinds number line (Err e) (inl h) = inl h
cut_kinds number line (Err e) (inr h) = inr (breaks_kind h.0 1 line e.col e.kind h.1)

pub source_kinds : {V : Type 0} (source : List ℕ) (r : Result V ParseFault) → IfErr r (λ (e : ParseFault). (e ≡ out_of_memory) ⊎ IsFirstFault source e) → IfErr r (λ (e : ParseFault). (e ≡ out_of_memory) ⊎ IsSourceKind e.kind)
source_kinds source (Ok v) h = tt
source_kinds source (Err e) (inl h) = inl h
source_kinds source (Err e) (inr h) = inr (first_kind h)
