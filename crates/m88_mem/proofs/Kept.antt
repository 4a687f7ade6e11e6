-- Instructions and words that are kept.
use Rattle.std.specs.Prelude.{ℕ, zero, suc, List, [], ◌∷◌, Option, Some, None, ◌≡◌, ◌⊎◌, ◌<◌, IfSome, length, slice_get, slice_set}
use Rattle.std.specs.List.{AllByRecursion}
use Rattle.std.proofs.Common.{arith, ap, get_or, sym, subst, inl, inr}
use Rattle.m88_base.specs.Image.{ProgramImage}
use Rattle.m88_mem.specs.DataBus.{image_bus}
use Rattle.m88_mem.specs.Inside.Lines.{AreLines}
use Rattle.m88_mem.specs.Inside.Reads.{AreReads}
use Rattle.m88_mem.specs.Lines.{IsLine}
use Rattle.m88_mem.specs.declared.lines.Line.{Line}
use Rattle.m88_mem.specs.declared.reads.Read.{Read}

-- what holds of all holds of each
pub all_at : {A : Type 0} (P : A → Type 0) (xs : List A) (k : ℕ) (v : A) → AllByRecursion P xs → slice_get xs k ≡ Some v → P v
all_at P [] k v all e = absurd cc
all_at P (x ∷ xs) zero v all e = let same : x ≡ v = cc in subst P same all.0
all_at P (x ∷ xs) (suc k) v all e = all_at P xs k v all.1 e

-- what stands at a place once one of them is changed
set_or_there : {A : Type 0} (xs : List A) (p k : ℕ) (v w : A) → slice_get (slice_set xs p v) k ≡ Some w →
    (w ≡ v) ⊎ (slice_get xs k ≡ Some w)
set_or_there [] p k v w e = inr e
set_or_there (x ∷ xs) zero zero v w e = inl cc
set_or_there (x ∷ xs) zero (suc k) v w e = inr e
set_or_there (x ∷ xs) (suc p) zero v w e = inr e
set_or_there (x ∷ xs) (suc p) (suc k) v w e = set_or_there xs p k v w e

pub one_more_kept : (image : ProgramImage) (lines : List (Option Line)) (place : ℕ) (line : Line) → IsLine image line →
    AreLines image lines → AreLines image (slice_set lines place (Some line))
one_more_kept image lines place line is are k other found =
    elim (set_or_there lines place k (Some line) (Some other) found) [
      | inl same ↦ let equal : line ≡ other = cc in subst (λ (l : Line). IsLine image l) equal is
      | inr there ↦ are k other there
    ]

-- the same of a word
pub one_more_read : (image : ProgramImage) (reads : List (Option Read)) (place : ℕ) (read : Read) →
    read.word ≡ image_bus image read.addr → AreReads image reads → AreReads image (slice_set reads place (Some read))
one_more_read image reads place read is are k other found =
    elim (set_or_there reads place k (Some read) (Some other) found) [
      | inl same ↦
          let equal : read ≡ other = cc in subst (λ (r : Read). r.word ≡ image_bus image r.addr) equal is
      | inr there ↦ are k other there
    ]

-- what an index shows stands there
pub stands_there : {A : Type 0} (xs : List A) (k : ℕ) (v : A) → k < length xs → v ≡ get_or xs k v →
    slice_get xs k ≡ Some v
stands_there [] k v below e = absurd (omega arith)
stands_there (x ∷ xs) zero v below e = ap Some (sym e)
stands_there (x ∷ xs) (suc k) v below e = stands_there xs k v (omega (arith, below)) e

-- an instruction that is kept of an address is the image's
pub line_of : (image : ProgramImage) (lines : List (Option Line)) (addr : ℕ) (found : Option Line) →
    AreLines image lines →
    IfSome found (λ line. (line.addr ≡ addr) × ((other : ProgramImage) → AreLines other lines → IsLine other line)) →
    IfSome found (λ line. (line.addr ≡ addr) × IsLine image line)
line_of image lines addr None are h = tt
line_of image lines addr (Some line) are h = (h.0, h.1 image are)
