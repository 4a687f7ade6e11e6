-- Statements that give the bytes of a part of an image, some of them to a name that means an address.
use Rattle.std.proofs.Common.{◌≡◌, ℕ, ◌+◌, ◌%◌, List, [], ◌∷◌, ◌++◌, length, ap, subst, ◌∙◌, arith, append_assoc, length-append}
use Rattle.std.specs.Prelude.{IfSome, None, Option, Some, false, true}
use Rattle.std.specs.List.{AllByRecursion}
use Rattle.m88_base.specs.Placed.{Placed}
use Rattle.m88_parse.specs.declared.unit.Body.TheVariants as body
use Rattle.m88_parse.specs.declared.unit.Statement.{Statement}
use Rattle.m88_link.specs.Field.{is_in_reach}
use Rattle.m88_link.specs.declared.object.Reloc.{Reloc}
use Rattle.m88_asm.specs.Counters.{Counters, at_section, length_at}
use Rattle.m88_asm.specs.Faults.{alignment_of}
use Rattle.m88_asm.specs.Filled.{filled_bytes}
use Rattle.m88_asm.specs.Objects.{declares, opened_by, sets_at, uses_in_body}
use Rattle.m88_disasm.specs.Read.{unlabelled}

-- what names stand for: a name and an address
abbrev pub Names : Type 1
Names = List ℕ → ℕ → Type 0

-- each name has the value that it stands for
abbrev pub Means : Names → (List ℕ → ℕ) → Type 0
Means Named value = (name : List ℕ) (a : ℕ) → Named name a → value name ≡ a

-- the use of a name, with nothing added to it, in a field at an address that can take what the name stands for
pub record IsUse (Named : Names) (at section offset : ℕ) (r : Reloc) : Type 0 where
  pub to : ℕ
  pub named : Named r.symbol to
  pub alone : r.addend ≡ 0
  pub section_is : r.section ≡ section
  pub offset_is : r.offset ≡ offset
  pub near : is_in_reach r.kind to at ≡ true

-- a statement that gives these bytes at an address, wherever it is laid out; its label, where it has one, stands for the
-- address
pub record Gives (Named : Names) (at : ℕ) (x : Statement) (given : List ℕ) : Type 0 where
  pub stays : (c : Counters) → at_section c x.body ≡ c
  pub length_is : (place : ℕ) → length_at place x.body ≡ length given
  pub stands : at % alignment_of x.body ≡ 0
  pub bytes_are : (value : List ℕ → ℕ) (place : ℕ) → Means Named value → filled_bytes value at place x.body ≡ given
  pub opens_none : opened_by x.line x.body ≡ []
  pub sets_none : sets_at x.line x.body ≡ []
  pub declares_none : (name : List ℕ) → declares name x.body ≡ false
  pub labelled : IfSome x.label (λ l. Named l.0 at)
  pub uses : (section offset : ℕ)
      → AllByRecursion (IsUse Named at section offset) (uses_in_body section offset x.line x.body)

-- statements that give bytes from an address on
pub data Data (Named : Names) : ℕ → List ℕ → List Statement → Type 0 where
  no_data : {at : ℕ} → Data Named at [] []
  more_data : {at : ℕ} {bytes : List ℕ} {x : Statement} {xs : List Statement} (given rest : List ℕ)
      → bytes ≡ given ++ rest
      → Gives Named at x given → Data Named (at + length given) rest xs → Data Named at bytes (x ∷ xs)

-- those of parts in turn, each behind its address
pub data PartsData (Named : Names) : List Placed → List Statement → Type 0 where
  no_parts : PartsData Named [] []
  more_parts : {run : Placed} {runs : List Placed} {xs : List Statement} (n : ℕ) (own more : List Statement)
      → xs ≡ unlabelled n (body.At run.at) ∷ (own ++ more) → Data Named run.at run.bytes own
      → PartsData Named runs more → PartsData Named (run ∷ runs) xs

-- statements that give names values
pub data Sets (Named : Names) : List Statement → Type 0 where
  no_set : Sets Named []
  a_set : {xs : List Statement} (n : ℕ) (name : List ℕ) (col value : ℕ) → Named name value → Sets Named xs
      → Sets Named (unlabelled n (body.Set name col value) ∷ xs)

-- names that stand for more
abbrev pub IsLess : Names → Names → Type 0
IsLess Named More = (name : List ℕ) (a : ℕ) → Named name a → More name a

label_more : (Named More : Names) (at : ℕ) (label : Option (List ℕ × ℕ)) → IsLess Named More
    → IfSome label (λ l. Named l.0 at) → IfSome label (λ l. More l.0 at)
label_more Named More at None less h = tt
label_more Named More at (Some l) less h = less l.0 at h

uses_more : (Named More : Names) (at section offset : ℕ) (us : List Reloc) → IsLess Named More
    → AllByRecursion (IsUse Named at section offset) us → AllByRecursion (IsUse More at section offset) us
uses_more Named More at section offset [] less h = tt
uses_more Named More at section offset (u ∷ us) less h = (
  record {
    to = h.0.to;
    named = less u.symbol h.0.to h.0.named;
    alone = h.0.alone;
    section_is = h.0.section_is;
    offset_is = h.0.offset_is;
    near = h.0.near;
  },
  uses_more Named More at section offset us less h.1,
)

gives_more : (Named More : Names) (at : ℕ) (x : Statement) (given : List ℕ) → IsLess Named More
    → Gives Named at x given → Gives More at x given
gives_more Named More at x given less g = record {
  stays = g.stays;
  length_is = g.length_is;
  stands = g.stands;
  bytes_are = λ value place means. g.bytes_are value place (λ name a named. means name a (less name a named));
  opens_none = g.opens_none;
  sets_none = g.sets_none;
  declares_none = g.declares_none;
  labelled = label_more Named More at x.label less g.labelled;
  uses = λ section offset.
      uses_more Named More at section offset (uses_in_body section offset x.line x.body) less (g.uses section offset);
}

data_more : (Named More : Names) (at : ℕ) (bytes : List ℕ) (xs : List Statement) → IsLess Named More
    → Data Named at bytes xs → Data More at bytes xs
data_more Named More at _ _ less no_data = no_data
data_more Named More at bytes _ less (more_data {x = x} {xs = xs} given rest bytes_are gives tail) =
    more_data given rest bytes_are (gives_more Named More at x given less gives)
    (data_more Named More (at + length given) rest xs less tail)

pub parts_more : (Named More : Names) (runs : List Placed) (xs : List Statement) → IsLess Named More
    → PartsData Named runs xs → PartsData More runs xs
parts_more Named More _ _ less no_parts = no_parts
parts_more Named More _ xs less (more_parts {run = run} {runs = runs} n own more are datas others) =
    more_parts n own more are (data_more Named More run.at run.bytes own less datas)
    (parts_more Named More runs more less others)

-- bytes behind others
pub data_behind : (Named : Names) (at next : ℕ) (bytes more : List ℕ) (xs ys : List Statement)
    → next ≡ at + length bytes → Data Named at bytes xs → Data Named next more ys
    → Data Named at (bytes ++ more) (xs ++ ys)
data_behind Named at next _ more _ ys is no_data rest =
    let same : next ≡ at = omega (arith, is) in subst (λ (a : ℕ). Data Named a more ys) same rest
data_behind Named at next bytes more _ ys is (more_data {x = x} {xs = xs} given left bytes_are gives tail) rest =
    let size : length bytes ≡ length given + length left = ap length bytes_are ∙ length-append given left in
    more_data given (left ++ more)
    (ap (λ (bs : List ℕ). bs ++ more) bytes_are ∙ append_assoc given left more) gives
    (data_behind Named (at + length given) next left more xs ys (omega (arith, is, size)) tail rest)
