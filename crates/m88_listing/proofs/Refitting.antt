-- The rows of a unit without what can't be carried out, and the image that its objects are linked into instead.
use Rattle.std.proofs.Common.{◌≡◌, ℕ, ◌+◌, List, [], ◌∷◌, map, refl, sym, ap, ◌∙◌, subst, arith, Bool, true, false, inl, inr}
use Rattle.std.specs.List.{AllByRecursion}
use Rattle.m88_base.specs.Image.{IsImage, ProgramImage, byte_at}
use Rattle.m88_base.specs.Placed.{Placed, byte_among}
use Rattle.m88_parse.specs.WellFormed.{IsWellFormed}
use Rattle.m88_parse.specs.declared.unit.Module.{Module}
use Rattle.m88_parse.specs.declared.unit.Statement.{Statement}
use Rattle.m88_parse.specs.declared.unit.Unit.{Unit as Source}
use Rattle.m88_link.specs.Bases.{Placement}
use Rattle.m88_base.specs.Refusal.{Refusal}
use Rattle.m88_parse.specs.Language.Units.{IsUnit}
use Rattle.m88_link.specs.Forced.{IsAllocated, forced_layout}
use Rattle.m88_link.specs.Layout.{Layout, Reference}
use Rattle.m88_link.specs.Linked.{IsLinked}
use Rattle.std.specs.Prelude.{◌⊎◌, IfSome, None, Option, Some, if◌then◌else◌}
use Rattle.std.specs.Int.{w32, cast_signed}
use Rattle.std.specs.Option.{option_map, option_map_or, option_or}
use Rattle.m88_link.specs.Faults.{memory_fault}
use Rattle.m88_link.specs.Reasons.{link_reason}
use Rattle.m88_link.specs.Field.{distance, is_in_reach}
use Rattle.m88_link.specs.Refusal.{AreDisjoint, IsRefused, duplicate, duplicate_fault, far_from, first_fault, is_too_large, symbol_fault, too_far, too_far_in, undefined, undefined_in}
use Rattle.m88_link.specs.Symbols.{Repetition, first_repeated}
use Rattle.m88_link.specs.declared.fault.LinkFault.{LinkFault}
use Rattle.m88_link.specs.declared.fault.LinkKind.{LinkKind}
use Rattle.m88_link.specs.declared.fault.LinkKind.TheVariants as kind
use Rattle.m88_link.specs.declared.object.Symbol.{Symbol}
use Rattle.m88_asm.specs.Counters.{Counters, Located, after, at_begin, located, offset_of, section_of}
use Rattle.m88_asm.specs.Faults.{IsAssembled}
use Rattle.m88_asm.specs.Objects.{objects_of}
use Rattle.m88_asm.specs.Sources.{link_kind_behind, link_refusal}
use Rattle.m88_asm.specs.Units.{address_in, base_in, based, unit_layout}
use Rattle.m88_asm.proofs.Laws.{AllFormed, EachBased, runs_law}
use Rattle.m88_listing.specs.Inside.Slots.{AllFit, ModuleFits, IsSlot, kept_row, slots_of}
use Rattle.m88_listing.specs.Answer.{IsRefusedWith}
use Rattle.m88_listing.specs.Inside.Replies.{IsOfName}
use Rattle.m88_listing.specs.Rows.{Row, rows_of_unit}
use Rattle.m88_listing.specs.Settled.{settled_statement, settled_unit, unlinked_rows}
use Rattle.m88_listing.proofs.Fitting.{IsLaid, unit_fits, unit_kept, unit_slots}
use Rattle.m88_listing.proofs.Reached.{each_formed, linked_spots, unit_fills}
use Rattle.m88_listing.proofs.Verdict.{link_told}
use Rattle.m88_listing.proofs.Settling.{base_settled, fault_settled, length_same, offset_same, same_after, section_same, settled_base, settled_line, slots_settled, unit_extents, unit_stands}

-- the image is that of the unit without what can't be carried out, but for its start
pub settled_laid : (u : Source) (image : ProgramImage) → IsWellFormed u → IsAssembled u → AreDisjoint (unit_layout u).extents → IsImage image
    → IsLinked (forced_layout (objects_of u)) image → IsLaid (settled_unit u) image
settled_laid u image well clean apart is linked =
    let v = settled_unit u in
    let disjoint : AreDisjoint (unit_layout v).extents = subst AreDisjoint (sym (unit_extents u)) apart in
    record {
      fills = unit_fills u well;
      assembled = fault_settled u ∙ clean;
      disjoint = disjoint;
      is_image = is;
      bytes = λ a. linked.bytes a ∙ ap (λ (ps : List Placed). byte_among ps a) (linked_spots u well)
          ∙ runs_law (unit_layout v).globals (based v) a disjoint;
    }

-- so what is kept of the unit's statements is found there, and its rows are theirs
pub settled_slots : (u : Source) (image : ProgramImage) → IsLaid (settled_unit u) image → AllByRecursion (IsSlot (byte_at image)) (slots_of (based u))
settled_slots u image laid = subst (AllByRecursion (IsSlot (byte_at image))) (slots_settled u) (unit_slots (settled_unit u) image laid)

pub settled_rows : (u : Source) (image : ProgramImage) → IsLaid (settled_unit u) image
    → rows_of_unit (settled_unit u) ≡ map (kept_row (byte_at image)) (slots_of (based u))
settled_rows u image laid = unit_kept (settled_unit u) (byte_at image) laid.disjoint laid.bytes ∙ ap (map (kept_row (byte_at image))) (slots_settled u)

-- and its modules fit, as those without what can't be carried out do
address_same : (g : List Symbol) (b : Placement Module) (r : Located) → address_in (settled_base g b) (settled_line g b r) ≡ address_in b r
address_same g b r =
    ap (λ (f : ℕ → ℕ). f (section_of (settled_line g b r)) + offset_of (settled_line g b r)) (base_settled g b)
    ∙ ap (λ (n : ℕ). base_in b n + offset_of (settled_line g b r)) (section_same g b r)
    ∙ ap (λ (n : ℕ). base_in b (section_of r) + n) (offset_same g b r)

rows_back : (g : List Symbol) (b : Placement Module) (c : Counters) (xs : List Statement) → AllFormed xs
    → AllFit (settled_base g b) c (map (settled_statement g b) (located c xs)) → AllFit b c xs
unfolding located
rows_back g b c [] all h = tt
rows_back g b c (x ∷ xs) all h =
    let r : Located = record { before = c; statement = x } in
    let rest = map (settled_statement g b) (located (after c x.body) xs) in
    let long = length_same g b r in
    let at = address_same g b r in (
      record {
        formed = all.0;
        room = omega (arith, h.0.room, long, offset_same g b r);
        within = λ some. omega (arith, h.0.within (omega (arith, some, long)), long, at);
      },
      rows_back g b (after c x.body) xs all.1
          (subst (λ (d : Counters). AllFit (settled_base g b) d rest) (same_after g b (address_in b r) c x.body) h.1),
    )

modules_back : (g : List Symbol) (bs : List (Placement Module)) → EachBased (λ b. AllFormed b.part.statements) bs
    → AllByRecursion ModuleFits (map (settled_base g) bs) → AllByRecursion ModuleFits bs
modules_back g [] all h = tt
modules_back g (b ∷ bs) all h = (rows_back g b at_begin b.part.statements all.0 h.0, modules_back g bs all.1 h.1)

pub settled_fits : (u : Source) (image : ProgramImage) → IsWellFormed u → IsLaid (settled_unit u) image → AllByRecursion ModuleFits (based u)
settled_fits u image well laid =
    modules_back (unit_layout u).globals (based u) (each_formed u well)
    (subst (AllByRecursion ModuleFits) (unit_stands u) (unit_fits (settled_unit u) image laid))

-- where a name or a distance is refused the sections have their room
pub named_room : (l : Layout) (fault : LinkFault) → IsRefused l fault → IsOfName fault.kind → (is_too_large l.extents ≡ false) × AreDisjoint l.extents
named_room l fault (inl h) named = absurd (subst (λ (f : LinkFault). IsOfName f.kind) h.1 named)
named_room l fault (inr (inl h)) named = absurd (subst (λ (f : LinkFault). IsOfName f.kind) h.1.told named)
named_room l fault (inr (inr h)) named = (h.0, h.1)

no_lines : (n : ℕ) → n ≡ 0 + n
no_lines n = omega arith

-- the refusal of a unit's layout, with rows
pub unlinked_with : (source reason : List ℕ) (u : Source) (fault : LinkFault) (rows : List Row) → IsUnit source u → IsAssembled u
    → IsRefused (unit_layout u) fault → reason ≡ link_reason fault.kind → rows ≡ unlinked_rows u fault.kind
    → IsRefusedWith source (record { line = fault.line; column = fault.col; reason = reason }) rows
unlinked_with source reason u fault rows is clean refused said own =
    let refusal : ◌≡◌ {A = Refusal} (record { line = fault.line; column = fault.col; reason = reason }) (link_refusal 0 fault) =
    ap (λ (t : List ℕ). let r : Refusal = record { line = fault.line; column = fault.col; reason = t } in r)
    (said ∙ ap link_reason (sym (link_told fault.kind)))
    ∙ ap (λ (n : ℕ). let r : Refusal = record { line = n; column = fault.col; reason = link_reason (link_kind_behind 0 fault.kind) } in r) (no_lines fault.line) in
    inr (record { unit = u; is_unit = is; is_assembled = clean; fault = fault; is_refused = refused; refusal = refusal }, own)

-- the rows of a unit of which a name or a distance is refused
pub named_rows : (u : Source) (k : LinkKind) → IsOfName k → rows_of_unit (settled_unit u) ≡ unlinked_rows u k
named_rows u (kind.Duplicate name first) h = refl
named_rows u (kind.Undefined name) h = refl
named_rows u (kind.TooFar distance) h = refl
named_rows u kind.TooLarge h = absurd h
named_rows u (kind.Overlap at) h = absurd h
named_rows u kind.Memory h = absurd h

-- no row is shown of one whose sections don't have their room
abbrev pub LacksRoom : LinkKind → Type 0
LacksRoom k = (k ≡ kind.TooLarge) ⊎ ((at : ℕ) × (k ≡ kind.Overlap at))

pub no_rows : (u : Source) (k : LinkKind) → LacksRoom k → [] ≡ unlinked_rows u k
no_rows u k (inl e) = ap (unlinked_rows u) (sym e)
no_rows u k (inr e) = ap (unlinked_rows u) (sym e.1)

-- a layout that is refused doesn't have its room, where one that has it would be answered otherwise
pub lacks_room : (l : Layout) (fault : LinkFault) → IsRefused l fault → (IsAllocated l → fault ≡ memory_fault) → LacksRoom fault.kind ⊎ (fault ≡ memory_fault)
lacks_room l fault (inl h) memory = inl (inl (ap (λ (f : LinkFault). f.kind) h.1))
lacks_room l fault (inr (inl h)) memory = inl (inr (h.1.at, ap (λ (f : LinkFault). f.kind) h.1.told))
lacks_room l fault (inr (inr h)) memory = inr (memory (h.0, h.1))

-- a fault that names a symbol is that of a name or a distance
IsNamed : Option LinkFault → Type 0
IsNamed o = IfSome o (λ f. IsOfName f.kind)

first_named : (o r : Option LinkFault) → IsNamed o → IsNamed r → IsNamed (option_or o r)
unfolding IsNamed
first_named None r h k = k
first_named (Some f) r h k = h

undefined_named : (u : Reference) → IsNamed (undefined_in u)
unfolding IsNamed
undefined_named u = by u.target
  where
    by : (o : Option ℕ) → IfSome {T = LinkFault} (option_map_or (λ _. None) o (Some (record { line = u.line; col = u.col; kind = kind.Undefined u.name }))) (λ f. IsOfName f.kind)
    by None = tt
    by (Some n) = tt

far_named : (u : Reference) → IsNamed (too_far_in u)
unfolding IsNamed
far_named u = by u.target
  where
    far : (t : Bool) (n : ℕ) → IfSome {T = LinkFault} (if t then None else Some (record { line = u.line; col = u.col; kind = kind.TooFar (cast_signed w32 (distance n u.at)) })) (λ f. IsOfName f.kind)
    far true n = tt
    far false n = tt

    by : (o : Option ℕ) → IfSome (option_map_or (far_from u) o None) (λ f. IsOfName f.kind)
    by None = tt
    by (Some n) = far (is_in_reach u.kind n u.at) n

all_named : (find : Reference → Option LinkFault) → ((u : Reference) → IsNamed (find u)) → (us : List Reference) → IsNamed (first_fault find us)
unfolding IsNamed
all_named find each [] = tt
all_named find each (u ∷ us) = first_named (find u) (first_fault find us) (each u) (all_named find each us)

duplicate_named : (o : Option Repetition) → IsNamed (option_map duplicate_fault o)
unfolding IsNamed
duplicate_named None = tt
duplicate_named (Some r) = tt

pub named_kind : (l : Layout) (fault : LinkFault) → symbol_fault l ≡ Some fault → IsOfName fault.kind
unfolding IsNamed
named_kind l fault h =
    subst IsNamed h
    (first_named (duplicate l.globals) (option_or (undefined l.references) (too_far l.references)) (duplicate_named (first_repeated l.globals))
    (first_named (undefined l.references) (too_far l.references) (all_named undefined_in undefined_named l.references) (all_named too_far_in far_named l.references)))
