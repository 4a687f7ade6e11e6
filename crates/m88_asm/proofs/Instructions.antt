-- The word of a placed instruction stands at its address, and where each statement stands.
use Rattle.std.proofs.Common.{ℕ, zero, suc, Bool, true, false, ◌≡◌, ◌+◌, ◌^◌, ◌<◌, ◌⊎◌, inl, inr, List, [], ◌∷◌, get_or, map, take, Option, Some, None, refl, sym, ◌∙◌, ap, subst, arith, add-zero}
use Rattle.std.specs.Prelude.{IsSome, flat_map, ◌==◌, if◌then◌else◌, slice_get, sum_by}
use Rattle.std.specs.Int.{to_be_bytes, w32}
use Rattle.std.specs.Option.{option_or}
use Rattle.std.proofs.lemmas.Bool.{cases_Bool, cond-true, cond-false, eqb-true}
use Rattle.std.proofs.lemmas.List.Sums.{sum_by-cons}
use Rattle.std.proofs.lemmas.Nat.{mod_below}
use Rattle.std.proofs.lemmas.Option.{slice_get-get_or}
use Rattle.std.proofs.Math.Dec.{lit<}
use Rattle.std.proofs.Math.Path.{fun_ext}
use Rattle.m88_base.proofs.Laws.{byte_in_from}
use Rattle.m88_base.specs.Image.{ProgramImage, byte_at}
use Rattle.m88_base.specs.Placed.{Placed, byte_in}
use Rattle.m88_base.specs.declared.fixup.Fixup.{Fixup}
use Rattle.m88_isa.specs.ImageProgram.{HasWordOf, IsInstructionAt}
use Rattle.m88_isa.specs.Instr.{IsValid}
use Rattle.m88_isa.specs.Machine.{four_bytes, word_bytes}
use Rattle.m88_isa.specs.Word.{word_of}
use Rattle.m88_isa.specs.declared.instr.Instr.{Instr}
use Rattle.m88_parse.specs.declared.unit.Body.{Body}
use Rattle.m88_parse.specs.declared.unit.Body.TheVariants as body
use Rattle.m88_parse.specs.declared.unit.Module.{Module}
use Rattle.m88_parse.specs.declared.unit.Statement.{Statement}
use Rattle.m88_parse.specs.declared.unit.Unit.{Unit as Source}
use Rattle.m88_parse.specs.WellFormed.{IsFormedBody, IsFormedStatement, IsWellFormed}
use Rattle.m88_link.specs.declared.object.Symbol.{Symbol}
use Rattle.m88_link.specs.Linked.{IsLinked}
use Rattle.m88_link.specs.Refusal.{IsLinkable}
use Rattle.m88_asm.specs.Counters.{Counters, Located, after, at_begin, located, length_of, offset_of, place_of, section_of}
use Rattle.m88_asm.specs.Filled.{filled_bytes, resolved, target}
use Rattle.m88_asm.specs.Images.{IsUnitInstruction, code_at, code_in, first_of, module_code, placed_instruction, run_of, runs_in, unit_byte}
use Rattle.m88_asm.specs.Objects.{lines_in, uses_in_body, symbol_uses}
use Rattle.m88_link.specs.Bases.{Placement}
use Rattle.m88_asm.specs.Units.{address_in, base_in, based, bytes_of, length_in, unit_layout, value_in_module}
use Rattle.m88_asm.specs.Faults.{IsAssembled}
use Rattle.m88_asm.proofs.Aligned.{aligned_law}
use Rattle.m88_asm.proofs.Composing.{CanFill, EachBased, formed}
use Rattle.m88_asm.proofs.FieldLaw.{field_law}
use Rattle.m88_asm.proofs.Imaging.{Has, has_left, has_right, run_found, runs_law}
use Rattle.m88_asm.proofs.Reaching.{each_fills}
use Rattle.m88_asm.proofs.Relocating.{AllFormed, AreInReach, in_reach_left, in_reach_right}

-- what stands there of an instruction: its word's bytes, each as the byte of some run
abbrev Stood : List Placed → ℕ → Instr → Type 0
Stood ps a i = IsValid i × ((k v : ℕ) → k < 4 → slice_get (to_be_bytes w32 (word_of i)) k ≡ Some v → Has ps (a + k) v)

resolved_valid : (value : List ℕ → ℕ) (base : ℕ → ℕ) (section offset line address : ℕ) (instr : Instr) (fixup : Option Fixup)
    → IsFormedBody (body.Code instr fixup) → base section + offset ≡ address
    → AreInReach value base (uses_in_body section offset line (body.Code instr fixup)) → IsValid (resolved value address instr fixup)
resolved_valid value base section offset line address instr None f e r = f.0
resolved_valid value base section offset line address instr (Some x) f e r =
    subst (λ a. IsValid (resolved value a instr (Some x))) e
    (field_law instr x.kind (target value x) (base section + offset) f.0 f.1 (mod_below (value x.symbol + x.addend) (2 ^ 32) (lit< tt)) r.0).0

body_stands : (globals : List Symbol) (b : Placement Module) (line place : ℕ) (section offset : ℕ) (x : Body) (i : Instr) → IsFormedBody x
    → AreInReach (value_in_module globals b) (base_in b) (uses_in_body section offset line x)
    → code_in (value_in_module globals b) (base_in b section + offset) x ≡ Some i
    → IsValid i × (filled_bytes (value_in_module globals b) (base_in b section + offset) place x ≡ to_be_bytes w32 (word_of i))
body_stands globals b line place section offset (body.Code instr fixup) i f r h =
    let e : resolved (value_in_module globals b) (base_in b section + offset) instr fixup ≡ i = cc in (
      subst IsValid e (resolved_valid (value_in_module globals b) (base_in b) section offset line (base_in b section + offset) instr fixup f refl r),
      ap (λ j. to_be_bytes w32 (word_of j)) e,
    )
body_stands globals b line place section offset _ i f r h = cc

row_stands : (globals : List Symbol) (b : Placement Module) (a : ℕ) (r : Located) (i : Instr) → IsFormedStatement r.statement
    → AreInReach (value_in_module globals b) (base_in b) (symbol_uses r) → code_at globals b a r ≡ Some i → Stood (run_of globals b r ∷ []) a i
unfolding Has
row_stands globals b a r i f n h = by (address_in b r == a) refl h
  where
    by : (t : Bool) → (address_in b r == a) ≡ t
        → (if t then code_in (value_in_module globals b) (address_in b r) r.statement.body else None) ≡ Some i → Stood (run_of globals b r ∷ []) a i
    by true t h =
        let p = body_stands globals b r.statement.line (place_of r) (section_of r) (offset_of r) r.statement.body i f n h in (
          p.0,
          λ k v l s. inl (
              ap (λ m. byte_in (run_of globals b r) (m + k)) (sym (eqb-true (address_in b r) a t))
              ∙ byte_in_from (address_in b r) (bytes_of globals b r) k ∙ ap (λ bytes. slice_get bytes k) p.1 ∙ s),
        )
    by false t h = cc

either_code : {A : Type 0} (o q : Option A) (v : A) → option_or o q ≡ Some v → (o ≡ Some v) ⊎ (q ≡ Some v)
either_code (Some x) q v h = inl h
either_code None q v h = inr h

rows_stand : (globals : List Symbol) (b : Placement Module) (a : ℕ) (i : Instr) (c : Counters) (xs : List Statement) → AllFormed xs
    → AreInReach (value_in_module globals b) (base_in b) (flat_map symbol_uses (located c xs))
    → first_of (code_at globals b a) (located c xs) ≡ Some i → Stood (map (run_of globals b) (located c xs)) a i
unfolding located Has
rows_stand globals b a i c [] f n h = cc
rows_stand globals b a i c (x ∷ xs) f n h =
    let r : Located = record { before = c; statement = x } in
    let rest = located (after c x.body) xs in
    elim (either_code (code_at globals b a r) (first_of (code_at globals b a) rest) i h) [
      | inl e ↦
          let s = row_stands globals b a r i f.0 (in_reach_left (value_in_module globals b) (base_in b) (symbol_uses r) (flat_map symbol_uses rest) n) e in
          (s.0, λ k v l g. has_left (run_of globals b r ∷ []) (map (run_of globals b) rest) (a + k) v (s.1 k v l g))
      | inr e ↦
          let s = rows_stand globals b a i (after c x.body) xs f.1 (in_reach_right (value_in_module globals b) (base_in b) (symbol_uses r) (flat_map symbol_uses rest) n) e in
          (s.0, λ k v l g. inr (s.1 k v l g))
    ]

modules_stand : (globals : List Symbol) (a : ℕ) (i : Instr) (bs : List (Placement Module)) → EachBased (CanFill globals) bs
    → first_of (module_code globals a) bs ≡ Some i → Stood (flat_map (runs_in globals) bs) a i
modules_stand globals a i [] f h = cc
modules_stand globals a i (b ∷ bs) f h = elim (either_code (module_code globals a b) (first_of (module_code globals a) bs) i h) [
  | inl e ↦
      let s = rows_stand globals b a i at_begin b.part.statements (formed b.part.statements f.0.0) f.0.1 e in
      (s.0, λ k v l g. has_left (runs_in globals b) (flat_map (runs_in globals) bs) (a + k) v (s.1 k v l g))
  | inr e ↦
      let s = modules_stand globals a i bs f.1 e in
      (s.0, λ k v l g. has_right (runs_in globals b) (flat_map (runs_in globals) bs) (a + k) v (s.1 k v l g))
]

-- the image of an accepted unit

pub bytes_law : (u : Source) (image : ProgramImage) → IsLinkable (unit_layout u) → IsLinked (unit_layout u) image → (a : ℕ) → byte_at image a ≡ unit_byte u a
bytes_law u image h l a = l.bytes a ∙ runs_law (unit_layout u).globals (based u) a h.disjoint

-- four bytes that are those of a word
word_there : (found : ℕ → Option ℕ) (a : ℕ) (i : Instr) → ((k : ℕ) → k < 4 → found (a + k) ≡ slice_get (to_be_bytes w32 (word_of i)) k)
    → four_bytes found a ≡ Some (to_be_bytes w32 (word_of i))
word_there found a i h =
    ap (λ x. word_bytes x (found (a + 1)) (found (a + 2)) (found (a + 3))) (ap found (sym (add-zero a)) ∙ h 0 (omega arith))
    ∙ ap (λ x. word_bytes (slice_get (to_be_bytes w32 (word_of i)) 0) x (found (a + 2)) (found (a + 3))) (h 1 (omega arith))
    ∙ ap (λ x. word_bytes (slice_get (to_be_bytes w32 (word_of i)) 0) (slice_get (to_be_bytes w32 (word_of i)) 1) x (found (a + 3))) (h 2 (omega arith))
    ∙ ap (λ x. word_bytes (slice_get (to_be_bytes w32 (word_of i)) 0) (slice_get (to_be_bytes w32 (word_of i)) 1) (slice_get (to_be_bytes w32 (word_of i)) 2) x)
    (h 3 (omega arith))

placed_law : (u : Source) (image : ProgramImage) → IsWellFormed u → IsAssembled u → IsLinkable (unit_layout u) → IsLinked (unit_layout u) image
    → (a : ℕ) (i : Instr) → placed_instruction u a ≡ Some i → HasWordOf (byte_at image) a i
placed_law u image w f h l a i e =
    let s = modules_stand (unit_layout u).globals a i (based u) (each_fills u w h) e in (
      aligned_law u a i f e,
      (
        word_of i,
        word_there (byte_at image) a i (λ k n.
            let g = slice_get-get_or (to_be_bytes w32 (word_of i)) k 0 n in
            l.bytes (a + k) ∙ run_found (unit_layout u).globals (based u) (a + k) (get_or (to_be_bytes w32 (word_of i)) k 0) h.disjoint (s.1 k _ n g) ∙ sym g),
        (s.0, refl),
      ),
    )

none_is_some : (o : Option Instr) → o ≡ None → IsSome o → ⊥
none_is_some None h x = cc
none_is_some (Some i) h x = cc

-- what stands at an address of the unit stands there in its image
pub instructions_law : (u : Source) (image : ProgramImage) → IsWellFormed u → IsAssembled u → IsLinkable (unit_layout u) → IsLinked (unit_layout u) image
    → (a : ℕ) (o : Option Instr) → IsUnitInstruction u a o → IsInstructionAt (byte_at image) a o
instructions_law u image w f h l a (Some i) (inl e) = placed_law u image w f h l a i e.1
instructions_law u image w f h l a None (inl e) = absurd (none_is_some None refl e.0)
instructions_law u image w f h l a o (inr e) =
    subst (λ found. IsInstructionAt found a o) (sym (fun_ext (bytes_law u image h l))) e.1

-- a statement stands behind the statements before it in its section

longer_by : (c : Counters) (x : Statement) (k : ℕ) → (after c x.body).lengths k ≡ c.lengths k + length_in k (record { before = c; statement = x })
longer_by c x k =
    let r : Located = record { before = c; statement = x } in
    elim (cases_Bool (section_of r == k)) [
      | inl t ↦ cond-true (section_of r == k) _ _ t ∙ ap (λ j. c.lengths j + length_of r) (eqb-true (section_of r) k t)
          ∙ ap (λ n. c.lengths k + n) (sym (cond-true (section_of r == k) (length_of r) 0 t))
      | inr t ↦ cond-false (section_of r == k) _ _ t ∙ sym (add-zero (c.lengths k)) ∙ ap (λ n. c.lengths k + n) (sym (cond-false (section_of r == k) (length_of r) 0 t))
    ]

rows_offset : (c : Counters) (xs : List Statement) (i : ℕ) (r : Located) → slice_get (located c xs) i ≡ Some r
    → offset_of r ≡ c.lengths (section_of r) + sum_by (length_in (section_of r)) (take i (located c xs))
unfolding located
rows_offset c [] i r h = cc
rows_offset c (x ∷ xs) zero r h =
    let first : Located = record { before = c; statement = x } in
    let e : first ≡ r = cc in
    subst (λ (s : Located). offset_of s ≡ c.lengths (section_of s) + 0) e (sym (add-zero (c.lengths (section_of first))))
rows_offset c (x ∷ xs) (suc i) r h =
    let first : Located = record { before = c; statement = x } in
    let rest = rows_offset (after c x.body) xs i r h in
    omega (arith, longer_by c x (section_of r), sum_by-cons (length_in (section_of r)) first (take i (located (after c x.body) xs)))

pub offsets_law : (m : Module) (i : ℕ) (r : Located) → slice_get (lines_in m) i ≡ Some r
    → offset_of r ≡ sum_by (length_in (section_of r)) (take i (lines_in m))
offsets_law m i r h = rows_offset at_begin m.statements i r h ∙ omega arith
