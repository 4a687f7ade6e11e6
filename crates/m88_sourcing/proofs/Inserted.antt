-- With one more statement behind a word of code every branch of a source leads to where it led.
use Rattle.std.proofs.Common.{◌≡◌, ◌⊎◌, ℕ, pos, zero, suc, ◌+◌, ◌-◌, ◌%◌, ◌<◌, ◌≤◌, ◌^◌, Bool, true, false, inl, inr, List, [], ◌∷◌, ◌++◌, drop, length, refl, sym, ap, subst, ◌∙◌, arith, append-nil, codes, true≢false}
use Rattle.std.specs.Prelude.{IfSome, IsSome, None, Option, Some, bytes_eq, flat_map, if◌then◌else◌, map, slice_get, unwrap_or}
use Rattle.std.specs.Int.{to_be_bytes, w32}
use Rattle.std.specs.List.{AllByRecursion}
use Rattle.std.specs.Option.{option_or}
use Rattle.std.specs.Str.Parse.{digits_value}
use Rattle.std.proofs.lemmas.Bool.{cases_lt}
use Rattle.std.proofs.lemmas.Slice.Eq.{bytes_eq-Decides}
use Rattle.m88_base.specs.Image.{IsImage, ProgramImage, byte_at}
use Rattle.m88_base.specs.Placed.{Placed, byte_among, byte_in}
use Rattle.m88_base.specs.declared.fixup.Fixup.{Fixup}
use Rattle.m88_base.specs.declared.fixup.Kind.{Kind}
use Rattle.m88_base.proofs.Laws.{byte_in_above, byte_in_at, byte_in_from, value_of_hex8}
use Rattle.m88_isa.specs.Address.{word_address}
use Rattle.m88_isa.specs.ImageProgram.{HasWordOf}
use Rattle.m88_isa.specs.Machine.{four_bytes, word_bytes}
use Rattle.m88_isa.specs.Word.{word_of}
use Rattle.m88_isa.specs.declared.instr.Instr.{Instr}
use Rattle.m88_isa.specs.declared.instr.Instr.TheVariants as instr
use Rattle.m88_parse.specs.declared.unit.Body.{Body}
use Rattle.m88_parse.specs.declared.unit.Body.TheVariants as body
use Rattle.m88_parse.specs.declared.unit.Module.{Module}
use Rattle.m88_parse.specs.declared.unit.Statement.{Statement}
use Rattle.m88_parse.specs.declared.unit.Value.{Value}
use Rattle.m88_parse.specs.declared.unit.Value.TheVariants.{Number, Symbol as Symbolic}
use Rattle.m88_link.specs.Bases.{Placement}
use Rattle.m88_link.specs.Field.{is_in_reach}
use Rattle.m88_link.specs.Linked.{start_address}
use Rattle.m88_link.specs.Refusal.{too_far}
use Rattle.m88_link.specs.Symbols.{symbol_meaning}
use Rattle.m88_link.specs.declared.object.Symbol.{Symbol}
use Rattle.m88_asm.specs.Accepted.{IsAcceptedUnit}
use Rattle.m88_asm.specs.Counters.{Counters, Located, after, at_begin, length_at, located}
use Rattle.m88_asm.specs.Filled.{filled_bytes, filled_word, target, with_field}
use Rattle.m88_asm.specs.Images.{run_of, unit_byte, unit_start}
use Rattle.m88_asm.specs.Objects.{lines_in, symbol_uses, symbols_in}
use Rattle.m88_asm.specs.Units.{base_in, globals_in, references_in, unit_layout, value_in_module}
use Rattle.m88_asm.proofs.Laws.{length-filled_bytes}
use Rattle.m88_disasm.specs.Read.{unlabelled}
use Rattle.m88_disasm.proofs.Laws.{Empty, Means, Names, Sets, a_set, bases, bytes_behind, empty_behind, empty_first, located_cons, main, means_all, no_set, start_is, stood, unit_of}
use Rattle.m88_sourcing.specs.Code.{InCode, IsCode, HoldsInstruction}
use Rattle.m88_sourcing.specs.Flow.{branch_target}
use Rattle.m88_sourcing.specs.Insertion.{IsCarriedBy, IsFoundAgain, IsAgainAt, LeadsAgain, MovesCodeAlone}
use Rattle.m88_sourcing.specs.Insertion.IsAgainAt.{carried, stays}
use Rattle.m88_sourcing.specs.Labels.{label_of}
use Rattle.m88_sourcing.specs.Said.{Said}
use Rattle.m88_sourcing.specs.Targets.{counting}
use Rattle.m88_sourcing.proofs.Accepted.{IsNear, not_too_far, uses_near}
use Rattle.m88_sourcing.proofs.Branching.{BranchesThere, branches_there}
use Rattle.m88_sourcing.proofs.Moved.{StartsAt, found_one, newly}
use Rattle.m88_sourcing.proofs.Names.{IsNameable, named, no_start, one_name}
use Rattle.m88_sourcing.proofs.OneInstruction.{no_byte_within, same_instruction}
use Rattle.m88_sourcing.proofs.Parted.{HasRoom, IsPartedAs, Parted, has_room, not_past, parted, parted_as, parted_runs, parted_tame}
use Rattle.m88_sourcing.proofs.Piecing.{stays_whole}
use Rattle.m88_sourcing.proofs.Places.{AllAt, AreNumbers, HasAt, IsBranchAt, IsPlain, IsSimple, WaitsFor, branch_kind, place_behind}
use Rattle.m88_sourcing.proofs.Placing.{ArePlaced, IsInReach, IsPlaced, bytes_placed, pieces_from, placed_parts, placed_skeleton, reach_placed}
use Rattle.m88_sourcing.proofs.Rebuilt.{code_some}
use Rattle.m88_sourcing.proofs.Searching.{IsBranchAgain, IsByteAgain, find_branch, find_byte, has_all}
use Rattle.m88_sourcing.proofs.Skeleton.{AreTame, bases_same, globals_same, meaning_same, sets_skeleton, sets_tame, skeleton, skeleton_behind, tame_behind}
use Rattle.m88_sourcing.proofs.Told.{code_whole, some_is, target_named}

-- a value for each name of a source
pub old_value : ProgramImage → List ℕ → ℕ
old_value image name = if bytes_eq name (codes "_start") then image.start else digits_value 16 (drop 1 name)

pub old_means : (image : ProgramImage) (said : Said) → Means (named image said) (old_value image)
unfolding old_value
old_means image said name a old = by (bytes_eq name (codes "_start")) refl old.1
  where
    by : (t : Bool) → bytes_eq name (codes "_start") ≡ t
        → (((name ≡ codes "_start") × (a ≡ image.start)) ⊎ ((name ≡ label_of a) × IsNameable image said a))
        → (if t then image.start else digits_value 16 (drop 1 name)) ≡ a
    by true e (inl x) = sym x.1
    by true e (inr x) = absurd (no_start a (sym x.0 ∙ (bytes_eq-Decides name (codes "_start")).0 e))
    by false e (inl x) = absurd (true≢false (sym ((bytes_eq-Decides name (codes "_start")).1 x.0) ∙ e))
    by false e (inr x) = ap (λ (n : List ℕ). digits_value 16 (drop 1 n)) x.0 ∙ value_of_hex8 a old.0

-- a plain body gives the same bytes anywhere
numbers_same : (value other : List ℕ → ℕ) (vs : List Value) → AreNumbers vs
    → flat_map (λ v. to_be_bytes w32 (filled_word value v)) vs
    ≡ flat_map (λ v. to_be_bytes w32 (filled_word other v)) vs
numbers_same value other [] h = refl
numbers_same value other (Number n ∷ vs) h =
    ap (λ (bs : List ℕ). to_be_bytes w32 n ++ bs) (numbers_same value other vs h)
numbers_same value other (Symbolic f ∷ vs) h = absurd h

plain_bytes : (value other : List ℕ → ℕ) (p q : ℕ) (b : Body) → IsPlain b
    → filled_bytes value p 0 b ≡ filled_bytes other q 0 b
plain_bytes value other p q (body.Word vs) h = numbers_same value other vs h
plain_bytes value other p q (body.Code i (Some f)) h = absurd h
plain_bytes value other p q b h = refl

-- a row among statements that stand, and its bytes
record HasRow (value : List ℕ → ℕ) (p : ℕ) (xs : List Statement) (Is : ℕ → Statement → Type 0) : Type 0 where
  at : ℕ
  x : Statement
  is : Is at x
  above : p ≤ at
  bytes : (a : ℕ) → at ≤ a → a < at + length (filled_bytes value at 0 x.body)
      → byte_among (pieces_from value p xs) a ≡ byte_in (record { at = at; bytes = filled_bytes value at 0 x.body }) a

some_within : (bs : List ℕ) (k : ℕ) → k < length bs → (b : ℕ) × (slice_get bs k ≡ Some b)
some_within [] k h = absurd (omega (arith, h))
some_within (b ∷ bs) zero h = (b, refl)
some_within (b ∷ bs) (suc k) h = some_within bs k (omega (arith, h))

row_ends : (value : List ℕ → ℕ) (p q : ℕ) (b : Body) → IsPlaced b p q
    → p + length (filled_bytes value p 0 b) ≤ place_behind p b
row_ends value p q (body.At a) h = omega (arith, h)
row_ends value p q b h = let e = length-filled_bytes value p 0 b in omega (arith, e)

row_there : (value : List ℕ → ℕ) (d : Placement Module) (c : Counters) (p : ℕ) (xs : List Statement)
    (Is : ℕ → Statement → Type 0) → ArePlaced d c p xs → HasAt Is p xs → HasRow value p xs Is
row_there value d c p [] Is placed has = absurd has
row_there value d c p (x ∷ xs) Is placed (inl is) =
    let here : Placed = record { at = p; bytes = filled_bytes value p 0 x.body } in
    record {
      at = p;
      x = x;
      is = is;
      above = omega arith;
      bytes = λ a from below.
          let s = some_within here.bytes (a - p) (omega (arith, from, below)) in
          let e : byte_in here a ≡ Some s.0 = byte_in_at here a from ∙ s.1 in
          ap (λ (o : Option ℕ). option_or o (byte_among (pieces_from value (place_behind p x.body) xs) a)) e ∙ sym e;
    }
row_there value d c p (x ∷ xs) Is placed (inr later) =
    let r : HasRow value (place_behind p x.body) xs Is =
    row_there value d (after c x.body) (place_behind p x.body) xs Is placed.1 later in
    let ends = row_ends value p _ x.body placed.0 in
    let above = r.above in
    record {
      at = r.at;
      x = r.x;
      is = r.is;
      above = omega (arith, ends, above);
      bytes = λ a from below.
          ap (λ (o : Option ℕ). option_or o (byte_among (pieces_from value (place_behind p x.body) xs) a))
          (byte_in_above (record { at = p; bytes = filled_bytes value p 0 x.body }) a
          (omega (arith, ends, above, from)))
          ∙ r.bytes a from below;
    }

-- its bytes one by one
row_byte : (value : List ℕ → ℕ) (p : ℕ) (xs : List Statement) (Is : ℕ → Statement → Type 0) (r : HasRow value p xs Is)
    (k : ℕ) → k < length_at 0 r.x.body
    → byte_among (pieces_from value p xs) (r.at + k) ≡ slice_get (filled_bytes value r.at 0 r.x.body) k
row_byte value p xs Is r k low =
    let size = length-filled_bytes value r.at 0 r.x.body in
    r.bytes (r.at + k) (omega arith) (omega (arith, low, size))
    ∙ byte_in_from r.at (filled_bytes value r.at 0 r.x.body) k

-- four bytes are a word
four_of : (byte : ℕ → Option ℕ) (p : ℕ) (bs : List ℕ) → length bs ≡ 4
    → ((k : ℕ) → k < 4 → byte (p + k) ≡ slice_get bs k) → four_bytes byte p ≡ Some bs
four_of byte p (b0 ∷ b1 ∷ b2 ∷ b3 ∷ []) size each =
    let first : byte p ≡ Some b0 = ap byte (let e : p ≡ p + 0 = omega arith in e) ∙ each 0 (omega arith) in
    ap (λ o. word_bytes o (byte (p + 1)) (byte (p + 2)) (byte (p + 3))) first
    ∙ ap (λ o. word_bytes (Some b0) o (byte (p + 2)) (byte (p + 3))) (each 1 (omega arith))
    ∙ ap (λ o. word_bytes (Some b0) (Some b1) o (byte (p + 3))) (each 2 (omega arith))
    ∙ ap (λ o. word_bytes (Some b0) (Some b1) (Some b2) o) (each 3 (omega arith))
four_of byte p [] size each = absurd (omega (arith, size))
four_of byte p (b0 ∷ []) size each = absurd (omega (arith, size))
four_of byte p (b0 ∷ b1 ∷ []) size each = absurd (omega (arith, size))
four_of byte p (b0 ∷ b1 ∷ b2 ∷ []) size each = absurd (omega (arith, size))
four_of byte p (b0 ∷ b1 ∷ b2 ∷ b3 ∷ b4 ∷ bs) size each = absurd (omega (arith, size))

four_same : (byte other : ℕ → Option ℕ) (p q : ℕ) → ((k : ℕ) → k < 4 → byte (p + k) ≡ other (q + k))
    → four_bytes byte p ≡ four_bytes other q
four_same byte other p q each =
    let first : byte p ≡ other q =
    ap byte (let e : p ≡ p + 0 = omega arith in e) ∙ each 0 (omega arith)
    ∙ ap other (let e : q + 0 ≡ q = omega arith in e) in
    ap (λ o. word_bytes o (byte (p + 1)) (byte (p + 2)) (byte (p + 3))) first
    ∙ ap (λ o. word_bytes (other q) o (byte (p + 2)) (byte (p + 3))) (each 1 (omega arith))
    ∙ ap (λ o. word_bytes (other q) (other (q + 1)) o (byte (p + 3))) (each 2 (omega arith))
    ∙ ap (λ o. word_bytes (other q) (other (q + 1)) (other (q + 2)) o) (each 3 (omega arith))

-- a word of code is found again whole
found_within : (image : ProgramImage) (said : Said) (w a p k : ℕ) → IsCode image said w → IsCode image said a
    → k < 4 → IsAgainAt image said w a p → IsAgainAt image said w (a + k) (p + k)
found_within image said w a p k code_w code low found = by found
  where
    aligned : a % 4 ≡ 0
    aligned = code_whole image said a code

    aligned_w : w % 4 ≡ 0
    aligned_w = code_whole image said w code_w

    within : (b : ℕ) → a ≤ b → b < a + 4 → InCode image said b
    within b from below =
        subst (IsCode image said) (let e : a ≡ word_address b = omega (arith, aligned, from, below) in e) code

    onto : IsCarriedBy image said w a → IsCarriedBy image said w (a + k)
    onto c = (
      (let x = c.0 in omega (arith, x)),
      λ b up down. elim (cases_lt b a) [
        | inl before ↦ c.1 b up (omega (arith, before))
        | inr from ↦ within b from (omega (arith, down, low))
      ],
      λ b up down place. elim (cases_lt a b) [
        | inl behind ↦
            let whole = stays_whole said b place in absurd (omega (arith, behind, down, low, aligned, whole))
        | inr to ↦ c.2 b up to place
      ],
    )

    off : IsCarriedBy image said w (a + k) → IsCarriedBy image said w a
    off c = (
      (let x = c.0 in omega (arith, x, low, aligned, aligned_w)),
      λ b up down. c.1 b up (omega (arith, down)),
      λ b up down. c.2 b up (omega (arith, down)),
    )

    by : {q : ℕ} → IsAgainAt image said w a q → IsAgainAt image said w (a + k) (q + k)
    by (carried c) =
        let e : a + k + 4 ≡ a + 4 + k = omega arith in subst (IsAgainAt image said w (a + k)) e (carried (onto c))
    by (stays none) = stays (λ c. none (off c))

-- the uses of names behind statements that name values
near_behind : (Named : Names) (g : List Symbol) (base : ℕ → ℕ) (ss : List Symbol) (c : Counters)
    (sets xs : List Statement) → Sets Named sets → Empty c
    → AllByRecursion (IsNear g base ss) (flat_map symbol_uses (located c (sets ++ xs)))
    → (e : Counters) × Empty e × AllByRecursion (IsNear g base ss) (flat_map symbol_uses (located e xs))
near_behind Named g base ss c _ xs no_set empty near = (c, empty, near)
near_behind Named g base ss c _ xs (a_set {xs = sets} n name col value named others) empty near =
    near_behind Named g base ss (after c (body.Set name col value)) sets xs others
    (empty_behind c name col value empty)
    (subst (λ (rs : List Located). AllByRecursion (IsNear g base ss) (flat_map symbol_uses rs))
    (located_cons c (unlabelled n (body.Set name col value)) (sets ++ xs)) near)

-- a source with a statement more that is accepted
record IsLaid (image : ProgramImage) (said : Said) (w : ℕ) (m : Parted image said w) : Type 0 where
  room : HasRoom image said w m
  told : IsPartedAs image said w m
  -- its names
  g : List Symbol
  base : ℕ → ℕ
  ss : List Symbol
  value : List ℕ → ℕ
  value_is : (name : List ℕ) → value name ≡ unwrap_or (symbol_meaning g base ss name) 0
  means : (name : List ℕ) (p : ℕ) → newly image said w name p → symbol_meaning g base ss name ≡ Some p
  -- its bytes
  d : Placement Module
  placed : ArePlaced d at_begin 0 (parted m)
  reach : AllAt (IsInReach g base ss) 0 (parted m)
  bytes : (a : ℕ) → unit_byte (unit_of (m.f.statements ++ parted m)) a ≡ byte_among (pieces_from value 0 (parted m)) a
  start : unit_start (unit_of (m.f.statements ++ parted m)) ≡ told.start

laid : (image : ProgramImage) (said : Said) (w : ℕ) (m : Parted image said w) → IsImage image
    → IsAcceptedUnit (unit_of (m.f.statements ++ parted m)) → IsLaid image said w m
laid image said w m is accepted = record {
  room = room;
  told = told;
  g = g;
  base = base_in d;
  ss = symbols_in (main all);
  value = value_in_module g d;
  value_is = λ name. refl;
  means = λ name p h.
      sym (meaning_same g name all tame)
      ∙ ap (λ (zs : List Statement). symbol_meaning g (base_in (stood zs)) (symbols_in (main zs)) name) same
      ∙ means_all New told.start runs sets (skeleton xs) g told.written name p h;
  d = d;
  placed = placed at_begin empty_first;
  reach = reach_placed g d (symbols_in (main all)) near.0 0 xs (placed near.0 near.1) near.2;
  bytes = λ a.
      ap (λ (rs : List Placed). byte_among rs a) (append-nil (map (run_of g d) (lines_in (main all))))
      ∙ bytes_behind New g d a at_begin sets xs (byte_among (pieces_from (value_in_module g d) 0 xs) a)
      told.written.are_sets
      empty_first (λ e h. bytes_placed g d a e 0 xs (parted_tame image said w m) (placed e h));
  start =
      ap (λ (gs : List Symbol). start_address (gs ++ []))
      (sym (globals_same all tame) ∙ ap (λ (zs : List Statement). globals_in (stood zs)) same)
      ∙ start_is New told.start runs sets (skeleton xs) told.written;
}
  where
    New : Names
    New = newly image said w

    sets : List Statement
    sets = m.f.statements

    xs : List Statement
    xs = parted m

    all : List Statement
    all = sets ++ xs

    d : Placement Module
    d = stood all

    g : List Symbol
    g = globals_in d ++ []

    runs : List Placed
    runs = parted_runs m

    tame : AreTame all
    tame =
        tame_behind sets xs (sets_tame (named image said) sets m.f.are_sets) (parted_tame image said w m)

    room : HasRoom image said w m
    room = has_room image said w m accepted

    told : IsPartedAs image said w m
    told = parted_as image said w m is room

    same : skeleton all ≡ sets ++ skeleton xs
    same =
        skeleton_behind sets xs
        ∙ ap (λ (zs : List Statement). zs ++ skeleton xs) (sets_skeleton (named image said) sets m.f.are_sets)

    base_is : base_in (stood (sets ++ skeleton xs)) ≡ base_in d
    base_is = ap (λ (zs : List Statement). base_in (stood zs)) (sym same) ∙ bases_same all tame

    placed : (e : Counters) → Empty e → ArePlaced d e 0 xs
    placed e h =
        placed_skeleton d (stood (sets ++ skeleton xs)) e 0 xs base_is (parted_tame image said w m)
        (placed_parts New (stood (sets ++ skeleton xs)) e 2 0 runs (skeleton xs)
        (bases New told.start runs sets (skeleton xs) told.written) h.fresh room.order told.written.datas)

    too_far_none : too_far (references_in g d ++ []) ≡ None
    too_far_none = not_too_far (unit_layout (unit_of all)) accepted.linkable.named

    near : (e : Counters) × Empty e × AllByRecursion (IsNear g (base_in d) (symbols_in (main all)))
        (flat_map symbol_uses (located e xs))
    near =
        near_behind (named image said) g (base_in d) (symbols_in (main all)) at_begin sets xs m.f.are_sets
        empty_first
        (uses_near g (base_in d) (symbols_in (main all)) (flat_map symbol_uses (lines_in (main all))) too_far_none)

-- a byte whose statement is plain is found again
byte_there : (image : ProgramImage) (said : Said) (w : ℕ) (m : Parted image said w)
    → (l : IsLaid image said w m)
    → (a p : ℕ) → IsSome (byte_at image a) → IsAgainAt image said w a p
    → ((q : ℕ) (x : Statement) → IsBranchAt image said q x → q ≤ a → a < q + 4 → ⊥)
    → unit_byte (unit_of (m.f.statements ++ parted m)) p ≡ byte_at image a
byte_there image said w m l a p some found none =
    let r : HasRow l.value 0 (parted m) (IsByteAgain image said w a) =
    row_there l.value l.d at_begin 0 (parted m) (IsByteAgain image said w a) l.placed
    (find_byte image said w m a some) in
    let q : ℕ = r.is.q in
    let from = r.is.holds.from in
    let below = r.is.holds.below in
    let there : r.at + (a - q) ≡ p = found_one image said w a (r.at + (a - q)) p r.is.found found in
    let plain : IsPlain r.x.body = by q r.x r.is.holds.simple from below in
    sym (ap (unit_byte (unit_of (m.f.statements ++ parted m))) there)
    ∙ l.bytes (r.at + (a - q))
    ∙ row_byte l.value 0 (parted m) (IsByteAgain image said w a) r (a - q) (omega (arith, from, below))
    ∙ ap (λ (bs : List ℕ). slice_get bs (a - q)) (plain_bytes l.value (old_value image) r.at q r.x.body plain)
    ∙ r.is.holds.byte (old_value image) (old_means image said)
  where
    by : (q : ℕ) (x : Statement) → IsSimple image said q x → q ≤ a → a < q + length_at 0 x.body → IsPlain x.body
    by q x (inl plain) from below = plain
    by q x (inr b) from below =
        let size : length_at 0 x.body ≡ 4 = ap (length_at 0) (WaitsFor.body_is b.waits) in
        absurd (none q x b from (omega (arith, below, size)))

-- where code is found again is below the last address
found_low : (image : ProgramImage) (said : Said) (w : ℕ) (m : Parted image said w) → IsImage image
    → HasRoom image said w m → (a p : ℕ) → IsCode image said a → IsAgainAt image said w a p → p < 2 ^ 32
found_low image said w m is room a p code found = by found
  where
    low : a < 2 ^ 32
    low = by_byte (byte_at image a) (is.bytes a) (code_some image said a code)
      where
        by_byte : (o : Option ℕ) → IfSome o (λ b. (a < 2 ^ 32) × (b < 256)) → IsSome o → a < 2 ^ 32
        by_byte None h k = absurd cc
        by_byte (Some b) h k = h.0

    by : {q : ℕ} → IsAgainAt image said w a q → q < 2 ^ 32
    by (stays none) = low
    by (carried c) = elim (cases_lt a m.l.e) [
      | inl before ↦ let x = room.low in omega (arith, x, before)
      | inr past ↦ absurd (not_past image said w m a past c)
    ]

found_whole : (image : ProgramImage) (said : Said) (w a p : ℕ) → a % 4 ≡ 0 → IsAgainAt image said w a p
    → p % 4 ≡ 0
found_whole image said w a _ whole (carried c) = omega (arith, whole)
found_whole image said w a _ whole (stays none) = whole

-- a word of code that is no branch
plain_found : (image : ProgramImage) (said : Said) (w : ℕ) (m : Parted image said w)
    → (l : IsLaid image said w m) → (a : ℕ) (i : Instr) → IsCode image said w → IsCode image said a
    → HoldsInstruction image a i → branch_target a i ≡ None
    → IsFoundAgain image said w (unit_byte (unit_of (m.f.statements ++ parted m))) a i
plain_found image said w m l a i code_w code stands none =
    let r : HasRow l.value 0 (parted m) (IsByteAgain image said w a) =
    row_there l.value l.d at_begin 0 (parted m) (IsByteAgain image said w a) l.placed
    (find_byte image said w m a (code_some image said a code)) in
    let p : ℕ = r.at + (a - r.is.q) in
    let found : IsAgainAt image said w a p = r.is.found in
    let each : (k : ℕ) → k < 4
    → unit_byte (unit_of (m.f.statements ++ parted m)) (p + k) ≡ byte_at image (a + k) = λ k low.
    byte_there image said w m l (a + k) (p + k) (some_there k low)
    (found_within image said w a p k code_w code low found) (no_branch_there k low) in
    record {
      at = p;
      words = pos 0;
      found = found;
      stands =
          subst (HasWordOf (unit_byte (unit_of (m.f.statements ++ parted m))) p) (sym (not_counted i none)) (
            found_whole image said w a p stands.0.0 found,
            (
              stands.0.1.0,
              four_same (unit_byte (unit_of (m.f.statements ++ parted m))) (byte_at image) p a each ∙ stands.0.1.1,
              stands.0.1.2,
            ),
          );
      leads =
          subst (λ (o : Option ℕ). LeadsAgain image said w o (branch_target p (counting (pos 0) i))) (sym none)
          (ap (branch_target p) (not_counted i none) ∙ no_target i p none);
    }
  where
    not_counted : (j : Instr) → branch_target a j ≡ None → counting (pos 0) j ≡ j
    not_counted (instr.Branch link delayed words) e = absurd cc
    not_counted (instr.BranchBit set delayed bit s1 words) e = absurd cc
    not_counted (instr.BranchCond delayed mask s1 words) e = absurd cc
    not_counted j e = refl

    no_target : (j : Instr) (p : ℕ) → branch_target a j ≡ None → branch_target p j ≡ None
    no_target (instr.Branch link delayed words) p e = absurd cc
    no_target (instr.BranchBit set delayed bit s1 words) p e = absurd cc
    no_target (instr.BranchCond delayed mask s1 words) p e = absurd cc
    no_target j p e = refl

    some_there : (k : ℕ) → k < 4 → IsSome (byte_at image (a + k))
    some_there k low = by (byte_at image (a + k)) refl
      where
        by : (o : Option ℕ) → byte_at image (a + k) ≡ o → IsSome (byte_at image (a + k))
        by (Some b) e = subst IsSome (sym e) refl
        by None e = absurd (no_byte_within image a k (i, stands) low e)

    no_branch_there : (k : ℕ) → k < 4 → (q : ℕ) (x : Statement) → IsBranchAt image said q x → q ≤ a + k
        → a + k < q + 4
        → ⊥
    no_branch_there k low q x b from below =
        let whole = b.stands.0.0 in
        let aligned = stands.0.0 in
        let same : q ≡ a = omega (arith, whole, aligned, from, below, low) in
        let again : b.i ≡ i =
        same_instruction image a b.i i (subst (λ (c : ℕ). HoldsInstruction image c b.i) same b.stands) stands in
        no_some (sym none ∙ sym (ap (branch_target a) again) ∙ subst (λ (c : ℕ). branch_target c b.i ≡ Some b.t) same
        b.leads)
      where
        no_some : {t : ℕ} → None ≡ Some t → ⊥
        no_some e = absurd cc

-- a branch
-- where its row was found it is the branch, with what its name means then as its target
abbrev BranchRow : {image : ProgramImage} {said : Said} {w : ℕ} (m : Parted image said w)
    → IsLaid image said w m → ℕ → ℕ → Statement → Type 0
BranchRow {image = image} {said = said} {w = w} m l a q y =
    IsBranchAgain image said w a q y × IsInReach l.g l.base l.ss q y

label_leads : (image : ProgramImage) (said : Said) (w t u : ℕ) → t < 2 ^ 32 → newly image said w (label_of t) u
    → IsAgainAt image said w t u
label_leads image said w t u low new = by new.1
  where
    by : (((label_of t ≡ codes "_start") × StartsAt image said w u)
        ⊎ ((q : ℕ) × (label_of t ≡ label_of q) × (q < 2 ^ 32) × IsNameable image said q
        × IsAgainAt image said w q u))
        → IsAgainAt image said w t u
    by (inl x) = absurd (no_start t x.0)
    by (inr x) =
        let same : x.0 ≡ t = sym (one_name t x.0 low x.2 x.1) in
        subst (λ (q : ℕ). IsAgainAt image said w q u) same x.4

-- the statement of a branch gives the branch that leads to what its name means
record GivesBranch (image : ProgramImage) (said : Said) (w : ℕ) (m : Parted image said w)
    (l : IsLaid image said w m) (i : Instr) (p u : ℕ) (x : Statement) : Type 0 where
  kind : Kind
  there : BranchesThere i kind p u
  given : filled_bytes l.value p 0 x.body ≡ to_be_bytes w32 (word_of (counting there.words i))
  long : length_at 0 x.body ≡ 4

gives_branch : (image : ProgramImage) (said : Said) (w : ℕ) (m : Parted image said w)
    (l : IsLaid image said w m) (a : ℕ) (i : Instr) (t p u : ℕ) (x : Statement) (b : IsBranchAt image said a x)
    → HoldsInstruction image a i → branch_target a i ≡ Some t → p < 2 ^ 32 → newly image said w (label_of t) u
    → IsInReach l.g l.base l.ss p x → GivesBranch image said w m l i p u x
gives_branch image said w m l a i t p u x b stands to low new reach =
    let again : b.i ≡ i = same_instruction image a b.i i b.stands stands in
    let f : Fixup = b.waits.name in
    let symbol : f.symbol ≡ label_of t =
    b.waits.symbol ∙ ap label_of (some_is b.t t (sym b.leads ∙ ap (branch_target a) again ∙ to)) in
    let means : symbol_meaning l.g l.base l.ss f.symbol ≡ Some u =
    ap (symbol_meaning l.g l.base l.ss) symbol ∙ l.means (label_of t) u new in
    let alone : f.addend ≡ 0 = b.waits.alone in
    let small : u < 2 ^ 32 = new.0 in
    let sum : (u + f.addend) % 2 ^ 32 ≡ u = omega (arith, alone, small) in
    let near : is_in_reach (branch_kind i) u p ≡ true =
    subst (λ (k : Kind). is_in_reach k u p ≡ true) (b.kind ∙ ap branch_kind again)
    (subst (λ (v : ℕ). is_in_reach f.kind v p ≡ true) sum (reach _ f u b.waits.body_is means)) in
    let there : BranchesThere i f.kind p u = branches_there i f.kind a p t u to stands.0.1.2.0 small low near in
    let valued : l.value f.symbol ≡ u = l.value_is f.symbol ∙ ap (λ (o : Option ℕ). unwrap_or o 0) means in
    let goes : target l.value f ≡ u = ap (λ (v : ℕ). (v + f.addend) % 2 ^ 32) valued ∙ sum in
    record {
      kind = f.kind;
      there = there;
      given =
          ap (filled_bytes l.value p 0)
          (b.waits.body_is ∙ ap (λ (j : Instr). body.Code (counting (pos 0) j) (Some f)) again)
          ∙ ap (λ (v : ℕ). to_be_bytes w32 (word_of (with_field (counting (pos 0) i) f.kind v p))) goes
          ∙ ap (λ (j : Instr). to_be_bytes w32 (word_of j)) there.is;
      long = ap (length_at 0) b.waits.body_is;
    }

branch_in : (image : ProgramImage) (said : Said) (w : ℕ) (m : Parted image said w)
    (l : IsLaid image said w m) (a : ℕ) (i : Instr) (t u : ℕ) (r : HasRow l.value 0 (parted m) (BranchRow m l a))
    → GivesBranch image said w m l i r.at u r.x → HoldsInstruction image a i → branch_target a i ≡ Some t
    → IsAgainAt image said w t u
    → IsFoundAgain image said w (unit_byte (unit_of (m.f.statements ++ parted m))) a i
branch_in image said w m l a i t u r g stands to leads =
    let word : ℕ = word_of (counting g.there.words i) in
    let long = g.long in
    let each : (k : ℕ) → k < 4
    → unit_byte (unit_of (m.f.statements ++ parted m)) (r.at + k) ≡ slice_get (to_be_bytes w32 word) k = λ k low.
    l.bytes (r.at + k)
    ∙ row_byte l.value 0 (parted m) (BranchRow m l a) r k (omega (arith, long, low))
    ∙ ap (λ (bs : List ℕ). slice_get bs k) g.given in
    record {
      at = r.at;
      words = g.there.words;
      found = r.is.0.found;
      stands = (
        found_whole image said w a r.at stands.0.0 r.is.0.found,
        (
          word,
          four_of (unit_byte (unit_of (m.f.statements ++ parted m))) r.at (to_be_bytes w32 word) refl each,
          (g.there.valid, refl),
        ),
      );
      leads =
          subst (λ (o : Option ℕ). LeadsAgain image said w o (branch_target r.at (counting g.there.words i))) (sym to)
          (subst (LeadsAgain image said w (Some t)) (sym g.there.leads) leads);
    }

branch_found : (image : ProgramImage) (said : Said) (w : ℕ) (m : Parted image said w)
    → (l : IsLaid image said w m) → IsImage image → (a : ℕ) (i : Instr) (t : ℕ) → IsCode image said a
    → HoldsInstruction image a i → branch_target a i ≡ Some t
    → IsFoundAgain image said w (unit_byte (unit_of (m.f.statements ++ parted m))) a i
branch_found image said w m l is a i t code stands to =
    let r : HasRow l.value 0 (parted m) (BranchRow m l a) =
    row_there l.value l.d at_begin 0 (parted m) (BranchRow m l a) l.placed
    (has_all (IsBranchAgain image said w a) (IsInReach l.g l.base l.ss) 0 (parted m)
    (find_branch image said w m a i t code stands to) l.reach) in
    let old : named image said (label_of t) t = target_named image said t (a, code, (i, stands, to)) in
    let new : (u : ℕ) × newly image said w (label_of t) u = l.told.means (label_of t) t old in
    branch_in image said w m l a i t new.0 r
    (gives_branch image said w m l a i t r.at new.0 r.x r.is.0.branch stands to
    (found_low image said w m is l.room a r.at code r.is.0.found) new.1 r.is.1)
    stands to (label_leads image said w t new.0 old.0 new.1)

-- so it is with the whole source
pub moves_alone : (image : ProgramImage) (said : Said) (w : ℕ) (m : Parted image said w) → IsImage image
    → IsCode image said w → IsAcceptedUnit (unit_of (m.f.statements ++ parted m))
    → MovesCodeAlone image said w (unit_of (m.f.statements ++ parted m))
moves_alone image said w m is code_w accepted = record {
  stays = λ a some none.
      byte_there image said w m l a a some
      (stays (λ c. none (c.1 a (let x = c.0 in omega (arith, x)) (omega arith))))
      (λ q x b from below.
      let whole = b.stands.0.0 in
      let e : q ≡ word_address a = omega (arith, whole, from, below) in
      none (subst (IsCode image said) e b.code));
  found = λ a i code stands. by a i code stands (branch_target a i) refl;
  start = λ code. subst (IsAgainAt image said w image.start) (sym l.start) (start_found code l.told.starts.1);
}
  where
    l : IsLaid image said w m
    l = laid image said w m is accepted

    by : (a : ℕ) (i : Instr) → IsCode image said a → HoldsInstruction image a i → (o : Option ℕ)
        → branch_target a i ≡ o
        → IsFoundAgain image said w (unit_byte (unit_of (m.f.statements ++ parted m))) a i
    by a i code stands (Some t) to = branch_found image said w m l is a i t code stands to
    by a i code stands None none = plain_found image said w m l a i code_w code stands none

    start_found : IsCode image said image.start → {p : ℕ}
        → (((codes "_start" ≡ codes "_start") × StartsAt image said w p)
        ⊎ ((q : ℕ) × (codes "_start" ≡ label_of q) × (q < 2 ^ 32) × IsNameable image said q
        × IsAgainAt image said w q p))
        → IsAgainAt image said w image.start p
    start_found code (inl (same, inl x)) = x.1
    start_found code (inl (same, inr x)) = absurd (x.0 code)
    start_found code (inr x) = absurd (no_start x.0 (sym x.1))
