-- Where the statements of parts stand, and what bytes they give there, their names replaced.
use Rattle.std.proofs.Common.{◌≡◌, ℕ, ◌+◌, ◌%◌, ◌≤◌, ◌^◌, true, List, [], ◌∷◌, ◌++◌, length, refl, sym, ap, subst, ◌∙◌, arith, length-append}
use Rattle.std.specs.Prelude.{Option, Some, flat_map, map}
use Rattle.std.specs.List.{AllByRecursion}
use Rattle.std.specs.Option.{option_or}
use Rattle.m88_base.specs.Placed.{Placed, byte_among, byte_in}
use Rattle.m88_base.specs.declared.fixup.Fixup.{Fixup}
use Rattle.m88_isa.specs.declared.instr.Instr.{Instr}
use Rattle.m88_parse.specs.declared.unit.Body.{Body}
use Rattle.m88_parse.specs.declared.unit.Body.TheVariants as body
use Rattle.m88_parse.specs.declared.unit.Module.{Module}
use Rattle.m88_parse.specs.declared.unit.Statement.{Statement}
use Rattle.m88_link.specs.Bases.{Placement}
use Rattle.m88_link.specs.Field.{is_in_reach}
use Rattle.m88_link.specs.Symbols.{symbol_meaning}
use Rattle.m88_link.specs.declared.object.Symbol.{Symbol}
use Rattle.m88_asm.specs.Counters.{Counters, Located, after, located, offset_of, place_of, section_of}
use Rattle.m88_asm.specs.Filled.{filled_bytes}
use Rattle.m88_asm.specs.Images.{run_of}
use Rattle.m88_asm.specs.Objects.{opened_by, symbol_uses, uses_in_body}
use Rattle.m88_asm.specs.Units.{address_in, base_in, value_in_module}
use Rattle.m88_disasm.proofs.Laws.{AreInOrder, Bases, Data, Fresh, Names, PartsData, Stands, address_is, fresh_behind, located_cons, located_none, more_data, more_parts, no_data, no_parts, none_in, opens_part, stands_behind}
use Rattle.m88_sourcing.proofs.Accepted.{IsNear, all_in_front, in_reach}
use Rattle.m88_sourcing.proofs.Places.{AllAt, place_behind, place_given}
use Rattle.m88_sourcing.proofs.Skeleton.{AreTame, IsTame, after_bare, bare, bared, behind_bare, skeleton}

-- statements stand at the addresses that follow from one of them, and each part begins at or behind the end of the last
abbrev pub IsPlaced : Body → ℕ → ℕ → Type 0
IsPlaced (body.At a) p q = p ≤ a
IsPlaced b p q = q ≡ p

abbrev pub ArePlaced : Placement Module → Counters → ℕ → List Statement → Type 0
ArePlaced d c p [] = Unit {0}
ArePlaced d c p (x ∷ xs) =
    IsPlaced x.body p (address_in d (record { before = c; statement = x }))
    × ArePlaced d (after c x.body) (place_behind p x.body) xs

placed_given : (line : ℕ) (b : Body) (p q : ℕ) → opened_by line b ≡ [] → q ≡ p → IsPlaced b p q
placed_given line (body.At a) p q none same = absurd cc
placed_given line b p q none same = same

placed_data : (Named : Names) (d : Placement Module) (k at done : ℕ) (c : Counters) (from : ℕ) (bytes : List ℕ)
    (own more : List Statement)
    → base_in d k ≡ at → from ≡ at + done → Stands c k at done → Data Named from bytes own
    → ((e : Counters) → Stands e k at (done + length bytes) → ArePlaced d e (from + length bytes) more)
    → ArePlaced d c from (own ++ more)
placed_data Named d k at done c from _ _ more base begins s no_data rest =
    let none : done ≡ done + 0 = omega arith in
    let same : from + 0 ≡ from = omega arith in
    subst (λ (a : ℕ). ArePlaced d c a more) same (rest c (subst (λ (m : ℕ). Stands c k at m) none s))
placed_data Named d k at done c from bytes _ more base begins s
    (more_data {x = x} {xs = xs} given left bytes_are gives tail) rest =
    let next : from + length given ≡ at + (done + length given) = omega (arith, begins) in
    let size : length bytes ≡ length given + length left = ap length bytes_are ∙ length-append given left in
    let place : base_in d c.here + c.lengths c.here ≡ from =
    ap (λ (i : ℕ). base_in d i + c.lengths i) s.here ∙ (let e = s.has in omega (arith, e, base, begins)) in
    let behind : place_behind from x.body ≡ from + length given =
    place_given x.line from (length given) x.body gives.opens_none (gives.length_is 0) in
    let sum : done + length given + length left ≡ done + length bytes = omega (arith, size) in
    let end : from + length bytes ≡ from + length given + length left = omega (arith, size) in (
      placed_given x.line x.body from _ gives.opens_none (address_is Named d c from x given gives ∙ place),
      subst (λ (a : ℕ). ArePlaced d (after c x.body) a (xs ++ more)) (sym behind)
          (placed_data Named d k at (done + length given) (after c x.body) (from + length given) left xs more base next
          (stands_behind Named c k at done from x given gives s) tail
          (λ e h. subst (λ (a : ℕ). ArePlaced d e a more) end (rest e (subst (λ (i : ℕ). Stands e k at i) sum h)))),
    )

pub placed_parts : (Named : Names) (d : Placement Module) (c : Counters) (n p : ℕ) (runs : List Placed)
    (xs : List Statement) → Bases d n runs → Fresh c n → AreInOrder p runs → PartsData Named runs xs
    → ArePlaced d c p xs
placed_parts Named d c n p _ _ bs f order no_parts = tt
placed_parts Named d c n p _ xs bs f order (more_parts {run = run} {runs = runs} i own more are datas others) =
    let opened : Counters = after c (body.At run.at) in
    subst (ArePlaced d c p) (sym are) (
      order.0,
      placed_data Named d n run.at 0 opened run.at run.bytes own more bs.0 (omega arith) (opens_part c n run.at f) datas
          (λ e s. placed_parts Named d e (n + 1) (run.at + length run.bytes) runs more bs.1
          (fresh_behind e n run.at (0 + length run.bytes) s) order.1 others),
    )

-- so do those of which these are the skeleton
placed_bare : (d : Placement Module) (c : Counters) (x : Statement) (b : Body) (p : ℕ) → IsTame b
    → IsPlaced (bare b) p (address_in d (record { before = c; statement = record x { body = bare b } }))
    → IsPlaced b p (address_in d (record { before = c; statement = record x { body = b } }))
placed_bare d c x body.Text p t h = absurd t
placed_bare d c x body.DataSection p t h = absurd t
placed_bare d c x (body.Align n) p t h = absurd t
placed_bare d c x (body.Global name) p t h = absurd t
placed_bare d c x b p t h = h

pub placed_skeleton : (d f : Placement Module) (c : Counters) (p : ℕ) (xs : List Statement)
    → base_in f ≡ base_in d → AreTame xs → ArePlaced f c p (skeleton xs) → ArePlaced d c p xs
placed_skeleton d f c p [] same t h = tt
placed_skeleton d f c p (x ∷ xs) same t h = (
  placed_bare d c x x.body p t.0
      (subst (λ (base : ℕ → ℕ). IsPlaced (bare x.body) p (base (section_of r) + offset_of r)) same h.0),
  placed_skeleton d f (after c x.body) (place_behind p x.body) xs same t.1
      (subst (λ (q : ℕ). ArePlaced f (after c x.body) q (skeleton xs)) (behind_bare p x.body t.0)
      (subst (λ (e : Counters). ArePlaced f e (place_behind p (bare x.body)) (skeleton xs)) (after_bare c x.body t.0)
      h.1)),
)
  where
    r : Located
    r = record { before = c; statement = bared x }

-- each use of a name is in reach of what the name means
abbrev pub IsInReach : List Symbol → (ℕ → ℕ) → List Symbol → ℕ → Statement → Type 0
IsInReach g base ss p x =
    (i : Instr) (f : Fixup) (v : ℕ) → x.body ≡ body.Code i (Some f) → symbol_meaning g base ss f.symbol ≡ Some v
    → is_in_reach f.kind ((v + f.addend) % 2 ^ 32) p ≡ true

pub reach_placed : (g : List Symbol) (d : Placement Module) (ss : List Symbol) (c : Counters) (p : ℕ)
    (xs : List Statement) → ArePlaced d c p xs
    → AllByRecursion (IsNear g (base_in d) ss) (flat_map symbol_uses (located c xs))
    → AllAt (IsInReach g (base_in d) ss) p xs
reach_placed g d ss c p [] placed near = tt
reach_placed g d ss c p (x ∷ xs) placed near =
    let r : Located = record { before = c; statement = x } in
    let all : AllByRecursion (IsNear g (base_in d) ss) (symbol_uses r ++ flat_map symbol_uses
    (located (after c x.body) xs)) =
    subst (λ (rs : List Located). AllByRecursion (IsNear g (base_in d) ss) (flat_map symbol_uses rs))
    (located_cons c x xs)
    near in
    let parts = all_in_front (IsNear g (base_in d) ss) (symbol_uses r)
    (flat_map symbol_uses (located (after c x.body) xs)) all
    in (
      λ i f v is means.
          by i f v is (subst (λ (b : Body). IsPlaced b p (address_in d r)) is placed.0) means
          (subst (λ (b : Body). AllByRecursion (IsNear g (base_in d) ss)
          (uses_in_body (section_of r) (offset_of r) x.line b)) is parts.0),
      reach_placed g d ss (after c x.body) (place_behind p x.body) xs placed.1 parts.1,
    )
  where
    by : (i : Instr) (f : Fixup) (v : ℕ) → x.body ≡ body.Code i (Some f)
        → address_in d (record { before = c; statement = x }) ≡ p
        → symbol_meaning g (base_in d) ss f.symbol ≡ Some v
        → AllByRecursion (IsNear g (base_in d) ss)
        (uses_in_body (section_of (record { before = c; statement = x }))
        (offset_of (record { before = c; statement = x })) x.line
        (body.Code i (Some f)))
        → is_in_reach f.kind ((v + f.addend) % 2 ^ 32) p ≡ true
    by i f v is there means h =
        subst (λ (a : ℕ). is_in_reach f.kind ((v + f.addend) % 2 ^ 32) a ≡ true) there
        (in_reach g (base_in d) ss _ v means h.0)

-- the bytes of statements from an address on, by themselves
abbrev pub pieces_from : (List ℕ → ℕ) → ℕ → List Statement → List Placed
pieces_from value p [] = []
pieces_from value p (x ∷ xs) =
    record { at = p; bytes = filled_bytes value p 0 x.body } ∷ pieces_from value (place_behind p x.body) xs

pub any_place : (value : List ℕ → ℕ) (p q r : ℕ) (b : Body) → IsTame b
    → filled_bytes value p q b ≡ filled_bytes value p r b
any_place value p q r (body.Align n) t = absurd t
any_place value p q r b t = refl

run_placed : (g : List Symbol) (d : Placement Module) (a p : ℕ) (c : Counters) (x : Statement) (b : Body)
    → x.body ≡ b → IsTame b → IsPlaced b p (address_in d (record { before = c; statement = x }))
    → byte_in (run_of g d (record { before = c; statement = x })) a
    ≡ byte_in (record { at = p; bytes = filled_bytes (value_in_module g d) p 0 b }) a
run_placed g d a p c x (body.At address) is t h =
    ap (λ (bs : List ℕ). byte_in (record { at = address_in d (record { before = c; statement = x }); bytes = bs }) a)
    (ap (filled_bytes (value_in_module g d) (address_in d r) (place_of r)) is)
    ∙ none_in (address_in d (record { before = c; statement = x })) a ∙ sym (none_in p a)
  where
    r : Located
    r = record { before = c; statement = x }
run_placed g d a p c x b is t h =
    ap (λ (bs : List ℕ). byte_in (record { at = address_in d r; bytes = bs }) a)
    (ap (filled_bytes (value_in_module g d) (address_in d r) (place_of r)) is
    ∙ any_place (value_in_module g d) (address_in d r) (place_of r) 0 b t)
    ∙ ap (λ (q : ℕ). byte_in (record { at = q; bytes = filled_bytes (value_in_module g d) q 0 b }) a) h
  where
    r : Located
    r = record { before = c; statement = x }

pub bytes_placed : (g : List Symbol) (d : Placement Module) (a : ℕ) (c : Counters) (p : ℕ) (xs : List Statement)
    → AreTame xs → ArePlaced d c p xs
    → byte_among (map (run_of g d) (located c xs)) a ≡ byte_among (pieces_from (value_in_module g d) p xs) a
bytes_placed g d a c p [] t placed = ap (λ (rs : List Located). byte_among (map (run_of g d) rs) a) (located_none c)
bytes_placed g d a c p (x ∷ xs) t placed =
    ap (λ (rs : List Located). byte_among (map (run_of g d) rs) a) (located_cons c x xs)
    ∙ ap (λ (o : Option ℕ). option_or o (byte_among (map (run_of g d) (located (after c x.body) xs)) a))
    (run_placed g d a p c x x.body refl t.0 placed.0)
    ∙ ap (option_or (byte_in (record { at = p; bytes = filled_bytes (value_in_module g d) p 0 x.body }) a))
    (bytes_placed g d a (after c x.body) (place_behind p x.body) xs t.1 placed.1)
