-- Statements that give bytes where they stand: what the counters are before each, and what each one gives there.
use Rattle.std.proofs.Common.{◌≡◌, ◌≢◌, ℕ, ◌+◌, ◌≤◌, Bool, inl, inr, List, [], ◌∷◌, ◌++◌, length, refl, sym, ap, subst, ◌∙◌, arith, eq-eqb, ne_eqb, length-append}
use Rattle.std.specs.Prelude.{Option, None, if◌then◌else◌, map}
use Rattle.std.specs.Option.{option_or}
use Rattle.m88_base.specs.Placed.{Placed, byte_among, byte_in}
use Rattle.m88_base.proofs.Laws.{byte_in-join, byte_in_above, byte_in_below, option_or_assoc}
use Rattle.std.proofs.lemmas.Bool.Decides.{leb_tells}
use Rattle.m88_parse.specs.declared.unit.Body.TheVariants as body
use Rattle.m88_parse.specs.declared.unit.Statement.{Statement}
use Rattle.m88_link.specs.declared.object.Symbol.{Symbol}
use Rattle.m88_asm.specs.Counters.{Counters, Located, after, at_section, length_at, located, offset_here, place_here, put, with_length}
use Rattle.m88_asm.specs.Images.{run_of}
use Rattle.m88_link.specs.Bases.{Placement}
use Rattle.m88_parse.specs.declared.unit.Module.{Module}
use Rattle.m88_asm.specs.Filled.{filled_bytes}
use Rattle.m88_asm.specs.Units.{address_in, base_in, value_in_module}
use Rattle.m88_disasm.specs.Read.{unlabelled}
use Rattle.m88_disasm.proofs.Given.{Data, Gives, Means, Names, PartsData, Sets, a_set, more_data, more_parts, no_data, no_parts, no_set}

-- functions with another value at a place
pub put_same : (f : ℕ → ℕ) (k v : ℕ) → put f k v k ≡ v
put_same f k v = ap (λ (t : Bool). if t then v else f k) (eq-eqb k k refl)

pub put_other : (f : ℕ → ℕ) (k v j : ℕ) → k ≢ j → put f k v j ≡ f j
put_other f k v j h = ap (λ (t : Bool). if t then v else f j) (ne_eqb k j h)

-- no part stands yet from section n on
pub record Fresh (c : Counters) (n : ℕ) : Type 0 where
  pub count : c.count ≡ n
  pub empty : (j : ℕ) → n ≤ j → c.lengths j ≡ 0

-- section k stands, which begins at an address and has so many bytes, and none stands behind it
pub record Stands (c : Counters) (k at done : ℕ) : Type 0 where
  pub here : c.here ≡ k
  pub count : c.count ≡ k + 1
  pub begins : c.starts k ≡ at
  pub has : c.lengths k ≡ done
  pub empty : (j : ℕ) → k + 1 ≤ j → c.lengths j ≡ 0

pub located_cons : (c : Counters) (x : Statement) (xs : List Statement)
    → located c (x ∷ xs) ≡ record { before = c; statement = x } ∷ located (after c x.body) xs
unfolding located
located_cons c x xs = refl

pub located_none : (c : Counters) → located c [] ≡ []
unfolding located
located_none c = refl

-- where a part begins
pub opens_part : (c : Counters) (n at : ℕ) → Fresh c n → Stands (after c (body.At at)) n at 0
opens_part c n at f = subst (λ (k : ℕ). Stands (after c (body.At at)) k at 0) f.count opened
  where
    opened : Stands (after c (body.At at)) c.count at 0
    opened = record {
      here = refl;
      count = refl;
      begins = put_same c.starts c.count at;
      has =
          put_same c.lengths c.count (c.lengths c.count + 0)
          ∙ (let e : c.lengths c.count ≡ 0 = f.empty c.count (let k = f.count in omega arith) in omega (arith, e));
      empty = λ j h.
          put_other c.lengths c.count (c.lengths c.count + 0) j (omega arith)
          ∙ f.empty j (let k = f.count in omega arith);
    }

-- bytes go into the section that stands
pub after_data : (Named : Names) (at : ℕ) (c : Counters) (x : Statement) (given : List ℕ) → Gives Named at x given
    → after c x.body ≡ with_length c (length given)
after_data Named at c x given g =
    ap (λ (d : Counters). with_length d (length_at (place_here d) x.body)) (g.stays c)
    ∙ ap (with_length c) (g.length_is (place_here c))

stands_more : (c : Counters) (k at done n : ℕ) → Stands c k at done → Stands (with_length c n) k at (done + n)
stands_more c k at done n s = record {
  here = s.here;
  count = s.count;
  begins = s.begins;
  has =
      ap (λ (h : ℕ). put c.lengths h (c.lengths h + n) k) s.here
      ∙ put_same c.lengths k (c.lengths k + n) ∙ ap (λ (d : ℕ). d + n) s.has;
  empty = λ j h.
      ap (λ (i : ℕ). put c.lengths i (c.lengths i + n) j) s.here
      ∙ put_other c.lengths k (c.lengths k + n) j (omega arith) ∙ s.empty j h;
}

pub stands_behind : (Named : Names) (c : Counters) (k at done from : ℕ) (x : Statement) (given : List ℕ)
    → Gives Named from x given → Stands c k at done → Stands (after c x.body) k at (done + length given)
stands_behind Named c k at done from x given g s =
    subst (λ (d : Counters). Stands d k at (done + length given)) (sym (after_data Named from c x given g))
    (stands_more c k at done (length given) s)

-- behind a part no other stands
pub fresh_behind : (c : Counters) (k at done : ℕ) → Stands c k at done → Fresh c (k + 1)
fresh_behind c k at done s = record { count = s.count; empty = s.empty }

-- where a statement stands that gives bytes
pub address_is : (Named : Names) (d : Placement Module) (c : Counters) (at : ℕ) (x : Statement) (given : List ℕ)
    → Gives Named at x given
    → address_in d (record { before = c; statement = x }) ≡ base_in d c.here + c.lengths c.here
address_is Named d c at x given g = ap (λ (e : Counters). base_in d e.here + offset_here e) (g.stays c)

-- bytes: what it gives is at the address of its section plus what that has
run_is : (Named : Names) (g : List Symbol) (d : Placement Module) (c : Counters) (at : ℕ) (x : Statement)
    (given : List ℕ)
    → Means Named (value_in_module g d) → Gives Named at x given → base_in d c.here + c.lengths c.here ≡ at
    → run_of g d (record { before = c; statement = x }) ≡ record { at = at; bytes = given }
run_is Named g d c at x given means gives place =
    let r : Located = record { before = c; statement = x } in
    let there : address_in d r ≡ at = address_is Named d c at x given gives ∙ place in
    ap (λ (i : ℕ).
    let p : Placed = record {
      at = i;
      bytes = filled_bytes (value_in_module g d) i (place_here (at_section c x.body)) x.body;
    } in p) there
    ∙ ap (λ (bs : List ℕ). let p : Placed = record { at = at; bytes = bs } in p)
    (gives.bytes_are (value_in_module g d) (place_here (at_section c x.body)) means)

pub none_in : (at a : ℕ) → byte_in (record { at = at; bytes = [] }) a ≡ None
none_in at a =
    elim (leb_tells at a) [
      | inl from ↦ byte_in_above (record { at = at; bytes = [] }) a (omega (arith, from.1))
      | inr low ↦ byte_in_below (record { at = at; bytes = [] }) a low.1
    ]

-- the bytes of a part, and what is found behind it
data_bytes : (Named : Names) (g : List Symbol) (d : Placement Module) (a k at done : ℕ) (c : Counters) (from : ℕ)
    (bytes : List ℕ) (own more : List Statement) (found : Option ℕ)
    → Means Named (value_in_module g d) → base_in d k ≡ at → from ≡ at + done → Stands c k at done
    → Data Named from bytes own
    → ((e : Counters) → Stands e k at (done + length bytes)
    → byte_among (map (run_of g d) (located e more)) a ≡ found)
    → byte_among (map (run_of g d) (located c (own ++ more))) a
    ≡ option_or (byte_in (record { at = from; bytes = bytes }) a) found
data_bytes Named g d a k at done c from _ _ more found means base begins s no_data rest =
    let none : done ≡ done + 0 = omega arith in
    rest c (subst (λ (m : ℕ). Stands c k at m) none s)
    ∙ sym (ap (λ (o : Option ℕ). option_or o found) (none_in from a))
data_bytes Named g d a k at done c from bytes _ more found means base begins s
    (more_data {x = x} {xs = xs} given left bytes_are gives tail) rest =
    let next : from + length given ≡ at + (done + length given) = omega arith in
    let size : length bytes ≡ length given + length left = ap length bytes_are ∙ length-append given left in
    let later : (e : Counters) → Stands e k at (done + length given + length left)
    → byte_among (map (run_of g d) (located e more)) a ≡ found =
    λ e h. rest e (let same : done + length given + length left ≡ done + length bytes = omega (arith, size) in
    subst (λ (i : ℕ). Stands e k at i) same h) in
    let ih = data_bytes Named g d a k at (done + length given) (after c x.body) (from + length given) left xs more found
    means base next
    (stands_behind Named c k at done from x given gives s) tail later in
    let place : base_in d c.here + c.lengths c.here ≡ from =
    ap (λ (i : ℕ). base_in d i + c.lengths i) s.here ∙ (let e = s.has in omega (arith, e, base, begins)) in
    ap (λ (rs : List Located). byte_among (map (run_of g d) rs) a) (located_cons c x (xs ++ more))
    ∙ ap (λ (r : Placed). option_or (byte_in r a) (byte_among (map (run_of g d) (located (after c x.body) (xs ++ more))) a))
    (run_is Named g d c from x given means gives place)
    ∙ ap (λ (o : Option ℕ). option_or (byte_in (record { at = from; bytes = given }) a) o) ih
    ∙ sym (option_or_assoc (byte_in (record { at = from; bytes = given }) a)
    (byte_in (record { at = from + length given; bytes = left }) a) found)
    ∙ ap (λ (o : Option ℕ). option_or o found) (sym (byte_in-join from given left (from + length given) a refl))
    ∙ ap (λ (bs : List ℕ). option_or (byte_in (record { at = from; bytes = bs }) a) found) (sym bytes_are)

-- sections from number n on begin where the parts do
abbrev pub Bases : Placement Module → ℕ → List Placed → Type 0
Bases d n [] = Unit {0}
Bases d n (run ∷ runs) = (base_in d n ≡ run.at) × Bases d (n + 1) runs

pub parts_bytes : (Named : Names) (g : List Symbol) (d : Placement Module) (a : ℕ) (c : Counters) (n : ℕ)
    (runs : List Placed) (xs : List Statement)
    → Means Named (value_in_module g d) → Bases d n runs → Fresh c n → PartsData Named runs xs
    → byte_among (map (run_of g d) (located c xs)) a ≡ byte_among runs a
parts_bytes Named g d a c n _ _ means bases f no_parts =
    ap (λ (rs : List Located). byte_among (map (run_of g d) rs) a) (located_none c)
parts_bytes Named g d a c n _ xs means bases f
    (more_parts {run = run} {runs = runs} i own more statements_are datas others) =
    let opened : Counters = after c (body.At run.at) in
    let x : Statement = unlabelled i (body.At run.at) in
    let behind : (e : Counters) → Stands e n run.at (0 + length run.bytes)
    → byte_among (map (run_of g d) (located e more)) a ≡ byte_among runs a =
    λ e h. parts_bytes Named g d a e (n + 1) runs more means bases.1 (fresh_behind e n run.at (0 + length run.bytes) h)
    others in
    let own_bytes = data_bytes Named g d a n run.at 0 opened run.at run.bytes own more (byte_among runs a) means bases.0
    (omega arith)
    (opens_part c n run.at f) datas behind in
    ap (λ (ys : List Statement). byte_among (map (run_of g d) (located c ys)) a) statements_are
    ∙ ap (λ (rs : List Located). byte_among (map (run_of g d) rs) a) (located_cons c x (own ++ more))
    ∙ ap (λ (o : Option ℕ). option_or o (byte_among (map (run_of g d) (located opened (own ++ more))) a))
    (none_in (base_in d c.count + c.lengths c.count) a)
    ∙ own_bytes

-- behind statements that give names values no part stands yet, and no section has bytes
pub record Empty (c : Counters) : Type 0 where
  pub fresh : Fresh c 2
  pub begins : c.starts 0 ≡ 0
  pub text : c.lengths 0 ≡ 0
  pub here : c.here ≡ 0

pub empty_behind : (c : Counters) (name : List ℕ) (col value : ℕ) → Empty c → Empty (after c (body.Set name col value))
empty_behind c name col value e = record {
  fresh = record {
    count = e.fresh.count;
    empty = λ j h.
        ap (λ (i : ℕ). put c.lengths i (c.lengths i + 0) j) e.here
        ∙ put_other c.lengths 0 (c.lengths 0 + 0) j (omega arith) ∙ e.fresh.empty j h;
  };
  begins = e.begins;
  text =
      ap (λ (i : ℕ). put c.lengths i (c.lengths i + 0) 0) e.here
      ∙ put_same c.lengths 0 (c.lengths 0 + 0) ∙ (let h = e.text in omega (arith, h));
  here = e.here;
}

-- what stands behind them gives all bytes
pub bytes_behind : (Named : Names) (g : List Symbol) (d : Placement Module) (a : ℕ) (c : Counters)
    (sets xs : List Statement) (found : Option ℕ)
    → Sets Named sets → Empty c
    → ((e : Counters) → Empty e → byte_among (map (run_of g d) (located e xs)) a ≡ found)
    → byte_among (map (run_of g d) (located c (sets ++ xs))) a ≡ found
bytes_behind Named g d a c _ xs found no_set empty rest = rest c empty
bytes_behind Named g d a c _ xs found (a_set {xs = sets} n name col value named others) empty rest =
    let x : Statement = unlabelled n (body.Set name col value) in
    ap (λ (rs : List Located). byte_among (map (run_of g d) rs) a) (located_cons c x (sets ++ xs))
    ∙ ap (λ (o : Option ℕ). option_or o (byte_among (map (run_of g d) (located (after c x.body) (sets ++ xs))) a))
    (none_in (base_in d c.here + c.lengths c.here) a)
    ∙ bytes_behind Named g d a (after c x.body) sets xs found others (empty_behind c name col value empty) rest
