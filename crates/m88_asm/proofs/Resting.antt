-- One statement more of a module: what is still to come, and its faults.
use Rattle.std.proofs.Common.{ℕ, suc, ◌≡◌, ◌+◌, ◌<◌, ◌≤◌, List, [], ◌∷◌, length, get_or, drop, Option, Some, None, refl, sym, ◌∙◌, ap, subst, arith, length-append, add-one, drop-cons, drop_of_length-le}
use Rattle.std.specs.Option.{option_or}
use Rattle.std.proofs.lemmas.List.{length-set}
use Rattle.m88_parse.specs.declared.unit.Body.{Body}
use Rattle.m88_parse.specs.declared.unit.Body.TheVariants as body
use Rattle.m88_parse.specs.declared.unit.Statement.{Statement}
use Rattle.m88_link.specs.declared.object.Place.TheVariants as place
use Rattle.m88_link.specs.declared.object.Section.{Section}
use Rattle.m88_asm.specs.declared.fault.AsmFault.{AsmFault}
use Rattle.m88_asm.specs.Counters.{after, at_begin, located, place_here}
use Rattle.m88_asm.specs.Inside.Drafts.{Growth, HasSections, counters_of, empty_growth, next_row, nth, section_at, sections_at, with_bytes, with_statement, with_statements}
use Rattle.m88_asm.specs.Faults.{fault_in, statements_fault}
use Rattle.m88_asm.specs.Filled.{waiting_bytes}
use Rattle.m88_asm.proofs.Assembling.{counters_next, open_next}

-- the statements that are still to come, where one comes next
pub next_of : {X : Type 0} (xs : List X) (i : ℕ) (x d : X) → i < length xs → x ≡ get_or xs i d → drop i xs ≡ x ∷ drop (i + 1) xs
next_of xs i x d h e = drop-cons xs i d h ∙ ap (λ y. y ∷ drop (suc i) xs) (sym e) ∙ ap (λ n. x ∷ drop n xs) (sym (add-one i))

-- the first fault of statements behind what there is
abbrev pub fault_from : Growth → List Statement → Option AsmFault
fault_from g xs = statements_fault g.symbols (located (counters_of g.sections g.here) xs)

pub fault_goes_on : (g : Growth) (x : Statement) (xs : List Statement) → HasSections g.sections g.here → fault_in g.symbols (next_row g x) ≡ None
    → fault_from (with_statement g x) xs ≡ fault_from g (x ∷ xs)
unfolding statements_fault located
fault_goes_on g x xs o h =
    ap (λ c. statements_fault (with_statement g x).symbols (located c xs)) (counters_next g x o)
    ∙ ap (λ f. option_or f (statements_fault (with_statement g x).symbols (located (after (counters_of g.sections g.here) x.body) xs))) (sym h)

pub fault_stops : (g : Growth) (x : Statement) (xs : List Statement) (e : AsmFault) → fault_in g.symbols (next_row g x) ≡ Some e
    → fault_from g (x ∷ xs) ≡ Some e
unfolding statements_fault located
fault_stops g x xs e h =
    ap (λ f. option_or f (statements_fault (with_statement g x).symbols (located (after (counters_of g.sections g.here) x.body) xs))) h

whole_goes_on : (g : Growth) (x : Statement) (xs : List Statement) → with_statements (with_statement g x) xs ≡ with_statements g (x ∷ xs)
unfolding with_statements
whole_goes_on g x xs = refl

few_entered : (line : ℕ) (sections : List Section) (b : Body) → length (sections_at line sections b) ≤ length sections + 1
few_entered line sections (body.At a) = omega (arith, length-append sections (record { place = place.At a; bytes = []; line = line } ∷ []))
few_entered line sections _ = omega arith

few_next : (g : Growth) (x : Statement) → length (with_statement g x).sections ≤ length g.sections + 1
few_next g x =
    let sections = sections_at x.line g.sections x.body in
    let here = section_at g.here g.sections x.body in
    omega (arith, few_entered x.line g.sections x.body, length-set sections here (with_bytes (nth sections here) (waiting_bytes (place_here (counters_of sections here)) x.body)))

-- what a loop over the statements of a module keeps
pub record Rest (line : ℕ) (all : List Statement) (i : ℕ) (g : Growth) : Type 0 where
  pub whole : with_statements g (drop i all) ≡ with_statements (empty_growth line) all
  pub faults : fault_from g (drop i all) ≡ statements_fault [] (located at_begin all)
  pub opened : HasSections g.sections g.here
  pub few : length g.sections ≤ i + 2

pub rest_goes_on : (line : ℕ) (all : List Statement) (i : ℕ) (g new : Growth) (x d : Statement) → i < length all → x ≡ get_or all i d → Rest line all i g
    → new ≡ with_statement g x → fault_in g.symbols (next_row g x) ≡ None → Rest line all (i + 1) new
rest_goes_on line all i g new x d l e r is h =
    let n = next_of all i x d l e in
    subst (Rest line all (i + 1)) (sym is) (record {
      whole = whole_goes_on g x (drop (i + 1) all) ∙ ap (with_statements g) (sym n) ∙ r.whole;
      faults = fault_goes_on g x (drop (i + 1) all) r.opened h ∙ ap (fault_from g) (sym n) ∙ r.faults;
      opened = open_next g x r.opened;
      few = omega (arith, few_next g x, r.few);
    })

pub rest_stops : (line : ℕ) (all : List Statement) (i : ℕ) (g : Growth) (x d : Statement) (e : AsmFault) → i < length all → x ≡ get_or all i d → Rest line all i g
    → fault_in g.symbols (next_row g x) ≡ Some e → statements_fault [] (located at_begin all) ≡ Some e
rest_stops line all i g x d e l is r h = sym r.faults ∙ ap (fault_from g) (next_of all i x d l is) ∙ fault_stops g x (drop (i + 1) all) e h

pub rest_ends : (line : ℕ) (all : List Statement) (i : ℕ) (g : Growth) → length all ≤ i → Rest line all i g
    → (g ≡ with_statements (empty_growth line) all) × (statements_fault [] (located at_begin all) ≡ None)
unfolding with_statements statements_fault located
rest_ends line all i g l r =
    let n = drop_of_length-le all l in
    (ap (with_statements g) (sym n) ∙ r.whole, sym r.faults ∙ ap (fault_from g) n)
