-- Lines that are instructions by themselves are a source that is accepted: their statements meet no fault, and their
-- layout, which is one section of text, is linked without a refusal.
use Rattle.std.proofs.Common.{◌≡◌, ℕ, ◌+◌, ◌*◌, ◌%◌, ◌^◌, ◌==◌, ◌||◌, ◌<◌, ◌≤◌, nat_lt, cond, Bool, true, false, List, [], ◌∷◌, ◌++◌, length, length-append, refl, ap, sym, ◌∙◌, subst, arith, codes, eq-eqb, le-ltb}
use Rattle.std.specs.Prelude.{Option, None, Some, flat_map, map, sum_by, if◌then◌else◌}
use Rattle.std.specs.List.{enumerate_from, list_any}
use Rattle.std.specs.Option.{option_or}
use Rattle.std.proofs.lemmas.Bool.Decides.{nat_tests}
use Rattle.std.proofs.lemmas.List.Sums.{sum_by-cons}
use Rattle.m88_base.specs.Image.{most_bytes}
use Rattle.m88_base.specs.Lines.{line_end, text_of_lines}
use Rattle.m88_isa.specs.declared.instr.Instr.{Instr}
use Rattle.m88_parse.specs.declared.unit.Body.{Body}
use Rattle.m88_parse.specs.declared.unit.Body.TheVariants.{Code}
use Rattle.m88_parse.specs.declared.unit.Module.{Module}
use Rattle.m88_parse.specs.declared.unit.Statement.{Statement}
use Rattle.m88_link.specs.Bases.{Placement, first_text, text_end, up_to_multiple}
use Rattle.m88_link.specs.Layout.{Extent, Reference, reference}
use Rattle.m88_link.specs.Refusal.{AreDisjoint, IsLinkable, covers, duplicate, hits, is_too_large, too_far, undefined}
use Rattle.m88_link.specs.Symbols.{exported}
use Rattle.m88_link.specs.declared.object.Reloc.{Reloc}
use Rattle.m88_link.specs.declared.object.Symbol.{Symbol}
use Rattle.m88_asm.specs.Counters.{Counters, Located, after, at_begin, located}
use Rattle.m88_asm.specs.Faults.{IsAssembled, fault_in, misfit_at, misplaced_at, module_fault, statements_fault, too_large_at}
use Rattle.m88_asm.specs.Objects.{Head, first_heads, marked, symbol_uses, symbols_in, symbols_of}
use Rattle.m88_asm.specs.Units.{base_in, extent_under, extents_in, globals_in, references_in, section_length, unit_layout}
use Rattle.m88_asm.specs.declared.fault.AsmFault.{AsmFault}
use Rattle.m88_asm.specs.declared.fault.AsmKind.TheVariants as kind
use Rattle.m88_disasm.specs.Read.{unlabelled}
use Rattle.m88_disasm.specs.Text.{instr_text}
use Rattle.m88_asm.specs.Sources.{IsProgramSource}
use Rattle.m88_disasm.proofs.Accepting.{faults_cons, opened_in, opened_sections}
use Rattle.m88_disasm.proofs.Linking.{hits_cons, lengths_cons, lengths_of}
use Rattle.m88_disasm.proofs.PlainInstructions.{IsPlain}
use Rattle.m88_disasm.proofs.Rows.{Stated, numbered, unit_is, unit_of}
use Rattle.m88_disasm.proofs.Spoken.{Spoken, said_instr, spoken}
use Rattle.m88_disasm.proofs.Standing.{located_cons, located_none}

-- instructions by numbers, as lines and as bodies
abbrev texts_of : (ℕ → Instr) → List ℕ → List (List ℕ)
texts_of f ns = map (λ n. instr_text (f n)) ns

abbrev bodies_of : (ℕ → Instr) → List ℕ → List Body
bodies_of f ns = map (λ n. Code (f n) None) ns

-- each line says its body
stated : (f : ℕ → Instr) → ((n : ℕ) → IsPlain (f n)) → (number : ℕ) (ns : List ℕ)
    → Stated number (texts_of f ns) (numbered number (bodies_of f ns))
stated f plain number [] = tt
stated f plain number (n ∷ ns) = (
  spoken number (instr_text (f n)) (Code (f n) None)
      (subst (λ (b : Body). Spoken number (instr_text (f n)) b) (plain n).said (said_instr number (f n) (plain n).valid)),
  stated f plain (number + 1) ns,
)

-- the text section stands, with so many bytes, and there are no data
record InText (c : Counters) (done : ℕ) : Type 0 where
  here : c.here ≡ 0
  begins : c.starts 0 ≡ 0
  has : c.lengths 0 ≡ done

begun : InText at_begin 0
begun = record { here = refl; begins = refl; has = refl }

behind : (c : Counters) (i : Instr) (done : ℕ) → InText c done → InText (after c (Code i None)) (done + 4)
behind c i done s = record {
  here = s.here;
  begins = s.begins;
  has =
      ap (λ (h : ℕ). (if h == 0 then c.lengths h + 4 else c.lengths 0)) s.here
      ∙ ap (λ (n : ℕ). n + 4) s.has;
}

-- no statement meets a fault
fits : (done line : ℕ) (i : Instr) → done % 4 ≡ 0 → done + 4 ≤ most_bytes
    → misfit_at done done (unlabelled line (Code i None)) ≡ None
fits done line i stands few =
    let x : Statement = unlabelled line (Code i None) in
    let placed : misplaced_at done x ≡ None =
    ap (λ (t : Bool). if t then None else Some (record { line = line; col = 1; kind = kind.Alignment }))
    (eq-eqb (done % 4) 0 stands) in
    let small : too_large_at done done x ≡ None =
    ap (λ (t : Bool). if t || nat_lt (2 ^ 32) (done + 4)
    then Some (record { line = line; col = 1; kind = kind.TooLarge }) else None)
    (le-ltb most_bytes (done + 4) few)
    ∙ ap (λ (t : Bool). if t then Some (record { line = line; col = 1; kind = kind.TooLarge }) else None)
    (le-ltb (2 ^ 32) (done + 4) (omega arith)) in
    ap (λ (o : Option AsmFault). option_or o (too_large_at done done x)) placed ∙ small

one_fault : (defined : List Symbol) (c : Counters) (line : ℕ) (i : Instr)
    → fault_in defined (record { before = c; statement = unlabelled line (Code i None) })
    ≡ misfit_at (c.lengths c.here) (c.starts c.here + c.lengths c.here) (unlabelled line (Code i None))
one_fault defined c line i = refl

no_fault : (defined : List Symbol) → statements_fault defined [] ≡ None
unfolding statements_fault
no_fault defined = refl

unfaulted : (f : ℕ → Instr) (ns : List ℕ) (c : Counters) (line done : ℕ) (defined : List Symbol) → InText c done
    → done % 4 ≡ 0 → done + 4 * length ns ≤ most_bytes
    → statements_fault defined (located c (numbered line (bodies_of f ns))) ≡ None
unfaulted f [] c line done defined s stands few =
    ap (statements_fault defined) (located_none c) ∙ no_fault defined
unfaulted f (n ∷ ns) c line done defined s stands few =
    let x : Statement = unlabelled line (Code (f n) None) in
    let r : Located = record { before = c; statement = x } in
    let rest : List Located = located (after c (Code (f n) None)) (numbered (line + 1) (bodies_of f ns)) in
    let offset : c.lengths c.here ≡ done = ap c.lengths s.here ∙ s.has in
    let place : c.starts c.here + c.lengths c.here ≡ done =
    ap (λ (k : ℕ). c.starts k + c.lengths k) s.here ∙ (let e = s.begins in let h = s.has in omega (arith, e, h)) in
    let first : fault_in defined r ≡ None =
    one_fault defined c line (f n)
    ∙ ap (λ (k : ℕ). misfit_at k (c.starts c.here + c.lengths c.here) x) offset
    ∙ ap (λ (k : ℕ). misfit_at done k x) place
    ∙ fits done line (f n) stands (omega arith) in
    ap (statements_fault defined) (located_cons c x (numbered (line + 1) (bodies_of f ns)))
    ∙ faults_cons defined r rest first
    (unfaulted f ns (after c (Code (f n) None)) (line + 1) (done + 4) (defined ++ symbols_of r)
    (behind c (f n) done s) (omega arith) (omega arith))

-- all bytes are text
text_bytes : (f : ℕ → Instr) (ns : List ℕ) (c : Counters) (line done : ℕ) → InText c done
    → lengths_of 0 c (numbered line (bodies_of f ns)) ≡ 4 * length ns
text_bytes f [] c line done s = ap (sum_by _) (located_none c)
text_bytes f (n ∷ ns) c line done s =
    let others = text_bytes f ns (after c (Code (f n) None)) (line + 1) (done + 4) (behind c (f n) done s) in
    lengths_cons 0 c (unlabelled line (Code (f n) None)) (numbered (line + 1) (bodies_of f ns))
    ∙ ap (λ (h : ℕ). (if h == 0 then 4 else 0) + lengths_of 0 (after c (Code (f n) None)) (numbered (line + 1) (bodies_of f ns))) s.here
    ∙ omega (arith, others)

data_bytes : (f : ℕ → Instr) (ns : List ℕ) (c : Counters) (line done : ℕ) → InText c done
    → lengths_of 1 c (numbered line (bodies_of f ns)) ≡ 0
data_bytes f [] c line done s = ap (sum_by _) (located_none c)
data_bytes f (n ∷ ns) c line done s =
    let others = data_bytes f ns (after c (Code (f n) None)) (line + 1) (done + 4) (behind c (f n) done s) in
    lengths_cons 1 c (unlabelled line (Code (f n) None)) (numbered (line + 1) (bodies_of f ns))
    ∙ ap (λ (h : ℕ). (if h == 1 then 4 else 0) + lengths_of 1 (after c (Code (f n) None)) (numbered (line + 1) (bodies_of f ns))) s.here
    ∙ omega (arith, others)

-- they open no section, define no symbol and use none
none_opened : (f : ℕ → Instr) (line : ℕ) (ns : List ℕ) → opened_in (numbered line (bodies_of f ns)) ≡ []
none_opened f line [] = refl
none_opened f line (n ∷ ns) = none_opened f (line + 1) ns

none_defined : (f : ℕ → Instr) (c : Counters) (line : ℕ) (ns : List ℕ)
    → flat_map symbols_of (located c (numbered line (bodies_of f ns))) ≡ []
none_defined f c line [] = ap (flat_map symbols_of) (located_none c)
none_defined f c line (n ∷ ns) =
    ap (flat_map symbols_of) (located_cons c (unlabelled line (Code (f n) None)) (numbered (line + 1) (bodies_of f ns)))
    ∙ none_defined f (after c (Code (f n) None)) (line + 1) ns

none_used : (f : ℕ → Instr) (c : Counters) (line : ℕ) (ns : List ℕ)
    → flat_map symbol_uses (located c (numbered line (bodies_of f ns))) ≡ []
none_used f c line [] = ap (flat_map symbol_uses) (located_none c)
none_used f c line (n ∷ ns) =
    ap (flat_map symbol_uses) (located_cons c (unlabelled line (Code (f n) None)) (numbered (line + 1) (bodies_of f ns)))
    ∙ none_used f (after c (Code (f n) None)) (line + 1) ns

-- their module, and where it stands
abbrev main : (ℕ → Instr) → List ℕ → Module
main f ns = record { name = codes "main"; line = 1; statements = numbered 1 (bodies_of f ns) }

abbrev stood : (ℕ → Instr) → List ℕ → Placement Module
stood f ns = record {
  part = main f ns;
  text_at = up_to_multiple 8 first_text;
  data_at = up_to_multiple 8 (up_to_multiple 4096 (text_end section_length first_text (main f ns ∷ [])));
}

no_globals : (f : ℕ → Instr) (ns : List ℕ) → globals_in (stood f ns) ++ [] ≡ []
no_globals f ns =
    ap (λ (ss : List Symbol). exported (base_in (stood f ns)) (map (marked (main f ns).statements) ss) ++ [])
    (none_defined f at_begin 1 ns)

no_references : (f : ℕ → Instr) (ns : List ℕ) (g : List Symbol) → references_in g (stood f ns) ++ [] ≡ []
no_references f ns g =
    ap (λ (us : List Reloc). map (reference g (base_in (stood f ns)) (symbols_in (main f ns))) us ++ [])
    (none_used f at_begin 1 ns)

-- two sections, the second without bytes
abbrev text_extent : (ℕ → Instr) → List ℕ → Extent
text_extent f ns = record { at = (stood f ns).text_at; len = section_length 0 (main f ns); line = 1 }

abbrev data_extent : (ℕ → Instr) → List ℕ → Extent
data_extent f ns = record { at = (stood f ns).data_at; len = section_length 1 (main f ns); line = 1 }

two_extents : (f : ℕ → Instr) (ns : List ℕ)
    → extents_in (stood f ns) ++ [] ≡ text_extent f ns ∷ data_extent f ns ∷ []
two_extents f ns =
    ap (λ (hs : List Head). map (extent_under (stood f ns)) (enumerate_from 0 (first_heads 1 ++ hs)) ++ [])
    (opened_sections at_begin (numbered 1 (bodies_of f ns)) ∙ none_opened f 1 ns)

small_enough : (r s : Extent) → r.at ≤ 2 ^ 31 → s.at ≤ 2 ^ 31 → r.len ≤ most_bytes → s.len ≡ 0
    → is_too_large (r ∷ s ∷ []) ≡ false
small_enough r s first second few none =
    let one = sum_by-cons (λ (e : Extent). e.len) r (s ∷ []) in
    let two = sum_by-cons (λ (e : Extent). e.len) s [] in
    ap (λ (t : Bool). t || list_any (λ (e : Extent). nat_lt (2 ^ 32) (e.at + e.len)) (r ∷ s ∷ []))
    (le-ltb most_bytes (sum_by (λ (e : Extent). e.len) (r ∷ s ∷ [])) (omega (arith, one, two)))
    ∙ ap (λ (t : Bool). t || list_any (λ (e : Extent). nat_lt (2 ^ 32) (e.at + e.len)) (s ∷ []))
    (le-ltb (2 ^ 32) (r.at + r.len) (omega arith))
    ∙ ap (λ (t : Bool). t || false) (le-ltb (2 ^ 32) (s.at + s.len) (omega arith))

nowhere : (a : ℕ) (e : Extent) → e.len ≡ 0 → covers a e ≡ false
nowhere a e none = grind (arith, nat_tests)

once : (t : Bool) → cond t 1 0 + 0 < 2
once true = omega arith
once false = omega arith

apart : (r s : Extent) → s.len ≡ 0 → AreDisjoint (r ∷ s ∷ [])
apart r s none a =
    let count : hits (r ∷ s ∷ []) a ≡ cond (covers a r) 1 0 + 0 =
    hits_cons r (s ∷ []) a
    ∙ ap (λ (n : ℕ). cond (covers a r) 1 0 + n)
    (hits_cons s [] a ∙ ap (λ (t : Bool). cond t 1 0 + 0) (nowhere a s none)) in
    subst (λ (n : ℕ). n < 2) (sym count) (once (covers a r))

-- the data would begin low
data_low : (len : ℕ) → len ≤ most_bytes → up_to_multiple 8 (up_to_multiple 4096 (up_to_multiple 8 first_text + len)) ≤ 2 ^ 31
data_low len few = omega arith

linkable : (f : ℕ → Instr) (ns : List ℕ) → 4 * length ns ≤ most_bytes → IsLinkable (unit_layout (unit_of (numbered 1 (bodies_of f ns))))
linkable f ns few =
    let text : section_length 0 (main f ns) ≡ 4 * length ns = text_bytes f ns at_begin 1 0 begun in
    let none : section_length 1 (main f ns) ≡ 0 = data_bytes f ns at_begin 1 0 begun in
    let short : section_length 0 (main f ns) ≤ most_bytes = omega (arith, text) in
    let g : List Symbol = globals_in (stood f ns) ++ [] in
    record {
      fits =
          ap is_too_large (two_extents f ns)
          ∙ small_enough (text_extent f ns) (data_extent f ns) (omega arith)
          (data_low (section_length 0 (main f ns)) short) short none;
      disjoint = subst AreDisjoint (sym (two_extents f ns)) (apart (text_extent f ns) (data_extent f ns) none);
      named =
          ap (λ (ss : List Symbol). option_or (duplicate ss)
          (option_or (undefined (references_in g (stood f ns) ++ [])) (too_far (references_in g (stood f ns) ++ []))))
          (no_globals f ns)
          ∙ ap (λ (rs : List Reference). option_or (undefined rs) (too_far rs)) (no_references f ns g);
    }

assembled : (f : ℕ → Instr) (ns : List ℕ) → 4 * length ns ≤ most_bytes → IsAssembled (unit_of (numbered 1 (bodies_of f ns)))
assembled f ns few =
    let whole : module_fault (main f ns) ≡ None = unfaulted f ns at_begin 1 0 [] begun (omega arith) (omega arith) in
    ap (λ (o : Option AsmFault). option_or o None) whole

-- a source of such lines is accepted
pub plain_source : (f : ℕ → Instr) (ns source : List ℕ) → ((n : ℕ) → IsPlain (f n)) → 4 * length ns ≤ most_bytes
    → source ≡ text_of_lines (map (λ n. instr_text (f n)) ns) → IsProgramSource source
plain_source f ns source plain few is = record {
  unit = unit_of (numbered 1 (bodies_of f ns));
  is_unit = unit_is (texts_of f ns) (numbered 1 (bodies_of f ns)) source is (stated f plain 1 ns);
  is_accepted = record { assembled = assembled f ns few; linkable = linkable f ns few };
}

-- and short
pub plain_length : (f : ℕ → Instr) (ns : List ℕ) → ((n : ℕ) → IsPlain (f n))
    → length (text_of_lines (map (λ n. instr_text (f n)) ns)) ≤ 26 * length ns
plain_length f [] plain = omega arith
plain_length f (n ∷ ns) plain =
    let line = length-append (instr_text (f n)) line_end in
    let text = length-append (instr_text (f n) ++ line_end) (text_of_lines (texts_of f ns)) in
    let few = (plain n).short in
    let others = plain_length f ns plain in
    omega (arith, line, text, few, others)
