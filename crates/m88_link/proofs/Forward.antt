-- The lines of objects that have a text are taken one by one, and come to these objects.
use Rattle.std.proofs.Common.{◌≡◌, ℕ, zero, suc, ◌-◌, ◌*◌, ◌^◌, ◌<◌, ◌≤◌, Bool, true, false, List, [], ◌∷◌, ◌++◌, length, map, take, drop, min, refl, sym, ap, ◌∙◌, arith, append_assoc, length-append, length-drop, length-take, inl, inr}
use Rattle.std.proofs.lemmas.Bool.{cases_lt}
use Rattle.std.specs.Prelude.{Option, None, Some, ◌==◌, ◌&&◌, flat_map, option_map, if◌then◌else◌}
use Rattle.std.specs.List.{AllByRecursion}
use Rattle.std.proofs.lemmas.Bool.Decides.{nat_tests}
use Rattle.std.proofs.lemmas.Bool.{eq-eqb, le-leb}
use Rattle.std.proofs.lemmas.List.{append-nil, nil_from_length, take-append-drop, take_all}
use Rattle.std.proofs.lemmas.List.Elements.{recursion_from_All}
use Rattle.m88_base.specs.Hex.{hex2}
use Rattle.m88_base.proofs.Laws.{first_piece}
use Rattle.m88_link.specs.declared.object.Object.{Object}
use Rattle.m88_link.specs.declared.object.Place.{Place}
use Rattle.m88_link.specs.declared.object.Place.TheVariants.{Text, DataSection, At}
use Rattle.m88_link.specs.declared.object.Reloc.{Reloc}
use Rattle.m88_link.specs.declared.object.Section.{Section}
use Rattle.m88_link.specs.declared.object.Symbol.{Symbol}
use Rattle.m88_link.specs.declared.row.Row.{Row}
use Rattle.m88_link.specs.declared.row.Row.TheVariants.{Begin, Head, Define, Patch, End}
use Rattle.m88_link.specs.declared.row.SectionHead.{SectionHead}
use Rattle.m88_link.specs.Inside.Drafts.{BegunObject, Filled, Progress, bytes_step, define_step, end_step, begin_step, head_step, headed, may_stand, line_step, more_bytes, only_named, object_with, patch_step, row_step, with_section_settled, section_with, within}
use Rattle.m88_link.specs.ObjectRead.{HasRelocText, HasSectionText, HasSymbolText, HasText}
use Rattle.m88_link.specs.Inside.Rows.{◌>>=◌, bytes_behind, row_in}
use Rattle.m88_link.specs.Sound.{AreSections, IsOwnAddress}
use Rattle.m88_link.proofs.ByteTexts.{bytes_read, length-digits}
use Rattle.m88_link.proofs.RowTexts.{IsRow, place_text, row_read, row_text}
use Rattle.m88_link.proofs.Written.{byte_row, byte_rows, no_rows, object_rows, objects_rows, reloc_rows, section_rows, sections_rows, symbol_rows}
use Rattle.m88_link.proofs.Kept.{bare}

-- lines one after the other
abbrev pub run : Progress → List (List ℕ) → Option Progress
run s [] = Some s
run s (line ∷ lines) = line_step s line >>= λ t. run t lines

pub run-append : (s : Progress) (xs ys : List (List ℕ)) → run s (xs ++ ys) ≡ (run s xs >>= λ t. run t ys)
run-append s [] ys = refl
run-append s (x ∷ xs) ys = by_step (line_step s x) (λ t. run-append t xs ys)
  where
    by_step : (o : Option Progress) → ((t : Progress) → run t (xs ++ ys) ≡ (run t xs >>= λ t. run t ys))
        → (o >>= λ t. run t (xs ++ ys)) ≡ ((o >>= λ t. run t xs) >>= λ t. run t ys)
    by_step None ih = refl
    by_step (Some t) ih = ih t

pub run_then : (s t u : Progress) (xs ys : List (List ℕ)) → run s xs ≡ Some t → run t ys ≡ Some u → run s (xs ++ ys) ≡ Some u
run_then s t u xs ys e f = run-append s xs ys ∙ ap (λ o. o >>= λ t. run t ys) e ∙ f

run_one : (s t : Progress) (line : List ℕ) → line_step s line ≡ Some t → run s (line ∷ []) ≡ Some t
run_one s t line e = ap (λ o. o >>= λ t. run t []) e

head_line : (s : Progress) (p : Place) (h : SectionHead) → line_step s (place_text p h) ≡ (row_in (place_text p h) >>= row_step s)
unfolding line_step
head_line s Text h = refl
head_line s DataSection h = refl
head_line s (At a) h = refl

row_line : (s : Progress) (r : Row) → line_step s (row_text r) ≡ (row_in (row_text r) >>= row_step s)
unfolding line_step
row_line s (Begin name) = refl
row_line s (Head h) = head_line s h.place h
row_line s (Define x) = refl
row_line s (Patch x) = refl
row_line s End = refl

pub row_taken : (s : Progress) (r : Row) → IsRow r → line_step s (row_text r) ≡ row_step s r
row_taken s r h = row_line s r ∙ ap (λ o. o >>= row_step s) (row_read r h)

pub bytes_taken : (s : Progress) (digits : List ℕ) → line_step s (61 ∷ digits) ≡ within s (bytes_step digits)
unfolding line_step
bytes_taken s digits = refl

-- the object goes on
abbrev pub going : List Object → BegunObject → Progress
going done d = record { done = done; draft = Some d }

within_is : (done : List Object) (d e : BegunObject) (step : BegunObject → Option BegunObject) → step d ≡ Some e → within (going done d) step ≡ Some (going done e)
within_is done d e step h = ap (λ o. o >>= λ e. Some (going done e)) h

-- bytes of a section
module _ (done : List Object) (name : List ℕ) (sections : List Section) (place : Place) (line : ℕ) where
  abbrev filled : List ℕ → ℕ → Filled
  filled bytes missing = record { place = place; line = line; bytes = bytes; missing = missing }

  more_is : (bytes bs : List ℕ) (missing : ℕ) → AllByRecursion (λ b. b < 2 ^ 8) bs → length bs ≡ min missing 32
      → more_bytes (flat_map hex2 bs) (filled bytes missing) ≡ Some (filled (bytes ++ bs) (missing - min missing 32))
  unfolding more_bytes bytes_behind
  more_is bytes bs missing small size =
      let long = length-digits bs in
      let twice : length (flat_map hex2 bs) ≡ 2 * min missing 32 = omega (arith, long, size) in
      let test : (length (flat_map hex2 bs) == 2 * min missing 32) ≡ true = eq-eqb _ _ twice in
      ap (λ (t : Bool). if t then (bytes_behind bytes (flat_map hex2 bs) >>= λ bs. Some (filled bs (missing - min missing 32))) else None) test
      ∙ ap (λ o. option_map (λ bs. bytes ++ bs) o >>= λ bs. Some (filled bs (missing - min missing 32))) (bytes_read bs small)

  bytes_step_is : (bytes bs : List ℕ) (missing : ℕ) → AllByRecursion (λ b. b < 2 ^ 8) bs → length bs ≡ min missing 32
      → bytes_step (flat_map hex2 bs) (bare name sections (Some (filled bytes missing)))
      ≡ Some (with_section_settled (bare name sections None) (filled (bytes ++ bs) (missing - min missing 32)))
  unfolding bytes_step
  bytes_step_is bytes bs missing small size = ap (λ o. o >>= λ g. Some (with_section_settled (bare name sections None) g)) (more_is bytes bs missing small size)

  byte_row_taken : (bytes bs : List ℕ) (missing : ℕ) → AllByRecursion (λ b. b < 2 ^ 8) bs → length bs ≡ min missing 32
      → line_step (going done (bare name sections (Some (filled bytes missing)))) (byte_row bs)
      ≡ Some (going done (with_section_settled (bare name sections None) (filled (bytes ++ bs) (missing - min missing 32))))
  byte_row_taken bytes bs missing small size =
      bytes_taken (going done (bare name sections (Some (filled bytes missing)))) (flat_map hex2 bs)
      ∙ within_is done (bare name sections (Some (filled bytes missing))) _ (bytes_step (flat_map hex2 bs)) (bytes_step_is bytes bs missing small size)

  settled_more : (bytes : List ℕ) (missing : ℕ) → 1 ≤ missing → with_section_settled (bare name sections None) (filled bytes missing) ≡ bare name sections (Some (filled bytes missing))
  settled_more bytes missing some =
      ap (λ (t : Bool). if t then bare name (sections ++ section_with (filled bytes missing) ∷ []) None else bare name sections (Some (filled bytes missing)))
      (apart missing some)
    where
      apart : (n : ℕ) → 1 ≤ n → (n == 0) ≡ false
      apart n h = grind (arith, nat_tests)

  small_behind : (n : ℕ) (xs : List ℕ) → AllByRecursion (λ b. b < 2 ^ 8) xs → AllByRecursion (λ b. b < 2 ^ 8) (drop n xs)
  small_behind zero xs h = h
  small_behind (suc n) [] h = tt
  small_behind (suc n) (x ∷ xs) h = small_behind n xs h.1

  small_front : (n : ℕ) (xs : List ℕ) → AllByRecursion (λ b. b < 2 ^ 8) xs → AllByRecursion (λ b. b < 2 ^ 8) (take n xs)
  small_front zero xs h = tt
  small_front (suc n) [] h = tt
  small_front (suc n) (x ∷ xs) h = (h.0, small_front n xs h.1)

  -- the section with all its bytes
  abbrev whole_with : List ℕ → Progress
  whole_with bytes = going done (bare name (sections ++ record { place = place; bytes = bytes; line = line } ∷ []) None)

  -- where some bytes are missing
  abbrev lacking : List ℕ → ℕ → Progress
  lacking bytes missing = going done (with_section_settled (bare name sections None) (filled bytes missing))

  -- the lines of the bytes that are missing
  fill : (fuel : ℕ) (bytes rest : List ℕ) → length rest ≤ fuel → 1 ≤ length rest → AllByRecursion (λ b. b < 2 ^ 8) rest
      → run (going done (bare name sections (Some (filled bytes (length rest))))) (byte_rows rest) ≡ Some (whole_with (bytes ++ rest))
  fill zero bytes rest h some small = absurd (omega (arith, h, some))
  fill (suc fuel) bytes rest h some small =
      ap (λ ps. run (going done (bare name sections (Some (filled bytes (length rest))))) (map byte_row ps)) (first_piece 32 (omega arith) rest (omega (arith, some)))
      ∙ ap (λ o. o >>= λ t. run t (byte_rows left)) taken
      ∙ elim (cases_lt 0 (length left)) [
        | inl more ↦
            ap (λ d. run (going done d) (byte_rows left)) (settled_more (bytes ++ part) (length left) (omega (arith, more)))
            ∙ fill fuel (bytes ++ part) left (omega (arith, h, long)) (omega (arith, more)) (small_behind 32 rest small)
            ∙ ap (λ l. Some (whole_with l)) (append_assoc bytes part left ∙ ap (λ l. bytes ++ l) (take-append-drop 32 rest))
        | inr last ↦
            let none : left ≡ [] = nil_from_length left (omega (arith, last)) in
            let all : part ≡ rest = take_all 32 rest (omega (arith, last, long)) in
            ap (λ l. run (lacking (bytes ++ part) (length l)) (byte_rows l)) none
            ∙ ap (run (lacking (bytes ++ part) 0)) no_rows
            ∙ ap (λ l. Some (whole_with (bytes ++ l))) all
      ]
    where
      part : List ℕ
      part = take 32 rest

      left : List ℕ
      left = drop 32 rest

      long : length left ≡ length rest - 32
      long = length-drop 32 rest

      taken : line_step (going done (bare name sections (Some (filled bytes (length rest))))) (byte_row part) ≡ Some (lacking (bytes ++ part) (length left))
      taken =
          let size : length part ≡ min (length rest) 32 = length-take 32 rest ∙ omega arith in
          let missing : length rest - min (length rest) 32 ≡ length left = omega (arith, long) in
          byte_row_taken bytes part (length rest) (small_front 32 rest small) size ∙ ap (λ k. Some (lacking (bytes ++ part) k)) missing

  -- all lines of some bytes
  pub fill_all : (bytes : List ℕ) → AllByRecursion (λ b. b < 2 ^ 8) bytes → 1 ≤ length bytes
      → run (going done (bare name sections (Some (filled [] (length bytes))))) (byte_rows bytes) ≡ Some (whole_with bytes)
  fill_all bytes small some = fill (length bytes) [] bytes (omega arith) some small

-- a section
module _ (done : List Object) (name : List ℕ) (sections : List Section) where
  abbrev before_it : BegunObject
  before_it = bare name sections None

  head_step_is : (h : SectionHead) → may_stand (length sections) h.place ≡ true → head_step h before_it ≡ Some (with_section_settled before_it (headed h))
  unfolding head_step
  head_step_is h next = ap (λ (t : Bool). if t then Some (with_section_settled before_it (headed h)) else None) next

  head_taken : (h : SectionHead) → IsRow (Head h) → may_stand (length sections) h.place ≡ true
      → line_step (going done before_it) (row_text (Head h)) ≡ Some (going done (with_section_settled before_it (headed h)))
  head_taken h good next =
      row_taken (going done before_it) (Head h) good ∙ within_is done before_it (with_section_settled before_it (headed h)) (head_step h) (head_step_is h next)

  settled_head : (h : SectionHead) (n : ℕ) → h.len ≡ n → (b : Bool) → (n == 0) ≡ b
      → with_section_settled before_it (headed h) ≡ (if b then bare name (sections ++ section_with (headed h) ∷ []) None else bare name sections (Some (headed h)))
  settled_head h n is b e =
      ap (λ (k : ℕ). if k == 0 then bare name (sections ++ section_with (headed h) ∷ []) None else bare name sections (Some (headed h))) is
      ∙ ap (λ (t : Bool). if t then bare name (sections ++ section_with (headed h) ∷ []) None else bare name sections (Some (headed h))) e

  apart_from_none : (n : ℕ) → (n == 0) ≡ false → 1 ≤ n
  apart_from_none n e = grind (arith, nat_tests)

  none_at_all : (n : ℕ) → (n == 0) ≡ true → n ≡ 0
  none_at_all n e = grind (arith, nat_tests)

  module _ (s : Section) (h : HasSectionText s) (next : may_stand (length sections) s.place ≡ true) where
    abbrev head : SectionHead
    head = record { place = s.place; len = length s.bytes; line = s.line }

    good : IsRow (Head head)
    good = (h.address, h.few, h.line)

    empty : length s.bytes ≡ 0 → run (going done before_it) (section_rows s) ≡ Some (going done (bare name (sections ++ s ∷ []) None))
    empty none =
        let nil = nil_from_length s.bytes none in
        let rows : byte_rows s.bytes ≡ [] = ap byte_rows nil ∙ no_rows in
        let whole : section_with (headed head) ≡ s = ap (λ (l : List ℕ). let x : Section = record s { bytes = l } in x) (sym nil) in
        ap (λ l. run (going done before_it) (row_text (Head head) ∷ l)) rows
        ∙ run_one _ _ (row_text (Head head)) (head_taken head good next
        ∙ ap (λ d. Some (going done d)) (settled_head head (length s.bytes) refl true (eq-eqb (length s.bytes) 0 none))
        ∙ ap (λ x. Some (going done (bare name (sections ++ x ∷ []) None))) whole)

    full : (length s.bytes == 0) ≡ false → run (going done before_it) (section_rows s) ≡ Some (going done (bare name (sections ++ s ∷ []) None))
    full some =
        run_then _ (going done (bare name sections (Some (headed head)))) _ (row_text (Head head) ∷ []) (byte_rows s.bytes)
        (run_one _ _ (row_text (Head head)) (head_taken head good next
        ∙ ap (λ d. Some (going done d)) (settled_head head (length s.bytes) refl false some)))
        (fill_all done name sections s.place s.line s.bytes h.bytes (apart_from_none (length s.bytes) some))

    by_size : (b : Bool) → (length s.bytes == 0) ≡ b → run (going done before_it) (section_rows s) ≡ Some (going done (bare name (sections ++ s ∷ []) None))
    by_size true e = empty (none_at_all (length s.bytes) e)
    by_size false e = full e

    pub section_taken : run (going done before_it) (section_rows s) ≡ Some (going done (bare name (sections ++ s ∷ []) None))
    section_taken = by_size (length s.bytes == 0) refl

-- sections with addresses
addressed : (n : ℕ) (p : Place) → 2 ≤ n → IsOwnAddress p → may_stand n p ≡ true
addressed n Text h k = absurd k
addressed n DataSection h k = absurd k
addressed n (At a) h k = le-leb 2 n h

others_taken : (done : List Object) (name : List ℕ) (sections xs : List Section) → 2 ≤ length sections → AllByRecursion HasSectionText xs
    → AllByRecursion (λ s. IsOwnAddress s.place) xs
    → run (going done (bare name sections None)) (sections_rows xs) ≡ Some (going done (bare name (sections ++ xs) None))
others_taken done name sections [] two h k = ap (λ l. Some (going done (bare name l None))) (sym (append-nil sections))
others_taken done name sections (x ∷ xs) two h k =
    let more : 2 ≤ length (sections ++ x ∷ []) = omega (arith, two, length-append sections (x ∷ [])) in
    run_then _ (going done (bare name (sections ++ x ∷ []) None)) _ (section_rows x) (sections_rows xs)
    (section_taken done name sections x h.0 (addressed (length sections) x.place two k.0))
    (others_taken done name (sections ++ x ∷ []) xs more h.1 k.1 ∙ ap (λ l. Some (going done (bare name l None))) (append_assoc sections (x ∷ []) xs))

-- all sections of an object
sections_taken : (done : List Object) (name : List ℕ) (xs : List Section) → AllByRecursion HasSectionText xs → AreSections xs
    → run (going done (bare name [] None)) (sections_rows xs) ≡ Some (going done (bare name xs None))
sections_taken done name [] h k = absurd k
sections_taken done name (t ∷ []) h k = absurd k
sections_taken done name (t ∷ d ∷ others) h k =
    run_then _ (going done (bare name (t ∷ []) None)) _ (section_rows t) (section_rows d ++ sections_rows others)
    (section_taken done name [] t h.0 (ap (may_stand 0) k.0))
    (run_then _ (going done (bare name (t ∷ d ∷ []) None)) _ (section_rows d) (sections_rows others)
    (section_taken done name (t ∷ []) d h.1.0 (ap (may_stand 1) k.1))
    (others_taken done name (t ∷ d ∷ []) others (omega arith) h.1.1 (recursion_from_All (λ s. IsOwnAddress s.place) others k.2)))

-- symbols and relocations
module _ (done : List Object) (name : List ℕ) (sections : List Section) (two : 2 ≤ length sections) where
  abbrev with_both : List Symbol → List Reloc → BegunObject
  with_both symbols relocs = record { name = name; sections = sections; filling = None; symbols = symbols; relocs = relocs }

  define_is : (s : Symbol) (symbols : List Symbol) → define_step s (with_both symbols []) ≡ Some (with_both (symbols ++ s ∷ []) [])
  unfolding define_step
  define_is s symbols = ap (λ (t : Bool). if t && true then Some (with_both (symbols ++ s ∷ []) []) else None) (le-leb 2 (length sections) two)

  symbols_taken : (symbols xs : List Symbol) → AllByRecursion HasSymbolText xs
      → run (going done (with_both symbols [])) (symbol_rows xs) ≡ Some (going done (with_both (symbols ++ xs) []))
  symbols_taken symbols [] h = ap (λ l. Some (going done (with_both l []))) (sym (append-nil symbols))
  symbols_taken symbols (x ∷ xs) h =
      run_then _ (going done (with_both (symbols ++ x ∷ []) [])) _ (row_text (Define x) ∷ []) (symbol_rows xs)
      (run_one _ _ (row_text (Define x)) (row_taken (going done (with_both symbols [])) (Define x) h.0
      ∙ within_is done (with_both symbols []) (with_both (symbols ++ x ∷ []) []) (define_step x) (define_is x symbols)))
      (symbols_taken (symbols ++ x ∷ []) xs h.1 ∙ ap (λ l. Some (going done (with_both l []))) (append_assoc symbols (x ∷ []) xs))

  patch_is : (r : Reloc) (symbols : List Symbol) (relocs : List Reloc) → patch_step r (with_both symbols relocs) ≡ Some (with_both symbols (relocs ++ r ∷ []))
  unfolding patch_step
  patch_is r symbols relocs = ap (λ (t : Bool). if t then Some (with_both symbols (relocs ++ r ∷ [])) else None) (le-leb 2 (length sections) two)

  relocs_taken : (symbols : List Symbol) (relocs xs : List Reloc) → AllByRecursion HasRelocText xs
      → run (going done (with_both symbols relocs)) (reloc_rows xs) ≡ Some (going done (with_both symbols (relocs ++ xs)))
  relocs_taken symbols relocs [] h = ap (λ l. Some (going done (with_both symbols l))) (sym (append-nil relocs))
  relocs_taken symbols relocs (x ∷ xs) h =
      run_then _ (going done (with_both symbols (relocs ++ x ∷ []))) _ (row_text (Patch x) ∷ []) (reloc_rows xs)
      (run_one _ _ (row_text (Patch x)) (row_taken (going done (with_both symbols relocs)) (Patch x) h.0
      ∙ within_is done (with_both symbols relocs) (with_both symbols (relocs ++ x ∷ [])) (patch_step x) (patch_is x symbols relocs)))
      (relocs_taken symbols (relocs ++ x ∷ []) xs h.1 ∙ ap (λ l. Some (going done (with_both symbols l))) (append_assoc relocs (x ∷ []) xs))

  end_is : (symbols : List Symbol) (relocs : List Reloc)
      → end_step (going done (with_both symbols relocs))
      ≡ Some (record { done = done ++ object_with (with_both symbols relocs) ∷ []; draft = None })
  unfolding end_step
  end_is symbols relocs =
      ap (λ (t : Bool). if t then Some (record { done = done ++ object_with (with_both symbols relocs) ∷ []; draft = None }) else None)
      (le-leb 2 (length sections) two)

  pub parts_taken : (symbols : List Symbol) (relocs : List Reloc) → AllByRecursion HasSymbolText symbols → AllByRecursion HasRelocText relocs
      → run (going done (with_both [] [])) (symbol_rows symbols ++ (reloc_rows relocs ++ row_text End ∷ []))
      ≡ Some (record { done = done ++ object_with (with_both symbols relocs) ∷ []; draft = None })
  parts_taken symbols relocs h k =
      run_then _ (going done (with_both symbols [])) _ (symbol_rows symbols) (reloc_rows relocs ++ row_text End ∷ []) (symbols_taken [] symbols h)
      (run_then _ (going done (with_both symbols relocs)) _ (reloc_rows relocs) (row_text End ∷ []) (relocs_taken symbols [] relocs k)
      (run_one _ _ (row_text End) (row_taken (going done (with_both symbols relocs)) End tt ∙ end_is symbols relocs)))

-- what is read of whole objects
abbrev pub rested : List Object → Progress
rested done = record { done = done; draft = None }

begin_is : (done : List Object) (name : List ℕ) → begin_step name (rested done) ≡ Some (going done (only_named name))
unfolding begin_step
begin_is done name = refl

two_sections : (xs : List Section) → AreSections xs → 2 ≤ length xs
two_sections [] k = absurd k
two_sections (t ∷ []) k = absurd k
two_sections (t ∷ d ∷ others) k = omega arith

object_taken : (done : List Object) (o : Object) → HasText o → run (rested done) (object_rows o) ≡ Some (rested (done ++ o ∷ []))
object_taken done o h =
    run_then _ (going done (only_named o.name)) _ (row_text (Begin o.name) ∷ []) (sections_rows o.sections ++ (symbol_rows o.symbols ++ (reloc_rows o.relocs ++ row_text End ∷ [])))
    (run_one _ _ (row_text (Begin o.name)) (row_taken (rested done) (Begin o.name) h.name ∙ begin_is done o.name))
    (run_then _ (going done (bare o.name o.sections None)) _ (sections_rows o.sections) (symbol_rows o.symbols ++ (reloc_rows o.relocs ++ row_text End ∷ []))
    (sections_taken done o.name o.sections h.sections h.order)
    (parts_taken done o.name o.sections (two_sections o.sections h.order) o.symbols o.relocs h.symbols h.relocs))

-- the lines of objects are taken for these objects
pub objects_taken : (done xs : List Object) → AllByRecursion HasText xs → run (rested done) (objects_rows xs) ≡ Some (rested (done ++ xs))
objects_taken done [] h = ap (λ l. Some (rested l)) (sym (append-nil done))
objects_taken done (x ∷ xs) h =
    run_then _ (rested (done ++ x ∷ [])) _ (object_rows x) (objects_rows xs) (object_taken done x h.0)
    (objects_taken (done ++ x ∷ []) xs h.1 ∙ ap (λ l. Some (rested l)) (append_assoc done (x ∷ []) xs))
