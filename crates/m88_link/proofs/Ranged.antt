-- The first part by which an object isn't sound, as the line at which it stands; there is one such line at most.
use Rattle.std.proofs.Common.{◌≡◌, ℕ, suc, ◌+◌, ◌<◌, ◌≤◌, List, [], ◌∷◌, ◌++◌, length, refl, sym, ap, ◌∙◌, subst, arith, inl, inr, append_assoc, length-append}
use Rattle.std.specs.Prelude.{Option, None, Some, All, flat_map, sum_by, if◌then◌else◌, Bool, true, false, ◌==◌}
use Rattle.std.specs.List.{AllByRecursion}
use Rattle.std.specs.Option.{option_or}
use Rattle.std.proofs.lemmas.List.{append_cancel_left, length-map}
use Rattle.std.proofs.lemmas.List.Elements.{All-from_recursion, All-push, recursion_from_All}
use Rattle.std.proofs.lemmas.List.Sums.{sum_by-append, sum_by-cons}
use Rattle.m88_base.specs.Lines.{line_end, on_first_line}
use Rattle.m88_base.specs.Pieces.{pieces}
use Rattle.m88_base.proofs.Laws.{length-pieces}
use Rattle.m88_link.specs.declared.object.Object.{Object}
use Rattle.m88_link.specs.declared.object.Reloc.{Reloc}
use Rattle.m88_link.specs.declared.object.Section.{Section}
use Rattle.m88_link.specs.declared.object.Symbol.{Symbol}
use Rattle.m88_link.specs.declared.row.Row.TheVariants.{Begin, Define, Patch, End}
use Rattle.m88_link.specs.ObjectRead.{AreSoundSymbols, HasRelocText, HasSectionText, HasSymbolText, HasText, HaveText, IsFirstUnsound, IsUnsoundPart, IsUnsoundSection, IsUnsoundSymbol, ended_lines, line_behind}
use Rattle.m88_link.specs.ObjectText.{object_line, objects_text, reloc_line, section_lines, symbol_line}
use Rattle.m88_link.specs.Sound.{HasRoom, IsDefinedIn, IsGlobalIfStart, IsPatchIn, IsSound}
use Rattle.m88_link.specs.Symbols.{first_repeated, repeated_after}
use Rattle.m88_link.specs.Inside.Walked.{AreSoundParts, HaveRoom, IsFoundObject, IsFoundPart, IsFoundReloc, IsFoundSection, IsFoundSymbol, object_count, objects_count, section_count, sections_count}
use Rattle.m88_link.proofs.Parts.{repeated_after-append}
use Rattle.m88_link.proofs.RowTexts.{row_text}
use Rattle.m88_link.proofs.Texts.{Lack, ended, joined, joined-append, lack_append, lines_of_objects, lines_of_rows, name_front, objects_joined, objects_lack, ones_lack, parts_lack, relocs_joined, row_lacks, section_lack, symbols_joined}
use Rattle.m88_link.proofs.Walks.{All-front, All-last, front_of}
use Rattle.m88_link.proofs.Written.{byte_row, object_rows, objects_rows, reloc_rows, section_rows, sections_rows, symbol_rows}

-- the numbers of lines
length-section : (s : Section) → length (section_rows s) ≡ section_count s
length-section s =
    let rows = length-map (pieces 32 s.bytes) byte_row in
    let count = length-pieces 32 s.bytes in
    omega (arith, rows, count)

length-parts : {A : Type 0} (rows : A → List (List ℕ)) (count : A → ℕ) → ((x : A) → length (rows x) ≡ count x) → (xs : List A)
    → length (flat_map rows xs) ≡ sum_by count xs
length-parts rows count each [] = refl
length-parts rows count each (x ∷ xs) =
    let both = length-append (rows x) (flat_map rows xs) in
    let ih = length-parts rows count each xs in
    let one = each x in
    let sum = sum_by-cons count x xs in
    omega (arith, both, ih, one, sum)

length-sections : (xs : List Section) → length (sections_rows xs) ≡ sections_count xs
length-sections xs = length-parts section_rows section_count length-section xs

length-object : (o : Object) → length (object_rows o) ≡ object_count o
length-object o =
    let sections = length-sections o.sections in
    let symbols = length-map o.symbols (λ s. row_text (Define s)) in
    let relocs = length-map o.relocs (λ r. row_text (Patch r)) in
    let a = length-append (reloc_rows o.relocs) (row_text End ∷ []) in
    let b = length-append (symbol_rows o.symbols) (reloc_rows o.relocs ++ row_text End ∷ []) in
    let c = length-append (sections_rows o.sections) (symbol_rows o.symbols ++ (reloc_rows o.relocs ++ row_text End ∷ [])) in
    omega (arith, sections, symbols, relocs, a, b, c)

length-objects : (os : List Object) → length (objects_rows os) ≡ objects_count os
length-objects os = length-parts object_rows object_count length-object os

-- a text has no more lines than bytes
first_line_more : (b : ℕ) (lines : List (List ℕ)) → length (on_first_line b lines) ≤ suc (length lines)
first_line_more b [] = omega arith
first_line_more b (line ∷ lines) = omega arith

lines_step : (b : ℕ) (bs : List ℕ) (v : Bool) → length (ended_lines bs) ≤ length bs
    → length (if v then line_end ∷ ended_lines bs else on_first_line b (ended_lines bs)) ≤ length (b ∷ bs)
lines_step b bs true ih = omega (arith, ih)
lines_step b bs false ih = let k = first_line_more b (ended_lines bs) in omega (arith, ih, k)

few_lines : (text : List ℕ) → length (ended_lines text) ≤ length text
unfolding ended_lines
few_lines [] = omega arith
few_lines (b ∷ bs) = lines_step b bs (b == 10) (few_lines bs)

pub count_within : (os : List Object) (text : List ℕ) → HaveText os → text ≡ objects_text os → objects_count os ≤ length text
count_within os text have e =
    let lines : length (ended_lines text) ≡ length (objects_rows os) =
    ap (λ t. length (ended_lines t)) e ∙ ap length (lines_of_objects os have.each) ∙ length-map (objects_rows os) ended in
    let count = length-objects os in
    let few = few_lines text in
    omega (arith, lines, count, few)

-- a part of a list, with what each part of it keeps
middle_of : {A : Type 0} (P : A → Type 0) (xs : List A) (x : A) (ys : List A) → AllByRecursion P (xs ++ x ∷ ys) → P x
middle_of P [] x ys h = h.0
middle_of P (y ∷ xs) x ys h = middle_of P xs x ys h.1

All-middle : {A : Type 0} (P : A → Type 0) (xs : List A) (x : A) (ys : List A) → All P (xs ++ x ∷ ys) → P x
All-middle P xs x ys h = middle_of P xs x ys (recursion_from_All P (xs ++ x ∷ ys) h)

-- the line behind some lines of objects
behind_rows : (front : List ℕ) (rows : List (List ℕ)) (n : ℕ) → front ≡ joined rows → Lack rows → length rows ≡ n → line_behind front ≡ n + 1
behind_rows front rows n e lack count =
    ap (λ t. length (ended_lines t) + 1) e ∙ ap (λ l. length l + 1) (lines_of_rows rows lack)
    ∙ ap (λ k. k + 1) (length-map rows ended ∙ count)

module _ (before : List Object) (each : AllByRecursion HasText before) (front : List ℕ) (rows : List (List ℕ)) (n : ℕ)
    (e : front ≡ joined rows) (lack : Lack rows) (count : length rows ≡ n) where
  line_of_part : line_behind (objects_text before ++ front) ≡ objects_count before + n + 1
  line_of_part =
      let both = length-append (objects_rows before) rows in
      let objects = length-objects before in
      behind_rows (objects_text before ++ front) (objects_rows before ++ rows) (objects_count before + n)
      (ap (λ l. l ++ front) (objects_joined before) ∙ ap (λ l. joined (objects_rows before) ++ l) e ∙ sym (joined-append (objects_rows before) rows))
      (lack_append (objects_rows before) rows (objects_lack before each) lack)
      (omega (arith, both, objects, count))

-- what is found, as the line at which it stands
record Stands (o : Object) (n : ℕ) : Type 0 where
  front : List ℕ
  rows : List (List ℕ)
  part : IsUnsoundPart o front
  front_is : front ≡ joined rows
  lack : Lack rows
  count : length rows ≡ n

abbrev name_rows : Object → List Section → List (List ℕ)
name_rows o xs = row_text (Begin o.name) ∷ sections_rows xs

module _ (o : Object) (has : HasText o) where
  name_lack : (xs : List Section) → AllByRecursion HasSectionText xs → Lack (name_rows o xs)
  name_lack xs h = (row_lacks (Begin o.name) has.name, parts_lack HasSectionText section_rows section_lack xs h)

  symbol_lack : (xs : List Symbol) → AllByRecursion HasSymbolText xs → Lack (symbol_rows xs)
  symbol_lack xs h = ones_lack HasSymbolText (λ s. row_text (Define s)) (λ s k. row_lacks (Define s) k) xs h

  reloc_lack : (xs : List Reloc) → AllByRecursion HasRelocText xs → Lack (reloc_rows xs)
  reloc_lack xs h = ones_lack HasRelocText (λ r. row_text (Patch r)) (λ r k. row_lacks (Patch r) k) xs h

  section_stands : (k : ℕ) → IsFoundSection o.sections k → Stands o (1 + k)
  section_stands k f = record {
    front = object_line o.name ++ flat_map section_lines f.before;
    rows = name_rows o f.before;
    part = inl (record {
      before = f.before;
      section = f.part;
      after = f.after;
      parts = f.parts;
      sound = f.good;
      unsound = λ room. f.bad (All-push HasRoom f.before f.part f.good room);
      front_is = refl;
    });
    front_is = name_front o f.before;
    lack = name_lack f.before (front_of HasSectionText f.before (f.part ∷ f.after) (subst (AllByRecursion HasSectionText) f.parts has.sections));
    count = let size = length-sections f.before in let c = f.count_is in omega (arith, size, c);
  }

  symbol_stands : (k : ℕ) → HaveRoom o.sections → IsFoundSymbol o.sections o.symbols k → Stands o (1 + sections_count o.sections + k)
  symbol_stands k room f = record {
    front = object_line o.name ++ flat_map section_lines o.sections ++ flat_map symbol_line f.before;
    rows = name_rows o o.sections ++ symbol_rows f.before;
    part = inr (inl (record {
      before = f.before;
      symbol = f.part;
      after = f.after;
      parts = f.parts;
      room = room;
      sound = f.good;
      unsound = f.bad;
      front_is = refl;
    }));
    front_is = ap (λ l. l ++ flat_map symbol_line f.before) (name_front o o.sections)
        ∙ ap (λ l. joined (name_rows o o.sections) ++ l) (symbols_joined f.before)
        ∙ sym (joined-append (name_rows o o.sections) (symbol_rows f.before));
    lack = lack_append (name_rows o o.sections) (symbol_rows f.before) (name_lack o.sections has.sections)
        (symbol_lack f.before (front_of HasSymbolText f.before (f.part ∷ f.after) (subst (AllByRecursion HasSymbolText) f.parts has.symbols)));
    count =
        let size = length-sections o.sections in
        let both = length-append (name_rows o o.sections) (symbol_rows f.before) in
        let symbols = length-map f.before (λ s. row_text (Define s)) in
        let c = f.count_is in
        omega (arith, size, both, symbols, c);
  }

  reloc_stands : (k : ℕ) → HaveRoom o.sections → AreSoundSymbols o.sections o.symbols → IsFoundReloc o.sections o.relocs k
      → Stands o (1 + sections_count o.sections + length o.symbols + k)
  reloc_stands k room symbols f = record {
    front = object_line o.name ++ flat_map section_lines o.sections ++ flat_map symbol_line o.symbols ++ flat_map reloc_line f.before;
    rows = (name_rows o o.sections ++ symbol_rows o.symbols) ++ reloc_rows f.before;
    part = inr (inr (record {
      before = f.before;
      reloc = f.part;
      after = f.after;
      parts = f.parts;
      room = room;
      symbols = symbols;
      sound = f.good;
      unsound = λ patch. f.bad (All-push (IsPatchIn o.sections) f.before f.part f.good patch);
      front_is = refl;
    }));
    front_is = ap (λ l. l ++ flat_map symbol_line o.symbols ++ flat_map reloc_line f.before) (name_front o o.sections)
        ∙ ap (λ l. joined (name_rows o o.sections) ++ l ++ flat_map reloc_line f.before) (symbols_joined o.symbols)
        ∙ ap (λ l. l ++ flat_map reloc_line f.before) (sym (joined-append (name_rows o o.sections) (symbol_rows o.symbols)))
        ∙ ap (λ l. joined (name_rows o o.sections ++ symbol_rows o.symbols) ++ l) (relocs_joined f.before)
        ∙ sym (joined-append (name_rows o o.sections ++ symbol_rows o.symbols) (reloc_rows f.before));
    lack = lack_append (name_rows o o.sections ++ symbol_rows o.symbols) (reloc_rows f.before)
        (lack_append (name_rows o o.sections) (symbol_rows o.symbols) (name_lack o.sections has.sections) (symbol_lack o.symbols has.symbols))
        (reloc_lack f.before (front_of HasRelocText f.before (f.part ∷ f.after) (subst (AllByRecursion HasRelocText) f.parts has.relocs)));
    count =
        let size = length-sections o.sections in
        let first = length-append (name_rows o o.sections) (symbol_rows o.symbols) in
        let both = length-append (name_rows o o.sections ++ symbol_rows o.symbols) (reloc_rows f.before) in
        let symbols = length-map o.symbols (λ s. row_text (Define s)) in
        let relocs = length-map f.before (λ r. row_text (Patch r)) in
        let c = f.count_is in
        omega (arith, size, first, both, symbols, relocs, c);
  }

  part_stands : (n : ℕ) → IsFoundPart o n → Stands o n
  part_stands n f = elim f [
    | inl s ↦ subst (Stands o) (sym s.2) (section_stands s.0 s.1)
    | inr r ↦ elim r [
      | inl s ↦ let k = s.1 in subst (Stands o) (sym k.2) (symbol_stands k.0 s.0 k.1)
      | inr s ↦ let k = s.2 in subst (Stands o) (sym k.2) (reloc_stands k.0 s.0 s.1 k.1)
    ]
  ]

-- the parts of an object, and the object
pub sound_of : (o : Object) → HasText o → AreSoundParts o → IsSound o
sound_of o has h = record {
  sections = has.order;
  room = h.room;
  symbols = h.symbols.defined;
  relocs = h.relocs;
  names = h.symbols.names;
  start = h.symbols.start;
}

each_sound : (os : List Object) → AllByRecursion HasText os → AllByRecursion AreSoundParts os → AllByRecursion IsSound os
each_sound [] h k = tt
each_sound (o ∷ os) h k = (sound_of o h.0 k.0, each_sound os h.1 k.1)

pub all_sound_objects : (os : List Object) → AllByRecursion HasText os → All AreSoundParts os → All IsSound os
all_sound_objects os h k = All-from_recursion IsSound os (each_sound os h (recursion_from_All AreSoundParts os k))

-- what is found is the first part by which an object isn't sound
pub found_is_first : (os : List Object) (n : ℕ) → AllByRecursion HasText os → IsFoundObject os n → IsFirstUnsound os (n + 1)
found_is_first os n each f =
    let split = subst (AllByRecursion HasText) f.parts each in
    let before = front_of HasText f.before (f.object ∷ f.after) split in
    let s = part_stands f.object (middle_of HasText f.before f.object f.after split) f.within f.part in
    record {
      before = f.before;
      object = f.object;
      after = f.after;
      parts = f.parts;
      sound = all_sound_objects f.before before f.sound;
      front = s.front;
      part = s.part;
      line_is = ap (λ k. k + 1) f.count_is ∙ sym (line_of_part f.before before s.front s.rows f.within s.front_is s.lack s.count);
    }

-- it stands within the text
part_below : (o : Object) (n : ℕ) → IsFoundPart o n → n < object_count o
part_below o n f = elim f [
  | inl s ↦
      let k = s.1 in
      let all = ap sections_count k.parts ∙ sum_by-append section_count k.before (k.part ∷ k.after) in
      let c = k.count_is in
      let e = s.2 in
      omega (arith, all, c, e)
  | inr r ↦ elim r [
    | inl s ↦
        let k = s.1 in
        let g = k.1 in
        let all = ap length g.parts ∙ length-append g.before (g.part ∷ g.after) in
        let c = g.count_is in
        let e = k.2 in
        omega (arith, all, c, e)
    | inr s ↦
        let k = s.2 in
        let g = k.1 in
        let all = ap length g.parts ∙ length-append g.before (g.part ∷ g.after) in
        let c = g.count_is in
        let e = k.2 in
        omega (arith, all, c, e)
  ]
]

pub found_below : (os : List Object) (n : ℕ) → IsFoundObject os n → n < objects_count os
found_below os n f =
    let all = ap objects_count f.parts ∙ sum_by-append object_count f.before (f.object ∷ f.after) in
    let rest = sum_by-cons object_count f.object f.after in
    let part = part_below f.object f.within f.part in
    let c = f.count_is in
    omega (arith, all, rest, part, c)

-- the first part of a list that fails is one
same_first : {A : Type 0} (Good : List A → Type 0) → ((xs ys : List A) → Good (xs ++ ys) → Good xs) → (a a' b b' : List A) (x x' : A)
    → a ++ x ∷ b ≡ a' ++ x' ∷ b' → Good a → (Good (a ++ x ∷ []) → ⊥) → Good a' → (Good (a' ++ x' ∷ []) → ⊥) → a ≡ a'
same_first Good closed [] [] b b' x x' e g h g' h' = refl
same_first Good closed [] (y ∷ a') b b' x x' e g h g' h' =
    let same : x ≡ y = cc in
    absurd (h (subst (λ z. Good (z ∷ [])) (sym same) (closed (y ∷ []) a' g')))
same_first Good closed (y ∷ a) [] b b' x x' e g h g' h' =
    let same : y ≡ x' = cc in
    absurd (h' (subst (λ z. Good (z ∷ [])) same (closed (y ∷ []) a g)))
same_first Good closed (y ∷ a) (y' ∷ a') b b' x x' e g h g' h' =
    let same : y ≡ y' = cc in
    let rest : a ++ x ∷ b ≡ a' ++ x' ∷ b' = cc in
    let k = same_first (λ l. Good (y ∷ l)) (λ xs ys g. closed (y ∷ xs) ys g) a a' b b' x x' rest g h
    (subst (λ z. Good (z ∷ a')) (sym same) g') (λ q. h' (subst (λ z. Good (z ∷ (a' ++ x' ∷ []))) same q)) in
    ap (λ l. y ∷ l) k ∙ ap (λ z. z ∷ a') same

first_or : {A : Type 0} (o r : Option A) → option_or o r ≡ None → o ≡ None
first_or None r h = refl
first_or (Some x) r h = absurd cc

sound_front : (sections : List Section) (xs ys : List Symbol) → AreSoundSymbols sections (xs ++ ys) → AreSoundSymbols sections xs
sound_front sections xs ys h = record {
  defined = All-front (IsDefinedIn sections) xs ys h.defined;
  names = first_or (first_repeated xs) (repeated_after ([] ++ xs) ys) (sym (repeated_after-append [] xs ys) ∙ h.names);
  start = All-front IsGlobalIfStart xs ys h.start;
}

-- an object with an unsound part isn't sound
pub unsound_object : (o : Object) (front : List ℕ) → IsUnsoundPart o front → IsSound o → ⊥
unsound_object o front u sound = elim u [
  | inl s ↦ s.unsound (All-middle HasRoom s.before s.section s.after (subst (All HasRoom) s.parts sound.room))
  | inr r ↦ elim r [
    | inl s ↦
        let all : AreSoundSymbols o.sections o.symbols = record { defined = sound.symbols; names = sound.names; start = sound.start } in
        let e : o.symbols ≡ (s.before ++ s.symbol ∷ []) ++ s.after = s.parts ∙ sym (append_assoc s.before (s.symbol ∷ []) s.after) in
        s.unsound (sound_front o.sections (s.before ++ s.symbol ∷ []) s.after (subst (AreSoundSymbols o.sections) e all))
    | inr s ↦ s.unsound (All-middle (IsPatchIn o.sections) s.before s.reloc s.after (subst (All (IsPatchIn o.sections)) s.parts sound.relocs))
  ]
]

no_room : (o : Object) (front : List ℕ) → IsUnsoundSection o front → All HasRoom o.sections → ⊥
no_room o front s room = s.unsound (All-middle HasRoom s.before s.section s.after (subst (All HasRoom) s.parts room))

no_symbols_sound : (o : Object) (front : List ℕ) → IsUnsoundSymbol o front → AreSoundSymbols o.sections o.symbols → ⊥
no_symbols_sound o front s all =
    let e : o.symbols ≡ (s.before ++ s.symbol ∷ []) ++ s.after = s.parts ∙ sym (append_assoc s.before (s.symbol ∷ []) s.after) in
    s.unsound (sound_front o.sections (s.before ++ s.symbol ∷ []) s.after (subst (AreSoundSymbols o.sections) e all))

-- the first unsound part of an object stands at one place
one_part : (o : Object) (f g : List ℕ) → IsUnsoundPart o f → IsUnsoundPart o g → f ≡ g
one_part o f g u v = elim u [
  | inl s ↦ elim v [
    | inl t ↦
        let k = same_first (All HasRoom) (All-front HasRoom) s.before t.before s.after t.after s.section t.section (sym s.parts ∙ t.parts)
        s.sound (λ h. s.unsound (All-last HasRoom s.before s.section h)) t.sound (λ h. t.unsound (All-last HasRoom t.before t.section h)) in
        s.front_is ∙ ap (λ l. object_line o.name ++ flat_map section_lines l) k ∙ sym t.front_is
    | inr w ↦ elim w [
      | inl t ↦ absurd (no_room o f s t.room)
      | inr t ↦ absurd (no_room o f s t.room)
    ]
  ]
  | inr r ↦ elim r [
    | inl s ↦ elim v [
      | inl t ↦ absurd (no_room o g t s.room)
      | inr w ↦ elim w [
        | inl t ↦
            let k = same_first (AreSoundSymbols o.sections) (sound_front o.sections) s.before t.before s.after t.after s.symbol t.symbol (sym s.parts ∙ t.parts)
            s.sound s.unsound t.sound t.unsound in
            s.front_is ∙ ap (λ l. object_line o.name ++ flat_map section_lines o.sections ++ flat_map symbol_line l) k ∙ sym t.front_is
        | inr t ↦ absurd (no_symbols_sound o f s t.symbols)
      ]
    ]
    | inr s ↦ elim v [
      | inl t ↦ absurd (no_room o g t s.room)
      | inr w ↦ elim w [
        | inl t ↦ absurd (no_symbols_sound o g t s.symbols)
        | inr t ↦
            let k = same_first (All (IsPatchIn o.sections)) (All-front (IsPatchIn o.sections)) s.before t.before s.after t.after s.reloc t.reloc (sym s.parts ∙ t.parts)
            s.sound (λ h. s.unsound (All-last (IsPatchIn o.sections) s.before s.reloc h)) t.sound
            (λ h. t.unsound (All-last (IsPatchIn o.sections) t.before t.reloc h)) in
            s.front_is
            ∙ ap (λ l. object_line o.name ++ flat_map section_lines o.sections ++ flat_map symbol_line o.symbols ++ flat_map reloc_line l) k
            ∙ sym t.front_is
      ]
    ]
  ]
]

-- the first line by which an object isn't sound is one
pub one_unsound_line : (os : List Object) (n m : ℕ) → IsFirstUnsound os n → IsFirstUnsound os m → n ≡ m
one_unsound_line os n m u v =
    let k = same_first (All IsSound) (All-front IsSound) u.before v.before u.after v.after u.object v.object (sym u.parts ∙ v.parts)
    u.sound (λ h. unsound_object u.object u.front u.part (All-last IsSound u.before u.object h))
    v.sound (λ h. unsound_object v.object v.front v.part (All-last IsSound v.before v.object h)) in
    let rest : u.object ∷ u.after ≡ v.object ∷ v.after =
    append_cancel_left u.before (u.object ∷ u.after) (v.object ∷ v.after) (sym u.parts ∙ v.parts ∙ ap (λ l. l ++ v.object ∷ v.after) (sym k)) in
    let object : u.object ≡ v.object = cc in
    let part : IsUnsoundPart v.object u.front = subst (λ o. IsUnsoundPart o u.front) object u.part in
    let front = one_part v.object u.front v.front part v.part in
    u.line_is ∙ ap (λ l. line_behind (objects_text l ++ u.front)) k ∙ ap (λ l. line_behind (objects_text v.before ++ l)) front ∙ sym v.line_is

-- where there is one, the objects aren't sound
pub not_sound : (os : List Object) (n : ℕ) → IsFirstUnsound os n → All IsSound os → ⊥
not_sound os n u sound =
    unsound_object u.object u.front u.part (All-middle IsSound u.before u.object u.after (subst (All IsSound) u.parts sound))
