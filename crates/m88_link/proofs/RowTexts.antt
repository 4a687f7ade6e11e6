-- Lines of an object text that give no bytes: what a line writes, it says, and what it says, it writes.
use Rattle.std.proofs.Common.{◌≡◌, ℕ, ◌<◌, ◌^◌, List, ◌∷◌, ◌++◌, refl, ap, ◌∙◌, subst, inl, inr, arith}
use Rattle.std.specs.Prelude.{Option, None, Some, codes, decimal, bytes_eq, option_map}
use Rattle.std.proofs.lemmas.Option.{option_and_then_some}
use Rattle.m88_base.specs.Hex.{hex8}
use Rattle.m88_base.specs.Name.{IsName}
use Rattle.m88_link.specs.declared.object.Place.{Place}
use Rattle.m88_link.specs.declared.object.Place.TheVariants.{Text, DataSection, At}
use Rattle.m88_link.specs.declared.object.Reloc.{Reloc}
use Rattle.m88_link.specs.declared.object.Symbol.{Symbol}
use Rattle.m88_link.specs.declared.row.Keyword.{Keyword}
use Rattle.m88_link.specs.declared.row.Keyword.TheVariants as word
use Rattle.m88_link.specs.declared.row.Row.{Row}
use Rattle.m88_link.specs.declared.row.Row.TheVariants.{Begin, Head, Define, Patch, End}
use Rattle.m88_link.specs.declared.row.SectionHead.{SectionHead}
use Rattle.m88_link.specs.ObjectRead.{HasRelocText, HasSymbolText}
use Rattle.m88_link.specs.ObjectText.{kind_word, section_word}
use Rattle.m88_link.specs.Inside.Rows.{at_of, first_word, head_of, hex8_word, keyword_of, kind_word_of, name_written, name_word, decimal_value, number_word, reloc_in, row_by, row_in, scope_word, section_word_of, symbol_in}
use Rattle.m88_link.specs.Sound.{origin}
use Rattle.m88_base.proofs.Laws.{cut_found}
use Rattle.m88_link.proofs.Spelling.{hex8_back, hex8_read, if_same, kind_back, kind_read, name_back, name_found, name_of-name, name_read, number_back, number_found, number_of-decimal, number_read, same_text, scope_back, scope_read, scope_text, section_back, section_read}

-- what stands behind the first word
abbrev pub head_text : SectionHead → List ℕ
head_text h = hex8 h.len ++ 32 ∷ decimal h.line

abbrev pub symbol_text : Symbol → List ℕ
symbol_text s =
    s.name ++ 32 ∷ (scope_text s.global ++ 32 ∷ (section_word s.section ++ 32 ∷ (hex8 s.value ++ 32 ∷ (decimal s.line ++ 32 ∷ decimal s.col))))

abbrev pub reloc_text : Reloc → List ℕ
reloc_text r =
    kind_word r.kind
    ++ 32 ∷ (decimal r.section ++ 32 ∷ (hex8 r.offset ++ 32 ∷ (r.symbol ++ 32 ∷ (hex8 r.addend ++ 32 ∷ (decimal r.line ++ 32 ∷ decimal r.col)))))

-- a section's head, by its place
abbrev pub place_text : Place → SectionHead → List ℕ
place_text Text h = codes "text" ++ 32 ∷ head_text h
place_text DataSection h = codes "data" ++ 32 ∷ head_text h
place_text (At a) h = codes "at" ++ 32 ∷ (hex8 a ++ 32 ∷ head_text h)

-- a line, without its LF
abbrev pub row_text : Row → List ℕ
row_text (Begin name) = codes "object" ++ 32 ∷ name
row_text (Head h) = place_text h.place h
row_text (Define s) = codes "symbol" ++ 32 ∷ symbol_text s
row_text (Patch r) = codes "reloc" ++ 32 ∷ reloc_text r
row_text End = codes "end"

-- numbers and names that a line can write
abbrev pub IsHead : SectionHead → Type 0
IsHead h = (origin h.place < 2 ^ 32) × (h.len < 2 ^ 32) × (h.line < 2 ^ 32)

abbrev pub IsRow : Row → Type 0
IsRow (Begin name) = IsName name
IsRow (Head h) = IsHead h
IsRow (Define s) = HasSymbolText s
IsRow (Patch r) = HasRelocText r
IsRow End = Unit {0}

-- what was written is read
head_read : (place : Place) (len line : ℕ) → len < 2 ^ 32 → line < 2 ^ 32
    → head_of place (hex8 len ++ 32 ∷ decimal line) ≡ Some (record { place = place; len = len; line = line })
unfolding head_of
head_read place len line h k = rw (hex8_read (decimal line) len h, number_of-decimal line k) refl

at_read : (a len line : ℕ) → a < 2 ^ 32 → len < 2 ^ 32 → line < 2 ^ 32
    → at_of (hex8 a ++ 32 ∷ (hex8 len ++ 32 ∷ decimal line)) ≡ Some (record { place = At a; len = len; line = line })
unfolding at_of
at_read a len line g h k = rw (hex8_read (hex8 len ++ 32 ∷ decimal line) a g) (head_read (At a) len line h k)

symbol_read : (s : Symbol) → HasSymbolText s → symbol_in (symbol_text s) ≡ Some s
unfolding symbol_in
symbol_read s h =
    let t5 : List ℕ = decimal s.col in
    let t4 : List ℕ = decimal s.line ++ 32 ∷ t5 in
    let t3 : List ℕ = hex8 s.value ++ 32 ∷ t4 in
    let t2 : List ℕ = section_word s.section ++ 32 ∷ t3 in
    let t1 : List ℕ = scope_text s.global ++ 32 ∷ t2 in
    rw (
      name_read t1 s.name h.name,
      scope_read s.global t2,
      section_read s.section t3 h.section,
      hex8_read t4 s.value h.value,
      number_read t5 s.line h.line,
      number_of-decimal s.col h.col,
    ) refl

reloc_read : (r : Reloc) → HasRelocText r → reloc_in (reloc_text r) ≡ Some r
unfolding reloc_in
reloc_read r h =
    let t6 : List ℕ = decimal r.col in
    let t5 : List ℕ = decimal r.line ++ 32 ∷ t6 in
    let t4 : List ℕ = hex8 r.addend ++ 32 ∷ t5 in
    let t3 : List ℕ = r.symbol ++ 32 ∷ t4 in
    let t2 : List ℕ = hex8 r.offset ++ 32 ∷ t3 in
    let t1 : List ℕ = decimal r.section ++ 32 ∷ t2 in
    rw (
      kind_read r.kind t1,
      number_read t2 r.section h.section,
      hex8_read t3 r.offset h.offset,
      name_read t4 r.symbol h.symbol,
      hex8_read t5 r.addend h.addend,
      number_read t6 r.line h.line,
      number_of-decimal r.col h.col,
    ) refl

section_head_read : (place : Place) (len line : ℕ) → origin place < 2 ^ 32 → len < 2 ^ 32 → line < 2 ^ 32
    → row_in (place_text place (record { place = place; len = len; line = line })) ≡ Some (Head (record { place = place; len = len; line = line }))
unfolding row_in
section_head_read Text len line g h k = ap (option_map Head) (head_read Text len line h k)
section_head_read DataSection len line g h k = ap (option_map Head) (head_read DataSection len line h k)
section_head_read (At a) len line g h k = ap (option_map Head) (at_read a len line g h k)

pub row_read : (r : Row) → IsRow r → row_in (row_text r) ≡ Some r
unfolding row_in
row_read (Begin name) h = ap (option_map Begin) (name_of-name name h)
row_read (Head s) h = section_head_read s.place s.len s.line h.0 h.1 h.2
row_read (Define s) h = ap (option_map Define) (symbol_read s h)
row_read (Patch r) h = ap (option_map Patch) (reloc_read r h)
row_read End h = refl

-- what is read was written
head_back : (place : Place) (text : List ℕ) (h : SectionHead) → head_of place text ≡ Some h
    → (place ≡ h.place) × (text ≡ head_text h) × (h.len < 2 ^ 32) × (h.line < 2 ^ 32)
unfolding head_of
head_back place text h e =
    option_and_then_some _ (hex8_word text) h e (λ len e1 f1.
    option_and_then_some _ (decimal_value len.1) h f1 (λ line e2 f2.
    let k = hex8_back text len.1 len.0 e1 in
    let l = number_found len.1 line e2 in
    let same : record { place = place; len = len.0; line = line } ≡ h = cc in
    rw (← same) (refl, k.0 ∙ ap (λ (t : List ℕ). hex8 len.0 ++ 32 ∷ t) l.0, k.1, l.1)))

at_back : (text : List ℕ) (h : SectionHead) → at_of text ≡ Some h → (codes "at" ++ 32 ∷ text ≡ place_text h.place h) × IsHead h
unfolding at_of
at_back text h e =
    option_and_then_some _ (hex8_word text) h e (λ at e1 f1.
    let k = hex8_back text at.1 at.0 e1 in
    let l = head_back (At at.0) at.1 h f1 in (
      ap (λ (t : List ℕ). codes "at" ++ 32 ∷ t) (k.0 ∙ ap (λ (t : List ℕ). hex8 at.0 ++ 32 ∷ t) l.1) ∙ ap (λ (p : Place). place_text p h) l.0,
      (let P : Place → Type 0 = λ p. origin p < 2 ^ 32 in subst P l.0 k.1, l.2, l.3),
    ))

text_back : (text : List ℕ) (h : SectionHead) → head_of Text text ≡ Some h → (codes "text" ++ 32 ∷ text ≡ place_text h.place h) × IsHead h
text_back text h e =
    let l = head_back Text text h e in
    let P : Place → Type 0 = λ p. origin p < 2 ^ 32 in
    let small : P Text = omega arith in
    (ap (λ (t : List ℕ). codes "text" ++ 32 ∷ t) l.1 ∙ ap (λ (p : Place). place_text p h) l.0, (subst P l.0 small, l.2, l.3))

data_back : (text : List ℕ) (h : SectionHead) → head_of DataSection text ≡ Some h → (codes "data" ++ 32 ∷ text ≡ place_text h.place h) × IsHead h
data_back text h e =
    let l = head_back DataSection text h e in
    let P : Place → Type 0 = λ p. origin p < 2 ^ 32 in
    let small : P DataSection = omega arith in
    (ap (λ (t : List ℕ). codes "data" ++ 32 ∷ t) l.1 ∙ ap (λ (p : Place). place_text p h) l.0, (subst P l.0 small, l.2, l.3))

symbol_back : (text : List ℕ) (s : Symbol) → symbol_in text ≡ Some s → (text ≡ symbol_text s) × HasSymbolText s
unfolding symbol_in
symbol_back text s e =
    option_and_then_some _ (name_word text) s e (λ name e1 f1.
    option_and_then_some _ (scope_word name.1) s f1 (λ scope e2 f2.
    option_and_then_some _ (section_word_of scope.1) s f2 (λ section e3 f3.
    option_and_then_some _ (hex8_word section.1) s f3 (λ value e4 f4.
    option_and_then_some _ (number_word value.1) s f4 (λ line e5 f5.
    option_and_then_some _ (decimal_value line.1) s f5 (λ col e6 f6.
    let k1 = name_back text name.0 name.1 e1 in
    let k2 = scope_back name.1 scope.1 scope.0 e2 in
    let k3 = section_back scope.1 section.1 section.0 e3 in
    let k4 = hex8_back section.1 value.1 value.0 e4 in
    let k5 = number_back value.1 line.1 line.0 e5 in
    let k6 = number_found line.1 col e6 in
    let same : record { name = name.0; global = scope.0; section = section.0; value = value.0; line = line.0; col = col } ≡ s = cc in
    rw (← same) (
      k1.0 ∙ ap (λ (t : List ℕ). name.0 ++ 32 ∷ t)
          (k2 ∙ ap (λ (t : List ℕ). scope_text scope.0 ++ 32 ∷ t)
          (k3.0 ∙ ap (λ (t : List ℕ). section_word section.0 ++ 32 ∷ t)
          (k4.0 ∙ ap (λ (t : List ℕ). hex8 value.0 ++ 32 ∷ t)
          (k5.0 ∙ ap (λ (t : List ℕ). decimal line.0 ++ 32 ∷ t) k6.0)))),
      record { name = k1.1; section = k3.1; value = k4.1; line = k5.1; col = k6.1 },
    )))))))

reloc_back : (text : List ℕ) (r : Reloc) → reloc_in text ≡ Some r → (text ≡ reloc_text r) × HasRelocText r
unfolding reloc_in
reloc_back text r e =
    option_and_then_some _ (kind_word_of text) r e (λ kind e1 f1.
    option_and_then_some _ (number_word kind.1) r f1 (λ section e2 f2.
    option_and_then_some _ (hex8_word section.1) r f2 (λ offset e3 f3.
    option_and_then_some _ (name_word offset.1) r f3 (λ symbol e4 f4.
    option_and_then_some _ (hex8_word symbol.1) r f4 (λ addend e5 f5.
    option_and_then_some _ (number_word addend.1) r f5 (λ line e6 f6.
    option_and_then_some _ (decimal_value line.1) r f6 (λ col e7 f7.
    let k1 = kind_back text kind.1 kind.0 e1 in
    let k2 = number_back kind.1 section.1 section.0 e2 in
    let k3 = hex8_back section.1 offset.1 offset.0 e3 in
    let k4 = name_back offset.1 symbol.0 symbol.1 e4 in
    let k5 = hex8_back symbol.1 addend.1 addend.0 e5 in
    let k6 = number_back addend.1 line.1 line.0 e6 in
    let k7 = number_found line.1 col e7 in
    let same : record { kind = kind.0; section = section.0; offset = offset.0; symbol = symbol.0; addend = addend.0; line = line.0; col = col } ≡ r = cc in
    rw (← same) (
      k1 ∙ ap (λ (t : List ℕ). kind_word kind.0 ++ 32 ∷ t)
          (k2.0 ∙ ap (λ (t : List ℕ). decimal section.0 ++ 32 ∷ t)
          (k3.0 ∙ ap (λ (t : List ℕ). hex8 offset.0 ++ 32 ∷ t)
          (k4.0 ∙ ap (λ (t : List ℕ). symbol.0 ++ 32 ∷ t)
          (k5.0 ∙ ap (λ (t : List ℕ). hex8 addend.0 ++ 32 ∷ t)
          (k6.0 ∙ ap (λ (t : List ℕ). decimal line.0 ++ 32 ∷ t) k7.0))))),
      record { section = k2.1; offset = k3.1; symbol = k4.1; addend = k5.1; line = k6.1; col = k7.1 },
    ))))))))

-- the word that begins a line
abbrev keyword_text : Keyword → List ℕ
keyword_text word.Object = codes "object"
keyword_text word.Text = codes "text"
keyword_text word.Data = codes "data"
keyword_text word.At = codes "at"
keyword_text word.Symbol = codes "symbol"
keyword_text word.Reloc = codes "reloc"

keyword_found : (text : List ℕ) (k : Keyword) → keyword_of text ≡ Some k → text ≡ keyword_text k
keyword_found text k e = elim (if_same (bytes_eq text (codes "object")) word.Object k _ e) [
  | inl here ↦ same_text text (codes "object") here.0 ∙ ap keyword_text here.1
  | inr later ↦ elim (if_same (bytes_eq text (codes "symbol")) word.Symbol k _ later.1) [
    | inl here ↦ same_text text (codes "symbol") here.0 ∙ ap keyword_text here.1
    | inr later ↦ elim (if_same (bytes_eq text (codes "text")) word.Text k _ later.1) [
      | inl here ↦ same_text text (codes "text") here.0 ∙ ap keyword_text here.1
      | inr later ↦ elim (if_same (bytes_eq text (codes "data")) word.Data k _ later.1) [
        | inl here ↦ same_text text (codes "data") here.0 ∙ ap keyword_text here.1
        | inr later ↦ elim (if_same (bytes_eq text (codes "at")) word.At k _ later.1) [
          | inl here ↦ same_text text (codes "at") here.0 ∙ ap keyword_text here.1
          | inr later ↦ elim (if_same (bytes_eq text (codes "reloc")) word.Reloc k _ later.1) [
            | inl here ↦ same_text text (codes "reloc") here.0 ∙ ap keyword_text here.1
            | inr never ↦ absurd (let h = never.1 in cc)
          ]
        ]
      ]
    ]
  ]
]

-- what a word of a row was made of
pub mapped : {A B P : Type 0} (f : A → B) (o : Option A) (y : B) → option_map f o ≡ Some y → ((x : A) → o ≡ Some x → f x ≡ y → P) → P
mapped f None y e k = absurd cc
mapped f (Some x) y e k = k x refl cc

-- a row that a text says
abbrev Says : List ℕ → Row → Type 0
Says text r = (text ≡ row_text r) × IsRow r

said_as : (text : List ℕ) (x r : Row) → x ≡ r → Says text x → Says text r
said_as text x r e h = subst (Says text) e h

by_keyword : (k : Keyword) (rest : List ℕ) (r : Row) → row_by k rest ≡ Some r → Says (keyword_text k ++ 32 ∷ rest) r
by_keyword word.Object rest r e =
    mapped Begin (name_written rest) r e (λ name is same.
    let k = name_found rest name is in
    said_as (codes "object" ++ 32 ∷ rest) (Begin name) r same (ap (λ (t : List ℕ). codes "object" ++ 32 ∷ t) k.0, k.1))
by_keyword word.Text rest r e =
    mapped Head (head_of Text rest) r e (λ h is same. said_as (codes "text" ++ 32 ∷ rest) (Head h) r same (text_back rest h is))
by_keyword word.Data rest r e =
    mapped Head (head_of DataSection rest) r e (λ h is same. said_as (codes "data" ++ 32 ∷ rest) (Head h) r same (data_back rest h is))
by_keyword word.At rest r e =
    mapped Head (at_of rest) r e (λ h is same. said_as (codes "at" ++ 32 ∷ rest) (Head h) r same (at_back rest h is))
by_keyword word.Symbol rest r e =
    mapped Define (symbol_in rest) r e (λ s is same.
    let k = symbol_back rest s is in
    said_as (codes "symbol" ++ 32 ∷ rest) (Define s) r same (ap (λ (t : List ℕ). codes "symbol" ++ 32 ∷ t) k.0, k.1))
by_keyword word.Reloc rest r e =
    mapped Patch (reloc_in rest) r e (λ s is same.
    let k = reloc_back rest s is in
    said_as (codes "reloc" ++ 32 ∷ rest) (Patch s) r same (ap (λ (t : List ℕ). codes "reloc" ++ 32 ∷ t) k.0, k.1))

pub row_back : (text : List ℕ) (r : Row) → row_in text ≡ Some r → (text ≡ row_text r) × IsRow r
unfolding row_in
row_back text r e = elim (if_same (bytes_eq text (codes "end")) End r _ e) [
  | inl here ↦ said_as text End r here.1 (same_text text (codes "end") here.0, tt)
  | inr later ↦
      option_and_then_some _ (first_word text) r later.1 (λ p found f.
      option_and_then_some _ (keyword_of p.0) r f (λ k is g.
      let t : text ≡ keyword_text k ++ 32 ∷ p.1 = (cut_found 32 text p found).text_is ∙ ap (λ (l : List ℕ). l ++ 32 ∷ p.1) (keyword_found p.0 k is) in
      let s = by_keyword k p.1 r g in
      (t ∙ s.0, s.1)))
]
