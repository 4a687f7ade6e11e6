-- The verdict on a text and the relation of the texts that are accepted say the same.
use Rattle.std.proofs.Common.{◌≡◌, ℕ, ◌+◌, ◌≤◌, Bool, true, false, List, [], ◌∷◌, length, inl, inr, sym, refl, ap, ◌∙◌, subst, eq-eqb, arith}
use Rattle.std.specs.Prelude.{Option, Some, None, Result, Ok, Err, ◌^◌, ◌==◌, ◌⊎◌, ◌↔◌, if◌then◌else◌}
use Rattle.std.proofs.lemmas.Bool.Decides.{nat_tests}
use Rattle.m88_base.specs.Image.{most_bytes}
use Rattle.m88_base.specs.Lines.{lines_of}
use Rattle.m88_base.specs.OneVerdict.{HasOneVerdict}
use Rattle.m88_srec.specs.Accepted.{WriteEntries, ComeTo, Fits, IsAccepted, Whole, empty_line, ended, filled, headed, no_line, address_of, entry_line, tallied}
use Rattle.m88_srec.specs.Placing.{Loaded, first_taken, is_beyond, nothing_loaded, with_data}
use Rattle.m88_srec.specs.Records.{Entry, WritesEntry}
use Rattle.m88_srec.specs.Verdict.{IsFirstSrecFault, Load, acted, ended_on, go_on, judged, opening_load, data_placed, placed_on, verdict, verdict_from}
use Rattle.m88_srec.specs.declared.fault.SrecFault.{SrecFault}
use Rattle.m88_srec.specs.declared.fault.SrecKind.{SrecKind}
use Rattle.m88_srec.specs.declared.fault.SrecKind.TheVariants.{CountRecord, TooLarge}
use Rattle.m88_srec.specs.declared.purpose.Purpose.{Purpose}
use Rattle.m88_srec.specs.declared.purpose.Purpose.TheVariants.{Header, Data, Tally, End}
use Rattle.m88_srec.proofs.Cases.{by_bool}
use Rattle.m88_srec.proofs.Free.{all_free, none_taken}
use Rattle.m88_srec.proofs.Reading.{carried_by, entry_of_line, from_test}

-- the load before the end record
abbrev open_load : Loaded → ℕ → Load
open_load loaded n = record { loaded = loaded; records = n; start = None }

-- what the lines that are left say of a load: behind the end record nothing more, and before it some entries
abbrev Tells : Loaded → ℕ → Option ℕ → List (List ℕ) → Whole → Type 0
Tells loaded n (Some start) lines whole = WriteEntries [] lines × (loaded.found ≡ whole.found) × (start ≡ whole.start)
Tells loaded n None lines whole =
    (entries : List Entry) × WriteEntries entries lines
    × ((last : Loaded) × ComeTo loaded n entries last whole.start × (last.found ≡ whole.found))

after_empty : (loaded : Loaded) (n : ℕ) (start : Option ℕ) (lines : List (List ℕ)) (whole : Whole)
    → Tells loaded n start lines whole → Tells loaded n start ([] ∷ lines) whole
after_empty loaded n None lines whole t = (t.0, empty_line t.1, t.2)
after_empty loaded n (Some s) lines whole t = (empty_line t.0, t.1, t.2)

-- data that is placed fits
from_placed_on : (taken : Option ℕ) (load later : Load) (at : ℕ) (given : List ℕ) → placed_on taken load at given ≡ Ok later
    → (taken ≡ None) × (record { loaded = with_data at given load.loaded; records = load.records + 1; start = load.start } ≡ later)
from_placed_on (Some a) load later at given e = absurd cc
from_placed_on None load later at given e = (refl, cc)

from_placed : (load later : Load) (entry : Entry) → data_placed load (address_of entry.address) entry.given ≡ Ok later
    → Fits entry load.loaded
    × (record { loaded = with_data (address_of entry.address) entry.given load.loaded; records = load.records + 1; start = load.start } ≡ later)
unfolding data_placed
from_placed load later entry e =
    let at : ℕ = address_of entry.address in
    let n : ℕ = length entry.given in
    let both = from_test (is_beyond at n load.loaded) TooLarge (placed_on (first_taken load.loaded.found at n) load at entry.given) later e in
    let small = both.0 in
    let on = from_placed_on (first_taken load.loaded.found at n) load later at entry.given both.1 in (
      record {
        below = fits_below at n load.loaded small;
        few = fits_few at n load.loaded small;
        free = all_free load.loaded.found at n on.0;
      },
      on.1,
    )
  where
    fits_below : (at n : ℕ) (loaded : Loaded) → is_beyond at n loaded ≡ false → at + n ≤ 2 ^ 32
    fits_below at n loaded e = grind (arith, nat_tests)

    fits_few : (at n : ℕ) (loaded : Loaded) → is_beyond at n loaded ≡ false → loaded.count + n ≤ most_bytes
    fits_few at n loaded e = grind (arith, nat_tests)

-- the lines behind one that writes an entry, with that line
taken_by : (loaded : Loaded) (n : ℕ) (later : Load) (entry : Entry) (line : List ℕ) (lines : List (List ℕ)) (whole : Whole) (p : Purpose)
    → entry.purpose ≡ p → WritesEntry entry line
    → acted (open_load loaded n) p (address_of entry.address) entry.given ≡ Ok later
    → Tells later.loaded later.records later.start lines whole
    → Tells loaded n None (line ∷ lines) whole
unfolding acted
taken_by loaded n later entry line lines whole Header is written e t =
    let same : open_load loaded n ≡ later = cc in
    let u : Tells loaded n None lines whole = subst (λ (l : Load). Tells l.loaded l.records l.start lines whole) (sym same) t in
    (entry ∷ u.0, entry_line {entries = u.0} written u.1, (u.2.0, headed {whole = u.2.0} {entries = u.0} is u.2.1, u.2.2))
taken_by loaded n later entry line lines whole Data is written e t =
    let on = from_placed (open_load loaded n) later entry e in
    let u : Tells (with_data (address_of entry.address) entry.given loaded) (n + 1) None lines whole =
    subst (λ (l : Load). Tells l.loaded l.records l.start lines whole) (sym on.1) t in
    (entry ∷ u.0, entry_line {entries = u.0} written u.1, (u.2.0, filled {whole = u.2.0} {entries = u.0} is on.0 u.2.1, u.2.2))
taken_by loaded n later entry line lines whole Tally is written e t =
    let at : ℕ = address_of entry.address in
    let test : Bool → Result Load SrecKind = λ b. if b then Ok (open_load loaded n) else Err (CountRecord at n) in
    by_bool (at == n)
    (λ yes.
    let same : open_load loaded n ≡ later = let h : test true ≡ Ok later = subst (λ (b : Bool). test b ≡ Ok later) yes e in cc in
    let u : Tells loaded n None lines whole = subst (λ (l : Load). Tells l.loaded l.records l.start lines whole) (sym same) t in
    let told : at ≡ n = grind (arith, nat_tests) in
    (entry ∷ u.0, entry_line {entries = u.0} written u.1, (u.2.0, tallied {whole = u.2.0} {entries = u.0} is told u.2.1, u.2.2)))
    (λ no. absurd (let h : test false ≡ Ok later = subst (λ (b : Bool). test b ≡ Ok later) no e in cc))
taken_by loaded n later entry line lines whole End is written e t =
    let at : ℕ = address_of entry.address in
    let closed : Load = record { loaded = loaded; records = n; start = Some at } in
    let same : closed ≡ later = cc in
    let u : Tells loaded n (Some at) lines whole = subst (λ (l : Load). Tells l.loaded l.records l.start lines whole) (sym same) t in
    let last : ComeTo loaded n (entry ∷ []) loaded at = ended is in
    (entry ∷ [], entry_line written u.0, (loaded, subst (ComeTo loaded n (entry ∷ []) loaded) u.2 last, u.1))

-- a line with bytes, by what is judged of it
by_line : (number : ℕ) (loaded : Loaded) (n : ℕ) (start : Option ℕ) (b : ℕ) (bs : List ℕ) (lines : List (List ℕ)) (whole : Whole) (r : Result Load SrecKind)
    → judged (record { loaded = loaded; records = n; start = start }) (b ∷ bs) ≡ r
    → go_on number r (λ later. verdict_from (number + 1) later lines) ≡ Ok whole
    → ((later : Load) → verdict_from (number + 1) later lines ≡ Ok whole → Tells later.loaded later.records later.start lines whole)
    → Tells loaded n start ((b ∷ bs) ∷ lines) whole
by_line number loaded n start b bs lines whole (Err kind) j e rest = absurd cc
by_line number loaded n (Some s) b bs lines whole (Ok later) j e rest =
    let both = entry_of_line (record { loaded = loaded; records = n; start = Some s }) later b bs j in
    let h : true ≡ false = both.0 in absurd cc
by_line number loaded n None b bs lines whole (Ok later) j e rest =
    let taken = (entry_of_line (open_load loaded n) later b bs j).1 in
    taken_by loaded n later taken.entry (b ∷ bs) lines whole taken.entry.purpose refl taken.written taken.carried (rest later e)

told : (number : ℕ) (load : Load) (lines : List (List ℕ)) (whole : Whole) → verdict_from number load lines ≡ Ok whole
    → Tells load.loaded load.records load.start lines whole
unfolding verdict_from judged
told number load [] whole e = at_end load.loaded load.records load.start e
  where
    at_end : (loaded : Loaded) (n : ℕ) (start : Option ℕ) → ended_on number loaded start ≡ Ok whole → Tells loaded n start [] whole
    at_end loaded n None e = absurd cc
    at_end loaded n (Some s) e =
        let same : record { found = loaded.found; start = s } ≡ whole = cc in
        (no_line, ap (λ (w : Whole). w.found) same, ap (λ (w : Whole). w.start) same)
told number load ([] ∷ lines) whole e = after_empty load.loaded load.records load.start lines whole (told (number + 1) load lines whole e)
told number load ((b ∷ bs) ∷ lines) whole e =
    by_line number load.loaded load.records load.start b bs lines whole (judged load (b ∷ bs)) refl e
    (λ later h. told (number + 1) later lines whole h)

-- what the verdict takes is accepted
pub is_accepted : (text : List ℕ) (whole : Whole) → verdict text ≡ Ok whole → IsAccepted text whole
is_accepted text whole e =
    let t : Tells nothing_loaded 0 None (lines_of text) whole = told 1 opening_load (lines_of text) whole e in
    record { entries = t.0; lines = t.1; loaded = t.2.0; comes = t.2.1; found = t.2.2 }

-- one line more that is taken
goes : (number : ℕ) (load later : Load) (line : List ℕ) (lines : List (List ℕ)) (r : Result Whole SrecFault)
    → judged load line ≡ Ok later → verdict_from (number + 1) later lines ≡ r → verdict_from number load (line ∷ lines) ≡ r
unfolding verdict_from
goes number load later line lines r e h = ap (λ j. go_on number j (λ l. verdict_from (number + 1) l lines)) e ∙ h

passes : (number : ℕ) (load : Load) (lines : List (List ℕ)) (r : Result Whole SrecFault)
    → verdict_from (number + 1) load lines ≡ r → verdict_from number load ([] ∷ lines) ≡ r
unfolding judged
passes number load lines r h = goes number load load [] lines r refl h

-- behind the end record
after_end : (number n : ℕ) (loaded : Loaded) (s : ℕ) (lines : List (List ℕ)) → WriteEntries [] lines
    → verdict_from number (record { loaded = loaded; records = n; start = Some s }) lines ≡ Ok (record { found = loaded.found; start = s })
unfolding verdict_from
after_end number n loaded s [] no_line = refl
after_end number n loaded s ([] ∷ lines) (empty_line more) =
    passes number (record { loaded = loaded; records = n; start = Some s }) lines (Ok (record { found = loaded.found; start = s }))
    (after_end (number + 1) n loaded s lines more)
after_end number n loaded s ((b ∷ bs) ∷ lines) lines_of_none = elim lines_of_none [ ]

-- data that fits is placed
is_placed : (loaded : Loaded) (n : ℕ) (entry : Entry) → Fits entry loaded
    → data_placed (open_load loaded n) (address_of entry.address) entry.given
    ≡ Ok (open_load (with_data (address_of entry.address) entry.given loaded) (n + 1))
unfolding data_placed
is_placed loaded n entry fits =
    let at : ℕ = address_of entry.address in
    let below = fits.below in
    let few = fits.few in
    let small : is_beyond at (length entry.given) loaded ≡ false = grind (arith, nat_tests) in
    ap (λ (b : Bool). if b then Err TooLarge else placed_on (first_taken loaded.found at (length entry.given)) (open_load loaded n) at entry.given) small
    ∙ ap (λ o. placed_on o (open_load loaded n) at entry.given) (none_taken loaded.found at (length entry.given) fits.free)

comes_true : (number : ℕ) (loaded : Loaded) (n : ℕ) (entries : List Entry) (lines : List (List ℕ)) (last : Loaded) (start : ℕ)
    → WriteEntries entries lines → ComeTo loaded n entries last start
    → verdict_from number (open_load loaded n) lines ≡ Ok (record { found = last.found; start = start })
unfolding acted
comes_true number loaded n [] [] last start no_line comes = elim comes [ ]
comes_true number loaded n (entry ∷ entries) [] last start no_lines comes = elim no_lines [ ]
comes_true number loaded n entries ([] ∷ lines) last start (empty_line more) comes =
    passes number (open_load loaded n) lines (Ok (record { found = last.found; start = start }))
    (comes_true (number + 1) loaded n entries lines last start more comes)
comes_true number loaded n (entry ∷ entries) (line ∷ lines) last start (entry_line written more) (headed is rest) =
    goes number (open_load loaded n) (open_load loaded n) line lines (Ok (record { found = last.found; start = start }))
    (carried_by (open_load loaded n) entry line written refl
    ∙ ap (λ p. acted (open_load loaded n) p (address_of entry.address) entry.given) is)
    (comes_true (number + 1) loaded n entries lines last start more rest)
comes_true number loaded n (entry ∷ entries) (line ∷ lines) last start (entry_line written more) (filled is fits rest) =
    goes number (open_load loaded n) (open_load (with_data (address_of entry.address) entry.given loaded) (n + 1)) line lines (Ok (record { found = last.found; start = start }))
    (carried_by (open_load loaded n) entry line written refl
    ∙ ap (λ p. acted (open_load loaded n) p (address_of entry.address) entry.given) is
    ∙ is_placed loaded n entry fits)
    (comes_true (number + 1) (with_data (address_of entry.address) entry.given loaded) (n + 1) entries lines last start more rest)
comes_true number loaded n (entry ∷ entries) (line ∷ lines) last start (entry_line written more) (tallied is same rest) =
    let at : ℕ = address_of entry.address in
    goes number (open_load loaded n) (open_load loaded n) line lines (Ok (record { found = last.found; start = start }))
    (carried_by (open_load loaded n) entry line written refl
    ∙ ap (λ p. acted (open_load loaded n) p at entry.given) is
    ∙ ap (λ (b : Bool). if b then Ok (open_load loaded n) else Err (CountRecord at n)) (eq-eqb at n same))
    (comes_true (number + 1) loaded n entries lines last start more rest)
comes_true number loaded n (entry ∷ []) (line ∷ lines) last start (entry_line written more) (ended is) =
    let at : ℕ = address_of entry.address in
    goes number (open_load loaded n) (record { loaded = loaded; records = n; start = Some at }) line lines (Ok (record { found = loaded.found; start = at }))
    (carried_by (open_load loaded n) entry line written refl
    ∙ ap (λ p. acted (open_load loaded n) p at entry.given) is)
    (after_end (number + 1) n loaded at lines more)

-- what is accepted the verdict takes
pub verdict_takes : (text : List ℕ) (whole : Whole) → IsAccepted text whole → verdict text ≡ Ok whole
verdict_takes text whole a =
    comes_true 1 nothing_loaded 0 a.entries (lines_of text) a.loaded whole.start a.lines a.comes
    ∙ ap (λ f. Ok (record { found = f; start = whole.start })) a.found

-- so the texts that are accepted are those whose verdict is what they write
pub takes_exactly : (text : List ℕ) (whole : Whole) → IsAccepted text whole ↔ (verdict text ≡ Ok whole)
takes_exactly text whole = (verdict_takes text whole, is_accepted text whole)

-- and a text is accepted or has a first fault
pub one_verdict : (text : List ℕ) → HasOneVerdict (IsAccepted text) (IsFirstSrecFault text)
one_verdict text = record { some = by_verdict (verdict text) refl; not_both = not_both; one_value = one_whole; one_fault = one_fault }
  where
    by_verdict : (r : Result Whole SrecFault) → verdict text ≡ r
        → ((whole : Whole) × IsAccepted text whole) ⊎ ((fault : SrecFault) × IsFirstSrecFault text fault)
    by_verdict (Ok whole) e = inl (whole, is_accepted text whole e)
    by_verdict (Err fault) e = inr (fault, e)

    not_both : (whole : Whole) (fault : SrecFault) → IsAccepted text whole → IsFirstSrecFault text fault → ⊥
    not_both whole fault a e = let both : Ok whole ≡ Err fault = sym (verdict_takes text whole a) ∙ e in absurd cc

    one_whole : (a b : Whole) → IsAccepted text a → IsAccepted text b → a ≡ b
    one_whole a b h k = let both : Ok a ≡ Ok b = sym (verdict_takes text a h) ∙ verdict_takes text b k in cc

    one_fault : (a b : SrecFault) → IsFirstSrecFault text a → IsFirstSrecFault text b → a ≡ b
    one_fault a b h k = let both : Err a ≡ Err b = sym h ∙ k in cc
