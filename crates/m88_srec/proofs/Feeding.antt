-- A text that comes byte by byte leads where its lines do.
use Rattle.std.proofs.Common.{◌≡◌, ℕ, ◌+◌, ◌<◌, ◌≤◌, ◌==◌, Bool, true, false, cond, List, [], ◌∷◌, ◌++◌, length, take, drop, refl, sym, ap, ◌∙◌, subst, arith, append_assoc, append-nil, if◌then◌else◌}
use Rattle.std.specs.Prelude.{Result, Ok, Err, Option, Some, None}
use Rattle.std.specs.List.{prefix_len}
use Rattle.std.proofs.lemmas.Bool.Decides.{nat_tests}
use Rattle.std.proofs.lemmas.List.{drop_all, drop_at, take_all, take_at}
use Rattle.std.proofs.lemmas.List.Sums.{sum_by-append}
use Rattle.m88_base.specs.Lines.{lines_of}
use Rattle.m88_base.proofs.Laws.{ends_last, ends_source, is_inner}
use Rattle.m88_srec.specs.Begun.{Begun, HoldsFault, LeadsTo, StaysRefused, held_cr, line_ends}
use Rattle.m88_srec.specs.Front.{LineFront, front_of}
use Rattle.m88_srec.specs.Inside.Taking.{byte_taken, ended_at, at_text_end, holding, judged_front, last_line_on, with_byte, with_held}
use Rattle.m88_srec.specs.Verdict.{Load, ended_on, go_on, judged, opening_load, verdict, verdict_from}
use Rattle.m88_srec.specs.declared.fault.SrecFault.{SrecFault}
use Rattle.m88_srec.specs.declared.fault.SrecKind.{SrecKind}
use Rattle.m88_srec.proofs.Cases.{by_bool}
use Rattle.m88_srec.proofs.Fronts.{front_judges, pushed_front}

-- line ends of two texts
pub line_ends-append : (xs ys : List ℕ) → line_ends (xs ++ ys) ≡ line_ends xs + line_ends ys
line_ends-append xs ys = sum_by-append (λ b. if b == 10 then 1 else 0) xs ys

-- before the first byte
pub opened : LeadsTo [] (record { number = 1; load = opening_load; front = front_of []; cr = false })
unfolding lines_of
opened = record {
  line = [];
  front = refl;
  inner = refl;
  ends = λ more. refl;
  number = refl;
  goes_on = λ more. refl;
}

-- the first byte of a line without a line end
first_inner : (b : ℕ) (bs : List ℕ) → line_ends (b ∷ bs) ≡ 0 → (b == 10) ≡ false
first_inner b bs h = by_bool (b == 10)
    (λ yes.
    let one : line_ends (b ∷ []) ≡ 1 = rw yes refl in
    absurd (omega (arith, h, one, line_ends-append (b ∷ []) bs)))
    (λ no. no)

-- a line without a line end is all that stands before the next one
len_inner : (line rest : List ℕ) → line_ends line ≡ 0 → prefix_len is_inner (line ++ 10 ∷ rest) ≡ length line
len_inner [] rest h = refl
len_inner (b ∷ bs) rest h =
    let e : line_ends bs ≡ 0 = omega (arith, h, line_ends-append (b ∷ []) bs) in
    rw (first_inner b bs h) (omega (arith, len_inner bs rest e))

len_alone : (line : List ℕ) → line_ends line ≡ 0 → prefix_len is_inner line ≡ length line
len_alone [] h = refl
len_alone (b ∷ bs) h =
    let e : line_ends bs ≡ 0 = omega (arith, h, line_ends-append (b ∷ []) bs) in
    rw (first_inner b bs h) (omega (arith, len_alone bs e))

-- a line by its last byte, where its line end comes
ends_there : (front more : List ℕ) (b : ℕ) → line_ends (front ++ b ∷ []) ≡ 0
    → lines_of ((front ++ b ∷ []) ++ 10 ∷ more) ≡ cond (b == 13) front (front ++ b ∷ []) ∷ lines_of more
ends_there front more b h =
    let line : List ℕ = front ++ b ∷ [] in
    let text : List ℕ = line ++ 10 ∷ more in
    let size : prefix_len is_inner text ≡ length line = len_inner line more h in
    let behind : drop (prefix_len is_inner text) text ≡ 10 ∷ more =
    ap (λ (n : ℕ). drop n text) size ∙ drop_at line (10 ∷ more) (length line) refl in
    ends_last text front b 10 more behind
    (ap (λ (n : ℕ). take n text) size ∙ take_at line (10 ∷ more) (length line) refl)

-- the last line, where no line end comes
last_alone : (line : List ℕ) → line_ends line ≡ 0 → 0 < length line → lines_of line ≡ line ∷ []
unfolding lines_of
last_alone line h some =
    let size : prefix_len is_inner line ≡ length line = len_alone line h in
    let behind : drop (prefix_len is_inner line) line ≡ [] =
    ap (λ (n : ℕ). drop n line) size ∙ drop_all (length line) line (omega arith) in
    ends_source line some behind
    ∙ ap (λ (n : ℕ). let ls : List (List ℕ) = take n line ∷ [] in ls) size
    ∙ ap (λ (xs : List ℕ). let ls : List (List ℕ) = xs ∷ [] in ls) (take_all (length line) line (omega arith))

-- a CR before it belongs to the line end
ends_by_cr : (line more : List ℕ) → line_ends line ≡ 0 → lines_of (line ++ (13 ∷ (10 ∷ more))) ≡ line ∷ lines_of more
ends_by_cr line more h =
    let inner : line_ends (line ++ 13 ∷ []) ≡ 0 = line_ends-append line (13 ∷ []) ∙ ap (λ (n : ℕ). n + 0) h in
    ap lines_of (sym (append_assoc line (13 ∷ []) (10 ∷ more)))
    ∙ ends_there line more 13 inner

-- and another byte before it belongs to the line
pub ends_by_other : (line more : List ℕ) (b : ℕ) → line_ends (line ++ b ∷ []) ≡ 0 → (b == 13) ≡ false
    → lines_of ((line ++ b ∷ []) ++ 10 ∷ more) ≡ (line ++ b ∷ []) ∷ lines_of more
ends_by_other line more b h other =
    ends_there line more b h
    ∙ ap (λ (x : Bool). let ls : List (List ℕ) = cond x line (line ++ b ∷ []) ∷ lines_of more in ls) other

abbrev begun_at : ℕ → Load → List ℕ → Bool → Begun
begun_at number load line cr = record { number = number; load = load; front = front_of line; cr = cr }

held_by : (number : ℕ) (load : Load) (line : List ℕ) (cr : Bool)
    → with_held (begun_at number load line cr) ≡ begun_at number load (line ++ held_cr cr) false
held_by number load line true =
    ap (λ (f : LineFront). let b : Begun = record { number = number; load = load; front = f; cr = false } in b)
    (pushed_front line 13)
held_by number load line false = ap (λ (xs : List ℕ). begun_at number load xs false) (sym (append-nil line))

held_inner : (line : List ℕ) (cr : Bool) → line_ends line ≡ 0 → line_ends (line ++ held_cr cr) ≡ 0
held_inner line true h = line_ends-append line (13 ∷ []) ∙ ap (λ (n : ℕ). n + 0) h
held_inner line false h = line_ends-append line [] ∙ ap (λ (n : ℕ). n + 0) h

-- one byte more of the line
grown : (text : List ℕ) (b : Begun) (byte : ℕ) (line : List ℕ) (cr : Bool) (t : LeadsTo text b) → (byte == 10) ≡ false
    → line_ends line ≡ 0
    → ((more : List ℕ) → lines_of (line ++ (held_cr cr ++ (10 ∷ more))) ≡ line ∷ lines_of more)
    → ((more : List ℕ) → t.line ++ (held_cr b.cr ++ (byte ∷ more)) ≡ line ++ (held_cr cr ++ more))
    → LeadsTo (text ++ byte ∷ []) (begun_at b.number b.load line cr)
grown text b byte line cr t other inner ends same = record {
  line = line;
  front = refl;
  inner = inner;
  ends = ends;
  number = t.number ∙ ap (λ (n : ℕ). n + 1) (sym (line_ends-append text (byte ∷ []) ∙ none));
  goes_on = λ more.
      ap verdict (append_assoc text (byte ∷ []) more)
      ∙ t.goes_on (byte ∷ more)
      ∙ ap (λ (xs : List ℕ). verdict_from b.number b.load (lines_of xs)) (same more);
}
  where
    none : line_ends text + line_ends (byte ∷ []) ≡ line_ends text
    none = rw other (omega arith)

-- a CR is held back
cr_held : (text : List ℕ) (b : Begun) (t : LeadsTo text b)
    → LeadsTo (text ++ 13 ∷ []) (begun_at b.number b.load (t.line ++ held_cr b.cr) true)
cr_held text b t =
    let inner = held_inner t.line b.cr t.inner in
    grown text b 13 (t.line ++ held_cr b.cr) true t refl inner
    (λ more. ends_by_cr (t.line ++ held_cr b.cr) more inner)
    (λ more. sym (append_assoc t.line (held_cr b.cr) (13 ∷ more)))

-- another byte goes behind it
byte_pushed : (text : List ℕ) (b : Begun) (byte : ℕ) (t : LeadsTo text b) → (byte == 10) ≡ false → (byte == 13) ≡ false
    → LeadsTo (text ++ byte ∷ []) (begun_at b.number b.load ((t.line ++ held_cr b.cr) ++ byte ∷ []) false)
byte_pushed text b byte t other no_cr =
    let full : List ℕ = t.line ++ held_cr b.cr in
    let none : line_ends (byte ∷ []) ≡ 0 = rw other refl in
    let inner : line_ends (full ++ byte ∷ []) ≡ 0 =
    omega (arith, line_ends-append full (byte ∷ []), none, held_inner t.line b.cr t.inner) in
    grown text b byte (full ++ byte ∷ []) false t other inner
    (λ more. ends_by_other full more byte inner no_cr)
    (λ more. sym (append_assoc full (byte ∷ []) more ∙ append_assoc t.line (held_cr b.cr) (byte ∷ more)))

-- what is taken is what the byte makes of the text
abbrev Taken : List ℕ → Begun → ℕ → Result Begun SrecKind → Type 0
Taken text b byte (Ok later) = LeadsTo (text ++ byte ∷ []) later
Taken text b byte (Err kind) =
    (rest : List ℕ) → StaysRefused (text ++ (byte ∷ rest)) (record { line = b.number; kind = kind })

-- the line ended
line_closed : (text : List ℕ) (b : Begun) (t : LeadsTo text b) (r : Result Load SrecKind) → judged b.load t.line ≡ r
    → Taken text b 10 (ended_at b r)
unfolding verdict_from lines_of
line_closed text b t (Ok later) e = record {
  line = [];
  front = refl;
  inner = refl;
  ends = λ more. refl;
  number = omega (arith, line_ends-append text (10 ∷ []), t.number);
  goes_on = λ more.
      ap verdict (append_assoc text (10 ∷ []) more)
      ∙ t.goes_on (10 ∷ more)
      ∙ ap (verdict_from b.number b.load) (t.ends more)
      ∙ ap (λ j. go_on b.number j (λ l. verdict_from (b.number + 1) l (lines_of more))) e;
}
line_closed text b t (Err kind) e = λ rest. record {
  first = λ more.
      ap verdict (append_assoc text (10 ∷ rest) more)
      ∙ t.goes_on (10 ∷ (rest ++ more))
      ∙ ap (verdict_from b.number b.load) (t.ends (rest ++ more))
      ∙ ap (λ j. go_on b.number j (λ l. verdict_from (b.number + 1) l (lines_of (rest ++ more)))) e;
  ended = omega (arith, line_ends-append text (10 ∷ rest), line_ends-append (10 ∷ []) rest, t.number);
}

-- a byte is taken
by_byte : (text : List ℕ) (b : Begun) (byte : ℕ) → LeadsTo text b → Taken text b byte (byte_taken b byte)
unfolding byte_taken
by_byte text b byte t = by_bool (byte == 10)
    (λ lf.
    let is : byte ≡ 10 = grind (arith, nat_tests) in
    rw lf (subst (λ (n : ℕ). Taken text b n (ended_at b (judged_front b.load b.front))) (sym is)
    (subst (λ (r : Result Load SrecKind). Taken text b 10 (ended_at b r)) (sym judged_is)
    (line_closed text b t (judged b.load t.line) refl))))
    (λ other. by_bool (byte == 13)
    (λ cr.
    let is : byte ≡ 13 = grind (arith, nat_tests) in
    rw (other, cr) (subst (λ (n : ℕ). LeadsTo (text ++ n ∷ []) (holding (with_held b))) (sym is)
    (subst (λ (h : Begun). LeadsTo (text ++ 13 ∷ []) (holding h)) (sym held_is) (cr_held text b t))))
    (λ no_cr.
    rw (other, no_cr) (subst (λ (h : Begun). LeadsTo (text ++ byte ∷ []) (with_byte h byte)) (sym held_is)
    (subst
    (λ (f : LineFront). LeadsTo (text ++ byte ∷ []) (record { number = b.number; load = b.load; front = f; cr = false }))
    (sym (pushed_front (t.line ++ held_cr b.cr) byte))
    (byte_pushed text b byte t other no_cr)))))
  where
    judged_is : judged_front b.load b.front ≡ judged b.load t.line
    judged_is = ap (judged_front b.load) t.front ∙ front_judges b.load t.line

    held_is : with_held b ≡ begun_at b.number b.load (t.line ++ held_cr b.cr) false
    held_is =
        ap (λ (f : LineFront). with_held (record { number = b.number; load = b.load; front = f; cr = b.cr })) t.front
        ∙ held_by b.number b.load t.line b.cr

pub byte_goes : (text : List ℕ) (b later : Begun) (byte : ℕ) → LeadsTo text b → byte_taken b byte ≡ Ok later
    → LeadsTo (text ++ byte ∷ []) later
byte_goes text b later byte t e = subst (Taken text b byte) e (by_byte text b byte t)

pub byte_stops : (text rest : List ℕ) (b : Begun) (byte : ℕ) (kind : SrecKind) → LeadsTo text b
    → byte_taken b byte ≡ Err kind → StaysRefused (text ++ (byte ∷ rest)) (record { line = b.number; kind = kind })
byte_stops text rest b byte kind t e =
    let taken : Taken text b byte (Err kind) = subst (Taken text b byte) e (by_byte text b byte t) in taken rest

-- the text ended
ended_with : (number : ℕ) (load : Load) (line : List ℕ) → line_ends line ≡ 0
    → last_line_on (begun_at number load line false) ≡ verdict_from number load (lines_of line)
unfolding verdict_from lines_of
ended_with number load [] h = refl
ended_with number load (b ∷ bs) h =
    let some : 0 < length (b ∷ bs) = omega arith in
    let none : (length (b ∷ bs) == 0) ≡ false = grind (arith, nat_tests) in
    rw none (
    ap (λ j. go_on number j (λ l. ended_on (number + 1) l.loaded l.start)) (front_judges load (b ∷ bs))
    ∙ sym (ap (verdict_from number load) (last_alone (b ∷ bs) h some))
    )

pub finished_is : (text : List ℕ) (b : Begun) → LeadsTo text b → at_text_end b ≡ verdict text
unfolding at_text_end
finished_is text b t =
    ap last_line_on (
    ap (λ (f : LineFront). with_held (record { number = b.number; load = b.load; front = f; cr = b.cr })) t.front
    ∙ held_by b.number b.load t.line b.cr
    )
    ∙ ended_with b.number b.load (t.line ++ held_cr b.cr) (held_inner t.line b.cr t.inner)
    ∙ ap (λ (xs : List ℕ). verdict_from b.number b.load (lines_of (t.line ++ xs))) (sym (append-nil (held_cr b.cr)))
    ∙ sym (t.goes_on [])
    ∙ ap verdict (append-nil text)

-- a fault of later lines comes no earlier
comes_later : (number : ℕ) (load : Load) (lines : List (List ℕ)) (fault : SrecFault)
    → verdict_from number load lines ≡ Err fault → number ≤ fault.line
unfolding verdict_from
comes_later number load [] fault e = at_end load.start e
  where
    at_end : (start : Option ℕ) → ended_on number load.loaded start ≡ Err fault → number ≤ fault.line
    at_end None h = let same : number ≡ fault.line = cc in omega arith
    at_end (Some s) h = absurd cc
comes_later number load (line ∷ lines) fault e =
    behind (judged load line) e (λ later h. comes_later (number + 1) later lines fault h)
  where
    behind : (r : Result Load SrecKind) → go_on number r (λ l. verdict_from (number + 1) l lines) ≡ Err fault
        → ((later : Load) → verdict_from (number + 1) later lines ≡ Err fault → number + 1 ≤ fault.line)
        → number ≤ fault.line
    behind (Ok later) h next = let more : number + 1 ≤ fault.line = next later h in omega arith
    behind (Err kind) h next = let same : number ≡ fault.line = cc in omega arith

-- where a text leads on, no line that ended has a fault
pub none_held : (text : List ℕ) (b : Begun) (fault : SrecFault) → LeadsTo text b → HoldsFault text fault → ⊥
none_held text b fault t held =
    let later : b.number ≤ fault.line =
    comes_later b.number b.load (lines_of (t.line ++ (held_cr b.cr ++ []))) fault
    (sym (t.goes_on []) ∙ ap verdict (append-nil text) ∙ held.0) in
    absurd (omega (arith, later, held.1, t.number))

-- a fault that stays is held, and stays behind a piece more
pub is_held : (text : List ℕ) (fault : SrecFault) → StaysRefused text fault → HoldsFault text fault
is_held text fault s = (sym (ap verdict (append-nil text)) ∙ s.first [], s.ended)

pub stays_behind : (text piece : List ℕ) (fault : SrecFault) → StaysRefused text fault
    → StaysRefused (text ++ piece) fault
stays_behind text piece fault s = record {
  first = λ more. ap verdict (append_assoc text piece more) ∙ s.first (piece ++ more);
  ended = omega (arith, line_ends-append text piece, s.ended);
}
