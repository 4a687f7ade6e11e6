-- A text that comes line by line leads where its lines do.
use Rattle.std.proofs.Common.{◌≡◌, ℕ, ◌+◌, ◌==◌, ◌≤◌, Bool, true, false, List, [], ◌∷◌, ◌++◌, length, refl, sym, ap, ◌∙◌, subst, arith, inl, inr, append_assoc, append-nil}
use Rattle.std.specs.Prelude.{Result, Ok, Err, IfErr, IfOk, not, ◌&&◌, ◌⊎◌}
use Rattle.std.specs.List.{list_all}
use Rattle.std.proofs.lemmas.Bool.{false≢true}
use Rattle.m88_base.specs.Cut.{Lacks}
use Rattle.m88_base.specs.Lines.{lines_of}
use Rattle.m88_srec.specs.Begun.{Begun, LeadsTo, StaysRefused, held_cr, line_ends}
use Rattle.m88_srec.specs.Front.{LineFront, front_of, most_kept}
use Rattle.m88_srec.specs.GivesVerdict.{no_memory}
use Rattle.m88_srec.specs.Inside.Loads.{GivesLoad, fault_of_line}
use Rattle.m88_srec.specs.Inside.Taking.{EndsAlone, LeadsPast, IsWholeLine, HoldsFirstFault, byte_taken, gone_on}
use Rattle.m88_srec.specs.Verdict.{Load, go_on, judged, verdict, verdict_from}
use Rattle.m88_srec.specs.declared.fault.SrecFault.{SrecFault}
use Rattle.m88_srec.specs.declared.fault.SrecKind.{SrecKind}
use Rattle.m88_srec.specs.declared.fault.SrecKind.TheVariants.{Memory}
use Rattle.m88_srec.proofs.Cases.{by_bool}
use Rattle.m88_srec.proofs.Turns.{not_memory}
use Rattle.m88_srec.proofs.Feeding.{byte_goes, byte_stops, ends_by_other, line_ends-append}

-- a line that lacks the line end has none
pub lacks_end : (line : List ℕ) → Lacks 10 line → line_ends line ≡ 0
lacks_end [] h = refl
lacks_end (b ∷ bs) h = by_bool (b == 10)
    (λ yes. absurd (false≢true (let g : (not (b == 10) && list_all (λ x. not (x == 10)) bs) ≡ true = h in rw yes at g)))
    (λ no. rw no (lacks_end bs (let g : (not (b == 10) && list_all (λ x. not (x == 10)) bs) ≡ true = h in rw no at g)))

-- a line of no byte, and one whose last byte is no CR
pub alone_empty : (line : List ℕ) → length line ≡ 0 → EndsAlone line
unfolding lines_of
alone_empty [] none = λ inner more. refl
alone_empty (b ∷ bs) none = absurd (omega (arith, none))

pub alone_other : (line front : List ℕ) (b : ℕ) → line ≡ front ++ b ∷ [] → (b == 13) ≡ false → EndsAlone line
alone_other line front b is other = subst EndsAlone (sym is) (λ inner more. ends_by_other front more b inner other)

pub stands_whole : (rest line left : List ℕ) → rest ≡ line ++ 10 ∷ left → Lacks 10 line → EndsAlone line →
    length line ≤ most_kept → IsWholeLine rest line left
stands_whole rest line left is lacks alone short =
    let inner : line_ends line ≡ 0 = lacks_end line lacks in
    record { joined = is; inner = inner; ends = alone inner; short = short }

-- nothing is kept of a line only where it has no byte
none_kept : (line : List ℕ) → length line ≡ 0 → line ≡ []
none_kept [] h = refl
none_kept (b ∷ bs) h = absurd (omega (arith, h))

-- a line that is taken whole
module _ (rest line left text : List ℕ) (b : Begun) (w : IsWholeLine rest line left) (t : LeadsTo text b)
    (empty : b.front.len ≡ 0) (no_cr : b.cr ≡ false) where
  begins : t.line ≡ []
  begins = none_kept t.line (sym (ap (λ (f : LineFront). f.len) t.front) ∙ empty)

  from_here : (more : List ℕ) → verdict (text ++ more) ≡ verdict_from b.number b.load (lines_of more)
  from_here more =
      t.goes_on more
      ∙ ap (λ (xs : List ℕ). verdict_from b.number b.load (lines_of (xs ++ (held_cr b.cr ++ more)))) begins
      ∙ ap (λ (c : Bool). verdict_from b.number b.load (lines_of (held_cr c ++ more))) no_cr

  behind : (more : List ℕ) (r : Result Load SrecKind) → judged b.load line ≡ r
      → verdict (text ++ (line ++ 10 ∷ more)) ≡ go_on b.number r (λ l. verdict_from (b.number + 1) l (lines_of more))
  unfolding verdict_from
  behind more r e =
      from_here (line ++ 10 ∷ more)
      ∙ ap (verdict_from b.number b.load) (w.ends more)
      ∙ ap (λ j. go_on b.number j (λ l. verdict_from (b.number + 1) l (lines_of more))) e

  counted : (more : List ℕ) → line_ends (line ++ 10 ∷ more) ≡ 1 + line_ends more
  counted more = omega (arith, line_ends-append line (10 ∷ more), line_ends-append (10 ∷ []) more, w.inner)

  pub whole_goes : (later : Begun) → gone_on b (judged b.load line) ≡ Ok later
      → LeadsTo (text ++ (line ++ 10 ∷ [])) later
  unfolding lines_of
  whole_goes later e = by_result (judged b.load line) refl
    where
      by_result : (r : Result Load SrecKind) → judged b.load line ≡ r → LeadsTo (text ++ (line ++ 10 ∷ [])) later
      by_result (Err kind) j = absurd (let h : gone_on b (Err kind) ≡ Ok later = subst (λ r. gone_on b r ≡ Ok later) j e in cc)
      by_result (Ok load) j =
          let h : gone_on b (Ok load) ≡ Ok later = subst (λ r. gone_on b r ≡ Ok later) j e in
          let is : record { number = b.number + 1; load = load; front = b.front; cr = b.cr } ≡ later = cc in
          subst (LeadsTo (text ++ (line ++ 10 ∷ []))) is (record {
            line = [];
            front = t.front ∙ ap front_of begins;
            inner = refl;
            ends = λ more. ap (λ (c : Bool). lines_of (held_cr c ++ (10 ∷ more))) no_cr;
            number = omega (arith, line_ends-append text (line ++ 10 ∷ []), counted [], t.number);
            goes_on = λ more.
                ap verdict (append_assoc text (line ++ 10 ∷ []) more ∙ ap (λ (xs : List ℕ). text ++ xs) (append_assoc line (10 ∷ []) more))
                ∙ behind more (Ok load) j
                ∙ ap (λ (c : Bool). verdict_from (b.number + 1) load (lines_of (held_cr c ++ more))) (sym no_cr);
          })

  pub whole_stops : (kind : SrecKind) → gone_on b (judged b.load line) ≡ Err kind
      → StaysRefused (text ++ rest) (record { line = b.number; kind = kind })
  whole_stops kind e = by_result (judged b.load line) refl
    where
      by_result : (r : Result Load SrecKind) → judged b.load line ≡ r
          → StaysRefused (text ++ rest) (record { line = b.number; kind = kind })
      by_result (Ok load) j = absurd (let h : gone_on b (Ok load) ≡ Err kind = subst (λ r. gone_on b r ≡ Err kind) j e in cc)
      by_result (Err other) j =
          let h : gone_on b (Err other) ≡ Err kind = subst (λ r. gone_on b r ≡ Err kind) j e in
          let is : other ≡ kind = cc in
          let stays : StaysRefused (text ++ (line ++ 10 ∷ left)) (record { line = b.number; kind = other }) = record {
            first = λ more.
                ap verdict (append_assoc text (line ++ 10 ∷ left) more ∙ ap (λ (xs : List ℕ). text ++ xs) (append_assoc line (10 ∷ left) more))
                ∙ behind (left ++ more) (Err other) j;
            ended = omega (arith, line_ends-append text (line ++ 10 ∷ left), counted left, t.number);
          } in
          subst (λ (xs : List ℕ). StaysRefused (text ++ xs) (record { line = b.number; kind = kind })) (sym w.joined)
          (subst (λ (k : SrecKind). StaysRefused (text ++ (line ++ 10 ∷ left)) (record { line = b.number; kind = k })) is stays)

-- the line, or the byte, is taken
pub line_taken : (rest line left behind : List ℕ) (b later : Begun) → IsWholeLine rest line left → b.front.len ≡ 0 → b.cr ≡ false
    → gone_on b (judged b.load line) ≡ Ok later → behind ≡ left → LeadsPast rest behind b later
line_taken rest line left behind b later w empty no_cr e same = subst (λ (xs : List ℕ). LeadsPast rest xs b later) (sym same) (record {
  bytes = line ++ 10 ∷ [];
  joined = w.joined ∙ sym (append_assoc line (10 ∷ []) left);
  leads = λ text t. whole_goes rest line left text b w t empty no_cr later e;
})

pub line_stops : (rest line left : List ℕ) (b : Begun) (kind : SrecKind) → IsWholeLine rest line left → b.front.len ≡ 0
    → b.cr ≡ false → (kind ≡ Memory) ⊎ (gone_on b (judged b.load line) ≡ Err kind) → HoldsFirstFault rest b kind
line_stops rest line left b kind w empty no_cr (inl memory) = inl memory
line_stops rest line left b kind w empty no_cr (inr e) =
    inr (λ text t. whole_stops rest line left text b w t empty no_cr kind e)

-- what the call that takes the line answers
pub taken_line : {T : Type 0} (now : T → List ℕ) (rest line left : List ℕ) (b later : Begun) (r : Result T SrecKind)
    → IsWholeLine rest line left → b.front.len ≡ 0 → b.cr ≡ false → GivesLoad later r (gone_on b (judged b.load line))
    → IfOk r (λ x. now x ≡ left) → IfOk r (λ x. LeadsPast rest (now x) b later)
taken_line now rest line left b later (Ok x) w empty no_cr said same = line_taken rest line left (now x) b later w empty no_cr said same
taken_line now rest line left b later (Err kind) w empty no_cr said same = tt

pub refused_line : {T : Type 0} (rest line left : List ℕ) (b later : Begun) (r : Result T SrecKind)
    → IsWholeLine rest line left → b.front.len ≡ 0 → b.cr ≡ false → GivesLoad later r (gone_on b (judged b.load line))
    → IfErr r (HoldsFirstFault rest b)
refused_line rest line left b later (Ok x) w empty no_cr said = tt
refused_line rest line left b later (Err kind) w empty no_cr said = line_stops rest line left b kind w empty no_cr said

pub byte_taken_first : (rest left : List ℕ) (byte : ℕ) (b later : Begun) → rest ≡ byte ∷ left → byte_taken b byte ≡ Ok later
    → LeadsPast rest left b later
byte_taken_first rest left byte b later is e = record {
  bytes = byte ∷ [];
  joined = is;
  leads = λ text t. byte_goes text b later byte t e;
}

pub byte_stops_first : (rest left : List ℕ) (byte : ℕ) (b : Begun) (kind : SrecKind) → rest ≡ byte ∷ left
    → (kind ≡ Memory) ⊎ (byte_taken b byte ≡ Err kind) → HoldsFirstFault rest b kind
byte_stops_first rest left byte b kind is (inl memory) = inl memory
byte_stops_first rest left byte b kind is (inr e) =
    inr (λ text t.
    subst (λ (xs : List ℕ). StaysRefused (text ++ xs) (record { line = b.number; kind = kind })) (sym is)
    (byte_stops text left b byte kind t e))

-- a piece, taken bit by bit
pub none_taken : (piece : List ℕ) (b : Begun) → LeadsPast piece piece b b
none_taken piece b = record {
  bytes = [];
  joined = refl;
  leads = λ text t. subst (λ (xs : List ℕ). LeadsTo xs b) (sym (append-nil text)) t;
}

pub more_taken : (piece rest left : List ℕ) (first now later : Begun) → LeadsPast piece rest first now → LeadsPast rest left now later
    → LeadsPast piece left first later
more_taken piece rest left first now later before more = record {
  bytes = before.bytes ++ more.bytes;
  joined = before.joined ∙ ap (λ (xs : List ℕ). before.bytes ++ xs) more.joined ∙ sym (append_assoc before.bytes more.bytes left);
  leads = λ text t.
      subst (λ (xs : List ℕ). LeadsTo xs later) (append_assoc text before.bytes more.bytes)
      (more.leads (text ++ before.bytes) (before.leads text t));
}

pub all_taken : (piece rest : List ℕ) (first now : Begun) → LeadsPast piece rest first now → length rest ≡ 0
    → (text : List ℕ) → LeadsTo text first → LeadsTo (text ++ piece) now
all_taken piece [] first now taken none text t =
    subst (λ (xs : List ℕ). LeadsTo (text ++ xs) now) (sym (taken.joined ∙ append-nil taken.bytes)) (taken.leads text t)
all_taken piece (b ∷ bs) first now taken none text t = absurd (omega (arith, none))

pub stopped_there : (piece rest : List ℕ) (first now : Begun) (kind : SrecKind) (fault : SrecFault) → LeadsPast piece rest first now
    → HoldsFirstFault rest now kind → fault ≡ fault_of_line now.number kind
    → (fault ≡ no_memory) ⊎ ((text : List ℕ) → LeadsTo text first → StaysRefused (text ++ piece) fault)
stopped_there piece rest first now kind fault taken (inl memory) is = inl (is ∙ ap (fault_of_line now.number) memory)
stopped_there piece rest first now kind fault taken (inr stops) is = elim (not_memory now.number kind) [
  | inl none ↦ inl (is ∙ none)
  | inr some ↦ inr (λ text t.
      let stays : StaysRefused ((text ++ taken.bytes) ++ rest) (record { line = now.number; kind = kind }) =
      stops (text ++ taken.bytes) (taken.leads text t) in
      let whole : (text ++ taken.bytes) ++ rest ≡ text ++ piece =
      append_assoc text taken.bytes rest ∙ ap (λ (xs : List ℕ). text ++ xs) (sym taken.joined) in
      subst (λ (xs : List ℕ). StaysRefused xs fault) whole
      (subst (StaysRefused ((text ++ taken.bytes) ++ rest)) (sym (is ∙ some)) stays))
]
