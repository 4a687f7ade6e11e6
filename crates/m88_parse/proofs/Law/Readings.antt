-- Readings walked once: what is read is what is related, the other way round, and each fault is the one of the language. The
-- slots of one token, marks and the end of a line, and ways to put them together, whatever stands behind them.
use Rattle.std.proofs.Common.{◌≡◌, ◌↔◌, ℕ, suc, ◌<◌, Bool, true, false, ◌==◌, ◌⊎◌, inl, inr, List, [], ◌∷◌, ◌++◌, length, Option, Some, None, Ok, Err, Result, refl, sym, ap, ◌∙◌, arith, subst, append-nil, eq-eqb, true≢false, if◌then◌else◌}
use Rattle.m88_parse.specs.declared.fault.ParseKind.{ParseKind}
use Rattle.m88_parse.specs.declared.fault.ParseKind.TheVariants.{Syntax}
use Rattle.m88_parse.specs.declared.fault.ParseFault.{ParseFault}
use Rattle.m88_parse.specs.declared.unit.Body.{Body}
use Rattle.m88_parse.specs.Language.Pieces.{TokenValue, a_name, a_number, a_text, a_mark, Piece}
use Rattle.m88_parse.specs.Language.Names.{IsMark, IsNumber, IsNamed}
use Rattle.m88_parse.specs.Inside.State.{ReaderState, past, says_first, is_mark_of, is_next_mark, ◌>>=◌}
use Rattle.m88_parse.specs.Inside.Slots.{Read, mark_at, line_end_at}
use Rattle.m88_parse.specs.Inside.Grammar.{end_with}
use Rattle.m88_parse.proofs.Law.TestsAndChoices.{tested, take_then, take_else}
use Rattle.m88_parse.proofs.Law.SingleTokens.{st, Naming, no_name, own_names, symbols, kind_for, plain_kind, ok_same, mark_says, next_again, gives, GivesNumbers, GivesNames, OneToken, one_mark, saying, NoName, number_is, text_is, mark_is, no_named, same_kind}
use Rattle.m88_parse.proofs.Law.LineFaults.Readers.{fault_in, same_fault, Reader, here, Goes, Refuses, Good, WantsNumbers, WantsNames}
use Rattle.m88_parse.proofs.Law.LineFaults.TokenByToken.{Leads, Faults, Node, refuses_as, numbers_as, names_as, each_as, node_as, leads, good, good_node}

-- what reads tokens, and what tells of them
abbrev pub Reading : Type 0 → Type 0
Reading B = ReaderState → Result B ParseFault

abbrev pub Relation : Type 0 → Type 1
Relation B = List Piece → B → Type 0

-- one token, and what stands behind it
pub record Then (A : Type 0) (Is : A → Piece → Type 0) (Next : A → List Piece → Type 0) (ps : List Piece) : Type 0 where
  pub value : A
  pub piece : Piece
  pub rest : List Piece
  pub tokens : ps ≡ piece ∷ rest
  pub is : Is value piece
  pub next : Next value rest

-- several tokens, and what stands behind them
pub record Several (A : Type 0) (Is : List Piece → A → Type 0) (Next : A → List Piece → Type 0) (ps : List Piece) : Type 0 where
  pub value : A
  pub front : List Piece
  pub rest : List Piece
  pub tokens : ps ≡ front ++ rest
  pub is : Is front value
  pub next : Next value rest

-- a mark, and what stands behind it
abbrev pub AfterMark : ℕ → (List Piece → Type 0) → List Piece → Type 0
AfterMark m Next ps = (c : Piece) × (rest : List Piece) × (ps ≡ c ∷ rest) × IsMark m c × Next rest

abbrev pub AfterComma : (List Piece → Type 0) → List Piece → Type 0
AfterComma Next ps = AfterMark 44 Next ps

-- what stands last
abbrev pub Last : (A : Type 0) → (List Piece → A → Type 0) → (A → Body) → Relation Body
Last A Is made ps b = (x : A) × Is ps x × (made x ≡ b)

-- nothing stands behind what makes a body
abbrev pub Ends : {A : Type 0} → (A → Body) → A → Relation Body
Ends made x ps b = (ps ≡ []) × (made x ≡ b)

-- a slot, and by what it gives what stands behind it
abbrev pub followed : {A B : Type 0} → (ReaderState → Read A) → (A → Reading B) → Reading B
followed slot next s = slot s >>= λ x. next x.0 x.1

abbrev pub Followed : {A B : Type 0} → (A → Piece → Type 0) → (A → Relation B) → Relation B
Followed {A = A} Is Next ps b = Then A Is (λ x qs. Next x qs b) ps

-- of fewer tokens than so many, what is read is what is related
abbrev pub Law : {B : Type 0} → ℕ → ℕ → ℕ → Reading B → Relation B → Type 0
Law {B = B} few line e reads Is = (ps : List Piece) (b : B) → length ps < few → (reads (st line e ps) ≡ Ok b) ↔ Is ps b

-- the faults of a reading
abbrev pub faults_of : {B : Type 0} → ℕ → ℕ → Reading B → Reader
faults_of line e reads ps = fault_in (reads (st line e ps))

-- and each fault there is the one of the language
pub record Walk {B : Type 0} (few line e : ℕ) (reads : Reading B) (Is : Relation B) : Type 0 where
  pub law : Law few line e reads Is
  pub faults : Good few line e (faults_of line e reads)

-- the same where it is told which tokens may come first
pub record Start {B : Type 0} (few : ℕ) (num : Bool) (nam : Naming) (line e : ℕ) (reads : Reading B) (Is : Relation B) : Type 0 where
  pub law : Law (suc few) line e reads Is
  pub node : Node few num nam line e (faults_of line e reads)

pub begun_more : {B : Type 0} {few : ℕ} {num : Bool} {nam : Naming} {line e : ℕ} {reads : Reading B} {Is : Relation B} → Start few num nam line e reads Is
    → Walk (suc few) line e reads Is
begun_more {few = few} {num = num} {nam = nam} {line = line} {e = e} {reads = reads} s =
    record { law = s.law; faults = good_node few num nam line e (faults_of line e reads) s.node }

pub begun : {B : Type 0} {few : ℕ} {num : Bool} {nam : Naming} {line e : ℕ} {reads : Reading B} {Is : Relation B} → Start few num nam line e reads Is
    → Walk few line e reads Is
begun {few = few} {num = num} {nam = nam} {line = line} {e = e} {reads = reads} s =
    record { law = λ ps b l. s.law ps b (omega (arith, l)); faults = good few num nam line e (faults_of line e reads) s.node }

-- what holds of so many tokens, whatever their number, holds of all
pub lawful : {B : Type 0} {line e : ℕ} {reads : Reading B} {Is : Relation B} → ((few : ℕ) → Walk few line e reads Is) → (ps : List Piece) (b : B)
    → (reads (st line e ps) ≡ Ok b) ↔ Is ps b
lawful go ps b = (go (suc (length ps))).law ps b (omega arith)

-- what is read alike and related alike

pub law_as : {B : Type 0} {q r : Result B ParseFault} {b : B} {Is As : Type 0} → q ≡ r → Is ↔ As → (r ≡ Ok b) ↔ Is → (q ≡ Ok b) ↔ As
law_as same alike law = (λ h. alike.0 (law.0 (sym same ∙ h)), λ w. same ∙ law.1 (alike.1 w))

pub start_as : {B : Type 0} {few : ℕ} {num : Bool} {nam : Naming} {line e : ℕ} {other : Reading B} {Is : Relation B}
    (reads : Reading B) (As : Relation B)
    → ((ps : List Piece) → reads (st line e ps) ≡ other (st line e ps)) → ((ps : List Piece) (b : B) → Is ps b ↔ As ps b)
    → Start few num nam line e other Is → Start few num nam line e reads As
start_as {B = B} {few = few} {num = num} {nam = nam} {line = line} {e = e} {other = other} reads As same alike go = record {
  law = λ ps b l. law_as (same ps) (alike ps b) (go.law ps b l);
  node = node_as few num nam line e (faults_of line e reads) (faults_of line e other) (λ ps. same_fault (same ps)) go.node;
}

-- the fault of a token
abbrev pub fault_at : {B : Type 0} → ℕ → Piece → ParseKind → Result B ParseFault
fault_at line p kind = Err (record { line = line; col = p.col; kind = kind })

-- one first token: behind it what is read is what is related, and it leads on or is a fault whatever follows
pub record Turn {B : Type 0} (few : ℕ) (num : Bool) (nam : Naming) (line e : ℕ) (reads : Reading B) (Is : Relation B) (p : Piece) : Type 0 where
  pub law : (ps : List Piece) (b : B) → length ps < few → (reads (st line e (p ∷ ps)) ≡ Ok b) ↔ Is (p ∷ ps) b
  pub each : Leads few num line e (faults_of line e reads) p ⊎ Faults num nam line (faults_of line e reads) p

pub turn : {B : Type 0} {few : ℕ} {num : Bool} {nam : Naming} {line e : ℕ} {reads : Reading B} {Is : Relation B}
    → Start few num nam line e reads Is → (p : Piece) → Turn few num nam line e reads Is p
turn s p = record { law = λ ps b l. s.law (p ∷ ps) b (omega (arith, l)); each = s.node.each p }

-- the token leads on to another reading
pub turn_leads : {B : Type 0} {few : ℕ} {num : Bool} {nam : Naming} {line e : ℕ} {next : Reading B} {Next : Relation B}
    (all : Reading B) (All : Relation B) (p : Piece) → ((ps : List Piece) → all (st line e (p ∷ ps)) ≡ next (st line e ps))
    → ((ps : List Piece) (b : B) → Next ps b ↔ All (p ∷ ps) b) → (IsMark 45 p → ⊥) ⊎ (num ≡ false) → Walk few line e next Next
    → Turn few num nam line e all All p
turn_leads {B = B} {few = few} {num = num} {line = line} {e = e} {next = next} all All p same alike fresh go = record {
  law = λ ps b l. law_as (same ps) (alike ps b) (go.law ps b l);
  each = inl (leads few num line e (faults_of line e all) (faults_of line e next) p go.faults (λ ps. same_fault (same ps)) fresh);
}

pub refused : {B : Type 0} {r : Result B ParseFault} {f : ParseFault} → r ≡ Err f → fault_in r ≡ None → ⊥
refused {f = f} h x = let y : ◌≡◌ {A = Option ParseFault} (Some f) None = sym (same_fault h) ∙ x in cc

-- the token can't stand there
pub turn_stops : {B : Type 0} {few : ℕ} {num : Bool} {nam : Naming} {line e : ℕ} (all : Reading B) (All : Relation B) (p : Piece)
    → ((ps : List Piece) → all (st line e (p ∷ ps)) ≡ fault_at line p (kind_for num nam p.says))
    → ((ps : List Piece) (b : B) → All (p ∷ ps) b → ⊥) → Turn few num nam line e all All p
turn_stops {B = B} all All p same none = record {
  law = λ ps b l. (λ h. let y = sym (same ps) ∙ h in absurd cc, λ w. absurd (none ps b w));
  each = inr (λ ps. same_fault (same ps));
}

-- the token is read and related as elsewhere
pub turn_as : {B : Type 0} {few : ℕ} {num : Bool} {nam more : Naming} {line e : ℕ} {other : Reading B} {Other : Relation B}
    (all : Reading B) (All : Relation B) (p : Piece) → ((ps : List Piece) → all (st line e (p ∷ ps)) ≡ other (st line e (p ∷ ps)))
    → ((ps : List Piece) (b : B) → Other (p ∷ ps) b ↔ All (p ∷ ps) b) → kind_for num more p.says ≡ kind_for num nam p.says
    → Turn few num more line e other Other p → Turn few num nam line e all All p
turn_as {B = B} {few = few} {num = num} {nam = nam} {more = more} {line = line} {e = e} {other = other} all All p same alike kinds t = record {
  law = λ ps b l. law_as (same ps) (alike ps b) (t.law ps b l);
  each = each_as few num nam more line e (faults_of line e all) (faults_of line e other) p (λ ps. same_fault (same ps)) kinds t.each;
}

-- a turn for each first token, where the end of the line, numbers and ( are read as elsewhere
pub turns_start : {B : Type 0} {few : ℕ} {num : Bool} {nam more : Naming} {line e : ℕ} {other : Reading B} {Other : Relation B}
    (all : Reading B) (All : Relation B) → Start few num more line e other Other
    → WantsNames nam (faults_of line e all) → Goes (faults_of line e all)
    → ((p : Piece) (n : ℕ) → IsNumber n p → (ps : List Piece) → all (st line e (p ∷ ps)) ≡ other (st line e (p ∷ ps)))
    → ((p : Piece) → IsMark 40 p → (ps : List Piece) → all (st line e (p ∷ ps)) ≡ other (st line e (p ∷ ps)))
    → all (st line e []) ≡ other (st line e []) → ((b : B) → Other [] b ↔ All [] b) → ((p : Piece) → Turn few num nam line e all All p)
    → Start few num nam line e all All
turns_start {B = B} {few = few} {num = num} {line = line} {e = e} {other = other} all All rest names goes numbers opening at_end alike turn_of = record {
  law = law;
  node = record {
    wants = record {
      numbers = numbers_as num (faults_of line e all) (faults_of line e other) (λ p n i ps. same_fault (numbers p n i ps)) rest.node.wants.numbers;
      names = names;
      opening = λ o i. refuses_as (faults_of line e all) (faults_of line e other) o (λ ps. same_fault (opening o i ps)) (rest.node.wants.opening o i);
    };
    goes = goes;
    stop = elim (rest.node.stop) [ inl s ↦ inl (same_fault at_end ∙ s) | inr s ↦ inr (same_fault at_end ∙ s) ];
    each = λ p. (turn_of p).each;
  };
}
  where
    law : Law (suc few) line e all All
    law [] b l = law_as at_end (alike b) (rest.law [] b l)
    law (p ∷ ps) b l = (turn_of p).law ps b (omega (arith, l))

-- one slot

-- the end of a line, and what it makes
abbrev pub end_as : {B : Type 0} → B → Reading B
end_as {B = B} b s = line_end_at s >>= λ (t : ReaderState). let y : Result B ParseFault = Ok b in y

pub end_start : {B : Type 0} (few line e : ℕ) (b : B) → Start few false no_name line e (end_as b) (λ ps c. (ps ≡ []) × (b ≡ c))
end_start {B = B} few line e b = record {
  law = λ ps c l. law ps c;
  node = record {
    wants = record { numbers = λ p n i ps h. absurd cc; names = λ p name i ps h. absurd cc; opening = λ o i ps h. absurd cc };
    goes = ([], refl);
    stop = inl refl;
    each = λ p. inr (λ ps. ap (here line p.col) (plain_kind p.says));
  };
}
  where
    law : (ps : List Piece) (c : B) → (end_as b (st line e ps) ≡ Ok c) ↔ ((ps ≡ []) × (b ≡ c))
    law [] c = (λ h. (refl, ok_same h), λ w. ap (λ (x : B). let y : Result B ParseFault = Ok x in y) w.1)
    law (p ∷ ps) c = (λ h. absurd cc, λ w. let t = w.0 in absurd cc)

-- what is read by a slot of one token, and what is read behind it

slot_said : {A B : Type 0} {Is : A → Piece → Type 0} {num : Bool} {nam : Naming} {line e : ℕ} {slot : ReaderState → Read A}
    (o : OneToken A Is num nam line e slot) (next : A → Reading B) (p : Piece) (y : Option A) → o.given p ≡ y → (ps : List Piece)
    → followed slot next (st line e (p ∷ ps)) ≡ (gives line e p ps (kind_for num nam p.says) y >>= λ (x : A × ReaderState). next x.0 x.1)
slot_said {A = A} {num = num} {nam = nam} {line = line} {e = e} o next p y h ps =
    ap (λ (r : Read A). r >>= λ (x : A × ReaderState). next x.0 x.1) (o.each p ps ∙ ap (gives line e p ps (kind_for num nam p.says)) h)

slot_ends : {A B : Type 0} {Is : A → Piece → Type 0} {num : Bool} {nam : Naming} {line e : ℕ} {slot : ReaderState → Read A}
    (o : OneToken A Is num nam line e slot) (next : A → Reading B) → followed slot next (st line e []) ≡ Err (record { line = line; col = e; kind = Syntax })
slot_ends {A = A} o next = ap (λ (r : Read A). r >>= λ (x : A × ReaderState). next x.0 x.1) o.empty

pub slot_law : {A B : Type 0} {Is : A → Piece → Type 0} {num : Bool} {nam : Naming} {line e : ℕ} {slot : ReaderState → Read A}
    (o : OneToken A Is num nam line e slot) (next : A → Reading B) (ps : List Piece) (b : B)
    → (followed slot next (st line e ps) ≡ Ok b) ↔ Then A Is (λ x qs. next x (st line e qs) ≡ Ok b) ps
slot_law {A = A} {Is = Is} {line = line} {e = e} {slot = slot} o next ps b = (
  reads ps,
  λ w.
      ap (λ (qs : List Piece). followed slot next (st line e qs)) w.tokens ∙ slot_said o next w.piece (Some w.value) (o.again w.piece w.value w.is) w.rest
      ∙ w.next,
)
  where
    by_given : (p : Piece) (qs : List Piece) (y : Option A) → o.given p ≡ y → followed slot next (st line e (p ∷ qs)) ≡ Ok b
        → Then A Is (λ x us. next x (st line e us) ≡ Ok b) (p ∷ qs)
    by_given p qs (Some x) i h = record { value = x; piece = p; rest = qs; tokens = refl; is = o.is p x i; next = sym (slot_said o next p (Some x) i qs) ∙ h }
    by_given p qs None i h = let y = sym (slot_said o next p None i qs) ∙ h in absurd cc

    reads : (qs : List Piece) → followed slot next (st line e qs) ≡ Ok b → Then A Is (λ x us. next x (st line e us) ≡ Ok b) qs
    reads [] h = let y = sym (slot_ends o next) ∙ h in absurd cc
    reads (p ∷ qs) h = by_given p qs (o.given p) refl h

-- where more or fewer numbers may stand there, a token leads on or is a fault all the same
slot_each : {A B : Type 0} {Is : A → Piece → Type 0} {num : Bool} {nam : Naming} {few line e : ℕ} {slot : ReaderState → Read A}
    (o : OneToken A Is num nam line e slot) (next : A → Reading B) → ((x : A) → Good few line e (faults_of line e (next x)))
    → (more : Bool) (p : Piece) → kind_for num nam p.says ≡ kind_for more nam p.says
    → Leads few more line e (faults_of line e (followed slot next)) p ⊎ Faults more nam line (faults_of line e (followed slot next)) p
slot_each {A = A} {nam = nam} {few = few} {line = line} {e = e} {slot = slot} o next go more p kinds = by_given (o.given p) refl
  where
    by_given : (y : Option A) → o.given p ≡ y
        → Leads few more line e (faults_of line e (followed slot next)) p ⊎ Faults more nam line (faults_of line e (followed slot next)) p
    by_given (Some x) h =
        inl (leads few more line e (faults_of line e (followed slot next)) (faults_of line e (next x)) p (go x)
        (λ ps. same_fault (slot_said o next p (Some x) h ps))
        (inl (λ m. let y : ◌≡◌ {A = Option A} (Some x) None = sym h ∙ o.marks p 45 (inr refl) m in cc)))
    by_given None h = inr (λ ps. same_fault (slot_said o next p None h ps) ∙ ap (here line p.col) kinds)

pub slot_start : {A B : Type 0} {Is : A → Piece → Type 0} {num : Bool} {nam : Naming} {few line e : ℕ} {slot : ReaderState → Read A}
    (o : OneToken A Is num nam line e slot) (next : A → Reading B) (Next : A → Relation B) → ((x : A) → Walk few line e (next x) (Next x))
    → Start few num nam line e (followed slot next) (Followed Is Next)
slot_start {A = A} {num = num} {nam = nam} {line = line} {e = e} {slot = slot} o next Next go = record {
  law = λ ps b l. (
    λ h.
        let w = (slot_law o next ps b).0 h in
        let n = ((go w.value).law w.rest b (omega (arith, l, ap length w.tokens))).0 w.next in
        record { value = w.value; piece = w.piece; rest = w.rest; tokens = w.tokens; is = w.is; next = n },
    λ w.
        let n = ((go w.value).law w.rest b (omega (arith, l, ap length w.tokens))).1 w.next in
        (slot_law o next ps b).1 (record { value = w.value; piece = w.piece; rest = w.rest; tokens = w.tokens; is = w.is; next = n }),
  );
  node = record {
    wants = record { numbers = numbers num o.numbers; names = names nam o.names; opening = λ p h. refuses p (o.marks p 40 (inl refl) h) };
    goes = let s = o.some in let y = goes_on s.0 s.1 s.2 in (s.0 ∷ y.0, y.1);
    stop = inr (same_fault (slot_ends o next));
    each = λ p. slot_each o next (λ x. (go x).faults) num p refl;
  };
}
  where
    goes_on : (p : Piece) (x : A) → o.given p ≡ Some x → Goes (λ ps. faults_of line e (followed slot next) (p ∷ ps))
    goes_on p x h = let y = (go x).faults.0 in (y.0, same_fault (slot_said o next p (Some x) h y.0) ∙ y.1)

    refuses : (p : Piece) → o.given p ≡ None → Refuses (faults_of line e (followed slot next)) p
    refuses p h ps x = refused (slot_said o next p None h ps) x

    numbers : (b : Bool) → GivesNumbers b o.given → WantsNumbers b (faults_of line e (followed slot next))
    numbers true h = (h.0, h.1, h.3, goes_on h.0 h.2 h.4)
    numbers false h = λ p n i. refuses p (h p n i)

    names : (b : Naming) → GivesNames b o.given → WantsNames b (faults_of line e (followed slot next))
    names no_name h = λ p name i. refuses p (h p name i)
    names own_names h = let a = h.0 in let b = h.1 in ((a.0, a.1, a.3, goes_on a.0 a.2 a.4), (b.0, b.1, b.2, refuses b.0 b.3))
    names symbols h = λ p name i. let x = h p name i in goes_on p x.0 x.1

-- a mark

pub mark_start : {B : Type 0} {few line e : ℕ} {next : Reading B} {Next : Relation B} (m : ℕ)
    → (40 == m) ≡ false → (45 == m) ≡ false → Walk few line e next Next
    → Start few false no_name line e (λ s. mark_at m s >>= next) (λ ps b. AfterMark m (λ qs. Next qs b) ps)
mark_start {B = B} {line = line} {e = e} {next = next} {Next = Next} m h i go =
    start_as (λ s. mark_at m s >>= next) (λ ps b. AfterMark m (λ qs. Next qs b) ps) (λ ps. same (mark_at m (st line e ps)))
    (λ ps b. (λ w. (w.piece, w.rest, w.tokens, w.is, w.next), λ w. record { value = tt; piece = w.0; rest = w.1; tokens = w.2; is = w.3; next = w.4 }))
    (slot_start (one_mark m line e h i) (λ u. next) (λ u. Next) (λ u. go))
  where
    same : (r : Result ReaderState ParseFault) → (r >>= next)
        ≡ ((r >>= λ (t : ReaderState). let y : Read (Unit {0}) = Ok (tt, t) in y) >>= λ (x : Unit {0} × ReaderState). next x.1)
    same (Ok t) = refl
    same (Err f) = refl

-- what is read by a slot and the end behind it
abbrev pub ended : {A : Type 0} → (ReaderState → Read A) → (A → Body) → Reading Body
ended slot made s = followed slot (λ x. end_with (made x)) s

-- several tokens that stand last
pub last_start : {A : Type 0} {few : ℕ} {num : Bool} {nam : Naming} {line e : ℕ} (Is : List Piece → A → Type 0) (slot : ReaderState → Read A) (made : A → Body)
    → Start few num nam line e (ended slot made) (λ ps b. Several A Is (λ x qs. Ends made x qs b) ps)
    → Start few num nam line e (ended slot made) (Last A Is made)
last_start {A = A} Is slot made go =
    start_as (ended slot made) (Last A Is made) (λ ps. refl)
    (λ ps b. (to ps b, λ w. record { value = w.0; front = ps; rest = []; tokens = sym (append-nil ps); is = w.1; next = (refl, w.2) })) go
  where
    to : (ps : List Piece) (b : Body) → Several A Is (λ x qs. Ends made x qs b) ps → Last A Is made ps b
    to ps b w =
        let same : ps ≡ w.front = w.tokens ∙ ap (λ (qs : List Piece). w.front ++ qs) w.next.0 ∙ append-nil w.front in
        (w.value, subst (λ (qs : List Piece). Is qs w.value) (sym same) w.is, w.next.1)

-- a slot of one token and the end

pub one_end : {A : Type 0} {Is : A → Piece → Type 0} {num : Bool} {nam : Naming} {few line e : ℕ} {slot : ReaderState → Read A}
    → OneToken A Is num nam line e slot → (made : A → Body)
    → Start few num nam line e (ended slot made) (λ ps b. Then A Is (λ x qs. Ends made x qs b) ps)
one_end {few = few} {line = line} {e = e} o made = slot_start o (λ x. end_with (made x)) (Ends made) (λ x. begun (end_start few line e (made x)))

-- a slot that a token closes, and the end

abbrev pub closed_end : {A : Type 0} → (ReaderState → Read A) → ℕ → (A → Body) → Reading Body
closed_end slot m made s = slot s >>= λ x. mark_at m x.1 >>= end_with (made x.0)

abbrev pub ClosedEnd : (A : Type 0) → (A → Piece → Type 0) → ℕ → (A → Body) → Relation Body
ClosedEnd A Is m made ps b = Then A Is (λ x qs. AfterMark m (λ us. Ends made x us b) qs) ps

pub closed_start : {A : Type 0} {Is : A → Piece → Type 0} {num : Bool} {nam : Naming} {few line e : ℕ} {slot : ReaderState → Read A}
    (o : OneToken A Is num nam line e slot) (m : ℕ) (made : A → Body) → (40 == m) ≡ false → (45 == m) ≡ false
    → Start few num nam line e (closed_end slot m made) (ClosedEnd A Is m made)
closed_start {few = few} {line = line} {e = e} o m made h i =
    slot_start o (λ x s. mark_at m s >>= end_with (made x)) (λ x qs b. AfterMark m (λ us. Ends made x us b) qs)
    (λ x. begun (mark_start m h i (begun (end_start few line e (made x)))))

-- where a mark leads on in its own way, and anything else as before

pub mark_first : (m : ℕ) (Next : List Piece → Type 0) (p : Piece) (ps : List Piece) → AfterMark m Next (p ∷ ps) → IsMark m p × Next ps
mark_first m Next p ps w =
    let t = w.2 in
    let here : w.0 ≡ p = cc in
    let behind : w.1 ≡ ps = cc in
    (subst (IsMark m) here w.3, subst Next behind w.4)

pub after_marked : (m : ℕ) (Next : List Piece → Type 0) (ps : List Piece) → AfterMark m Next ps → is_mark_of m (says_first ps) ≡ true
after_marked m Next ps w = ap (λ (qs : List Piece). is_mark_of m (says_first qs)) w.2 ∙ next_again m 0 0 w.0 w.1 w.3

pub marked_other : (m n : ℕ) (p : Piece) (ps : List Piece) (c : Piece) (rest : List Piece) → p ∷ ps ≡ c ∷ rest → IsMark n c → (n == m) ≡ false
    → is_mark_of m (Some p.says) ≡ false
marked_other m n p ps c rest h k i =
    let same : p ≡ c = cc in ap (λ (q : Piece). is_mark_of m (Some q.says)) same ∙ ap (λ (o : TokenValue). is_mark_of m (Some o)) k ∙ i

pub unnamed : (p q : Piece) (ps qs : List Piece) (m : TokenValue) → p ∷ ps ≡ q ∷ qs → q.says ≡ m → NoName m → NoName p.says
unnamed p q ps qs m t h z = let same : p ≡ q = cc in subst NoName (sym (ap (λ (o : Piece). o.says) same ∙ h)) z

pub lead_start : {B : Type 0} {few : ℕ} {num : Bool} {nam : Naming} {line e : ℕ} {Next : Relation B} {other : Reading B} {Other : Relation B}
    (m : ℕ) (all : Reading B) → (40 == m) ≡ false → Goes (faults_of line e all)
    → ((p : Piece) → is_mark_of m (Some p.says) ≡ true → Leads few num line e (faults_of line e all) p)
    → ((p : Piece) (ps : List Piece) (b : B) → is_mark_of m (Some p.says) ≡ true → length ps < few → (all (st line e (p ∷ ps)) ≡ Ok b) ↔ Next ps b)
    → ((p : Piece) (ps : List Piece) → is_mark_of m (Some p.says) ≡ false → all (st line e (p ∷ ps)) ≡ other (st line e (p ∷ ps)))
    → all (st line e []) ≡ other (st line e []) → Start few num nam line e other Other
    → ((p : Piece) (ps : List Piece) (b : B) → Other (p ∷ ps) b → is_mark_of m (Some p.says) ≡ false)
    → Start few num nam line e all (λ ps b. AfterMark m (λ qs. Next qs b) ps ⊎ Other ps b)
lead_start {B = B} {nam = nam} {line = line} {e = e} {Next = Next} {other = other} {Other = Other} m all h goes leading marked plain at_end rest unmarked =
    turns_start all Either rest
    (names_as nam (faults_of line e all) (faults_of line e other) (λ p name i ps. same_fault (plain p ps (says p (a_name name) i))) rest.node.wants.names)
    goes (λ p n i ps. plain p ps (says p (a_number n) i)) (λ p i ps. plain p ps (says p (a_mark 40) i ∙ h)) at_end (λ b. before [] b refl)
    (λ p. elim (tested (is_mark_of m (Some p.says))) [
      | inl t ↦ record { law = λ ps b l. law_as refl (behind p ps b t) (marked p ps b t l); each = inl (leading p t) }
      | inr t ↦ turn_as all Either p (λ ps. plain p ps t) (λ ps b. before (p ∷ ps) b t) refl (turn rest p)
    ])
  where
    Either : Relation B
    Either ps b = AfterMark m (λ qs. Next qs b) ps ⊎ Other ps b

    says : (p : Piece) (o : TokenValue) → p.says ≡ o → is_mark_of m (Some p.says) ≡ is_mark_of m (Some o)
    says p o i = ap (λ (v : TokenValue). is_mark_of m (Some v)) i

    behind : (p : Piece) (ps : List Piece) (b : B) → is_mark_of m (Some p.says) ≡ true → Next ps b ↔ Either (p ∷ ps) b
    behind p ps b t = (
      λ w. inl (p, ps, refl, mark_says m p.says t, w),
      λ w. elim w [ inl v ↦ (mark_first m (λ qs. Next qs b) p ps v).1 | inr v ↦ absurd (true≢false (sym t ∙ unmarked p ps b v)) ],
    )

    before : (ps : List Piece) (b : B) → is_mark_of m (says_first ps) ≡ false → Other ps b ↔ Either ps b
    before ps b t = (
      λ w. inr w,
      λ w. elim w [ inl v ↦ absurd (true≢false (sym (after_marked m (λ qs. Next qs b) ps v) ∙ t)) | inr v ↦ v ],
    )

-- where it leads on by itself

pub or_start : {B : Type 0} {few : ℕ} {num : Bool} {nam : Naming} {line e : ℕ} {next : Reading B} {Next : Relation B} {other : Reading B} {Other : Relation B}
    (m : ℕ)
    (all : Reading B) → (40 == m) ≡ false → ((45 == m) ≡ false) ⊎ (num ≡ false)
    → ((p : Piece) (ps : List Piece) → is_mark_of m (Some p.says) ≡ true → all (st line e (p ∷ ps)) ≡ next (st line e ps))
    → ((p : Piece) (ps : List Piece) → is_mark_of m (Some p.says) ≡ false → all (st line e (p ∷ ps)) ≡ other (st line e (p ∷ ps)))
    → all (st line e []) ≡ other (st line e []) → Walk few line e next Next → Start few num nam line e other Other
    → ((p : Piece) (ps : List Piece) (b : B) → Other (p ∷ ps) b → is_mark_of m (Some p.says) ≡ false)
    → Start few num nam line e all (λ ps b. AfterMark m (λ qs. Next qs b) ps ⊎ Other ps b)
or_start {B = B} {few = few} {num = num} {line = line} {e = e} {next = next} m all h i marked plain at_end go rest unmarked =
    lead_start m all h goes
    (λ p t. leads few num line e (faults_of line e all) (faults_of line e next) p go.faults (λ ps. same_fault (marked p ps t)) (fresh p t))
    (λ p ps b t l. law_as (marked p ps t) (λ w. w, λ w. w) (go.law ps b l)) plain at_end rest unmarked
  where
    goes : Goes (faults_of line e all)
    goes = (saying (a_mark m) ∷ go.faults.0.0, same_fault (marked (saying (a_mark m)) go.faults.0.0 (eq-eqb m m refl)) ∙ go.faults.0.1)

    no_minus : (p : Piece) → is_mark_of m (Some p.says) ≡ true → (45 == m) ≡ false → IsMark 45 p → ⊥
    no_minus p t d k = let w : is_mark_of m (Some p.says) ≡ (45 == m) = ap (λ (v : TokenValue). is_mark_of m (Some v)) k in true≢false (sym t ∙ w ∙ d)

    fresh : (p : Piece) → is_mark_of m (Some p.says) ≡ true → (IsMark 45 p → ⊥) ⊎ (num ≡ false)
    fresh p t = elim i [ inl d ↦ inl (no_minus p t d) | inr d ↦ inr d ]

-- no + or - comes first
abbrev pub IsUnsigned : List Piece → Type 0
IsUnsigned [] = Unit {0}
IsUnsigned (p ∷ ps) = (is_mark_of 43 (Some p.says) ≡ false) × (is_mark_of 45 (Some p.says) ≡ false)

pub mark_unsigned : (m : ℕ) (c : Piece) (ps rest : List Piece) → ps ≡ c ∷ rest → IsMark m c → (m == 43) ≡ false → (m == 45) ≡ false → IsUnsigned ps
mark_unsigned m c ps rest t h i j =
    subst IsUnsigned (sym t) (ap (λ (o : TokenValue). is_mark_of 43 (Some o)) h ∙ i, ap (λ (o : TokenValue). is_mark_of 45 (Some o)) h ∙ j)

pub end_unsigned : (ps : List Piece) → ps ≡ [] → IsUnsigned ps
end_unsigned ps h = subst IsUnsigned (sym h) tt

-- behind + in one way, behind - in another, and nothing where neither comes

abbrev pub AfterSign : {B : Type 0} → Relation B → Relation B → Relation B → Relation B
AfterSign Plus Minus Neither ps b = AfterMark 43 (λ qs. Plus qs b) ps ⊎ (AfterMark 45 (λ qs. Minus qs b) ps ⊎ Neither ps b)

abbrev sign_at : {A : Type 0} → (ReaderState → Read A) → (ReaderState → Read A) → A → ReaderState → Read A
sign_at plus minus none s = if is_next_mark 43 s then plus (past s) else (if is_next_mark 45 s then minus (past s) else Ok (none, s))

pub sign_start : {A B : Type 0} {few line e : ℕ} {Plus Minus Neither : Relation B} (plus minus : ReaderState → Read A) (none : A) (next : A → Reading B)
    → Walk few line e (followed plus next) Plus → Walk few line e (followed minus next) Minus
    → Start few false no_name line e (next none) Neither → ((ps : List Piece) (b : B) → Neither ps b → IsUnsigned ps)
    → Start few false no_name line e (followed (sign_at plus minus none) next) (AfterSign Plus Minus Neither)
sign_start {A = A} {B = B} {line = line} {e = e} {Minus = Minus} {Neither = Neither} plus minus none next go back stay unsigned =
    or_start 43 (followed (sign_at plus minus none) next) refl (inr refl) (λ p ps t. bound (take_then (is_mark_of 43 (Some p.says)) _ _ t))
    (λ p ps t. bound (take_else (is_mark_of 43 (Some p.says)) _ _ t)) refl go
    (or_start 45 unplussed refl (inr refl) (λ p ps t. bound (take_then (is_mark_of 45 (Some p.says)) _ _ t)) (λ p ps t. bound (take_else (is_mark_of 45 (Some p.says)) _ _ t)) refl back stay (λ p ps b w. (unsigned (p ∷ ps) b w).1)) no_plus
  where
    unplussed : Reading B
    unplussed s = (if is_next_mark 45 s then minus (past s) else Ok (none, s)) >>= λ (x : A × ReaderState). next x.0 x.1

    bound : {q r : Read A} → q ≡ r → (q >>= λ (x : A × ReaderState). next x.0 x.1) ≡ (r >>= λ (x : A × ReaderState). next x.0 x.1)
    bound h = ap (λ (r : Read A). r >>= λ (x : A × ReaderState). next x.0 x.1) h

    no_plus : (p : Piece) (ps : List Piece) (b : B) → AfterMark 45 (λ qs. Minus qs b) (p ∷ ps) ⊎ Neither (p ∷ ps) b → is_mark_of 43 (Some p.says) ≡ false
    no_plus p ps b (inl w) = marked_other 43 45 p ps w.0 w.1 w.2 w.3 refl
    no_plus p ps b (inr w) = (unsigned (p ∷ ps) b w).0

-- where each name is read in its own way, and all else as elsewhere

-- no name comes first
abbrev pub Nameless : List Piece → Type 0
Nameless [] = Unit {0}
Nameless (p ∷ ps) = NoName p.says

pub names_start : {B : Type 0} {few : ℕ} {num : Bool} {nam more : Naming} {line e : ℕ} {other : Reading B} {Other : Relation B}
    (all : Reading B) (All : Relation B) → WantsNames nam (faults_of line e all) → Goes (faults_of line e all)
    → ((p : Piece) (text : List ℕ) → IsNamed text p → Turn few num nam line e all All p)
    → ((p : Piece) (ps : List Piece) (m : TokenValue) → p.says ≡ m → NoName m → all (st line e (p ∷ ps)) ≡ other (st line e (p ∷ ps)))
    → all (st line e []) ≡ other (st line e []) → ((ps : List Piece) (b : B) → Nameless ps → Other ps b ↔ All ps b) → Start few num more line e other Other
    → Start few num nam line e all All
names_start {few = few} {num = num} {nam = nam} {more = more} {line = line} {e = e} all All names goes named plain at_end alike rest =
    turns_start all All rest names goes (λ p n i ps. plain p ps (a_number n) i number_is) (λ p i ps. plain p ps (a_mark 40) i mark_is) at_end
    (λ b. alike [] b tt) (λ p. by_says p p.says refl)
  where
    others : (p : Piece) (m : TokenValue) → p.says ≡ m → NoName m → Turn few num nam line e all All p
    others p m h z =
        turn_as all All p (λ ps. plain p ps m h z) (λ ps b. alike (p ∷ ps) b (subst NoName (sym h) z)) (same_kind num nam more p.says (subst NoName (sym h) z))
        (turn rest p)

    by_says : (p : Piece) (m : TokenValue) → p.says ≡ m → Turn few num nam line e all All p
    by_says p (a_name text) h = named p text h
    by_says p (a_number n) h = others p (a_number n) h number_is
    by_says p (a_text bytes) h = others p (a_text bytes) h text_is
    by_says p (a_mark m) h = others p (a_mark m) h mark_is

-- where names are read by a slot of one token
pub named_start : {A B : Type 0} {Is : A → Piece → Type 0} {nam : Naming} {few line e : ℕ} {slot : ReaderState → Read A} {other : Reading B}
    {Other : Relation B}
    (o : OneToken A Is false nam line e slot) (all : Reading B) (next : A → Reading B) (Next : A → Relation B)
    → ((x : A) (p : Piece) → Is x p → (text : List ℕ) × IsNamed text p)
    → ((p : Piece) (ps : List Piece) (text : List ℕ) → IsNamed text p → all (st line e (p ∷ ps)) ≡ followed slot next (st line e (p ∷ ps)))
    → ((p : Piece) (ps : List Piece) (m : TokenValue) → p.says ≡ m → NoName m → all (st line e (p ∷ ps)) ≡ other (st line e (p ∷ ps)))
    → all (st line e []) ≡ other (st line e [])
    → ((x : A) → Walk few line e (next x) (Next x)) → Start few true no_name line e other Other
    → ((p : Piece) (ps : List Piece) (b : B) → Other (p ∷ ps) b → NoName p.says)
    → Start few true nam line e all (λ ps b. Followed Is Next ps b ⊎ Other ps b)
named_start {B = B} {Is = Is} {nam = nam} {few = few} {line = line} {e = e} {slot = slot} {Other = Other} o all next Next texts named plain ends go rest other =
    names_start all Either
    (names_as nam (faults_of line e all) (faults_of line e (followed slot next)) (λ p text h ps. same_fault (named p ps text h)) names.node.wants.names)
    (let w = rest.node.wants.numbers in (w.0 ∷ w.3.0, same_fault (plain w.0 w.3.0 (a_number w.1) w.2 number_is) ∙ w.3.1))
    (λ p text h. turn_as all Either p (λ ps. named p ps text h) (of_name p text h) refl (by_name p text h)) plain ends of_other rest
  where
    Either : Relation B
    Either ps b = Followed Is Next ps b ⊎ Other ps b

    of_name : (p : Piece) (text : List ℕ) → IsNamed text p → (ps : List Piece) (b : B) → Followed Is Next (p ∷ ps) b ↔ Either (p ∷ ps) b
    of_name p text h ps b = (λ w. inl w, λ w. elim w [ inl v ↦ v | inr v ↦ absurd (no_named p.says text (other p ps b v) h) ])

    named_first : (ps : List Piece) (b : B) → Followed Is Next ps b → Nameless ps → ⊥
    named_first ps b w z = let n = texts w.value w.piece w.is in no_named w.piece.says n.0 (subst Nameless w.tokens z) n.1

    of_other : (ps : List Piece) (b : B) → Nameless ps → Other ps b ↔ Either ps b
    of_other ps b z = (λ w. inr w, λ w. elim w [ inl v ↦ absurd (named_first ps b v z) | inr v ↦ v ])

    names : Start few false nam line e (followed slot next) (Followed Is Next)
    names = slot_start o next Next go

    by_name : (p : Piece) (text : List ℕ) → IsNamed text p → Turn few true nam line e (followed slot next) (Followed Is Next) p
    by_name p text h = record {
      law = (turn names p).law;
      each = slot_each o next (λ x. (go x).faults) true p (ap (kind_for false nam) h ∙ sym (ap (kind_for true nam) h));
    }
