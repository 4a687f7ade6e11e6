-- What stands behind a front, one token at a time: where each token either leads on or is a fault whatever follows it, each
-- fault is the one of the language.
use Rattle.std.proofs.Common.{◌≡◌, ℕ, suc, ◌+◌, ◌<◌, arith, Bool, true, false, ◌⊎◌, inl, inr, List, [], ◌∷◌, ◌++◌, length, Option, Some, None, refl, sym, ap, ◌∙◌, subst, append_assoc, append-nil}
use Rattle.m88_parse.specs.declared.fault.ParseKind.{ParseKind}
use Rattle.m88_parse.specs.declared.fault.ParseKind.TheVariants.{Syntax}
use Rattle.m88_parse.specs.declared.fault.ParseFault.{ParseFault}
use Rattle.m88_parse.specs.Language.Pieces.{TokenValue, a_name, a_number, a_text, a_mark, Piece}
use Rattle.m88_parse.specs.Language.Names.{IsMark, IsNumber, IsNamed}
use Rattle.m88_parse.specs.Language.LineFaults.{IsOperation, Continues, MayFollow, NumberMayFollow, EndsInHalf, IsMisplaced, number_out_of_range, no_such_name, other_token, IsFaultBehind, misplaced, line_ends, Stops}
use Rattle.m88_parse.proofs.Law.SingleTokens.{Naming, no_name, own_names, symbols, kind_for}
use Rattle.m88_parse.proofs.Law.LineFaults.Readers.{here, some_same, Reader, heard, HeardLaw, Goes, Refuses, Reads, EndsAt, Told, Traced, Fresh, Good, WantsNumbers, WantsNames, Wants, NumbersWanted, NamesWanted, Wanted}

-- from readers to the language

pub reads_on : (line e : ℕ) (front : List Piece) (k : Reader) (p : Piece) → ((ps : List Piece) → heard line e (front ++ p ∷ ps) ≡ k (p ∷ ps))
    → Reads line e (front ++ p ∷ []) (λ ps. k (p ∷ ps))
reads_on line e front k p r ps = ap (heard line e) (append_assoc front (p ∷ []) ps) ∙ r ps

pub continues : (line e : ℕ) → HeardLaw line e → (front : List Piece) (k : Reader) → Reads line e front k → Goes k → Continues front
continues line e law front k r g = (g.0, (law (front ++ g.0)).0 (r g.0 ∙ g.1))

pub follows : (line e : ℕ) → HeardLaw line e → (front : List Piece) (k : Reader) (p : Piece) → Reads line e front k → Goes (λ ps. k (p ∷ ps))
    → MayFollow front p
follows line e law front k p r g = continues line e law (front ++ p ∷ []) (λ ps. k (p ∷ ps)) (reads_on line e front k p (λ ps. r (p ∷ ps))) g

pub follows_not : (line e : ℕ) → HeardLaw line e → (front : List Piece) (k : Reader) (p : Piece) → Reads line e front k → Refuses k p → MayFollow front p → ⊥
follows_not line e law front k p r n f =
    n f.0 (sym (r (p ∷ f.0)) ∙ ap (heard line e) (sym (append_assoc front (p ∷ []) f.0)) ∙ (law ((front ++ p ∷ []) ++ f.0)).1 f.1)

numbers_wanted : (num : Bool) (line e : ℕ) → HeardLaw line e → (front : List Piece) (k : Reader) → Reads line e front k → WantsNumbers num k
    → NumbersWanted num front
numbers_wanted true line e law front k r w = (w.0, w.1, w.2, follows line e law front k w.0 r w.3)
numbers_wanted false line e law front k r w = λ f. follows_not line e law front k f.0 r (w f.0 f.1 f.2) f.3

names_wanted : (nam : Naming) (line e : ℕ) → HeardLaw line e → (front : List Piece) (k : Reader) → Reads line e front k → WantsNames nam k
    → NamesWanted nam front
names_wanted no_name line e law front k r w = λ f. follows_not line e law front k f.0 r (w f.0 f.1 f.2) f.3
names_wanted own_names line e law front k r w =
    let a = w.0 in
    let b = w.1 in
    ((a.0, a.1, a.2, follows line e law front k a.0 r a.3), λ all. follows_not line e law front k b.0 r b.3 (all b.0 b.1 b.2))
names_wanted symbols line e law front k r w = λ p name h. follows line e law front k p r (w p name h)

pub wanted : (num : Bool) (nam : Naming) (line e : ℕ) → HeardLaw line e → (front : List Piece) (k : Reader) → Reads line e front k → Wants num nam k
    → Wanted num nam front
wanted num nam line e law front k r w = record {
  numbers = numbers_wanted num line e law front k r w.numbers;
  names = names_wanted nam line e law front k r w.names;
  opening = λ o m. follows_not line e law front k o r (w.opening o m);
}

-- the kind of a token's fault

number_misplaced : (num : Bool) (front : List Piece) (p : Piece) (n : ℕ) → Fresh front → p.says ≡ a_number n → NumbersWanted num front
    → IsMisplaced front p p.col (kind_for num no_name (a_number n))
number_misplaced true front p n f h w = number_out_of_range (n, h, w) f
number_misplaced false front p n f h w = other_token (λ x. w x.2) (λ x. let a = sym h ∙ x.1 in absurd cc)

name_misplaced : (nam : Naming) (front : List Piece) (p : Piece) (name : List ℕ) → p.says ≡ a_name name → NamesWanted nam front
    → IsMisplaced front p p.col (kind_for false nam (a_name name))
name_misplaced no_name front p name h w = other_token (λ x. let a = sym h ∙ x.1 in absurd cc) (λ x. w x.2)
name_misplaced own_names front p name h w = no_such_name (name, h, w.0, w.1)
name_misplaced symbols front p name h w = other_token (λ x. let a = sym h ∙ x.1 in absurd cc) (λ x. x.3 w)

pub misplaced_by : (num : Bool) (nam : Naming) (front : List Piece) (p : Piece) (m : TokenValue) → p.says ≡ m → Fresh front → Wanted num nam front
    → IsMisplaced front p p.col (kind_for num nam m)
misplaced_by num nam front p (a_name name) h f w = name_misplaced nam front p name h w.names
misplaced_by num nam front p (a_number n) h f w = number_misplaced num front p n f h w.numbers
misplaced_by num nam front p (a_text bytes) h f w = other_token (λ x. let a = sym h ∙ x.1 in absurd cc) (λ x. let a = sym h ∙ x.1 in absurd cc)
misplaced_by num nam front p (a_mark m) h f w = other_token (λ x. let a = sym h ∙ x.1 in absurd cc) (λ x. let a = sym h ∙ x.1 in absurd cc)

-- a token that leads on, and one that is a fault whatever follows

abbrev pub Leads : ℕ → Bool → ℕ → ℕ → Reader → Piece → Type 0
Leads few num line e k p =
    HeardLaw line e → (front : List Piece) → NumbersWanted num front → ((ps : List Piece) → heard line e (front ++ p ∷ ps) ≡ k (p ∷ ps))
    → Traced few line e (front ++ p ∷ [])

abbrev pub Faults : Bool → Naming → ℕ → Reader → Piece → Type 0
Faults num nam line k p = (ps : List Piece) → k (p ∷ ps) ≡ here line p.col (kind_for num nam p.says)

pub record Node (few : ℕ) (num : Bool) (nam : Naming) (line e : ℕ) (k : Reader) : Type 0 where
  pub wants : Wants num nam k
  pub goes : Goes k
  pub stop : (k [] ≡ None) ⊎ (k [] ≡ here line e Syntax)
  pub each : (p : Piece) → Leads few num line e k p ⊎ Faults num nam line k p

pub no_half : (front : List Piece) → ((o : Piece) → IsMark 40 o → MayFollow front o → ⊥) → (h : Piece) → EndsInHalf front h → ⊥
no_half front w h x = let o = x.opens in w o.0 o.1 o.2

pub told : (line : ℕ) (front rest : List Piece) (at : ℕ) (kind : ParseKind) (f : ParseFault) → Continues front → Stops front rest
    → IsFaultBehind front rest at kind
    → ◌≡◌ {A = Option ParseFault} (Some f) (here line at kind) → Told line (front ++ rest) f
told line front rest at kind f c s b h =
    let same : record { line = line; col = at; kind = kind } ≡ f = sym (some_same h) in
    subst (Told line (front ++ rest)) same (record { front = front; rest = rest; tokens = refl; continues = c; stops = s; fault = b }, refl)

pub ended : (line e : ℕ) → HeardLaw line e → (front : List Piece) (k : Reader) (f : ParseFault) → Reads line e front k → Goes k
    → ((h : Piece) → EndsInHalf front h → ⊥) → EndsAt (front ++ []) e
    → (k [] ≡ None) ⊎ (k [] ≡ here line e Syntax) → heard line e (front ++ []) ≡ Some f → Told line (front ++ []) f
ended line e law front k f r g n a (inl s) h = let x : ◌≡◌ {A = Option ParseFault} None (Some f) = sym s ∙ sym (r []) ∙ h in absurd cc
ended line e law front k f r g n a (inr s) h =
    let same : ◌≡◌ {A = Option ParseFault} (Some f) (here line e Syntax) = sym h ∙ r [] ∙ s in
    let not_said : IsOperation front → ⊥ = λ o. let x : ◌≡◌ {A = Option ParseFault} (Some f) None = sym h ∙ (law (front ++ [])).1 (subst (IsOperation) (sym (append-nil front)) o) in absurd cc in
    told line front [] (a.1.col + length a.1.text) Syntax f (continues line e law front k r g) not_said (line_ends a.0 a.1 n (sym (append-nil front) ∙ a.2))
    (same ∙ ap (λ (c : ℕ). here line c Syntax) (sym a.3))

pub moved : (few : ℕ) (line e : ℕ) (front : List Piece) (p : Piece) (ps : List Piece) (f : ParseFault) → Traced few line e (front ++ p ∷ [])
    → length (p ∷ ps) < suc few → EndsAt (front ++ p ∷ ps) e
    → heard line e (front ++ p ∷ ps) ≡ Some f → Told line (front ++ p ∷ ps) f
moved few line e front p ps f t l a h =
    let w : (front ++ p ∷ []) ++ ps ≡ front ++ p ∷ ps = append_assoc front (p ∷ []) ps in
    subst (λ (qs : List Piece). Told line qs f) w (t ps f (omega (arith, l)) (subst (λ (qs : List Piece). EndsAt qs e) (sym w) a) (ap (heard line e) w ∙ h))

faulted : (num : Bool) (nam : Naming) (line e : ℕ) → HeardLaw line e → (front : List Piece) (k : Reader) (p : Piece) (ps : List Piece) (f : ParseFault)
    → Reads line e front k → Goes k → Fresh front → Wanted num nam front
    → Faults num nam line k p → heard line e (front ++ p ∷ ps) ≡ Some f → Told line (front ++ p ∷ ps) f
faulted num nam line e law front k p ps f r g u w x h =
    told line front (p ∷ ps) p.col (kind_for num nam p.says) f (continues line e law front k r g)
    (follows_not line e law front k p r (λ qs n. let y : ◌≡◌ {A = Option ParseFault} (here line p.col (kind_for num nam p.says)) None = sym (x qs) ∙ n in absurd cc))
    (misplaced (no_half front w.opening) (misplaced_by num nam front p p.says refl u w))
    (sym h ∙ r (p ∷ ps) ∙ x ps)

pub good_node : (few : ℕ) (num : Bool) (nam : Naming) (line e : ℕ) (k : Reader) → Node few num nam line e k → Good (suc few) line e k
good_node few num nam line e k n = (n.goes, traced)
  where
    traced : HeardLaw line e → (front : List Piece) → Fresh front → Reads line e front k → Traced (suc few) line e front
    traced law front u r [] f l a h = ended line e law front k f r n.goes (no_half front (wanted num nam line e law front k r n.wants).opening) a n.stop h
    traced law front u r (p ∷ ps) f l a h =
        let w = wanted num nam line e law front k r n.wants in
        elim (n.each p) [
          | inl t ↦ moved few line e front p ps f (t law front w.numbers (λ qs. r (p ∷ qs))) l a h
          | inr x ↦ faulted num nam line e law front k p ps f r n.goes u w x h
        ]

-- what holds of some tokens holds of fewer

pub fewer : (few : ℕ) (line e : ℕ) (k : Reader) → Good (suc few) line e k → Good few line e k
fewer few line e k g = (g.0, λ law front u r ps f l. g.1 law front u r ps f (omega (arith, l)))

pub good : (few : ℕ) (num : Bool) (nam : Naming) (line e : ℕ) (k : Reader) → Node few num nam line e k → Good few line e k
good few num nam line e k n = fewer few line e k (good_node few num nam line e k n)

-- the last of tokens

last_of : List Piece → Option Piece
last_of [] = None
last_of (p ∷ []) = Some p
last_of (p ∷ q ∷ ps) = last_of (q ∷ ps)

last_is : (front : List Piece) (p : Piece) → last_of (front ++ p ∷ []) ≡ Some p
unfolding last_of
last_is [] p = refl
last_is (q ∷ []) p = refl
last_is (q ∷ r ∷ front) p = last_is (r ∷ front) p

piece_same : {a b : Piece} → ◌≡◌ {A = Option Piece} (Some a) (Some b) → a ≡ b
piece_same h = cc

pub same_last : (front before : List Piece) (p q : Piece) → front ++ p ∷ [] ≡ before ++ q ∷ [] → p ≡ q
same_last front before p q h = piece_same (sym (last_is front p) ∙ ap last_of h ∙ last_is before q)

-- a token that is no - leaves the front fresh, and so does any token where no number is wanted

pub fresh_behind : (front : List Piece) (p : Piece) → (IsMark 45 p → ⊥) → Fresh (front ++ p ∷ [])
fresh_behind front p n m x = n (subst (IsMark 45) (sym (same_last front x.before p m x.tokens)) x.minus)

same_front : (front before : List Piece) (p q : Piece) → front ++ p ∷ [] ≡ before ++ q ∷ [] → front ≡ before
same_front [] [] p q h = refl
same_front [] (b ∷ []) p q h = absurd cc
same_front [] (b ∷ c ∷ before) p q h = absurd cc
same_front (a ∷ []) [] p q h = absurd cc
same_front (a ∷ c ∷ front) [] p q h = absurd cc
same_front (a ∷ front) (b ∷ before) p q h =
    let t : front ++ p ∷ [] ≡ before ++ q ∷ [] = cc in
    let i : a ≡ b = cc in
    ap (λ (x : Piece). x ∷ front) i ∙ ap (λ (xs : List Piece). b ∷ xs) (same_front front before p q t)

pub fresh_without : (front : List Piece) (p : Piece) → (NumberMayFollow front → ⊥) → Fresh (front ++ p ∷ [])
fresh_without front p n m x = n (subst (NumberMayFollow) (sym (same_front front x.before p m x.tokens)) x.number)

-- a token behind which a good reader reads on

pub leads : (few : ℕ) (num : Bool) (line e : ℕ) (k r : Reader) (p : Piece) → Good few line e r → ((ps : List Piece) → k (p ∷ ps) ≡ r ps)
    → (IsMark 45 p → ⊥) ⊎ (num ≡ false) → Leads few num line e k p
leads few num line e k r p g x s law front w h = g.1 law (front ++ p ∷ []) (fresh s) (λ ps. reads_on line e front k p h ps ∙ x ps)
  where
    none : (b : Bool) → b ≡ false → NumbersWanted b front → NumberMayFollow front → ⊥
    none true y z = absurd cc
    none false y z = z

    fresh : (IsMark 45 p → ⊥) ⊎ (num ≡ false) → Fresh (front ++ p ∷ [])
    fresh (inl n) = fresh_behind front p n
    fresh (inr n) = fresh_without front p (none num n w)

-- what is wanted, where the tokens that tell are read alike

pub goes_as : (k r : Reader) (p : Piece) → ((ps : List Piece) → k (p ∷ ps) ≡ r (p ∷ ps)) → Goes (λ ps. r (p ∷ ps)) → Goes (λ ps. k (p ∷ ps))
goes_as k r p x g = (g.0, x g.0 ∙ g.1)

pub refuses_as : (k r : Reader) (p : Piece) → ((ps : List Piece) → k (p ∷ ps) ≡ r (p ∷ ps)) → Refuses r p → Refuses k p
refuses_as k r p x f ps h = f ps (sym (x ps) ∙ h)

pub numbers_as : (num : Bool) (k r : Reader) → ((p : Piece) (n : ℕ) → IsNumber n p → (ps : List Piece) → k (p ∷ ps) ≡ r (p ∷ ps))
    → WantsNumbers num r → WantsNumbers num k
numbers_as true k r x h = (h.0, h.1, h.2, goes_as k r h.0 (x h.0 h.1 h.2) h.3)
numbers_as false k r x h = λ p n i. refuses_as k r p (x p n i) (h p n i)

pub names_as : (nam : Naming) (k r : Reader) → ((p : Piece) (name : List ℕ) → IsNamed name p → (ps : List Piece) → k (p ∷ ps) ≡ r (p ∷ ps))
    → WantsNames nam r → WantsNames nam k
names_as no_name k r x h = λ p name i. refuses_as k r p (x p name i) (h p name i)
names_as own_names k r x h =
    let a = h.0 in
    let b = h.1 in
    ((a.0, a.1, a.2, goes_as k r a.0 (x a.0 a.1 a.2) a.3), (b.0, b.1, b.2, refuses_as k r b.0 (x b.0 b.1 b.2.0) b.3))
names_as symbols k r x h = λ p name i. goes_as k r p (x p name i.0) (h p name i)

pub leads_as : (few : ℕ) (num : Bool) (line e : ℕ) (k r : Reader) (p : Piece) → ((ps : List Piece) → k (p ∷ ps) ≡ r (p ∷ ps)) → Leads few num line e r p
    → Leads few num line e k p
leads_as few num line e k r p x l law front w h = l law front w (λ ps. h ps ∙ x ps)

pub each_as : (few : ℕ) (num : Bool) (mine other : Naming) (line e : ℕ) (k r : Reader) (p : Piece) → ((ps : List Piece) → k (p ∷ ps) ≡ r (p ∷ ps))
    → kind_for num other p.says ≡ kind_for num mine p.says
    → Leads few num line e r p ⊎ Faults num other line r p → Leads few num line e k p ⊎ Faults num mine line k p
each_as few num mine other line e k r p x s (inl l) = inl (leads_as few num line e k r p x l)
each_as few num mine other line e k r p x s (inr f) = inr (λ ps. x ps ∙ f ps ∙ ap (here line p.col) s)

pub node_as : (few : ℕ) (num : Bool) (nam : Naming) (line e : ℕ) (k r : Reader) → ((ps : List Piece) → k ps ≡ r ps) → Node few num nam line e r
    → Node few num nam line e k
node_as few num nam line e k r x n = record {
  wants = record {
    numbers = numbers_as num k r (λ p m i ps. x (p ∷ ps)) n.wants.numbers;
    names = names_as nam k r (λ p name i ps. x (p ∷ ps)) n.wants.names;
    opening = λ o h. refuses_as k r o (λ ps. x (o ∷ ps)) (n.wants.opening o h);
  };
  goes = (n.goes.0, x n.goes.0 ∙ n.goes.1);
  stop = elim (n.stop) [ inl s ↦ inl (x [] ∙ s) | inr s ↦ inr (x [] ∙ s) ];
  each = λ p. each_as few num nam nam line e k r p (λ ps. x (p ∷ ps)) refl (n.each p);
}
