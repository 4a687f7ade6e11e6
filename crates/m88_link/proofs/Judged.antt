-- What reading comes to: the objects whose text it is, or the first line that no objects' text continues.
use Rattle.std.proofs.Common.{◌≡◌, ℕ, suc, ◌+◌, ◌-◌, ◌≤◌, Bool, true, false, List, [], ◌∷◌, ◌++◌, length, map, take, drop, min, refl, sym, ap, ◌∙◌, subst, arith, inl, inr, append_assoc, length-take}
use Rattle.std.specs.Prelude.{◌⊎◌, Option, None, Some, Ok, Err, ◌&&◌, nat_le, flat_map, if◌then◌else◌}
use Rattle.std.specs.Option.{is_none}
use Rattle.std.specs.List.{AllByRecursion}
use Rattle.std.proofs.lemmas.Bool.{and_parts, le-leb, leb-true}
use Rattle.std.proofs.lemmas.Bool.Decides.{leb_tells}
use Rattle.std.proofs.lemmas.List.{append-nil, length-take-le, map-append, take-append-drop, take-take, take_all, take_at}
use Rattle.std.proofs.lemmas.Option.{option_and_then_some}
use Rattle.m88_link.specs.declared.object.Object.{Object}
use Rattle.m88_link.specs.declared.object_fault.ObjectFault.{ObjectFault}
use Rattle.m88_link.specs.declared.object_fault.ObjectFault.TheVariants.{Form}
use Rattle.m88_link.specs.Inside.Drafts.{BegunObject, Progress, at_rest, ended_step, is_nil, line_step, nothing_read, read_from, read_on, unended}
use Rattle.m88_link.specs.ObjectRead.{HasText, HaveText, IsContinued, IsFormLine, ended_lines}
use Rattle.m88_link.specs.ObjectText.{objects_text}
use Rattle.m88_base.specs.Cut.{split_at_byte}
use Rattle.m88_link.specs.Inside.Rows.{◌>>=◌}
use Rattle.m88_link.proofs.Completes.{continues}
use Rattle.m88_link.proofs.Forward.{objects_taken, rested, run}
use Rattle.m88_link.proofs.Goes.{line_went}
use Rattle.m88_link.proofs.Kept.{IsProgress, bare_nil, if_some, none_is}
use Rattle.m88_base.proofs.Laws.{cut_found}
use Rattle.m88_link.proofs.Lined.{joined_lines}
use Rattle.m88_link.proofs.LineTurns.{ended_is, first_read, none_read}
use Rattle.m88_link.proofs.Texts.{Lack, ended, joined, lines_of_objects, objects_joined, objects_lack}
use Rattle.m88_link.proofs.Written.{objects_rows, written}

-- lines with their LFs, one after the other
abbrev pub ended_run : Progress → List (List ℕ) → Option Progress
ended_run s [] = Some s
ended_run s (line ∷ lines) = ended_step s line >>= λ t. ended_run t lines

-- the same as the lines without them
run_of_rows : (s : Progress) (rows : List (List ℕ)) → Lack rows → ended_run s (map ended rows) ≡ run s rows
run_of_rows s [] h = refl
run_of_rows s (r ∷ rs) h =
    ap (λ o. o >>= λ t. ended_run t (map ended rs)) (ended_is s r h.0) ∙ by_step (line_step s r) (λ t. run_of_rows t rs h.1)
  where
    by_step : (o : Option Progress) → ((t : Progress) → ended_run t (map ended rs) ≡ run t rs)
        → (o >>= λ t. ended_run t (map ended rs)) ≡ (o >>= λ t. run t rs)
    by_step None ih = refl
    by_step (Some t) ih = ih t

-- the lines of objects come to these objects
pub run_of_objects : (os : List Object) → AllByRecursion HasText os → ended_run nothing_read (ended_lines (objects_text os)) ≡ Some (rested os)
run_of_objects os h =
    ap (ended_run nothing_read) (lines_of_objects os h) ∙ run_of_rows nothing_read (objects_rows os) (objects_lack os h) ∙ objects_taken [] os h

-- what a part of the lines comes to
front_run : (s t : Progress) (xs ys : List (List ℕ)) → ended_run s (xs ++ ys) ≡ Some t → (u : Progress) × (ended_run s xs ≡ Some u)
front_run s t [] ys e = (s, refl)
front_run s t (x ∷ xs) ys e =
    option_and_then_some _ (ended_step s x) t e (λ u e1 f1.
    let k = front_run u t xs ys f1 in
    (k.0, ap (λ o. o >>= λ t. ended_run t xs) e1 ∙ k.1))

pub taken_run : (t : Progress) (n : ℕ) (lines : List (List ℕ)) → ended_run nothing_read lines ≡ Some t
    → (u : Progress) × (ended_run nothing_read (take n lines) ≡ Some u)
taken_run t n lines e = front_run nothing_read t (take n lines) (drop n lines) (ap (ended_run nothing_read) (take-append-drop n lines) ∙ e)

-- lines that are taken are those that are written then
pub record Came (s t : Progress) (lines : List (List ℕ)) : Type 0 where
  pub kept : IsProgress t
  pub rows : List (List ℕ)
  pub lines_are : lines ≡ map ended rows
  pub written_is : written t ≡ written s ++ rows

unended_back : (line row : List ℕ) → unended line ≡ Some row → line ≡ ended row
unended_back line row e =
    option_and_then_some _ (split_at_byte 10 line) row e (λ p e1 f1.
    let k = if_some (is_nil p.1) p.0 row f1 in
    (cut_found 10 line p e1).text_is ∙ ap (λ l. p.0 ++ 10 ∷ l) (bare_nil p.1 k.0) ∙ ap ended k.1)

pub came : (s t : Progress) (lines : List (List ℕ)) → IsProgress s → ended_run s lines ≡ Some t → Came s t lines
came s t [] kept e =
    let same : s ≡ t = cc in
    subst (λ u. Came s u []) same (record { kept = kept; rows = []; lines_are = refl; written_is = sym (append-nil (written s)) })
came s t (line ∷ lines) kept e =
    option_and_then_some _ (ended_step s line) t e (λ u e1 f1.
    option_and_then_some (line_step s) (unended line) u e1 (λ row e2 f2.
    let w = line_went s u row kept f2 in
    let k = came u t lines w.kept f1 in
    record {
      kept = k.kept;
      rows = row ∷ k.rows;
      lines_are = ap (λ l. l ∷ lines) (unended_back line row e2) ∙ ap (λ l. ended row ∷ l) k.lines_are;
      written_is = k.written_is ∙ ap (λ l. l ++ k.rows) w.rows ∙ append_assoc (written s) (row ∷ []) k.rows;
    }))

nothing_kept : IsProgress nothing_read
nothing_kept = record { done = tt; draft = tt }

-- at the end there are one or more whole objects
rested_at : (n : ℕ) (t : Progress) (b : Bool) → (is_none t.draft && nat_le 1 (length t.done)) ≡ b → (os : List Object)
    → (if b then Ok t.done else Err (Form n)) ≡ Ok os → (t ≡ rested os) × (1 ≤ length os)
rested_at n t true e os h =
    let k = and_parts (is_none t.draft) (nat_le 1 (length t.done)) e in
    let same : t.done ≡ os = cc in
    let is : t ≡ rested t.done = ap (λ (o : Option BegunObject). let p : Progress = record { done = t.done; draft = o } in p) (none_is t.draft k.0) in
    let some : 1 ≤ length t.done = leb-true 1 (length t.done) k.1 in
    (is ∙ ap rested same, subst (λ l. 1 ≤ length l) same some)
rested_at n t false e os h = absurd cc

rest_is : (n : ℕ) (os : List Object) → 1 ≤ length os → at_rest n (rested os) ≡ Ok os
rest_is n os some = ap (λ (b : Bool). if b then Ok os else Err (Form n)) (le-leb 1 (length os) some)

-- reading that comes to objects
pub read_runs : (n : ℕ) (s : Progress) (lines : List (List ℕ)) (os : List Object) → read_from n s lines ≡ Ok os
    → (ended_run s lines ≡ Some (rested os)) × (1 ≤ length os)
read_runs n s [] os e =
    let k = rested_at n s (is_none s.draft && nat_le 1 (length s.done)) refl os (sym (none_read n s) ∙ e) in
    (ap Some k.0, k.1)
read_runs n s (line ∷ lines) os e =
    by_step (ended_step s line) refl (sym (first_read n s line lines (ended_step s line) refl) ∙ e) (λ t f. read_runs (n + 1) t lines os f)
  where
    by_step : (o : Option Progress) → ended_step s line ≡ o → read_on n o (λ t. read_from (n + 1) t lines) ≡ Ok os
        → ((t : Progress) → read_from (n + 1) t lines ≡ Ok os → (ended_run t lines ≡ Some (rested os)) × (1 ≤ length os))
        → (ended_run s (line ∷ lines) ≡ Some (rested os)) × (1 ≤ length os)
    by_step None step e ih = absurd cc
    by_step (Some t) step e ih =
        let k = ih t e in
        (ap (λ o. o >>= λ t. ended_run t lines) step ∙ k.0, k.1)

pub runs_read : (n : ℕ) (s : Progress) (lines : List (List ℕ)) (os : List Object) → 1 ≤ length os → ended_run s lines ≡ Some (rested os)
    → read_from n s lines ≡ Ok os
runs_read n s [] os some e =
    let same : s ≡ rested os = cc in
    none_read n s ∙ ap (at_rest n) same ∙ rest_is n os some
runs_read n s (line ∷ lines) os some e =
    option_and_then_some _ (ended_step s line) (rested os) e (λ t e1 f1.
    first_read n s line lines (Some t) e1 ∙ runs_read (n + 1) t lines os some f1)

-- reading that stops
pub record Stops (n : ℕ) (s : Progress) (lines : List (List ℕ)) (e : ObjectFault) : Type 0 where
  pub taken : ℕ
  pub so_far : Progress
  pub fault_is : e ≡ Form (n + taken)
  pub within : taken ≤ length lines
  pub runs : ended_run s (take taken lines) ≡ Some so_far
  pub stops : (ended_run s (take (suc taken) lines) ≡ None)
      ⊎ ((taken ≡ length lines) × ((os : List Object) → so_far ≡ rested os → 1 ≤ length os → ⊥))

stops_at_end : (n : ℕ) (s : Progress) (e : ObjectFault) → at_rest n s ≡ Err e → Stops n s [] e
stops_at_end n s e h = record {
  taken = 0;
  so_far = s;
  fault_is = told (is_none s.draft && nat_le 1 (length s.done)) h ∙ (let z : n ≡ n + 0 = omega arith in ap Form z);
  within = omega arith;
  runs = refl;
  stops = inr (refl, λ os is some. absurd (let k : Ok os ≡ Err e = sym (ap (at_rest n) is ∙ rest_is n os some) ∙ h in cc));
}
  where
    told : (b : Bool) → (if b then Ok s.done else Err (Form n)) ≡ Err e → e ≡ Form n
    told true h = absurd cc
    told false h = cc

pub read_stops : (n : ℕ) (s : Progress) (lines : List (List ℕ)) (e : ObjectFault) → read_from n s lines ≡ Err e → Stops n s lines e
read_stops n s [] e h = stops_at_end n s e (sym (none_read n s) ∙ h)
read_stops n s (line ∷ lines) e h =
    by_step (ended_step s line) refl (sym (first_read n s line lines (ended_step s line) refl) ∙ h) (λ t f. read_stops (n + 1) t lines e f)
  where
    by_step : (o : Option Progress) → ended_step s line ≡ o → read_on n o (λ t. read_from (n + 1) t lines) ≡ Err e
        → ((t : Progress) → read_from (n + 1) t lines ≡ Err e → Stops (n + 1) t lines e)
        → Stops n s (line ∷ lines) e
    by_step None step h ih = record {
      taken = 0;
      so_far = s;
      fault_is = let z : n ≡ n + 0 = omega arith in let same : Form n ≡ e = cc in sym same ∙ ap Form z;
      within = omega arith;
      runs = refl;
      stops = inl (ap (λ o. o >>= λ t. ended_run t (take 0 lines)) step);
    }
    by_step (Some t) step h ih =
        let k = ih t h in
        record {
          taken = suc k.taken;
          so_far = k.so_far;
          fault_is = k.fault_is ∙ (let z : n + 1 + k.taken ≡ n + suc k.taken = omega arith in ap Form z);
          within = let w = k.within in omega (arith, w);
          runs = ap (λ o. o >>= λ t. ended_run t (take k.taken lines)) step ∙ k.runs;
          stops = elim k.stops [
            | inl none ↦ inl (ap (λ o. o >>= λ t. ended_run t (take (suc k.taken) lines)) step ∙ none)
            | inr all ↦ inr (let a = all.0 in omega (arith, a), all.1)
          ];
        }

module _ (text : List ℕ) where
  abbrev lines : List (List ℕ)
  lines = ended_lines text

  -- what is read was written
  pub read_written : (os : List Object) → read_from 1 nothing_read (ended_lines text) ≡ Ok os → HaveText os × (text ≡ objects_text os)
  read_written os e =
      let k = read_runs 1 nothing_read (ended_lines text) os e in
      let c = came nothing_read (rested os) (ended_lines text) nothing_kept k.0 in
      let rows : c.rows ≡ objects_rows os = sym c.written_is ∙ append-nil (objects_rows os) in (
        record { some = k.1; each = c.kept.done },
        sym (joined_lines text) ∙ ap (λ l. flat_map (λ x. x) l) (c.lines_are ∙ ap (map ended) rows) ∙ each_joined (objects_rows os) ∙ sym (objects_joined os),
      )
    where
      each_joined : (rows : List (List ℕ)) → flat_map (λ (x : List ℕ). x) (map ended rows) ≡ joined rows
      each_joined [] = refl
      each_joined (r ∷ rs) = ap (λ l. ended r ++ l) (each_joined rs)

  -- what was written is read
  pub written_read : (os : List Object) → HaveText os → text ≡ objects_text os → read_from 1 nothing_read (ended_lines text) ≡ Ok os
  written_read os have e =
      runs_read 1 nothing_read (ended_lines text) os have.some (ap (λ t. ended_run nothing_read (ended_lines t)) e ∙ run_of_objects os have.each)

  -- the lines before the one at which reading stops begin a text of objects
  so_far_continued : (n : ℕ) (t : Progress) → n ≤ length (ended_lines text) → ended_run nothing_read (take n (ended_lines text)) ≡ Some t → IsContinued text n
  so_far_continued n t within e =
      let c = came nothing_read t (take n (ended_lines text)) nothing_kept e in
      let k = continues t c.kept in
      let size : length (map ended c.rows) ≡ n = sym (ap length c.lines_are) ∙ length-take-le n (ended_lines text) within in
      let all : ended_lines (objects_text k.objects) ≡ map ended c.rows ++ map ended k.more =
      lines_of_objects k.objects k.have.each ∙ ap (map ended) (k.is ∙ ap (λ l. l ++ k.more) c.written_is) ∙ map-append ended c.rows k.more in
      record {
        objects = k.objects;
        have = k.have;
        same = ap (take n) all ∙ take_at (map ended c.rows) (map ended k.more) n size ∙ sym c.lines_are;
      }

  -- no text of objects continues with the line at which reading stops
  not_continued : (e : ObjectFault) (k : Stops 1 nothing_read (ended_lines text) e) → IsContinued text (suc k.taken) → ⊥
  not_continued e k c =
      let run = run_of_objects c.objects c.have.each in
      elim k.stops [
        | inl none ↦
            let u = taken_run (rested c.objects) (suc k.taken) (ended_lines (objects_text c.objects)) run in
            let there : ended_run nothing_read (take (suc k.taken) (ended_lines text)) ≡ Some u.0 = sym (ap (ended_run nothing_read) c.same) ∙ u.1 in
            let clash : None ≡ Some u.0 = sym none ∙ there in
            absurd (let t : Progress = u.0 in none_some t clash)
        | inr all ↦
            let a = all.0 in
            let whole : take (suc k.taken) (ended_lines text) ≡ ended_lines text = take_all (suc k.taken) (ended_lines text) (omega (arith, a)) in
            let size : min (suc k.taken) (length (ended_lines (objects_text c.objects))) ≡ length (ended_lines text) =
            sym (length-take (suc k.taken) (ended_lines (objects_text c.objects))) ∙ ap length (c.same ∙ whole) in
            let theirs : take (suc k.taken) (ended_lines (objects_text c.objects)) ≡ ended_lines (objects_text c.objects) =
            take_all (suc k.taken) (ended_lines (objects_text c.objects)) (omega (arith, a, size)) in
            let same : ended_lines (objects_text c.objects) ≡ ended_lines text = sym theirs ∙ c.same ∙ whole in
            let here : take k.taken (ended_lines text) ≡ ended_lines text = take_all k.taken (ended_lines text) (omega (arith, a)) in
            let both_run : Some k.so_far ≡ Some (rested c.objects) = sym k.runs ∙ ap (ended_run nothing_read) (here ∙ sym same) ∙ run in
            let is : k.so_far ≡ rested c.objects = cc in
            all.1 c.objects is c.have.some
      ]
    where
      none_some : (t : Progress) → None ≡ Some t → ⊥
      none_some t e = cc

  -- reading stops at the first line that no text of objects continues
  pub read_refused : (e : ObjectFault) → read_from 1 nothing_read (ended_lines text) ≡ Err e → (n : ℕ) × (e ≡ Form n) × IsFormLine text n
  read_refused e h =
      let k = read_stops 1 nothing_read (ended_lines text) e h in
      let n_is : 1 + k.taken ≡ suc k.taken = omega arith in
      let before : suc k.taken - 1 ≡ k.taken = omega arith in (
        suc k.taken,
        k.fault_is ∙ ap Form n_is,
        record {
          before = subst (IsContinued text) (sym before) (so_far_continued k.taken k.so_far k.within k.runs);
          here = not_continued e k;
        },
      )

  -- a text whose first lines go on has fewer that go on
  fewer : (m n : ℕ) → m ≤ n → IsContinued text n → IsContinued text m
  fewer m n h c = record {
    objects = c.objects;
    have = c.have;
    same = sym (take-take m n (ended_lines (objects_text c.objects)) h) ∙ ap (take m) c.same ∙ take-take m n (ended_lines text) h;
  }

  -- there is one such line at most
  pub one_form_line : (m n : ℕ) → IsFormLine text m → IsFormLine text n → m ≡ n
  one_form_line m n h k = elim (leb_tells m n) [
    | inl low ↦ elim (leb_tells n m) [
      | inl high ↦ let a = low.1 in let b = high.1 in omega (arith, a, b)
      | inr above ↦ let a = above.1 in absurd (h.here (fewer m (n - 1) (omega (arith, a)) k.before))
    ]
    | inr below ↦ let a = below.1 in absurd (k.here (fewer n (m - 1) (omega (arith, a)) h.before))
  ]

  -- and none in a text of objects
  pub no_form_line : (n : ℕ) (os : List Object) → HaveText os → text ≡ objects_text os → IsFormLine text n → ⊥
  no_form_line n os have e h = h.here (record { objects = os; have = have; same = ap (λ t. take n (ended_lines t)) (sym e) })
