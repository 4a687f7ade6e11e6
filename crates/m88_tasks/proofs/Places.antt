-- The programs of a board: who is over, who changes places, and who moves.
use Rattle.std.specs.Prelude.{ℕ, zero, suc, Bool, true, false, List, [], ◌∷◌, Option, Some, None, ◌≡◌, ◌≢◌, ◌<◌, ◌==◌, ◌||◌, is_some, length, slice_get, slice_index_or, slice_set, if◌then◌else◌}
use Rattle.std.proofs.Common.{arith, refl, sym, ap, subst, ◌∙◌}
use Rattle.std.proofs.lemmas.Bool.Decides.{nat_tests}
use Rattle.std.proofs.lemmas.Bool.{eqb-false, eqb-true}
use Rattle.std.proofs.lemmas.List.{length-set}
use Rattle.std.proofs.lemmas.Option.{slice_get_read}
use Rattle.m88_isa.proofs.Laws.{by_test}
use Rattle.m88_isa.specs.History.{transaction_count}
use Rattle.m88_event.specs.Timeline.{Moment, Run, after_letter, is_over}
use Rattle.m88_event.specs.declared.letter.Letter.{Letter}
use Rattle.m88_mem.specs.Marks.{absent_in}
use Rattle.m88_board.specs.Board.{BoardView}
use Rattle.m88_board.specs.Contexts.{IsRunOf, StandsFor, StandsForSome}
use Rattle.m88_board.specs.Moves.{IsAt, IsSameRun}
use Rattle.m88_board.specs.declared.context.Context.{Context}
use Rattle.m88_tasks.specs.Shared.{Group, moments_then, over_at, own_run}
use Rattle.m88_tasks.specs.Tasks.{ArePrograms, AreSomePrograms, IsPlaceAt, ProgramsView}

same_is : (n : ℕ) → (n == n) ≡ true
same_is n = grind (arith, nat_tests)

apart_is : (a b : ℕ) → a ≢ b → (a == b) ≡ false
apart_is a b h = grind (arith, nat_tests)

some_if : {A : Type 0} (b : Bool) (x : A) → is_some (if b then Some x else None) ≡ b
some_if true x = refl
some_if false x = refl

-- the program of a context is over where it has ended or its limit is reached
pub context_over : (r : Run) (m : Moment) (c : Context) → StandsFor r m c →
    (is_some c.book.end || c.book.retired == c.book.limit) ≡ is_over r m
context_over r m c stands =
    let drained : (m.done == transaction_count r.program m.retired) ≡ true = rw stands.drained (same_is (transaction_count r.program m.retired)) in
    rw (drained, stands.book.ended, stands.book.retired, stands.limit) (ap (λ (b : Bool). b || m.retired == r.limit) (some_if m.ended _))

-- that of a place
pub place_over : (g : Group) (moments : ℕ → Moment) (current q : ℕ) (c : Context) (result : Bool) → IsPlaceAt g moments current q (Some c) →
    ((r : Run) (m : Moment) → StandsFor r m c → result ≡ is_over r m) → result ≡ over_at g moments q
place_over g moments current q c result place says = says (own_run g q) (moments q) place.1

pub board_over : (g : Group) (moments : ℕ → Moment) (current : ℕ) (v : ProgramsView) (q : ℕ) (result : Bool) → ArePrograms g moments current v →
    q ≡ current → ((r : Run) (m : Moment) → IsAt r m v.board → result ≡ is_over r m) →
    result ≡ over_at g moments q
board_over g moments current v q result are here says =
    says (own_run g current) (moments current) are.board ∙ ap (over_at g moments) (sym here)

-- what a place holds that was read
pub at_place : {X : Type 0} (xs : List X) (i : ℕ) (x y : X) → i < length xs → x ≡ slice_index_or xs i x → x ≡ y → slice_get xs i ≡ Some y
at_place xs i x y inside e same = slice_get_read xs (length xs) i x refl inside e ∙ ap Some same

-- what a place holds once a list is set at a place
set_here : {X : Type 0} (xs : List X) (i : ℕ) (x y : X) → slice_get (slice_set xs i x) i ≡ Some y → y ≡ x
set_here [] i x y h = absurd cc
set_here (z ∷ xs) zero x y h = cc
set_here (z ∷ xs) (suc i) x y h = set_here xs i x y h

pub set_there : {X : Type 0} (xs : List X) (i j : ℕ) (x : X) → j ≢ i → slice_get (slice_set xs i x) j ≡ slice_get xs j
set_there [] i j x h = refl
set_there (z ∷ xs) zero zero x h = absurd (h refl)
set_there (z ∷ xs) zero (suc j) x h = refl
set_there (z ∷ xs) (suc i) zero x h = refl
set_there (z ∷ xs) (suc i) (suc j) x h = set_there xs i j x (λ e. h (ap suc e))

-- the place of a program that neither ran nor runs
stays_put : (g : Group) (moments : ℕ → Moment) (current to q : ℕ) (place : Option Context) → q ≢ current → q ≢ to →
    IsPlaceAt g moments current q place → IsPlaceAt g moments to q place
stays_put g moments current to q None apart other place = absurd (apart place)
stays_put g moments current to q (Some c) apart other place = (other, place.1)

now_none : (g : Group) (moments : ℕ → Moment) (to : ℕ) (place : Option Context) → place ≡ None → IsPlaceAt g moments to to place
now_none g moments to place e = subst (IsPlaceAt g moments to to) (sym e) refl

-- the program that runs and that of another place change places
pub exchanged : (g : Group) (moments : ℕ → Moment) (current to : ℕ) (old : ProgramsView) (b : BoardView) (other kept : Context) →
    ArePrograms g moments current old → to ≢ old.current → slice_get old.contexts to ≡ Some (Some other) → to < length old.contexts →
    ((r : Run) (m : Moment) → StandsFor r m other → IsAt r m b) →
    ((r : Run) (m : Moment) → r.absent ≡ absent_in old.board.named → IsAt r m old.board → StandsFor r m kept) →
    IsRunOf other b → IsRunOf kept old.board → b.begun ≡ false →
    ArePrograms g moments to (record { board = b; contexts = slice_set (slice_set old.contexts to None) old.current (Some kept); current = to })
exchanged g moments current to old b other kept are apart at inside resumed suspended run other_run begun =
    let place = are.places to (Some other) at in
    let stands = place.1 in
    let size = are.count in
    let away : to ≢ current = λ e. apart (e ∙ sym are.number) in
    let cleared : List (Option Context) = slice_set old.contexts to None in
    record {
      count = length-set cleared old.current (Some kept) ∙ length-set old.contexts to None ∙ are.count;
      few = are.few;
      small = are.small;
      programs = are.programs;
      number = refl;
      here = omega (arith, inside, size);
      board = resumed (own_run g to) (moments to) stands;
      named = stands.names ∙ ap absent_in (sym run.named);
      begun = begun;
      places = λ q held h. by_test (q == current)
          (λ t.
          let same = eqb-true q current t in
          let here : slice_get (slice_set cleared old.current (Some kept)) old.current ≡ Some held =
          ap (slice_get (slice_set cleared old.current (Some kept))) (are.number ∙ sym same) ∙ h in
          let is = set_here cleared old.current (Some kept) held here in
          subst (IsPlaceAt g moments to q) (sym is) (
            (λ e. away (sym e ∙ same)),
            subst (λ (n : ℕ). StandsFor (own_run g n) (moments n) kept) (sym same)
                (suspended (own_run g current) (moments current) are.named are.board),
          ))
          (λ f.
          let gone = eqb-false q current f in
          let before : slice_get cleared q ≡ Some held =
          sym (set_there cleared old.current q (Some kept) (λ e. gone (e ∙ are.number))) ∙ h in
          by_test (q == to)
          (λ t.
          let same = eqb-true q to t in
          let is = set_here old.contexts to None held (ap (slice_get cleared) (sym same) ∙ before) in
          subst (λ (n : ℕ). IsPlaceAt g moments to n held) (sym same) (now_none g moments to held is))
          (λ d.
          let there = eqb-false q to d in
          stays_put g moments current to q held gone there
          (are.places q held (sym (set_there old.contexts to q None there) ∙ before))));
    }

-- a place that isn't the one that runs holds a context, which stands for a moment
pub place_some : (g : Group) (moments : ℕ → Moment) (current : ℕ) (v : ProgramsView) (to : ℕ) → ArePrograms g moments current v →
    to ≢ v.current → slice_get v.contexts to ≡ Some None → ⊥
place_some g moments current v to are apart h = apart (are.places to None h ∙ sym are.number)

pub place_stands : (v : ProgramsView) (to : ℕ) (c : Context) → AreSomePrograms v → slice_get v.contexts to ≡ Some (Some c) → StandsForSome c
place_stands v to c some h =
    let place = some.are.places to (Some c) h in
    (own_run some.group to, some.moments to, place.1)

-- the program that runs took a letter
place_moved : (g : Group) (letter : Letter) (moments : ℕ → Moment) (current q : ℕ) (place : Option Context) →
    IsPlaceAt g moments current q place → IsPlaceAt g (moments_then g letter moments current) current q place
place_moved g letter moments current q None place = place
place_moved g letter moments current q (Some c) place =
    (place.0, rw (apart_is q current place.0) place.1)

pub moved : (g : Group) (letter : Letter) (moments : ℕ → Moment) (current : ℕ) (old : ProgramsView) (b : BoardView) → ArePrograms g moments current old →
    ((r : Run) (m : Moment) → IsAt r m old.board → IsAt r (after_letter r letter m) b) →
    IsSameRun old.board b → ArePrograms g (moments_then g letter moments current) current (record old { board = b })
moved g letter moments current old b are timeline same = record {
  count = are.count;
  few = are.few;
  small = are.small;
  programs = are.programs;
  number = are.number;
  here = are.here;
  board = rw (same_is current) (timeline (own_run g current) (moments current) are.board);
  named = are.named ∙ ap absent_in (sym same.named);
  begun = same.begun ∙ are.begun;
  places = λ q place h. place_moved g letter moments current q place (are.places q place h);
}

-- the same where a place was taken
pub exchanged_by : (g : Group) (moments : ℕ → Moment) (current to : ℕ) (old : ProgramsView) (b : BoardView) (other kept : Context) (taken : Option Context) →
    taken ≡ None → ArePrograms g moments current old → to ≢ old.current → slice_get old.contexts to ≡ Some (Some other) → to < length old.contexts →
    ((r : Run) (m : Moment) → StandsFor r m other → IsAt r m b) →
    ((r : Run) (m : Moment) → r.absent ≡ absent_in old.board.named → IsAt r m old.board → StandsFor r m kept) →
    IsRunOf other b → IsRunOf kept old.board → b.begun ≡ false →
    ArePrograms g moments to (record { board = b; contexts = slice_set (slice_set old.contexts to taken) old.current (Some kept); current = to })
exchanged_by g moments current to old b other kept taken none are apart at inside resumed suspended run other_run begun =
    subst (λ (place : Option Context). ArePrograms g moments to
    (record { board = b; contexts = slice_set (slice_set old.contexts to place) old.current (Some kept); current = to })) (sym none)
    (exchanged g moments current to old b other kept are apart at inside resumed suspended run other_run begun)

-- what is taken of a place
pub taken_place : {X : Type 0} (xs : List X) (i : ℕ) (read taken x : X) → i < length xs → read ≡ slice_index_or xs i read → taken ≡ read → taken ≡ x →
    slice_get xs i ≡ Some x
taken_place xs i read taken x inside e same is = at_place xs i read x inside e (sym same ∙ is)
