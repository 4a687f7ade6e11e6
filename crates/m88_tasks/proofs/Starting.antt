-- Programs that share a board before the first event.
use Rattle.std.specs.Prelude.{ℕ, zero, suc, Bool, true, false, not, List, [], ◌∷◌, ◌++◌, Option, Some, None, ◌≡◌, ◌≢◌, ◌<◌, ◌≤◌, ◌+◌, ◌-◌, ◌==◌, length, slice_get, unwrap_or}
use Rattle.std.proofs.Common.{ap, ap₂, arith, length-append, refl, subst, sym, ◌∙◌}
use Rattle.std.proofs.lemmas.Bool.{eqb-false, eqb-true}
use Rattle.std.proofs.lemmas.Option.{slice_get_within}
use Rattle.m88_base.specs.Image.{IsImage, ProgramImage}
use Rattle.m88_base.specs.declared.absent.Absent.{Absent}
use Rattle.m88_isa.proofs.Laws.{by_test, program_of_image}
use Rattle.m88_isa.specs.History.{transactions}
use Rattle.m88_isa.specs.ImageProgram.{IsProgramOf}
use Rattle.m88_isa.specs.Machine.{Program}
use Rattle.m88_codec.proofs.Laws.{program_in, program_in_holds, program_in_mxm}
use Rattle.m88_event.specs.Timeline.{Run, opening_moment, run_with}
use Rattle.m88_mem.specs.Marks.{absent_in}
use Rattle.m88_board.proofs.Laws.{here_first}
use Rattle.m88_board.specs.Board.{BoardView}
use Rattle.m88_board.specs.Contexts.{StandsFor}
use Rattle.m88_board.specs.Kept.{most_retired}
use Rattle.m88_board.specs.Moves.{IsAt}
use Rattle.m88_board.specs.declared.context.Context.{Context}
use Rattle.m88_tasks.proofs.Choosing.{none_below}
use Rattle.m88_tasks.proofs.Past.{past_first}
use Rattle.m88_tasks.proofs.Running.{at_last, in_front}
use Rattle.m88_tasks.specs.Shared.{Group, first_alive, opening_shared, over_at, own_run}
use Rattle.m88_tasks.specs.Tasks.{ArePrograms, AreSomePrograms, AreTasks, IsGroupOf, IsPlaceAt, IsTasksAt, ProgramsView, most_programs}
use Rattle.m88_tasks.specs.declared.shared.Switch.{Switch}
use Rattle.m88_event.specs.declared.letter.Letter.{Letter}

-- at first each program is over where the limit is 0, and none is where it isn't
over_first : (g : Group) (q : ℕ) → over_at g (λ n. opening_moment) q ≡ (0 == g.limit)
unfolding transactions
over_first g q = refl

-- so the first program runs
runs_first : (g : Group) (none : Bool) → (0 == g.limit) ≡ none → 1 ≤ g.count → (opening_shared g).current ≡ 0
runs_first g true e some =
    ap (λ (o : Option ℕ). unwrap_or o 0)
    (none_below 0 g.count (λ q. not (over_at g (λ n. opening_moment) q)) (λ k low high. ap not (over_first g k ∙ e)))
runs_first g false e some =
    ap (λ (o : Option ℕ). unwrap_or o 0)
    (let all : g.count - 0 ≡ g.count = omega arith in
    ap (λ (n : ℕ). first_alive g (λ q. opening_moment) 0 n) (sym all)
    ∙ here_first 0 g.count (λ q. not (over_at g (λ n. opening_moment) q)) some (ap not (over_first g 0 ∙ e)))

pub opening_current : (g : Group) → 1 ≤ g.count → (opening_shared g).current ≡ 0
opening_current g some = runs_first g (0 == g.limit) refl some

-- the place of a program before the first event
abbrev IsMade : List ProgramImage → Absent → ℕ → ℕ → Option Context → Type 0
IsMade images absent limit k None = k ≡ 0
IsMade images absent limit k (Some c) =
    (k ≢ 0)
    × ((image : ProgramImage) → slice_get images k ≡ Some image → (p : Program) (schedule : List Letter) → IsProgramOf image p → p.mxm ≡ false
    → StandsFor (run_with p (absent_in absent) limit schedule) opening_moment c)

-- the first so many places are made
pub record AreMade (images : List ProgramImage) (absent : Absent) (limit : ℕ) (contexts : List (Option Context)) (made : ℕ) : Type 0 where
  pub size : length contexts ≡ made
  pub places : (k : ℕ) (place : Option Context) → slice_get contexts k ≡ Some place → IsMade images absent limit k place
  pub each : (k : ℕ) (image : ProgramImage) → k < made → slice_get images k ≡ Some image → IsImage image

pub image_same : (a b : ProgramImage) → Some a ≡ Some b → a ≡ b
image_same a b e = cc

place_same : (a b : Option Context) → Some a ≡ Some b → a ≡ b
place_same a b e = cc

pub made_first : (images : List ProgramImage) (absent : Absent) (limit : ℕ) (image : ProgramImage) (contexts : List (Option Context)) →
    slice_get images 0 ≡ Some image → IsImage image → contexts ≡ None ∷ [] → AreMade images absent limit contexts 1
made_first images absent limit image contexts at is e = record {
  size = ap length e;
  places = λ k place h. first_place k place (ap (λ (xs : List (Option Context)). slice_get xs k) (sym e) ∙ h);
  each = λ k other low h.
      let zero : k ≡ 0 = omega (arith, low) in
      subst IsImage (image_same image other (sym at ∙ ap (slice_get images) (sym zero) ∙ h)) is;
}
  where
    first_place : (k : ℕ) (place : Option Context) → slice_get (None ∷ []) k ≡ Some place → IsMade images absent limit k place
    first_place zero place h = subst (IsMade images absent limit 0) (place_same None place h) refl
    first_place (suc k) place h = absurd cc

pub made_next : (images : List ProgramImage) (absent : Absent) (limit q : ℕ) (image : ProgramImage) (contexts more : List (Option Context)) (c : Context) →
    AreMade images absent limit contexts q → 1 ≤ q → slice_get images q ≡ Some image → IsImage image →
    ((p : Program) (schedule : List Letter) → IsProgramOf image p → p.mxm ≡ false
    → StandsFor (run_with p (absent_in absent) limit schedule) opening_moment c) →
    more ≡ contexts ++ (Some c ∷ []) → AreMade images absent limit more (q + 1)
made_next images absent limit q image contexts more c made some at is stands e =
    let size = made.size in
    let joined = length-append contexts (Some c ∷ []) in
    let long : length more ≡ length (contexts ++ (Some c ∷ [])) = ap length e in
    record {
      size = omega (arith, size, joined, long);
      places = λ k place h.
          let held : slice_get (contexts ++ (Some c ∷ [])) k ≡ Some place = ap (λ (xs : List (Option Context)). slice_get xs k) (sym e) ∙ h in
          let inside = slice_get_within (contexts ++ (Some c ∷ [])) k place held in
          by_test (k == q)
          (λ t.
          let here = eqb-true k q t in
          let last : length contexts ≡ k = size ∙ sym here in
          subst (IsMade images absent limit k)
          (place_same (Some c) place (sym (at_last contexts (Some c)) ∙ ap (slice_get (contexts ++ (Some c ∷ []))) last ∙ held)) (
            (λ zero. absurd (omega (arith, zero, here, some))),
            (λ other there p schedule of mode. stands p schedule (subst (λ (i : ProgramImage). IsProgramOf i p)
                (image_same other image (sym there ∙ ap (slice_get images) here ∙ at)) of) mode),
          ))
          (λ f.
          let apart = eqb-false k q f in
          let low : k < length contexts = omega (arith, inside, joined, size, apart) in
          made.places k place (sym (in_front contexts (Some c) k low) ∙ held));
      each = λ k other low h. by_test (k == q)
          (λ t. subst IsImage (image_same image other (sym at ∙ ap (slice_get images) (sym (eqb-true k q t)) ∙ h)) is)
          (λ f. let apart = eqb-false k q f in made.each k other (omega (arith, low, apart)) h);
    }

there : (images : List ProgramImage) (q : ℕ) → q < length images → (image : ProgramImage) × (slice_get images q ≡ Some image)
there [] q h = absurd (omega (arith, h))
there (image ∷ images) zero h = (image, refl)
there (image ∷ images) (suc q) h = there images q (omega (arith, h))

-- a board and these contexts stand at the opening moments of every group of programs that the images hold
pub starts : (images : List ProgramImage) (absent : Absent) (limit : ℕ) (b : BoardView) (contexts : List (Option Context)) (g : Group) →
    AreMade images absent limit contexts (length images) → 1 ≤ length images → length images ≤ most_programs → limit ≤ most_retired →
    ((image : ProgramImage) → slice_get images 0 ≡ Some image → (p : Program) (schedule : List Letter) → IsProgramOf image p → p.mxm ≡ false
    → IsAt (run_with p (absent_in absent) limit schedule) opening_moment b) →
    b.named ≡ absent → b.begun ≡ false → IsGroupOf images absent limit g →
    ArePrograms g (opening_shared g).moments (opening_shared g).current (record { board = b; contexts = contexts; current = 0 })
starts images absent limit b contexts g made some few small at named begun is =
    let count = is.count in
    let limits = is.limited in
    let first = opening_current g (omega (arith, some, count)) in
    let begins : ArePrograms g (λ q. opening_moment) 0 (record { board = b; contexts = contexts; current = 0 }) =
    record {
      count = made.size ∙ sym is.count;
      few = omega (arith, count, few);
      small = omega (arith, limits, small);
      programs = λ q inside.
          let image = there images q (omega (arith, inside, count)) in
          program_of_image image.0 (g.programs q) (made.each q image.0 (omega (arith, inside, count)) image.1) (is.programs q image.0 image.1);
      number = refl;
      here = omega (arith, some, count);
      board =
          let image = there images 0 (omega (arith, some)) in
          subst (λ (r : Run). IsAt r opening_moment b) (sym (own_is 0))
          (at image.0 image.1 (g.programs 0) [] (is.programs 0 image.0 image.1) (is.modes 0 (omega (arith, some, count))));
      named = is.absent_is ∙ ap absent_in (sym named);
      begun = begun;
      places = λ q place h.
          let size = made.size in
          let inside = slice_get_within contexts q place h in
          place_made q place (omega (arith, size, inside, count)) (made.places q place h);
    } in
    subst (λ (n : ℕ). ArePrograms g (λ q. opening_moment) n (record { board = b; contexts = contexts; current = 0 })) (sym first) begins
  where
    own_is : (q : ℕ) → own_run g q ≡ run_with (g.programs q) (absent_in absent) limit []
    own_is q = ap₂ (λ (pages : ℕ → Bool) (most : ℕ). run_with (g.programs q) pages most []) is.absent_is is.limited

    place_made : (q : ℕ) (place : Option Context) → q < g.count → IsMade images absent limit q place → IsPlaceAt g (λ n. opening_moment) 0 q place
    place_made q None inside place = place
    place_made q (Some c) inside place =
        let count = is.count in
        let image = there images q (omega (arith, inside, count)) in (
          place.0,
          subst (λ (r : Run). StandsFor r opening_moment c) (sym (own_is q))
              (place.1 image.0 image.1 (g.programs q) [] (is.programs q image.0 image.1) (is.modes q inside)),
        )

-- and so they do of some
abbrev AreImages : List ProgramImage → Type 0
AreImages [] = Unit {0}
AreImages (image ∷ images) = IsImage image × AreImages images

each_image : (images : List ProgramImage) → ((k : ℕ) (image : ProgramImage) → k < length images → slice_get images k ≡ Some image → IsImage image) → AreImages images
each_image [] h = tt
each_image (image ∷ images) h =
    (h 0 image (omega arith) refl, each_image images (λ k other low at. h (suc k) other (omega (arith, low)) at))

no_program : Program
no_program = record { mxm = false; start = 0; byte = λ a. None; instruction = λ a. None }

programs_of : (images : List ProgramImage) → AreImages images → ℕ → Program
programs_of [] is q = no_program
programs_of (image ∷ images) is zero = program_in false image is.0
programs_of (image ∷ images) is (suc q) = programs_of images is.1 q

programs_hold : (images : List ProgramImage) (is : AreImages images) (q : ℕ) (image : ProgramImage) → slice_get images q ≡ Some image →
    IsProgramOf image (programs_of images is q)
unfolding programs_of
programs_hold [] is q image h = absurd cc
programs_hold (first ∷ images) is zero image h =
    subst (λ (i : ProgramImage). IsProgramOf i (program_in false first is.0)) (image_same first image h) (program_in_holds false first is.0)
programs_hold (first ∷ images) is (suc q) image h = programs_hold images is.1 q image h

programs_mode : (images : List ProgramImage) (is : AreImages images) (q : ℕ) → (programs_of images is q).mxm ≡ false
unfolding programs_of no_program
programs_mode [] is q = refl
programs_mode (first ∷ images) is zero = program_in_mxm false first is.0
programs_mode (first ∷ images) is (suc q) = programs_mode images is.1 q

group_in : (images : List ProgramImage) → AreImages images → Absent → ℕ → Group
group_in images is absent limit = record {
  count = length images;
  programs = programs_of images is;
  absent = absent_in absent;
  limit = limit;
}

some_group : (images : List ProgramImage) (is : AreImages images) (absent : Absent) (limit : ℕ) → IsGroupOf images absent limit (group_in images is absent limit)
unfolding group_in
some_group images is absent limit = record {
  count = refl;
  programs = programs_hold images is;
  modes = λ q inside. programs_mode images is q;
  absent_is = refl;
  limited = refl;
}

pub a_group : (images : List ProgramImage) (absent : Absent) (limit : ℕ) (contexts : List (Option Context)) →
    AreMade images absent limit contexts (length images) → (g : Group) × IsGroupOf images absent limit g
a_group images absent limit contexts made =
    let is = each_image images made.each in
    (group_in images is absent limit, some_group images is absent limit)

pub some_start : (images : List ProgramImage) (absent : Absent) (limit : ℕ) (b : BoardView) (contexts : List (Option Context)) →
    AreMade images absent limit contexts (length images) → 1 ≤ length images → length images ≤ most_programs → limit ≤ most_retired →
    ((image : ProgramImage) → slice_get images 0 ≡ Some image → (p : Program) (schedule : List Letter) → IsProgramOf image p → p.mxm ≡ false
    → IsAt (run_with p (absent_in absent) limit schedule) opening_moment b) →
    b.named ≡ absent → b.begun ≡ false → AreSomePrograms (record { board = b; contexts = contexts; current = 0 })
some_start images absent limit b contexts made some few small at named begun =
    let g = a_group images absent limit contexts made in
    record {
      group = g.0;
      moments = (opening_shared g.0).moments;
      current = (opening_shared g.0).current;
      are = starts images absent limit b contexts g.0 made some few small at named begun g.1;
    }

-- the programs with no event and no switch so far
pub tasks_at : (g : Group) (v : ProgramsView) (switches : List Switch) → ArePrograms g (opening_shared g).moments (opening_shared g).current v →
    switches ≡ [] → IsTasksAt g (opening_shared g) (record { programs = v; events = 0; switches = switches })
tasks_at g v switches are none = record { programs = are; events = refl; switches = none; past = past_first g }

pub are_tasks : (g : Group) (v : ProgramsView) (switches : List Switch) → ArePrograms g (opening_shared g).moments (opening_shared g).current v →
    switches ≡ [] → AreTasks (record { programs = v; events = 0; switches = switches })
are_tasks g v switches are none = record {
  group = g;
  moment = opening_shared g;
  at = tasks_at g v switches are none;
  counted = omega arith;
}
