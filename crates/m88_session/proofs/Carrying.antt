-- Commands, one after the other.
use Rattle.std.specs.Prelude.{ℕ, true, List, [], ◌∷◌, ◌++◌, Option, ◌≡◌, ◌<◌, ◌≤◌, ◌+◌, cond, OnOk, Result, Ok, Err, count_by, drop, length}
use Rattle.std.proofs.Common.{add-one, append_assoc, arith, append-nil, refl, sym, ap, ap₂, ◌∙◌, subst, inl, inr, drop-cons, get_or}
use Rattle.std.proofs.lemmas.List.{drop_all}
use Rattle.std.proofs.lemmas.List.Sums.{sum_by-append}
use Rattle.m88_event.proofs.Laws.{one_first}
use Rattle.m88_event.specs.Timeline.{Moment, Run}
use Rattle.m88_board.proofs.Laws.{saw_none, saw_then}
use Rattle.m88_board.specs.Glances.{Saw}
use Rattle.m88_board.specs.Moves.{IsAt}
use Rattle.m88_board.specs.declared.glance.Glance.{Glance}
use Rattle.m88_session.proofs.MonitorWalks.{each_none}
use Rattle.m88_session.proofs.Unmade.{no_glance}
use Rattle.m88_session.specs.MonitorLines.{counts_text}
use Rattle.m88_session.specs.Script.{is_break, most_breaks}
use Rattle.m88_session.specs.Session.{IsSession, Session, after_command, glances_of, moments_of, stops_command, text_of_command}
use Rattle.m88_session.specs.Inside.Fronts.{IsSessionFront}
use Rattle.m88_session.specs.Inside.SessionKept.{Broke, Carried, Carries, StandsAt, Went}
use Rattle.m88_session.specs.declared.monitor.Monitor.{Monitor}
use Rattle.m88_session.specs.declared.script.MonitorCommand.{MonitorCommand}

-- a command that makes no event
saw_nothing : (c : Run) (s : Session) (command : MonitorCommand) (seen : Option (List Glance)) → Saw seen seen (glances_of c s command 0)
saw_nothing c s command seen =
    subst (λ glances. Saw seen seen glances) (sym (no_glance c.program (moments_of c s command))) (saw_none seen)

-- what is answered to such a command
pub carries_still : {T E : Type 0} (command : MonitorCommand) (seen : Option (List Glance)) (old new : Monitor) (text more : List ℕ)
    (r : Result T E) → length new.breakpoints.items ≡ length old.breakpoints.items + count_by is_break (command ∷ []) →
    ((c : Run) (s : Session) → stops_command c s command 0 ≡ true) →
    OnOk r ((c : Run) (s : Session) → StandsAt c s old
    → StandsAt c (after_command c s command 0) new × (more ≡ text ++ text_of_command c s command 0)) →
    Carries command seen seen old new text more r
carries_still command seen old new text more (Ok x) set none shown = record {
  set = set;
  ok = λ c s stands. record {
    went = record {
      events = 0;
      makes = record { here = none c s; first = each_none c s command };
      stands = (shown c s stands).0;
      saw = saw_nothing c s command seen;
    };
    text = (shown c s stands).1;
  };
  err = tt;
}
carries_still command seen old new text more (Err e) set none shown = record {
  set = tt;
  ok = tt;
  err = λ c s stands. record { events = 0; each = each_none c s command; saw = saw_nothing c s command seen };
}

-- to one that makes its events, and then writes the line of the counts
pub carries_counts : {T E : Type 0} (command : MonitorCommand) (before after : Option (List Glance)) (old new : Monitor)
    (text more : List ℕ) (r : Result T E) →
    length new.breakpoints.items ≡ length old.breakpoints.items + count_by is_break (command ∷ []) →
    ((c : Run) (s : Session) (k : ℕ) → text_of_command c s command k ≡ counts_text c.program (after_command c s command k).moment) →
    ((c : Run) (s : Session) → StandsAt c s old → Went c s command before after new) →
    OnOk r ((run : Run) (m : Moment) → IsAt run m new.walk.board.now → more ≡ text ++ counts_text run.program m) →
    Carries command before after old new text more r
carries_counts command before after old new text more (Ok x) set counts goes told = record {
  set = set;
  ok = λ c s stands.
      let went = goes c s stands in
      record {
        went = went;
        text = told c (after_command c s command went.events).moment went.stands.at
            ∙ ap (λ line. text ++ line) (sym (counts c s went.events));
      };
  err = tt;
}
carries_counts command before after old new text more (Err e) set counts goes told = record {
  set = tt;
  ok = tt;
  err = λ c s stands. let went = goes c s stands in record { events = went.events; each = went.makes.first; saw = went.saw };
}

-- and to one during which memory ran out
pub carries_none : {T E : Type 0} (command : MonitorCommand) (before after : Option (List Glance)) (old new : Monitor)
    (text more : List ℕ) (r : Result T E) → OnOk r ⊥ →
    ((c : Run) (s : Session) → StandsAt c s old → Broke c s command before after) → Carries command before after old new text more r
carries_none command before after old new text more (Ok x) none broke = absurd none
carries_none command before after old new text more (Err e) none broke = record { set = tt; ok = tt; err = broke }

-- so commands write one text, and show the same glances
abbrev pub HasOneSession : Run → List MonitorCommand → Session → Type 0
HasOneSession c commands s =
    (text other : List ℕ) (glances others : List Glance) → IsSession c commands s text glances
    → IsSession c commands s other others → (text ≡ other) × (glances ≡ others)

pub one_session : (c : Run) (commands : List MonitorCommand) (s : Session) → HasOneSession c commands s
one_session c [] s text other glances others x y = (x.0 ∙ sym y.0, x.1 ∙ sym y.1)
one_session c (command ∷ commands) s text other glances others x y =
    let same = one_first (stops_command c s command) x.events y.events x.makes y.makes in
    let rest = one_session c commands (after_command c s command x.events) x.rest y.rest x.others y.others x.is_rest
    (subst (λ n. IsSession c commands (after_command c s command n) y.rest y.others) (sym same) y.is_rest) in (
      x.text_is ∙ ap₂ (λ n t. text_of_command c s command n ++ t) same rest.0 ∙ sym y.text_is,
      x.glances_are ∙ ap₂ (λ n t. glances_of c s command n ++ t) same rest.1 ∙ sym y.glances_are,
    )

-- some commands are carried out, and where the others stand then
pub record IsCarrying (c : Run) (commands : List MonitorCommand) (start : Session) (i : ℕ)
    (before after : Option (List Glance)) (told : List ℕ) (monitor : Monitor) : Type 0 where
  pub session : Session
  pub glances : List Glance
  pub stands : StandsAt c session monitor
  pub saw : Saw before after glances
  pub whole : (rest : List ℕ) (others : List Glance) → IsSession c (drop i commands) session rest others
      → IsSession c commands start (told ++ rest) (glances ++ others)
  pub front : (others : List Glance) → IsSessionFront c (drop i commands) session others
      → IsSessionFront c commands start (glances ++ others)

pub carry_start : (c : Run) (commands : List MonitorCommand) (start : Session) (seen : Option (List Glance))
    (monitor : Monitor) → StandsAt c start monitor → IsCarrying c commands start 0 seen seen [] monitor
carry_start c commands start seen monitor stands = record {
  session = start;
  glances = [];
  stands = stands;
  saw = saw_none seen;
  whole = λ rest others is. is;
  front = λ others is. is;
}

-- the place of a command among them
here_is : (commands : List MonitorCommand) (i : ℕ) (d : MonitorCommand) → i < length commands →
    drop i commands ≡ get_or commands i d ∷ drop (i + 1) commands
here_is commands i d h = drop-cons commands i d h ∙ ap (λ n. get_or commands i d ∷ drop n commands) (sym (add-one i))

-- one more
pub carry_next : (c : Run) (commands : List MonitorCommand) (d : MonitorCommand) (start : Session) (i : ℕ)
    (before here after : Option (List Glance)) (old new : List ℕ) (monitor next : Monitor) → i < length commands →
    (carrying : IsCarrying c commands start i before here old monitor) →
    Carried c carrying.session (get_or commands i d) here after old new next →
    IsCarrying c commands start (i + 1) before after new next
carry_next c commands d start i before here after old new monitor next below carrying carried =
    let s : Session = carrying.session in
    let command : MonitorCommand = get_or commands i d in
    let n : ℕ = carried.went.events in
    let told : List ℕ = text_of_command c s command n in
    let shown : List Glance = glances_of c s command n in
    let left = sym (here_is commands i d below) in
    record {
      session = after_command c s command n;
      glances = carrying.glances ++ shown;
      stands = carried.went.stands;
      saw = saw_then before here after carrying.glances shown carrying.saw carried.went.saw;
      whole = λ rest others is.
          let both = carrying.whole (told ++ rest) (shown ++ others)
          (subst (λ xs. IsSession c xs s (told ++ rest) (shown ++ others)) left
          (record { events = n; makes = carried.went.makes; rest = rest; others = others; is_rest = is; text_is = refl; glances_are = refl })) in
          subst (λ t. IsSession c commands start t ((carrying.glances ++ shown) ++ others))
          (sym (append_assoc old told rest) ∙ ap (λ front. front ++ rest) (sym carried.text))
          (subst (λ g. IsSession c commands start (old ++ (told ++ rest)) g) (sym (append_assoc carrying.glances shown others)) both);
      front = λ others is.
          let both = carrying.front (shown ++ others)
          (subst (λ xs. IsSessionFront c xs s (shown ++ others)) left
          (inr (record { events = n; makes = carried.went.makes; others = others; is_rest = is; glances_are = refl }))) in
          subst (λ g. IsSessionFront c commands start g) (sym (append_assoc carrying.glances shown others)) both;
    }

-- there is room for the breakpoints of a command, and behind it for those of the others
breaks_here : (commands : List MonitorCommand) (d : MonitorCommand) (i : ℕ) → i < length commands →
    count_by is_break (drop i commands)
    ≡ count_by is_break (get_or commands i d ∷ []) + count_by is_break (drop (i + 1) commands)
breaks_here commands d i below =
    ap (count_by is_break) (here_is commands i d below)
    ∙ sum_by-append (λ c. cond (is_break c) 1 0) (get_or commands i d ∷ []) (drop (i + 1) commands)

pub room_here : (commands : List MonitorCommand) (d : MonitorCommand) (i set : ℕ) → i < length commands →
    set + count_by is_break (drop i commands) ≤ most_breaks →
    set + count_by is_break (get_or commands i d ∷ []) ≤ most_breaks
room_here commands d i set below room = omega (arith, room, breaks_here commands d i below)

pub room_next : (commands : List MonitorCommand) (d : MonitorCommand) (i set more : ℕ) → i < length commands →
    set + count_by is_break (drop i commands) ≤ most_breaks →
    more ≡ set + count_by is_break (get_or commands i d ∷ []) →
    more + count_by is_break (drop (i + 1) commands) ≤ most_breaks
room_next commands d i set more below room is = omega (arith, room, is, breaks_here commands d i below)

-- to the last
pub carry_end : (c : Run) (commands : List MonitorCommand) (start : Session) (i : ℕ)
    (before after : Option (List Glance)) (told : List ℕ) (monitor : Monitor) → length commands ≤ i →
    IsCarrying c commands start i before after told monitor →
    (glances : List Glance) × IsSession c commands start told glances × Saw before after glances
carry_end c commands start i before after told monitor past carrying =
    let none : drop i commands ≡ [] = drop_all i commands past in
    let whole = carrying.whole [] [] (subst (λ xs. IsSession c xs carrying.session [] []) (sym none) (refl, refl)) in (
      carrying.glances,
      subst (λ g. IsSession c commands start told g) (append-nil carrying.glances)
          (subst (λ t. IsSession c commands start t (carrying.glances ++ [])) (append-nil told) whole),
      carrying.saw,
    )

-- or to where memory ran out
pub carry_broke : (c : Run) (commands : List MonitorCommand) (d : MonitorCommand) (start : Session) (i : ℕ)
    (before here after : Option (List Glance)) (told : List ℕ) (monitor : Monitor) → i < length commands →
    (carrying : IsCarrying c commands start i before here told monitor) →
    Broke c carrying.session (get_or commands i d) here after →
    (glances : List Glance) × IsSessionFront c commands start glances × Saw before after glances
carry_broke c commands d start i before here after told monitor below carrying broke =
    let s : Session = carrying.session in
    let command : MonitorCommand = get_or commands i d in
    let shown : List Glance = glances_of c s command broke.events in (
      carrying.glances ++ shown,
      carrying.front shown (subst (λ xs. IsSessionFront c xs s shown) (sym (here_is commands i d below))
          (inl (record { events = broke.events; each = broke.each; glances_are = refl }))),
      saw_then before here after carrying.glances shown carrying.saw broke.saw,
    )
