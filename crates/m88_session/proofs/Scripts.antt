-- Lines are those of a script in one way, or one of them is the first by which they are none of a script's.
use Rattle.std.proofs.Common.{◌≡◌, ℕ, zero, suc, ◌≤◌, ◌<◌, ◌+◌, ◌-◌, List, [], ◌∷◌, ◌++◌, drop, length, length-append, take, inl, inr, refl, ap, sym, ◌∙◌, subst, arith}
use Rattle.std.specs.List.{count_by}
use Rattle.std.proofs.lemmas.List.{take-append-drop}
use Rattle.std.proofs.lemmas.List.Sums.{sum_by-append}
use Rattle.std.specs.Prelude.{Bool, true, false, not, ◌&&◌, ◌||◌, cond, nat_lt, ◌≢◌}
use Rattle.std.proofs.lemmas.Bool.{cases_order, lt-ltb, ltb-false, ltb-true}
use Rattle.m88_base.specs.Lines.{lines_of}
use Rattle.m88_base.proofs.Laws.{one_parting, parted_not_unparted}
use Rattle.m88_session.specs.Script.{AreScriptLines, HasNoScript, IsScriptOf, ScriptParts, StopsScript, WriteCommands, WritesCommand, is_break, most_breaks, most_commands, source_line, stopped, stopped_alone, unended}
use Rattle.m88_session.specs.Inside.ScriptWords.{has_room}
use Rattle.m88_session.specs.declared.script.MonitorCommand.{MonitorCommand}
use Rattle.m88_session.specs.declared.script.MonitorCommand.TheVariants.{Step, Break, Memory, Trace}
use Rattle.m88_session.proofs.ScriptLines.{same_command}

-- an empty line writes no command
empty_writes_none : (c : MonitorCommand) → WritesCommand c [] → ⊥
empty_writes_none (Step n) h = absurd (let e = h.line_is in cc)
empty_writes_none (Break address) h = absurd (let e = h.line_is in cc)
empty_writes_none (Memory address count) h = absurd (let e = h.line_is in cc)
empty_writes_none (Trace n) h = absurd (let e = h.line_is in cc)
empty_writes_none _ h = absurd cc

-- one line more, with its command or empty
alone : (line : List ℕ) (c : MonitorCommand) → WritesCommand c line → WriteCommands (line ∷ []) (c ∷ [])
alone [] c h = absurd (empty_writes_none c h)
alone (b ∷ bs) c h = (h, refl)

write_more : (lines : List (List ℕ)) (cs : List MonitorCommand) (line : List ℕ) (c : MonitorCommand) → WriteCommands lines cs → WritesCommand c line
    → WriteCommands (lines ++ line ∷ []) (cs ++ c ∷ [])
write_more [] cs line c h is = subst (λ xs. WriteCommands (line ∷ []) (xs ++ c ∷ [])) (sym h) (alone line c is)
write_more ([] ∷ lines) cs line c h is = write_more lines cs line c h is
write_more ((b ∷ bs) ∷ lines) [] line c h is = absurd h
write_more ((b ∷ bs) ∷ lines) (d ∷ cs) line c h is = (h.0, write_more lines cs line c h.1 is)

write_empty : (lines : List (List ℕ)) (cs : List MonitorCommand) → WriteCommands lines cs → WriteCommands (lines ++ [] ∷ []) cs
write_empty [] cs h = h
write_empty ([] ∷ lines) cs h = write_empty lines cs h
write_empty ((b ∷ bs) ∷ lines) [] h = absurd h
write_empty ((b ∷ bs) ∷ lines) (d ∷ cs) h = (h.0, write_empty lines cs h.1)

-- what the first lines and the later ones write
record Pieces (a b : List (List ℕ)) (es : List MonitorCommand) : Type 0 where
  first : List MonitorCommand
  later : List MonitorCommand
  all_are : es ≡ first ++ later
  by_first : WriteCommands a first
  by_later : WriteCommands b later

part : (a b : List (List ℕ)) (es : List MonitorCommand) → WriteCommands (a ++ b) es → Pieces a b es
part [] b es h = record { first = []; later = es; all_are = refl; by_first = refl; by_later = h }
part ([] ∷ a) b es h = let k = part a b es h in
    record { first = k.first; later = k.later; all_are = k.all_are; by_first = k.by_first; by_later = k.by_later }
part ((d ∷ ds) ∷ a) b [] h = absurd h
part ((d ∷ ds) ∷ a) b (c ∷ es) h = let k = part a b es h.1 in
    record { first = c ∷ k.first; later = k.later; all_are = ap (λ xs. c ∷ xs) k.all_are; by_first = (h.0, k.by_first); by_later = k.by_later }

-- lines write one list of commands
same_commands : (lines : List (List ℕ)) (cs ds : List MonitorCommand) → WriteCommands lines cs → WriteCommands lines ds → cs ≡ ds
same_commands [] cs ds h k = h ∙ sym k
same_commands ([] ∷ lines) cs ds h k = same_commands lines cs ds h k
same_commands ((b ∷ bs) ∷ lines) [] ds h k = absurd h
same_commands ((b ∷ bs) ∷ lines) (c ∷ cs) [] h k = absurd k
same_commands ((b ∷ bs) ∷ lines) (c ∷ cs) (d ∷ ds) h k =
    ap (λ x. x ∷ cs) (same_command c d (b ∷ bs) h.0 k.0) ∙ ap (λ xs. d ∷ xs) (same_commands lines cs ds h.1 k.1)

-- the commands of some lines are no more than those of more lines
abbrev count_of : List MonitorCommand → ℕ
count_of cs = count_by is_break cs

record FrontOf (a : List (List ℕ)) : Type 0 where
  commands : List MonitorCommand
  are_script : AreScriptLines a commands

front_of : (a b : List (List ℕ)) (es : List MonitorCommand) → AreScriptLines (a ++ b) es → FrontOf a
front_of a b es h =
    let k = part a b es h.write in
    let long : length es ≡ length k.first + length k.later = ap length k.all_are ∙ length-append k.first k.later in
    let breaks : count_by is_break es ≡ count_by is_break k.first + count_by is_break k.later =
    ap (count_by is_break) k.all_are ∙ sum_by-append (λ c. cond (is_break c) 1 0) k.first k.later in
    record {
      commands = k.first;
      are_script = record { write = k.by_first; few = omega (arith, h.few); few_breaks = omega (arith, h.few_breaks) };
    }

-- at first there are no lines
pub no_lines_yet : AreScriptLines [] []
no_lines_yet = record { write = refl; few = omega arith; few_breaks = omega arith }

-- one line more
pub one_command_more : (lines : List (List ℕ)) (cs : List MonitorCommand) (line : List ℕ) (c : MonitorCommand) → AreScriptLines lines cs → WritesCommand c line
    → length cs < most_commands → count_by is_break (cs ++ c ∷ []) ≤ most_breaks → AreScriptLines (lines ++ line ∷ []) (cs ++ c ∷ [])
one_command_more lines cs line c h is room breaks =
    let long : length (cs ++ c ∷ []) ≡ length cs + 1 = length-append cs (c ∷ []) in
    record { write = write_more lines cs line c h.write is; few = omega arith; few_breaks = breaks }

pub one_empty_more : (lines : List (List ℕ)) (cs : List MonitorCommand) → AreScriptLines lines cs → AreScriptLines (lines ++ [] ∷ []) cs
one_empty_more lines cs h = record { write = write_empty lines cs h.write; few = h.few; few_breaks = h.few_breaks }

-- a line that isn't empty and writes no command is none of a script's
no_writing : (line : List ℕ) (es : List MonitorCommand) → line ≢ [] → ((c : MonitorCommand) → WritesCommand c line → ⊥) → WriteCommands (line ∷ []) es → ⊥
no_writing [] es some none h = absurd (some refl)
no_writing (b ∷ bs) [] some none h = absurd h
no_writing (b ∷ bs) (c ∷ es) some none h = none c h.0

pub no_command : (lines : List (List ℕ)) (line : List ℕ) (es : List MonitorCommand) → line ≢ [] → ((c : MonitorCommand) → WritesCommand c line → ⊥)
    → AreScriptLines (lines ++ line ∷ []) es → ⊥
no_command lines line es some none h = let k = part lines (line ∷ []) es h.write in no_writing line k.later some none k.by_later

-- nor is a command for which there is no room
pub no_room : (lines : List (List ℕ)) (cs es : List MonitorCommand) (line : List ℕ) (c : MonitorCommand) → AreScriptLines lines cs → WritesCommand c line
    → (length cs < most_commands → count_by is_break (cs ++ c ∷ []) ≤ most_breaks → ⊥) → AreScriptLines (lines ++ line ∷ []) es → ⊥
no_room lines cs es line c h is full all =
    let same = same_commands (lines ++ line ∷ []) es (cs ++ c ∷ []) all.write (write_more lines cs line c h.write is) in
    let long : length es ≡ length cs + 1 = ap length same ∙ length-append cs (c ∷ []) in
    let breaks : count_by is_break es ≡ count_by is_break (cs ++ c ∷ []) = ap (count_by is_break) same in
    full (omega (arith, all.few)) (omega (arith, all.few_breaks))

-- lines have one line that stops them, or none
whole_front : (lines : List (List ℕ)) (n : ℕ) (cs : List MonitorCommand) → AreScriptLines lines cs → FrontOf (take n lines)
whole_front lines n cs h = front_of (take n lines) (drop n lines) cs (subst (λ ls. AreScriptLines ls cs) (sym (take-append-drop n lines)) h)

pub not_stopped : (lines : List (List ℕ)) (n : ℕ) (cs : List MonitorCommand) → AreScriptLines lines cs → StopsScript lines n → ⊥
not_stopped lines n cs h stops = let front = whole_front lines n cs h in stops.stops front.commands front.are_script

take_front : (m k : ℕ) (ls : List (List ℕ)) → m ≤ k → take m (take k ls) ≡ take m ls
take_front zero k ls h = refl
take_front (suc m) zero ls h = absurd (omega arith)
take_front (suc m) (suc k) [] h = refl
take_front (suc m) (suc k) (l ∷ ls) h = ap (λ ms. let all : List (List ℕ) = l ∷ ms in all) (take_front m k ls (omega arith))

later_stop : (lines : List (List ℕ)) (m n : ℕ) → StopsScript lines m → StopsScript lines n → m < n → ⊥
later_stop lines m n h k less =
    let front = whole_front (take (n - 1) lines) m k.commands k.are_script in
    h.stops front.commands (subst (λ ls. AreScriptLines ls front.commands) (take_front m (n - 1) lines (omega arith)) front.are_script)

pub one_line : (lines : List (List ℕ)) (m n : ℕ) → StopsScript lines m → StopsScript lines n → m ≡ n
one_line lines m n h k = elim (cases_order m n) [
  | inl same ↦ same
  | inr (inl less) ↦ absurd (later_stop lines m n h k less)
  | inr (inr more) ↦ absurd (later_stop lines n m k h more)
]

-- an input has one script, or none at one line
pub one_script : (input : List ℕ) (s t : ScriptParts) → IsScriptOf input s → IsScriptOf input t → s ≡ t
one_script input s t h k =
    let same = one_parting source_line input h.script s.lines s.source h.is_parted k.script t.lines t.source k.is_parted in
    let commands = same_commands (lines_of k.script) s.commands t.commands
    (subst (λ text. WriteCommands (lines_of text) s.commands) same.0 h.are_script.write) k.are_script.write in
    λ i. record { commands = commands i; lines = same.1 i; source = same.2 i }

pub not_both : (input : List ℕ) (s : ScriptParts) (n : ℕ) → IsScriptOf input s → HasNoScript input n → ⊥
not_both input s n h (stopped script i other parted stops) =
    let same = one_parting source_line input script i other parted h.script s.lines s.source h.is_parted in
    not_stopped (lines_of h.script) n s.commands h.are_script (subst (λ text. StopsScript (lines_of text) n) same.0 stops)
not_both input s n h (stopped_alone i unparted stops) =
    parted_not_unparted source_line input h.script s.lines s.source h.is_parted i unparted
not_both input s n h (unended i others unparted are e) =
    parted_not_unparted source_line input h.script s.lines s.source h.is_parted i unparted

pub one_stop : (input : List ℕ) (m n : ℕ) → HasNoScript input m → HasNoScript input n → m ≡ n
one_stop input m n (stopped a i s h stops) (stopped b j t k stop) =
    let same = one_parting source_line input a i s h b j t k in
    one_line (lines_of b) m n (subst (λ text. StopsScript (lines_of text) m) same.0 stops) stop
one_stop input m n (stopped a i s h stops) (stopped_alone j k stop) = absurd (parted_not_unparted source_line input a i s h j k)
one_stop input m n (stopped a i s h stops) (unended j cs k are e) = absurd (parted_not_unparted source_line input a i s h j k)
one_stop input m n (stopped_alone i h stops) (stopped b j t k stop) = absurd (parted_not_unparted source_line input b j t k i h)
one_stop input m n (stopped_alone i h stops) (stopped_alone j k stop) = one_line (lines_of input) m n stops stop
one_stop input m n (stopped_alone i h stops) (unended j cs k are e) = absurd (not_stopped (lines_of input) m cs are stops)
one_stop input m n (unended i cs h are e) (stopped b j t k stop) = absurd (parted_not_unparted source_line input b j t k i h)
one_stop input m n (unended i cs h are e) (stopped_alone j k stop) = absurd (not_stopped (lines_of input) n cs are stop)
one_stop input m n (unended i cs h are e) (unended j ds k too d) = e ∙ ap (λ l. l + 1) (h.number ∙ sym k.number) ∙ sym d

-- whether there is room, by the counts
room_by : (a b c : Bool) (n : ℕ) → (a && (not b || c)) ≡ true → (b ≡ true → c ≡ true → n + 1 ≤ most_breaks) → n ≤ most_breaks
    → (a ≡ true) × (n + cond b 1 0 ≤ most_breaks)
room_by true true true n e more few = (refl, more refl refl)
room_by true true false n e more few = absurd cc
room_by true false c n e more few = (refl, omega (arith, few))
room_by false b c n e more few = absurd cc

full_by : (a b c : Bool) (n : ℕ) → (a && (not b || c)) ≡ false → (c ≡ false → most_breaks ≤ n) → a ≡ true → n + cond b 1 0 ≤ most_breaks → ⊥
full_by true true true n e full is few = absurd cc
full_by true true false n e full is few = absurd (omega (arith, full refl, few))
full_by true false c n e full is few = absurd cc
full_by false b c n e full is few = absurd cc

-- a count with one command more
count_more : (cs : List MonitorCommand) (c : MonitorCommand) → count_by is_break (cs ++ c ∷ []) ≡ count_by is_break cs + cond (is_break c) 1 0
count_more cs c =
    let k : count_by is_break (cs ++ c ∷ []) ≡ count_by is_break cs + count_by is_break (c ∷ []) = sum_by-append (λ d. cond (is_break d) 1 0) cs (c ∷ []) in
    omega (arith, k)

pub one_more_fits : (lines : List (List ℕ)) (cs : List MonitorCommand) (line : List ℕ) (c : MonitorCommand) → has_room cs c ≡ true → WritesCommand c line
    → AreScriptLines lines cs → AreScriptLines (lines ++ line ∷ []) (cs ++ c ∷ [])
one_more_fits lines cs line c e is h =
    let room = room_by (nat_lt (length cs) most_commands) (is_break c) (nat_lt (count_of cs) most_breaks) (count_of cs) e
    (λ is_one below. let k = ltb-true (count_of cs) most_breaks below in omega (arith, k)) h.few_breaks in
    let k = ltb-true (length cs) most_commands room.0 in
    one_command_more lines cs line c h is k (omega (arith, room.1, count_more cs c))

pub one_more_is_none : (lines : List (List ℕ)) (cs es : List MonitorCommand) (line : List ℕ) (c : MonitorCommand) → has_room cs c ≡ false → WritesCommand c line
    → AreScriptLines lines cs → AreScriptLines (lines ++ line ∷ []) es → ⊥
one_more_is_none lines cs es line c e is h =
    no_room lines cs es line c h is
    (λ short few. full_by (nat_lt (length cs) most_commands) (is_break c) (nat_lt (count_of cs) most_breaks) (count_of cs) e
    (λ full. ltb-false (count_of cs) most_breaks full) (lt-ltb (length cs) most_commands short) (omega (arith, few, count_more cs c)))
