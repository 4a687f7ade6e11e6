-- What is written on a sheet.
use Rattle.std.specs.Prelude.{ℕ, zero, suc, Bool, true, false, List, [], ◌∷◌, ◌++◌, Some, IfSome, OnOk, Result, Ok, Err, ◌≡◌, ◌≢◌, ◌≤◌, ◌<◌, ◌+◌, ◌-◌, ◌%◌, ◌==◌, drop, length, slice_get, slice_index_or, take, Vec, is_ok, if◌then◌else◌}
use Rattle.std.specs.List.{remove}
use Rattle.std.proofs.Common.{arith, append_assoc, get_or, length-take-le, refl, sym, ap, ap₂, subst, ◌∙◌}
use Rattle.std.proofs.lemmas.List.{append-nil, drop-append-le, drop_all, length-append, length-drop, take-append-le, take_all, with_items_is}
use Rattle.std.specs.Global.{Global}
use Rattle.std.specs.Vec.{with_items}
use borrow.Rule.Slice.PartMut.{Post-is, post_of}
use Rattle.m88_base.specs.Hex.{hex8}
use Rattle.std.proofs.lemmas.Bool.{eqb-false, eqb-true}
use Rattle.std.proofs.lemmas.Bool.Decides.{nat_tests}
use Rattle.m88_isa.specs.Address.{word_address}
use Rattle.m88_isa.specs.Bus.{bus_after, bus_after_all, stored, with_word}
use Rattle.m88_isa.specs.Lanes.{merged}
use Rattle.m88_isa.specs.Memory.{IsWordAccess}
use Rattle.m88_isa.specs.declared.planned.Access.{Access}
use Rattle.m88_trace.specs.Inside.Sheets.{AreData, AllWordAccesses, HasFilled, HasFilledAll, HasRoomForAll, waiting_accesses, text_by, sheet_accesses, with_eight, sheet_text}
use Rattle.m88_trace.specs.Lines.{datum_by}
use Rattle.m88_trace.specs.declared.sheet.Data.{Data}
use Rattle.m88_trace.specs.declared.sheet.Sheet.{Sheet}
use Rattle.m88_trace.specs.declared.waiting.Waiting.{Waiting}

-- eight bytes in place of eight leave a text as long as it was
pub eight_length : (text : List ℕ) (k : ℕ) (eight : List ℕ) → k + 8 ≤ length text → length eight ≡ 8 →
    length (with_eight text k eight) ≡ length text
unfolding with_eight
eight_length text k eight room is =
    let all = length-append (take k text ++ eight) (drop (k + 8) text) in
    let first = length-append (take k text) eight in
    let before = length-take-le k text (omega (arith, room)) in
    let behind = length-drop (k + 8) text in
    omega (arith, all, first, before, behind, room, is)

-- and what is behind it stays
eight_more : (text more : List ℕ) (k : ℕ) (eight : List ℕ) → k + 8 ≤ length text →
    with_eight (text ++ more) k eight ≡ with_eight text k eight ++ more
unfolding with_eight
eight_more text more k eight room =
    ap₂ (λ (xs ys : List ℕ). xs ++ eight ++ ys) (take-append-le k text more (omega (arith, room)))
    (drop-append-le (k + 8) text more room)
    ∙ sym (append_assoc (take k text ++ eight) (drop (k + 8) text) more)

-- at the end of a text they stand behind it
eight_last : (text blank : List ℕ) (k : ℕ) (eight : List ℕ) → k ≡ length text → length blank ≡ 8 →
    with_eight (text ++ blank) k eight ≡ text ++ eight
unfolding with_eight
eight_last text blank k eight e is =
    let all = length-append text blank in
    ap₂ (λ (xs ys : List ℕ). xs ++ eight ++ ys)
    (take-append-le k text blank (omega (arith, e)) ∙ ap (λ (n : ℕ). take n text) e ∙ take_all (length text) text (omega arith))
    (drop_all (k + 8) (text ++ blank) (omega (arith, e, is, all)))
    ∙ append-nil (text ++ eight)

-- eight bytes are put in place of eight
put_eight : (xs text new eight : List ℕ) (k : ℕ) → xs ≡ text → new ≡ eight →
    take k xs ++ (new ++ post_of k (k + 8 - k) xs) ≡ with_eight text k eight
unfolding with_eight
put_eight xs text new eight k e f =
    ap₂ (λ (l m : List ℕ). take k l ++ (m ++ post_of k (k + 8 - k) l)) e f
    ∙ ap (λ (l : List ℕ). take k text ++ (eight ++ l)) (Post-is k (k + 8) text (omega arith))
    ∙ sym (append_assoc (take k text) eight (drop (k + 8) text))

pub items_put : (v : Vec ℕ Global) (xs new eight : List ℕ) (k : ℕ) → v.len ≡ length v.items → xs ≡ v.items →
    new ≡ eight →
    length eight ≡ 8 →
    k + 8 ≤ length v.items →
    (with_items v (take k xs ++ (new ++ post_of k (k + 8 - k) xs))).items ≡ with_eight v.items k eight
items_put v xs new eight k all e f is room =
    let put = put_eight xs v.items new eight k e f in
    let long = ap (λ (l : List ℕ). length l) put ∙ eight_length v.items k eight room is in
    with_items_is v _ (omega (arith, all, long)) ∙ put

-- the room for data is as large in a longer text
pub room_more : (n m : ℕ) (waiting : List Waiting) → n ≤ m → HasRoomForAll n waiting → HasRoomForAll m waiting
room_more n m [] le room = tt
room_more n m (w ∷ waiting) le room = (omega (arith, le, room.0), room_more n m waiting le room.1)

room_open : (n : ℕ) (waiting : List Waiting) (w : Waiting) → HasRoomForAll n waiting → w.at + 8 ≤ n →
    HasRoomForAll n (waiting ++ w ∷ [])
room_open n [] w room le = (le, tt)
room_open n (v ∷ waiting) w room le = (room.0, room_open n waiting w room.1 le)

-- of the others there is as much once the first is written
room_left : (text eight : List ℕ) (w : Waiting) (waiting : List Waiting) → length eight ≡ 8 →
    HasRoomForAll (length text) (w ∷ waiting) →
    HasRoomForAll (length (with_eight text w.at eight)) waiting
room_left text eight w waiting is room =
    subst (λ (n : ℕ). HasRoomForAll n waiting) (sym (eight_length text w.at eight room.0 is)) room.1

-- more is written behind a text
pub written_more : (text more : List ℕ) (waiting : List Waiting) (bus : ℕ → ℕ) → HasRoomForAll (length text) waiting →
    text_by (text ++ more) waiting bus ≡ text_by text waiting bus ++ more
unfolding text_by
written_more text more [] bus room = refl
written_more text more (w ∷ waiting) bus room =
    let eight = hex8 (datum_by w.access bus) in
    ap (λ (xs : List ℕ). text_by xs waiting (bus_after w.access bus)) (eight_more text more w.at eight room.0)
    ∙ written_more (with_eight text w.at eight) more waiting (bus_after w.access bus)
    (room_left text eight w waiting refl room)

-- an access waits, whose datum is to stand at the end
pub written_open : (text blank : List ℕ) (waiting : List Waiting) (w : Waiting) (bus : ℕ → ℕ) → length blank ≡ 8 →
    w.at ≡ length text →
    HasRoomForAll (length text) waiting →
    text_by (text ++ blank) (waiting ++ w ∷ []) bus
    ≡ text_by text waiting bus ++ hex8 (datum_by w.access (bus_after_all (waiting_accesses waiting) bus))
unfolding text_by bus_after_all
written_open text blank [] w bus is e room = eight_last text blank w.at (hex8 (datum_by w.access bus)) e is
written_open text blank (v ∷ waiting) w bus is e room =
    let eight = hex8 (datum_by v.access bus) in
    let left = room_left text eight v waiting refl room in
    ap (λ (xs : List ℕ). text_by xs (waiting ++ w ∷ []) (bus_after v.access bus)) (eight_more text blank v.at eight room.0)
    ∙ written_open (with_eight text v.at eight) blank waiting w (bus_after v.access bus) is
    (e ∙ sym (eight_length text v.at eight room.0 refl)) left

pub accesses_more : (waiting : List Waiting) (w : Waiting) → waiting_accesses (waiting ++ w ∷ []) ≡ waiting_accesses waiting
    ++ w.access ∷ []
accesses_more [] w = refl
accesses_more (v ∷ waiting) w = ap (λ (xs : List Access). v.access ∷ xs) (accesses_more waiting w)

-- where none waits, all is written
pub none_waits : (waiting : List Waiting) → waiting_accesses waiting ≡ [] → waiting ≡ []
none_waits [] e = refl
none_waits (w ∷ waiting) e = absurd cc

pub written_all : (text : List ℕ) (waiting : List Waiting) (bus : ℕ → ℕ) → waiting_accesses waiting ≡ [] →
    text ≡ text_by text waiting bus
unfolding text_by
written_all text waiting bus e = ap (λ (ws : List Waiting). text_by text ws bus) (sym (none_waits waiting e))

-- the datum of the oldest is written
pub written_first : (text : List ℕ) (w : Waiting) (waiting : List Waiting) (datum : ℕ) (values : List ℕ)
    (bus : ℕ → ℕ) →
    AreData (datum ∷ values) (waiting_accesses (w ∷ waiting)) bus →
    text_by (with_eight text w.at (hex8 datum)) waiting (bus_after w.access bus)
    ≡ text_by text (w ∷ waiting) bus
unfolding text_by
written_first text w waiting datum values bus are =
    ap (λ (d : ℕ). text_by (with_eight text w.at (hex8 d)) waiting (bus_after w.access bus)) are.0

-- what is left of some data
pub data_left : (datum : ℕ) (values : List ℕ) (accesses : List Access) (bus : ℕ → ℕ) →
    AreData (datum ∷ values) accesses bus →
    AreData values (drop 1 accesses) (bus_after_all (take 1 accesses) bus)
unfolding bus_after_all
data_left datum values [] bus are = tt
data_left datum values (a ∷ accesses) bus are = are.1

-- three data are those of three accesses at most, where each gets what those before it leave
abbrev pub IsDatum : ℕ → ℕ → List Access → (ℕ → ℕ) → Type 0
IsDatum index datum accesses bus =
    IfSome (slice_get accesses index) (λ a. datum ≡ datum_by a (bus_after_all (take index accesses) bus))

pub three_data : (a b c : ℕ) (accesses : List Access) (bus : ℕ → ℕ) → length accesses ≤ 3 → IsDatum 0 a accesses bus →
    IsDatum 1 b accesses bus →
    IsDatum 2 c accesses bus →
    AreData (a ∷ b ∷ c ∷ []) accesses bus
unfolding bus_after_all
three_data a b c [] bus few x y z = tt
three_data a b c (u ∷ []) bus few x y z = (x, tt)
three_data a b c (u ∷ v ∷ []) bus few x y z = (x, (y, tt))
three_data a b c (u ∷ v ∷ w ∷ []) bus few x y z = (x, (y, (z, tt)))
three_data a b c (u ∷ v ∷ w ∷ s ∷ rest) bus few x y z = absurd (omega arith)

-- nothing is written at first
pub written_blank : (text : List ℕ) (waiting : List Waiting) (bus : ℕ → ℕ) → text ≡ [] → waiting ≡ [] →
    text_by text waiting bus ≡ []
unfolding text_by
written_blank text waiting bus e f = rw (e, f) refl

-- more stands behind a text
pub more_by : (text new more : List ℕ) (waiting : List Waiting) (bus : ℕ → ℕ) → HasRoomForAll (length text) waiting →
    new ≡ text ++ more →
    text_by new waiting bus ≡ text_by text waiting bus ++ more
more_by text new more waiting bus room e = ap (λ (xs : List ℕ). text_by xs waiting bus) e
    ∙ written_more text more waiting bus room

-- and as much room is in it
pub room_by : (text new more : List ℕ) (waiting : List Waiting) → HasRoomForAll (length text) waiting → new ≡ text ++ more →
    HasRoomForAll (length new) waiting
room_by text new more waiting room e =
    let all = length-append text more in
    let same = ap (λ (xs : List ℕ). length xs) e in
    room_more (length text) (length new) waiting (omega (arith, all, same)) room

-- two parts, and three
pub two_parts : (w a b x : List ℕ) → x ≡ w ++ a ++ b → x ≡ w ++ (a ++ b)
two_parts w a b x e = e ∙ append_assoc w a b

pub three_parts : (w a b c x y : List ℕ) → x ≡ w ++ a ++ b → y ≡ x ++ c → y ≡ w ++ (a ++ b ++ c)
three_parts w a b c x y e f =
    f ∙ ap (λ (xs : List ℕ). xs ++ c) (two_parts w a b x e) ∙ append_assoc w (a ++ b) c

-- an access waits, which was written up to its datum
pub open_by : (text head blank new next : List ℕ) (waiting after : List Waiting) (w : Waiting) (bus : ℕ → ℕ) →
    HasRoomForAll (length text) waiting →
    after ≡ waiting ++ w ∷ [] →
    new ≡ text ++ head →
    w.at ≡ length new →
    next ≡ new ++ blank →
    length blank ≡ 8 →
    text_by next after bus
    ≡ text_by text waiting bus ++ (head ++ hex8 (datum_by w.access (bus_after_all (waiting_accesses waiting) bus)))
open_by text head blank new next waiting after w bus room e f g h is =
    ap₂ (λ (xs : List ℕ) (ws : List Waiting). text_by xs ws bus) h e
    ∙ written_open new blank waiting w bus is g (room_by text new head waiting room f)
    ∙ ap (λ (xs : List ℕ). xs ++ hex8 (datum_by w.access (bus_after_all (waiting_accesses waiting) bus)))
    (more_by text new head waiting bus room f)
    ∙ append_assoc (text_by text waiting bus) head
    (hex8 (datum_by w.access (bus_after_all (waiting_accesses waiting) bus)))

-- it begins eight bytes in front of the end
pub opened_long : (text head blank next : List ℕ) (len : ℕ) → next ≡ text ++ (head ++ blank) → length blank ≡ 8 →
    len ≡ length next →
    8 ≤ len
opened_long text head blank next len e is all =
    let both = length-append text (head ++ blank) in
    let last = length-append head blank in
    let same = ap (λ (xs : List ℕ). length xs) e in
    omega (arith, both, last, same, is, all)

pub opened_at : (text blank next : List ℕ) (len : ℕ) → next ≡ text ++ blank → length blank ≡ 8 → len ≡ length next →
    len - 8 ≡ length text
opened_at text blank next len e is all =
    let both = length-append text blank in
    let same = ap (λ (xs : List ℕ). length xs) e in
    omega (arith, both, same, is, all)

-- and its datum has room
pub room_by_open : (text head blank new next : List ℕ) (waiting after : List Waiting) (w : Waiting) →
    HasRoomForAll (length text) waiting →
    after ≡ waiting ++ w ∷ [] →
    new ≡ text ++ head →
    w.at ≡ length new →
    next ≡ new ++ blank →
    length blank ≡ 8 →
    HasRoomForAll (length next) after
room_by_open text head blank new next waiting after w room e f g h is =
    let all = length-append new blank in
    let same = ap (λ (xs : List ℕ). length xs) h in
    subst (λ (ws : List Waiting). HasRoomForAll (length next) ws) (sym e)
    (room_open (length next) waiting w
    (room_by new next blank waiting (room_by text new head waiting room f) h)
    (omega (arith, all, same, g, is)))

pub accesses_by : (waiting next : List Waiting) (w : Waiting) (a : Access) → next ≡ waiting ++ w ∷ [] → w.access ≡ a →
    waiting_accesses next ≡ waiting_accesses waiting ++ a ∷ []
accesses_by waiting next w a e f =
    ap waiting_accesses e ∙ accesses_more waiting w ∙ ap (λ (x : Access). waiting_accesses waiting ++ x ∷ []) f

-- accesses that can be made
pub made_more : (xs : List Access) (a : Access) → AllWordAccesses xs → IsWordAccess a → AllWordAccesses (xs ++ a ∷ [])
made_more [] a are is = (is, tt)
made_more (x ∷ xs) a are is = (are.0, made_more xs a are.1 is)

pub made_at : (xs : List Access) (k : ℕ) (a : Access) → AllWordAccesses xs → slice_get xs k ≡ Some a → IsWordAccess a
made_at [] k a are e = absurd cc
made_at (x ∷ xs) zero a are e = let same : x ≡ a = cc in subst (λ (y : Access). IsWordAccess y) same are.0
made_at (x ∷ xs) (suc k) a are e = made_at xs k a are.1 e

-- the first of those that wait
pub first_removed : (xs : List Waiting) (w : Waiting) → 0 < length xs → w ≡ slice_index_or xs 0 w → xs ≡ w ∷ remove xs 0
first_removed [] w some e = absurd (omega arith)
first_removed (x ∷ xs) w some e = ap (λ (y : Waiting). y ∷ xs) (sym e)

pub filled_by : (text next : List ℕ) (waiting left : List Waiting) (w : Waiting) (datum : ℕ) (values : List ℕ)
    (bus : ℕ → ℕ) →
    waiting ≡ w ∷ left →
    next ≡ with_eight text w.at (hex8 datum) →
    AreData (datum ∷ values) (waiting_accesses waiting) bus →
    text_by next left (bus_after_all (take 1 (waiting_accesses waiting)) bus) ≡ text_by text waiting bus
unfolding bus_after_all
filled_by text next waiting left w datum values bus e f are =
    let is = subst (λ (ws : List Waiting). AreData (datum ∷ values) (waiting_accesses ws) bus) e are in
    ap₂ (λ (xs : List ℕ) (ws : List Waiting). text_by xs left (bus_after_all (take 1 (waiting_accesses ws)) bus)) f e
    ∙ written_first text w left datum values bus is
    ∙ ap (λ (ws : List Waiting). text_by text ws bus) (sym e)

pub room_filled : (text next : List ℕ) (waiting left : List Waiting) (w : Waiting) (datum : ℕ) → waiting ≡ w ∷ left →
    next ≡ with_eight text w.at (hex8 datum) →
    HasRoomForAll (length text) waiting →
    HasRoomForAll (length next) left
room_filled text next waiting left w datum e f room =
    subst (λ (xs : List ℕ). HasRoomForAll (length xs) left) (sym f)
    (room_left text (hex8 datum) w left refl (subst (λ (ws : List Waiting). HasRoomForAll (length text) ws) e room))

-- the first has room
pub room_first : (n : ℕ) (waiting left : List Waiting) (w : Waiting) → waiting ≡ w ∷ left → HasRoomForAll n waiting →
    w.at + 8 ≤ n
room_first n waiting left w e room = (subst (λ (ws : List Waiting). HasRoomForAll n ws) e room).0

pub none_filled : (text : List ℕ) (waiting : List Waiting) (bus : ℕ → ℕ) → waiting ≡ [] →
    text_by text waiting (bus_after_all (take 1 (waiting_accesses waiting)) bus) ≡ text_by text waiting bus
unfolding bus_after_all
none_filled text waiting bus e = rw e refl

-- a word after an access
pub word_kept : (a : Access) (bus : ℕ → ℕ) (addr word : ℕ) → a.write ≡ false → word ≡ bus addr →
    word ≡ bus_after a bus addr
word_kept a bus addr word read is = rw read is

pub word_apart : (a : Access) (bus : ℕ → ℕ) (addr word : ℕ) → a.write ≡ true → addr % 4 ≡ 0 → a.addr ≢ addr →
    word ≡ bus addr →
    word ≡ bus_after a bus addr
unfolding stored with_word
word_apart a bus addr word write aligned other is =
    let own : word_address addr ≢ a.addr = (λ e. other (omega (arith, e, aligned))) in
    let test : (word_address addr == a.addr) ≡ false = grind (arith, nat_tests) in
    rw (write, test) is

pub word_stored : (a : Access) (bus : ℕ → ℕ) (addr word after : ℕ) → a.write ≡ true → addr % 4 ≡ 0 → a.addr ≡ addr →
    word ≡ bus addr →
    after ≡ merged a.en a.value word →
    after ≡ bus_after a bus addr
unfolding stored with_word
word_stored a bus addr word after write aligned same is gives =
    let own : word_address addr ≡ a.addr = omega (arith, same, aligned) in
    let test : (word_address addr == a.addr) ≡ true = grind (arith, nat_tests) in
    rw (write, test) (gives ∙ ap (merged a.en a.value) (is ∙ ap bus (sym same)))

-- one access more is made
pub word_next : (xs : List Access) (k : ℕ) (a : Access) (bus : ℕ → ℕ) → slice_get xs k ≡ Some a →
    bus_after_all (take (k + 1) xs) bus ≡ bus_after a (bus_after_all (take k xs) bus)
unfolding bus_after_all
word_next [] k a bus e = absurd cc
word_next (x ∷ xs) zero a bus e = ap (λ (y : Access). bus_after y bus) cc
word_next (x ∷ xs) (suc k) a bus e =
    let h : suc k + 1 ≡ suc (k + 1) = omega arith in
    rw h (word_next xs k a (bus_after x bus) e)

-- two parts are written behind a text
pub more_two : (text new next a b : List ℕ) (waiting : List Waiting) (bus : ℕ → ℕ) → HasRoomForAll (length text) waiting →
    new ≡ text ++ a →
    next ≡ new ++ b →
    text_by next waiting bus ≡ text_by text waiting bus ++ a ++ b
more_two text new next a b waiting bus room e f =
    more_by new next b waiting bus (room_by text new a waiting room e) f
    ∙ ap (λ (xs : List ℕ). xs ++ b) (more_by text new a waiting bus room e)

pub room_two : (text new next a b : List ℕ) (waiting : List Waiting) → HasRoomForAll (length text) waiting →
    new ≡ text ++ a →
    next ≡ new ++ b →
    HasRoomForAll (length next) waiting
room_two text new next a b waiting room e f = room_by new next b waiting (room_by text new a waiting room e) f

-- where none waits, it doesn't matter what memory has
pub whatever_words : (s : Sheet) (bus after : ℕ → ℕ) → sheet_accesses s ≡ [] → sheet_text s after ≡ sheet_text s bus
whatever_words s bus after e =
    sym (written_all s.text.items s.waiting.items after e)
    ∙ written_all s.text.items s.waiting.items bus e

none_left : (xs : List Access) → length xs ≤ 3 → drop 1 (drop 1 (drop 1 xs)) ≡ []
none_left (a ∷ b ∷ c ∷ d ∷ rest) few = absurd (omega arith)
none_left _ few = refl

-- one datum after the other is written
pub three_filled : (due : Data) (s t u v : Sheet) → HasFilled due.oldest s t → HasFilled due.second t u →
    HasFilled due.third u v → HasFilledAll due s v
three_filled due s t u v x y z =
    let left : length (sheet_accesses s) ≤ 3 → sheet_accesses v ≡ [] =
    λ few.
    z.waiting
    ∙ ap (λ (xs : List Access). drop 1 xs) (y.waiting ∙ ap (λ (xs : List Access). drop 1 xs) x.waiting)
    ∙ none_left (sheet_accesses s) few in
    record {
      text = λ bus after are few.
          let second : ℕ → ℕ = bus_after_all (take 1 (sheet_accesses s)) bus in
          let rest : AreData (due.second ∷ due.third ∷ []) (sheet_accesses t) second =
          subst (λ (xs : List Access). AreData (due.second ∷ due.third ∷ []) xs second) (sym x.waiting)
          (data_left due.oldest (due.second ∷ due.third ∷ []) (sheet_accesses s) bus are) in
          let third : ℕ → ℕ = bus_after_all (take 1 (sheet_accesses t)) second in
          let last : AreData (due.third ∷ []) (sheet_accesses u) third =
          subst (λ (xs : List Access). AreData (due.third ∷ []) xs third) (sym y.waiting)
          (data_left due.second (due.third ∷ []) (sheet_accesses t) second rest) in
          whatever_words v (bus_after_all (take 1 (sheet_accesses u)) third) after (left few)
          ∙ z.text third [] last
          ∙ y.text second (due.third ∷ []) rest
          ∙ x.text bus (due.second ∷ due.third ∷ []) are;
      waiting = left;
      made = z.made;
    }

-- what is said of answers that are there
pub ok_on : {T E A B : Type 0} (r : Result T E) → OnOk r A → (A → B) → OnOk r B
ok_on (Ok x) a h = h a
ok_on (Err e) a h = tt

pub ok_both : {T E A B C : Type 0} (r : Result T E) → OnOk r A → OnOk r B → (A → B → C) → OnOk r C
ok_both (Ok x) a b h = h a b
ok_both (Err e) a b h = tt

-- whether some wait
pub vec_empty : {A : Type 0} (len : ℕ) (xs : List A) (b : Bool) → b ≡ (len == 0) → b ≡ true → len ≡ length xs → xs ≡ []
vec_empty len [] b h t e = refl
vec_empty len (x ∷ xs) b h t e = absurd (let none = eqb-true len 0 (sym h ∙ t) in omega (arith, none, e))

pub vec_some : {A : Type 0} (len : ℕ) (xs : List A) (b : Bool) → b ≡ (len == 0) → b ≡ false → len ≡ length xs →
    0 < length xs
vec_some len xs b h f e = let some = eqb-false len 0 (sym h ∙ f) in omega (arith, some, e)

pub made_left : (waiting left : List Waiting) (w : Waiting) → waiting ≡ w ∷ left → AllWordAccesses (waiting_accesses waiting) →
    AllWordAccesses (waiting_accesses left)
made_left waiting left w e are = (subst (λ (ws : List Waiting). AllWordAccesses (waiting_accesses ws)) e are).1

-- one of those that wait, by its number
pub index_at : (ws : List Waiting) (k : ℕ) (w : Waiting) → k < length ws → w ≡ get_or ws k w →
    slice_get (waiting_accesses ws) k ≡ Some w.access
index_at [] k w below e = absurd (omega arith)
index_at (x ∷ ws) zero w below e = ap (λ (v : Waiting). Some v.access) (sym e)
index_at (x ∷ ws) (suc k) w below e = index_at ws k w (omega (arith, below)) e

-- and among the first so many
first_at : (ws : List Waiting) (count k : ℕ) (w : Waiting) → k < count → count ≤ length ws →
    w ≡ get_or (take count ws) k w →
    slice_get (waiting_accesses ws) k ≡ Some w.access
first_at [] count k w below within e = absurd (omega arith)
first_at (x ∷ ws) zero k w below within e = absurd (omega arith)
first_at (x ∷ ws) (suc count) zero w below within e = ap (λ (v : Waiting). Some v.access) (sym e)
first_at (x ∷ ws) (suc count) (suc k) w below within e =
    first_at ws count k w (omega (arith, below)) (omega (arith, within)) e

pub item_at : (ws shown : List Waiting) (count k : ℕ) (w : Waiting) → shown ≡ ws → k < length (take count shown) →
    count ≤ length ws →
    w ≡ get_or (take count shown) k w →
    slice_get (waiting_accesses ws) k ≡ Some w.access
item_at ws shown count k w same below within e =
    let inside : k < length (take count ws) = subst (λ (xs : List Waiting). k < length (take count xs)) same below in
    first_at ws count k w (omega (arith, inside, length-take-le count ws within)) within
    (subst (λ (xs : List Waiting). w ≡ get_or (take count xs) k w) same e)

-- what an append leaves where it went well
pub ok_items : {T E : Type 0} (r : Result T E) (new more old : List ℕ) → new ≡ (if is_ok r then more else old) →
    OnOk r (new ≡ more)
ok_items (Ok x) new more old e = e
ok_items (Err x) new more old e = tt
