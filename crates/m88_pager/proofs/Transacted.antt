-- The transactions that an event answers or finishes are the oldest pending ones, in order.
use Rattle.std.specs.Prelude.{ℕ, zero, suc, List, [], ◌∷◌, ◌++◌, All, ◌≡◌, ◌<◌, ◌≤◌, ◌+◌, ◌-◌, drop, length, map, slice_index_or, take}
use Rattle.std.proofs.Common.{arith, length-drop, length-take, refl, sym, ap, ap₂, subst, ◌∙◌}
use Rattle.std.proofs.lemmas.List.{get_or-take, take-append-le}
use Rattle.m88_base.specs.declared.triple.Triple.{Triple}
use Rattle.m88_event.proofs.Laws.{Fits, fits, more_transactions}
use Rattle.m88_event.specs.Choice.{Choice, choice_of, evicts, faults, finishes, holds, idles, issues, passes, replies, serves}
use Rattle.m88_event.specs.Situation.{record_of}
use Rattle.m88_event.specs.Timeline.{DoneWereMade, Moment, Run, after_choice, after_letter, situation_at}
use Rattle.m88_event.specs.declared.letter.Letter.{Letter}
use Rattle.m88_event.specs.declared.record.Record.{Record}
use Rattle.m88_isa.proofs.Laws.{told_of}
use Rattle.m88_isa.specs.History.{change_accesses, pending_at, transaction_count, transactions}
use Rattle.m88_isa.specs.Machine.{Program, changes, outputs}
use Rattle.m88_isa.specs.Memory.{IsWordAccess}
use Rattle.m88_isa.specs.Triples.{access_in, triples_of}
use Rattle.m88_isa.specs.declared.planned.Access.{Access}
use Rattle.m88_pager.specs.Inside.Seen.{IsWordTriple}

-- the transactions that are done
abbrev pub done_of : Program → Moment → List Access
done_of p m = take m.done (transactions p m.retired)

split_at : (d k : ℕ) (xs : List Access) → take (d + k) xs ≡ take d xs ++ take k (drop d xs)
split_at d k xs = by_place d xs ∙ refl
  where
    by_place : (d : ℕ) (xs : List Access) → take (d + k) xs ≡ take d xs ++ take k (drop d xs)
    by_place zero xs = let e : 0 + k ≡ k = omega arith in ap (λ (n : ℕ). take n xs) e
    by_place (suc d) [] = let e : suc d + k ≡ suc (d + k) = omega arith in ap (λ (n : ℕ). take n (the_none)) e ∙ nothing k
      where
        the_none : List Access
        the_none = []

        nothing : (n : ℕ) → [] ≡ take n the_none
        nothing zero = refl
        nothing (suc n) = refl
    by_place (suc d) (x ∷ xs) =
        let e : suc d + k ≡ suc (d + k) = omega arith in
        ap (λ (n : ℕ). take n (x ∷ xs)) e ∙ ap (λ (ys : List Access). x ∷ ys) (by_place d xs)

-- so many more of the same are done
more_done : (p : Program) (n done now : ℕ) → done ≤ now →
    take now (transactions p n) ≡ take done (transactions p n) ++ take (now - done) (pending_at p n done)
more_done p n done now h =
    let e : now ≡ done + (now - done) = omega (arith, h) in
    ap (λ (k : ℕ). take k (transactions p n)) e ∙ split_at done (now - done) (transactions p n)

none_done : (p : Program) (n done : ℕ) → take done (transactions p n) ≡ take done (transactions p n) ++ take (done - done) (pending_at p n done)
none_done p n done = more_done p n done done (omega arith)

-- none is done where an instruction is retired
turn_done : (p : Program) (n done : ℕ) (turn : List Access) → transactions p (n + 1) ≡ transactions p n ++ turn → done ≤ transaction_count p n →
    take done (transactions p (n + 1)) ≡ take done (transactions p n) ++ take (done - done) (pending_at p n done)
turn_done p n done turn more h =
    ap (take done) more ∙ take-append-le done (transactions p n) turn h ∙ none_done p n done

by_choice : (p : Program) (m : Moment) (choice : Choice) (fault : Record) → m.done ≤ transaction_count p m.retired → Fits p m choice →
    done_of p (after_choice (pending_at p m.retired m.done) choice fault m)
    ≡ done_of p m ++ take ((after_choice (pending_at p m.retired m.done) choice fault m).done - m.done) (pending_at p m.retired m.done)
by_choice p m (issues change) fault made fit =
    turn_done p m.retired m.done (change_accesses change) (more_transactions p m.retired (changes change) fit.0) made
by_choice p m (serves byte) fault made fit =
    turn_done p m.retired m.done [] (more_transactions p m.retired (outputs byte) fit.0) made
by_choice p m replies fault made fit = more_done p m.retired m.done (m.done + 1) (omega arith)
by_choice p m faults fault made fit =
    more_done p m.retired m.done (m.done + length (pending_at p m.retired m.done)) (omega arith)
by_choice p m _ fault made fit = none_done p m.retired m.done

pub done_ahead : (r : Run) (letter : Letter) (m : Moment) → DoneWereMade r.program m →
    done_of r.program (after_letter r letter m)
    ≡ done_of r.program m ++ take ((after_letter r letter m).done - m.done) (pending_at r.program m.retired m.done)
unfolding after_letter
done_ahead r letter m made =
    by_choice r.program m (choice_of r.program letter (situation_at r m)) (record_of r.program (situation_at r m)) made
    (fits r letter m)

-- no fewer are done after it, and no more than were made
done_by : (p : Program) (m : Moment) (choice : Choice) (fault : Record) → m.done ≤ transaction_count p m.retired →
    Fits p m choice →
    (m.done ≤ (after_choice (pending_at p m.retired m.done) choice fault m).done)
    × ((after_choice (pending_at p m.retired m.done) choice fault m).done ≤ transaction_count p m.retired)
done_by p m replies fault made fit = (omega arith, omega (arith, fit))
done_by p m faults fault made fit =
    let left = length-drop m.done (transactions p m.retired) in (omega arith, omega (arith, left, made))
done_by p m _ fault made fit = (omega arith, made)

pub done_after : (r : Run) (letter : Letter) (m : Moment) → DoneWereMade r.program m →
    (m.done ≤ (after_letter r letter m).done)
    × ((after_letter r letter m).done ≤ m.done + length (pending_at r.program m.retired m.done))
unfolding after_letter
done_after r letter m made =
    let now = situation_at r m in
    let done = done_by r.program m (choice_of r.program letter now) (record_of r.program now) made (fits r letter m) in
    let high = done.1 in
    let left = length-drop m.done (transactions r.program m.retired) in
    (done.0, omega (arith, high, left))

-- the words of pending transactions tell the first of them
first_word : (a : Access) (rest : List Access) → All IsWordAccess (a ∷ rest) → IsWordAccess a
first_word a rest all = all 0 a (omega arith)

rest_words : (a : Access) (rest : List Access) → All IsWordAccess (a ∷ rest) → All IsWordAccess rest
rest_words a rest all = λ k d h. all (suc k) d (omega (arith, h))

pub told_front : (count : ℕ) (pending : List Access) → count ≤ length pending → length pending ≤ 3 → All IsWordAccess pending →
    map access_in (take count (triples_of pending)) ≡ take count pending
told_front zero pending h few made = refl
told_front (suc zero) [] h few made = absurd (omega (arith, h))
told_front (suc zero) (a ∷ rest) h few made = ap (λ (x : Access). x ∷ []) (told_of a (first_word a rest made))
told_front (suc (suc zero)) [] h few made = absurd (omega (arith, h))
told_front (suc (suc zero)) (a ∷ []) h few made = absurd (omega (arith, h))
told_front (suc (suc zero)) (a ∷ b ∷ rest) h few made =
    let second = first_word b rest (rest_words a (b ∷ rest) made) in
    ap₂ (λ (x y : Access). x ∷ y ∷ []) (told_of a (first_word a (b ∷ rest) made)) (told_of b second)
told_front (suc (suc (suc zero))) [] h few made = absurd (omega (arith, h))
told_front (suc (suc (suc zero))) (a ∷ []) h few made = absurd (omega (arith, h))
told_front (suc (suc (suc zero))) (a ∷ b ∷ []) h few made = absurd (omega (arith, h))
told_front (suc (suc (suc zero))) (a ∷ b ∷ c ∷ rest) h few made =
    let first = told_of a (first_word a (b ∷ c ∷ rest) made) in
    let second = told_of b (first_word b (c ∷ rest) (rest_words a (b ∷ c ∷ rest) made)) in
    let third = told_of c (first_word c rest (rest_words b (c ∷ rest) (rest_words a (b ∷ c ∷ rest) made))) in
    λ i. first i ∷ second i ∷ third i ∷ []
told_front (suc (suc (suc (suc n)))) pending h few made = absurd (omega (arith, h, few))

-- and are those of accesses
mapped_at : (words : List Triple) (k : ℕ) (d : Triple) → k < length words →
    slice_index_or (map access_in words) k (access_in d) ≡ access_in (slice_index_or words k d)
mapped_at [] k d h = refl
mapped_at (w ∷ words) zero d h = refl
mapped_at (w ∷ words) (suc k) d h = mapped_at words k d (omega (arith, h))

mapped_length : (words : List Triple) → length (map access_in words) ≡ length words
mapped_length [] = refl
mapped_length (w ∷ words) = ap suc (mapped_length words)

pub made_front : (count : ℕ) (pending : List Access) → count ≤ length pending → length pending ≤ 3 → All IsWordAccess pending →
    All IsWordTriple (take count (triples_of pending))
made_front count pending h few made = λ k d l.
    let words : List Triple = take count (triples_of pending) in
    let told = told_front count pending h few made in
    let long : length words ≡ length (take count pending) = sym (mapped_length words) ∙ ap (λ (xs : List Access). length xs) told in
    let taken = length-take count pending in
    subst IsWordAccess (
    sym (get_or-take count pending k (access_in d) (omega (arith, l, long, taken)))
    ∙ sym (ap (λ (xs : List Access). slice_index_or xs k (access_in d)) told)
    ∙ mapped_at words k d l
    ) (made k (access_in d) (omega (arith, l, long, taken, h)))
