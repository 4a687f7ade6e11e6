-- Bytes that are placed between runs, as a run of their own or joined to the runs that they touch.
use Rattle.std.proofs.Common.{◌≡◌, ℕ, ◌+◌, ◌<◌, ◌≤◌, List, [], ◌∷◌, ◌++◌, length, sym, arith, ◌∙◌, ap, append_assoc, length-append}
use Rattle.std.specs.Prelude.{None, Option, slice_get}
use Rattle.std.proofs.lemmas.List.Sums.{sum_by-append, sum_by-cons}
use Rattle.m88_base.specs.Found.{PutsBytes}
use Rattle.m88_base.specs.Placed.{Placed, byte_in, byte_among, count_among, AreApart}
use Rattle.m88_base.specs.Inside.Placing.{next_start, Places}
use Rattle.m88_base.proofs.Lookup.{option_or-none, option_or_assoc, byte_in_below, byte_in_above, byte_in_from, byte_in-join, byte_among-append}
use Rattle.m88_base.proofs.Apart.{next_start-append, apart_lower, apart_front, apart_back, apart_join, none_below, none_above}

-- a run tells nothing where it has no byte
passed_over : (front back : List Placed) (run : Placed) (a : ℕ) → byte_in run a ≡ None
    → byte_among (front ++ run ∷ back) a ≡ byte_among (front ++ back) a
passed_over front back run a e =
    byte_among-append front (run ∷ back) a ∙ rw e (sym (byte_among-append front back a))

pub puts_between : (front back : List Placed) (at : ℕ) (bytes : List ℕ) → AreApart 0 front → next_start 0 front ≤ at + 1 → AreApart (at + length bytes) back
    → PutsBytes (byte_among (front ++ back)) (byte_among (front ++ record { at = at; bytes = bytes } ∷ back)) at bytes
puts_between front back at bytes p q r = record {
  there = λ k h.
      byte_among-append front (record { at = at; bytes = bytes } ∷ back) (at + k)
      ∙ rw (none_above 0 front (at + k) p (omega arith), byte_in_from at bytes k, none_below (at + length bytes) back (at + k) r (omega arith))
      (option_or-none (slice_get bytes k));
  below = λ a h. passed_over front back (record { at = at; bytes = bytes }) a (byte_in_below (record { at = at; bytes = bytes }) a h);
  above = λ a h. passed_over front back (record { at = at; bytes = bytes }) a (byte_in_above (record { at = at; bytes = bytes }) a h);
}

-- two runs that touch are as good as one
pub joined : (front back : List Placed) (at next : ℕ) (xs ys : List ℕ) (a : ℕ) → at + length xs ≡ next
    → byte_among (front ++ record { at = at; bytes = xs ++ ys } ∷ back) a
    ≡ byte_among (front ++ record { at = at; bytes = xs } ∷ record { at = next; bytes = ys } ∷ back) a
joined front back at next xs ys a e =
    let one : Placed = record { at = at; bytes = xs } in
    let two : Placed = record { at = next; bytes = ys } in
    byte_among-append front (record { at = at; bytes = xs ++ ys } ∷ back) a
    ∙ rw (byte_in-join at xs ys next a e, option_or_assoc (byte_in one a) (byte_in two a) (byte_among back a))
    (sym (byte_among-append front (one ∷ two ∷ back) a))

puts_same : (old new newer : ℕ → Option ℕ) (at : ℕ) (bytes : List ℕ) → ((a : ℕ) → newer a ≡ new a) → PutsBytes old new at bytes → PutsBytes old newer at bytes
puts_same old new newer at bytes e h = record {
  there = λ k l. e (at + k) ∙ h.there k l;
  below = λ a l. e a ∙ h.below a l;
  above = λ a l. e a ∙ h.above a l;
}

count-between : (front back : List Placed) (run : Placed) → count_among (front ++ run ∷ back) ≡ count_among front + (length run.bytes + count_among back)
count-between front back run =
    sum_by-append (λ r. length r.bytes) front (run ∷ back) ∙ ap (λ n. count_among front + n) (sum_by-cons (λ r. length r.bytes) run back)

-- the bytes touch no run
pub places_alone : (front back : List Placed) (at : ℕ) (bytes : List ℕ) → AreApart 0 front → next_start 0 front ≤ at → 0 < length bytes
    → AreApart (at + length bytes + 1) back → Places (front ++ back) (front ++ record { at = at; bytes = bytes } ∷ back) at bytes
places_alone front back at bytes p q some r = record {
  puts = puts_between front back at bytes p (omega arith) (apart_lower _ _ back (omega arith) r);
  apart = apart_join 0 front _ p (q, some, r);
  count = omega (arith, count-between front back (record { at = at; bytes = bytes }), sum_by-append (λ (r : Placed). length r.bytes) front back);
}

-- the run after them begins where the bytes end
pub places_ahead : (front back : List Placed) (at next : ℕ) (bytes ys : List ℕ) → at + length bytes ≡ next → next_start 0 front ≤ at → 0 < length bytes
    → AreApart 0 (front ++ record { at = next; bytes = ys } ∷ back)
    → Places (front ++ record { at = next; bytes = ys } ∷ back) (front ++ record { at = at; bytes = bytes ++ ys } ∷ back) at bytes
places_ahead front back at next bytes ys e q some p =
    let run : Placed = record { at = next; bytes = ys } in
    let whole : Placed = record { at = at; bytes = bytes ++ ys } in
    let pf : AreApart 0 front = apart_front 0 front (run ∷ back) p in
    let pb = apart_back 0 front (run ∷ back) p in
    let size : length (bytes ++ ys) ≡ length bytes + length ys = length-append bytes ys in
    record {
      puts = puts_same _ _ _ at bytes (λ a. joined front back at next bytes ys a e)
          (puts_between front (run ∷ back) at bytes pf (omega arith) (omega arith, pb.1, pb.2));
      apart = apart_join 0 front (whole ∷ back) pf (q, omega arith, apart_lower _ _ back (omega arith) pb.2);
      count = omega (arith, count-between front back run, count-between front back whole);
    }

-- the run before them ends where the bytes begin
pub places_behind : (front back : List Placed) (at end : ℕ) (xs bytes : List ℕ) → at + length xs ≡ end
    → AreApart (end + length bytes + 1) back → AreApart 0 (front ++ record { at = at; bytes = xs } ∷ back)
    → Places (front ++ record { at = at; bytes = xs } ∷ back) (front ++ record { at = at; bytes = xs ++ bytes } ∷ back) end bytes
places_behind front back at end xs bytes e q p =
    let run : Placed = record { at = at; bytes = xs } in
    let new : Placed = record { at = end; bytes = bytes } in
    let whole : Placed = record { at = at; bytes = xs ++ bytes } in
    let pf : AreApart 0 front = apart_front 0 front (run ∷ back) p in
    let pb = apart_back 0 front (run ∷ back) p in
    let size : length (xs ++ bytes) ≡ length xs + length bytes = length-append xs bytes in
    let front_apart : AreApart 0 (front ++ run ∷ []) = apart_join 0 front (run ∷ []) pf (pb.0, pb.1, tt) in
    let reach : next_start 0 (front ++ run ∷ []) ≤ end + 1 = omega (arith, next_start-append 0 front (run ∷ [])) in
    let put = puts_between (front ++ run ∷ []) back end bytes front_apart reach (apart_lower _ _ back (omega arith) q) in
    record {
      puts = puts_same _ _ _ end bytes (λ a. joined front back at end xs bytes a e) (simp append_assoc at put);
      apart = apart_join 0 front (whole ∷ back) pf (pb.0, omega arith, apart_lower _ _ back (omega arith) q);
      count = omega (arith, count-between front back run, count-between front back whole);
    }

-- both
pub places_across : (front back : List Placed) (at end next : ℕ) (xs bytes ys : List ℕ) → at + length xs ≡ end → end + length bytes ≡ next
    → AreApart 0 (front ++ record { at = at; bytes = xs } ∷ record { at = next; bytes = ys } ∷ back)
    → Places (front ++ record { at = at; bytes = xs } ∷ record { at = next; bytes = ys } ∷ back)
    (front ++ record { at = at; bytes = xs ++ (bytes ++ ys) } ∷ back) end bytes
places_across front back at end next xs bytes ys e f p =
    let run : Placed = record { at = at; bytes = xs } in
    let new : Placed = record { at = end; bytes = bytes } in
    let after : Placed = record { at = next; bytes = ys } in
    let rest : Placed = record { at = end; bytes = bytes ++ ys } in
    let whole : Placed = record { at = at; bytes = xs ++ (bytes ++ ys) } in
    let pf : AreApart 0 front = apart_front 0 front (run ∷ after ∷ back) p in
    let pb = apart_back 0 front (run ∷ after ∷ back) p in
    let size : length (xs ++ (bytes ++ ys)) ≡ length xs + (length bytes + length ys) =
    omega (arith, length-append xs (bytes ++ ys), length-append bytes ys) in
    let front_apart : AreApart 0 (front ++ run ∷ []) = apart_join 0 front (run ∷ []) pf (pb.0, pb.1, tt) in
    let reach : next_start 0 (front ++ run ∷ []) ≤ end + 1 = omega (arith, next_start-append 0 front (run ∷ [])) in
    let put = puts_between (front ++ run ∷ []) (after ∷ back) end bytes front_apart reach (omega arith, pb.2.1, pb.2.2) in
    let one = λ (a : ℕ). joined front back at end xs (bytes ++ ys) a e in
    let two = λ (a : ℕ). joined (front ++ run ∷ []) back end next bytes ys a f in
    record {
      puts = puts_same _ _ _ end bytes (λ a. one a ∙ (simp append_assoc at (two a))) (simp append_assoc at put);
      apart = apart_join 0 front (whole ∷ back) pf (pb.0, omega arith, apart_lower _ _ back (omega arith) pb.2.2);
      count = omega (arith, count-between front (after ∷ back) run, sum_by-cons (λ (r : Placed). length r.bytes) after back, count-between front back whole);
    }
