-- A set with one address more.
use Rattle.std.proofs.Common.{replicate, rules, List, get_or-set_other, get_or-set_same, length-set, ◌≡◌, ◌≢◌, ◌⊎◌, ◌∙◌, ℕ, zero, suc, ◌+◌, ◌*◌, length, slice_set, None, ◌/◌, ◌%◌, ◌<◌, ◌≤◌, ◌^◌, ◌==◌, ◌||◌, Bool, true, false, IsTrue, Some, ap, arith, bit_or, inl, inr, refl, nat_eq, sym, subst}
use Rattle.std.specs.Prelude.{◌↔◌, Option, cond, not, if◌then◌else◌, slice_index, unwrap_or}
use Rattle.std.specs.FinSet.{FinSet, contains, contains-empty, contains-insert, insert}
use Rattle.std.specs.Cmp.{nat_cmp_total, unsigned_tied}
use Rattle.std.specs.Int.{bit_at, w32}
use Rattle.std.specs.Ordering.{eq_by_cmp, nat_cmp}
use Rattle.std.proofs.lemmas.Bool.{cases_eq, cases_lt}
use Rattle.std.proofs.lemmas.Bool.Decides.{nat_tests}
use Rattle.std.proofs.lemmas.Nat.Bits.{bit_at_set_other, bit_at_set_same}
use Rattle.std.specs.Vec.{with_item}
use Rattle.indexmap.specs.IndexMap.{get}
use Rattle.m88_sourcing.specs.Inside.Words.{addresses, bits_in, is_set, near_place, passing_below, row_bits, word_row}
use Rattle.m88_sourcing.specs.declared.words.Words.TheInside.{Inside}

tied : (a n : ℕ) → eq_by_cmp nat_cmp a n ≡ nat_eq a n
tied a n = unsigned_tied a n

none_from : (n a : ℕ) (passes : ℕ → Bool) → n ≤ a → contains (passing_below n passes) a ≡ false
unfolding passing_below
none_from zero a passes from = contains-empty nat_cmp a
none_from (suc n) a passes from =
    let other : nat_eq a n ≡ false = grind (arith, nat_tests) in
    let below : contains (passing_below n passes) a ≡ false = none_from n a passes (omega (arith, from)) in
    by (passes n) other below
  where
    by : (b : Bool) → nat_eq a n ≡ false → contains (passing_below n passes) a ≡ false
        → contains (if b then insert (passing_below n passes) n else passing_below n passes) a ≡ false
    by true other below =
        contains-insert nat_cmp_total (passing_below n passes) n a
        ∙ ap (λ (t : Bool). t || contains (passing_below n passes) a) (tied a n ∙ other) ∙ below
    by false other below = below

passed : (n a : ℕ) (passes : ℕ → Bool) → a < n → contains (passing_below n passes) a ≡ passes a
unfolding passing_below
passed zero a passes low = absurd (omega (arith, low))
passed (suc n) a passes low = by (λ less. passed n a passes less) (passes n) refl (cases_eq a n)
  where
    by : (a < n → contains (passing_below n passes) a ≡ passes a) → (b : Bool) → passes n ≡ b → (a ≡ n) ⊎ (a ≢ n)
        → contains (if b then insert (passing_below n passes) n else passing_below n passes) a ≡ passes a
    by more true is (inl same) =
        let here : nat_eq a n ≡ true = grind (arith, nat_tests) in
        contains-insert nat_cmp_total (passing_below n passes) n a
        ∙ ap (λ (t : Bool). t || contains (passing_below n passes) a) (tied a n ∙ here)
        ∙ sym (ap passes same ∙ is)
    by more false is (inl same) = none_from n a passes (omega (arith, same)) ∙ sym (ap passes same ∙ is)
    by more true is (inr other) =
        let away : nat_eq a n ≡ false = grind (arith, nat_tests) in
        contains-insert nat_cmp_total (passing_below n passes) n a
        ∙ ap (λ (t : Bool). t || contains (passing_below n passes) a) (tied a n ∙ away)
        ∙ more (omega (arith, low, other))
    by more false is (inr other) = more (omega (arith, low, other))

-- the bits of a near row, and of another
pub near_bits : (w : Inside) (q k : ℕ) → near_place w.first (length w.near.items) q ≡ Some k
    → row_bits w q ≡ slice_index w.near.items k
unfolding row_bits
near_bits w q k is = ap (bits_in w q) is

pub other_bits : (w : Inside) (q : ℕ) → near_place w.first (length w.near.items) q ≡ None
    → row_bits w q ≡ unwrap_or (get nat_eq w.others q) 0
unfolding row_bits
other_bits w q is = ap (bits_in w q) is

-- where a row has its place, by what the code has of it
pub placed : (w : Inside) (a n q : ℕ) (found o : Option ℕ) → n ≡ length w.near.items → q ≡ word_row a
    → found ≡ near_place w.first n q → found ≡ o
    → near_place w.first (length w.near.items) (word_row a) ≡ o
placed w a n q found o long row is same =
    ap (λ (m : ℕ). near_place w.first m (word_row a)) (sym long)
    ∙ ap (λ (r : ℕ). near_place w.first n r) (sym row)
    ∙ sym is ∙ same

-- no bit of none is set
pub no_bit : (a : ℕ) → is_set 0 a ≡ false
no_bit a = search rules

-- no two rows have one place
one_place : (first n q k : ℕ) → near_place first n q ≡ Some k → q ≡ first + k
one_place first n q k is = grind (arith, nat_tests)

-- near rows with other bits in one place
pub near_same : (w : Inside) (q k bits : ℕ) → near_place w.first (length w.near.items) q ≡ Some k
    → k < length w.near.items
    → row_bits (record { first = w.first; near = with_item w.near k bits; others = w.others }) q ≡ bits
near_same w q k bits is low =
    near_bits (record { first = w.first; near = with_item w.near k bits; others = w.others }) q k
    (ap (λ (n : ℕ). near_place w.first n q) (length-set w.near.items k bits) ∙ is)
    ∙ get_or-set_same w.near.items k bits 0 low

pub near_other : (w : Inside) (q k bits : ℕ) → near_place w.first (length w.near.items) q ≡ Some k → (r : ℕ) → r ≢ q
    → row_bits (record { first = w.first; near = with_item w.near k bits; others = w.others }) r ≡ row_bits w r
near_other w q k bits is r away = by (near_place w.first (length w.near.items) r) refl
  where
    new : Inside
    new = record { first = w.first; near = with_item w.near k bits; others = w.others }

    same : near_place w.first (length (slice_set w.near.items k bits)) r ≡ near_place w.first (length w.near.items) r
    same = ap (λ (n : ℕ). near_place w.first n r) (length-set w.near.items k bits)

    by : (o : Option ℕ) → near_place w.first (length w.near.items) r ≡ o → row_bits new r ≡ row_bits w r
    by (Some m) at =
        let first_is : r ≡ w.first + m = one_place w.first (length w.near.items) r m at in
        let other_is : q ≡ w.first + k = one_place w.first (length w.near.items) q k is in
        near_bits new r m (same ∙ at)
        ∙ get_or-set_other w.near.items k m bits 0 (λ e. away (omega (arith, first_is, other_is, e)))
        ∙ sym (near_bits w r m at)
    by None at = other_bits new r (same ∙ at) ∙ sym (other_bits w r at)

-- other rows with other bits at one number
pub record PutsRow (old new : Inside) (q bits : ℕ) : Type 0 where
  pub first : new.first ≡ old.first
  pub near : new.near.items ≡ old.near.items
  pub others : (r : ℕ) → get nat_eq new.others r ≡ cond (nat_eq q r) (Some bits) (get nat_eq old.others r)

same_place : (old new : Inside) (q bits r : ℕ) → PutsRow old new q bits
    → near_place new.first (length new.near.items) r ≡ near_place old.first (length old.near.items) r
same_place old new q bits r puts =
    ap (λ (n : ℕ). near_place n (length new.near.items) r) puts.first
    ∙ ap (λ (xs : List ℕ). near_place old.first (length xs) r) puts.near

pub other_same : (old new : Inside) (q bits : ℕ) → near_place old.first (length old.near.items) q ≡ None
    → PutsRow old new q bits → row_bits new q ≡ bits
other_same old new q bits is puts =
    let test : nat_eq q q ≡ true = grind (arith, nat_tests) in
    other_bits new q (same_place old new q bits q puts ∙ is)
    ∙ ap (λ (o : Option ℕ). unwrap_or o 0)
    (puts.others q ∙ ap (λ (t : Bool). cond t (Some bits) (get nat_eq old.others q)) test)

pub other_other : (old new : Inside) (q bits : ℕ) → PutsRow old new q bits → (r : ℕ) → r ≢ q
    → row_bits new r ≡ row_bits old r
other_other old new q bits puts r away = by (near_place old.first (length old.near.items) r) refl
  where
    test : nat_eq q r ≡ false
    test = grind (arith, nat_tests)

    by : (o : Option ℕ) → near_place old.first (length old.near.items) r ≡ o → row_bits new r ≡ row_bits old r
    by (Some m) at =
        near_bits new r m (same_place old new q bits r puts ∙ at)
        ∙ ap (λ (xs : List ℕ). slice_index xs m) puts.near
        ∙ sym (near_bits old r m at)
    by None at =
        other_bits new r (same_place old new q bits r puts ∙ at)
        ∙ ap (λ (o : Option ℕ). unwrap_or o 0)
        (puts.others r ∙ ap (λ (t : Bool). cond t (Some bits) (get nat_eq old.others r)) test)
        ∙ sym (other_bits old r at)

-- an address is in the set where its bit is set
pub has_bit : (w : Inside) (a : ℕ) → a < 2 ^ 32 → contains (addresses w) a ≡ is_set (row_bits w (word_row a)) a
unfolding addresses
has_bit w a low = passed (2 ^ 32) a (λ b. is_set (row_bits w (word_row b)) b) low

pub none_past : (w : Inside) (a : ℕ) → 2 ^ 32 ≤ a → contains (addresses w) a ≡ false
unfolding addresses
none_past w a from = none_from (2 ^ 32) a (λ b. is_set (row_bits w (word_row b)) b) from

-- the bit of an address in a near row, and in another
pub near_has : (w : Inside) (a k : ℕ) → a < 2 ^ 32 → near_place w.first (length w.near.items) (word_row a) ≡ Some k
    → contains (addresses w) a ≡ is_set (slice_index w.near.items k) a
near_has w a k low is = has_bit w a low ∙ ap (λ (n : ℕ). is_set n a) (near_bits w (word_row a) k is)

pub other_has : (w : Inside) (a : ℕ) → a < 2 ^ 32 → near_place w.first (length w.near.items) (word_row a) ≡ None
    → contains (addresses w) a ≡ is_set (unwrap_or (get nat_eq w.others (word_row a)) 0) a
other_has w a low is = has_bit w a low ∙ ap (λ (n : ℕ). is_set n a) (other_bits w (word_row a) is)

-- no two addresses have one bit
one_bit : (a b : ℕ) → a < 2 ^ 32 → b < 2 ^ 32 → word_row a ≡ word_row b → a / 4 % 32 ≡ b / 4 % 32 → a ≡ b
one_bit a b low_a low_b row bit = omega (arith, row, bit)

stays : (P : Type 0) (now was : Bool) → now ≡ was → (P → ⊥) → IsTrue now ↔ (IsTrue was ⊎ P)
stays P now was same none = (
  λ h. inl (sym same ∙ h),
  λ h. elim h [
    | inl old ↦ same ∙ old
    | inr p ↦ absurd (none p)
  ],
)

-- the row of an address has one bit more, and the others stay
pub one_bit_more : (old new : Inside) (at bits a : ℕ) → at < 2 ^ 32 → row_bits new (word_row at) ≡ bits
    → ((q : ℕ) → q ≢ word_row at → row_bits new q ≡ row_bits old q)
    → bits ≡ bit_or (row_bits old (word_row at)) (1 * 2 ^ (at / 4 % 32) % 2 ^ 32)
    → IsTrue (contains (addresses new) a) ↔ (IsTrue (contains (addresses old) a) ⊎ (a ≡ at))
one_bit_more old new at bits a low there others bits_are = all (cases_lt a (2 ^ 32))
  where
    Is : Bool → Bool → Type 0
    Is now was = IsTrue now ↔ (IsTrue was ⊎ (a ≡ at))

    same_row : word_row a ≡ word_row at → row_bits new (word_row a) ≡ bit_or (row_bits old (word_row a)) (1 * 2 ^ (at / 4 % 32) % 2 ^ 32)
    same_row e =
        ap (row_bits new) e ∙ there ∙ bits_are
        ∙ ap (λ (q : ℕ). bit_or (row_bits old q) (1 * 2 ^ (at / 4 % 32) % 2 ^ 32)) (sym e)

    by : a < 2 ^ 32 → (word_row a ≡ word_row at) ⊎ (word_row a ≢ word_row at) → (a / 4 % 32 ≡ at / 4 % 32) ⊎ (a / 4 % 32 ≢ at / 4 % 32)
        → Is (is_set (row_bits new (word_row a)) a) (is_set (row_bits old (word_row a)) a)
    by low_a (inl e) (inl f) = (
      λ h. inr (one_bit a at low_a low e f),
      λ h. ap (λ (n : ℕ). is_set n a) (same_row e)
          ∙ ap (λ (k : ℕ). bit_at (bit_or (row_bits old (word_row a)) (1 * 2 ^ (at / 4 % 32) % 2 ^ 32)) k == 1) f
          ∙ ap (λ (n : ℕ). n == 1) (bit_at_set_same w32 (row_bits old (word_row a)) (at / 4 % 32) (omega arith)),
    )
    by low_a (inl e) (inr ne) =
        stays (a ≡ at) (is_set (row_bits new (word_row a)) a) (is_set (row_bits old (word_row a)) a)
        (ap (λ (n : ℕ). is_set n a) (same_row e)
        ∙ ap (λ (n : ℕ). n == 1) (bit_at_set_other w32 (row_bits old (word_row a)) (at / 4 % 32) (omega arith) (a / 4 % 32) ne))
        (λ same. ne (ap (λ (n : ℕ). n / 4 % 32) same))
    by low_a (inr ne) _ =
        stays (a ≡ at) (is_set (row_bits new (word_row a)) a) (is_set (row_bits old (word_row a)) a) (ap (λ (n : ℕ). is_set n a) (others (word_row a) ne))
        (λ same. ne (ap word_row same))

    all : (a < 2 ^ 32) ⊎ (2 ^ 32 ≤ a) → Is (contains (addresses new) a) (contains (addresses old) a)
    all (inl low_a) =
        subst (λ (t : Bool). Is t (contains (addresses old) a)) (sym (has_bit new a low_a))
        (subst (λ (t : Bool). Is (is_set (row_bits new (word_row a)) a) t) (sym (has_bit old a low_a))
        (by low_a (cases_eq (word_row a) (word_row at)) (cases_eq (a / 4 % 32) (at / 4 % 32))))
    all (inr from) =
        stays (a ≡ at) (contains (addresses new) a) (contains (addresses old) a)
        (none_past new a from ∙ sym (none_past old a from))
        (λ same. omega (arith, same, from, low))

-- whether an address is there, as the code says of the bits of its row
pub was_new : (w : Inside) (v : FinSet nat_cmp) (at bits : ℕ) (is_new : Bool) → at < 2 ^ 32 → addresses w ≡ v
    → row_bits w (word_row at) ≡ bits → is_new ≡ not (is_set bits at) → is_new ≡ not (contains v at)
was_new w v at bits is_new low view is new =
    new
    ∙ ap (λ (n : ℕ). not (is_set n at)) (sym is)
    ∙ ap not (sym (has_bit w at low))
    ∙ ap (λ (s : FinSet nat_cmp). not (contains s at)) view

-- a near row, or another, has the bit of an address
abbrev bit_of : ℕ → ℕ
bit_of at = 1 * 2 ^ (at / 4 % 32) % 2 ^ 32

abbrev HasMore : FinSet nat_cmp → FinSet nat_cmp → ℕ → ℕ → Type 0
HasMore new old at a = IsTrue (contains new a) ↔ (IsTrue (contains old a) ⊎ (a ≡ at))

pub near_more : (w : Inside) (v : FinSet nat_cmp) (at k bits a : ℕ) → at < 2 ^ 32 → addresses w ≡ v
    → near_place w.first (length w.near.items) (word_row at) ≡ Some k → k < length w.near.items
    → bits ≡ bit_or (slice_index w.near.items k) (1 * 2 ^ (at / 4 % 32) % 2 ^ 32)
    → IsTrue (contains (addresses (record { first = w.first; near = with_item w.near k bits; others = w.others })) a)
    ↔ (IsTrue (contains v a) ⊎ (a ≡ at))
near_more w v at k bits a low view is within bits_are =
    let new : Inside = record { first = w.first; near = with_item w.near k bits; others = w.others } in
    subst (λ (s : FinSet nat_cmp). HasMore (addresses new) s at a) view
    (one_bit_more w new at bits a low (near_same w (word_row at) k bits is within) (near_other w (word_row at) k bits is)
    (bits_are ∙ ap (λ (n : ℕ). bit_or n (bit_of at)) (sym (near_bits w (word_row at) k is))))

pub other_more : (old new : Inside) (v : FinSet nat_cmp) (at bits a : ℕ) → at < 2 ^ 32 → addresses old ≡ v
    → near_place old.first (length old.near.items) (word_row at) ≡ None → PutsRow old new (word_row at) bits
    → bits ≡ bit_or (unwrap_or (get nat_eq old.others (word_row at)) 0) (1 * 2 ^ (at / 4 % 32) % 2 ^ 32)
    → IsTrue (contains (addresses new) a) ↔ (IsTrue (contains v a) ⊎ (a ≡ at))
other_more old new v at bits a low view is puts bits_are =
    subst (λ (s : FinSet nat_cmp). HasMore (addresses new) s at a) view
    (one_bit_more old new at bits a low (other_same old new (word_row at) bits is puts)
    (other_other old new (word_row at) bits puts)
    (bits_are ∙ ap (λ (n : ℕ). bit_or n (bit_of at)) (sym (other_bits old (word_row at) is))))

-- where no row has bits
pub no_bits : (w : Inside) (n : ℕ) → w.near.items ≡ replicate n 0 → ((q : ℕ) → get nat_eq w.others q ≡ None) → (a : ℕ)
    → contains (addresses w) a ≡ false
no_bits w n zeros none a = elim (cases_lt a (2 ^ 32)) [
  | inl low ↦ has_bit w a low ∙ ap (λ (m : ℕ). is_set m a) (row (near_place w.first (length w.near.items) (word_row a)) refl) ∙ no_bit a
  | inr from ↦ none_past w a from
]
  where
    zero_in : (m k : ℕ) → slice_index (replicate m 0) k ≡ 0
    zero_in zero k = refl
    zero_in (suc m) zero = refl
    zero_in (suc m) (suc k) = zero_in m k

    row : (o : Option ℕ) → near_place w.first (length w.near.items) (word_row a) ≡ o → row_bits w (word_row a) ≡ 0
    row (Some k) is = near_bits w (word_row a) k is ∙ ap (λ (xs : List ℕ). slice_index xs k) zeros ∙ zero_in n k
    row None is = other_bits w (word_row a) is ∙ ap (λ (o : Option ℕ). unwrap_or o 0) (none (word_row a))
