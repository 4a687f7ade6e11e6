-- The bytes of parts: each is below 256, and no part ends past the last address.
use Rattle.std.proofs.Common.{◌≡◌, ℕ, zero, suc, ◌+◌, ◌-◌, ◌<◌, ◌≤◌, ◌^◌, inl, inr, List, [], ◌∷◌, length, take, drop, get_or, refl, sym, ap, subst, ◌∙◌, arith}
use Rattle.std.specs.Prelude.{Option, Some, IfSome, slice_get}
use Rattle.std.specs.Option.{option_or}
use Rattle.std.proofs.lemmas.Bool.{cases_lt}
use Rattle.std.proofs.lemmas.Option.{slice_get-get_or}
use Rattle.m88_base.specs.Found.{FindsBytes}
use Rattle.m88_base.specs.Placed.{AreApart, Placed, byte_among}
use Rattle.m88_base.proofs.Apart.{none_below}
use Rattle.m88_base.proofs.Lookup.{byte_in_above, byte_in_from}

-- each byte is below 256
abbrev pub AreBytes : List ℕ → Type 0
AreBytes [] = Unit {0}
AreBytes (b ∷ bs) = (b < 256) × AreBytes bs

-- and so is that at an index
pub byte_below : (bs : List ℕ) → AreBytes bs → (i : ℕ) → get_or bs i 0 < 256
byte_below [] h i = omega arith
byte_below (b ∷ bs) h zero = h.0
byte_below (b ∷ bs) h (suc i) = byte_below bs h.1 i

-- the first bytes, and those behind them
pub bytes_taken : (n : ℕ) (bytes : List ℕ) → AreBytes bytes → AreBytes (take n bytes)
bytes_taken zero bytes h = tt
bytes_taken (suc n) [] h = tt
bytes_taken (suc n) (b ∷ bytes) h = (h.0, bytes_taken n bytes h.1)

pub bytes_dropped : (n : ℕ) (bytes : List ℕ) → AreBytes bytes → AreBytes (drop n bytes)
bytes_dropped zero bytes h = h
bytes_dropped (suc n) [] h = tt
bytes_dropped (suc n) (b ∷ bytes) h = bytes_dropped n bytes h.1

-- a byte of the first part is found at its address
in_part : (p : Placed) (k b : ℕ) (ps : List Placed) → slice_get p.bytes k ≡ Some b
    → byte_among (p ∷ ps) (p.at + k) ≡ Some b
in_part p k b ps e = ap (λ (o : Option ℕ). option_or o (byte_among ps (p.at + k))) (byte_in_from p.at p.bytes k ∙ e)

some_fits : (o : Option ℕ) (a b : ℕ) → o ≡ Some b → IfSome o (λ c. (a < 2 ^ 32) × (c < 256)) → (a < 2 ^ 32) × (b < 256)
some_fits o a b e h = subst (λ (q : Option ℕ). IfSome q (λ c. (a < 2 ^ 32) × (c < 256))) e h

bytes_by_index : (bytes : List ℕ) → ((k b : ℕ) → slice_get bytes k ≡ Some b → b < 256) → AreBytes bytes
bytes_by_index [] h = tt
bytes_by_index (b ∷ bytes) h = (h 0 b refl, bytes_by_index bytes (λ k c e. h (suc k) c e))

pub part_bytes : (p : Placed) (ps : List Placed) → FindsBytes (byte_among (p ∷ ps)) → AreBytes p.bytes
part_bytes p ps finds =
    bytes_by_index p.bytes
    (λ k b e. (some_fits (byte_among (p ∷ ps) (p.at + k)) (p.at + k) b (in_part p k b ps e) (finds (p.at + k))).1)

-- the end of the first part is at most the end of all addresses
pub part_ends : (p : Placed) (ps : List Placed) → 0 < length p.bytes → FindsBytes (byte_among (p ∷ ps))
    → p.at + length p.bytes ≤ 2 ^ 32
part_ends p ps some finds =
    let k : ℕ = length p.bytes - 1 in
    let found = slice_get-get_or p.bytes k 0 (omega arith) in
    let fits = some_fits (byte_among (p ∷ ps) (p.at + k)) (p.at + k) (get_or p.bytes k 0)
    (in_part p k (get_or p.bytes k 0) ps found) (finds (p.at + k)) in
    let low : p.at + k < 2 ^ 32 = fits.0 in
    omega arith

-- the parts behind the first find bytes too
pub behind_finds : (from : ℕ) (p : Placed) (ps : List Placed) → AreApart from (p ∷ ps) → FindsBytes (byte_among (p ∷ ps))
    → FindsBytes (byte_among ps)
behind_finds from p ps apart finds a =
    elim (cases_lt a (p.at + length p.bytes + 1)) [
      | inl low ↦
          subst (λ (o : Option ℕ). IfSome o (λ c. (a < 2 ^ 32) × (c < 256)))
          (sym (none_below (p.at + length p.bytes + 1) ps a apart.2 low)) tt
      | inr high ↦
          subst (λ (o : Option ℕ). IfSome (option_or o (byte_among ps a)) (λ c. (a < 2 ^ 32) × (c < 256)))
          (byte_in_above p a (omega (arith, high))) (finds a)
    ]
