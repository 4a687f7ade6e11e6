-- What is kept of a statement, and its bytes in the image.
use Rattle.std.proofs.Common.{◌≡◌, ℕ, zero, suc, ◌+◌, ◌<◌, ◌≤◌, Bool, true, false, List, [], ◌∷◌, length, map, take, refl, sym, ap, subst, ◌∙◌, arith, Option, Some, None}
use Rattle.std.specs.Prelude.{◌==◌, IsSome, nat_lt, slice_get, unwrap_or}
use Rattle.std.specs.List.{range_with_len}
use Rattle.std.specs.Option.{option_map, option_map_or}
use Rattle.std.proofs.lemmas.Bool.{cond-true, cond-false, eq-eqb, ltb-false, ltb-true, ne_eqb}
use Rattle.m88_asm.specs.Counters.{Located, length_of}
use Rattle.m88_link.specs.Bases.{Placement}
use Rattle.m88_link.specs.declared.object.Symbol.{Symbol}
use Rattle.m88_parse.specs.declared.unit.Module.{Module}
use Rattle.m88_asm.specs.Units.{address_in}
use Rattle.m88_listing.specs.Rows.{named_by, shown_as}
use Rattle.m88_listing.specs.Inside.Slots.{found_bytes, slots_at, symbol_slot}
use Rattle.m88_listing.specs.declared.slots.Shown.{Shown}
use Rattle.m88_listing.specs.declared.slots.Slot.{Slot}

same_slot : (line at other n m : ℕ) (shown kind : Shown) → at ≡ other → n ≡ m → shown ≡ kind
    → ◌≡◌ {A = Slot} (record { line = line; at = at; len = n; shown = shown }) (record { line = line; at = other; len = m; shown = kind })
same_slot line at other n m shown kind a b c =
    ap (λ x. let s : Slot = record { line = line; at = x; len = n; shown = shown } in s) a
    ∙ ap (λ x. let s : Slot = record { line = line; at = other; len = x; shown = shown } in s) b
    ∙ ap (λ x. let s : Slot = record { line = line; at = other; len = m; shown = x } in s) c

-- the slots of what a statement names
named : Placement Module → Option Symbol → List Slot
named b o = option_map_or (λ s. symbol_slot b s ∷ []) o []

pub slots_some : (b : Placement Module) (r : Located) (at len : ℕ) (shown : Shown) → 0 < len → len ≡ length_of r → at ≡ address_in b r
    → shown ≡ shown_as r.statement.body
    → ◌≡◌ {A = List Slot} (record { line = r.statement.line; at = at; len = len; shown = shown } ∷ []) (slots_at b r)
unfolding named
slots_some b r at len shown some is here kind =
    ap (λ s. s ∷ []) (same_slot r.statement.line at (address_in b r) len (length_of r) shown (shown_as r.statement.body) here is kind)
    ∙ sym (cond-false (length_of r == 0) (named b (named_by r)) _ (ne_eqb (length_of r) 0 (λ e. absurd (omega (arith, some, is, e)))))

pub slots_none : (b : Placement Module) (r : Located) (len : ℕ) (o : Option Slot) → len ≡ 0 → len ≡ length_of r
    → o ≡ option_map (symbol_slot b) (named_by r) → option_map_or (λ s. s ∷ []) o [] ≡ slots_at b r
unfolding named
slots_none b r len o none is own =
    ap (λ x. option_map_or (λ s. s ∷ []) x []) own ∙ by (named_by r)
    ∙ sym (cond-true (length_of r == 0) (named b (named_by r)) _ (eq-eqb (length_of r) 0 (sym is ∙ none)))
  where
    by : (n : Option Symbol) → option_map_or (λ (s : Slot). s ∷ []) (option_map (symbol_slot b) n) [] ≡ option_map_or (λ s. symbol_slot b s ∷ []) n []
    by None = refl
    by (Some s) = refl

-- the bytes that are found from an address on are the first of those that stand there in a row
front_from : (found : ℕ → Option ℕ) (at n len : ℕ) (rest : List ℕ) → ((k : ℕ) → k < length rest → found (at + (n + k)) ≡ slice_get rest k)
    → len ≤ length rest → take len rest ≡ map (λ k. unwrap_or (found (at + k)) 0) (range_with_len n len)
front_from found at n zero rest there l = refl
front_from found at n (suc len) [] there l = absurd (omega (arith, l))
front_from found at n (suc len) (x ∷ rest) there l =
    let here : found (at + n) ≡ Some x = ap found (omega arith) ∙ there 0 (omega arith) in
    ap (λ xs. x ∷ xs) (front_from found at (n + 1) len rest (λ k m. ap found (omega arith) ∙ there (suc k) (omega (arith, m))) (omega (arith, l)))
    ∙ ap (λ (o : Option ℕ). unwrap_or o 0 ∷ map (λ k. unwrap_or (found (at + k)) 0) (range_with_len (n + 1) len)) (sym here)

pub front_found : (found : ℕ → Option ℕ) (at len : ℕ) (rest : List ℕ) → ((k : ℕ) → k < length rest → found (at + k) ≡ slice_get rest k)
    → len ≤ length rest → take len rest ≡ found_bytes found at len
front_found found at len rest there l = front_from found at 0 len rest (λ k m. ap found (omega arith) ∙ there k m) l

-- as many stand there as bytes are found at the addresses from it on
pub has_all : (found : ℕ → Option ℕ) (at len : ℕ) (rest : List ℕ) → found (at + length rest) ≡ None → ((k : ℕ) → k < len → IsSome (found (at + k)))
    → len ≤ length rest
has_all found at len rest end has = by (nat_lt (length rest) len) refl
  where
    by : (t : Bool) → nat_lt (length rest) len ≡ t → len ≤ length rest
    by true e = absurd (let clash : IsSome {T = ℕ} None = subst IsSome end (has (length rest) (ltb-true (length rest) len e)) in cc)
    by false e = ltb-false (length rest) len e
