-- Words read back: a pointer from its word, and the carry and MXM from a status.
use Rattle.std.specs.Prelude.{ℕ, zero, suc, Bool, true, false, ◌≡◌, ◌<◌, ◌+◌, ◌*◌, ◌/◌, ◌%◌, ◌==◌}
use Rattle.std.specs.Int.{bit_at}
use Rattle.std.proofs.Common.{arith, refl, ap, ◌∙◌}
use Rattle.m88_base.specs.Slot.{IsWordSlot, mark_bit, slot_of, slot_word}
use Rattle.m88_base.specs.declared.slot.Slot.{Slot}
use Rattle.m88_ctrl.specs.ControlRegisters.{carry_place}
use Rattle.m88_event.specs.Shadow.{status_of}
use Rattle.m88_board.specs.Contexts.{mxm_in}

-- a pointer at a word is that of its word
slot_parts : (a : ℕ) (v e : Bool) → a % 4 ≡ 0 →
    slot_of (slot_word (record { addr = a; v = v; e = e })) ≡ record { addr = a; v = v; e = e }
slot_parts a true true h =
    let e0 : (a + 2 + 1) / 4 * 4 ≡ a = omega (arith, h) in
    let e1 : (a + 2 + 1) / 2 % 2 ≡ 1 = omega (arith, h) in
    let e2 : (a + 2 + 1) / 1 % 2 ≡ 1 = omega (arith, h) in
    λ i. record { addr = e0 i; v = e1 i == 1; e = e2 i == 1 }
slot_parts a true false h =
    let e0 : (a + 2 + 0) / 4 * 4 ≡ a = omega (arith, h) in
    let e1 : (a + 2 + 0) / 2 % 2 ≡ 1 = omega (arith, h) in
    let e2 : (a + 2 + 0) / 1 % 2 ≡ 0 = omega (arith, h) in
    λ i. record { addr = e0 i; v = e1 i == 1; e = e2 i == 1 }
slot_parts a false true h =
    let e0 : (a + 0 + 1) / 4 * 4 ≡ a = omega (arith, h) in
    let e1 : (a + 0 + 1) / 2 % 2 ≡ 0 = omega (arith, h) in
    let e2 : (a + 0 + 1) / 1 % 2 ≡ 1 = omega (arith, h) in
    λ i. record { addr = e0 i; v = e1 i == 1; e = e2 i == 1 }
slot_parts a false false h =
    let e0 : (a + 0 + 0) / 4 * 4 ≡ a = omega (arith, h) in
    let e1 : (a + 0 + 0) / 2 % 2 ≡ 0 = omega (arith, h) in
    let e2 : (a + 0 + 0) / 1 % 2 ≡ 0 = omega (arith, h) in
    λ i. record { addr = e0 i; v = e1 i == 1; e = e2 i == 1 }

pub slot_back : (s : Slot) → IsWordSlot s → slot_of (slot_word s) ≡ s
slot_back s h = slot_parts s.addr s.v s.e h

-- and a word is that of its pointer
bit_mark : (n : ℕ) → n < 2 → mark_bit (n == 1) ≡ n
bit_mark (suc (suc n)) h = absurd (omega (arith, h))
bit_mark _ h = refl

pub word_back : (w : ℕ) → slot_word (slot_of w) ≡ w
word_back w =
    let one = bit_mark (bit_at w 1) (omega arith) in
    let two = bit_mark (bit_at w 0) (omega arith) in
    let whole : w / 4 * 4 + 2 * (w / 2 % 2) + w / 1 % 2 ≡ w = omega arith in
    ap (λ n. w / 4 * 4 + 2 * n + mark_bit (bit_at w 0 == 1)) one ∙ ap (λ n. w / 4 * 4 + 2 * bit_at w 1 + n) two ∙ whole

-- the carry and MXM of a status
pub carry_back : (carry mxm : Bool) → (bit_at (status_of carry mxm) carry_place == 1) ≡ carry
carry_back true true = refl
carry_back true false = refl
carry_back false true = refl
carry_back false false = refl

pub mxm_back : (carry mxm : Bool) → mxm_in (status_of carry mxm) ≡ mxm
mxm_back true true = refl
mxm_back true false = refl
mxm_back false true = refl
mxm_back false false = refl
