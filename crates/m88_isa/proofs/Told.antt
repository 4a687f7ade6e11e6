-- The words of an access tell the access.
use Rattle.std.proofs.Common.{◌≡◌, ℕ, ◌+◌, ◌*◌, ◌/◌, ◌%◌, ◌^◌, ◌<◌, ◌≤◌, ◌==◌, Bool, true, false, refl, arith, ap, ◌∙◌}
use Rattle.std.specs.Int.{bit_at}
use Rattle.m88_base.proofs.Laws.{same_reg}
use Rattle.m88_base.specs.Reg.{number_of, reg_of}
use Rattle.m88_isa.specs.Compute.{weight_if}
use Rattle.m88_isa.specs.Lanes.{IsEnable}
use Rattle.m88_isa.specs.Memory.{IsWordAccess}
use Rattle.m88_isa.specs.Triples.{access_in, dmt_of, is_valid_triple, triple_of}
use Rattle.m88_isa.specs.declared.planned.Access.{Access}

-- the fields of a number that is made of them
record Fields (x d l r s e w : ℕ) : Type 0 where
  pub doub1 : x / 2 ^ 13 % 2 ≡ d
  pub lock : x / 2 ^ 12 % 2 ≡ l
  pub dreg : x / 2 ^ 7 % 32 ≡ r
  pub signed : x / 2 ^ 6 % 2 ≡ s
  pub en : x / 2 ^ 2 % 2 ^ 4 ≡ e
  pub write : x / 2 ^ 1 % 2 ≡ w
  pub valid : x / 2 ^ 0 % 2 ≡ 1

fields : (d l r s e w : ℕ) → d ≤ 1 → l ≤ 1 → r < 32 → s ≤ 1 → e < 16 → w ≤ 1 →
    Fields (8192 * d + 4096 * l + r * 128 + 64 * s + e * 4 + 2 * w + 1) d l r s e w
fields d l r s e w hd hl hr hs he hw = record {
  doub1 = omega arith;
  lock = omega arith;
  dreg = omega arith;
  signed = omega arith;
  en = omega arith;
  write = omega arith;
  valid = omega arith;
}

weighed : (b : Bool) (weight : ℕ) → weight_if b weight ≡ weight * weight_if b 1
weighed true weight = omega arith
weighed false weight = omega arith

at_most_one : (b : Bool) → weight_if b 1 ≤ 1
at_most_one true = omega arith
at_most_one false = omega arith

told_by_bit : (b : Bool) → (weight_if b 1 == 1) ≡ b
told_by_bit true = refl
told_by_bit false = refl

enable_below : (en : ℕ) → IsEnable en → en < 16
enable_below en h = grind arith

dmt_fields : (a : Access) → IsEnable a.en →
    Fields (dmt_of a) (weight_if a.doub1 1) (weight_if a.lock 1) (number_of a.reg) (weight_if a.signed 1) a.en (weight_if a.write 1)
dmt_fields a h = rw (weighed a.doub1 (2 ^ 13), weighed a.lock (2 ^ 12), weighed a.signed (2 ^ 6), weighed a.write (2 ^ 1))
    (fields (weight_if a.doub1 1) (weight_if a.lock 1) (number_of a.reg) (weight_if a.signed 1) a.en (weight_if a.write 1)
    (at_most_one a.doub1) (at_most_one a.lock) a.reg.in_range (at_most_one a.signed) (enable_below a.en h) (at_most_one a.write))

-- the words of an access are valid, and tell it
pub valid_of : (a : Access) → IsWordAccess a → is_valid_triple (triple_of a) ≡ true
valid_of a h = ap (λ n. n == 1) (dmt_fields a h.1).valid

pub told_of : (a : Access) → IsWordAccess a → access_in (triple_of a) ≡ a
told_of a h =
    let f : Fields (dmt_of a) (weight_if a.doub1 1) (weight_if a.lock 1) (number_of a.reg) (weight_if a.signed 1) a.en (weight_if a.write 1) =
    dmt_fields a h.1 in
    let write : (bit_at (dmt_of a) 1 == 1) ≡ a.write = ap (λ n. n == 1) f.write ∙ told_by_bit a.write in
    let signed : (bit_at (dmt_of a) 6 == 1) ≡ a.signed = ap (λ n. n == 1) f.signed ∙ told_by_bit a.signed in
    let doub1 : (bit_at (dmt_of a) 13 == 1) ≡ a.doub1 = ap (λ n. n == 1) f.doub1 ∙ told_by_bit a.doub1 in
    let lock : (bit_at (dmt_of a) 12 == 1) ≡ a.lock = ap (λ n. n == 1) f.lock ∙ told_by_bit a.lock in
    let reg : reg_of (dmt_of a / 2 ^ 7) ≡ a.reg = same_reg _ _ f.dreg in
    λ i. record {
      write = write i;
      addr = a.addr;
      en = f.en i;
      reg = reg i;
      signed = signed i;
      doub1 = doub1 i;
      lock = lock i;
      value = a.value;
    }
