-- A branch whose name stands for a target in reach is the branch with another count of words, and leads there.
use Rattle.std.proofs.Common.{◌≡◌, ℕ, ℤ, pos, negsuc, ◌+◌, ◌-◌, ◌*◌, ◌/◌, ◌%◌, ◌<◌, ◌≤◌, ◌^◌, Bool, true, false, nat_lt, refl, ap, arith, ltb-false, ltb-true}
use Rattle.std.specs.Prelude.{Some, if◌then◌else◌}
use Rattle.std.specs.Int.{cast_unsigned, w32}
use Rattle.std.proofs.lemmas.Bool.Decides.{nat_tests}
use Rattle.m88_base.specs.declared.fixup.Kind.{Kind}
use Rattle.m88_isa.specs.Flow.{words_away}
use Rattle.m88_isa.specs.Instr.{FitsWords, IsValid}
use Rattle.m88_isa.specs.declared.instr.Instr.{Instr}
use Rattle.m88_isa.specs.declared.instr.Instr.TheVariants as instr
use Rattle.m88_link.specs.Field.{distance, is_in_reach, is_near}
use Rattle.m88_asm.specs.Filled.{with_field, words_of}
use Rattle.m88_sourcing.specs.Flow.{branch_target}
use Rattle.m88_sourcing.specs.Targets.{counting}
use Rattle.m88_sourcing.proofs.Places.{branch_kind}

-- words that are counted lead to what they are counted to
leads_on : (d at t : ℕ) → t < 2 ^ 32 → at < 2 ^ 32 → d ≡ distance t at → d % 4 ≡ 0 → d < 2 ^ 31
    → words_away at (pos (d / 4)) ≡ t
leads_on d at t small low is near far = omega (arith, is)

leads_back_by : (c d at t : ℕ) → t < 2 ^ 32 → at < 2 ^ 32 → d ≡ distance t at → d < 2 ^ 32 → d % 4 ≡ 0 → 2 ^ 31 ≤ d
    → c ≡ 2 ^ 32 - ((2 ^ 32 - d) / 4 - 1 + 1) → (at + 4 * c) % 2 ^ 32 ≡ t
leads_back_by c d at t small low is less near far count = omega (arith, is, count)

leads_to_target : (t at : ℕ) → t < 2 ^ 32 → at < 2 ^ 32 → distance t at % 4 ≡ 0
    → words_away at (words_of (distance t at)) ≡ t
leads_to_target t at small low near = by (nat_lt (distance t at) (2 ^ 31)) refl
  where
    by : (b : Bool) → nat_lt (distance t at) (2 ^ 31) ≡ b
        → words_away at (if b then pos (distance t at / 4) else negsuc ((2 ^ 32 - distance t at) / 4 - 1)) ≡ t
    by true e = leads_on (distance t at) at t small low refl near (ltb-true (distance t at) (2 ^ 31) e)
    by false e =
        leads_back_by (cast_unsigned w32 (negsuc ((2 ^ 32 - distance t at) / 4 - 1))) (distance t at) at t small low
        refl (omega arith) near (ltb-false (distance t at) (2 ^ 31) e) (omega arith)

-- those of a displacement in reach fit
near_whole : (width d : ℕ) → is_near width d ≡ true → d % 4 ≡ 0
near_whole width d e = grind (arith, nat_tests)

fits26 : (d : ℕ) → d < 2 ^ 32 → is_near 26 d ≡ true → FitsWords 25 (words_of d)
fits26 d low e = by (nat_lt d (2 ^ 31)) refl
  where
    by : (b : Bool) → nat_lt d (2 ^ 31) ≡ b → FitsWords 25 (if b then pos (d / 4) else negsuc ((2 ^ 32 - d) / 4 - 1))
    by true f = grind (arith, nat_tests)
    by false f = grind (arith, nat_tests)

fits16 : (d : ℕ) → d < 2 ^ 32 → is_near 16 d ≡ true → FitsWords 15 (words_of d)
fits16 d low e = by (nat_lt d (2 ^ 31)) refl
  where
    by : (b : Bool) → nat_lt d (2 ^ 31) ≡ b → FitsWords 15 (if b then pos (d / 4) else negsuc ((2 ^ 32 - d) / 4 - 1))
    by true f = grind (arith, nat_tests)
    by false f = grind (arith, nat_tests)

-- the branch that leads to a target
pub record BranchesThere (i : Instr) (kind : Kind) (at t : ℕ) : Type 0 where
  pub words : ℤ
  pub is : with_field (counting (pos 0) i) kind t at ≡ counting words i
  pub valid : IsValid (counting words i)
  pub leads : branch_target at (counting words i) ≡ Some t

pub branches_there : (i : Instr) (kind : Kind) (q at s t : ℕ) → branch_target q i ≡ Some s → IsValid i → t < 2 ^ 32
    → at < 2 ^ 32 → is_in_reach (branch_kind i) t at ≡ true → BranchesThere i kind at t
branches_there (instr.Branch link delayed old) kind q at s t to valid small low near = record {
  words = words_of (distance t at);
  is = refl;
  valid = fits26 (distance t at) (omega arith) near;
  leads = ap (λ (n : ℕ). Some n) (leads_to_target t at small low (near_whole 26 (distance t at) near));
}
branches_there (instr.BranchBit set delayed bit s1 old) kind q at s t to valid small low near = record {
  words = words_of (distance t at);
  is = refl;
  valid = (valid.0, fits16 (distance t at) (omega arith) near);
  leads = ap (λ (n : ℕ). Some n) (leads_to_target t at small low (near_whole 16 (distance t at) near));
}
branches_there (instr.BranchCond delayed mask s1 old) kind q at s t to valid small low near = record {
  words = words_of (distance t at);
  is = refl;
  valid = (valid.0, fits16 (distance t at) (omega arith) near);
  leads = ap (λ (n : ℕ). Some n) (leads_to_target t at small low (near_whole 16 (distance t at) near));
}
branches_there i kind q at s t to valid small low near = absurd cc
