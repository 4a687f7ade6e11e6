-- The digits so far.
use Rattle.std.proofs.Common.{◌≡◌, ◌/◌, ◌%◌, ◌^◌, ◌++◌, ◌∷◌, [], codes, map, take}
use Rattle.m88_base.specs.Hex.{hex_digit}
use Rattle.m88_disasm.proofs.text.word.Given as goal

abbrev pub invariant-loop-shift : goal.invariant-loop-shift
invariant-loop-shift l =
    l.text.bytes ≡ codes ".word 0x"
    ++ map (λ k. hex_digit (l.word / 2 ^ k % 16)) (take l.shift-index (28 ∷ 24 ∷ 20 ∷ 16 ∷ 12 ∷ 8 ∷ 4 ∷ 0 ∷ []))
