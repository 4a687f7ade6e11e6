-- Bytes have one instruction at an address, or none.
use Rattle.std.specs.Prelude.{ℕ, List, [], Option, Some, None, ◌≡◌, ◌<◌, ◌^◌, unwrap_or}
use Rattle.std.specs.Int.{from_be_bytes, to_be_bytes, w32}
use Rattle.std.proofs.Common.{refl, sym, ap, subst, ◌∙◌}
use Rattle.std.proofs.lemmas.Nat.{from_be_bytes-to_be_bytes_4}
use Rattle.m88_isa.proofs.Laws.{word_small}
use Rattle.m88_isa.specs.ImageProgram.{HasWordOf, IsInstructionAt}
use Rattle.m88_isa.specs.Word.{IsWord}
use Rattle.m88_isa.specs.declared.instr.Instr.{Instr}
use Rattle.m88_codec.proofs.Law.{one_reading}

-- four bytes are one word
one_word : (i j : Instr) (v w : ℕ) → IsWord i v → IsWord j w → Some (to_be_bytes w32 v) ≡ Some (to_be_bytes w32 w) → v ≡ w
one_word i j v w a b same =
    sym (from_be_bytes-to_be_bytes_4 v (subst (λ n. n < 2 ^ 32) a.1 (word_small i a.0)))
    ∙ ap (λ (o : Option (List ℕ)). from_be_bytes w32 (unwrap_or o [])) same
    ∙ from_be_bytes-to_be_bytes_4 w (subst (λ n. n < 2 ^ 32) b.1 (word_small j b.0))

one_there : (byte : ℕ → Option ℕ) (a : ℕ) (i j : Instr) → HasWordOf byte a i → HasWordOf byte a j → i ≡ j
one_there byte a i j (aligned, (v, bytes, is)) (aligned_too, (w, other, is_too)) =
    one_reading w i j (subst (λ n. IsWord i n) (one_word i j v w is is_too (sym bytes ∙ other)) is) is_too

-- bytes have one instruction at an address, or none
pub one_at : (byte : ℕ → Option ℕ) (a : ℕ) (o p : Option Instr) → IsInstructionAt byte a o → IsInstructionAt byte a p → o ≡ p
one_at byte a None None h k = refl
one_at byte a None (Some j) h k = absurd (h j k)
one_at byte a (Some i) None h k = absurd (k i h)
one_at byte a (Some i) (Some j) h k = ap Some (one_there byte a i j h k)
