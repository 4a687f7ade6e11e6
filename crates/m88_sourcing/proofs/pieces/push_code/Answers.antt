-- One word more, and all.
use Rattle.std.proofs.Common.{◌≡◌, ◌∙◌, ◌+◌, ◌*◌, ◌/◌, ◌%◌, ◌<◌, ◌≤◌, ℕ, List, None, ap, arith, inl, inr, refl, slice_get, subst, sym}
use Rattle.std.proofs.lemmas.Bool.{cases_lt}
use Rattle.m88_base.specs.Image.{ProgramImage, byte_at}
use Rattle.m88_sourcing.specs.Code.{HasInstruction}
use Rattle.m88_sourcing.proofs.Appending.{front_then}
use Rattle.m88_sourcing.proofs.Cutting.{all_code, next_word}
use Rattle.m88_sourcing.proofs.OneInstruction.{dropped, no_byte_within}
use Rattle.m88_sourcing.proofs.pieces.push_code.Goals as goal

-- the bytes that stand there are those of all the words
long_enough : (image : ProgramImage) (at words n : ℕ) → ((k : ℕ) → k < words → HasInstruction image (at + 4 * k))
    → byte_at image (at + n) ≡ None → 4 * words ≤ n
long_enough image at words n stand none = elim (cases_lt n (4 * words)) [
  | inl low ↦
      let last : at + 4 * (n / 4) + n % 4 ≡ at + n = omega arith in
      absurd (no_byte_within image (at + 4 * (n / 4)) (n % 4) (stand (n / 4) (omega (arith, low))) (omega arith)
      (ap (byte_at image) last ∙ none))
  | inr from ↦ from
]

pub split_at-requires : goal.split_at-requires
split_at-requires c =
    let long = long_enough c.args.image.now c.args.at c.args.words _ c.requires.stand c.rest-bytes.ensures.end in
    let low = c.loop-index-test.true in
    omega (arith, long, low)

pub push_code_word-requires-clause-long : goal.push_code_word-requires-clause-long
push_code_word-requires-clause-long c =
    let long = long_enough c.args.image.now c.args.at c.args.words _ c.requires.stand c.rest-bytes.ensures.end in
    let low = c.loop-index-test.true in
    let back = c.split_at.ensures.back_len in
    omega (arith, long, low, back)

pub push_code_word-requires-clause-there : goal.push_code_word-requires-clause-there
push_code_word-requires-clause-there c = λ k four.
    let n : ℕ = 4 * c.loop-index.index in
    let long = long_enough c.args.image.now c.args.at c.args.words _ c.requires.stand c.rest-bytes.ensures.end in
    let low = c.loop-index-test.true in
    let place : c.args.at + n + k ≡ c.args.at + (n + k) = omega arith in
    subst (λ (xs : List ℕ). byte_at c.args.image.now (c.args.at + n + k) ≡ slice_get xs k) (sym c.split_at.ensures.back)
    (ap (byte_at c.args.image.now) place
    ∙ c.rest-bytes.ensures.there (n + k) (omega (arith, long, low, four))
    ∙ sym (dropped n c.rest-bytes.result.now k))

pub loop-index-preserved : goal.loop-index-preserved
loop-index-preserved c = λ said is.
    front_then _ _ _ c.args.text.now.items c.loop-index.text.items c.push_code_word.new.text.items
    (c.loop-index.invariant said is)
    (next_word c.args.image.now said c.args.at c.loop-index.index c.args.words (c.args.at + 4 * c.loop-index.index)
    c.loop-index.text.items c.push_code_word.new.text.items c.loop-index-test.true refl
    (λ n. c.in_ok-push_code_word.ensures said n is.labels))

pub returns : goal.returns
returns c = λ said is.
    all_code c.args.image.now said c.args.at c.loop-index.index c.args.words _ _ (omega arith)
    (c.loop-index.invariant said is)
