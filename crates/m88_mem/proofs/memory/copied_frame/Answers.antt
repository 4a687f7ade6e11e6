-- The word at the next place is the image's.
use Rattle.std.proofs.Common.{◌≡◌, ◌-◌, ◌+◌, ◌*◌, ◌++◌, ◌∷◌, [], ℕ, List, Some, ◌∙◌, ap, arith, inl, inr, refl, rules, length, length-append}
use Rattle.std.specs.Prelude.{slice_get}
use Rattle.std.proofs.lemmas.Bool.Decides.{leb_tells}
use Rattle.m88_base.proofs.Laws.{slice_get-append_left, slice_get-append_right}
use Rattle.m88_mem.proofs.Words.{word_in_page}
use Rattle.m88_mem.specs.DataBus.{image_bus}
use Rattle.m88_mem.proofs.memory.copied_frame.Invariants.{Copied}
use Rattle.m88_mem.proofs.memory.copied_frame.Goals as goal

copied_more : (image : ℕ → ℕ) (words : List ℕ) (page count word : ℕ) → Copied image words page count → word ≡ image (page * 4096 + count * 4)
    → Copied image (words ++ word ∷ []) page (count + 1)
copied_more image words page count word so is = record {
  long = omega (arith, so.long, length-append words (word ∷ []));
  each = λ k few. elim (leb_tells count k) [
    | inl last ↦
        let e : k ≡ count = omega (arith, few, last.1) in
        let first : k - length words ≡ 0 = omega (arith, e, so.long) in
        slice_get-append_right words (word ∷ []) k (omega (arith, e, so.long)) ∙ ap (λ i. slice_get (word ∷ []) i) first
        ∙ ap (λ w. Some w) is ∙ ap (λ i. Some (image (page * 4096 + i * 4))) (omega (arith, e))
    | inr below ↦ slice_get-append_left words (word ∷ []) k (omega (arith, below.1, so.long)) ∙ so.each k below.1
  ];
}

pub loop-place-preserved : goal.loop-place-preserved
loop-place-preserved c =
    let word : c.page_word-word.result ≡ image_bus c.args.image.now (c.args.page * 4096 + c.loop-place.place * 4) =
    c.page_word-word.ensures
    ∙ word_in_page c.args.image.now c.args.page c.loop-place.place 4096 c.image_page-bytes.result refl c.image_page-bytes.ensures (omega arith) in
    let items : c.push.new.self.items ≡ c.loop-place.words.items ++ c.page_word-word.result ∷ [] = search rules in
    rw items (copied_more (image_bus c.args.image.now) c.loop-place.words.items c.args.page c.loop-place.place c.page_word-word.result c.loop-place.invariant word)
