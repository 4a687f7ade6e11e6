-- A word that is another is added.
use Rattle.std.proofs.Common.{◌≡◌, ◌+◌, ◌*◌, ◌++◌, ◌∷◌, [], ℕ, ◌∙◌, ap, sym, arith, refl, unwrap_or}
use Rattle.m88_isa.specs.Bus.{changed_among}
use Rattle.m88_mem.proofs.Walk.{other_word, same_word}
use Rattle.m88_mem.proofs.Words.{word_in_page}
use Rattle.m88_mem.specs.DataBus.{MemoryView, bus_of, image_bus}
use Rattle.m88_mem.proofs.memory.Memory.changed_in_frame.Goals as goal
use Rattle.m88_mem.proofs.memory.Memory.changed_in_frame.Goals.{then-word-page_word+in_ok-note, else-word-page_word}

pub loop-place-preserved : goal.loop-place-preserved
loop-place-preserved c =
    let addr : ℕ = c.args.page * 4096 + c.loop-place.place * 4 in
    let n : ℕ = c.args.page * 1024 + c.loop-place.place in
    let old : ℕ → ℕ = image_bus c.args.self.now.image in
    let new : ℕ → ℕ = bus_of c.args.self.now in
    let word : c.word_among-word.result ≡ new addr =
    ap (λ o. unwrap_or o 0) (sym c.word_among-word.ensures ∙ c.requires.each c.loop-place.place (omega arith)) in
    let image : c.page_word.result ≡ old addr =
    c.page_word.ensures
    ∙ word_in_page c.self.inside.image c.args.page c.loop-place.place 4096 c.image_page-bytes.result refl c.image_page-bytes.ensures (omega arith)
    ∙ ap (λ (m : MemoryView). image_bus m.image addr) c.self.view_is in
    elim c.if-word-page_word.branch [
      | then-word-page_word+in_ok-note w ↦
          ap (λ v. v.items) w.changed-is ∙ w.in_ok-note.ensures
          ∙ ap (λ xs. xs ++ ((addr, c.word_among-word.result) ∷ [])) c.loop-place.invariant
          ∙ ap (λ word. changed_among n old new ++ ((addr, word) ∷ [])) word
          ∙ other_word n (c.args.page * 1024 + (c.loop-place.place + 1)) addr old new (omega arith) (omega arith)
          (λ same. w.if-word-page_word.true (word ∙ sym same ∙ sym image))
      | else-word-page_word w ↦
          ap (λ v. v.items) w.changed-is ∙ c.loop-place.invariant
          ∙ same_word n (c.args.page * 1024 + (c.loop-place.place + 1)) addr old new (omega arith) (omega arith)
          (sym image ∙ sym w.if-word-page_word.false ∙ word)
    ]
