-- A word that is another is added.
use Rattle.std.proofs.Common.{◌≡◌, ◌+◌, ◌*◌, ◌++◌, ◌∷◌, [], ℕ, ◌∙◌, ap, sym, arith, unwrap_or}
use Rattle.m88_isa.specs.Bus.{changed_among}
use Rattle.m88_mem.proofs.Walk.{other_word, same_word}
use Rattle.m88_mem.proofs.Words.{blank_word}
use Rattle.m88_mem.specs.DataBus.{bus_of, image_bus}
use Rattle.m88_mem.proofs.memory.Memory.changed_in_blank.Goals as goal
use Rattle.m88_mem.proofs.memory.Memory.changed_in_blank.Goals.{then-word-ne0+in_ok-note, else-word-ne0}

pub loop-place-preserved : goal.loop-place-preserved
loop-place-preserved c =
    let addr : ℕ = c.args.page * 4096 + c.loop-place.place * 4 in
    let n : ℕ = c.args.page * 1024 + c.loop-place.place in
    let old : ℕ → ℕ = image_bus c.args.self.now.image in
    let new : ℕ → ℕ = bus_of c.args.self.now in
    let word : c.word_among-word.result ≡ new addr =
    ap (λ o. unwrap_or o 0) (sym c.word_among-word.ensures ∙ c.requires.walk.each c.loop-place.place (omega arith)) in
    let image : 0 ≡ old addr =
    sym (blank_word c.args.self.now.image c.args.page c.loop-place.place c.requires.free (omega arith)) in
    elim c.if-word-ne0.branch [
      | then-word-ne0+in_ok-note w ↦
          ap (λ v. v.items) w.changed-is ∙ w.in_ok-note.ensures
          ∙ ap (λ xs. xs ++ ((addr, c.word_among-word.result) ∷ [])) c.loop-place.invariant
          ∙ ap (λ word. changed_among n old new ++ ((addr, word) ∷ [])) word
          ∙ other_word n (c.args.page * 1024 + (c.loop-place.place + 1)) addr old new (omega arith) (omega arith)
          (λ same. w.if-word-ne0.true (word ∙ sym same ∙ sym image))
      | else-word-ne0 w ↦
          ap (λ v. v.items) w.changed-is ∙ c.loop-place.invariant
          ∙ same_word n (c.args.page * 1024 + (c.loop-place.place + 1)) addr old new (omega arith) (omega arith)
          (sym image ∙ sym w.if-word-ne0.false ∙ word)
    ]
