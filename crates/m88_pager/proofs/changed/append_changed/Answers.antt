-- A word that is another is added.
use Rattle.std.proofs.Common.{◌≡◌, ◌+◌, ◌*◌, ◌++◌, ◌∷◌, [], ℕ, ◌∙◌, ap, sym, arith}
use Rattle.m88_isa.specs.Bus.{changed_among}
use Rattle.m88_mem.proofs.Laws.{other_word, same_word}
use Rattle.m88_pager.proofs.Words.{word_read}
use Rattle.m88_pager.proofs.changed.append_changed.Goals as goal
use Rattle.m88_pager.proofs.changed.append_changed.Goals.{then-word-word_at+in_ok-note, else-word-word_at}

pub loop-place-preserved : goal.loop-place-preserved
loop-place-preserved c = λ old new olds news before after start.
    let page = c.args.page in
    let place = c.loop-place.place in
    let few = c.loop-place-test.true in
    let addr : ℕ = page * 4096 + place * 4 in
    let n : ℕ = page * 1024 + place in
    let was : c.word_at.result ≡ old addr =
    c.word_at.ensures ∙ word_read old page (place * 4) c.args.before.now olds (omega arith) (omega (arith, few)) before in
    let is : c.word_at-word.result ≡ new addr =
    c.word_at-word.ensures ∙ word_read new page (place * 4) c.args.after.now news (omega arith) (omega (arith, few)) after in
    elim c.if-word-word_at.branch [
      | then-word-word_at+in_ok-note w ↦
          ap (λ v. v.items) w.changed-is ∙ w.in_ok-note.ensures
          ∙ ap (λ xs. xs ++ ((addr, c.word_at-word.result) ∷ [])) (c.loop-place.invariant old new olds news before after start)
          ∙ ap (λ word. changed_among n old new ++ ((addr, word) ∷ [])) is
          ∙ other_word n (page * 1024 + (place + 1)) addr old new (omega arith) (omega arith)
          (λ same. w.if-word-word_at.true (is ∙ sym same ∙ sym was))
      | else-word-word_at w ↦
          ap (λ v. v.items) w.changed-is ∙ c.loop-place.invariant old new olds news before after start
          ∙ same_word n (page * 1024 + (place + 1)) addr old new (omega arith) (omega arith)
          (sym was ∙ sym w.if-word-word_at.false ∙ is)
    ]
