-- Words that an access has tell it, and no other has them.
use Rattle.std.proofs.Common.{◌≡◌, ◌∙◌, ap, sym, refl, subst}
use Rattle.m88_dunit.proofs.WordsOf.{has_none, has_one, is_there, no_both, same_triple, same_words, told_in}
use Rattle.m88_isa.specs.Memory.{IsWordAccess}
use Rattle.m88_isa.specs.Triples.{triple_of}
use Rattle.m88_dunit.proofs.words.access_of.Goals as goal

pub returns-then-not-is_word_access-clause-some : goal.returns-then-not-is_word_access-clause-some
returns-then-not-is_word_access-clause-some c = has_none c.args.triple.now (λ a made words.
    let same : c.access_in-access.result ≡ a = c.access_in-access.ensures ∙ told_in c.args.triple.now a made words in
    no_both c.is_word_access.result (c.is_word_access.ensures.1 (subst IsWordAccess (sym same) made)) c.if-not-is_word_access.true)

pub returns-then-not-is_word_access-clause-none : goal.returns-then-not-is_word_access-clause-none
returns-then-not-is_word_access-clause-none c = (
  (λ _ a made words.
      let same : c.access_in-access.result ≡ a = c.access_in-access.ensures ∙ told_in c.args.triple.now a made words in
      no_both c.is_word_access.result (c.is_word_access.ensures.1 (subst IsWordAccess (sym same) made)) c.if-not-is_word_access.true),
  (λ _. refl),
)

pub returns-then-ne-clause-some : goal.returns-then-ne-clause-some
returns-then-ne-clause-some c = has_none c.args.triple.now (λ a made words.
    let same : c.access_in-access.result ≡ a = c.access_in-access.ensures ∙ told_in c.args.triple.now a made words in
    let whole : c.triple_of.result ≡ c.args.triple.now = c.triple_of.ensures.value ∙ ap triple_of same ∙ words in
    no_both c.ne.result c.if-ne.true (c.ne.ensures ∙ rw whole (same_words c.args.triple.now)))

pub returns-then-ne-clause-none : goal.returns-then-ne-clause-none
returns-then-ne-clause-none c = (
  (λ _ a made words.
      let same : c.access_in-access.result ≡ a = c.access_in-access.ensures ∙ told_in c.args.triple.now a made words in
      let whole : c.triple_of.result ≡ c.args.triple.now = c.triple_of.ensures.value ∙ ap triple_of same ∙ words in
      no_both c.ne.result c.if-ne.true (c.ne.ensures ∙ rw whole (same_words c.args.triple.now))),
  (λ _. refl),
)

pub returns-clause-some : goal.returns-clause-some
returns-clause-some c = has_one c.args.triple.now c.access_in-access.result (c.is_word_access.ensures.0 c.if-not-is_word_access.false)
    (sym c.triple_of.ensures.value ∙ same_triple c.triple_of.result c.args.triple.now (sym c.ne.ensures ∙ c.if-ne.false))

pub returns-clause-none : goal.returns-clause-none
returns-clause-none c = is_there c.args.triple.now c.access_in-access.result (c.is_word_access.ensures.0 c.if-not-is_word_access.false)
    (sym c.triple_of.ensures.value ∙ same_triple c.triple_of.result c.args.triple.now (sym c.ne.ensures ∙ c.if-ne.false))
