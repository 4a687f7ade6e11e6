-- The line of the word, or of the byte.
use Rattle.std.proofs.Common.{refl}
use Rattle.m88_disasm.proofs.Lines.{byte_first, word_first}
use Rattle.m88_disasm.proofs.lister.push_first.Goals as goal

pub returns-in_ok-push_word-clause-appended : goal.returns-in_ok-push_word-clause-appended
returns-in_ok-push_word-clause-appended c =
    word_first c.args.at _ c.args.bytes.now _ _ (c.if-begins_word.ensures.0 refl) c.word_at.ensures.value
    c.in_ok-push_word.ensures.line

pub returns-in_ok-push_byte-clause-appended : goal.returns-in_ok-push_byte-clause-appended
returns-in_ok-push_byte-clause-appended c =
    byte_first c.args.at c.args.bytes.now _ _ c.requires (λ begins. let e = c.if-begins_word.ensures.1 begins in cc)
    c.in_ok-push_byte.ensures
