-- A name's mnemonic is found among those of its first letter.
use Rattle.std.proofs.Common.{sym, ap, ◌∙◌}
use Rattle.std.specs.Prelude.{List, find}
use Rattle.std.specs.Str.{bytes_eq}
use Rattle.m88_isa.specs.Mnemonic.{text_of}
use Rattle.m88_isa.specs.declared.mnemonic.Mnemonic.{Mnemonic}
use Rattle.m88_isa.proofs.Spelling.{lettered, letterless}
use Rattle.m88_isa.proofs.mnemonic.Mnemonic.from_text.Goals as goal

pub returns-in_err-letter-clause-only : goal.returns-in_err-letter-clause-only
returns-in_err-letter-clause-only c m same =
    c.from_residual.ensures ∙ letterless c.args.name.now m (sym c.in_err-letter.ensures.value) same

pub returns-clause-only : goal.returns-clause-only
returns-clause-only c m same =
    c.spelled.ensures.value
    ∙ ap (λ (ms : List Mnemonic). find (λ k. bytes_eq (text_of k) c.args.name.now) ms) c.begun_with.ensures
    ∙ lettered c.args.name.now c.in_ok-letter.field-0.now m (sym c.in_ok-letter.ensures.value) same
