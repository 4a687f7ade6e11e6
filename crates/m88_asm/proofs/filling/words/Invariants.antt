-- What the loop of `words` keeps.
use Rattle.std.proofs.Common.{◌≡◌, ◌++◌, length, drop, flat_map}
use Rattle.std.specs.Int.{to_be_bytes, w32}
use Rattle.m88_asm.specs.Inside.Drafts.{with_bytes}
use Rattle.m88_asm.specs.Filled.{waiting_word}
use Rattle.m88_asm.specs.Objects.{uses_in_values}
use Rattle.m88_asm.proofs.filling.words.Given as goal

-- the bytes and uses so far, with those of the words to come, are all that there will be
abbrev pub invariant-loop-value : goal.invariant-loop-value
invariant-loop-value l =
    (with_bytes l.section (flat_map (λ v. to_be_bytes w32 (waiting_word v)) (drop l.value-index l.values))
    ≡ with_bytes l.fn.section (flat_map (λ v. to_be_bytes w32 (waiting_word v)) l.values))
    × (l.uses.items ++ uses_in_values l.number (length l.section.bytes) l.line (drop l.value-index l.values)
    ≡ l.fn.uses.items ++ uses_in_values l.number (length l.fn.section.bytes) l.line l.values)
