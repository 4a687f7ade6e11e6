-- The lines of the input: those of a data fault's record and those of words of data memory, as `m88` writes them.
use Rattle.std.specs.Prelude.{ℕ, ◌%◌, ◌==◌, List, Option, Some, None, bytes_eq, codes, drop, length, option_and_then, option_map, take, if◌then◌else◌}
use Rattle.m88_base.specs.Hex.{hex8_of}
use Rattle.m88_base.specs.declared.triple.Triple.{Triple}
use Rattle.m88_serving.specs.declared.lines.StatusLine.{StatusLine}

-- what stands behind a text that begins another
unfoldable pub behind_front : List ℕ → List ℕ → Option (List ℕ)
behind_front front text =
    if bytes_eq (take (length front) text) front then Some (drop (length front) text) else None

-- the word in the eight digits that begin a text, and what stands behind them
abbrev pub word_first : List ℕ → Option (ℕ × List ℕ)
word_first text = option_map (λ n. (n, drop 8 text)) (hex8_of (take 8 text))

-- the word behind a text that begins another, and what stands behind it
unfoldable pub word_after : List ℕ → List ℕ → Option (ℕ × List ℕ)
word_after front text = option_and_then word_first (behind_front front text)

-- a word with nothing behind it
abbrev pub alone : ℕ × List ℕ → Option ℕ
alone word = if length word.1 == 0 then Some word.0 else None

-- the word behind a text that begins another, where it ends the text
unfoldable pub last_word : List ℕ → List ℕ → Option ℕ
last_word front text = option_and_then alone (word_after front text)

-- the status that a line tells: EPSR, the three instruction pointers and SSBR
unfoldable pub status_in : List ℕ → Option StatusLine
status_in line =
    option_and_then (λ epsr.
    option_and_then (λ sxip.
    option_and_then (λ snip.
    option_and_then (λ sfip.
    option_map (λ ssbr. record { epsr = epsr.0; sxip = sxip.0; snip = snip.0; sfip = sfip.0; ssbr = ssbr })
    (last_word (codes " ssbr ") sfip.1))
    (word_after (codes " sfip ") snip.1))
    (word_after (codes " snip ") sxip.1))
    (word_after (codes " sxip ") epsr.1))
    (word_after (codes "epsr ") line)

-- the words of the transaction that a line tells behind its name
unfoldable pub triple_in : List ℕ → List ℕ → Option Triple
triple_in name line =
    option_and_then (λ dmt.
    option_and_then (λ dmd.
    option_map (λ dma. record { dmt = dmt.0; dmd = dmd.0; dma = dma })
    (last_word (codes " ") dmd.1))
    (word_after (codes " ") dmt.1))
    (word_after name line)

-- an address with what it names, where it is that of a word
abbrev pub at_word : ℕ → ℕ → Option (ℕ × ℕ)
at_word address value = if address % 4 == 0 then Some (address, value) else None

-- the address and the value of the word of data memory that a line tells
unfoldable pub named_word_in : List ℕ → Option (ℕ × ℕ)
named_word_in line =
    option_and_then (λ address. option_and_then (at_word address.0) (last_word (codes " ") address.1))
    (word_after (codes "mem ") line)
