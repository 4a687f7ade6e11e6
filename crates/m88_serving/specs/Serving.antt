-- What a handler of the data access exception finds, and what it must come to ("Exception Processing": data access
-- exception): the service of `m88`'s monitor.
use Rattle.std.specs.Prelude.{ℕ, false, List, [], ◌∷◌, replicate}
use Rattle.m88_base.specs.Pages.{no_page}
use Rattle.m88_ctrl.specs.ControlRegisters.{ControlRegisters, at_start, entered}
use Rattle.m88_event.specs.declared.record.Record.{Record}
use Rattle.m88_isa.specs.Bus.{with_word}
use Rattle.m88_monitor.specs.Serving.{Serving}
use Rattle.m88_serving.specs.Cases.{Case}

-- the control registers that a data fault with a record leaves
abbrev pub control_left : Record → ControlRegisters
control_left r =
    entered (record { ssbr = r.ssbr; sxip = r.sxip; snip = r.snip; sfip = r.sfip; triples = r.triples })
    (record (at_start false) { psr = r.epsr })

-- data memory once words are put into it, in order
unfoldable pub with_words : (ℕ → ℕ) → List (ℕ × ℕ) → ℕ → ℕ
with_words bus [] = bus
with_words bus (word ∷ words) = with_words (with_word bus word.0 word.1) words

-- data memory with these words, and 0 elsewhere
abbrev pub named_bus : List (ℕ × ℕ) → ℕ → ℕ
named_bus words = with_words (λ address. 0) words

-- what a handler finds behind a fault with a record, over data memory: the registers aren't told, and count as 0
abbrev pub serving_with : Record → (ℕ → ℕ) → Serving
serving_with r bus = record { control = control_left r; numbers = replicate 32 0; bus = bus; absent = no_page }

-- what it finds in a case
abbrev pub serving_of_case : Case → Serving
serving_of_case c = serving_with c.fault (named_bus c.words)
