-- One line after the other, to the last.
use Rattle.std.proofs.Common.{ℕ, suc, List, ◌++◌, ◌-◌, ◌+◌, ◌≡◌, ◌∙◌, ap, append_assoc, append-nil, arith, flat_map, sym}
use Rattle.m88_isa.specs.Address.{after_bytes, word_address}
use Rattle.m88_mem.specs.DataBus.{bus_of}
use Rattle.m88_report.specs.Report.{word_line}
use Rattle.m88_board.proofs.Laws.{words_seen}
use Rattle.m88_session.specs.MonitorLines.{words_from, words_text}
use Rattle.m88_session.proofs.monitor.showing.push_words.Goals as goal

-- one word more is written
one_word : (bus : ℕ → ℕ) (a n k : ℕ) (text : List ℕ) → n ≡ suc k
    → (text ++ word_line (a, bus a)) ++ flat_map word_line (words_from bus (after_bytes a 4) k)
    ≡ text ++ flat_map word_line (words_from bus a n)
unfolding words_from
one_word bus a n k text e =
    append_assoc text (word_line (a, bus a)) (flat_map word_line (words_from bus (after_bytes a 4) k))
    ∙ ap (λ j. text ++ flat_map word_line (words_from bus a j)) (sym e)

-- and none
no_word : (bus : ℕ → ℕ) (a n : ℕ) (text : List ℕ) → n ≡ 0 → text ≡ text ++ flat_map word_line (words_from bus a n)
unfolding words_from
no_word bus a n text e = sym (append-nil text) ∙ ap (λ j. text ++ flat_map word_line (words_from bus a j)) (sym e)

pub loop-line-preserved : goal.loop-line-preserved
loop-line-preserved c =
    let bus = bus_of c.args.board.now.memory in
    let aligned = c.loop-line.invariant.aligned in
    let test = c.loop-line-test.true in
    let said : c.push_word.new.text.items ≡ c.loop-line.text.items ++ word_line (c.loop-line.at, bus c.loop-line.at) =
    c.in_ok-push_word.ensures ∙ ap (λ word. c.loop-line.text.items ++ word_line (c.loop-line.at, word)) c.word.ensures.value in
    record {
      aligned = omega (arith, aligned);
      sofar = ap (λ (front : List ℕ). front ++ flat_map word_line (words_from bus (after_bytes c.loop-line.at 4) (c.args.count - (c.loop-line._line + 1)))) said
          ∙ one_word bus c.loop-line.at (c.args.count - c.loop-line._line) (c.args.count - (c.loop-line._line + 1)) c.loop-line.text.items (omega (arith, test))
          ∙ c.loop-line.invariant.sofar;
    }

pub returns-clause-value : goal.returns-clause-value
returns-clause-value c =
    let test = c.loop-line-test.false in
    no_word (bus_of c.args.board.now.memory) c.loop-line.at (c.args.count - c.loop-line._line) c.loop-line.text.items (omega (arith, test))
    ∙ c.loop-line.invariant.sofar

pub returns-clause-moment : goal.returns-clause-moment
unfolding words_text
returns-clause-moment c = λ r m at.
    returns-clause-value c
    ∙ ap (λ (bus : ℕ → ℕ). c.args.text.now.items ++ flat_map word_line (words_from bus (word_address c.args.address) c.args.count))
    (words_seen r m c.args.board.now at)
