use Rattle.std.proofs.Common.{ℕ, List, ◌++◌, ◌≡◌, arith, ap, refl, sym, ◌∙◌}
use Rattle.std.specs.Prelude.{is_some}
use Rattle.m88_board.specs.Board.{local_of}
use Rattle.m88_isa.specs.ImageProgram.{IsProgramOf}
use Rattle.m88_isa.specs.Machine.{Program}
use Rattle.m88_mem.specs.DataBus.{bus_of}
use Rattle.m88_emul.proofs.OnBoards.{board_done, board_joins, board_stays, keeps_run, none_joins, numbers_are, ok_then, place_is, pushed, same_aid, task_aid, unread_no_aid, word_aid, word_no_aid}
use Rattle.m88_emul.specs.Aid.{Aid}
use Rattle.m88_emul.specs.Extended.{byte_seen}
use Rattle.m88_emul.specs.Inside.Settled.{completed_by}
use Rattle.m88_emul.specs.declared.emulation.Emulation.{Emulation}
use Rattle.m88_emul.proofs.running.settle.Goals as goal

pub returns-in_default : goal.returns-in_default
returns-in_default c =
    let kept = c.events-event.ensures.kept in
    let ended = c.requires.ended.1 in
    let here = place_is c.args.board _ _ _ kept ended c.candidate-at.ensures.value c.iunit.ensures.value in
    let none = λ (p : Program) (of : IsProgramOf c.args.board.memory.image p). unread_no_aid p c.args.board c.args.vector c.requires.ended.0 c.candidate-at.result.addr of kept ended here c.in_default.ensures.value in
    record {
      run = keeps_run c.args.board c.requires.limit_is c.requires.clear;
      settled_is = λ p of. sym (board_stays p c.args.board (none p of));
      emulated = λ p of. sym (none_joins p c.args.board c.args.emulated.now.items (none p of));
    }

pub returns-in_default-task_in : goal.returns-in_default-task_in
returns-in_default-task_in c =
    let kept = c.events-event.ensures.kept in
    let ended = c.requires.ended.1 in
    let here = place_is c.args.board _ _ _ kept ended c.candidate-at.ensures.value c.iunit.ensures.value in
    let values = numbers_are c.args.board c.numbers.result.now _ c.regfile.ensures.value c.numbers.ensures in
    let none = λ (p : Program) (of : IsProgramOf c.args.board.memory.image p).
    word_no_aid p c.args.board c.args.vector c.requires.ended.0 c.candidate-at.result.addr c.in-Some.word c.numbers.result.now of kept ended here values
    c.candidate-at.ensures.word (omega arith) c.in-Some.ensures.value
    (λ j is bytes. ap is_some (c.in_default-task_in.ensures.none refl j is bytes)) in
    record {
      run = keeps_run c.args.board c.requires.limit_is c.requires.clear;
      settled_is = λ p of. sym (board_stays p c.args.board (none p of));
      emulated = λ p of. sym (none_joins p c.args.board c.args.emulated.now.items (none p of));
    }

pub mend-requires : goal.mend-requires
mend-requires c = record { limit_is = c.requires.limit_is; ended = ap is_some c.requires.ended.1; clear = c.requires.clear }

pub returns : goal.returns
returns c =
    let kept = c.events-event.ensures.kept in
    let ended = c.requires.ended.1 in
    let here = place_is c.args.board _ _ _ kept ended c.candidate-at.ensures.value c.iunit.ensures.value in
    let values = numbers_are c.args.board c.numbers.result.now _ c.regfile.ensures.value c.numbers.ensures in
    let some = c.in-Some-task_in.ensures.some in
    let bytes : ℕ → ℕ = byte_seen (bus_of c.args.board.memory) in
    let aided = λ (p : Program) (of : IsProgramOf c.args.board.memory.image p).
    word_aid p c.args.board c.args.vector c.candidate-at.result.addr c.in-Some.word c.numbers.result.now of here values
    c.candidate-at.ensures.word (omega arith) c.in-Some.ensures.value
    (task_aid c.in-Some-task_in.task c.in-Some.word c.args.vector c.numbers.result.now some) some.0 some.1 in
    ok_then c.mend.result c.mend.ensures (λ b on. record {
      run = on.run;
      settled_is = λ p of.
          let h = aided p of in
          let same = same_aid some.0 h.i c.in-Some.word c.args.vector c.numbers.result.now c.args.board.file.numbers bytes bytes _ h.aid
          some.1 h.is values refl (some.2 bytes) h.by_word in
          on.mended
          ∙ ap (λ (a : Aid). completed_by a (local_of c.args.board)) same
          ∙ sym (board_done p c.args.board c.args.vector c.requires.ended.0 h.aid of kept ended h.there);
      emulated = λ p of.
          let h = aided p of in
          pushed c.args.emulated.now.items c.note.new.emulated.items c.events-event.result c.args.board.events c.candidate-at.result.addr _ c.args.vector
          c.in_ok-note.ensures c.events-event.ensures.value here
          ∙ ap (λ (xs : List Emulation). c.args.emulated.now.items ++ xs)
          (sym (board_joins p c.args.board c.args.vector c.requires.ended.0 h.aid of kept ended h.there));
    })
