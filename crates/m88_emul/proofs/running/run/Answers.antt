-- Along the letters of the run, to the moment at which it is over.
use Rattle.std.proofs.Common.{rules, [], ℕ, List, ◌≡◌, ◌++◌, false, true, arith, add-one, sym, ap, ap₂, subst, ◌∙◌}
use Rattle.std.proofs.lemmas.List.{append-nil}
use Rattle.m88_base.specs.Image.{ProgramImage}
use Rattle.m88_ctrl.specs.ControlRegisters.{mxm_of}
use Rattle.m88_event.proofs.Laws.{weight_at_start}
use Rattle.m88_event.specs.Local.{Local, is_over_by, move}
use Rattle.m88_event.specs.declared.letter.Letter.{Letter}
use Rattle.m88_isa.proofs.Laws.{program_of_image}
use Rattle.m88_isa.specs.ImageProgram.{IsProgramOf}
use Rattle.m88_isa.specs.Machine.{Program}
use Rattle.m88_mem.specs.Marks.{absent_in}
use Rattle.m88_board.specs.Board.{local_of}
use Rattle.m88_event.specs.declared.outcome.Outcome.{Outcome}
use Rattle.m88_emul.proofs.OnBoards.{came_to, over_empty}
use Rattle.m88_emul.proofs.Unaided.{plain_unaided}
use Rattle.m88_emul.proofs.Weighing.{lighter}
use Rattle.m88_emul.proofs.Walks.{IsThere, one_outcome, opens_empty, there_first, there_next, there_over}
use Rattle.m88_emul.specs.Inside.Settled.{newly_emulated, settled}
use Rattle.m88_emul.specs.declared.emulation.Emulation.{Emulation}
use Rattle.m88_emul.proofs.running.run.Goals as goal
use Rattle.m88_event.specs.Timeline.{run_with}

pub loop-board-init : goal.loop-board-init
loop-board-init c =
    let made = c.in_ok-board.ensures in
    let p = c.new.ensures.program.0 in
    let of = c.new.ensures.program.1 in
    let clear = c.new.ensures.program.2 in
    let empty = opens_empty _ (local_of c.in_ok-board.board) (made.at p c.args.schedule.now of clear).seen in
    let none : c.in_ok-emulated.emulated.items ≡ [] = search rules in
    let start = weight_at_start c.args.limit c.args.schedule.now (local_of c.in_ok-board.board) empty in
    record {
      limit = made.limit;
      clear = ap mxm_of made.control;
      image = made.image;
      counted = made.events;
      room = omega (arith, start);
      there = λ p of clear. there_first _ _ _ (made.at p c.args.schedule.now of clear).seen none;
    }

-- which takes something off the weight
pub loop-board-smaller : goal.loop-board-smaller
loop-board-smaller c =
    let inv = c.loop-board.invariant in
    let event = c.in_ok-ended.ensures in
    let old = c.loop-board.board in
    let new = c.advance.new.board in
    let goes : is_over_by c.args.limit (local_of old) ≡ false =
    ap (λ (n : ℕ). is_over_by n (local_of old)) (sym inv.limit) ∙ sym c.is_over.ensures.value ∙ c.loop-board-test.true in
    lighter c.args.schedule.now c.args.limit c.loop-board.taken c.letter_at.result old new (local_of new)
    event.kept.0 event.kept.1 inv.limit (event.same.limit ∙ inv.limit) goes c.letter_at.ensures event.moved
    (λ p of. sym (event.alone c.in_default.is p of).0 ∙ ap (settled p) (event.moved p of))

pub loop-board-smaller-in-Some : goal.loop-board-smaller-in-Some
loop-board-smaller-in-Some c =
    let inv = c.loop-board.invariant in
    let event = c.in_ok-ended.ensures in
    let done = c.in_ok-board-2.ensures in
    let old = c.loop-board.board in
    let mid = c.advance.new.board in
    let goes : is_over_by c.args.limit (local_of old) ≡ false =
    ap (λ (n : ℕ). is_over_by n (local_of old)) (sym inv.limit) ∙ sym c.is_over.ensures.value ∙ c.loop-board-test.true in
    let after = λ (p : Program) (of : IsProgramOf old.memory.image p).
    subst (λ (image : ProgramImage). IsProgramOf image p) (sym event.same.image) of in
    lighter c.args.schedule.now c.args.limit c.loop-board.taken c.letter_at.result old mid (local_of c.in_ok-board-2.board)
    event.kept.0 event.kept.1 inv.limit (event.same.limit ∙ inv.limit) goes c.letter_at.ensures event.moved
    (λ p of. done.settled_is p (after p of) ∙ ap (settled p) (event.moved p of))

-- behind an event, with what software makes of it
pub loop-board-preserved : goal.loop-board-preserved
loop-board-preserved c =
    let inv = c.loop-board.invariant in
    let event = c.in_ok-ended.ensures in
    let old = c.loop-board.board in
    let new = c.advance.new.board in
    let xs = c.loop-board.emulated.items in
    let goes : is_over_by c.args.limit (local_of old) ≡ false =
    ap (λ (n : ℕ). is_over_by n (local_of old)) (sym inv.limit) ∙ sym c.is_over.ensures.value ∙ c.loop-board-test.true in
    let less = loop-board-smaller c in
    let room = inv.room in
    let before = inv.counted in
    let counted = event.counted in
    record {
      limit = event.same.limit ∙ inv.limit;
      clear = event.same.mxm ∙ inv.clear;
      image = event.same.image ∙ inv.image;
      counted = omega (arith, before, counted);
      room = omega (arith, room, less);
      there = λ p of clear.
          let here = subst (λ (image : ProgramImage). IsProgramOf image p) (sym inv.image) of in
          let moved = event.moved p here
          ∙ ap (λ (x : Letter). move p c.args.limit x (local_of old)) c.letter_at.ensures in
          let alone = event.alone c.in_default.is p here in
          subst (λ (n : ℕ). IsThere (run_with p (absent_in c.args.absent.now) c.args.limit c.args.schedule.now) n (local_of new) xs)
          (sym (add-one c.loop-board.taken))
          (there_next _ c.loop-board.taken (local_of old) _ _ _
          (program_of_image c.args.image.now p c.new.ensures.is_image of) (inv.there p of clear) goes
          (sym alone.0 ∙ ap (settled p) moved)
          (sym (append-nil xs) ∙ ap (λ (ys : List Emulation). xs ++ ys) (sym alone.1 ∙ ap (newly_emulated p) moved)));
    }

pub loop-board-preserved-in-Some : goal.loop-board-preserved-in-Some
loop-board-preserved-in-Some c =
    let inv = c.loop-board.invariant in
    let event = c.in_ok-ended.ensures in
    let done = c.in_ok-board-2.ensures in
    let old = c.loop-board.board in
    let mid = c.advance.new.board in
    let xs = c.loop-board.emulated.items in
    let goes : is_over_by c.args.limit (local_of old) ≡ false =
    ap (λ (n : ℕ). is_over_by n (local_of old)) (sym inv.limit) ∙ sym c.is_over.ensures.value ∙ c.loop-board-test.true in
    let after = λ (p : Program) (of : IsProgramOf old.memory.image p).
    subst (λ (image : ProgramImage). IsProgramOf image p) (sym event.same.image) of in
    let less = loop-board-smaller-in-Some c in
    let room = inv.room in
    let before = inv.counted in
    let counted = event.counted in
    let kept = done.run.counted in
    record {
      limit = done.run.limit_is;
      clear = done.run.clear;
      image = done.run.image ∙ event.same.image ∙ inv.image;
      counted = omega (arith, before, counted, kept);
      room = omega (arith, room, less);
      there = λ p of clear.
          let here = subst (λ (image : ProgramImage). IsProgramOf image p) (sym inv.image) of in
          let moved = event.moved p here
          ∙ ap (λ (x : Letter). move p c.args.limit x (local_of old)) c.letter_at.ensures in
          subst (λ (n : ℕ). IsThere (run_with p (absent_in c.args.absent.now) c.args.limit c.args.schedule.now) n
          (local_of c.in_ok-board-2.board) c.settle.new.emulated.items) (sym (add-one c.loop-board.taken))
          (there_next _ c.loop-board.taken (local_of old) _ _ _
          (program_of_image c.args.image.now p c.new.ensures.is_image of) (inv.there p of clear) goes
          (done.settled_is p (after p here) ∙ ap (settled p) moved)
          (done.emulated p (after p here) ∙ ap (λ (l : Local). xs ++ newly_emulated p l) moved));
    }

pub returns-clause-only : goal.returns-clause-only
returns-clause-only c = λ r o other. one_outcome r o other

pub returns-clause-outcome : goal.returns-clause-outcome
returns-clause-outcome c = λ p of clear.
    let inv = c.loop-board.invariant in
    let over : is_over_by c.args.limit (local_of c.loop-board.board) ≡ true =
    ap (λ (n : ℕ). is_over_by n (local_of c.loop-board.board)) (sym inv.limit) ∙ sym c.is_over.ensures.value ∙ c.loop-board-test.false in
    let here = subst (λ (image : ProgramImage). IsProgramOf image p) (sym inv.image) of in
    there_over _ c.loop-board.taken (local_of c.loop-board.board)
    c.loop-board.emulated.items _ (inv.there p of clear) over
    (ap₂ (λ (o : Outcome) (xs : List Emulation). record { outcome = o; emulated = xs })
    (came_to p c.loop-board.board _ here (c.in_ok-outcome.ensures.value (over_empty c.args.limit c.loop-board.board over)))
    c.new-2.ensures)

pub returns-clause-plain : goal.returns-clause-plain
returns-clause-plain c = λ p of clear.
    plain_unaided _ _ (returns-clause-outcome c p of clear)

pub returns-clause-within : goal.returns-clause-within
returns-clause-within c =
    let inv = c.loop-board.invariant in
    let room = inv.room in
    let counted = inv.counted in
    let events = c.in_ok-outcome.ensures.events in
    omega (arith, room, counted, events)

pub advance-requires : goal.advance-requires
advance-requires c =
    let inv = c.loop-board.invariant in
    let room = c.loop-board.invariant.room in
    let counted = c.loop-board.invariant.counted in
    let value = c.len.ensures.value in
    let bound = c.len.ensures.bound in
    let small = c.requires.small in
    record {
      limit_is = inv.limit;
      going =
          ap (λ (n : ℕ). is_over_by n (local_of c.loop-board.board)) (sym inv.limit) ∙ sym c.is_over.ensures.value ∙ c.loop-board-test.true;
      few = omega (arith, room, counted, value, bound, small);
    }
