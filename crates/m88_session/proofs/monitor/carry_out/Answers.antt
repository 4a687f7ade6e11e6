-- One command after the other, on a board that stands at the first moment of the program that the image holds.
use Rattle.std.proofs.Common.{[], ℕ, List, ap, arith, length, rules, sym, subst, ◌∙◌}
use Rattle.m88_board.proofs.Laws.{saw_none}
use Rattle.m88_board.specs.Board.{BoardView}
use Rattle.m88_board.specs.Moves.{IsAt}
use Rattle.m88_event.specs.Timeline.{opening_moment}
use Rattle.m88_session.proofs.Carrying.{IsCarrying, carry_broke, carry_end, carry_next, carry_start, room_here, room_next}
use Rattle.m88_session.proofs.InputSessions.{no_session_front}
use Rattle.m88_session.proofs.Unmade.{goes_none}
use Rattle.m88_session.specs.Settings.{run_by, settings_in}
use Rattle.m88_session.specs.Session.{opening_session}
use Rattle.m88_session.specs.declared.monitor.Monitor.{Monitor}
use Rattle.m88_session.proofs.monitor.carry_out.Goals as goal

pub returns-in_err-board : goal.returns-in_err-board
returns-in_err-board g c =
    goes_none c.from_residual.result (search rules) c.new.ensures.is_image (λ p of mode. record {
      glances = [];
      is_front = no_session_front (run_by p (settings_in c.args.settings.now)) c.args.commands.now opening_session;
      saw = saw_none (g.W.Watch.seen c.args.watch.now);
    })

pub loop-command-init : goal.loop-command-init
loop-command-init g c =
    let s = settings_in c.args.settings.now in
    let begun : Monitor = record { walk = c.new-2.result; breakpoints = c.new-3.result } in
    let none = ap (λ (xs : List ℕ). length xs) c.new-3.ensures in
    record {
      carrying = λ p of mode.
          subst (λ t. IsCarrying (run_by p s) c.args.commands.now opening_session 0
          (g.W.Watch.seen c.args.watch.now) (g.W.Watch.seen c.args.watch.now) t begun) (sym c.new-text.ensures.items)
          (carry_start (run_by p s) c.args.commands.now opening_session (g.W.Watch.seen c.args.watch.now) begun (record {
            schedule = c.new-2.ensures.schedule;
            at = subst (λ (b : BoardView). IsAt (run_by p s) opening_moment b) (sym c.new-2.ensures.board)
                (c.in_ok-board.ensures.at p s.schedule of mode);
            taken = c.new-2.ensures.taken;
            breakpoints = c.new-3.ensures;
          }));
      room = omega (arith, none, c.requires.breaks);
    }

pub loop-command-preserved : goal.loop-command-preserved
loop-command-preserved g c =
    let s = settings_in c.args.settings.now in
    record {
      carrying = λ p of mode.
          let carrying = c.loop-command.invariant.carrying p of mode in
          carry_next (run_by p s) c.args.commands.now _ opening_session c.loop-command.command-index
          (g.W.Watch.seen c.args.watch.now) (g.W.Watch.seen c.loop-command.watch) (g.W.Watch.seen c.carry.new.watch) c.loop-command.text.items
          c.carry.new.text.items c.loop-command.monitor c.carry.new.self c.loop-command-test.true carrying
          (c.in_ok-carry.ensures.ok (run_by p s) carrying.session carrying.stands);
      room = room_next c.args.commands.now _ c.loop-command.command-index (length c.loop-command.monitor.breakpoints.items)
          (length c.carry.new.self.breakpoints.items) c.loop-command-test.true c.loop-command.invariant.room c.in_ok-carry.ensures.set;
    }

pub carry-requires : goal.carry-requires
carry-requires g c =
    room_here c.args.commands.now _ c.loop-command.command-index (length c.loop-command.monitor.breakpoints.items)
    c.loop-command-test.true c.loop-command.invariant.room

pub returns-in_err-carry : goal.returns-in_err-carry
returns-in_err-carry g c =
    let s = settings_in c.args.settings.now in
    goes_none c.from_residual-in_err-carry.result (search rules) c.new.ensures.is_image (λ p of mode.
    let carrying = c.loop-command.invariant.carrying p of mode in
    let broke = carry_broke (run_by p s) c.args.commands.now _ opening_session c.loop-command.command-index
    (g.W.Watch.seen c.args.watch.now) (g.W.Watch.seen c.loop-command.watch) (g.W.Watch.seen c.carry.new.watch) c.loop-command.text.items
    c.loop-command.monitor c.loop-command-test.true carrying
    (c.in_err-carry.ensures.err (run_by p s) carrying.session carrying.stands) in
    record { glances = broke.0; is_front = broke.1; saw = broke.2 })

pub returns : goal.returns
returns g c =
    let s = settings_in c.args.settings.now in
    record {
      is_image = c.new.ensures.is_image;
      made = λ p of mode.
          let ended = carry_end (run_by p s) c.args.commands.now opening_session c.loop-command.command-index
          (g.W.Watch.seen c.args.watch.now) (g.W.Watch.seen c.loop-command.watch) c.loop-command.text.items c.loop-command.monitor
          c.loop-command-test.false (c.loop-command.invariant.carrying p of mode) in
          record { glances = ended.0; is_session = ended.1; saw = ended.2 };
      front = tt;
    }
