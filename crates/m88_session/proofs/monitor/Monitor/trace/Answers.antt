-- One event after the other, each with its line, to the last or to the end of the run.
use Rattle.std.proofs.Common.{arith, refl, rules, ◌+◌, ◌∙◌}
use Rattle.m88_session.proofs.Carrying.{carries_none}
use Rattle.m88_session.proofs.MonitorWalks.{along_next, along_start, at_on, each_next, each_none, made_all, over_on, wants_more, wants_none}
use Rattle.m88_session.proofs.Tracing.{none_told, one_told, trace_carried}
use Rattle.m88_session.specs.Session.{moment_on}
use Rattle.m88_session.specs.declared.monitor.Monitor.{Monitor}
use Rattle.m88_session.specs.declared.script.MonitorCommand.TheVariants.{Trace}
use Rattle.m88_session.proofs.monitor.Monitor.trace.Goals as goal

pub loop-made-init : goal.loop-made-init
loop-made-init g c = record {
  traces = λ d s stands. record {
    along = along_start d s (g.W.Watch.seen c.args.watch.now) c.args.self.now stands;
    each = each_none d s (Trace c.args.count);
    told = none_told d s c.args.text.now.items;
  };
  kept = refl;
}

pub loop-made-preserved : goal.loop-made-preserved
loop-made-preserved g c = record {
  traces = λ d s stands.
      let k = c.loop-made._made in
      let traces = c.loop-made.invariant.traces d s stands in
      let over = over_on d s k c.loop-made.self c.is_over.result traces.along.stands (rw c.board.ensures at c.is_over.ensures.moment) in
      let new : Monitor = record { walk = c.next.new.self; breakpoints = c.loop-made.self.breakpoints } in
      record {
        along =
            along_next d s k (g.W.Watch.seen c.args.watch.now) (g.W.Watch.seen c.loop-made.watch) (g.W.Watch.seen c.next.new.watch)
            c.loop-made.self new traces.along
            (c.in_ok-happened.ensures.goes.ok d (moment_on d s k) (at_on d s k c.loop-made.self traces.along.stands))
            c.next.ensures.goes.takes.stays c.in_ok-happened.ensures.goes.takes.taken refl;
        each = each_next d s (Trace c.args.count) k traces.each
            (wants_more d s c.args.count k c.loop-made-test.true (over ∙ c.if-is_over.false));
        told =
            one_told d s k c.letter-letter.result c.noted-before.result c.in_ok-happened.happened c.loop-made.self c.args.text.now.items
            c.loop-made.text.items c.push_event.new.text.items traces.along.stands c.letter-letter.ensures
            (rw c.board-in-loop-made.ensures at c.noted-before.ensures.before)
            c.in_ok-happened.ensures.goes.event.happens.said traces.told c.in_ok-push_event.ensures;
      };
  kept = c.loop-made.invariant.kept;
}

pub returns-then-is_over : goal.returns-then-is_over
returns-then-is_over g c = record {
  set = rw c.loop-made.invariant.kept (omega arith);
  ok = λ d s stands.
      let k = c.loop-made._made in
      let traces = c.loop-made.invariant.traces d s stands in
      let over = over_on d s k c.loop-made.self c.is_over.result traces.along.stands (rw c.board.ensures at c.is_over.ensures.moment) in
      trace_carried d s c.args.count k _ _ _ _ _ traces (wants_none d s c.args.count k (over ∙ c.if-is_over.true));
  err = tt;
}

pub returns : goal.returns
returns g c = record {
  set = rw c.loop-made.invariant.kept (omega arith);
  ok = λ d s stands.
      trace_carried d s c.args.count c.loop-made._made _ _ _ _ _ (c.loop-made.invariant.traces d s stands)
      (made_all d s c.args.count c.loop-made._made c.loop-made-test.false);
  err = tt;
}

pub returns-in_err-happened : goal.returns-in_err-happened
returns-in_err-happened g c = carries_none (Trace c.args.count) _ _ _ _ _ _ c.from_residual.result (search rules) (λ d s stands.
    let traces = c.loop-made.invariant.traces d s stands in
    record {
      events = c.loop-made._made;
      each = traces.each;
      saw = rw c.in_err-happened.ensures.unseen traces.along.saw;
    })

pub returns-in_err-push_event : goal.returns-in_err-push_event
returns-in_err-push_event g c =
    carries_none (Trace c.args.count) _ _ _ _ _ _ c.from_residual-in_err-push_event.result (search rules) (λ d s stands.
    let k = c.loop-made._made in
    let traces = c.loop-made.invariant.traces d s stands in
    let over = over_on d s k c.loop-made.self c.is_over.result traces.along.stands (rw c.board.ensures at c.is_over.ensures.moment) in
    let new : Monitor = record { walk = c.next.new.self; breakpoints = c.loop-made.self.breakpoints } in
    let along = along_next d s k (g.W.Watch.seen c.args.watch.now) (g.W.Watch.seen c.loop-made.watch) (g.W.Watch.seen c.next.new.watch)
    c.loop-made.self new traces.along
    (c.in_ok-happened.ensures.goes.ok d (moment_on d s k) (at_on d s k c.loop-made.self traces.along.stands))
    c.next.ensures.goes.takes.stays c.in_ok-happened.ensures.goes.takes.taken refl in
    record {
      events = k + 1;
      each = each_next d s (Trace c.args.count) k traces.each
          (wants_more d s c.args.count k c.loop-made-test.true (over ∙ c.if-is_over.false));
      saw = along.saw;
    })
