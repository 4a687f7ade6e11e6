-- The triples are served in order, and as many are counted as were valid before the first.
use Rattle.std.proofs.Common.{◌≡◌, ◌∙◌, ap, refl}
use Rattle.m88_mem.specs.DataBus.{bus_of}
use Rattle.m88_monitor.proofs.Steps.{counted, second_kept, third_kept, third_kept_again}
use Rattle.m88_monitor.specs.Serving.{Serving, after_triple, served_access, serving_of}
use Rattle.m88_monitor.proofs.served.serve.Goals as goal

pub returns-clause-served : goal.returns-clause-served
returns-clause-served c =
    c.serve_triple-third.ensures.served
    ∙ ap (after_triple 2) (c.serve_triple-second.ensures.served ∙ ap (after_triple 1) c.serve_triple-first.ensures.served)

pub serve_triple-third-requires-clause-triple : goal.serve_triple-third-requires-clause-triple
serve_triple-third-requires-clause-triple c =
    let before : Serving = serving_of c.args.ctrl.now c.args.regs.now c.args.memory.now in
    let between : Serving =
    serving_of c.serve_triple-first.new.ctrl c.serve_triple-first.new.regs c.serve_triple-first.new.memory in
    let third : c.serve_triple-second.new.ctrl.t2 ≡ c.args.ctrl.now.t2 =
    ap (λ (s : Serving). s.control.t2) c.serve_triple-second.ensures.served
    ∙ third_kept_again between
    ∙ ap (λ (s : Serving). s.control.t2) c.serve_triple-first.ensures.served
    ∙ third_kept before in
    rw (third, c.serve_triple-second.ensures.keeps.ready ∙ c.serve_triple-first.ensures.keeps.ready) c.requires.triples.third

pub returns-clause-done : goal.returns-clause-done
returns-clause-done c =
    let before : Serving = serving_of c.args.ctrl.now c.args.regs.now c.args.memory.now in
    let between : Serving =
    serving_of c.serve_triple-first.new.ctrl c.serve_triple-first.new.regs c.serve_triple-first.new.memory in
    let second : c.serve_triple-first.new.ctrl.t1 ≡ c.args.ctrl.now.t1 =
    ap (λ (s : Serving). s.control.t1) c.serve_triple-first.ensures.served ∙ second_kept before in
    let third : c.serve_triple-second.new.ctrl.t2 ≡ c.args.ctrl.now.t2 =
    ap (λ (s : Serving). s.control.t2) c.serve_triple-second.ensures.served
    ∙ third_kept_again between
    ∙ ap (λ (s : Serving). s.control.t2) c.serve_triple-first.ensures.served
    ∙ third_kept before in
    rw (
      c.count.ensures,
      c.count-2.ensures,
      c.count-3.ensures,
      counted c.args.ctrl.now.t0 (bus_of c.args.memory.now) c.serve_triple-first.ensures.access,
      counted c.args.ctrl.now.t1 (bus_of c.serve_triple-first.new.memory)
          (c.serve_triple-second.ensures.access ∙ ap (λ t. served_access t (bus_of c.serve_triple-first.new.memory)) second),
      counted c.args.ctrl.now.t2 (bus_of c.serve_triple-second.new.memory)
          (c.serve_triple-third.ensures.access ∙ ap (λ t. served_access t (bus_of c.serve_triple-second.new.memory)) third),
    ) refl
