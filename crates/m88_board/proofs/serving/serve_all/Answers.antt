-- The monitor finishes the pending transactions.
use Rattle.std.proofs.Common.{◌∙◌, ap, subst, sym, List, ℕ, rules}
use Rattle.std.specs.Prelude.{slice_index_or}
use Rattle.m88_base.specs.Triple.{no_triple}
use Rattle.m88_base.specs.declared.triple.Triple.{Triple}
use Rattle.m88_ctrl.specs.ControlRegisters.{ControlRegisters}
use Rattle.m88_ctrl.specs.declared.frame.Frame.{Frame}
use Rattle.m88_isa.specs.Bus.{after_accesses}
use Rattle.m88_mem.specs.DataBus.{bus_of, ready_of}
use Rattle.m88_monitor.proofs.Laws.{served_cells}
use Rattle.m88_monitor.specs.Serving.{Serving, serving_of}
use Rattle.m88_board.proofs.Waiting.{no_members}
use Rattle.m88_board.proofs.Recorded.{IsServed, rest_served, served_control, shows_fault}
use Rattle.m88_board.proofs.Service.{can_serve, served_absent}
use Rattle.m88_board.specs.Shown.{rest_of}
use Rattle.m88_board.proofs.serving.serve_all.Goals as goal

pub serve-served-requires-clause-triples : goal.serve-served-requires-clause-triples
serve-served-requires-clause-triples c =
    let ready = ready_of c.args.memory.now in
    let made = c.requires.agree.made in
    record {
      first = can_serve ready c.args.unit.now 0 c.enter.new.self.t0
          (ap (λ (r : ControlRegisters). r.t0) c.enter.ensures.state ∙ ap (λ (ts : List Triple). slice_index_or ts 0 no_triple) c.freeze-triples.ensures.value)
          made c.requires.agree.ready;
      second = can_serve ready c.args.unit.now 1 c.enter.new.self.t1
          (ap (λ (r : ControlRegisters). r.t1) c.enter.ensures.state ∙ ap (λ (ts : List Triple). slice_index_or ts 1 no_triple) c.freeze-triples.ensures.value)
          made c.requires.agree.ready;
      third = can_serve ready c.args.unit.now 2 c.enter.new.self.t2
          (ap (λ (r : ControlRegisters). r.t2) c.enter.ensures.state ∙ ap (λ (ts : List Triple). slice_index_or ts 2 no_triple) c.freeze-triples.ensures.value)
          made c.requires.agree.ready;
    }

pub returns : goal.returns
returns c =
    let unit = c.args.unit.now in
    let agree = c.requires.agree in
    let before : Serving = serving_of c.enter.new.self c.restore.new.self c.args.memory.now in
    let state = c.enter.ensures.state in
    let served = c.serve-served.ensures.served in
    let t0 = ap (λ (r : ControlRegisters). r.t0) state ∙ ap (λ (ts : List Triple). slice_index_or ts 0 no_triple) c.freeze-triples.ensures.value in
    let t1 = ap (λ (r : ControlRegisters). r.t1) state ∙ ap (λ (ts : List Triple). slice_index_or ts 1 no_triple) c.freeze-triples.ensures.value in
    let t2 = ap (λ (r : ControlRegisters). r.t2) state ∙ ap (λ (ts : List Triple). slice_index_or ts 2 no_triple) c.freeze-triples.ensures.value in
    record {
      pending = search rules;
      cells = ap (λ (s : Serving). record { regs = s.numbers; bus = s.bus }) served
          ∙ served_cells unit before t0 t1 t2 agree.made agree.few
          ∙ ap (λ (numbers : List ℕ). after_accesses unit (record { regs = numbers; bus = bus_of c.args.memory.now })) c.restore.ensures.numbers;
      waiting = c.serve-served.ensures.keeps.waiting ∙ c.restore.ensures.waiting ∙ no_members;
      absent = ap (λ (s : Serving). s.absent) served ∙ served_absent unit before t0 t1 t2 agree.made agree.few;
      image = search rules;
      psr = search rules;
      counted = search rules;
      snip = search rules;
      sfip = search rules;
      shows = λ of.
          shows_fault c.args.fault unit c.args.ctrl.now c.enter.new.self c.serve-served.new.ctrl c.rte-restart.new.self of
          (ap (λ (r : ControlRegisters). r.epsr) state)
          (ap (λ (r : ControlRegisters). r.sxip) state ∙ ap (λ (f : Frame). f.sxip) c.frame_of.ensures)
          (ap (λ (r : ControlRegisters). r.snip) state ∙ ap (λ (f : Frame). f.snip) c.frame_of.ensures)
          (ap (λ (r : ControlRegisters). r.sfip) state ∙ ap (λ (f : Frame). f.sfip) c.frame_of.ensures)
          t0 t1 t2
          (subst (λ (s : Serving). IsServed c.enter.new.self s.control) (sym served)
          (served_control unit before t0 t1 t2 agree.made agree.few agree.apart
          (ap (λ (r : ControlRegisters). r.ssbr) state ∙ ap (λ (f : Frame). f.ssbr) c.frame_of.ensures ∙ of.ssbr)))
          c.rte-restart.ensures.state;
      rest = ap rest_of c.rte-restart.ensures.state
          ∙ ap (λ (s : Serving). rest_of s.control) served
          ∙ rest_served unit before t0 t1 t2 agree.made agree.few
          ∙ ap rest_of state;
    }
