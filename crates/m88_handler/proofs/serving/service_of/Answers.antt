-- What the monitor serves is what it finds of the fault.
use Rattle.std.proofs.Common.{◌∙◌, ap, subst, sym, true}
use Rattle.m88_ctrl.specs.ControlRegisters.{ControlRegisters}
use Rattle.m88_mem.specs.DataBus.{ready_of}
use Rattle.m88_monitor.specs.Serving.{CanServeAll, after_service}
use Rattle.m88_serving.proofs.Laws.{can_make_all}
use Rattle.m88_handler.proofs.Served.{can_serve_all}
use Rattle.m88_handler.proofs.serving.service_of.Goals as goal

pub serve-requires-clause-triples : goal.serve-requires-clause-triples
serve-requires-clause-triples c =
    can_serve_all (ready_of c.prepare_all.new.memory) c.control_left-control.result
    (subst (λ (control : ControlRegisters). CanServeAll (λ page. true) control) (sym c.control_left-control.ensures)
    (can_make_all c.args.fault.now c.requires.fault))
    c.in_ok-prepare_all.ensures.ready

pub returns-clause-served : goal.returns-clause-served
returns-clause-served c =
    c.serve.ensures.served
    ∙ ap after_service (λ i. record {
      control = c.control_left-control.ensures i;
      numbers = c.of-regs.ensures.numbers i;
      bus = (c.in_ok-prepare_all.ensures.gains.bus ∙ c.in_ok-memory.ensures.bus) i;
      absent = (c.in_ok-prepare_all.ensures.gains.absent ∙ c.in_ok-memory.ensures.absent) i;
    })
