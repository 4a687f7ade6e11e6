-- Where the page of each store is ready, the monitor can finish the transactions.
use Rattle.std.specs.Prelude.{ℕ, Bool, true}
use Rattle.m88_base.specs.declared.triple.Triple.{Triple}
use Rattle.m88_ctrl.specs.ControlRegisters.{ControlRegisters}
use Rattle.m88_monitor.specs.Serving.{CanServeAll, CanServeTriple}
use Rattle.m88_handler.specs.Inside.Served.{AreReady, IsReadyFor}

can_serve : (ready : ℕ → Bool) (t : Triple) → CanServeTriple (λ page. true) t → IsReadyFor ready t → CanServeTriple ready t
can_serve ready t can prepared = λ valid. record {
  word = (can valid).word;
  enable = (can valid).enable;
  prepared = prepared;
}

pub can_serve_all : (ready : ℕ → Bool) (c : ControlRegisters) → CanServeAll (λ page. true) c → AreReady ready c → CanServeAll ready c
can_serve_all ready c can prepared = record {
  first = can_serve ready c.t0 can.first prepared.first;
  second = can_serve ready c.t1 can.second prepared.second;
  third = can_serve ready c.t2 can.third prepared.third;
}
