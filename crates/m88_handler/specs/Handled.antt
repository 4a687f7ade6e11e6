-- A handler and what the monitor's service leaves, as the code has them.
use Rattle.m88_base.specs.Image.{ProgramImage}
use Rattle.m88_mem.specs.DataBus.{absent_of, bus_of}
use Rattle.m88_monitor.specs.Serving.{Serving, serving_of}
use Rattle.m88_handler.specs.Machine.{Handling}
use Rattle.m88_handler.specs.declared.handler.Handler.{Handler}
use Rattle.m88_handler.specs.declared.serving.Wanted.{Wanted}

-- what a handler works on
unfoldable pub handling_of : Handler → Handling
handling_of h = record {
  regs = h.regs;
  pc = h.pc;
  next = h.next;
  control = h.control;
  own = bus_of h.own;
  console = h.console.items;
  stopped = h.stopped;
  steps = h.steps;
  user = bus_of h.user;
  absent = absent_of h.user;
}

-- the image of the handler
abbrev pub code_of : Handler → ProgramImage
code_of h = h.own.image

-- the image of the program's memory
abbrev pub base_of : Handler → ProgramImage
base_of h = h.user.image

-- what the service leaves
abbrev pub wanted_of : Wanted → Serving
wanted_of wanted = serving_of wanted.control wanted.regs wanted.memory
