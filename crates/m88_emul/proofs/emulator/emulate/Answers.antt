-- Where software did the instruction, all is as the aid of its task says.
use Rattle.std.specs.Prelude.{ℕ}
use Rattle.m88_mem.specs.DataBus.{bus_of}
use Rattle.m88_emul.specs.Extended.{byte_seen}
use Rattle.m88_emul.specs.Inside.Tasks.{aid_by}
use Rattle.m88_emul.proofs.emulator.emulate.Goals as goal

pub returns-clause-done : goal.returns-clause-done
returns-clause-done c = λ done.
    let some = c.in-Some.ensures.some in
    let memory : ℕ → ℕ = byte_seen (bus_of c.args.memory.now) in
    (some.0, some.1, (aid_by c.in-Some.task memory, some.2 memory, c.in_ok-emulate_task.ensures.done))
