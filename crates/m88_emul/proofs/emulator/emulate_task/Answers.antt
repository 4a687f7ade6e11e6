-- Where software did the instruction, all is as its aid says.
use Rattle.std.proofs.Common.{ap, ◌∙◌}
use Rattle.std.specs.Prelude.{ℕ, Bool, List, ◌≡◌, ◌&&◌, not, map}
use Rattle.m88_isa.specs.Bus.{bus_after_all}
use Rattle.m88_isa.specs.Memory.{access_of}
use Rattle.m88_mem.specs.DataBus.{absent_of, bus_of, ready_of}
use Rattle.m88_emul.proofs.OpenPlaces.{same_places, task_open}
use Rattle.m88_emul.specs.Aid.{with_all}
use Rattle.m88_emul.specs.Extended.{byte_seen}
use Rattle.m88_emul.specs.Inside.Tasks.{aid_by, task_places}
use Rattle.m88_emul.specs.Timeline.{has_place_in}
use Rattle.m88_emul.proofs.emulator.emulate_task.Goals as goal

pub carry_out-requires : goal.carry_out-requires
carry_out-requires c =
    task_open c.args.task.now (ready_of c.supply.new.memory) (absent_of c.supply.new.memory) (absent_of c.prepare.new.memory)
    (λ page inside. rw c.supply.ensures.ready (c.in_ok-prepare.ensures.ready page inside))
    c.supply.ensures.absent

pub returns-clause-done : goal.returns-clause-done
returns-clause-done c =
    let only = c.in_ok-prepare.ensures.only in
    let bus : bus_of c.supply.new.memory ≡ bus_of c.args.memory.now = c.supply.ensures.bus ∙ only.bus in
    let memory : ℕ → ℕ = byte_seen (bus_of c.args.memory.now) in
    record {
      regs =
          c.carry_out.ensures.regs
          ∙ ap (λ (b : ℕ → ℕ). with_all (aid_by c.args.task.now (byte_seen b)).writes c.args.regs.now) bus;
      bus =
          c.carry_out.ensures.words.bus
          ∙ ap (λ (b : ℕ → ℕ). bus_after_all (map access_of (aid_by c.args.task.now (byte_seen b)).stores) b) bus;
      absent =
          c.carry_out.ensures.words.absent
          ∙ c.supply.ensures.absent
          ∙ ap {B = ℕ → Bool} (λ (f : ℕ → Bool) (page : ℕ). f page && not (has_place_in (task_places c.args.task.now) page)) only.absent
          ∙ ap {B = ℕ → Bool} (λ (places : List ℕ) (page : ℕ). absent_of c.args.memory.now page && not (has_place_in places page))
          (same_places c.args.task.now memory);
      image = c.carry_out.ensures.words.image ∙ c.supply.ensures.image ∙ only.image;
      ready = λ page was. rw (c.carry_out.ensures.words.ready, c.supply.ensures.ready) (only.ready page was);
    }
