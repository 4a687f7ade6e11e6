use Rattle.std.proofs.Common.{ℕ, ◌<◌, ◌≡◌, ap, sym, subst, ◌∙◌}
use Rattle.std.specs.Prelude.{slice_index}
use Rattle.m88_board.specs.Board.{local_of}
use Rattle.m88_board.specs.Parts.{MayBegin, seen_of_parts}
use Rattle.m88_board.specs.declared.parts.Parts.{Parts}
use Rattle.m88_mem.specs.DataBus.{MemoryView, bus_of}
use Rattle.m88_emul.proofs.OnBoards.{begun_clear, goes_on_so, may_go_on, parts_bytes, zeros_stay}
use Rattle.m88_emul.specs.Aid.{Aid}
use Rattle.m88_emul.specs.Emulating.{IsAided}
use Rattle.m88_emul.specs.Extended.{byte_seen}
use Rattle.m88_emul.specs.Inside.Tasks.{aid_by}
use Rattle.m88_emul.proofs.running.mend.Goals as goal

pub begin-requires : goal.begin-requires
begin-requires c =
    let parts : Parts = c.into_parts-parts.result in
    let may : MayBegin parts c.args.limit = subst (λ (n : ℕ). MayBegin parts n) c.requires.limit_is c.into_parts-parts.ensures.begins in
    let early : parts.retired < c.args.limit = subst (λ (n : ℕ). parts.retired < n) c.requires.limit_is c.into_parts-parts.ensures.early in
    let aid : Aid = aid_by c.args.task.now (byte_seen (bus_of parts.memory)) in
    let first : slice_index c.emulate_task.new.regs 0 ≡ 0 =
    ap (λ xs. slice_index xs 0) c.in_ok-emulate_task.ensures.done.regs ∙ zeros_stay aid.writes parts.regs may.zero in
    subst (λ (x : Parts). MayBegin x c.args.limit) (sym c.behind.ensures)
    (may_go_on parts c.emulate_task.new.regs c.emulate_task.new.memory c.args.limit may early first)

pub returns : goal.returns
returns c =
    let parts : Parts = c.into_parts-parts.result in
    let done = c.in_ok-emulate_task.ensures.done in
    let bytes : ℕ → ℕ = byte_seen (bus_of c.args.board.memory) in
    record {
      run = record {
        limit_is = c.begin.ensures.limit;
        image =
            ap (λ (m : MemoryView). m.image) c.begin.ensures.memory
            ∙ ap (λ (x : Parts). x.memory.image) c.behind.ensures
            ∙ done.image
            ∙ ap (λ (x : Parts). x.memory.image) c.into_parts-parts.ensures.parts;
        clear = begun_clear _ _ c.begin.ensures.seen;
        counted =
            c.begin.ensures.events
            ∙ ap (λ (x : Parts). x.events) c.behind.ensures
            ∙ ap (λ (x : Parts). x.events) c.into_parts-parts.ensures.parts;
      };
      mended =
          let aided : IsAided (aid_by c.args.task.now bytes) parts.regs c.emulate_task.new.regs parts.memory c.emulate_task.new.memory =
          subst (λ (m : ℕ → ℕ). IsAided (aid_by c.args.task.now m) parts.regs c.emulate_task.new.regs parts.memory c.emulate_task.new.memory)
          (parts_bytes parts c.args.board c.into_parts-parts.ensures.parts) done in
          c.begin.ensures.seen
          ∙ ap seen_of_parts c.behind.ensures
          ∙ goes_on_so parts c.emulate_task.new.regs c.emulate_task.new.memory (aid_by c.args.task.now bytes) (local_of c.args.board)
          (c.into_parts-parts.ensures.seen c.requires.clear) aided;
    }
