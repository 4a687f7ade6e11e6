-- Each command by its own.
use Rattle.std.proofs.Common.{ap, arith, refl, length, length-append, subst, sym, List, [], ◌∷◌, ℕ, ◌++◌, ◌∙◌}
use Rattle.std.proofs.lemmas.Result.{on_ok_weaker}
use Rattle.m88_board.specs.Moves.{IsAt}
use Rattle.m88_board.specs.declared.walk.Walk.{Walk}
use Rattle.m88_isa.specs.Address.{word_address}
use Rattle.m88_session.proofs.Carrying.{carries_still}
use Rattle.m88_session.specs.declared.script.MonitorCommand.TheVariants.{Break, Memory, Pipe, Regs}
use Rattle.m88_session.proofs.monitor.Monitor.carry.Goals as goal

pub returns-in-Step : goal.returns-in-Step
returns-in-Step g c = rw c.in-Step.is c.step.ensures

pub returns-in-Go : goal.returns-in-Go
returns-in-Go g c = rw c.in-Go.is c.go.ensures

pub returns-in-Drain : goal.returns-in-Drain
returns-in-Drain g c = rw c.in-Drain.is c.drain.ensures

pub returns-in-Trace : goal.returns-in-Trace
returns-in-Trace g c = rw c.in-Trace.is c.trace.ensures

pub returns-in-Break : goal.returns-in-Break
returns-in-Break g c =
    rw c.in-Break.is (carries_still (Break c.in-Break.address) _ c.args.self.now c.set_breakpoint.new.self _ _ c.set_breakpoint.result
    (ap (λ (xs : List ℕ). length xs) c.set_breakpoint.ensures.set ∙ length-append c.args.self.now.breakpoints.items _) (λ d s. refl)
    (on_ok_weaker c.set_breakpoint.result (λ text d s stands. (
      record {
        schedule = ap (λ (w : Walk). w.schedule.now) c.set_breakpoint.ensures.walk ∙ stands.schedule;
        at = subst (λ (w : Walk). IsAt d s.moment w.board.now) (sym c.set_breakpoint.ensures.walk) stands.at;
        taken = ap (λ (w : Walk). w.taken) c.set_breakpoint.ensures.walk ∙ stands.taken;
        breakpoints = c.set_breakpoint.ensures.set
            ∙ ap (λ (xs : List ℕ). xs ++ word_address c.in-Break.address ∷ []) stands.breakpoints;
      },
      text,
    ))
    c.set_breakpoint.ensures.text))

pub returns-in-Regs : goal.returns-in-Regs
returns-in-Regs g c =
    rw c.in-Regs.is (carries_still Regs _ c.args.self.now c.args.self.now _ _ c.push_all_registers.result (omega arith) (λ d s. refl)
    (on_ok_weaker c.push_all_registers.result (λ told d s stands.
    (stands, told d s.moment (rw c.board.ensures stands.at)))
    c.push_all_registers.ensures))

pub returns-in-Pipe : goal.returns-in-Pipe
returns-in-Pipe g c =
    rw c.in-Pipe.is (carries_still Pipe _ c.args.self.now c.args.self.now _ _ c.push_pipe.result (omega arith) (λ d s. refl)
    (on_ok_weaker c.push_pipe.result (λ told d s stands.
    (stands, told d s.moment (rw c.board-in-Pipe.ensures stands.at)))
    c.push_pipe.ensures))

pub returns-in-Memory : goal.returns-in-Memory
returns-in-Memory g c =
    rw c.in-Memory.is (carries_still (Memory c.in-Memory.address c.in-Memory.count) _ c.args.self.now c.args.self.now _ _
    c.push_words.result (omega arith) (λ d s. refl)
    (on_ok_weaker c.push_words.result (λ told d s stands.
    (stands, told d s.moment (rw c.board-in-Memory.ensures stands.at)))
    c.push_words.ensures.moment))
