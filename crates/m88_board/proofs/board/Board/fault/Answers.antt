-- The record stays, and the pending transactions are finished.
use Rattle.std.proofs.Common.{◌+◌, ◌∙◌, ap, ap₂, rules}
use Rattle.m88_iunit.specs.Pointers.{resumed}
use Rattle.m88_mem.specs.DataBus.{absent_of}
use Rattle.m88_board.proofs.Brought.{fault_brings}
use Rattle.m88_board.proofs.Choosing.{faults_some}
use Rattle.m88_board.proofs.Faulted.{does_fault, kept_faulted}
use Rattle.m88_board.proofs.Going.{still_going}
use Rattle.m88_board.specs.contracts.board.Board.{the_view}
use Rattle.m88_board.proofs.board.Board.fault.Goals as goal

pub invariant_of-self-2 : goal.invariant_of-self-2
invariant_of-self-2 c =
    let faults = rw (← c.self.view_is) at c.requires in
    let resumes = rw (← c.self.view_is) at c.pipe-fault.ensures.resumes in
    kept_faulted (the_view c.self.inside) c.serve_all-done.new.regs c.serve_all-done.new.memory c.serve_all-done.new.ctrl c.resume.new.self
    c.serve_all-done.new.unit _ c.push.new.self c.pipe-fault.result c.self.invariant
    (faults_some c.self.inside.dunit (absent_of c.self.inside.memory) faults) c.serve_all-done.ensures.pending
    c.serve_all-done.ensures.waiting c.serve_all-done.ensures.image c.serve_all-done.ensures.psr
    (c.resume.ensures.value ∙ ap₂ (λ snip sfip. resumed c.self.inside.iunit snip sfip) c.serve_all-done.ensures.snip c.serve_all-done.ensures.sfip ∙ resumes)
    (ap (λ n. c.self.inside.book.done + n) (c.from.ensures ∙ c.serve_all-done.ensures.counted)) (search rules)

pub returns : goal.returns
returns c =
    let faults = rw (← c.self.view_is) at c.requires in
    let words = rw (← c.self.view_is) at c.pipe-fault.ensures.words in
    let recorded = rw (← c.self.view_is) at c.pipe-fault.ensures.value in
    let resumes = rw (← c.self.view_is) at c.pipe-fault.ensures.resumes in
    rw (← c.self.view_is)
    (fault_brings c.pipe-fault.result (the_view c.self.inside) _ faults recorded (search rules)
    (does_fault (the_view c.self.inside) c.serve_all-done.new.regs c.serve_all-done.new.memory c.serve_all-done.new.ctrl c.resume.new.self
    c.serve_all-done.new.unit _ c.push.new.self c.pipe-fault.result c.serve_all-done.ensures.pending c.serve_all-done.ensures.cells
    c.serve_all-done.ensures.absent c.serve_all-done.ensures.image c.serve_all-done.ensures.psr
    (c.resume.ensures.value ∙ ap₂ (λ snip sfip. resumed c.self.inside.iunit snip sfip) c.serve_all-done.ensures.snip c.serve_all-done.ensures.sfip ∙ resumes)
    (ap (λ n. c.self.inside.book.done + n) (c.from.ensures ∙ c.serve_all-done.ensures.counted)) (search rules)) (
      c.serve_all-done.ensures.shows (words (still_going (the_view c.self.inside) c.self.invariant
          (faults_some c.self.inside.dunit (absent_of c.self.inside.memory) faults))),
      c.serve_all-done.ensures.rest,
    ))
