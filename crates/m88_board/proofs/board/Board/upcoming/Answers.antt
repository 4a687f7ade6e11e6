-- The next instruction is kept, or read from the image.
use Rattle.std.specs.Prelude.{Ok, Err, ◌<◌, ◌^◌}
use Rattle.std.proofs.Common.{arith}
use Rattle.m88_board.proofs.Fetching.{found_next, line_read, raise_found, read_found, turn_found}
use Rattle.m88_board.specs.contracts.board.Board.{the_view}
use Rattle.m88_board.proofs.board.Board.upcoming.Goals as goal

pub returns-in-Some : goal.returns-in-Some
returns-in-Some c =
    let small : c.in-Some.line.word < 2 ^ 32 = omega arith in
    turn_found c.in-Some.line c.args.self.now
    (found_next (the_view c.self.inside) c.args.self.now c.candidate-next.result (Ok c.in-Some.line) c.self.view_is c.self.invariant
    c.requires c.candidate-next.ensures.value c.candidate-next.ensures.word (rw (← c.self.view_is) c.in-Some.ensures)) small

pub returns-in-Ok : goal.returns-in-Ok
returns-in-Ok c =
    let a = c.candidate-next.result.addr in
    let image = c.self.inside.memory.image in
    turn_found (line_read image a c.in-Ok.read) c.args.self.now
    (found_next (the_view c.self.inside) c.args.self.now c.candidate-next.result (Ok (line_read image a c.in-Ok.read)) c.self.view_is
    c.self.invariant c.requires c.candidate-next.ensures.value c.candidate-next.ensures.word
    (rw (← c.self.view_is) (read_found image a c.in-Ok.read c.candidate-next.ensures.word c.in-Ok.ensures)))
    c.in-Ok.ensures.0.0

pub returns-in-Err : goal.returns-in-Err
returns-in-Err c =
    raise_found c.in-Err.vector c.args.self.now
    (found_next (the_view c.self.inside) c.args.self.now c.candidate-next.result (Err c.in-Err.vector) c.self.view_is
    c.self.invariant c.requires c.candidate-next.ensures.value c.candidate-next.ensures.word
    (rw (← c.self.view_is) c.in-Err.ensures))
