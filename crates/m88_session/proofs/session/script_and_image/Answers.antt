-- An input without a script is refused at the line that stops it, and one with a script as its source is.
use Rattle.std.proofs.Common.{inl, inr}
use Rattle.m88_session.proofs.session.script_and_image.Goals as goal

pub returns-in-Err : goal.returns-in-Err
returns-in-Err c = inl (record {
  line = c.in-Err.fault.line;
  has_none = c.in-Err.ensures.fault;
  refusal = c.in_ok-unscripted-in-Err.ensures;
})

pub returns-in-Err-2 : goal.returns-in-Err-2
returns-in-Err-2 c = inr (record {
  parts = record {
    commands = c.in-Ok.script.commands.items;
    lines = c.in-Ok.script.lines;
    source = c.in-Ok.script.source.now;
  };
  is_script = c.in-Ok.ensures.script;
  is_refused = rw c.in-Err-2.is at c.in_ok-image.ensures;
})
