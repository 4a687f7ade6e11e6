-- A line that begins with the name of a command writes no other.
use Rattle.std.proofs.Common.{◌≡◌, ◌∙◌, rules}
use Rattle.m88_session.proofs.ScriptLines.{only_break, only_memory}
use Rattle.std.specs.Option.{option_map}
use Rattle.m88_session.specs.declared.script.MonitorCommand.TheVariants.{Break, Memory}
use Rattle.m88_session.proofs.script_line.command_in.Goals as goal

pub returns-in-Some-rest_behind-2 : goal.returns-in-Some-rest_behind-2
returns-in-Some-rest_behind-2 c =
    let made : c.map-in-Some-rest_behind-2.result ≡ option_map (λ n. Break n) c.place_in.result = search rules in
    record {
      found = search rules;
      only = λ d is. made ∙ only_break c.args.line.now c.in-Some-rest_behind-2.place.now c.place_in.result
          c.in-Some-rest_behind-2.ensures.found c.place_in.ensures.only d is;
    }

pub returns-in-Some-rest_behind-3 : goal.returns-in-Some-rest_behind-3
returns-in-Some-rest_behind-3 c =
    let made : c.map-in-Some-rest_behind-3.result ≡ option_map (λ p. Memory p.0 p.1) c.place_and_count.result = search rules in
    record {
      found = search rules;
      only = λ d is. made ∙ only_memory c.args.line.now c.in-Some-rest_behind-3.operands.now c.place_and_count.result
          c.in-Some-rest_behind-3.ensures.found c.place_and_count.ensures.only d is;
    }
