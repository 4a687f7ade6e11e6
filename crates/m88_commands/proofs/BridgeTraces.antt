-- What `trace` writes of a source is accepted by `check` behind that source and a line `trace`.
use Rattle.std.proofs.Common.{◌≡◌, ℕ, ◌+◌, List, Err, length, refl}
use Rattle.m88_base.specs.Lines.{lines_of}
use Rattle.m88_isa.specs.Letters.{begun_with}
use Rattle.m88_isa.specs.Mnemonic.{text_of}
use Rattle.m88_parse.proofs.Laws.{ended_parted, ended_unit}
use Rattle.m88_parse.specs.Inside.Directives.{all_directives, directive_text}
use Rattle.m88_parse.specs.Inside.Source.{operation_at, row_at, row_of_line}
use Rattle.m88_parse.specs.Inside.Tokens.{front, pieces_from}
use Rattle.m88_parse.specs.Language.Ended.{ended}
use Rattle.m88_parse.specs.declared.fault.ParseFault.{ParseFault}
use Rattle.m88_parse.specs.declared.fault.ParseKind.TheVariants.{NoSuchName}
use Rattle.m88_base.specs.Parted.{IsParted}
use Rattle.m88_trace.proofs.Laws.{run_trace_lines}
use Rattle.m88_asm.specs.Sources.{IsProgramSource}
use Rattle.m88_commands.specs.Bridge.{TracedIsChecked, with_trace}
use Rattle.m88_session.specs.Settings.{Settings, run_by}
use Rattle.m88_commands.specs.TracedSources.{HasTrace, trace_separator}
use Rattle.m88_commands.specs.Answer.Traces.{IsTraceText}

-- no operation is called `trace`, so no source that has a unit has a line `trace`
unread : (number : ℕ) → (fault : ParseFault) × (row_of_line number trace_separator ≡ Err fault)
unfolding row_of_line row_at operation_at pieces_from front text_of begun_with directive_text all_directives
unread number = (record { line = number; col = 1; kind = NoSuchName }, refl)

-- which stands before what is behind it
parted : (source text : List ℕ) (accepted : IsProgramSource source)
    → IsParted trace_separator (with_trace source text) (ended source) (length (lines_of (ended source)) + 1) text
unfolding lines_of
parted source text accepted = ended_parted trace_separator source text accepted.unit unread accepted.is_unit refl refl

-- An ended source has the programs of the source, and it is accepted as the source is: all that goes by the unit alone

traced : (source text : List ℕ) (s : Settings) → IsProgramSource source → IsTraceText source s text → (n : ℕ) × HasTrace (with_trace source text) n
traced source text s accepted traces =
    let lines = run_trace_lines (run_by traces.program s) text traces.holds.0 in
    let of_source = traces.of_source in (
      lines.0,
      record {
        parts = record { source = ended source; lines = length (lines_of (ended source)) + 1; text = text };
        are_parts = parted source text accepted;
        is_program = record { unit = accepted.unit; is_unit = ended_unit source accepted.unit accepted.is_unit; is_accepted = accepted.is_accepted };
        begins = record {
          program = traces.program;
          of_source = record {
            unit = of_source.unit;
            is_unit = ended_unit source of_source.unit of_source.is_unit;
            is_program = of_source.is_program;
          };
          mode = traces.mode;
          holds = lines.1;
        };
      },
    )

-- what `trace` writes of a source is so many lines of the trace of the source's program, behind the line `trace`
pub traced_is_checked : TracedIsChecked
traced_is_checked source text s answer = traced source text s answer.accepted answer.output
