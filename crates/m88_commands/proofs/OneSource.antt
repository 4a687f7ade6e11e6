-- An input is accepted by a command or has one refusal, never both.
use Rattle.std.proofs.Common.{ℕ, List, inl}
use Rattle.m88_asm.proofs.Laws.{one_assembly_verdict, one_linking_verdict, one_program_verdict, one_several_verdict}
use Rattle.m88_base.proofs.Laws.{told_once}
use Rattle.m88_base.specs.OneVerdict.{HasOneFaultUnless}
use Rattle.m88_base.specs.Refusal.{Refusal}
use Rattle.m88_srec.proofs.Laws.{one_records_refusal}
use Rattle.m88_commands.specs.Answer.{Accepts, Refuses}
use Rattle.m88_commands.specs.Command.{Command, InputKind, no_input, source_to_assemble, source_to_link, object_text, record_text, scripted_source, sources_to_link, traced_source, kind_of}
use Rattle.m88_commands.specs.Kinds.{IsAcceptedAs, IsRefusedAs}
use Rattle.m88_commands.specs.Sources.{most_sources}
use Rattle.m88_commands.specs.TracedSources.{IsRefusedTrace}
use Rattle.m88_session.proofs.Laws.{one_monitor_verdict}
use Rattle.m88_commands.proofs.TracedInputs as traces

-- an input of each kind has one verdict
of_kind : (kind : InputKind) (input : List ℕ) → HasOneFaultUnless (IsAcceptedAs kind input) (IsRefusedAs kind input)
of_kind no_input input = told_once (IsRefusedAs no_input input) (inl tt) (λ r accepted refused. refused) (λ r s a b. absurd a)
of_kind source_to_assemble source = one_assembly_verdict 0 source
of_kind source_to_link source = one_program_verdict 0 source
of_kind object_text text = one_linking_verdict text
of_kind record_text text = one_records_refusal text
of_kind scripted_source input = one_monitor_verdict input
of_kind sources_to_link input = one_several_verdict most_sources input
of_kind traced_source input =
    told_once (IsRefusedTrace input) (traces.trace_or_refusal input) (traces.not_accepted input) (traces.refused_once input)

pub one_verdict : (command : Command) (input : List ℕ) → HasOneFaultUnless (Accepts command input) (Refuses command input)
one_verdict command input = of_kind (kind_of command) input

pub refused_not_accepted : (command : Command) (input : List ℕ) (r : Refusal) → Refuses command input r → ¬ Accepts command input
refused_not_accepted command input r refused = λ accepted. (one_verdict command input).not_both tt r accepted refused
