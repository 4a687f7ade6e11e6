-- Which inputs of each kind are accepted, and where and why any other is refused.
use Rattle.std.specs.Prelude.{ℕ, List}
use Rattle.m88_asm.specs.Sources.{IsAssemblySource, IsProgramSource, IsRefusedProgram, IsRefusedSource}
use Rattle.m88_srec.specs.Refused.{IsRecords, IsRefusedRecords}
use Rattle.m88_commands.specs.Command.{InputKind, no_input, source_to_assemble, source_to_link, object_text, record_text, scripted_source, sources_to_link, traced_source}
use Rattle.m88_session.specs.Monitoring.{IsMonitorInput, IsRefusedMonitor}
use Rattle.m88_asm.specs.LinkedTexts.{IsLinkableText, IsRefusedObjects}
use Rattle.m88_commands.specs.Sources.{IsRefusedSources, IsSourcesInput}
use Rattle.m88_commands.specs.TracedSources.{IsRefusedTrace, IsTracedSource}
use Rattle.m88_base.specs.Refusal.{Refusal}

-- an input is accepted as one of a kind: a source that can be assembled, or linked too, the text of objects that can be
-- linked, that of S-records, a script with a source behind it that can be linked, up to eight sources each of which can
-- be, or one with lines of its trace behind it; where there is none there is nothing to accept
abbrev pub IsAcceptedAs : InputKind → List ℕ → Type 0
IsAcceptedAs no_input input = Unit {0}
IsAcceptedAs source_to_assemble source = IsAssemblySource source
IsAcceptedAs source_to_link source = IsProgramSource source
IsAcceptedAs object_text text = IsLinkableText text
IsAcceptedAs record_text text = IsRecords text
IsAcceptedAs scripted_source input = IsMonitorInput input
IsAcceptedAs sources_to_link input = IsSourcesInput input
IsAcceptedAs traced_source input = IsTracedSource input

-- and refused so: at the first fault of a source, of objects, of S-records, of a script and the source behind it, of
-- several sources, or of a source and the lines behind it
abbrev pub IsRefusedAs : InputKind → List ℕ → Refusal → Type 0
IsRefusedAs no_input input r = ⊥
IsRefusedAs source_to_assemble source r = IsRefusedSource 0 source r
IsRefusedAs source_to_link source r = IsRefusedProgram 0 source r
IsRefusedAs object_text text r = IsRefusedObjects text r
IsRefusedAs record_text text r = IsRefusedRecords text r
IsRefusedAs scripted_source input r = IsRefusedMonitor input r
IsRefusedAs sources_to_link input r = IsRefusedSources input r
IsRefusedAs traced_source input r = IsRefusedTrace input r
