-- The table has the global symbols of the objects so far, and the first of them that repeats a name is found.
use Rattle.std.proofs.Common.{◌≡◌, [], take}
use Rattle.std.specs.Prelude.{flat_map}
use Rattle.std.specs.Option.{option_map}
use Rattle.m88_link.specs.Inside.Exports.{repeated_in, taken}
use Rattle.m88_link.specs.Inside.Findings.{IsEnded, with_duplicate}
use Rattle.m88_link.specs.Layout.{globals_of}
use Rattle.m88_link.specs.Refusal.{duplicate_fault}
use Rattle.m88_link.proofs.exports.globals.Given as goal

abbrev pub invariant-loop-placement : goal.invariant-loop-placement
invariant-loop-placement l =
    let done = flat_map globals_of (take l.placement-index l.placements) in
    let fault = option_map duplicate_fault (repeated_in [] done) in
    (l.table ≡ taken [] done)
    × (l.findings ≡ with_duplicate l.initial.findings fault)
    × IsEnded l.initial.findings.goes_on fault
