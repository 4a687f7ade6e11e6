-- The table has the global ones of the symbols so far, and the first of them that repeats a name is found.
use Rattle.std.proofs.Common.{◌≡◌, take}
use Rattle.std.specs.Option.{option_map}
use Rattle.m88_link.specs.Bases.{base_of}
use Rattle.m88_link.specs.Inside.Exports.{repeated_in, taken}
use Rattle.m88_link.specs.Inside.Findings.{IsEnded, with_duplicate}
use Rattle.m88_link.specs.Refusal.{duplicate_fault}
use Rattle.m88_link.specs.Symbols.{exported}
use Rattle.m88_link.proofs.exports.export_all.Given as goal

abbrev pub invariant-loop-symbol : goal.invariant-loop-symbol
invariant-loop-symbol l =
    let done = exported (base_of l.placement) (take l.symbol-index l.symbols) in
    let fault = option_map duplicate_fault (repeated_in l.initial.table done) in
    (l.table ≡ taken l.initial.table done)
    × (l.findings ≡ with_duplicate l.initial.findings fault)
    × IsEnded l.initial.findings.goes_on fault
