-- A source more stands behind those before it, and the last one is what is left.
use Rattle.std.proofs.Common.{length, ◌≡◌, ◌+◌, ap, arith, subst, sym, rules, ◌∙◌, List, [], ◌∷◌, ◌++◌}
use Rattle.std.specs.List.{All}
use Rattle.std.proofs.lemmas.List.Elements.{All-push}
use Rattle.std.proofs.lemmas.List.{length-map, map-append}
use Rattle.m88_asm.proofs.Laws.{StandBefore, last_before, one_more_before, too_many}
use Rattle.m88_asm.specs.Several.{AreSources}
use Rattle.m88_commands.specs.Inside.Placing.{IsShort, all_placed, source_in}
use Rattle.m88_commands.specs.Sources.{most_sources}
use Rattle.m88_commands.specs.declared.commands.sources.PlacedSource.{PlacedSource as Kept}
use Rattle.m88_commands.proofs.commands.sources.sources_of.Goals as goal

-- one source more
one_more_placed : (new old : List Kept) (s : Kept) → new ≡ old ++ s ∷ [] → all_placed new ≡ all_placed old ++ source_in s ∷ []
one_more_placed new old s items = ap all_placed items ∙ map-append source_in old (s ∷ [])

as_many_placed : (sources : List Kept) → length (all_placed sources) ≡ length sources
as_many_placed sources = length-map sources source_in

pub returns-then-len-eq-MOST_SOURCES-clause-too_many : goal.returns-then-len-eq-MOST_SOURCES-clause-too_many
returns-then-len-eq-MOST_SOURCES-clause-too_many c =
    let eighth : length (all_placed c.loop-parted.sources.items) + 1 ≡ most_sources =
    ap (λ n. n + 1) (as_many_placed c.loop-parted.sources.items) ∙ (search rules) in
    too_many most_sources c.args.input.now (all_placed c.loop-parted.sources.items) c.loop-parted.lines c.loop-parted.rest.now
    c.in-Ok.parted.before.now c.in-Ok.parted.lines c.in-Ok.parted.behind.now c.loop-parted.invariant.0 c.in-Ok.ensures.parted eighth

pub loop-parted-preserved : goal.loop-parted-preserved
loop-parted-preserved c =
    let inv = c.loop-parted.invariant in
    let stand = one_more_before c.args.input.now (all_placed c.loop-parted.sources.items) c.loop-parted.lines c.loop-parted.rest.now
    c.in-Ok.parted.before.now c.in-Ok.parted.lines c.in-Ok.parted.behind.now inv.0 c.in-Ok.ensures.parted in
    let within = c.in-Ok.ensures.within in
    let short = inv.3 in
    let few = inv.1 in
    let many = inv.2 in
    let more = c.push.ensures.len in
    let not_eighth = c.if-len-eq-MOST_SOURCES.false in (
      subst (λ ss. StandBefore c.args.input.now ss (c.loop-parted.lines + c.in-Ok.parted.lines) c.in-Ok.parted.behind.now) (sym (one_more_placed c.push.new.self.items c.loop-parted.sources.items _ c.push.ensures.items)) stand,
      (search rules),
      (search rules),
      omega (arith, within, short),
      subst (All IsShort) (sym c.push.ensures.items) (All-push IsShort c.loop-parted.sources.items _ inv.4 (omega (arith, within, short))),
    )

pub returns-clause-sources : goal.returns-clause-sources
returns-clause-sources c =
    subst (AreSources c.args.input.now) (sym (one_more_placed c.push-2.new.self.items c.loop-parted.sources.items _ c.push-2.ensures.items))
    (last_before c.args.input.now (all_placed c.loop-parted.sources.items) c.loop-parted.lines c.loop-parted.rest.now c.loop-parted.invariant.0 c.in_default.ensures.unparted.has_none)
