-- One transaction more.
use Rattle.std.specs.Prelude.{List, [], ◌∷◌, ◌-◌, map, refl, take}
use Rattle.std.proofs.Common.{arith, length-take, subst, ◌∙◌}
use Rattle.std.proofs.lemmas.List.{length-map, take_all}
use Rattle.m88_base.specs.declared.triple.Triple.{Triple}
use Rattle.m88_isa.specs.Held.{most_pending}
use Rattle.m88_isa.specs.Triples.{access_in}
use Rattle.m88_isa.specs.declared.planned.Access.{Access}
use Rattle.m88_mem.specs.DataBus.{image_bytes}
use Rattle.m88_pager.proofs.Carrying.{none_on, on_and_on}
use Rattle.m88_pager.proofs.Words.{one_mapped}
use Rattle.m88_pager.proofs.Written.{then_put}
use Rattle.m88_pager.specs.Inside.Calls.{AreCarriedOn}
use Rattle.m88_pager.specs.Inside.Seen.{most_counted}
use Rattle.m88_pager.proofs.frames.Frames.carry_all.Goals as goal

pub loop-triple-init : goal.loop-triple-init
loop-triple-init g c = record {
  carried = none_on (image_bytes c.args.image.now) c.args.self.now (g.P.PageStore.pages c.args.store.now);
  tells = refl;
  clean = refl;
  written = refl;
}

pub carry_out-requires-clause-within : goal.carry_out-requires-clause-within
carry_out-requires-clause-within g c =
    let k = c.loop-triple.triple-index in
    let words = c.args.words.now in
    let within = c.loop-triple.invariant.carried.within (most_counted - most_pending) c.requires.within in
    let few = c.requires.few in
    let long = length-map (take k words) access_in in
    let taken = length-take k words in
    let ins = within.ins in
    let outs = within.outs in
    record {
      whole = within.whole;
      ins = omega (arith, few, long, taken, ins);
      outs = omega (arith, few, long, taken, outs);
    }

pub loop-triple-preserved : goal.loop-triple-preserved
loop-triple-preserved g c =
    let inv = c.loop-triple.invariant in
    let k = c.loop-triple.triple-index in
    record {
      carried =
          subst (λ (xs : List Access). AreCarriedOn (image_bytes c.args.image.now) xs c.args.self.now c.carry_out.new.self
          (g.P.PageStore.pages c.args.store.now) (g.P.PageStore.pages c.carry_out.new.store))
          (one_mapped c.args.words.now k _ c.access_in.result c.loop-triple-test.true c.access_in.ensures)
          (on_and_on (map access_in (take k c.args.words.now)) (c.access_in.result ∷ []) inv.carried c.in_ok-carry_out.ensures.carried);
      tells = c.carry_out.ensures.store.uses.tells ∙ inv.tells;
      clean = c.in_ok-carry_out.ensures.store.uses.clean ∙ inv.clean;
      written = then_put _ _ _ _ _ _ inv.written c.in_ok-carry_out.ensures.store.written;
    }

pub returns-clause-carried : goal.returns-clause-carried
returns-clause-carried g c =
    let words = c.args.words.now in
    let end = c.loop-triple-test.false in
    subst (λ (ws : List Triple). AreCarriedOn (image_bytes c.args.image.now) (map access_in ws) c.args.self.now c.loop-triple.self
    (g.P.PageStore.pages c.args.store.now) (g.P.PageStore.pages c.loop-triple.store))
    (take_all c.loop-triple.triple-index words (omega (arith, end))) c.loop-triple.invariant.carried
