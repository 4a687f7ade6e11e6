-- The transactions so far.
use Rattle.std.proofs.Common.{◌≡◌, is_some, map, take}
use Rattle.m88_isa.specs.Triples.{access_in}
use Rattle.m88_mem.specs.DataBus.{image_bytes}
use Rattle.m88_pager.specs.Inside.Calls.{AreCarriedOn, PutsOut}
use Rattle.m88_pager.proofs.frames.Frames.carry_all.Given as goal

abbrev pub invariant-loop-triple : goal.invariant-loop-triple
invariant-loop-triple g l = record {
  carried : AreCarriedOn (image_bytes l.image) (map access_in (take l.triple-index l.words)) l.initial.self l.self
      (g.P.PageStore.pages l.initial.store) (g.P.PageStore.pages l.store);
  tells : is_some (g.P.PageStore.pages l.store) ≡ is_some (g.P.PageStore.pages l.initial.store);
  clean : g.P.PageStore.faults l.store ≡ g.P.PageStore.faults l.initial.store;
  written : PutsOut l.initial.self.outs l.self.outs (g.P.PageStore.writes l.initial.store) (g.P.PageStore.writes l.store);
}
