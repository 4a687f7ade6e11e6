-- Every page is absent.
use Rattle.std.proofs.Common.{refl}
use Rattle.m88_event.specs.Choice.{evicts}
use Rattle.m88_event.specs.declared.letter.Letter.TheVariants.{Evict}
use Rattle.m88_board.proofs.Brought.{brought}
use Rattle.m88_board.proofs.Evicted.{kept_evicted}
use Rattle.m88_board.proofs.Moving.{evict_chosen}
use Rattle.m88_board.proofs.Steps.{evicted}
use Rattle.m88_board.specs.contracts.board.Board.{the_view}
use Rattle.m88_board.specs.declared.brief.Brief.TheVariants.{Evicted}
use Rattle.m88_board.proofs.board.Board.evict.Goals as goal

pub invariant_of-self : goal.invariant_of-self
invariant_of-self c =
    kept_evicted (the_view c.self.inside) c.evict_all.new.self c.self.invariant c.evict_all.ensures.bus
    c.evict_all.ensures.ready c.evict_all.ensures.image

pub returns-clause-brings : goal.returns-clause-brings
returns-clause-brings c =
    let b = the_view c.self.inside in
    rw (← c.self.view_is)
    (brought Evict evicts b Evicted _ (λ p of. evict_chosen p b)
    (λ fault. record {
      says = refl;
      does = evicted fault b c.evict_all.new.self c.evict_all.ensures.bus c.evict_all.ensures.absent
          c.evict_all.ensures.image;
    })
    (λ still. absurd still) refl)

pub returns-clause-evicts : goal.returns-clause-evicts
returns-clause-evicts c = rw (← c.self.view_is) (record {
  says = refl;
  evicted = record {
    rest = refl;
    image = c.evict_all.ensures.image;
    bus = c.evict_all.ensures.bus;
    ready = c.evict_all.ensures.ready;
    absent = c.evict_all.ensures.absent;
  };
})
