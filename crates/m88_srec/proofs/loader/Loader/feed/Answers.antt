-- The answer to one piece more.
use Rattle.m88_srec.specs.Inside.Taking.{begun_seen}
use Rattle.m88_srec.proofs.Fed.{answered, led, refused_now}
use Rattle.m88_srec.proofs.Feeding.{none_held}
use Rattle.m88_srec.proofs.loader.Loader.feed.Goals as goal

pub returns-in-Ok-clause-answer : goal.returns-in-Ok-clause-answer
returns-in-Ok-clause-answer c = λ text fed fault held.
    none_held _ (begun_seen c.piece.new.self) fault
    (c.in-Ok.ensures.begun text (led _ c.args.self.now text c.self.view_is c.in_default.is fed)) held

pub returns-in-Err-clause-answer : goal.returns-in-Err-clause-answer
returns-in-Err-clause-answer c = λ text fed.
    answered _ c.in-Err.fault
    (refused_now text c.args.piece.now _ c.in-Err.fault (led _ c.args.self.now text c.self.view_is c.in_default.is fed)
    c.in-Err.ensures.fault)
