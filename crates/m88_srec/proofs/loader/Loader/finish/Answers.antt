-- The fault that is kept, or the end of the text.
use Rattle.m88_srec.proofs.Fed.{ended_there, led, refused_at_end, refused_by}
use Rattle.m88_srec.proofs.loader.Loader.finish.Goals as goal

pub returns-in-Some-clause-value : goal.returns-in-Some-clause-value
returns-in-Some-clause-value c = λ text fed.
    refused_at_end text c.in-Some.fault (refused_by _ c.args.self text c.in-Some.fault c.self.view_is c.in-Some.is fed)

pub returns-in-None-clause-value : goal.returns-in-None-clause-value
returns-in-None-clause-value c = λ text fed.
    ended_there text _ c.finish.result (led _ c.args.self text c.self.view_is c.in-None.is fed) c.finish.ensures
