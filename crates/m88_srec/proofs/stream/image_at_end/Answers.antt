-- The verdict takes what the format accepts.
use Rattle.std.proofs.Common.{rules}
use Rattle.m88_srec.specs.Accepted.{whole_of}
use Rattle.m88_srec.proofs.Law.{is_accepted}
use Rattle.m88_srec.proofs.stream.image_at_end.Goals as goal

pub returns-in-Ok : goal.returns-in-Ok
returns-in-Ok c = record {
  ok = λ text fed. is_accepted text (whole_of c.in-Ok.image) (c.in-Ok.ensures.value text fed);
  refused = tt;
  whole = search rules;
}
