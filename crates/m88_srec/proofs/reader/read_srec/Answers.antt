-- What is read is what the format accepts.
use Rattle.m88_srec.proofs.Law.{one_verdict, takes_exactly}
use Rattle.m88_srec.proofs.Turns.{reads_accepted, reads_only}
use Rattle.m88_srec.proofs.reader.read_srec.Goals as goal

pub returns-clause-accepted : goal.returns-clause-accepted
returns-clause-accepted c = reads_accepted c.read.result c.args.text.now c.read.ensures

pub returns-clause-only : goal.returns-clause-only
returns-clause-only c = reads_only c.read.result c.args.text.now c.read.ensures

pub returns-clause-one_verdict : goal.returns-clause-one_verdict
returns-clause-one_verdict c = one_verdict c.args.text.now

pub returns-clause-law : goal.returns-clause-law
returns-clause-law c = takes_exactly c.args.text.now
