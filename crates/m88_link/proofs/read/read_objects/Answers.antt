-- Each clause by what one call of `read` answers, and the law of texts.
use Rattle.m88_link.proofs.OneText.{one_verdict}
use Rattle.m88_link.proofs.Told.{told_form, told_range, told_read, told_refused, told_written}
use Rattle.m88_link.proofs.read.read_objects.Goals as goal

pub returns-clause-read : goal.returns-clause-read
returns-clause-read c = told_read (λ v. v.items) c.args.text.now c.read.result c.read.ensures

pub returns-clause-written : goal.returns-clause-written
returns-clause-written c = told_written (λ v. v.items) c.args.text.now c.read.result c.read.ensures

pub returns-clause-refused : goal.returns-clause-refused
returns-clause-refused c = told_refused (λ v. v.items) c.args.text.now c.read.result c.read.ensures

pub returns-clause-form : goal.returns-clause-form
returns-clause-form c = told_form (λ v. v.items) c.args.text.now c.read.result c.read.ensures

pub returns-clause-range : goal.returns-clause-range
returns-clause-range c = told_range (λ v. v.items) c.args.text.now c.read.result c.read.ensures

pub returns-clause-one_verdict : goal.returns-clause-one_verdict
returns-clause-one_verdict c = one_verdict c.args.text.now
