-- The words say what is read of them, and nothing else.
use Rattle.std.proofs.Common.{◌≡◌, refl, rules, sym}
use Rattle.m88_commands.proofs.NoneRead.{reads_none}
use Rattle.m88_commands.proofs.grammar.opening.Goals as goal

pub returns-in_err-absent-2 : goal.returns-in_err-absent-2
returns-in_err-absent-2 c = reads_none c.from_residual-in_err-absent-2.result (search rules) (λ s said.
    let same : said.absent_text ≡ c.in_ok-absent.absent.now = cc c.in_ok-absent.ensures.found in
    c.in_err-absent-2.ensures.only s.absent (rw (← same) said.is_absent))

pub returns : goal.returns
returns c = record {
  found = search rules;
  only = λ s said.
      let first = c.in_ok-absent.ensures.found in
      let second = c.in_ok-schedule.ensures.found in
      let pages : said.absent_text ≡ c.in_ok-absent.absent.now = cc in
      let text : said.schedule_text ≡ c.in_ok-schedule.schedule.now = cc in
      let read = c.in_ok-schedule-2.ensures.only s.schedule (rw (← text) said.is_schedule) in
      let mode = c.in_ok-mxm.ensures.only s.mxm cc in
      let absent = c.in_ok-absent-2.ensures.only s.absent (rw (← pages) said.is_absent) in
      let letters : c.in_ok-schedule-2.schedule ≡ s.schedule = cc in
      let mxm : c.in_ok-mxm.mxm ≡ s.mxm = cc in
      let limit = sym said.limit_is in
      λ i. record { limit = limit i; absent = absent i; schedule = letters i; mxm = mxm i };
  fit = (refl, (c.requires, c.in_ok-absent-2.ensures.fit));
}
