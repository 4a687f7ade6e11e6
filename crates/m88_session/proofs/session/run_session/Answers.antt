-- A session over the program of the source behind the script is that of the input.
use Rattle.std.proofs.Common.{inr}
use Rattle.m88_session.specs.Settings.{settings_in}
use Rattle.m88_session.proofs.InputSessions.{front_of_session, shown_session}
use Rattle.m88_session.proofs.Unmade.{on_err}
use Rattle.m88_session.proofs.session.run_session.Goals as goal

pub carry_out-requires-clause-breaks : goal.carry_out-requires-clause-breaks
carry_out-requires-clause-breaks g c =
    let found = rw c.in-Ok.is at c.in_ok-parts.ensures in
    rw c.as_slice.ensures.value found.2.are_script.few_breaks

pub returns-in_err-text-clause-front : goal.returns-in_err-text-clause-front
returns-in_err-text-clause-front g c =
    let found = rw c.in-Ok.is at c.in_ok-parts.ensures in
    on_err c.from_residual-in_err-text.result (inr (front_of_session c.args.input.now (settings_in c.args.settings.now)
    c.as_slice.result.now found.0 found.1 c.in-Ok.parts.1 _ _ (rw c.as_slice.ensures.value found.2) found.3
    c.carry_out.ensures.is_image c.in_err-text.ensures.front))

pub returns-clause-text : goal.returns-clause-text
returns-clause-text g c =
    let found = rw c.in-Ok.is at c.in_ok-parts.ensures in
    shown_session c.args.input.now (settings_in c.args.settings.now) c.as_slice.result.now found.0 found.1 c.in-Ok.parts.1
    _ _ (rw c.as_slice.ensures.value found.2) found.3 c.carry_out.ensures.is_image c.in_ok-text.text.items c.in_ok-text.ensures.made
