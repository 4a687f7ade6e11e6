-- The laws of sessions and of runs that are shown that proofs above cite, by their subject.

-- Inputs: one is a script with a source behind it or has none at one line; it is accepted or has one refusal; and a
-- session of it has one text.
pub use Rattle.m88_session.proofs.OneScript.{one_verdict as one_script_verdict}
pub use Rattle.m88_session.proofs.OneInput.{one_verdict as one_monitor_verdict}
pub use Rattle.m88_session.proofs.InputSessions.{one_session_text}
-- Runs: every run has its events, what holds for a first time holds no later, and the glances of fewer moments go on.
pub use Rattle.m88_session.proofs.Ends.{glances_go_on, has_run, no_later}
-- nothing is seen before the first event, and where nothing was made there is a front alone
pub use Rattle.m88_session.proofs.Unmade.{goes_none, no_glance}
