-- The laws of reports that proofs above cite.

-- One element more stands behind those before it, with the next number.
pub use Rattle.m88_report.proofs.Numbered.{one_more_numbered}
