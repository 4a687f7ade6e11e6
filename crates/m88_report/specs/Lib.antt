-- What contracts cite: the text of a report.
pub mod Report
