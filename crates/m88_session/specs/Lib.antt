-- What a reader of the promises must believe.
pub mod Settings
pub mod Numbers
pub mod Reading
pub mod Script
pub mod Monitoring
pub mod MonitorLines
pub mod Session
pub mod MonitorText
pub mod Running
-- Words for the contracts of private functions.
pub mod Inside
