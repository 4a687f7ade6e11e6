-- What a reader of the promises must believe: the text of a trace's lines, the lines of a history, and texts against
-- lines. What only private contracts cite stands in Inside.
pub mod Lines
pub mod Trace
pub mod Texts
pub mod Inside
