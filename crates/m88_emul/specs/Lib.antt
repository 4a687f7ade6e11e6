-- What a reader of the promises must believe: what software does for an instruction, the history of a machine with that
-- software, its timeline, and that without an aid both are those of the board alone. What only private contracts cite
-- stands in Inside.
pub mod Aid
pub mod Extended
pub mod Timeline
pub mod Unaided
pub mod Emulating
pub mod Inside
