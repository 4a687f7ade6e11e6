-- What contracts cite: letters, what an event does, the timeline, and what a whole run comes to.
pub mod Letters
pub mod Shadow
pub mod Situation
pub mod Choice
pub mod Timeline
pub mod Past
pub mod Local
pub mod Run
pub mod EndText
pub mod Bound
