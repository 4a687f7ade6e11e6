-- What only helps the proofs: texts against lines, the lines of a history, followers, sheets, and the board beside
-- them; Laws is for those above.
pub mod Verdicts
pub mod Accepting
pub mod History
pub mod Following
pub mod Reading
pub mod Heads
pub mod Writing
pub mod Joined
pub mod Nexts
pub mod Data
pub mod Noting
pub mod Runs
pub mod Laws
