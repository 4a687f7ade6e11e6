-- What only helps the proofs: letters, then programs that share a board; Laws is for those above.
pub mod Letters
pub mod Isolation
pub mod RunAlone
pub mod Choosing
pub mod Sharing
pub mod Past
pub mod Places
pub mod Running
pub mod Starting
pub mod Turning
pub mod Collecting
pub mod Settling
pub mod Events
pub mod Ending
pub mod Worked
pub mod Laws
