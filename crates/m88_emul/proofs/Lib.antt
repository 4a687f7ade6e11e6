-- What only helps the proofs; Laws is for those above.

-- the bytes that software stores, and the transactions around them
pub mod Mending
-- the extended history in words
pub mod InWords
-- along its timeline
pub mod Following
pub mod Standing
pub mod Weighing
pub mod Walks
pub mod Unaided
-- the pages of bytes
pub mod PageEnds
pub mod OpenPlaces
pub mod ByteBound
-- boards, one after the other
pub mod OnBoards
-- runs by hand
pub mod Worked
pub mod Laws
