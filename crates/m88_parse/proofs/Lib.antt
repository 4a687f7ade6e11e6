-- What only helps the proofs: tokens as they are cut, lists, drafts, then the laws between reader and language, in Law;
-- Laws is for those above.
pub mod Saturating
pub mod CuttingTokens
pub mod FrontBytes
pub mod Law
pub mod CollectingItems
pub mod NameTest
pub mod GrowingUnit
pub mod LineEnd
pub mod TokenBounds
pub mod FormedOperands
pub mod FormedUnits
pub mod EndedSources
pub mod Laws
