-- What only helps the proofs: the pages of the store in memory, the words of a page, the pieces of an image,
-- frames over what stands behind them, and what they stand for and come to while pages come and go; how often one is
-- put out; Laws is for those above.
pub mod Held
pub mod Words
pub mod Pieces
pub mod Layers
pub mod Standing
pub mod Counts
pub mod Coming
pub mod Taking
pub mod Flushing
pub mod Carrying
pub mod Changing
pub mod Transacted
pub mod Written
pub mod Walking
pub mod CameTo
pub mod Laws
