-- What `dis` writes for S-records.
use Rattle.std.specs.Prelude.{ℕ, List}
use Rattle.m88_base.specs.Image.{IsImage, ProgramImage}
use Rattle.m88_disasm.specs.Listing.{IsImageListing}
use Rattle.m88_srec.specs.Accepted.{IsAccepted, whole_of}

-- the text is the listing of the image that S-records write
pub record IsListingText (records text : List ℕ) : Type 0 where
  pub image : ProgramImage
  pub is_image : IsImage image
  pub is_written : IsAccepted records (whole_of image)
  pub is_listing : IsImageListing image text
