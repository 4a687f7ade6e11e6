-- `build` of a listing that `dis` writes of S-records writes the records of their image.
use Rattle.std.proofs.Common.{ℕ, List, refl, sym, subst}
use Rattle.m88_base.specs.Image.{IsImage, ProgramImage}
use Rattle.m88_disasm.proofs.Laws.{listing_again}
use Rattle.m88_disasm.specs.Listing.{IsImageListing}
use Rattle.m88_srec.specs.Written.{srec_text}
use Rattle.m88_commands.specs.Answer.{IsAnswerToAccepted}
use Rattle.m88_commands.specs.Bridge.{ListedBuildsAlike}
use Rattle.m88_commands.specs.Command.{build}
use Rattle.m88_commands.proofs.OneText.Linked.{recorded}
use Rattle.m88_commands.proofs.OneText.Listed.{one_written}

-- a listing of an image is built into the records of the image
built_again : (listing : List ℕ) (image : ProgramImage) → IsImage image → IsImageListing image listing
    → IsAnswerToAccepted build listing (srec_text image)
built_again listing image is listed =
    let w = listing_again image listing is listed in
    recorded listing (srec_text image) w.unit image w.is_unit w.accepted
    (record { is_image = is; bytes = λ a. sym (w.bytes a); start = sym w.start }) refl

-- what `dis` writes is built into the records of the one image of its input
pub listed_builds_alike : ListedBuildsAlike
listed_builds_alike records listing image answer is holds =
    let own = answer.output in
    subst (λ i. IsAnswerToAccepted build listing (srec_text i))
    (one_written records own.image image own.is_image is own.is_written holds)
    (built_again listing own.image own.is_image own.is_listing)
