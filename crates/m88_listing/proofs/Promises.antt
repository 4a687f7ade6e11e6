-- What holds of every source and of its listing.
use Rattle.m88_asm.proofs.Laws.{one_program_verdict}
use Rattle.m88_listing.specs.Laws.{ListingLaws}
use Rattle.m88_listing.proofs.Numbering.{each_line_stands_once}
use Rattle.m88_listing.proofs.Showing.{each_shows_its_image}
use Rattle.m88_listing.proofs.Verdict.{one_text}

pub listing_laws : ListingLaws
listing_laws = record {
  one_verdict = one_program_verdict 0;
  one_text = one_text;
  image = each_shows_its_image;
  lines = each_line_stands_once;
}
