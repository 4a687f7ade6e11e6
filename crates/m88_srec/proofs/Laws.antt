-- The laws of S-records that proofs above cite.

-- A text is accepted as one whole or has one first fault, and the verdict takes what is accepted.
pub use Rattle.m88_srec.proofs.Law.{one_verdict as one_record_verdict, verdict_takes}
-- It is accepted or has one refusal, never both.
pub use Rattle.m88_srec.proofs.Refusing.{one_refusal as one_records_refusal}
-- The text of every image is accepted and writes the image.
pub use Rattle.m88_srec.proofs.Trip.{image_is_accepted}
