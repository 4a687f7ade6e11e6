-- S-records write one image.
use Rattle.std.proofs.Common.{◌≡◌, List, ℕ, ap}
use Rattle.m88_base.specs.Image.{IsImage, ProgramImage}
use Rattle.m88_base.proofs.Laws.{same_images}
use Rattle.m88_srec.proofs.Laws.{verdict_takes}
use Rattle.m88_srec.specs.Accepted.{IsAccepted, Whole, whole_of}

pub one_written : (records : List ℕ) (i j : ProgramImage) → IsImage i → IsImage j → IsAccepted records (whole_of i)
    → IsAccepted records (whole_of j) → i ≡ j
one_written records i j a b written other =
    let one = verdict_takes records (whole_of i) written in
    let two = verdict_takes records (whole_of j) other in
    let whole : whole_of i ≡ whole_of j = cc in
    same_images i j a.apart b.apart (ap (λ (w : Whole). w.start) whole) (λ n. ap (λ (w : Whole). w.found n) whole)
