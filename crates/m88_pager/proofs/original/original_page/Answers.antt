-- A page without a byte of the image, or its bytes.
use Rattle.std.proofs.Common.{refl}
use Rattle.std.proofs.lemmas.Result.{IfOk-weaker}
use Rattle.m88_mem.specs.DataBus.{image_bytes}
use Rattle.m88_pager.proofs.Pieces.{page_blank, page_held}
use Rattle.m88_pager.proofs.original.original_page.Goals as goal

pub returns-in-None : goal.returns-in-None
returns-in-None c = IfOk-weaker c.zeros.result _ _
    (λ bytes made. page_blank c.args.image.now c.args.page _ _ bytes.items refl refl c.in-None.ensures.free made)
    c.zeros.ensures

pub returns-in-Some : goal.returns-in-Some
returns-in-Some c = IfOk-weaker c.copied_page.result _ _
    (λ bytes piece. page_held (image_bytes c.args.image.now) c.args.page _ bytes.items refl piece.long piece.held)
    c.copied_page.ensures
