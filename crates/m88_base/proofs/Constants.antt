-- The constants of the code are the numbers of the definitions.
use Rattle.std.specs.Prelude.{◌≡◌, refl}
use Rattle.m88_base.specs.Image.{first_text, most_bytes}
use Rattle.m88_base.specs.Pages.{page_bytes}
use Rattle.m88_base.specs.declared.absent.TheConstants as absent
use Rattle.m88_base.specs.declared.image.TheConstants as image

pub page_bytes_named : absent.PAGE_BYTES ≡ page_bytes
page_bytes_named = refl

pub first_text_named : image.FIRST_TEXT ≡ first_text
first_text_named = refl

pub most_bytes_named : image.MOST_BYTES ≡ most_bytes
most_bytes_named = refl
