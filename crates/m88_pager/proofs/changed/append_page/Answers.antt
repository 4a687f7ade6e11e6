-- The page as memory has it at first, and as the store does.
use Rattle.std.specs.Prelude.{◌≡◌, length}
use Rattle.std.proofs.Common.{arith, ap, ◌∙◌}
use Rattle.m88_isa.specs.Bus.{in_words}
use Rattle.m88_mem.specs.DataBus.{image_bytes}
use Rattle.m88_pager.proofs.Changing.{first_page, held_page}
use Rattle.m88_pager.proofs.Coming.{all_written, is_held}
use Rattle.m88_pager.proofs.Words.{page_length, words_there}
use Rattle.m88_pager.specs.Pages.{page_of}
use Rattle.m88_pager.proofs.changed.append_page.Goals as goal

pub read-requires : goal.read-requires
read-requires g c = record {
  number = c.requires;
  size = ap length (c.as_mut_slice.ensures.value ∙ c.in_ok-after.ensures) ∙ page_length (image_bytes c.args.image.now) c.args.page;
}

pub append_changed-requires : goal.append_changed-requires
append_changed-requires g c =
    let old = c.in_ok-after.after in
    let same : length c.read.new.into ≡ length old.items = c.read.auto.into ∙ ap length c.as_mut_slice.ensures.value in
    record {
      before = record {
        number = c.requires;
        size = ap length (c.deref.ensures.value ∙ c.in_ok-before.ensures) ∙ page_length (image_bytes c.args.image.now) c.args.page;
      };
      after = record {
        number = c.requires;
        size =
            ap length (c.deref-2.ensures.value ∙ all_written old.len old.items c.read.new.into (omega (arith, old.ok.0)) same)
            ∙ same
            ∙ ap length c.in_ok-after.ensures
            ∙ page_length (image_bytes c.args.image.now) c.args.page;
      };
    }

pub returns-clause-changed : goal.returns-clause-changed
returns-clause-changed g c = λ held is so bus written s bytes news.
    let old = c.in_ok-after.after in
    let original = image_bytes c.args.image.now in
    let told = g.P.PageStore.pages c.args.store.now in
    let same : length c.read.new.into ≡ length old.items = c.read.auto.into ∙ ap length c.as_mut_slice.ensures.value in
    c.in_ok-append_changed.ensures (in_words original) bus (words_there original bytes) news
    (c.deref.ensures.value ∙ c.in_ok-before.ensures ∙ first_page original c.args.page bytes)
    (c.deref-2.ensures.value
    ∙ all_written old.len old.items c.read.new.into (omega (arith, old.ok.0)) same
    ∙ held_page original bus written held told c.args.page c.read.new.into s
    (is_held (page_of original) held told c.args.page c.in_ok-read.field-0 _ c.read.new.into
    is c.in_ok-read.ensures.reads))
    (so bus written s bytes news)
