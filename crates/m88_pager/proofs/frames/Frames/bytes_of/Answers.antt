-- As memory has them at first, or as the store does.
use Rattle.std.specs.Prelude.{ℕ, Bool, Vec, ◌≡◌, length}
use Rattle.std.proofs.Common.{Global, arith, sym, ap, subst, ◌∙◌}
use Rattle.m88_base.specs.Pages.{page_bytes}
use Rattle.m88_mem.specs.DataBus.{image_bytes}
use Rattle.m88_pager.proofs.Coming.{all_written, is_held, not_held, not_lost}
use Rattle.m88_pager.proofs.Words.{page_length}
use Rattle.m88_pager.specs.Inside.Seen.{ComesFrom, IsSpare, held_by}
use Rattle.m88_pager.specs.Pages.{page_of}
use Rattle.m88_pager.specs.Store.{ReadsPage}
use Rattle.m88_pager.proofs.frames.Frames.bytes_of.Goals.{in-Some, in-None+in_ok-bytes-in-None}
use Rattle.m88_pager.proofs.frames.Frames.bytes_of.Given.{Over}
use Rattle.m88_pager.proofs.frames.Frames.bytes_of.Goals as goal

pub returns-then-not-contains-clause-comes : goal.returns-then-not-contains-clause-comes
returns-then-not-contains-clause-comes g c = record {
  size = ap length c.in_ok-original_page.ensures ∙ page_length (image_bytes c.args.image.now) c.args.page;
  comes =
      not_held (page_of (image_bytes c.args.image.now)) (held_by c.args.self.now) (g.P.PageStore.pages c.args.store.now) c.args.page _
      (sym c.contains.ensures ∙ c.if-not-contains.true) c.in_ok-original_page.ensures;
}

-- the bytes that are written over
over_size : (g : Over) (c : goal.After-as_mut_slice g) → length c.match-spare-3.bytes.items ≡ page_bytes
over_size g c = elim c.match-spare-3.branch [
  | in-Some w ↦ ap (λ (bytes : Vec ℕ Global). length bytes.items) w.bytes-is ∙ subst IsSpare w.in-Some.is c.requires.spare
  | in-None+in_ok-bytes-in-None w ↦
      ap (λ (bytes : Vec ℕ Global). length bytes.items) w.bytes-is
      ∙ ap length w.in_ok-bytes-in-None.ensures
      ∙ page_length (image_bytes c.args.image.now) c.args.page
]

pub read-requires : goal.read-requires
read-requires g c = record {
  number = c.requires.page;
  size = ap length c.as_mut_slice.ensures.value ∙ over_size g c;
}

pub returns-then-branch-clause-comes : goal.returns-then-branch-clause-comes
returns-then-branch-clause-comes g c =
    let old = c.match-spare-3.bytes in
    let size : length old.items ≡ page_bytes = over_size g c.before.before.before.before.before in
    let same : length c.read.new.into ≡ length old.items = c.read.auto.into ∙ ap length c.as_mut_slice.ensures.value in
    let written = all_written old.len old.items c.read.new.into (omega (arith, old.ok.0)) same in
    let original = page_of (image_bytes c.args.image.now) in
    let held = held_by c.args.self.now in
    let told = g.P.PageStore.pages c.args.store.now in
    record {
      size = ap length written ∙ same ∙ size;
      comes =
          subst (ComesFrom original held told c.args.page) (sym written)
          (is_held original held told c.args.page c.in_ok-read.field-0 _ c.read.new.into
          (sym c.contains.ensures ∙ c.if-not-contains.false) c.in_ok-read.ensures.reads);
    }

pub returns-clause-comes : goal.returns-clause-comes
returns-clause-comes g c =
    let told = g.P.PageStore.pages c.args.store.now in
    let before = c.as_mut_slice.result.now in
    record {
      size = ap length c.in_ok-original_page-2.ensures ∙ page_length (image_bytes c.args.image.now) c.args.page;
      comes =
          not_lost (page_of (image_bytes c.args.image.now)) (held_by c.args.self.now) told c.args.page before c.read.new.into _
          (sym c.contains.ensures ∙ c.if-not-contains.false)
          (subst (λ (found : Bool). ReadsPage told c.args.page found before c.read.new.into) c.if-branch.false c.in_ok-read.ensures.reads);
    }
