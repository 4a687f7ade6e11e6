-- Room is made, and the page stands in front.
use Rattle.std.specs.Prelude.{ℕ, List, ◌∷◌, ◌≡◌, ◌+◌, All, None, Option, nat_eq, false}
use Rattle.std.proofs.Common.{ap, refl, sym, subst, ◌∙◌}
use Rattle.std.specs.Map.{lookup}
use Rattle.m88_mem.specs.DataBus.{image_bytes}
use Rattle.m88_pager.proofs.Taking.{come_brought, come_seen, come_told, none_kept, whole_kept}
use Rattle.m88_pager.specs.Frames.{brought_as}
use Rattle.m88_pager.specs.Inside.Contents.{StandWhereTold}
use Rattle.m88_pager.specs.Inside.Seen.{IsWholePage, held_by, seen_of, seen_with}
use Rattle.m88_pager.specs.Pages.{page_of}
use Rattle.m88_pager.specs.Store.{PageMap}
use Rattle.m88_pager.specs.declared.frames.Frame.{Frame}
use Rattle.m88_pager.proofs.frames.Frames.come_in.Goals as goal

pub returns-clause-place : goal.returns-clause-place
returns-clause-place g c =
    let freed = c.in_ok-spare.ensures.freed in
    record {
      room = freed.room;
      apart =
          ap (λ (es : List (ℕ × Frame)). lookup (nat_eq c.args.page) es) freed.left
          ∙ none_kept (nat_eq c.args.page) c.args.self.now.cache.cap c.args.self.now.cache.entries c.requires.may.apart;
    }

pub returns-clause-brought : goal.returns-clause-brought
returns-clause-brought g c =
    let old = c.args.self.now in
    let page = c.args.page in
    let f = c.make_room.new.self in
    let freed = c.in_ok-spare.ensures.freed in
    let original = page_of (image_bytes c.args.image.now) in
    let told = g.P.PageStore.pages c.make_room.new.store in
    let frame : Frame = record { bytes = c.in_ok-bytes.bytes; dirty = false } in
    let apart : lookup (nat_eq page) f.cache.entries ≡ None =
    ap (λ (es : List (ℕ × Frame)). lookup (nat_eq page) es) freed.left
    ∙ none_kept (nat_eq page) old.cache.cap old.cache.entries c.requires.may.apart in
    let come : seen_with page frame (record f { ins = f.ins + 1 }) ≡ brought_as old.cache.cap page None (seen_of old) =
    come_brought old.cache.cap page (seen_of f) (seen_of old) freed.counts in
    record {
      whole = record { number = c.requires.page; size = c.in_ok-bytes.ensures.comes.size };
      others_whole = subst (All IsWholePage) (sym freed.left) (whole_kept old.cache.cap old.cache.entries c.requires.may.within.whole);
      counts = come ∙ come_seen old.cache.cap page old.cache.entries old.ins old.outs c.requires.may.apart;
      cap = freed.cap;
      stands = λ memory written s.
          subst (λ (now : Option PageMap). StandWhereTold original memory written (held_by f) ((page, frame) ∷ f.cache.entries) now)
          (sym c.in_ok-bytes.ensures.store.same)
          (come_told original memory written (held_by f) f.cache.entries page frame told apart refl c.in_ok-bytes.ensures.comes.comes
          (freed.stands original memory written s));
    }
