-- One word of the frame changes, in its place.
use Rattle.std.proofs.Common.{◌≡◌, ◌∙◌, ◌/◌, ◌%◌, ◌==◌, ◌&&◌, ◌<◌, ◌^◌, ℕ, List, None, Option, Some, ap, arith, if◌then◌else◌, is_some, length, slice_get, slice_index_or, slice_set, sym, unwrap_or}
use Rattle.std.proofs.lemmas.List.{length-set}
use Rattle.m88_isa.specs.Lanes.{merged}
use Rattle.m88_mem.proofs.Levels.{at_any, entries_set, frames_kept, frames_set, if_some, in_table, ready_kept, same_some, word_set}
use Rattle.m88_mem.specs.DataBus.{page_words}
use Rattle.m88_mem.specs.Inside.Frames.{AreFrames, HasPut, frame_at, frame_in, table_entries, with_frame, word_at, word_in}
use Rattle.m88_mem.specs.declared.frames.FrameTable.{FrameTable}
use Rattle.m88_mem.specs.declared.frames.PageFrame.{PageFrame}
use Rattle.m88_mem.proofs.frames.PageFrames.put.Goals as goal

-- what a table with a word of one of its frames changed makes of all tables
put_in : (tables : List (Option FrameTable)) (later : Option FrameTable) (page place word : ℕ) (table : FrameTable) (frame : PageFrame) →
    AreFrames tables → page < 2 ^ 20 → place < page_words → slice_index_or tables (page / table_entries) None ≡ Some table →
    frame_at tables page ≡ Some frame → HasPut later table frame (page % table_entries) place word →
    AreFrames (slice_set tables (page / table_entries) later)
    × ((p k : ℕ) → word_at (slice_set tables (page / table_entries) later) p k
    ≡ (if p == page && k == place then Some word else word_at tables p k))
    × ((p : ℕ) → is_some (frame_at (slice_set tables (page / table_entries) later) p) ≡ is_some (frame_at tables p))
unfolding frame_in
put_in tables later page place word table frame are within few slot there put =
    let long : length table.frames.items ≡ table_entries = are.long (page / table_entries) table slot in
    let full : length frame.words.items ≡ page_words = are.words page frame there in
    let entries : (low : ℕ) → slice_index_or put.table.frames.items low None
    ≡ (if low == page % table_entries then Some put.frame else frame_in (Some table) low) =
    λ low. ap (λ (xs : List (Option PageFrame)). slice_index_or xs low None) put.frames
    ∙ entries_set table.frames.items (page % table_entries) (Some put.frame) (omega (arith, long)) low in
    let frames : (p : ℕ) → frame_at (slice_set tables (page / table_entries) later) p ≡ with_frame page (Some put.frame) (frame_at tables) p =
    rw put.is (frames_set tables page (Some table) put.table (Some put.frame) are.entries within slot entries) in (
      rw put.is
          (frames_kept tables page (Some table) put.table (Some put.frame) are within slot
          (ap length put.frames ∙ length-set table.frames.items (page % table_entries) (Some put.frame) ∙ long) entries
          (λ f e. ap (λ (x : PageFrame). length x.words.items) (sym (same_some put.frame f e))
          ∙ ap length put.words ∙ length-set frame.words.items place word ∙ full)),
      word_set tables _ page place word frame put.frame there put.words (omega (arith, few, full)) frames,
      ready_kept tables _ page frame put.frame there frames,
    )

pub put_in_table-requires : goal.put_in_table-requires
put_in_table-requires c =
    let slot : slice_index_or c.self.inside.tables.items (c.args.page / table_entries) None ≡ c.index_mut-table.result.now =
    at_any c.self.inside.tables.items (c.args.page / table_entries) None c.index_mut-table.result.now
    (omega (arith, c.self.invariant.entries, c.requires.is_page))
    ∙ sym c.index_mut-table.ensures.value in
    let ready = rw (← c.self.view_is) at c.requires.ready in
    record {
      within = omega arith;
      long = if_some c.index_mut-table.result.now (λ (t : FrameTable). length t.frames.items ≡ table_entries)
          (λ t is. c.self.invariant.long (c.args.page / table_entries) t (slot ∙ is));
      there = record {
        ready = ap (λ (o : Option FrameTable). is_some (frame_in o (c.args.page % table_entries))) (sym slot) ∙ ready;
        within = if_some (frame_in c.index_mut-table.result.now (c.args.page % table_entries))
            (λ (f : PageFrame). c.args.place < length f.words.items)
            (λ f is.
            let long = c.self.invariant.words c.args.page f
            (ap (λ (o : Option FrameTable). frame_in o (c.args.page % table_entries)) slot ∙ is) in
            omega (arith, long, c.requires.within));
        enable = c.requires.enable;
      };
    }

pub invariant_of-self : goal.invariant_of-self
invariant_of-self c =
    let slot : slice_index_or c.self.inside.tables.items (c.args.page / table_entries) None ≡ c.index_mut-table.result.now =
    at_any c.self.inside.tables.items (c.args.page / table_entries) None c.index_mut-table.result.now
    (omega (arith, c.self.invariant.entries, c.requires.is_page))
    ∙ sym c.index_mut-table.ensures.value in
    let at = in_table c.self.inside.tables.items c.args.page (rw (← c.self.view_is) at c.requires.ready) in
    let put = c.put_in_table.ensures 0 at.table at.frame (sym slot ∙ at.is)
    (ap (λ (o : Option FrameTable). frame_in o (c.args.page % table_entries)) (sym slot) ∙ at.there) in
    (put_in c.self.inside.tables.items c.put_in_table.new.table c.args.page c.args.place _ at.table at.frame c.self.invariant
    c.requires.is_page c.requires.within at.is at.there put).0

pub returns : goal.returns
unfolding word_in
returns c =
    let slot : slice_index_or c.self.inside.tables.items (c.args.page / table_entries) None ≡ c.index_mut-table.result.now =
    at_any c.self.inside.tables.items (c.args.page / table_entries) None c.index_mut-table.result.now
    (omega (arith, c.self.invariant.entries, c.requires.is_page))
    ∙ sym c.index_mut-table.ensures.value in
    let at = in_table c.self.inside.tables.items c.args.page (rw (← c.self.view_is) at c.requires.ready) in
    let made = λ (other : ℕ). put_in c.self.inside.tables.items c.put_in_table.new.table c.args.page c.args.place
    (merged c.args.en c.args.value (unwrap_or (slice_get at.frame.words.items c.args.place) other)) at.table at.frame
    c.self.invariant c.requires.is_page c.requires.within at.is at.there
    (c.put_in_table.ensures other at.table at.frame (sym slot ∙ at.is)
    (ap (λ (o : Option FrameTable). frame_in o (c.args.page % table_entries)) (sym slot) ∙ at.there)) in
    rw (← c.self.view_is)
    (record {
      word = λ other.
          let word : unwrap_or (word_at c.self.inside.tables.items c.args.page c.args.place) other
          ≡ unwrap_or (slice_get at.frame.words.items c.args.place) other =
          ap (λ (o : Option PageFrame). unwrap_or (word_in o c.args.place) other) at.there in
          rw word (made other).1;
      ready = (made 0).2;
      entries = length-set c.self.inside.tables.items (c.args.page / table_entries) c.put_in_table.new.table;
    })
