-- A new table has no frame.
use Rattle.std.proofs.Common.{◌≡◌, ◌∙◌, ◌/◌, ◌%◌, ap, sym, refl, arith, None, Some, is_some, slice_index_or, length}
use Rattle.std.proofs.lemmas.List.{get_or-set_same, length-set}
use Rattle.m88_mem.proofs.Levels.{at_any, frames_kept, frames_set, long_blank, no_entries, none_some, not_some, still_none}
use Rattle.m88_mem.specs.Inside.Frames.{frame_at, frame_in, has_table}
use Rattle.m88_mem.proofs.frames.PageFrames.give_table.Goals as goal

pub invariant_of-self : goal.invariant_of-self
unfolding frame_in
invariant_of-self c =
    let was : slice_index_or c.self.inside.tables.items (c.args.page / 1024) None ≡ None =
    at_any c.self.inside.tables.items (c.args.page / 1024) None c.index.result.now (omega (arith, c.self.invariant.entries, c.requires))
    ∙ sym c.index.ensures ∙ not_some c.index.result.now (sym c.is_some.ensures ∙ c.if-is_some.false) in
    frames_kept c.self.inside.tables.items c.args.page None c.in_ok-table.table None c.self.invariant c.requires was
    (ap length c.in_ok-table.ensures ∙ long_blank 1024 None)
    (no_entries c.in_ok-table.table 1024 (c.args.page % 1024) c.in_ok-table.ensures)
    (λ f e. absurd (none_some f e))

pub returns : goal.returns
unfolding frame_in has_table
returns c =
    let was : slice_index_or c.self.inside.tables.items (c.args.page / 1024) None ≡ None =
    at_any c.self.inside.tables.items (c.args.page / 1024) None c.index.result.now (omega (arith, c.self.invariant.entries, c.requires))
    ∙ sym c.index.ensures ∙ not_some c.index.result.now (sym c.is_some.ensures ∙ c.if-is_some.false) in
    rw (← c.self.view_is)
    (record {
      same = λ p.
          frames_set c.self.inside.tables.items c.args.page None c.in_ok-table.table None c.self.invariant.entries c.requires was
          (no_entries c.in_ok-table.table 1024 (c.args.page % 1024) c.in_ok-table.ensures) p
          ∙ still_none (frame_at c.self.inside.tables.items) c.args.page (rw was refl) p;
      entries = length-set c.self.inside.tables.items (c.args.page / 1024) (Some c.in_ok-table.table);
      there = ap is_some
          (get_or-set_same c.self.inside.tables.items (c.args.page / 1024) (Some c.in_ok-table.table) None
          (omega (arith, c.self.invariant.entries, c.requires)));
      err = tt;
    })
