-- The words of all tables are all words; where there is no table no word changed.
use Rattle.std.proofs.Common.{◌≡◌, ◌+◌, ◌*◌, ◌∙◌, ap, sym, arith, refl}
use Rattle.m88_isa.specs.Bus.{changed_among, changed_words}
use Rattle.m88_mem.proofs.Levels.{no_word_without_table}
use Rattle.m88_mem.proofs.Walk.{nothing_seen}
use Rattle.m88_mem.specs.DataBus.{bus_of, image_bus, page_words}
use Rattle.m88_mem.specs.Inside.Frames.{table_entries}
use Rattle.m88_mem.proofs.memory.Memory.changed.Goals as goal
use Rattle.m88_mem.proofs.memory.Memory.changed.Goals.{then-has_table+in_ok-changed_in_table, else-has_table}

pub loop-high-init : goal.loop-high-init
unfolding changed_among
loop-high-init c = c.in_ok-changed.ensures.items

pub loop-high-preserved : goal.loop-high-preserved
loop-high-preserved c =
    elim c.if-has_table.branch [
      | then-has_table+in_ok-changed_in_table w ↦ ap (λ v. v.items) w.changed-is ∙ w.in_ok-changed_in_table.ensures
      | else-has_table w ↦
          ap (λ v. v.items) w.changed-is ∙ c.loop-high.invariant
          ∙ nothing_seen c.args.self.now c.self.inside.image c.self.inside.frames c.self.inside.absent c.self.view_is
          c.self.invariant.entries (c.loop-high.high * table_entries) table_entries
          (c.loop-high.high * table_entries * page_words) ((c.loop-high.high + 1) * table_entries * page_words)
          (λ page place low up. no_word_without_table c.self.inside.frames (c.loop-high.high * table_entries) page place
          (sym c.has_table.ensures ∙ w.if-has_table.false) (omega (arith, low, up)))
          refl (omega arith)
    ]

pub returns : goal.returns
unfolding changed_words
returns c =
    let whole : c.loop-high.high * 1024 * 1024 ≡ 1073741824 = omega arith in
    c.loop-high.invariant ∙ ap (λ n. changed_among n (image_bus c.args.self.now.image) (bus_of c.args.self.now)) whole
