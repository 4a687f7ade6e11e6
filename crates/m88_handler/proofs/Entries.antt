-- An entry by what came of its handler.
use Rattle.std.specs.Prelude.{ℕ, ◌≡◌, ◌↔◌}
use Rattle.std.proofs.Common.{sym, ap, subst, ◌∙◌}
use Rattle.m88_isa.specs.Machine.{Program}
use Rattle.m88_monitor.specs.Serving.{Serving, after_service}
use Rattle.m88_handler.specs.Entering.{Faulted, entering, serving_of_fault}
use Rattle.m88_handler.specs.Handled.{handling_of}
use Rattle.m88_handler.specs.Judging.{IsEntry, LeavesAlike, came_of, judged, remark_with}
use Rattle.m88_handler.specs.Machine.{Handling, handled_by}
use Rattle.m88_handler.specs.declared.cause.Course.{Course}
use Rattle.m88_handler.proofs.Kept.{each_kept_is_alike}
use Rattle.m88_handler.specs.declared.entering.Entry.{Entry}
use Rattle.m88_handler.specs.declared.remark.Remark.{Remark}
use Rattle.m88_handler.specs.declared.remark.Remark.TheVariants.{Kept}

pub entry_by : (p : Program) (most : ℕ) (f : Faulted) (entry : Entry) (start : Handling) (course : Course) (wanted : Serving)
    → start ≡ entering p f → entry.found ≡ (entering p f).regs
    → (course, handling_of entry.left) ≡ handled_by p most start → wanted ≡ after_service (serving_of_fault f)
    → entry.remark ≡ remark_with course (handling_of entry.left) wanted → IsEntry p most f entry
unfolding came_of
entry_by p most f entry start course wanted begun found came served told =
    let whole : (course, handling_of entry.left) ≡ came_of p most f = came ∙ ap (handled_by p most) begun in
    let went : entry.remark ≡ judged (came_of p most f) f =
    told ∙ ap (remark_with course (handling_of entry.left)) served
    ∙ ap (λ (c : Course × Handling). remark_with c.0 c.1 (after_service (serving_of_fault f))) whole in
    record {
      found = found;
      left = ap (λ (c : Course × Handling). c.1) whole;
      went = went;
      kept = subst (λ (r : Remark). (r ≡ Kept) ↔ LeavesAlike (came_of p most f) f) (sym went) (each_kept_is_alike (came_of p most f) f);
    }
