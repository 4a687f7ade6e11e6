-- The runs of a source before some frames come to one thing.
use Rattle.std.proofs.Common.{◌≡◌, ℕ, List, ap, refl, subst, sym, ◌∙◌}
use Rattle.m88_asm.proofs.Laws.{holds_of_same}
use Rattle.m88_event.proofs.Laws.{one_outcome}
use Rattle.m88_event.specs.Run.{IsOutcome}
use Rattle.m88_isa.specs.History.{transactions}
use Rattle.m88_pager.proofs.Laws.{one_retired}
use Rattle.m88_pager.specs.Frames.{ins_along, outs_along}
use Rattle.m88_pager.specs.declared.paged.Paged.{Paged}
use Rattle.m88_commands.specs.Answer.Paging.{PagesTo}
use Rattle.m88_session.specs.Settings.{Settings, run_by}
use Rattle.m88_event.specs.Timeline.{run_with}

module _ (source : List ℕ) (frames : ℕ) (s : Settings) where
  -- the runs of a source with a limit have one count each way
  pub one_count : (t : Settings) (a b : Paged) → t.limit ≡ s.limit → PagesTo source frames t a
      → PagesTo source frames s b → (a.ins ≡ b.ins) × (a.outs ≡ b.outs)
  one_count t a b same x y =
      let own = holds_of_same source _ _ x y in
      let outcome = subst (λ n. IsOutcome (run_with y.program t.absent n t.schedule) a.outcome) same own.0 in
      let retired = one_retired (run_by y.program s) t.absent t.schedule a.outcome b.outcome outcome y.holds.0 in (
        own.1.ins ∙ ap (λ n. ins_along frames (transactions y.program n)) retired ∙ sym y.holds.1.ins,
        own.1.outs ∙ ap (λ n. outs_along frames (transactions y.program n)) retired ∙ sym y.holds.1.outs,
      )

  -- and with these settings they come to one thing
  pub one_paged : (a b : Paged) → PagesTo source frames s a → PagesTo source frames s b → a ≡ b
  one_paged a b x y =
      let own = holds_of_same source _ _ x y in
      let outcome = one_outcome (run_by y.program s) a.outcome b.outcome own.0 y.holds.0 in
      let counts = one_count s a b refl x y in
      λ i. record { outcome = outcome i; ins = counts.0 i; outs = counts.1 i }
