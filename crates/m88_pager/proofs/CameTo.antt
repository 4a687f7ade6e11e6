-- The frames are flushed, and what the run came to is told.
use Rattle.std.specs.Prelude.{ℕ, List, [], Option, true, ◌≡◌, ◌+◌, ◌^◌}
use Rattle.std.specs.BTreeSet.{contains}
use Rattle.std.specs.Ordering.{nat_cmp}
use Rattle.std.proofs.Common.{sym, ap, ap₂, subst, ◌∙◌}
use Rattle.m88_base.specs.Image.{IsImage, ProgramImage}
use Rattle.m88_board.specs.Board.{BoardView, local_of}
use Rattle.m88_board.specs.Moves.{IsAt}
use Rattle.m88_event.specs.Local.{is_over_by}
use Rattle.m88_event.specs.Run.{HasEvents, moment_after, outcome_at}
use Rattle.m88_event.specs.Timeline.{Moment, Run, is_over}
use Rattle.m88_event.specs.declared.outcome.Outcome.{Outcome}
use Rattle.m88_isa.proofs.Laws.{program_of_image, state_bus, state_bytes}
use Rattle.m88_isa.specs.Bus.{bus_after_all, changed_words, in_words}
use Rattle.m88_isa.specs.History.{transactions}
use Rattle.m88_isa.specs.ImageProgram.{IsProgramOf}
use Rattle.m88_isa.specs.Machine.{IsProgram, Program, opening, state}
use Rattle.m88_isa.specs.declared.planned.Access.{Access}
use Rattle.m88_mem.specs.DataBus.{image_bus, image_bytes}
use Rattle.m88_pager.proofs.Walking.{IsThere, all_done, holds_written, opens_so, over_there, stands_alone}
use Rattle.m88_pager.proofs.Words.{words_stay, words_there}
use Rattle.m88_pager.specs.Frames.{Frames as FramesSeen, dirty_count, ins_along, outs_along}
use Rattle.m88_pager.specs.Inside.Bytes.{in_bytes}
use Rattle.m88_pager.specs.Inside.Calls.{AreFlushed}
use Rattle.m88_pager.specs.Inside.Came.{CameTo, IsFinished}
use Rattle.m88_pager.specs.Inside.Contents.{StandWhereTold}
use Rattle.m88_pager.specs.Inside.Seen.{AreCarried, held_by}
use Rattle.m88_pager.specs.Inside.Told.{AreChanged}
use Rattle.m88_pager.specs.Pages.{HoldsWhereTold, page_of, writes_page}
use Rattle.m88_pager.specs.Store.{PageMap}
use Rattle.m88_pager.specs.declared.frames.Frame.{Frame}
use Rattle.m88_pager.specs.declared.frames.Frames.{Frames as Paging}
use Rattle.m88_pager.specs.declared.paged.Paged.{Paged}

-- the outcome with other words in place of those that changed
abbrev with_words : Outcome → List (ℕ × ℕ) → Outcome
with_words o words = record o { changed = words }

retired_there : (p : Program) (m : Moment) (o : Outcome) → o ≡ outcome_at p m → o.retired ≡ m.retired
unfolding outcome_at
retired_there p m o is = ap (λ (x : Outcome). x.retired) is

words_known : (p : Program) (m : Moment) (o : Outcome) (words : List (ℕ × ℕ)) → o ≡ outcome_at p m →
    words ≡ changed_words (in_words (opening p).memory) (in_words (state p m.retired).memory) →
    with_words o words ≡ outcome_at p m
unfolding outcome_at
words_known p m o words is changed = ap₂ with_words is changed

words_open : (p : Program) (m : Moment) (o : Outcome) (words : List (ℕ × ℕ)) → o ≡ outcome_at p m →
    with_words (with_words o words) (outcome_at p m).changed ≡ outcome_at p m
words_open p m o words is = ap (λ (x : Outcome). with_words x (outcome_at p m).changed) is

all_words : (old new : ℕ → ℕ) (words : List (ℕ × ℕ)) → words ≡ Rattle.m88_isa.specs.Bus.changed_among (2 ^ 30) old new →
    words ≡ changed_words old new
unfolding changed_words
all_words old new words is = is

pub came_to : (p : Program) (m : Moment) (most : ℕ) (image : ProgramImage) (f g : Paging) (o : Outcome)
    (words : List (ℕ × ℕ)) (told now : Option PageMap) → IsProgram p → image_bus image ≡ in_words (opening p).memory → o ≡ outcome_at p m →
    AreCarried (image_bytes image) most (transactions p m.retired) f told →
    AreFlushed f g told now →
    AreChanged (image_bytes image) (λ q. contains nat_cmp g.held q) now (2 ^ 30) words →
    CameTo p most m (record { outcome = with_words o words; ins = g.ins; outs = g.outs }) now
came_to p m most image f g o words told now is same value carried flushed changed =
    let original : ℕ → ℕ = image_bytes image in
    let xs : List Access = transactions p m.retired in
    let bus : ℕ → ℕ = bus_after_all xs (in_words original) in
    let history : bus ≡ in_words (state p m.retired).memory = ap (bus_after_all xs) same ∙ sym (state_bus p m.retired is) in
    let retired : o.retired ≡ m.retired = retired_there p m o value in
    let alone : StandWhereTold (page_of original) (page_of (in_bytes bus)) (writes_page xs) (held_by g) [] now =
    subst (λ (es : List (ℕ × Frame)). StandWhereTold (page_of original) (page_of (in_bytes bus)) (writes_page xs) (held_by g) es now) flushed.empty
    (flushed.stands (page_of original) (page_of (in_bytes bus)) (writes_page xs) carried.stands) in
    record {
      but_words = words_open p m o words value;
      outcome = λ tells.
          words_known p m o words value
          (all_words (in_words original) bus words
          (changed bus (writes_page xs) (stands_alone original bus (writes_page xs) (held_by g) now tells alone) carried.bytes
          (words_stay xs (in_words original) (words_there original carried.bytes)))
          ∙ ap₂ changed_words same history);
      counts = record {
        ins =
            flushed.ins ∙ ap (λ (s : FramesSeen). s.ins) carried.counts
            ∙ ap (λ (n : ℕ). ins_along most (transactions p n)) (sym retired);
        outs =
            flushed.outs ∙ ap (λ (s : FramesSeen). s.outs + dirty_count s.pages) carried.counts
            ∙ ap (λ (n : ℕ). outs_along most (transactions p n)) (sym retired);
      };
      pages =
          subst (λ (n : ℕ). HoldsWhereTold (writes_page (transactions p n)) (state p n).memory now) (sym retired)
          (holds_written original (state p m.retired).memory bus (writes_page xs) (held_by g) now history (state_bytes p m.retired is) alone);
    }

-- a run that is over has its events, and came to what the last moment says
pub ends : (r : Run) {k most : ℕ} (image : ProgramImage) {b last : BoardView} {f : Paging} {told now : Option PageMap}
    {writes writes' : Option ℕ} {o : Paged} → IsImage image → IsProgramOf image r.program →
    is_over_by b.limit (local_of b) ≡ true → IsThere r k (image_bytes image) most b f told → last ≡ b →
    IsFinished image last f told now writes writes' o →
    HasEvents r k × CameTo r.program most (moment_after r k) o now
ends r {k} {most} image {b} {last} {f} {told} is of over there same finished =
    let m : Moment = moment_after r k in
    let so : is_over r m ≡ true = over_there r m b there.at ∙ over in (
      record { here = so; first = there.first },
      finished.came r m most (program_of_image image r.program is of) (opens_so r.program image of)
          (subst (λ (x : BoardView). IsAt r m x) (sym same) there.at) so
          (subst (λ (xs : List Access). AreCarried (image_bytes image) most xs f told) (all_done r m so) there.carried),
    )
