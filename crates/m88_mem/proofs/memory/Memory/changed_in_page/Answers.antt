-- The words of a page that is ready are those of the data bus; a page that isn't ready has none that changed.
use Rattle.std.proofs.Common.{◌≡◌, ◌+◌, ◌*◌, ◌∙◌, ap, sym, arith, refl}
use Rattle.std.specs.Prelude.{None, is_some, option_map}
use Rattle.m88_mem.proofs.Levels.{no_word_unready}
use Rattle.m88_mem.proofs.Seen.{goes_over, same_there}
use Rattle.m88_mem.proofs.Walk.{nothing_seen}
use Rattle.m88_mem.specs.DataBus.{page_words}
use Rattle.m88_mem.specs.Inside.Frames.{frame_at, words_in}
use Rattle.m88_mem.proofs.memory.Memory.changed_in_page.Goals as goal

pub changed_in_frame-requires : goal.changed_in_frame-requires
changed_in_frame-requires c =
    goes_over c.args.self.now c.self.inside.image c.self.inside.frames c.self.inside.absent c.args.page c.in-Some.words.now _
    c.self.view_is c.self.invariant.entries
    (sym c.words.ensures.words ∙ ap (λ o. option_map (λ words. words.now) o) c.in-Some.is) c.in-Some.ensures.long c.requires

pub changed_in_blank-requires-clause-walk : goal.changed_in_blank-requires-clause-walk
changed_in_blank-requires-clause-walk c =
    goes_over c.args.self.now c.self.inside.image c.self.inside.frames c.self.inside.absent c.args.page c.in-Some.words.now _
    c.self.view_is c.self.invariant.entries
    (sym c.words.ensures.words ∙ ap (λ o. option_map (λ words. words.now) o) c.in-Some.is) c.in-Some.ensures.long c.requires

pub returns-in_default : goal.returns-in_default
returns-in_default c =
    let none : words_in (frame_at c.self.inside.frames c.args.page) ≡ None =
    sym c.words.ensures.words ∙ ap (λ o. option_map (λ words. words.now) o) c.in_default.is in
    c.requires.before
    ∙ nothing_seen c.args.self.now c.self.inside.image c.self.inside.frames c.self.inside.absent c.self.view_is
    c.self.invariant.entries c.args.page 1 (c.args.page * page_words) ((c.args.page + 1) * page_words)
    (λ p place low up. no_word_unready c.self.inside.frames c.args.page p place
    (sym (same_there (frame_at c.self.inside.frames c.args.page)) ∙ ap (λ o. is_some o) none) (omega (arith, low, up)))
    refl (omega arith)
