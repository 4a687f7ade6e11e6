-- What is told of the shared run answers the input, whose images hold the programs of its sources, and so does the line
-- that refuses it.
use Rattle.std.proofs.Common.{ℕ, ◌≤◌, ◌∙◌, List, [], ◌∷◌, arith, length, refl, subst, sym}
use Rattle.m88_asm.proofs.Laws.{Shares, all_programs, as_many, program_held, program_mode, programs_count, shares_by}
use Rattle.m88_asm.specs.Several.{AreSourcesBehind, PlacedSource}
use Rattle.m88_base.specs.Image.{ProgramImage}
use Rattle.m88_base.specs.declared.absent.Absent.{Absent}
use Rattle.m88_mem.specs.Marks.{absent_in}
use Rattle.m88_tasks.specs.Tasks.{IsGroupOf, most_shared_events}
use Rattle.m88_commands.specs.Answer.Sharing.{group_of, no_program}
use Rattle.m88_commands.specs.Command.{share}
use Rattle.m88_commands.specs.Inside.Placing.{HoldSources}
use Rattle.m88_commands.proofs.Refusing.{refused_reply}
use Rattle.m88_commands.proofs.commands.sharing.share_board.Goals as goal

-- there is a source
some_source : (n : ℕ) (text : List ℕ) (sources : List PlacedSource) → AreSourcesBehind n text sources → 1 ≤ length sources
unfolding AreSourcesBehind
some_source n text [] are = absurd are
some_source n text (s ∷ more) are = omega arith

-- the programs of an input's sources are those of their images
is_group : (input : List ℕ) (images : List ProgramImage) (absent : Absent) (limit : ℕ) (h : HoldSources input images) (s : Shares h.sources images)
    → IsGroupOf images absent limit (group_of s.programs limit (absent_in absent))
is_group input images absent limit h s = record {
  count = programs_count images s.programs s.of_images;
  programs = λ q image at. program_held images s.programs no_program q image s.of_images at;
  modes = λ q below. program_mode h.sources s.programs no_program q refl s.are_programs;
  absent_is = refl;
  limited = refl;
}

-- so there are images, and no more than programs may be
pub new-requires-clause-some : goal.new-requires-clause-some
new-requires-clause-some c =
    let hold = rw c.in-Ok.is at c.in_ok-images.ensures in
    let h = subst (HoldSources c.args.input.now) (sym c.as_slice.ensures.value) hold in
    let some = some_source 0 c.args.input.now h.sources h.are_sources in
    let same = as_many h.sources c.as_slice.result.now h.hold in
    omega (arith, same, some)

pub new-requires-clause-few : goal.new-requires-clause-few
new-requires-clause-few c =
    let hold = rw c.in-Ok.is at c.in_ok-images.ensures in
    let h = subst (HoldSources c.args.input.now) (sym c.as_slice.ensures.value) hold in
    let few = h.few in
    let same = as_many h.sources c.as_slice.result.now h.hold in
    omega (arith, same, few)

pub returns-in-Err : goal.returns-in-Err
returns-in-Err c =
    refused_reply (share c.args.limit (absent_in c.args.absent.now) c.args.schedule.now) c.args.input.now c.in-Err.refusal c.refuse.result
    (rw c.in-Err.is at c.in_ok-images.ensures) c.refuse.ensures

pub returns : goal.returns
returns c =
    let images = c.as_slice.result.now in
    let absent = c.args.absent.now in
    let limit = c.args.limit in
    let hold = rw c.in-Ok.is at c.in_ok-images.ensures in
    let h : HoldSources c.args.input.now images = subst (HoldSources c.args.input.now) (sym c.as_slice.ensures.value) hold in
    let group = c.in_ok-tasks.ensures.group in
    let s = shares_by h.sources images h.hold (λ k image there. (group.0.programs k, group.1.programs k image there)) in
    let g = group_of s.programs limit (absent_in absent) in
    let stands = c.in_ok-tasks.ensures.at g (is_group c.args.input.now images absent limit h s) in
    let o = c.in_ok-shared.shared in
    let tasks = c.in_ok-tasks.tasks in
    rw c.accept.ensures (record {
      accepted = record {
        sources = h.sources;
        are_sources = h.are_sources;
        few = h.few;
        are_programs = all_programs h.sources images h.hold;
      };
      output = record {
        sources = h.sources;
        are_sources = h.are_sources;
        programs = s.programs;
        are_programs = s.are_programs;
        shared = o;
        is_shared = c.in_ok-shared.ensures.ran.shared g stands;
        own = c.in_ok-shared.ensures.ran.own g stands;
        within = subst (λ n. o.events ≤ most_shared_events (length c.args.schedule.now) n limit)
            (stands.programs.count ∙ programs_count images s.programs s.of_images ∙ as_many h.sources images h.hold)
            (subst (λ n. o.events ≤ most_shared_events (length c.args.schedule.now) (length tasks.programs.contexts) n)
            stands.programs.board.limit c.in_ok-shared.ensures.ran.within);
        is_text = c.in_ok-text.ensures;
      };
    })
