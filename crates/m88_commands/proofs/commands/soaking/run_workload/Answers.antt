-- The letters are read as the schedule, the source has no fault, and the summary of its run answers.
use Rattle.std.proofs.Common.{ap, inr, rules, ◌∙◌, ◌≡◌, ℕ, ◌*◌, ◌≤◌, List, Option, None, Some, false, length, subst, sym, arith}
use Rattle.std.specs.Prelude.{map}
use Rattle.std.specs.List.{range_with_len}
use Rattle.std.proofs.lemmas.List.{length-map}
use Rattle.std.proofs.lemmas.List.FromFn.{length-range_with_len}
use Rattle.m88_asm.proofs.Laws.{held_by, not_linked}
use Rattle.m88_asm.specs.Held.{HoldsUnit}
use Rattle.m88_asm.specs.Sources.{IsRefusedProgram, IsSourceProgram}
use Rattle.m88_base.specs.Image.{IsImage, ProgramImage}
use Rattle.m88_base.specs.Refusal.{Refusal}
use Rattle.m88_event.specs.Letters.{IsSchedule, letter_byte}
use Rattle.m88_event.specs.declared.letter.Letter.{Letter}
use Rattle.m88_commands.specs.Answer.Workload.{summary_of, drawn_letters, seed_after, workload_letters, workload_schedule, workload_source}
use Rattle.m88_commands.proofs.Reporting.{answers_none, front_of_run, run_answer, run_front, run_shown, RunsBy}
use Rattle.m88_commands.proofs.WorkloadSources.{source_short, workload_accepted}
use Rattle.m88_commands.specs.Command.{soak}
use Rattle.m88_commands.specs.Limits.{most_statements}
use Rattle.m88_commands.specs.Answer.Runs.{workload_settings}
use Rattle.m88_session.specs.Settings.{Settings}
use Rattle.m88_commands.proofs.Drawing.{letters_behind}
use Rattle.m88_commands.proofs.commands.soaking.run_workload.Goals as goal

-- what the letters of the schedule are read as
letters_count : (number first n : ℕ) → length (drawn_letters number first n) ≡ n
unfolding drawn_letters
letters_count number first n = length-map (range_with_len 0 n) _ ∙ length-range_with_len 0 n

letters_are : (number count : ℕ) (text : List ℕ)
    → text ≡ map letter_byte (drawn_letters (seed_after number (4 * count)) 0 workload_letters)
    → IsSchedule text (workload_schedule number count)
letters_are number count text is =
    let long = letters_count number (4 * count) workload_letters in
    inr (is ∙ ap (map letter_byte) (letters_behind number (4 * count) workload_letters), omega (arith, long), omega (arith, long))

-- a workload isn't refused
never_refused : (number count : ℕ) (source : List ℕ) (refusal : Refusal) → count ≤ most_statements → source ≡ workload_source number count
    → IsRefusedProgram 0 source refusal → ⊥
never_refused number count source refusal few is refused =
    not_linked 0 (workload_source number count) refusal (workload_accepted number count few)
    (subst (λ (s : List ℕ). IsRefusedProgram 0 s refusal) is refused)

-- what the code has of the source and the letters
source_text : (number count first : ℕ) (source bytes : List ℕ) → first ≡ number → bytes ≡ workload_source first count
    → source ≡ bytes → source ≡ workload_source number count
source_text number count first source bytes same is text =
    text ∙ is ∙ ap (λ (n : ℕ). workload_source n count) same

letters_text : (number count first seed : ℕ) (text bytes : List ℕ) → first ≡ number → seed ≡ seed_after first (4 * count)
    → bytes ≡ map letter_byte (drawn_letters seed 0 workload_letters) → text ≡ bytes
    → IsSchedule text (workload_schedule number count)
letters_text number count first seed text bytes same drawn is text_is =
    letters_are number count text
    (text_is ∙ is ∙ ap (λ (s : ℕ). map letter_byte (drawn_letters s 0 workload_letters))
    (drawn ∙ ap (λ (n : ℕ). seed_after n (4 * count)) same))

-- so they are read
are_unread : (o : Option (List Letter)) (letters : List Letter) → o ≡ None → o ≡ Some letters → ⊥
are_unread o letters none some = absurd cc

read_letters : (o : Option (List Letter)) (schedule letters : List Letter) → o ≡ Some schedule → o ≡ Some letters → schedule ≡ letters
read_letters o schedule letters e f = cc

-- `soak` carries out the program of its workload, over the schedule that the code has
abbrev soak_settings : ℕ → ℕ → List Letter → Settings
soak_settings number count schedule = record (workload_settings number count) { schedule = schedule }

runs_workload : (number count : ℕ) (input source : List ℕ) (image : ProgramImage) (schedule : List Letter)
    → source ≡ workload_source number count → schedule ≡ workload_schedule number count → HoldsUnit source image → IsImage image
    → RunsBy (summary_of number count) (IsSourceProgram (workload_source number count)) (soak number count) input
    (soak_settings number count schedule) image
runs_workload number count input source image schedule source_is letters holds is =
    subst (λ (ls : List Letter). RunsBy (summary_of number count) (IsSourceProgram (workload_source number count)) (soak number count) input
    (soak_settings number count ls) image) (sym letters) (record {
      accepted = tt;
      held = held_by false (workload_source number count) image (subst (λ s. HoldsUnit s image) source_is holds) is;
      is_output = λ text report. report;
      shows = λ p glances own run. (p, own, run);
      is_image = is;
    })

pub unreachable-requires : goal.unreachable-requires
unreachable-requires g c =
    are_unread c.read.result _ c.in_default.is
    (c.read.ensures.only _ (letters_text c.args.number c.args.count c.new-draws.result.seed c.source.new.self.seed
    c.as_str.result.now _ c.new-draws.ensures c.in_ok-source.ensures.seed c.in_ok-letters.ensures c.as_str.ensures.value))

pub unreachable-requires-in_default-2 : goal.unreachable-requires-in_default-2
unreachable-requires-in_default-2 g c =
    never_refused c.args.number c.args.count c.as_slice.result.now c.in_default-2.field-0 c.requires
    (source_text c.args.number c.args.count c.new-draws.result.seed c.as_slice.result.now c.in_ok-source.source.items
    c.new-draws.ensures c.in_ok-source.ensures.source c.as_slice.ensures.value)
    (rw c.in_default-2.is at c.in_ok-image.ensures)

pub image_of_source-requires : goal.image_of_source-requires
image_of_source-requires g c =
    source_short c.args.number c.args.count c.as_slice.result.now c.requires
    (source_text c.args.number c.args.count c.new-draws.result.seed c.as_slice.result.now c.in_ok-source.source.items
    c.new-draws.ensures c.in_ok-source.ensures.source c.as_slice.ensures.value)

pub returns-in_err-outcome : goal.returns-in_err-outcome
returns-in_err-outcome g c = λ input.
    let source_is = source_text c.args.number c.args.count c.new-draws.result.seed c.as_slice.result.now c.in_ok-source.source.items
    c.new-draws.ensures c.in_ok-source.ensures.source c.as_slice.ensures.value in
    let letters = letters_text c.args.number c.args.count c.new-draws.result.seed c.source.new.self.seed
    c.as_str.result.now _ c.new-draws.ensures c.in_ok-source.ensures.seed c.in_ok-letters.ensures c.as_str.ensures.value in
    let runs = runs_workload c.args.number c.args.count input c.as_slice.result.now c.in-Ok.image c.in-Some.schedule source_is
    (read_letters c.read.result c.in-Some.schedule _ c.in-Some.is (c.read.ensures.only _ letters))
    (rw c.in-Ok.is at c.in_ok-image.ensures) c.outcome_of.ensures.is_image in
    answers_none c.from_residual-in_err-outcome.result (search rules) (inr (run_front _ _ _ _ _ _ runs _ _ c.in_err-outcome.ensures.front))

pub returns-in_err-text : goal.returns-in_err-text
returns-in_err-text g c = λ input.
    let source_is = source_text c.args.number c.args.count c.new-draws.result.seed c.as_slice.result.now c.in_ok-source.source.items
    c.new-draws.ensures c.in_ok-source.ensures.source c.as_slice.ensures.value in
    let letters = letters_text c.args.number c.args.count c.new-draws.result.seed c.source.new.self.seed
    c.as_str.result.now _ c.new-draws.ensures c.in_ok-source.ensures.seed c.in_ok-letters.ensures c.as_str.ensures.value in
    let runs = runs_workload c.args.number c.args.count input c.as_slice.result.now c.in-Ok.image c.in-Some.schedule source_is
    (read_letters c.read.result c.in-Some.schedule _ c.in-Some.is (c.read.ensures.only _ letters))
    (rw c.in-Ok.is at c.in_ok-image.ensures) c.outcome_of.ensures.is_image in
    answers_none c.from_residual-in_err-text.result (search rules) (inr (run_front _ _ _ _ _ _ runs (g.W.Watch.seen c.args.watch.now)
    (g.W.Watch.seen c.outcome_of.new.watch) (λ p of mode.
    front_of_run p (soak_settings c.args.number c.args.count c.in-Some.schedule) (g.W.Watch.seen c.args.watch.now)
    (g.W.Watch.seen c.outcome_of.new.watch) (c.in_ok-outcome.ensures.made p of mode).1)))

pub returns : goal.returns
returns g c = λ input.
    let source_is = source_text c.args.number c.args.count c.new-draws.result.seed c.as_slice.result.now c.in_ok-source.source.items
    c.new-draws.ensures c.in_ok-source.ensures.source c.as_slice.ensures.value in
    let letters = letters_text c.args.number c.args.count c.new-draws.result.seed c.source.new.self.seed
    c.as_str.result.now _ c.new-draws.ensures c.in_ok-source.ensures.seed c.in_ok-letters.ensures c.as_str.ensures.value in
    let runs = runs_workload c.args.number c.args.count input c.as_slice.result.now c.in-Ok.image c.in-Some.schedule source_is
    (read_letters c.read.result c.in-Some.schedule _ c.in-Some.is (c.read.ensures.only _ letters))
    (rw c.in-Ok.is at c.in_ok-image.ensures) c.outcome_of.ensures.is_image in
    rw c.accept.ensures (record {
      reply = run_answer _ _ _ _ _ _ runs c.in_ok-text.text.items
          (λ p of mode.
          let own = (c.in_ok-outcome.ensures.made p of mode).0 in
          record {
            outcome = own.outcome;
            is_outcome = own.is_outcome;
            is_told = c.in_ok-text.ensures ∙ ap (summary_of c.args.number c.args.count) own.is_told;
          });
      watched = run_shown _ _ _ _ _ _ runs _ _ (λ p of mode. (c.in_ok-outcome.ensures.made p of mode).1);
      front = tt;
    })
