-- The words say the limit, the pages and the letters that are read of them, and nothing else.
use Rattle.std.proofs.Common.{◌≡◌, ℕ, Bool, List, ◌∷◌, codes, rules}
use Rattle.m88_mem.specs.Marks.{absent_in}
use Rattle.m88_tasks.specs.declared.letter.ShareLetter.{ShareLetter}
use Rattle.m88_commands.specs.Command.{Command, Spells, share}
use Rattle.m88_commands.specs.Words.{SayShared}
use Rattle.m88_commands.proofs.NoneRead.{reads_none}
use Rattle.m88_commands.proofs.commands.sharing.share_command.Goals as goal

-- what holds of each run that the words behind the name say holds of each command that they spell
share_said : (words : List (List ℕ)) (Holds : Command → Type 0)
    → ((limit : ℕ) (absent : ℕ → Bool) (schedule : List ShareLetter) → SayShared words limit absent schedule
    → Holds (share limit absent schedule))
    → (choice : Command) → Spells (codes "share" ∷ words) choice → Holds choice
share_said = search rules

pub returns-in_err-absent-2 : goal.returns-in_err-absent-2
returns-in_err-absent-2 c = reads_none c.from_residual-in_err-absent-2.result (search rules)
    (share_said _ (λ _. ⊥) (λ limit absent schedule say.
    let same : say.absent_text ≡ c.in_ok-absent.absent.now = cc (c.in_ok-limit.ensures.found, c.in_ok-absent.ensures.found) in
    c.in_err-absent-2.ensures.only absent (rw (← same) say.is_absent)))

pub returns-in_err-schedule-2 : goal.returns-in_err-schedule-2
returns-in_err-schedule-2 c = reads_none c.from_residual-in_err-schedule-2.result (search rules)
    (share_said _ (λ _. ⊥) (λ limit absent schedule say.
    let text : say.schedule_text ≡ c.in_ok-schedule.schedule.now =
    cc (c.in_ok-limit.ensures.found, c.in_ok-absent.ensures.found, c.in_ok-schedule.ensures.found) in
    let none = c.in_err-schedule-2.ensures.only schedule (rw (← text) say.is_schedule) in
    cc))

pub returns : goal.returns
returns c = record {
  found = search rules;
  only = share_said _ (λ choice. share c.in_ok-limit-2.limit (absent_in c.in_ok-absent-2.absent) c.in_ok-schedule-2.schedule ≡ choice)
      (λ limit absent schedule say.
      let first = c.in_ok-limit.ensures.found in
      let second = c.in_ok-absent.ensures.found in
      let third = c.in_ok-schedule.ensures.found in
      let number : say.limit_text ≡ c.as_bytes.result.now = cc c.as_bytes.ensures.value in
      let pages : say.absent_text ≡ c.in_ok-absent.absent.now = cc in
      let text : say.schedule_text ≡ c.in_ok-schedule.schedule.now = cc in
      let one = c.in_ok-limit-2.ensures.only limit say.is_limit.1 (rw (← number) say.is_limit.0) in
      let read = c.in_ok-schedule-2.ensures.only schedule (rw (← text) say.is_schedule) in
      let same_absent = c.in_ok-absent-2.ensures.only absent (rw (← pages) say.is_absent) in
      let same_limit : c.in_ok-limit-2.limit ≡ limit = cc in
      let letters : c.in_ok-schedule-2.schedule ≡ schedule = cc in
      λ i. share (same_limit i) (same_absent i) (letters i));
  fit = (c.in_ok-limit-2.ensures.bound, c.in_ok-absent-2.ensures.fit);
}
