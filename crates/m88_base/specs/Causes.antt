-- What a count of faults shows of the call that it was read around.
use Rattle.std.specs.Prelude.{◌≡◌, ℕ, ◌+◌, ◌-◌, ◌^◌, ◌<◌, ◌≤◌, ◌⊎◌, min, Result, Ok, Err, MatchResult}

-- one more, at most the greatest number of 64 bits
abbrev pub one_more : ℕ → ℕ
one_more n = min (n + 1) (2 ^ 64 - 1)

-- the count of faults after a call: one more where the call failed
abbrev pub faults_after : {T E : Type 0} → ℕ → Result T E → ℕ
faults_after before (Ok _) = before
faults_after before (Err _) = one_more before

-- the count is greater now than before, or stands at the greatest number of 64 bits
abbrev pub Rose : ℕ → ℕ → Type 0
Rose before now = (before < now) ⊎ (now ≡ 2 ^ 64 - 1)

-- a call that failed raised the count, and one that did not left it
abbrev pub FailsByFault : {T E : Type 0} → ℕ → ℕ → Result T E → Type 0
FailsByFault before now result = MatchResult result (λ _. now ≡ before) (λ _. (before ≤ now) × Rose before now)
