-- What the calls make of a text so far, and how much more it may take.
use Rattle.std.specs.Prelude.{ℕ, List, Result, [], false, ◌≡◌, ◌+◌, ◌≤◌, ◌<◌, ◌^◌, ◌++◌, ◌⊎◌, length, IfErr, IfOk, OnOk}
use Rattle.std.specs.Borrow.{Bor}
use Rattle.m88_srec.specs.Begun.{Begun, LeadsTo, StaysRefused}
use Rattle.m88_srec.specs.Front.{front_of, most_kept}
use Rattle.m88_srec.specs.GivesVerdict.{no_memory}
use Rattle.m88_srec.specs.Inside.Loads.{GivesLoad, load_seen}
use Rattle.m88_srec.specs.Inside.Taking.{AreCounted, LeadsPast, HoldsFirstFault, begun_seen, front_seen, judged_front, reach, with_byte, with_held}
use Rattle.m88_srec.specs.Verdict.{opening_load}
use Rattle.m88_srec.specs.declared.fault.SrecFault.{SrecFault}
use Rattle.m88_srec.specs.declared.fault.SrecKind.{SrecKind}
use Rattle.m88_srec.specs.declared.so_far.TextSoFar.{TextSoFar}

-- nothing of a text was taken
pub record IsOpened (x : TextSoFar) : Type 0 where
  pub begun : begun_seen x ≡ record { number = 1; load = opening_load; front = front_of []; cr = false }
  pub first : reach x ≡ 1
  pub counted : AreCounted x

-- a text so far may take so many bytes more: its numbers stay small
pub record HasRoomFor (x : TextSoFar) (more : ℕ) : Type 0 where
  pub within : reach x + more ≤ 2 ^ 31
  pub counted : AreCounted x

-- a byte of the line was taken, and what the lines before load is the same
pub record TakesByte (before after : TextSoFar) (byte : ℕ) : Type 0 where
  pub begun : begun_seen after ≡ with_byte (begun_seen before) byte
  pub loading : after.loading ≡ before.loading
  pub len : after.front.len ≡ before.front.len + 1

-- the CR that was held back was taken as a byte of the line, where there was one
pub record TakesHeld (before after : TextSoFar) : Type 0 where
  pub begun : begun_seen after ≡ with_held (begun_seen before)
  pub loading : after.loading ≡ before.loading
  pub as_far : reach after ≡ reach before

-- the line was judged by what is kept of it, and loads one record at most
pub record JudgesFront {T : Type 0} (before after : TextSoFar) (result : Result T SrecKind) : Type 0 where
  pub value : GivesLoad (load_seen after.loading) result
      (judged_front (load_seen before.loading) (front_seen before.front))
  pub records : after.loading.records ≤ before.loading.records + 1
  pub number : after.number ≡ before.number

-- a text became what is said, or memory ran out; its numbers stay below those of one byte more
pub record Becomes {T : Type 0} (before after : TextSoFar) (result : Result T SrecKind) (said : Result Begun SrecKind)
    : Type 0 where
  pub value : GivesLoad (begun_seen after) result said
  pub within : OnOk result (reach after ≤ reach before + 1)
  pub counted : OnOk result (AreCounted after)

-- a text begins a line, of which all may be kept, and has room for a byte
pub record BeginsLine (x : TextSoFar) (line : List ℕ) : Type 0 where
  pub short : length line ≤ most_kept
  pub none : x.front.len ≡ 0
  pub no_cr : x.cr ≡ false
  pub room : HasRoomFor x 1

-- there is something left of a piece, and room for it
pub record CanStep (x : TextSoFar) (rest : List ℕ) : Type 0 where
  pub some : 0 < length rest
  pub room : HasRoomFor x (length rest)

-- some of what is left of a piece was taken, and where a text led it leads on; or there it stops
pub record Steps (rest : List ℕ) (before after : TextSoFar) (result : Result (Bor (List ℕ)) SrecKind) : Type 0 where
  pub taken : IfOk result (λ left. LeadsPast rest left.now (begun_seen before) (begun_seen after))
  pub stopped : IfErr result (HoldsFirstFault rest (begun_seen before))
  pub shorter : IfOk result (λ left. length left.now < length rest)
  pub within : IfOk result (λ left. reach after + length left.now ≤ reach before + length rest)
  pub counted : OnOk result (AreCounted after)

-- a piece was taken: wherever a text led, it leads on with the piece, or has its first fault in it, or memory ran out
pub record TakesPiece {T : Type 0} (piece : List ℕ) (before after : TextSoFar) (result : Result T SrecFault) : Type 0 where
  pub begun : OnOk result ((text : List ℕ) → LeadsTo text (begun_seen before) → LeadsTo (text ++ piece) (begun_seen after))
  pub fault : IfErr result (λ fault. (fault ≡ no_memory)
      ⊎ ((text : List ℕ) → LeadsTo text (begun_seen before) → StaysRefused (text ++ piece) fault))
  pub within : OnOk result (reach after ≤ reach before + length piece)
  pub counted : OnOk result (AreCounted after)
