-- How a text that has begun takes a byte more, and how it ends.
use Rattle.std.specs.Prelude.{ℕ, List, ◌≡◌, Bool, true, false, [], ◌∷◌, ◌++◌, Option, Some, None, Result, Ok, Err, ◌+◌, ◌-◌, ◌/◌, ◌%◌, ◌^◌, ◌==◌, ◌&&◌, ◌≤◌, ◌<◌, ◌⊎◌, is_some, length, nat_le, if◌then◌else◌}
use Rattle.m88_base.specs.Lines.{carriage_return, line_feed, lines_of}
use Rattle.m88_srec.specs.Accepted.{Whole}
use Rattle.m88_srec.specs.Begun.{Begun, LeadsTo, StaysRefused, held_cr, line_ends}
use Rattle.m88_srec.specs.Front.{LineFront, front_of, is_hexadecimal, most_kept}
use Rattle.m88_srec.specs.Inside.Loads.{load_seen}
use Rattle.m88_srec.specs.Verdict.{Formed, Load, ended_on, go_on, judged, record_form, written_count}
use Rattle.m88_srec.specs.declared.fault.SrecFault.{SrecFault}
use Rattle.m88_srec.specs.declared.fault.SrecKind.{SrecKind}
use Rattle.m88_srec.specs.declared.fault.SrecKind.TheVariants.{AfterEnd, Count, Form, Memory}
use Rattle.m88_srec.specs.declared.front.Front.{Front}
use Rattle.m88_srec.specs.declared.so_far.TextSoFar.{TextSoFar}

-- what the code keeps of a line
abbrev pub front_seen : Front → LineFront
front_seen f = record { kept = f.kept.items; len = f.len; digits = f.digits }

-- a text so far as one that has begun
abbrev pub begun_seen : TextSoFar → Begun
begun_seen x = record { number = x.number; load = load_seen x.loading; front = front_seen x.front; cr = x.cr }

-- a line with one byte more
abbrev pub front_with : LineFront → ℕ → LineFront
front_with f b =
    if length f.kept == most_kept then record { kept = f.kept; len = f.len + 1; digits = f.digits && is_hexadecimal b }
    else record { kept = f.kept ++ b ∷ []; len = f.len + 1; digits = f.digits }

-- what is kept of a line goes on with one byte
pub record KeepsByte (before after : Front) (byte : ℕ) : Type 0 where
  pub value : front_seen after ≡ front_with (front_seen before) byte
  pub len : after.len ≡ before.len + 1

-- the fault of a line that is longer than all that is kept: its count can't be right
abbrev pub overlong : Bool → ℕ → Option Formed → SrecKind
overlong are_pairs found None = Form
overlong are_pairs found (Some f) = if are_pairs then Count (written_count f) found else Form

-- that by what is kept of it
unfoldable pub overlong_fault : LineFront → SrecKind
overlong_fault f = overlong (f.digits && f.len % 2 == 0) (f.len / 2 - 2) (record_form f.kept)

-- one line more, by what is kept of it
unfoldable pub judged_front : Load → LineFront → Result Load SrecKind
judged_front load f =
    if nat_le f.len most_kept then judged load f.kept
    else (if is_some load.start then Err AfterEnd else Err (overlong_fault f))

-- a byte of the line
abbrev pub with_byte : Begun → ℕ → Begun
with_byte b byte = record { number = b.number; load = b.load; front = front_with b.front byte; cr = false }

-- the CR that was held back is a byte of the line
abbrev pub with_held : Begun → Begun
with_held b = if b.cr then with_byte b carriage_return else b

-- the next line
abbrev pub next_line_of : Begun → Load → Begun
next_line_of b load = record { number = b.number + 1; load = load; front = front_of []; cr = false }

-- the line ended
abbrev pub ended_at : Begun → Result Load SrecKind → Result Begun SrecKind
ended_at b (Ok load) = Ok (next_line_of b load)
ended_at b (Err kind) = Err kind

-- the next line behind one that stood whole in its place
abbrev pub gone_on : Begun → Result Load SrecKind → Result Begun SrecKind
gone_on b (Ok load) = Ok (record { number = b.number + 1; load = load; front = b.front; cr = b.cr })
gone_on b (Err kind) = Err kind

-- an LF behind a line ends it, and nothing of the line belongs to the line end
abbrev pub EndsAlone : List ℕ → Type 0
EndsAlone line = line_ends line ≡ 0 → (more : List ℕ) → lines_of (line ++ line_feed ∷ more) ≡ line ∷ lines_of more

-- a line that stands whole in front of an LF, which alone ends it, whatever comes behind that; it isn't longer than what
-- is kept of one
pub record IsWholeLine (rest line left : List ℕ) : Type 0 where
  pub joined : rest ≡ line ++ line_feed ∷ left
  pub inner : line_ends line ≡ 0
  pub ends : (more : List ℕ) → lines_of (line ++ line_feed ∷ more) ≡ line ∷ lines_of more
  pub short : length line ≤ most_kept

-- some bytes are taken, and where a text led, it leads on with them
pub record LeadsPast (rest left : List ℕ) (b later : Begun) : Type 0 where
  pub bytes : List ℕ
  pub joined : rest ≡ bytes ++ left
  pub leads : (text : List ℕ) → LeadsTo text b → LeadsTo (text ++ bytes) later

-- memory ran out, or wherever the text led, the bytes that are left hold its first fault
abbrev pub HoldsFirstFault : List ℕ → Begun → SrecKind → Type 0
HoldsFirstFault rest b kind = (kind ≡ Memory) ⊎ ((text : List ℕ) → LeadsTo text b
    → StaysRefused (text ++ rest) (record { line = b.number; kind = kind }))

-- a CR is held back
abbrev pub holding : Begun → Begun
holding b = record { number = b.number; load = b.load; front = b.front; cr = true }

-- one byte more
unfoldable pub byte_taken : Begun → ℕ → Result Begun SrecKind
byte_taken b byte =
    if byte == line_feed then ended_at b (judged_front b.load b.front)
    else (if byte == carriage_return then Ok (holding (with_held b)) else Ok (with_byte (with_held b) byte))

-- behind the last line: one whose end didn't come is a line, where it has a byte
abbrev pub last_line_on : Begun → Result Whole SrecFault
last_line_on b =
    if b.front.len == 0 then ended_on b.number b.load.loaded b.load.start
    else go_on b.number (judged_front b.load b.front) (λ load. ended_on (b.number + 1) load.loaded load.start)

-- the text ended
unfoldable pub at_text_end : Begun → Result Whole SrecFault
at_text_end b = last_line_on (with_held b)

-- the number of the line with the bytes of it that were taken: no more than one above those of the text
abbrev pub reach : TextSoFar → ℕ
reach x = x.number + x.front.len + length (held_cr x.cr)

-- each line before has one record at most
abbrev pub AreCounted : TextSoFar → Type 0
AreCounted x = x.loading.records + 1 ≤ x.number

-- while a loader has no fault, its numbers stay below those of the bytes that it was fed
abbrev pub IsCountedWithin : ℕ → TextSoFar → Option SrecFault → Type 0
IsCountedWithin total x None = (reach x ≤ total + 1) × AreCounted x × (total < 2 ^ 31)
IsCountedWithin total x (Some fault) = Unit {0}
