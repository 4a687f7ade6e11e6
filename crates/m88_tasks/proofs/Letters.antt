-- The letters of a shared run by their bytes, and those behind its schedule.
use Rattle.std.specs.Prelude.{ℕ, Bool, true, false, List, ◌≡◌, ◌==◌, ◌||◌, ◌≤◌, ◌-◌, ◌%◌, length, if◌then◌else◌}
use Rattle.std.proofs.Common.{refl, sym, ap, arith, ◌∙◌}
use Rattle.std.proofs.lemmas.Bool.Decides.{nat_tests}
use Rattle.std.proofs.lemmas.Option.{slice_get_past}
use Rattle.m88_event.proofs.Laws.{AreSpelled, own_has, own_there}
use Rattle.m88_event.specs.Letters.{in_turn, is_letter, letter_of}
use Rattle.m88_event.specs.declared.letter.Letter.TheVariants.{Issue, Answer, Evict}
use Rattle.m88_tasks.specs.Letters.{beside_own, share_byte, share_letter_at, share_letter_of}
use Rattle.m88_tasks.specs.declared.letter.ShareLetter.{ShareLetter}
use Rattle.m88_tasks.specs.declared.letter.ShareLetter.TheVariants.{Own, Turn}

byte_there : (byte : ℕ) (t : Bool) → (byte == 0x74) ≡ t → is_letter beside_own byte ≡ true →
    byte ≡ share_byte (if t then Turn else Own (letter_of byte))
byte_there byte true is_t h = grind (arith, nat_tests)
byte_there byte false is_t h =
    let other : (0x74 == byte || false) ≡ false = grind (arith, nat_tests) in
    own_there byte (ap (λ b. byte == 0x69 || (byte == 0x65 || (byte == 0x72 || b))) (sym other) ∙ h)

back : (letter : ShareLetter) → share_letter_of (share_byte letter) ≡ letter
back (Own Issue) = refl
back _ = refl

has : (letter : ShareLetter) → is_letter beside_own (share_byte letter) ≡ true
has (Own letter) = own_has beside_own letter
has Turn = refl

pub share_letters : AreSpelled beside_own share_byte share_letter_of
share_letters = record { dash = refl; there = λ byte h. byte_there byte (byte == 0x74) refl h; back = back; has = has }

-- behind the schedule `r` and `i` come in turn
pub in_turn_behind : (schedule : List ShareLetter) (k : ℕ) → length schedule ≤ k →
    share_letter_at schedule k ≡ Own (in_turn (k - length schedule))
unfolding share_letter_at
in_turn_behind schedule k h = rw (slice_get_past schedule k h) refl

pub behind : (schedule : List ShareLetter) (k : ℕ) (answer : Bool) → length schedule ≤ k → ((k - length schedule) % 2 == 0) ≡ answer →
    share_letter_at schedule k ≡ Own (if answer then Answer else Issue)
behind schedule k answer h e = in_turn_behind schedule k h ∙ rw e refl
