-- The slots once the next instruction is in execution: each of those behind it says whether the image lacks its word.
use Rattle.std.specs.Prelude.{ℕ, Bool, true, false, ◌≡◌, if◌then◌else◌}
use Rattle.std.proofs.Common.{ap, refl, subst, sym, ◌∙◌}
use Rattle.m88_base.specs.Image.{ProgramImage}
use Rattle.m88_base.specs.Slot.{no_slot, squashed_slot, valid_slot}
use Rattle.m88_base.specs.declared.slot.Slot.{Slot}
use Rattle.m88_event.specs.Shadow.{retired_pointer}
use Rattle.m88_iunit.specs.Pointers.{Pointers, advanced, word_behind}
use Rattle.m88_board.specs.Kept.{SlotsAgree, lacks_word}

-- an instruction that could be fetched is XIP as one that was retired
retired_from : (s : Slot) → s.v ≡ true → s.e ≡ false → s ≡ (if s.v then retired_pointer s.addr else no_slot)
retired_from s v e =
    let seen : s ≡ retired_pointer s.addr = λ i. record { addr = s.addr; v = v i; e = e i } in
    seen ∙ ap (λ (t : Bool). if t then retired_pointer s.addr else no_slot) (sym v)

-- with a bubble, or without one
pub agree_advanced : (image : ProgramImage) (old new : Pointers) (next behind : ℕ) (next_e behind_e bubble : Bool) →
    old.nip.v ≡ true → old.nip.e ≡ false →
    next_e ≡ lacks_word image next → behind_e ≡ lacks_word image behind →
    (bubble ≡ false → new ≡ advanced old (valid_slot next next_e) (valid_slot behind behind_e)) →
    (bubble ≡ true → new ≡ advanced old (squashed_slot (word_behind old.nip.addr)) (valid_slot next next_e)) →
    SlotsAgree image new
agree_advanced image old new next behind next_e behind_e false v e lacks_next lacks_behind straight passed =
    subst (λ (slots : Pointers). SlotsAgree image slots) (sym (straight refl))
    (record { nip = ap (valid_slot next) lacks_next; fip = ap (valid_slot behind) lacks_behind; xip = retired_from old.nip v e })
agree_advanced image old new next behind next_e behind_e true v e lacks_next lacks_behind straight passed =
    subst (λ (slots : Pointers). SlotsAgree image slots) (sym (passed refl))
    (record { nip = refl; fip = ap (valid_slot next) lacks_next; xip = retired_from old.nip v e })
