-- Where nothing was made: before the first event nothing was seen, and where memory ran out there is a front alone.
use Rattle.std.proofs.Common.{◌≡◌, ℕ, [], Result, Ok, Err, refl}
use Rattle.std.specs.Prelude.{OnErr, OnOk}
use Rattle.m88_base.specs.Image.{IsImage, ProgramImage}
use Rattle.m88_isa.specs.Machine.{Program}
use Rattle.m88_event.specs.Timeline.{Moment}
use Rattle.m88_board.specs.Glances.{glances_along}
use Rattle.m88_session.specs.Running.{GoesAlong, OfImage}
use Rattle.m88_session.specs.Settings.{Settings}

pub no_glance : (p : Program) (moments : ℕ → Moment) → glances_along p moments 0 ≡ []
unfolding glances_along
no_glance p moments = refl

pub goes_none : {T E : Type 0} {image : ProgramImage} {s : Settings} {IsMade : T → Program → Type 0} {IsFront : Program → Type 0}
    (r : Result T E) → OnOk r ⊥ → IsImage image → OfImage image s IsFront → GoesAlong image s IsMade IsFront r
goes_none (Ok x) none is front = absurd none
goes_none (Err e) none is front = record { is_image = is; made = tt; front = front }

-- what holds at any answer holds there
pub on_err : {T E P : Type 0} (r : Result T E) → P → OnErr r P
on_err (Ok x) p = tt
on_err (Err e) p = p
