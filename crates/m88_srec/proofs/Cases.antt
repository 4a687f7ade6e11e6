-- Cases that keep the test as an equation.
use Rattle.std.proofs.Common.{◌≡◌, Bool, true, false, refl}

pub by_bool : {P : Type 0} (b : Bool) → (b ≡ true → P) → (b ≡ false → P) → P
by_bool true t f = t refl
by_bool false t f = f refl
