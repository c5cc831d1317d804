-- The number of a strict label gives its fields back: a number of timebases is seconds, which are hours, minutes and seconds.
-- Assumes nothing.
use mathlib.Core.Path.{◌≡◌, refl}
use mathlib.Core.List.{[], ◌∷◌}
use Prim.Native.Nat.{ℕ, ◌+◌, ◌*◌, ◌/◌, ◌%◌, ◌<◌}
use native.Mathlib.Omega.{arith}
use lib.Arith.{digits_div, digits_mod}
use Rattle.labels.specs.Sections.{fields_at}

pub fields_back :
    (timebase h m s f : ℕ) → m < 60 → s < 60 → f < timebase
    → fields_at timebase ((60 * (60 * h + m) + s) * timebase + f) ≡ h ∷ m ∷ s ∷ f ∷ []
unfolding fields_at
fields_back timebase h m s f lm ls lf =
    let q : ℕ = 60 * (60 * h + m) + s in
    let es : q % 60 ≡ s = omega arith in
    let em : q / 60 ≡ 60 * h + m = omega arith in
    let eh : (60 * h + m) / 60 ≡ h = omega arith in
    let er : (60 * h + m) % 60 ≡ m = omega arith in
    rw (digits_div q lf, digits_mod q lf, es, em, eh, er) refl
