-- What the machine's subtraction from zero gives.
-- Assumes nothing.
use mathlib.Core.Path.{◌≡◌}
use lib.IntN.{ℤ, pos, neg_ℤ, ◌-ℤ◌, +ℤ_idl}

-- zero less z is the negation of z
pub flip : (z : ℤ) → pos 0 -ℤ z ≡ neg_ℤ z
flip z = +ℤ_idl (neg_ℤ z)
