-- The machine's reading of four bytes as a signed number is that of the definition.
-- Assumes nothing.
use Rattle.std.proofs.Common.{ℕ, ◌-◌, ◌<◌, ◌≡◌, ◌∙◌, sym, ap, arith, ltb-true, ltb-false, Bool, true, false, ltb, w32, to_z, negsuc}
use Rattle.std.proofs.Math.Path.{refl}
use Rattle.low_bytes.specs.LowBytes.{signed_of}
use Rattle.low_bytes.specs.Laws.{neg-one-less, signed_low, signed_high}

by : (n : ℕ) → n < 4294967296 → (t : Bool) → ltb n 2147483648 ≡ t → to_z w32 n ≡ signed_of 4 n
by n h true e = rw e (sym (signed_low 4 n (omega (arith, ltb-true n 2147483648 e))))
by n h false e =
    let half = ltb-false n 2147483648 e in
    rw e (sym (signed_high 4 n (omega arith) ∙ neg-one-less (4294967296 - n) (omega arith) ∙ ap negsuc (omega arith)))

pub read-signed : (n : ℕ) → n < 4294967296 → to_z w32 n ≡ signed_of 4 n
read-signed n h = by n h (ltb n 2147483648) refl
