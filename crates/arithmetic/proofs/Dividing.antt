-- A divisor p/q that is admitted: what that tells, and that the dividend fits; and one that is not.
-- Assumes nothing.
use Rattle.std.specs.Prelude.{Ok, Err}
use Prim.Native.Nat.{ℕ, ◌<◌, ◌≤◌, ◌^◌}
use mathlib.Core.Path.{◌≡◌, sym, ◌∙◌}
use mathlib.Core.List.{[], ◌∷◌, ◌++◌}
use native.Mathlib.Nat.{mul-le-mul}
use native.Mathlib.Omega.{arith}
use borrow.Author.Tests.{ltb-true}
use lib.IntN.{ℤ, pos, nat_abs, ◌*ℤ◌}
use Rattle.numbers.specs.DistanceLaws.{abs-product}
use Rattle.answers.specs.declared.Refusal.{Refusal}
use Rattle.answers.specs.Order.{judged, unless}
use Rattle.answers.specs.OrderLaws.{judged-clear, judged-refused, unless-clear, unless-append, not_in}
use Rattle.answers.specs.Refusals.{most_count, bad_count, held}
use Rattle.time.specs.Bounds.{most_factor, is_fraction}
use Rattle.time.specs.BoundsLaws.{InBounds, is_fraction-told}
use Rattle.arithmetic.specs.Divisor.{is_divisor, divisor_when}

module _ (p : ℤ) (q : ℕ) (passed : judged (divisor_when p q) ≡ (Ok tt)) where
  pub divisor-within : InBounds most_factor p q
  divisor-within = is_fraction-told most_factor p q (not_in (is_fraction most_factor p q) (judged-clear (divisor_when p q) passed).0)

  pub divisor-nonzero : 0 < nat_abs p
  divisor-nonzero = ltb-true 0 (nat_abs p) (not_in (is_divisor p) (judged-clear (divisor_when p q) passed).1.0)

  -- the dividend is far below the largest number
  pub dividend-lt : (count : ℤ) → nat_abs count ≤ most_count → nat_abs (count *ℤ pos q) < 2 ^ 63
  dividend-lt count h = rw (abs-product count (pos q)) (omega (arith, mul-le-mul h divisor-within.bottom))

  -- only the resulting count may still refuse
  pub held-divided : (z : ℤ) → held z ≡ unless Err (divisor_when p q ++ (bad_count z ∷ [])) (Ok z)
  unfolding held
  held-divided z =
      sym
      (unless-append Err (divisor_when p q) (bad_count z ∷ []) (Ok z)
      ∙ unless-clear Err (divisor_when p q) (unless Err (bad_count z ∷ []) (Ok z)) (judged-clear (divisor_when p q) passed))

-- one that is not refuses, whatever the count would be
pub divided-refused : (p : ℤ) (q : ℕ) (e : Refusal) → judged (divisor_when p q) ≡ Err e
    → (z : ℤ) → Err e ≡ unless Err (divisor_when p q ++ (bad_count z ∷ [])) (Ok z)
divided-refused p q e h z =
    sym
    (unless-append Err (divisor_when p q) (bad_count z ∷ []) (Ok z)
    ∙ judged-refused (divisor_when p q) e h Err (unless Err (bad_count z ∷ []) (Ok z)))
