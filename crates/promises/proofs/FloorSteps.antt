-- A quotient of two numbers of different signs, rounded down: with nothing left, and with something.
-- Assumes nothing.
use Rattle.std.specs.Prelude.{◌≡◌, false, ℕ, ◌+◌, ◌/◌, ◌%◌, ◌<◌, ℤ, pos, neg_ℤ, nat_abs}
use Rattle.std.proofs.Common.{ap, ◌∙◌, div-add-mod', le-mul_of_pos_right, arith}
use Rattle.std.specs.Bool.{beq}
use Rattle.std.specs.Int.{div_ceil}
use Rattle.numbers.specs.Sign.{is_neg}
use Rattle.numbers.specs.Floor.{floor_z}
use Rattle.numbers.specs.FloorLaws.{floor-unlike}

module _ (x d : ℤ) (unlike : beq (is_neg x) (is_neg d) ≡ false) where
  -- the quotient where nothing is left
  pub floor-whole : 0 < nat_abs d → nat_abs x % nat_abs d ≡ 0 → neg_ℤ (pos (nat_abs x / nat_abs d)) ≡ floor_z x d
  floor-whole h e =
      let up : nat_abs x / nat_abs d ≡ div_ceil (nat_abs x) (nat_abs d) = omega (arith, e) in ap (λ (k : ℕ). neg_ℤ (pos k)) up ∙ floor-unlike x d unlike h

  -- and one more where something is
  pub floor-part : 0 < nat_abs d → (nat_abs x % nat_abs d ≡ 0 → ⊥) → neg_ℤ (pos (nat_abs x / nat_abs d + 1)) ≡ floor_z x d
  floor-part h e =
      let up : nat_abs x / nat_abs d + 1 ≡ div_ceil (nat_abs x) (nat_abs d) = omega (arith, e) in ap (λ (k : ℕ). neg_ℤ (pos k)) up ∙ floor-unlike x d unlike h

-- a quotient that leaves something is below the number
pub quotient-below : (m n : ℕ) → 0 < n → (m % n ≡ 0 → ⊥) → m / n < m
quotient-below m n h e = omega (arith, div-add-mod' m n, le-mul_of_pos_right (m / n) h)
