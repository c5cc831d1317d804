-- Products of signed numbers distribute over sums and differences (BEHAVIOUR: Time, Arithmetic).
-- Assumes nothing.
use Rattle.std.specs.Prelude.{◌≡◌, ℕ, zero, suc, ℤ, pos, negsuc, neg_ℤ, ◌+ℤ◌, ◌-ℤ◌, ◌*ℤ◌}
use Rattle.std.proofs.Common.{sym, ◌∙◌, ap}
use Rattle.std.proofs.Math.IntN.{suc_ℤ, pred_ℤ, +ℤ_idl, +ℤ_assoc, +ℤ_comm, suc_ℤ-+ℤ, pred_ℤ-+ℤ, suc_ℤ-*ℤ, pred_ℤ-*ℤ, zero-*ℤ, *ℤ-negsuc}
use Rattle.numbers.specs.SignLaws.{neg-mul}

-- what is taken along from the first summand ends up last
swap : (u v w : ℤ) → (u +ℤ v) +ℤ w ≡ (u +ℤ w) +ℤ v
swap u v w = +ℤ_assoc u v w ∙ ap (λ (k : ℤ). u +ℤ k) (+ℤ_comm v w) ∙ sym (+ℤ_assoc u w v)

module _ (x y z : ℤ) (e : (x +ℤ y) *ℤ z ≡ x *ℤ z +ℤ y *ℤ z) where
  up : (suc_ℤ x +ℤ y) *ℤ z ≡ suc_ℤ x *ℤ z +ℤ y *ℤ z
  up =
      ap (λ (k : ℤ). k *ℤ z) (suc_ℤ-+ℤ x y)
      ∙ suc_ℤ-*ℤ (x +ℤ y) z
      ∙ ap (λ (k : ℤ). k +ℤ z) e
      ∙ swap (x *ℤ z) (y *ℤ z) z
      ∙ sym (ap (λ (k : ℤ). k +ℤ y *ℤ z) (suc_ℤ-*ℤ x z))

  down : (pred_ℤ x +ℤ y) *ℤ z ≡ pred_ℤ x *ℤ z +ℤ y *ℤ z
  down =
      ap (λ (k : ℤ). k *ℤ z) (pred_ℤ-+ℤ x y)
      ∙ pred_ℤ-*ℤ (x +ℤ y) z
      ∙ ap (λ (k : ℤ). k -ℤ z) e
      ∙ swap (x *ℤ z) (y *ℤ z) (neg_ℤ z)
      ∙ sym (ap (λ (k : ℤ). k +ℤ y *ℤ z) (pred_ℤ-*ℤ x z))

none : (y z : ℤ) → (pos zero +ℤ y) *ℤ z ≡ pos zero *ℤ z +ℤ y *ℤ z
none y z =
    ap (λ (k : ℤ). k *ℤ z) (+ℤ_idl y) ∙ sym (ap (λ (k : ℤ). k +ℤ y *ℤ z) (zero-*ℤ z) ∙ +ℤ_idl (y *ℤ z))

above : (a : ℕ) (y z : ℤ) → (pos a +ℤ y) *ℤ z ≡ pos a *ℤ z +ℤ y *ℤ z
above zero y z = none y z
above (suc a) y z = up (pos a) y z (above a y z)

below : (a : ℕ) (y z : ℤ) → (negsuc a +ℤ y) *ℤ z ≡ negsuc a *ℤ z +ℤ y *ℤ z
below zero y z = down (pos zero) y z (none y z)
below (suc a) y z = down (negsuc a) y z (below a y z)

pub mul-add : (x y z : ℤ) → (x +ℤ y) *ℤ z ≡ x *ℤ z +ℤ y *ℤ z
mul-add (pos a) y z = above a y z
mul-add (negsuc a) y z = below a y z

pub neg-product : (x y : ℤ) → neg_ℤ x *ℤ y ≡ neg_ℤ (x *ℤ y)
neg-product x (pos n) = neg-mul x n
neg-product x (negsuc n) =
    *ℤ-negsuc (neg_ℤ x) n ∙ ap neg_ℤ (neg-mul x (suc n)) ∙ sym (ap neg_ℤ (*ℤ-negsuc x n))

pub mul-sub : (x y z : ℤ) → (x -ℤ y) *ℤ z ≡ x *ℤ z -ℤ y *ℤ z
mul-sub x y z = mul-add x (neg_ℤ y) z ∙ ap (λ (k : ℤ). x *ℤ z +ℤ k) (neg-product y z)
