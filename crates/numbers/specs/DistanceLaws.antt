-- Laws of magnitudes and distances (BEHAVIOUR: Time, Arithmetic): of sums, differences and products, and the triangle.
-- Assumes nothing.
use Rattle.std.specs.Prelude.{◌≡◌, refl, Bool, true, false, cond, ℕ, zero, suc, ◌+◌, ◌*◌, ◌-◌, ◌≤◌, ltb, ℤ, pos, negsuc, neg_ℤ, nat_abs, ◌+ℤ◌, ◌-ℤ◌, ◌*ℤ◌}
use Rattle.std.proofs.Common.{sym, ◌∙◌, ap, arith, ltb-true, ltb-false}
use Rattle.std.proofs.Math.IntN.{sub_ℕ, +ℤ_comm, +ℤ_assoc, +ℤ_invr, -ℤ-+ℤ_cancel, +ℤ_idl, neg_ℤ-neg_ℤ, neg_ℤ-+ℤ}
use Rattle.numbers.specs.SignLaws.{abs_neg}

-- the magnitude of a difference of two magnitudes, as `omega` reads it
abs-sub : (a b : ℕ) → nat_abs (sub_ℕ a b) ≡ (a - b) + (b - a)
abs-sub a b = go (ltb a b) refl
  where
    go : (t : Bool) → ltb a b ≡ t → nat_abs (cond t (negsuc (b - suc a)) (pos (a - b))) ≡ (a - b) + (b - a)
    go true e = let l = ltb-true a b e in omega arith
    go false e = let l = ltb-false a b e in omega arith

pub far : (a b : ℕ) → nat_abs (pos a -ℤ pos b) ≡ (a - b) + (b - a)
far a zero = omega arith
far a (suc b) = abs-sub a (suc b)

-- from one side of zero to the other
pub far-across : (a b : ℕ) → nat_abs (neg_ℤ (pos a) -ℤ pos b) ≡ a + b
far-across zero b = omega (arith, far 0 b)
far-across (suc a) zero = omega (arith, abs-sub 0 (suc a))
far-across (suc a) (suc b) = omega arith

-- the same distance, on the other side of zero
pub far-neg : (x y : ℤ) → nat_abs (neg_ℤ x -ℤ neg_ℤ y) ≡ nat_abs (x -ℤ y)
far-neg x y = ap nat_abs (sym (neg_ℤ-+ℤ x (neg_ℤ y))) ∙ abs_neg (x -ℤ y)

pub far-self : (x : ℤ) → nat_abs (x -ℤ x) ≡ 0
far-self x = ap nat_abs (+ℤ_invr x)

pub abs-add : (x y : ℤ) → nat_abs (x +ℤ y) ≤ nat_abs x + nat_abs y
abs-add (pos a) (pos b) = omega arith
abs-add (pos a) (negsuc b) = omega (arith, abs-sub a (suc b))
abs-add (negsuc a) (pos b) = omega (arith, abs-sub b (suc a))
abs-add (negsuc a) (negsuc b) = omega arith

pub abs-minus : (x y : ℤ) → nat_abs (x -ℤ y) ≤ nat_abs x + nat_abs y
abs-minus x y = omega (arith, abs-add x (neg_ℤ y), abs_neg y)

through : (x y z : ℤ) → x -ℤ z ≡ (x -ℤ y) +ℤ (y -ℤ z)
through x y z = sym (sym (+ℤ_assoc (x -ℤ y) y (neg_ℤ z)) ∙ ap (λ (k : ℤ). k -ℤ z) (-ℤ-+ℤ_cancel x y))

-- a difference turned round
pub minus-neg : (x y : ℤ) → neg_ℤ (x -ℤ y) ≡ y -ℤ x
minus-neg x y = neg_ℤ-+ℤ x (neg_ℤ y) ∙ ap (λ (k : ℤ). neg_ℤ x +ℤ k) (neg_ℤ-neg_ℤ y) ∙ +ℤ_comm (neg_ℤ x) y

-- what two differences from x differ by
pub turned : (x y z : ℤ) → (x -ℤ y) -ℤ (x -ℤ z) ≡ z -ℤ y
turned x y z =
    ap (λ (k : ℤ). (x -ℤ y) +ℤ k) (minus-neg x z) ∙ +ℤ_comm (x -ℤ y) (z -ℤ x) ∙ sym (through z x y)

-- no distance, one number
pub far_none : (x y : ℤ) → nat_abs (x -ℤ y) ≡ 0 → x ≡ y
far_none x y e = sym (-ℤ-+ℤ_cancel x y) ∙ ap (λ (k : ℤ). k +ℤ y) (abs-none (x -ℤ y) e) ∙ +ℤ_idl y
  where
    abs-none : (z : ℤ) → nat_abs z ≡ 0 → z ≡ pos 0
    abs-none (pos a) e = ap pos e
    abs-none (negsuc a) e = absurd (omega arith)

-- the way by y is no shorter
pub triangle : (x y z : ℤ) → nat_abs (x -ℤ z) ≤ nat_abs (x -ℤ y) + nat_abs (y -ℤ z)
triangle x y z = rw (through x y z) (abs-add (x -ℤ y) (y -ℤ z))

pub abs-product : (x y : ℤ) → nat_abs (x *ℤ y) ≡ nat_abs x * nat_abs y
abs-product (pos a) (pos b) = refl
abs-product (pos a) (negsuc b) = abs_neg (pos (a * suc b))
abs-product (negsuc a) (pos b) = abs_neg (pos (suc a * b))
abs-product (negsuc a) (negsuc b) = refl
