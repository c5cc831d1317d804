-- Laws of the order on signed numbers (BEHAVIOUR: Time, Arithmetic): by magnitudes, through a number between, and of multiples.
-- Assumes nothing.
use Rattle.std.specs.Prelude.{◌≡◌, ℕ, zero, suc, ◌*◌, ◌≤◌, ℤ, pos, negsuc, neg_ℤ, ◌*ℤ◌, ◌≤ℤ◌}
use Rattle.std.proofs.Common.{ap, mul-le-mul_right, le_trans, le_antisymm, arith, le→leb, leb→le}
use Rattle.std.specs.Int.Signed.{le_z_yes}

-- by magnitudes: on either side of zero, and across it
pub le-pos : {a b : ℕ} → a ≤ b → pos a ≤ℤ pos b
le-pos {a} {b} h = le_z_yes (le→leb a b h)

pub le-across : (a b : ℕ) → neg_ℤ (pos a) ≤ℤ pos b
le-across zero b = le_z_yes (le→leb zero b (omega arith))
le-across (suc a) b = le_z_yes tt

pub le-neg : (a b : ℕ) → b ≤ a → neg_ℤ (pos a) ≤ℤ neg_ℤ (pos b)
le-neg zero zero h = le_z_yes tt
le-neg zero (suc b) h = absurd (omega arith)
le-neg (suc a) zero h = le_z_yes tt
le-neg (suc a) (suc b) h = le_z_yes (le→leb b a (omega arith))

-- and back
pub pos-le : {a b : ℕ} → pos a ≤ℤ pos b → a ≤ b
pos-le {a} {b} h = leb→le a b h.le

pub neg-le : (a b : ℕ) → neg_ℤ (pos a) ≤ℤ neg_ℤ (pos b) → b ≤ a
neg-le zero zero h = omega arith
neg-le zero (suc b) h = absurd h.le
neg-le (suc a) zero h = omega arith
neg-le (suc a) (suc b) h = omega (arith, leb→le b a h.le)

pub le-through : (x y z : ℤ) → x ≤ℤ y → y ≤ℤ z → x ≤ℤ z
le-through (pos a) (pos b) (pos c) h k = le-pos (le_trans (pos-le h) (pos-le k))
le-through (pos a) (pos b) (negsuc c) h k = absurd k.le
le-through (pos a) (negsuc b) z h k = absurd h.le
le-through (negsuc a) y (pos c) h k = le-across (suc a) c
le-through (negsuc a) (pos b) (negsuc c) h k = absurd k.le
le-through (negsuc a) (negsuc b) (negsuc c) h k = le-neg (suc a) (suc c) (le_trans (neg-le (suc b) (suc c) k) (neg-le (suc a) (suc b) h))

pub le-both : (x y : ℤ) → x ≤ℤ y → y ≤ℤ x → x ≡ y
le-both (pos a) (pos b) h k = ap pos (le_antisymm (pos-le h) (pos-le k))
le-both (pos a) (negsuc b) h k = absurd h.le
le-both (negsuc a) (pos b) h k = absurd k.le
le-both (negsuc a) (negsuc b) h k = ap negsuc (le_antisymm (leb→le a b k.le) (leb→le b a h.le))

-- a multiple keeps the order
pub mul-le : (x y : ℤ) (n : ℕ) → x ≤ℤ y → (x *ℤ pos n) ≤ℤ (y *ℤ pos n)
mul-le (pos a) (pos b) n h = le-pos (mul-le-mul_right n (pos-le h))
mul-le (pos a) (negsuc b) n h = absurd h.le
mul-le (negsuc a) (pos b) n h = le-across (suc a * n) (b * n)
mul-le (negsuc a) (negsuc b) n h = le-neg (suc a * n) (suc b * n) (mul-le-mul_right n (neg-le (suc a) (suc b) h))
