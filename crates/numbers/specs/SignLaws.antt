-- Laws of a sign and a magnitude (BEHAVIOUR: Time, Arithmetic): both are read back, and a product goes by them.
-- Assumes nothing.
use Rattle.std.specs.Prelude.{◌≡◌, refl, Bool, true, false, ◌⊎◌, ℕ, zero, suc, ◌*◌, ◌<◌, ℤ, pos, negsuc, neg_ℤ, nat_abs, ◌*ℤ◌}
use Rattle.std.proofs.Common.{sym, ◌∙◌, ap, inl, inr, zero-mul, arith}
use Rattle.std.proofs.Math.IntN.{neg_ℤ-neg_ℤ}
use Rattle.numbers.specs.Sign.{is_neg, signed, up_from}

pub abs_neg : (z : ℤ) → nat_abs (neg_ℤ z) ≡ nat_abs z
abs_neg (pos zero) = refl
abs_neg (pos (suc m)) = refl
abs_neg (negsuc m) = refl

pub abs-signed : (minus : Bool) (m : ℕ) → nat_abs (signed minus m) ≡ m
abs-signed false m = refl
abs-signed true m = abs_neg (pos m)

-- a number is its sign and magnitude
pub signed_back : (z : ℤ) → signed (is_neg z) (nat_abs z) ≡ z
signed_back (pos m) = refl
signed_back (negsuc m) = refl

-- a sign is that of the number, unless this is zero, of which any sign will do
pub is_neg-signed : (minus : Bool) (m : ℕ) → (minus ≡ is_neg (signed minus m)) ⊎ (signed minus m ≡ pos 0)
is_neg-signed false m = inl refl
is_neg-signed true zero = inr refl
is_neg-signed true (suc m) = inl refl

pub signed-none : (minus : Bool) → signed minus 0 ≡ pos 0
signed-none true = refl
signed-none false = refl

pub is_neg-neg : (m : ℕ) → 0 < m → is_neg (neg_ℤ (pos m)) ≡ true
is_neg-neg zero h = absurd (omega arith)
is_neg-neg (suc m) h = refl

-- a negation's multiple is the multiple's negation
pub neg-mul : (z : ℤ) (n : ℕ) → neg_ℤ z *ℤ pos n ≡ neg_ℤ (z *ℤ pos n)
neg-mul (pos zero) n = ap pos (zero-mul n) ∙ sym (ap (λ (m : ℕ). neg_ℤ (pos m)) (zero-mul n))
neg-mul (pos (suc m)) n = refl
neg-mul (negsuc m) n = sym (neg_ℤ-neg_ℤ (pos (suc m * n)))

-- ---- a number as one from 0 on
pub up-below : (z : ℤ) → is_neg z ≡ true → 18446744073709551615 ≡ up_from z
up-below z e = rw e

pub up-not : (z : ℤ) (m : ℕ) → is_neg z ≡ false → m ≡ nat_abs z → m ≡ up_from z
up-not z m e f = f ∙ rw e
