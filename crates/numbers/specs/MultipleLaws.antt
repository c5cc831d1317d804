-- Multiples of signed numbers (BEHAVIOUR: Time, Arithmetic): a multiple's multiple is one, and a multiple has one number.
-- Assumes nothing.
use Rattle.std.specs.Prelude.{◌≡◌, ℕ, suc, ◌*◌, ◌<◌, ℤ, pos, negsuc, neg_ℤ, ◌*ℤ◌}
use Rattle.std.proofs.Common.{sym, ◌∙◌, ap, mul_assoc}
use Rattle.numbers.specs.SignLaws.{neg-mul}
use Rattle.numbers.specs.Nearest.{nearest_z}
use Rattle.numbers.specs.NearestSignedLaws.{exact}

-- a multiple of a multiple
pub mul-twice : (x : ℤ) (a b : ℕ) → (x *ℤ pos a) *ℤ pos b ≡ x *ℤ pos (a * b)
mul-twice (pos k) a b = ap pos (mul_assoc k a b)
mul-twice (negsuc k) a b = neg-mul (pos (suc k * a)) b ∙ ap (λ (n : ℕ). neg_ℤ (pos n)) (mul_assoc (suc k) a b)

-- what is multiplied is told by the multiple
pub mul-cancel : (x y : ℤ) (n : ℕ) → 0 < n → x *ℤ pos n ≡ y *ℤ pos n → x ≡ y
mul-cancel x y n h e = sym (exact x n h) ∙ ap (λ (z : ℤ). nearest_z z n) e ∙ exact y n h
