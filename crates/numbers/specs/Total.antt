-- What a total operation answers where it cannot be carried out (BEHAVIOUR: Time, Arithmetic): 0. And the laws that say when it is exact.
-- Assumes nothing.
use Rattle.std.specs.Prelude.{◌≡◌, Bool, false, cond, ◌&&◌, ℕ, ◌≤◌, ◌<◌, ◌^◌, ltb, ℤ, pos, nat_abs}
use Rattle.std.proofs.Common.{lt-ltb, le-ltb}
use Rattle.numbers.specs.Lowest.{Lowest}

-- z, where this size is below 2 ^ 63; else 0
unfoldable pub fitted : (size : ℕ) (z : ℤ) → ℤ
fitted size z = cond (ltb size (2 ^ 63)) z (pos 0)

pub fitted-in : (size : ℕ) (z : ℤ) → size < 2 ^ 63 → fitted size z ≡ z
unfolding fitted
fitted-in size z h = rw (lt-ltb size (2 ^ 63) h)

pub fitted-out : (size : ℕ) (z : ℤ) → 2 ^ 63 ≤ size → fitted size z ≡ pos 0
unfolding fitted
fitted-out size z h = rw (le-ltb size (2 ^ 63) h)

-- x can be divided by d: x is not the least number, d is not 0
abbrev pub can_divide : (x d : ℤ) → Bool
can_divide x d = ltb (nat_abs x) (2 ^ 63) && ltb 0 (nat_abs d)

-- z, where x can be divided by d; else 0
unfoldable pub divided : (x d z : ℤ) → ℤ
divided x d z = cond (can_divide x d) z (pos 0)

pub divided-in : (x d z : ℤ) → nat_abs x < 2 ^ 63 → 0 < nat_abs d → divided x d z ≡ z
unfolding divided
divided-in x d z h k = rw (lt-ltb (nat_abs x) (2 ^ 63) h, lt-ltb 0 (nat_abs d) k)

pub divided-out : (x d z : ℤ) → can_divide x d ≡ false → divided x d z ≡ pos 0
unfolding divided
divided-out x d z e = rw e

-- n/d is p/q in lowest terms, and 0/1 where q is 0
abbrev pub LowestOr : (p q n d : ℕ) → Type 0
LowestOr p q n d = (0 < q → Lowest p q n d) × (q ≡ 0 → (n ≡ 0) × (d ≡ 1))
