-- What holds of rounding and division beyond one call (BEHAVIOUR: Time, Arithmetic): each is what it is meant to be, and nothing else is. Proofs: proofs/Statements.antt.
-- Assumes nothing.
use Rattle.std.specs.Prelude.{◌≡◌, ℕ, ◌*◌, ◌≤◌, ◌<◌, ℤ, pos, nat_abs, ◌-ℤ◌, ◌*ℤ◌, ◌≤ℤ◌}
use Rattle.std.specs.Int.Signed.{quot_z, rem_z}
use Rattle.numbers.specs.Nearest.{Nearest, nearest_z}
use Rattle.numbers.specs.Floor.{Floor, floor_z}
use Rattle.numbers.specs.Truncate.{Truncated}
use Rattle.numbers.specs.Modulo.{Reduced, reduced_z}
use Rattle.numbers.specs.Lowest.{Lowest}

-- ---- nearest, over every step n above zero

-- what is computed is the nearest whole number, halves away from zero
abbrev pub NearestIs : Type 0
NearestIs = (x : ℤ) (n : ℕ) → 0 < n → Nearest x n (nearest_z x n)

-- and nothing else is
abbrev pub NearestOne : Type 0
NearestOne = (x : ℤ) (n : ℕ) (k : ℤ) → 0 < n → Nearest x n k → k ≡ nearest_z x n

-- the nearest multiple is at most half a step away
abbrev pub WithinHalf : Type 0
WithinHalf = (x : ℤ) (n : ℕ) → 0 < n → 2 * nat_abs (nearest_z x n *ℤ pos n -ℤ x) ≤ n

-- a multiple is its own nearest
abbrev pub ExactOnMultiples : Type 0
ExactOnMultiples = (k : ℤ) (n : ℕ) → 0 < n → nearest_z (k *ℤ pos n) n ≡ k

-- a larger number has no smaller nearest
abbrev pub OrderKept : Type 0
OrderKept = (x y : ℤ) (n : ℕ) → 0 < n → x ≤ℤ y → nearest_z x n ≤ℤ nearest_z y n

-- ---- floored and truncated, over every divisor d but 0

-- what is computed is the largest whole number that is not above x/d
abbrev pub FloorIs : Type 0
FloorIs = (x d : ℤ) → 0 < nat_abs d → Floor x d (floor_z x d)

-- and nothing else is
abbrev pub FloorOne : Type 0
FloorOne = (x d k : ℤ) → 0 < nat_abs d → Floor x d k → k ≡ floor_z x d

-- what is computed are the truncated quotient and its remainder, with the dividend's sign
abbrev pub TruncateIs : Type 0
TruncateIs = (x d : ℤ) → 0 < nat_abs d → Truncated x d (quot_z x d) (rem_z x d)

-- and nothing else are
abbrev pub TruncateOne : Type 0
TruncateOne = (x d q r : ℤ) → 0 < nat_abs d → Truncated x d q r → (q ≡ quot_z x d) × (r ≡ rem_z x d)

-- ---- reduced by whole steps n, of either sign

-- what is computed lies from 0 up to n, which is not included, and differs from x by a multiple of n
abbrev pub ReducedIs : Type 0
ReducedIs = (x : ℤ) (n : ℕ) → 0 < n → Reduced x n (reduced_z x n)

-- and nothing else does
abbrev pub ReducedOne : Type 0
ReducedOne = (x : ℤ) (n r : ℕ) → 0 < n → Reduced x n r → r ≡ reduced_z x n

-- ---- lowest terms

-- a fraction has one form in lowest terms
abbrev pub LowestOne : Type 0
LowestOne = (p q n d n' d' : ℕ) → 0 < q → Lowest p q n d → Lowest p q n' d' → (n ≡ n') × (d ≡ d')
