-- A fraction in lowest terms, and the greatest common divisor (BEHAVIOUR: Time, Arithmetic): what they are.
-- Assumes nothing.
use Rattle.std.specs.Prelude.{◌≡◌, ℕ, ◌*◌, ◌<◌}
use Rattle.std.specs.Int.{◌∣◌}

-- n/d is p/q in lowest terms: it is the same fraction, and only 1 divides both of its terms
pub record Lowest (p q n d : ℕ) : Type 0 where
  pub same : n * q ≡ p * d
  pub positive : 0 < d
  pub coprime : (m : ℕ) → m ∣ n → m ∣ d → m ≡ 1

-- g is the greatest common divisor of a and b: it divides both, and whatever divides a multiple of both divides that multiple of g
-- (at c = 1: each common divisor divides it)
pub record Gcd (a b g : ℕ) : Type 0 where
  pub left : g ∣ a
  pub right : g ∣ b
  pub most : (m c : ℕ) → m ∣ a * c → m ∣ b * c → m ∣ g * c
