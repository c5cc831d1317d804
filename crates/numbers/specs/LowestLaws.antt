-- Laws of lowest terms (BEHAVIOUR: Time, Arithmetic): both terms over their greatest common divisor are such, and no other fraction is.
-- Assumes nothing.
use Rattle.std.specs.Prelude.{◌≡◌, refl, ℕ, zero, suc, ◌+◌, ◌*◌, ◌/◌, ◌%◌, ◌≤◌, ◌<◌}
use Rattle.std.proofs.Common.{sym, ◌∙◌, ap, subst, div-add-mod', mod-lt, div-le_self, le-div_iff_mul-le, one-mul, mul-one, arith}
use Rattle.std.specs.Int.{◌∣◌}
use Rattle.std.proofs.Math.Nat.{dvd_refl, dvd-zero, dvd-mod_iff, dvd-add_iff_right, dvd-mul_left_of_dvd, dvd-mul_left, dvd-mul_right, dvd_antisymm, dvd_of_mul-dvd-mul_right, mul-dvd-mul_right, pos_of_dvd_of_pos, le_of_dvd, div-mul_cancel, eq_of_mul-eq-mul_right, eq-one_of_dvd-one}
use Rattle.numbers.specs.Lowest.{Gcd, Lowest}
use Rattle.numbers.specs.Total.{LowestOr}

-- ---- the greatest common divisor, by Euclid's step

-- a c is a multiple of b c and the remainder's
scaled : (a b c : ℕ) → a / b * (b * c) + a % b * c ≡ a * c
scaled a b c = omega (arith, ap (λ (k : ℕ). k * c) (div-add-mod' a b))

mod-divides : (m a b c : ℕ) → m ∣ a * c → m ∣ b * c → m ∣ a % b * c
mod-divides m a b c p q =
    (dvd-add_iff_right m (dvd-mul_left_of_dvd m q (a / b))).1 (subst (λ (k : ℕ). m ∣ k) (sym (scaled a b c)) p)

-- with 0, it is the other
pub gcd-zero : (a : ℕ) → Gcd a 0 a
gcd-zero a = record { left = dvd_refl a; right = dvd-zero a; most = λ m c p q. p }

-- with the remainder in the place of the number, it is the same
pub gcd-step : (a b g : ℕ) → Gcd b (a % b) g → Gcd a b g
gcd-step a b g h =
    record {
      left = (dvd-mod_iff g h.left).0 h.right;
      right = h.left;
      most = λ m c p q. h.most m c q (mod-divides m a b c p q);
    }

-- there is one
some-gcd : (k a b : ℕ) → b ≤ k → (g : ℕ) × Gcd a b g
some-gcd zero a zero l = (a, gcd-zero a)
some-gcd zero a (suc b) l = absurd (omega arith)
some-gcd (suc k) a zero l = (a, gcd-zero a)
some-gcd (suc k) a (suc b) l =
    let found = some-gcd k (suc b) (a % suc b) (omega (arith, mod-lt a {m = suc b} (omega arith))) in
    (found.0, gcd-step a (suc b) found.0 found.1)

-- each common divisor divides it
gcd-most : (a b g m : ℕ) → Gcd a b g → m ∣ a → m ∣ b → m ∣ g
gcd-most a b g m h p q =
    subst (λ (k : ℕ). m ∣ k) (mul-one g)
    (h.most m 1 (subst (λ (k : ℕ). m ∣ k) (sym (mul-one a)) p) (subst (λ (k : ℕ). m ∣ k) (sym (mul-one b)) q))

-- ---- both terms over it

module _ (p q g : ℕ) (hq : 0 < q) (h : Gcd p q g) where
  pub gcd-pos : 0 < g
  gcd-pos = pos_of_dvd_of_pos h.right hq

  same-is : p / g * q ≡ p * (q / g)
  same-is =
      omega
      (arith, ap (λ (k : ℕ). p / g * k) (div-mul_cancel g h.right), ap (λ (k : ℕ). k * (q / g)) (div-mul_cancel g h.left))

  den_pos : 0 < q / g
  den_pos = (le-div_iff_mul-le gcd-pos).1 (subst (λ (k : ℕ). k ≤ q) (sym (one-mul g)) (le_of_dvd hq h.right))

  -- m divides a / g: m g divides a
  lifted : (a m : ℕ) → g ∣ a → m ∣ a / g → m * g ∣ a
  lifted a m d e = subst (λ (k : ℕ). m * g ∣ k) (div-mul_cancel g d) (mul-dvd-mul_right m e g)

  only_one : (m : ℕ) → m ∣ p / g → m ∣ q / g → m ≡ 1
  only_one m u v =
      eq-one_of_dvd-one
      (dvd_of_mul-dvd-mul_right m gcd-pos
      (subst (λ (k : ℕ). m * g ∣ k) (sym (one-mul g)) (gcd-most p q g (m * g) h (lifted p m h.left u) (lifted q m h.right v))))

  pub over-gcd : Lowest p q (p / g) (q / g)
  over-gcd = record { same = same-is; positive = den_pos; coprime = only_one }

-- ---- one fraction only

-- what divides the same multiple of both terms divides that number
prime-to : {p q n d : ℕ} → Lowest p q n d → (m c : ℕ) → m ∣ n * c → m ∣ d * c → m ∣ c
prime-to {n = n} {d = d} x m c u v =
    let found = some-gcd d n d (omega arith) in
    let one : found.0 ≡ 1 = x.coprime found.0 found.1.left found.1.right in
    subst (λ (k : ℕ). m ∣ k) (ap (λ (k : ℕ). k * c) one ∙ one-mul c) (found.1.most m c u v)

module _ {p q n d n' d' : ℕ} (hq : 0 < q) (x : Lowest p q n d) (y : Lowest p q n' d') where
  cross : n * d' ≡ n' * d
  cross =
      eq_of_mul-eq-mul_right q hq (n * d') (n' * d)
      (omega (arith, ap (λ (k : ℕ). k * d') x.same, ap (λ (k : ℕ). k * d) y.same))

  den-divides : d ∣ d'
  den-divides = prime-to x d d' (subst (λ (k : ℕ). d ∣ k) (sym cross) (dvd-mul_left d n')) (dvd-mul_right d d')

module _ {p q n d n' d' : ℕ} (hq : 0 < q) (x : Lowest p q n d) (y : Lowest p q n' d') where
  pub den-one : d ≡ d'
  den-one = dvd_antisymm (den-divides hq x y) (den-divides hq y x)

  pub num-one : n ≡ n'
  num-one = eq_of_mul-eq-mul_right d x.positive n n' (ap (λ (k : ℕ). n * k) den-one ∙ cross hq x y)

-- nor is there another one of a fraction over 0
pub lowest_or-one : (p q : ℕ) {n d n' d' : ℕ} → LowestOr p q n d → LowestOr p q n' d' → (n ≡ n') × (d ≡ d')
lowest_or-one p zero x y =
    let u = x.1 refl in
    let v = y.1 refl in
    (u.0 ∙ sym v.0, u.1 ∙ sym v.1)
lowest_or-one p (suc q) x y =
    let h : 0 < suc q = omega arith in
    (num-one h (x.0 h) (y.0 h), den-one h (x.0 h) (y.0 h))

-- no term in lowest terms is above the one that it comes from
pub lowest-le : (p q n d : ℕ) → 0 < q → Lowest p q n d → (n ≤ p) × (d ≤ q)
lowest-le p q n d h x =
    let found = some-gcd q p q (omega arith) in
    let y = over-gcd p q found.0 h found.1 in (
      omega (arith, num-one h x y, div-le_self p found.0),
      omega (arith, den-one h x y, div-le_self q found.0),
    )
