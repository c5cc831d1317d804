-- Laws of a number reduced by whole n's (BEHAVIOUR: Positions): what is computed is such, nothing else is, and how it goes by magnitudes.
-- Assumes nothing.
use Rattle.std.specs.Prelude.{◌≡◌, refl, Bool, true, false, ℕ, zero, suc, ◌+◌, ◌*◌, ◌-◌, ◌/◌, ◌%◌, ◌≤◌, ◌<◌, ℤ, pos, negsuc, neg_ℤ, nat_abs, ◌+ℤ◌, ◌-ℤ◌, ◌*ℤ◌}
use Rattle.std.proofs.Common.{sym, ◌∙◌, ap, ap₂, div-add-mod', mod-lt, suc-mul, arith, ne_eqb, eq-eqb}
use Rattle.std.proofs.Math.IntN.{ℤ, -ℤ-+ℤ_cancel}
use Rattle.numbers.specs.Sign.{signed}
use Rattle.numbers.specs.SignLaws.{neg-mul}
use Rattle.numbers.specs.DistanceLaws.{far, far_none, turned, abs-product}
use Rattle.numbers.specs.ProductLaws.{mul-sub}
use Rattle.numbers.specs.TruncateLaws.{neg_sum, none, left, rest}
use Rattle.numbers.specs.Modulo.{Reduced, left_up, reduced_z}

-- what lies u above a negative multiple: -v + u is -w, where u + w is v
up_neg : (u v w : ℕ) → u + w ≡ v → neg_ℤ (pos v) +ℤ pos u ≡ neg_ℤ (pos w)
up_neg u v w e = sym (ap (λ (z : ℤ). z +ℤ pos u) (neg_sum w u v (omega (arith, e)))) ∙ -ℤ-+ℤ_cancel (neg_ℤ (pos w)) (pos u)

-- what is computed lies from 0 up to n, and differs from x by a multiple of n
pub left_up_lem : (x : ℤ) (n : ℕ) → 0 < n → Reduced x n (left_up x n)
left_up_lem (pos a) n h = record { under = mod-lt a h; times = pos (a / n); whole = ap pos (div-add-mod' a n) }
left_up_lem (negsuc a) n h =
    let s = div-add-mod' a n in
    let l = mod-lt a {m = n} h in
    record {
      under = omega arith;
      times = negsuc (a / n);
      whole = up_neg (n - 1 - a % n) (suc (a / n) * n) (suc a) (omega (arith, suc-mul (a / n) n));
    }

-- and there is one such
module _ {x : ℤ} {n r s : ℕ} (p : Reduced x n r) (q : Reduced x n s) where
  apart : (p.times -ℤ q.times) *ℤ pos n ≡ pos s -ℤ pos r
  apart =
      mul-sub p.times q.times (pos n)
      ∙ ap₂ (λ (u v : ℤ). u -ℤ v) (left x (pos n) p.times (pos r) p.whole) (left x (pos n) q.times (pos s) q.whole)
      ∙ turned x (pos r) (pos s)

  same-times : p.times ≡ q.times
  same-times =
      far_none p.times q.times
      (none (nat_abs (p.times -ℤ q.times)) n
      (rw (sym (abs-product (p.times -ℤ q.times) (pos n)), apart, far s r) (omega (arith, p.under, q.under))))

  pub reduced-same : r ≡ s
  reduced-same =
      ap nat_abs
      (rest x (pos n) p.times (pos r) p.whole
      ∙ ap (λ (k : ℤ). x -ℤ k *ℤ pos n) same-times
      ∙ sym (rest x (pos n) q.times (pos s) q.whole))

-- ---- for every n
pub reduced-in : (x : ℤ) (n : ℕ) → 0 < n → reduced_z x n ≡ left_up x n
unfolding reduced_z
reduced-in x n h = rw (ne_eqb n 0 (λ e. omega (arith, e)))

pub reduced-none : (x : ℤ) (n : ℕ) → n ≡ 0 → reduced_z x n ≡ 0
unfolding reduced_z
reduced-none x n e = rw (eq-eqb n 0 e)

pub reduced-up : (x : ℤ) (n : ℕ) → 0 < n → Reduced x n (reduced_z x n)
reduced-up x n h = rw (reduced-in x n h) (left_up_lem x n h)

pub reduced-is-one : (x : ℤ) (n r : ℕ) → 0 < n → Reduced x n r → reduced_z x n ≡ r
reduced-is-one x n r h p = reduced-same (reduced-up x n h) p

-- it is never more than n
pub reduced-le : (x : ℤ) (n : ℕ) → reduced_z x n ≤ n
reduced-le x zero = omega (arith, reduced-none x zero refl)
reduced-le x (suc n) = omega (arith, (reduced-up x (suc n) (omega arith)).under)

-- ---- by magnitudes
-- of a number from 0 on it is the magnitude's rest
pub reduced-plain : (m n : ℕ) → 0 < n → reduced_z (signed false m) n ≡ m % n
reduced-plain m n h = reduced-in (pos m) n h

-- of a number below zero n less it
pub reduced-below : (m n : ℕ) → 0 < n → 0 < m % n → reduced_z (signed true m) n ≡ n - m % n
reduced-below m n h l =
    let s = div-add-mod' m n in
    let k = mod-lt m {m = n} h in
    reduced-is-one (signed true m) n (n - m % n) h
    (record {
      under = omega arith;
      times = negsuc (m / n);
      whole = up_neg (n - m % n) (suc (m / n) * n) m (omega (arith, suc-mul (m / n) n));
    })

-- where nothing is left, 0
pub reduced-whole : (minus : Bool) (m n : ℕ) → 0 < n → m % n ≡ 0 → reduced_z (signed minus m) n ≡ 0
reduced-whole minus m n h e =
    reduced-is-one (signed minus m) n 0 h (record { under = h; times = signed minus (m / n); whole = by minus })
  where
    by : (t : Bool) → (signed t (m / n) *ℤ pos n) +ℤ pos 0 ≡ signed t m
    by false = ap pos (omega (arith, div-add-mod' m n))
    by true = ap (λ (z : ℤ). z +ℤ pos 0) (neg-mul (pos (m / n)) n) ∙ up_neg 0 (m / n * n) m (omega (arith, div-add-mod' m n))
