-- Laws of truncated division (BEHAVIOUR: Time, Arithmetic): quotient and remainder are what they should be, over every divisor but 0, and nothing else is.
-- Assumes nothing.
use Rattle.std.specs.Prelude.{◌≡◌, refl, Bool, true, false, ℕ, zero, suc, ◌+◌, ◌*◌, ◌/◌, ◌%◌, ◌≤◌, ◌<◌, T, ℤ, pos, negsuc, neg_ℤ, nat_abs, ◌+ℤ◌, ◌-ℤ◌, ◌*ℤ◌}
use Rattle.std.proofs.Common.{sym, ◌∙◌, ap, ap₂, subst, div-add-mod', mod-lt, div-le_self, arith}
use Rattle.std.proofs.Math.IntN.{neg_ℤ-neg_ℤ, neg_ℤ-+ℤ, +ℤ_comm, +ℤ-neg_ℤ_cancel}
use Rattle.std.specs.Int.Signed.{quot_z, rem_z}
use Rattle.numbers.specs.Sign.{is_neg}
use Rattle.numbers.specs.SignLaws.{abs_neg, is_neg-neg, neg-mul}
use Rattle.numbers.specs.DistanceLaws.{far, far-across, far-neg, far_none, turned, abs-product}
use Rattle.numbers.specs.ProductLaws.{neg-product, mul-sub}
use Rattle.numbers.specs.Truncate.{Truncated}

-- two negations, joined
pub neg_sum : (u v n : ℕ) → u + v ≡ n → neg_ℤ (pos u) +ℤ neg_ℤ (pos v) ≡ neg_ℤ (pos n)
neg_sum u v n e = sym (neg_ℤ-+ℤ (pos u) (pos v)) ∙ ap (λ (k : ℕ). neg_ℤ (pos k)) e

-- the quotient times the divisor, and the remainder, are the number
pub quot-rem : (x d : ℤ) → (quot_z x d *ℤ d) +ℤ rem_z x d ≡ x
quot-rem (pos a) (pos b) = ap pos (div-add-mod' a b)
quot-rem (pos a) (negsuc b) =
    ap (λ (z : ℤ). z +ℤ pos (a % suc b)) (neg-product (pos (a / suc b)) (negsuc b) ∙ neg_ℤ-neg_ℤ (pos (a / suc b * suc b)))
    ∙ ap pos (div-add-mod' a (suc b))
quot-rem (negsuc a) (pos b) =
    ap (λ (z : ℤ). z +ℤ neg_ℤ (pos (suc a % b))) (neg-mul (pos (suc a / b)) b)
    ∙ neg_sum (suc a / b * b) (suc a % b) (suc a) (div-add-mod' (suc a) b)
quot-rem (negsuc a) (negsuc b) = neg_sum (suc a / suc b * suc b) (suc a % suc b) (suc a) (div-add-mod' (suc a) (suc b))

-- the remainder is smaller than the divisor
pub rem-small : (x d : ℤ) → 0 < nat_abs d → nat_abs (rem_z x d) < nat_abs d
rem-small (pos a) d h = mod-lt a h
rem-small (negsuc a) d h = rw (abs_neg (pos (suc a % nat_abs d))) (mod-lt (suc a) h)

-- a remainder that is not 0 has the dividend's sign
pub rem-side : (x d : ℤ) → 0 < nat_abs (rem_z x d) → is_neg (rem_z x d) ≡ is_neg x
rem-side (pos a) d h = refl
rem-side (negsuc a) d h = is_neg-neg (suc a % nat_abs d) (rw (abs_neg (pos (suc a % nat_abs d))) at h)

-- the quotient is no larger than the number
pub quot-abs : (x d : ℤ) → nat_abs (quot_z x d) ≤ nat_abs x
quot-abs (pos a) (pos b) = div-le_self a b
quot-abs (pos a) (negsuc b) = rw (abs_neg (pos (a / suc b))) (div-le_self a (suc b))
quot-abs (negsuc a) (pos b) = rw (abs_neg (pos (suc a / b))) (div-le_self (suc a) b)
quot-abs (negsuc a) (negsuc b) = div-le_self (suc a) (suc b)

-- two numbers of one sign, each smaller than b, are closer than b
false-true : false ≡ true → ⊥
false-true e = subst T (sym e) tt

one_side : (r s : ℤ) (t : Bool) (b : ℕ)
    → (0 < nat_abs r → is_neg r ≡ t) → (0 < nat_abs s → is_neg s ≡ t) → nat_abs r < b → nat_abs s < b → nat_abs (r -ℤ s) < b
one_side (pos u) (pos v) t b p q h k = rw (far u v) (omega arith)
one_side (pos zero) (negsuc v) t b p q h k = omega arith
one_side (pos (suc u)) (negsuc v) t b p q h k = absurd (false-true (p (omega arith) ∙ sym (q (omega arith))))
one_side (negsuc u) (pos zero) t b p q h k = rw (far-across (suc u) zero) (omega arith)
one_side (negsuc u) (pos (suc v)) t b p q h k = absurd (false-true (q (omega arith) ∙ sym (p (omega arith))))
one_side (negsuc u) (negsuc v) t b p q h k = rw (far-neg (pos (suc u)) (pos (suc v)), far (suc u) (suc v)) (omega arith)

-- less than one divisor is none
pub none : (k b : ℕ) → k * b < b → k ≡ 0
none zero b h = refl
none (suc k) b h = absurd (omega arith)

-- the remainder from the quotient, and the other way
pub left : (x d q r : ℤ) → (q *ℤ d) +ℤ r ≡ x → q *ℤ d ≡ x -ℤ r
left x d q r e = sym (+ℤ-neg_ℤ_cancel (q *ℤ d) r) ∙ ap (λ (z : ℤ). z -ℤ r) e

pub rest : (x d q r : ℤ) → (q *ℤ d) +ℤ r ≡ x → r ≡ x -ℤ q *ℤ d
rest x d q r e = sym (+ℤ-neg_ℤ_cancel r (q *ℤ d)) ∙ ap (λ (z : ℤ). z -ℤ q *ℤ d) (+ℤ_comm r (q *ℤ d) ∙ e)

module _ {x d q r q' r' : ℤ} (t : Truncated x d q r) (t' : Truncated x d q' r') where
  apart : (q -ℤ q') *ℤ d ≡ r' -ℤ r
  apart =
      mul-sub q q' d
      ∙ ap₂ (λ (u v : ℤ). u -ℤ v) (left x d q r t.whole) (left x d q' r' t'.whole)
      ∙ turned x r r'

  pub quot-one : q ≡ q'
  quot-one =
      far_none q q'
      (none (nat_abs (q -ℤ q')) (nat_abs d)
      (rw (sym (abs-product (q -ℤ q') d), apart) (one_side r' r (is_neg x) (nat_abs d) t'.side t.side t'.small t.small)))

  pub rem-one : r ≡ r'
  rem-one =
      rest x d q r t.whole ∙ ap (λ (k : ℤ). x -ℤ k *ℤ d) quot-one ∙ sym (rest x d q' r' t'.whole)
