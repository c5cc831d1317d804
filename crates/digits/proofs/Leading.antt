-- Digits that have one value are the same but for leading zeros: with zeros in front they are as many, and are the digits of that value.
-- Assumes nothing.
use Prim.Native.Nat.{ℕ, zero, suc, ◌+◌, ◌-◌, ◌*◌}
use mathlib.Core.Path.{◌≡◌, refl, sym, ap, ap₂, ◌∙◌}
use mathlib.Core.Logic.{◌↔◌}
use mathlib.Core.List.{List, [], ◌∷◌}
use mathlib.Core.Bool.{Bool, true, false}
use native.Mathlib.Omega.{arith}
use lib.ListN.{length}
use lib.Dec.{eqb}
use borrow.Author.Tests.{eq-eqb, ne_eqb, eqb-true, eqb-false}
use Rattle.digits.specs.Digits.{all_digits, value_from, value_of, significant, digits_of, decimal}
use Rattle.digits.specs.Statements.{LeadingZeros}
use Rattle.digits.proofs.Values.{value_back}
use Rattle.digits.proofs.Width.{decimal_back, decimal-field}

-- ---- without the zeros in front
-- a zero in front goes; any other digit stays, and all behind it
significant-zero : (b : ℕ) (d : List ℕ) → b ≡ 48 → significant (b ∷ d) ≡ significant d
unfolding significant
significant-zero b d e = rw (eq-eqb b 48 e)

significant-other : (b : ℕ) (d : List ℕ) → (b ≡ 48 → ⊥) → significant (b ∷ d) ≡ b ∷ d
unfolding significant
significant-other b d h = rw (ne_eqb b 48 h)

-- the value stays
significant-value : (d : List ℕ) → value_of (significant d) ≡ value_of d
unfolding significant value_from
significant-value [] = refl
significant-value (b ∷ d) = by (eqb b 48) refl (significant-value d)
  where
    by : (t : Bool) → eqb b 48 ≡ t → value_of (significant d) ≡ value_of d → value_of (significant (b ∷ d)) ≡ value_of (b ∷ d)
    by true e ih =
        let is = eqb-true b 48 e in
        let none : 0 ≡ 0 * 10 + (b - 48) = omega arith in
        ap value_of (significant-zero b d is) ∙ ih ∙ ap (λ (v : ℕ). value_from v d) none
    by false e ih = ap value_of (significant-other b d (eqb-false b 48 e))

-- ---- with so many zeros in front
pad : (k : ℕ) → List ℕ → List ℕ
pad zero d = d
pad (suc k) d = 48 ∷ pad k d

pad-length : (k : ℕ) (d : List ℕ) → length (pad k d) ≡ k + length d
unfolding pad
pad-length zero d = omega arith
pad-length (suc k) d = omega (arith, pad-length k d)

pad-digits : (k : ℕ) (d : List ℕ) → all_digits d ≡ true → all_digits (pad k d) ≡ true
unfolding pad all_digits
pad-digits zero d a = a
pad-digits (suc k) d a = pad-digits k d a

pad-value : (k : ℕ) (d : List ℕ) → value_of (pad k d) ≡ value_of d
unfolding pad value_from
pad-value zero d = refl
pad-value (suc k) d = pad-value k d

pad-significant : (k : ℕ) (d : List ℕ) → significant (pad k d) ≡ significant d
unfolding pad significant
pad-significant zero d = refl
pad-significant (suc k) d = pad-significant k d

-- each with as many zeros in front as the other has digits, they are equally many
pub leading_zeros : LeadingZeros
leading_zeros d e a b = (
  λ h. let x = pad (length e) d in
      let y = pad (length d) e in
      let many : length x ≡ length y = omega (arith, pad-length (length e) d, pad-length (length d) e) in
      let same : value_of x ≡ value_of y = pad-value (length e) d ∙ h ∙ sym (pad-value (length d) e) in
      let one : x ≡ y = sym (value_back x (pad-digits (length e) d a)) ∙ ap₂ digits_of many same ∙ value_back y (pad-digits (length d) e b) in
      sym (pad-significant (length e) d) ∙ ap significant one ∙ pad-significant (length d) e,
  λ h. sym (significant-value d) ∙ ap value_of h ∙ significant-value e,
)

-- so digits are a number as it is written, but for leading zeros, exactly when that is their value
pub leading-decimal : (d : List ℕ) (k n : ℕ) → all_digits d ≡ true → (value_of d ≡ n) ↔ (significant d ≡ significant (decimal k n))
leading-decimal d k n a =
    let same = leading_zeros d (decimal k n) a (decimal-field k n).digits in
    (λ e. same.0 (e ∙ sym (decimal_back k n)), λ e. same.1 e ∙ decimal_back k n)
