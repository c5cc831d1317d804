-- A trailing zero can be dropped before the digits are written: the number over ten, in one digit less. And what that says of every fraction.
-- Assumes nothing.
use Prim.Native.Nat.{ℕ, zero, suc, ◌+◌, ◌-◌, ◌*◌, ◌/◌, ◌%◌, ◌^◌, ◌≤◌, ◌<◌, max}
use mathlib.Core.Path.{◌≡◌, refl, sym, ap, ◌∙◌}
use mathlib.Core.Bool.{Bool, true, false, cond}
use mathlib.Core.List.{List, [], ◌∷◌, ◌++◌}
use native.Mathlib.Omega.{arith}
use native.Mathlib.Nat.{pow-suc}
use lib.ListN.{length, length-append}
use lib.Dec.{eqb}
use borrow.Author.Tests.{eq-eqb, ne_eqb, eqb-true, eqb-false}
use Rattle.digits.specs.Digits.{all_digits, value_of, digits_of}
use Rattle.digits.proofs.Values.{digits-length, digits-all, digits-back}
use Rattle.runtime_writer.specs.Fraction.{fraction_text}
use Rattle.runtime_writer.specs.Statements.{Zeroed}

-- ---- on numbers, digit by digit
pub fraction-drop : (w v : ℕ) → 1 < w → v % 10 ≡ 0 → fraction_text w v ≡ fraction_text (w - 1) (v / 10)
unfolding fraction_text
fraction-drop zero v h e = absurd (omega arith)
fraction-drop (suc zero) v h e = absurd (omega arith)
fraction-drop (suc (suc w)) v h e = let p : suc (suc w) - 1 ≡ suc w = omega arith in rw (p, eq-eqb (v % 10) 0 e)

pub fraction-keep : (w v : ℕ) → 1 < w → (v % 10 ≡ 0 → ⊥) → fraction_text w v ≡ digits_of w v
unfolding fraction_text
fraction-keep zero v h e = absurd (omega arith)
fraction-keep (suc zero) v h e = absurd (omega arith)
fraction-keep (suc (suc w)) v h e = rw (ne_eqb (v % 10) 0 e)

pub fraction-one : (w v : ℕ) → w ≡ 1 → fraction_text w v ≡ digits_of w v
unfolding fraction_text
fraction-one w v e = rw e

pub fraction-none : (v : ℕ) → digits_of 1 0 ≡ fraction_text 0 v
unfolding fraction_text digits_of
fraction-none v = refl

-- ---- the loop of `shortest`: v in w digits has the same fraction as n in k
pub record Dropping (k n w v : ℕ) : Type 0 where
  pub some : 0 < w
  pub same : fraction_text k n ≡ fraction_text w v

-- ---- what holds of the digits where none is dropped, and of a number where it holds of its tenth, holds of every fraction
module _
    (P : (k n : ℕ) → List ℕ → Type 0)
    (none : (n : ℕ) → P 0 n (48 ∷ []))
    (one : (n : ℕ) → P 1 n (digits_of 1 n))
    (all : (k n : ℕ) → (n % 10 ≡ 0 → ⊥) → P (suc (suc k)) n (digits_of (suc (suc k)) n))
    (less : (k n : ℕ) (t : List ℕ) → n % 10 ≡ 0 → P (suc k) (n / 10) t → P (suc (suc k)) n t) where
  pub fractions : (k n : ℕ) → P k n (fraction_text k n)
  unfolding fraction_text
  fractions zero n = none n
  fractions (suc zero) n = one n
  fractions (suc (suc k)) n = by (eqb (n % 10) 0) refl (fractions (suc k) (n / 10))
    where
      by : (t : Bool) → eqb (n % 10) 0 ≡ t → P (suc k) (n / 10) (fraction_text (suc k) (n / 10))
          → P (suc (suc k)) n (cond t (fraction_text (suc k) (n / 10)) (digits_of (suc (suc k)) n))
      by true e later = less k n (fraction_text (suc k) (n / 10)) (eqb-true (n % 10) 0 e) later
      by false e later = all k n (eqb-false (n % 10) 0 e)

-- one digit is kept, and none is added but that
pub fraction-length : (k n : ℕ) → (0 < length (fraction_text k n)) × (length (fraction_text k n) ≤ max 1 k)
fraction-length =
    fractions (λ k n t. (0 < length t) × (length t ≤ max 1 k))
    (λ n. (omega arith, omega arith))
    (λ n. let e = digits-length 1 n in (omega arith, omega arith))
    (λ k n h. let e = digits-length (suc (suc k)) n in (omega arith, omega arith))
    (λ k n t e p. (p.0, omega (arith, p.1)))

-- every byte of it is a digit
pub fraction-digits : (k n : ℕ) → all_digits (fraction_text k n) ≡ true
unfolding all_digits
fraction-digits =
    fractions (λ k n t. all_digits t ≡ true) (λ n. refl) (digits-all 1) (λ k n h. digits-all (suc (suc k)) n) (λ k n t e p. p)

-- ---- a zero stands last only alone
-- the last byte of a text
last : ℕ → List ℕ → ℕ
last b [] = b
last b (d ∷ l) = last d l

last_snoc : (b : ℕ) (l : List ℕ) (d : ℕ) → last b (l ++ (d ∷ [])) ≡ d
unfolding last
last_snoc b [] d = refl
last_snoc b (x ∷ l) d = last_snoc x l d

alone : (t l : List ℕ) → length t ≡ 1 → t ≡ l ++ (48 ∷ []) → l ≡ []
alone t [] n e = refl
alone t (b ∷ l) n e = absurd (omega (arith, length-append l (48 ∷ []), ap length e))

other_last : (k n : ℕ) → (n % 10 ≡ 0 → ⊥) → (l : List ℕ) → digits_of (suc k) n ≡ l ++ (48 ∷ []) → l ≡ []
unfolding digits_of
other_last k n h l e =
    let z : 48 + n % 10 ≡ 48 =
    sym (last_snoc 0 (digits_of k (n / 10)) (48 + n % 10)) ∙ ap (last 0) e ∙ last_snoc 0 l 48 in
    absurd (h (omega arith))

pub fraction-last : (k n : ℕ) (l : List ℕ) → fraction_text k n ≡ l ++ (48 ∷ []) → l ≡ []
fraction-last =
    fractions (λ k n t. (l : List ℕ) → t ≡ l ++ (48 ∷ []) → l ≡ [])
    (λ n l e. alone (48 ∷ []) l refl e)
    (λ n l e. alone (digits_of 1 n) l (digits-length 1 n) e)
    (λ k n h l e. other_last (suc k) n h l e)
    (λ k n t z p. p)

-- ---- with the dropped zeros behind it again it is the number
whole : (k n : ℕ) → n < 10 ^ k → Zeroed k n (digits_of k n)
whole k n h = record { zeros = 0; long = λ p. omega (arith, digits-length k n); value = omega (arith, digits-back k n h) }

pub fraction-back : (k n : ℕ) → n < 10 ^ k → Zeroed k n (fraction_text k n)
unfolding digits_of
fraction-back =
    fractions (λ k n t. n < 10 ^ k → Zeroed k n t)
    (λ n h. record { zeros = 0; long = λ p. absurd (omega arith); value = omega (arith, h, digits-back 1 0 (omega arith)) })
    (λ n h. whole 1 n h)
    (λ k n z h. whole (suc (suc k)) n h)
    (λ k n t z p h.
    let b = p (omega (arith, h, pow-suc 10 (suc k))) in
    record {
      zeros = suc b.zeros;
      long = λ q. omega (arith, b.long (omega arith));
      value = omega (arith, ap (λ x. value_of t * x) (pow-suc 10 b.zeros), b.value);
    })
