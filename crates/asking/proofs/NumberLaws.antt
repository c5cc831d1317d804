-- Digits by their value: what is held of it is enough to tell whether it is within 64 bits.
-- Assumes nothing.
use Rattle.std.specs.Prelude.{None}
use Rattle.asking.specs.Numbers.{some_word}
use Prim.Native.Nat.{ℕ, zero, suc, ◌+◌, ◌-◌, ◌*◌, ◌≤◌, ◌<◌, min}
use mathlib.Core.Path.{◌≡◌, refl, sym, subst, ◌∙◌}
use mathlib.Core.Logic.{inl, inr}
use mathlib.Core.List.{List, [], ◌∷◌}
use mathlib.Core.Bool.{Bool, true, false}
use native.Mathlib.Omega.{arith}
use native.Mathlib.Numerals.{add-one}
use lib.ListN.{length, take, drop, get_or, length-drop}
use lib.Seq.{take-suc, drop-drop}
use lib.Dec.{leb, ltb}
use borrow.Author.Tests.{lt-ltb, le-ltb, le-leb, lt-leb, leb-true, leb-false, ltb-true, eq-eqb, ne_eqb}
use lib.IntN.{ℤ, pos, ◌-ℤ◌}
use mir.Syntax.{w64}
use mir.Val.{to_z, of_z}
use mir.Facts.{to_z-of_z}
use Rattle.std.specs.Prelude.{FitsSigned}
use Rattle.numbers.specs.Sign.{signed}
use Rattle.digits.specs.Digits.{is_byte, is_digit, all_digits, value_from, value_of, first_is, span, leading}
use Rattle.digits.proofs.Values.{digit-bounds, all_head, all_tail, value-snoc}
use Rattle.digits.proofs.Runs.{span-within, leading-all}
use Rattle.asking.specs.Numbers.{signed_word, digits_at, signed_at, number_at, Held}

-- ---- one digit more, as far as 64 bits go
pub held-more : (v m b t r : ℕ) → Held v m → b ≤ 57 → t ≡ min (m * 10) 18446744073709551615 → r ≡ min (t + (b - 48)) 18446744073709551615
    → Held (v * 10 + (b - 48)) r
held-more v m b t r (inl p) k e f = by (leb (m * 10 + (b - 48)) 18446744073709551615) refl
  where
    by : (s : Bool) → leb (m * 10 + (b - 48)) 18446744073709551615 ≡ s → Held (v * 10 + (b - 48)) r
    by true q = inl (omega (arith, p, e, f, leb-true (m * 10 + (b - 48)) 18446744073709551615 q))
    by false q = let l = leb-false (m * 10 + (b - 48)) 18446744073709551615 q in inr (omega (arith, p, l), omega (arith, e, f, l))
held-more v m b t r (inr p) k e f = inr (omega (arith, p), omega (arith, p, e, f))

-- ---- the loop of `magnitude`: i digits were taken
pub digit_at : (d : List ℕ) → all_digits d ≡ true → (i : ℕ) → i < length d → is_digit (get_or d i 0) ≡ true
digit_at [] a i h = absurd (omega arith)
digit_at (b ∷ d) a zero h = all_head b d a
digit_at (b ∷ d) a (suc i) h = digit_at d (all_tail b d a) i (omega arith)

pub record Valuing (d : List ℕ) (m i : ℕ) : Type 0 where
  pub within : i ≤ length d
  pub held : Held (value_of (take i d)) m

pub valuing-start : (d : List ℕ) → Valuing d 0 0
unfolding value_from
valuing-start d = record { within = omega arith; held = inl refl }

pub valuing-turn : (d : List ℕ) (m i t r : ℕ) → Valuing d m i → all_digits d ≡ true → i < length d
    → t ≡ min (m * 10) 18446744073709551615 → r ≡ min (t + (get_or d i 0 - 48)) 18446744073709551615 → Valuing d r (i + 1)
valuing-turn d m i t r s a h e g =
    let b = get_or d i 0 in
    let f : value_of (take (i + 1) d) ≡ value_of (take i d) * 10 + (b - 48) =
    rw (add-one, take-suc d i 0 h) (value-snoc 0 (take i d) b) in
    record {
      within = omega arith;
      held = rw f (held-more (value_of (take i d)) m b t r s.held (digit-bounds b (digit_at d a i h)).1 e g);
    }

-- ---- within 64 bits
within_by : (minus : Bool) (v m next : ℕ) → Held v m → signed_word minus m next ≡ signed_word minus v next
unfolding signed_word
within_by minus v m next (inl e) = rw e
within_by true v m next (inr p) = rw (lt-leb m 9223372036854775808 p.1, lt-leb v 9223372036854775808 p.0)
within_by false v m next (inr p) = rw (le-ltb m 9223372036854775808 (omega (arith, p)), le-ltb v 9223372036854775808 (omega (arith, p)))

below-zero : (m : ℕ) → pos 0 -ℤ pos m ≡ signed true m
below-zero zero = refl
below-zero (suc k) = let e : suc k - 1 ≡ k = omega arith in rw (le-leb 1 (suc k) (omega arith), e)

module _ (m next : ℕ) where
  -- below zero -2^63 itself is within them
  pub word-minus : (z : ℤ) → FitsSigned w64 (pos 0 -ℤ pos m) → z ≡ pos 0 -ℤ pos m → some_word (to_z w64 (of_z w64 z)) next ≡ signed_word true m next
  unfolding signed_word
  word-minus z h e = rw (e, to_z-of_z h, below-zero m) (by m (subst (FitsSigned w64) (below-zero m) h))
    where
      by : (m : ℕ) → FitsSigned w64 (signed true m) → some_word (signed true m) next ≡ signed_word true m next
      by zero h = refl
      by (suc k) h = rw (le-leb (suc k) 9223372036854775808 (omega (arith, h.sfits)))

  pub word-too-low : (FitsSigned w64 (pos 0 -ℤ pos m) → ⊥) → None ≡ signed_word true m next
  unfolding signed_word
  word-too-low h = by m (λ f. h (subst (FitsSigned w64) (sym (below-zero m)) f)) (leb m 9223372036854775808) refl
    where
      by : (m : ℕ) → (FitsSigned w64 (signed true m) → ⊥) → (t : Bool) → leb m 9223372036854775808 ≡ t → None ≡ signed_word true m next
      by zero h t e = absurd (h (record { sfits = omega arith }))
      by (suc k) h true e = absurd (h (record { sfits = omega (arith, leb-true (suc k) 9223372036854775808 e) }))
      by (suc k) h false e = rw e

  pub word-plus : (z : ℤ) → FitsSigned w64 (pos m) → z ≡ pos m → some_word (to_z w64 (of_z w64 z)) next ≡ signed_word false m next
  unfolding signed_word
  word-plus z h e = rw (e, to_z-of_z h, lt-ltb m 9223372036854775808 (omega (arith, h.sfits)))

  pub word-too-high : (FitsSigned w64 (pos m) → ⊥) → None ≡ signed_word false m next
  unfolding signed_word
  word-too-high h = by (ltb m 9223372036854775808) refl
    where
      by : (t : Bool) → ltb m 9223372036854775808 ≡ t → None ≡ signed_word false m next
      by true e = absurd (h (record { sfits = omega (arith, ltb-true m 9223372036854775808 e) }))
      by false e = rw e

-- ---- what stands at a place of the line
pub stands_by : (b : ℕ) (l : List ℕ) → first_is (is_byte b) l ≡ true → 0 < length l
stands_by b [] e = let z : ◌≡◌ {A = ℕ} 0 1 = cc in omega arith
stands_by b (c ∷ l) e = omega arith

pub stands-within : (line : List ℕ) (at b : ℕ) → first_is (is_byte b) (drop at line) ≡ true → at < length line
stands-within line at b e = omega (arith, length-drop at line, stands_by b (drop at line) e)

-- ---- the digits at a place
module _ (line : List ℕ) (at n : ℕ) (e : n ≡ span (drop at line)) where
  pub digits-none : (minus : Bool) → n ≡ 0 → None ≡ digits_at minus at (drop at line)
  unfolding digits_at
  digits-none minus z = rw (eq-eqb (span (drop at line)) 0 (sym e ∙ z))

  pub digits-within : (n ≡ 0 → ⊥) → at + n ≤ length line
  digits-within z = omega (arith, span-within (drop at line), length-drop at line, z)

  digits-part : take (at + n - at) (drop at line) ≡ leading (drop at line)
  digits-part = let f : at + n - at ≡ span (drop at line) = omega arith in rw f

  pub part-digits : all_digits (take (at + n - at) (drop at line)) ≡ true
  part-digits = rw digits-part (leading-all (drop at line))

  pub digits-some : (minus : Bool) (m : ℕ) → (n ≡ 0 → ⊥) → Held (value_of (take (at + n - at) (drop at line))) m
      → signed_word minus m (at + n) ≡ digits_at minus at (drop at line)
  unfolding digits_at
  digits-some minus m z h =
      within_by minus _ m (at + n) h
      ∙ rw (digits-part, ne_eqb (span (drop at line)) 0 (λ y. z (e ∙ y)), e)

module _ (line : List ℕ) (at : ℕ) where
  -- ---- an optional `-`, and the digits behind it
  pub signed-minus : first_is (is_byte 45) (drop at line) ≡ true → digits_at true (at + 1) (drop (at + 1) line) ≡ signed_at at (drop at line)
  unfolding signed_at
  signed-minus e = rw (e, drop-drop 1 at line)

  pub signed-plain : first_is (is_byte 45) (drop at line) ≡ false → digits_at false at (drop at line) ≡ signed_at at (drop at line)
  unfolding signed_at
  signed-plain e = rw e

  -- ---- a number behind a space
  pub number-none : first_is (is_byte 32) (drop at line) ≡ false → None ≡ number_at at (drop at line)
  unfolding number_at
  number-none e = rw e

  pub number-some : first_is (is_byte 32) (drop at line) ≡ true → signed_at (at + 1) (drop (at + 1) line) ≡ number_at at (drop at line)
  unfolding number_at
  number-some e = rw (e, drop-drop 1 at line)
