-- What a digit is worth, by its tests and by the grammar; and the digit that is shown for a value has that value.
-- Assumes nothing.
use Prim.Native.Nat.{ℕ, ◌+◌, ◌-◌, ◌≤◌, ◌<◌}
use mathlib.Core.Path.{◌≡◌, refl, ◌∙◌}
use mathlib.Core.Bool.{Bool, true, false}
use native.Mathlib.Omega.{arith}
use lib.Dec.{leb, ltb}
use borrow.Author.Tests.{le-leb, lt-leb, leb-true, lt-ltb, le-ltb, ltb-true, ltb-false}
use Rattle.digits.proofs.Values.{both}
use Rattle.hex_bytes.specs.Digits.{is_from_to, hex_value, lower_digit}
use Rattle.hex_bytes.specs.Grammar.{HexDigit, figure, small, capital}

-- ---- a byte from one to another
pub from-to-low : (first last b : ℕ) → b < first → is_from_to first last b ≡ false
from-to-low first last b h = rw (lt-leb first b h)

pub from-to-high : (first last b : ℕ) → first ≤ b → is_from_to first last b ≡ leb b last
from-to-high first last b h = rw (le-leb first b h)

pub from-to-bounds : (first last b : ℕ) → is_from_to first last b ≡ true → (first ≤ b) × (b ≤ last)
from-to-bounds first last b e =
    let t = both (leb first b) (leb b last) e in
    (leb-true first b t.0, leb-true b last t.1)

from-to-in : (first last b : ℕ) → first ≤ b → b ≤ last → is_from_to first last b ≡ true
from-to-in first last b h k = from-to-high first last b h ∙ le-leb b last k

from-to-past : (first last b : ℕ) → first ≤ b → last < b → is_from_to first last b ≡ false
from-to-past first last b h k = from-to-high first last b h ∙ lt-leb b last k

-- ---- by the tests, in the order of the code
module _ (b : ℕ) where
  pub value-figure : is_from_to 48 57 b ≡ true → hex_value b ≡ b - 48
  unfolding hex_value
  value-figure e = rw e

  pub value-small : is_from_to 48 57 b ≡ false → is_from_to 97 102 b ≡ true → hex_value b ≡ 10 + (b - 97)
  unfolding hex_value
  value-small e f = rw (e, f)

  pub value-capital : is_from_to 48 57 b ≡ false → is_from_to 97 102 b ≡ false → is_from_to 65 70 b ≡ true → hex_value b ≡ 10 + (b - 65)
  unfolding hex_value
  value-capital e f g = rw (e, f, g)

  pub value_none : is_from_to 48 57 b ≡ false → is_from_to 97 102 b ≡ false → is_from_to 65 70 b ≡ false → hex_value b ≡ 16
  unfolding hex_value
  value_none e f g = rw (e, f, g)

-- ---- by the grammar
-- a digit's value is what it is worth
pub digit_value : {b n : ℕ} → HexDigit b n → hex_value b ≡ n
digit_value (figure {n} h) = value-figure (48 + n) (from-to-in 48 57 (48 + n) (omega arith) (omega arith)) ∙ omega arith
digit_value (small {n} h) =
    value-small (97 + n) (from-to-past 48 57 (97 + n) (omega arith) (omega arith)) (from-to-in 97 102 (97 + n) (omega arith) (omega arith))
    ∙ omega arith
digit_value (capital {n} h) =
    value-capital (65 + n) (from-to-past 48 57 (65 + n) (omega arith) (omega arith)) (from-to-low 97 102 (65 + n) (omega arith))
    (from-to-in 65 70 (65 + n) (omega arith) (omega arith))
    ∙ omega arith

-- and is below 16
pub digit-below : {b n : ℕ} → HexDigit b n → n < 16
digit-below (figure h) = omega arith
digit-below (small h) = omega arith
digit-below (capital h) = omega arith

digit-by : (b n : ℕ) (x y z : Bool) → is_from_to 48 57 b ≡ x → is_from_to 97 102 b ≡ y → is_from_to 65 70 b ≡ z → hex_value b ≡ n → n < 16
    → HexDigit b n
digit-by b n true y z e f g v h =
    let k = from-to-bounds 48 57 b e in
    let p : 48 + n ≡ b = omega (arith, value-figure b e) in
    rw p at (figure {n = n} (omega (arith, value-figure b e)))
digit-by b n false true z e f g v h =
    let k = from-to-bounds 97 102 b f in
    let p : 97 + (n - 10) ≡ b = omega (arith, value-small b e f) in
    let q : 10 + (n - 10) ≡ n = omega (arith, value-small b e f) in
    rw (p, q) at (small {n = n - 10} (omega (arith, value-small b e f)))
digit-by b n false false true e f g v h =
    let k = from-to-bounds 65 70 b g in
    let p : 65 + (n - 10) ≡ b = omega (arith, value-capital b e f g) in
    let q : 10 + (n - 10) ≡ n = omega (arith, value-capital b e f g) in
    rw (p, q) at (capital {n = n - 10} (omega (arith, value-capital b e f g)))
digit-by b n false false false e f g v h = absurd (omega (arith, value_none b e f g))

-- and a byte whose value is below 16 is a digit of that value
pub value-digit : (b : ℕ) → hex_value b < 16 → HexDigit b (hex_value b)
value-digit b h = digit-by b (hex_value b) (is_from_to 48 57 b) (is_from_to 97 102 b) (is_from_to 65 70 b) refl refl refl refl h

-- ---- the digit that is shown
pub lower-figure : (n : ℕ) → n < 10 → lower_digit n ≡ 48 + n
unfolding lower_digit
lower-figure n h = rw (lt-ltb n 10 h)

pub lower-small : (n : ℕ) → 10 ≤ n → lower_digit n ≡ 97 + (n - 10)
unfolding lower_digit
lower-small n h = rw (le-ltb n 10 h)

lower_by : (n : ℕ) (t : Bool) → ltb n 10 ≡ t → n < 16 → HexDigit (lower_digit n) n
lower_by n true e h = let k = ltb-true n 10 e in rw (lower-figure n k) (figure k)
lower_by n false e h =
    let k = ltb-false n 10 e in
    let q : 10 + (n - 10) ≡ n = omega arith in
    rw (lower-small n k) (rw q at (small {n = n - 10} (omega arith)))

-- is a digit of that value
pub lower-digit : (n : ℕ) → n < 16 → HexDigit (lower_digit n) n
lower-digit n h = lower_by n (ltb n 10) refl h
