-- Whether every byte of a text is a digit, told from each of its bytes.
-- Assumes nothing.
use Rattle.std.specs.Prelude.{◌↔◌, IsTrue, EachIndex}
use Prim.Native.Nat.{ℕ, suc, ◌<◌}
use mathlib.Core.Path.{◌≡◌, refl, sym}
use mathlib.Core.List.{List, [], ◌∷◌}
use mathlib.Core.Bool.{Bool, true, false}
use native.Mathlib.Omega.{arith}
use lib.ListN.{length, get_or}
use Rattle.hex_bytes.specs.Digits.{hex_value, all_hex_digits}
use Rattle.hex_bytes.proofs.Pairs.{all-hex-cons, all-hex-each}

-- each is one, so all are
all-from-each : (l : List ℕ) → ((k : ℕ) → k < length l → hex_value (get_or l k 0) < 16) → all_hex_digits l ≡ true
unfolding all_hex_digits
all-from-each [] f = refl
all-from-each (b ∷ l) f = all-hex-cons b l (f 0 (omega arith)) (all-from-each l (λ k h. f (suc k) (omega arith)))

pub all-hex-told : (l : List ℕ) (t : Bool) → IsTrue t ↔ EachIndex l (λ k. hex_value (get_or l k 0) < 16) → t ≡ all_hex_digits l
all-hex-told l true e = sym (all-from-each l (e.0 refl))
all-hex-told l false e = by (all_hex_digits l) refl
  where
    by : (x : Bool) → all_hex_digits l ≡ x → false ≡ x
    by true p = e.1 (λ k h. all-hex-each l k p h)
    by false p = refl
