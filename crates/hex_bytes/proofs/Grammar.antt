-- HEX by the grammar: what it has is taken so, and what is taken it has.
-- Assumes nothing.
use Prim.Native.Nat.{ℕ, zero, suc, ◌+◌, ◌*◌, ◌/◌, ◌%◌, ◌<◌}
use mathlib.Core.Path.{◌≡◌, refl, ◌∙◌}
use mathlib.Core.List.{List, [], ◌∷◌}
use mathlib.Core.Bool.{true}
use native.Mathlib.Omega.{arith}
use lib.ListN.{length, get_or}
use lib.Dec.{eqb}
use borrow.Author.Tests.{eqb-true}
use Rattle.digits.proofs.Values.{both}
use Rattle.hex_bytes.specs.Digits.{all_hex_digits}
use Rattle.hex_bytes.specs.Hex.{is_hex, pair_bytes, bytes_of_hex, digit_pairs, hex_text}
use Rattle.hex_bytes.specs.Grammar.{Pairs, none, pair, Hex, dash, some}
use Rattle.hex_bytes.proofs.Digits.{digit_value, digit-below, value-digit, lower-digit}
use Rattle.hex_bytes.proofs.Pairs.{all-hex-cons, all-hex-head, all-hex-tail}
use Rattle.hex_bytes.proofs.Taking.{hex-even, bytes-taken}

-- ---- what the grammar has
-- pairs are digits, an even number of them, and worth their bytes
pub record Paired (text bytes : List ℕ) : Type 0 where
  pub digits : all_hex_digits text ≡ true
  pub even : length text % 2 ≡ 0
  pub worth : pair_bytes text ≡ bytes

pub pairs-paired : {text bytes : List ℕ} → Pairs text bytes → Paired text bytes
unfolding all_hex_digits pair_bytes
pairs-paired none = record { digits = refl; even = refl; worth = refl }
pairs-paired (pair {b} {c} {m} {n} {text} {bytes} p q r) =
    let s = pairs-paired r in
    let v = digit_value p in
    let w = digit_value q in
    record {
      digits =
          all-hex-cons b (c ∷ text) (omega (arith, digit-below p)) (all-hex-cons c text (omega (arith, digit-below q)) s.digits);
      even = omega (arith, s.even);
      worth = rw (v, w, s.worth);
    }

hex-some : (b : ℕ) (text bytes : List ℕ) → Paired (b ∷ text) bytes → is_hex (b ∷ text) ≡ true
hex-some b [] bytes s = absurd (omega (arith, s.even))
hex-some b (c ∷ text) bytes s = hex-even (b ∷ c ∷ text) (omega arith) s.even ∙ s.digits

pub hex-taken : (text bytes : List ℕ) → Hex text bytes → (is_hex text ≡ true) × (bytes_of_hex text ≡ bytes)
unfolding is_hex bytes_of_hex pair_bytes
hex-taken _ _ dash = (refl, refl)
hex-taken _ _ (some {b} {text} {bytes} p) =
    let s = pairs-paired p in
    let e = hex-some b text bytes s in
    (e, bytes-taken (b ∷ text) e ∙ s.worth)

-- ---- what is taken
pairs-found : (text : List ℕ) → all_hex_digits text ≡ true → length text % 2 ≡ 0 → Pairs text (pair_bytes text)
unfolding pair_bytes
pairs-found [] e h = none
pairs-found (b ∷ []) e h = absurd (omega arith)
pairs-found (b ∷ c ∷ text) e h =
    let t = all-hex-tail b (c ∷ text) e in
    pair (value-digit b (all-hex-head b (c ∷ text) e)) (value-digit c (all-hex-head c text t)) (pairs-found text (all-hex-tail c text t) (omega arith))

hex-pairs : (text : List ℕ) → is_hex text ≡ true → Hex text (pair_bytes text)
unfolding is_hex pair_bytes
hex-pairs [] e = let z : ◌≡◌ {A = ℕ} 0 1 = cc in absurd (omega arith)
hex-pairs (b ∷ []) e = rw (eqb-true b 45 e) dash
hex-pairs (b ∷ c ∷ text) e =
    let t = both (eqb (length text % 2) 0) (all_hex_digits (b ∷ c ∷ text)) e in
    some (pairs-found (b ∷ c ∷ text) t.1 (omega (arith, eqb-true (length text % 2) 0 t.0)))

pub hex-found : (text : List ℕ) → is_hex text ≡ true → Hex text (bytes_of_hex text)
hex-found text e = rw (bytes-taken text e) (hex-pairs text e)

-- ---- bytes, and what is shown of them
-- those of the grammar are below 256
pairs_below : {text bytes : List ℕ} → Pairs text bytes → (i : ℕ) → get_or bytes i 0 < 256
pairs_below none zero = omega arith
pairs_below none (suc i) = omega arith
pairs_below (pair p q r) zero = omega (arith, digit-below p, digit-below q)
pairs_below (pair p q r) (suc i) = pairs_below r i

pub hex-below : {text bytes : List ℕ} → Hex text bytes → (i : ℕ) → get_or bytes i 0 < 256
hex-below dash i = pairs_below none i
hex-below (some p) i = pairs_below p i

-- bytes below 256 are those of the HEX that is shown
shown-pairs : (bytes : List ℕ) → ((i : ℕ) → get_or bytes i 0 < 256) → Pairs (digit_pairs bytes) bytes
unfolding digit_pairs
shown-pairs [] h = none
shown-pairs (b ∷ bytes) h =
    let k : b < 256 = h 0 in
    let e : 16 * (b / 16) + b % 16 ≡ b = omega arith in
    rw e at (pair (lower-digit (b / 16) (omega arith)) (lower-digit (b % 16) (omega arith)) (shown-pairs bytes (λ i. h (suc i))))

pub hex-shown : (bytes : List ℕ) → ((i : ℕ) → get_or bytes i 0 < 256) → Hex (hex_text bytes) bytes
unfolding hex_text digit_pairs
hex-shown [] h = dash
hex-shown (b ∷ bytes) h = some (shown-pairs (b ∷ bytes) h)
