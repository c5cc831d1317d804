-- The loops of `fill` and `put_pairs`: each turn copies what stands next in the text that is wanted.
-- Assumes nothing.
use Prim.Native.Nat.{ℕ, ◌+◌, ◌*◌, ◌/◌, ◌%◌, ◌<◌}
use mathlib.Core.Path.{◌≡◌, sym, ◌∙◌}
use mathlib.Core.List.{List}
use native.Mathlib.Omega.{arith}
use lib.ListN.{length, set, get_or}
use Rattle.lent.proofs.Copying.{Copying, copying-turn}
use Rattle.hex_bytes.specs.Digits.{hex_value, lower_digit}
use Rattle.hex_bytes.specs.Hex.{pair_bytes, digit_pairs}
use Rattle.hex_bytes.proofs.Pairs.{pair-bytes-length, pair-bytes-each, digit-pairs-length, digit-pairs-high, digit-pairs-low}

-- a byte of two digits more
pub filling-turn : (text l₀ l : List ℕ) (i v h k : ℕ) → Copying (pair_bytes text) l₀ l i → i < length text / 2
    → h ≡ hex_value (get_or text (2 * i) 0) → k ≡ hex_value (get_or text (2 * i + 1) 0) → v ≡ 16 * h + k
    → Copying (pair_bytes text) l₀ (set l i v) (i + 1)
filling-turn text l₀ l i v h k s n p q e =
    let f : get_or (pair_bytes text) i 0 ≡ v = pair-bytes-each text i n ∙ sym (e ∙ rw (p, q)) in
    rw f at (copying-turn (pair_bytes text) l₀ l i s (omega (arith, pair-bytes-length text)))

-- the two digits of a byte more
pub putting-turn : (bytes l₀ l : List ℕ) (i v w : ℕ) → Copying (digit_pairs bytes) l₀ l (2 * i) → i < length bytes
    → v ≡ lower_digit (get_or bytes i 0 / 16) → w ≡ lower_digit (get_or bytes i 0 % 16)
    → Copying (digit_pairs bytes) l₀ (set (set l (2 * i) v) (2 * i + 1) w) (2 * (i + 1))
putting-turn bytes l₀ l i v w s n p q =
    let f : get_or (digit_pairs bytes) (2 * i) 0 ≡ v = digit-pairs-high bytes i n ∙ sym p in
    let g : get_or (digit_pairs bytes) (2 * i + 1) 0 ≡ w = digit-pairs-low bytes i n ∙ sym q in
    let long = digit-pairs-length bytes in
    let one = rw f at (copying-turn (digit_pairs bytes) l₀ l (2 * i) s (omega arith)) in
    let two = rw g at (copying-turn (digit_pairs bytes) l₀ (set l (2 * i) v) (2 * i + 1) one (omega arith)) in
    let e : 2 * (i + 1) ≡ 2 * i + 1 + 1 = omega arith in
    rw e two
