-- What bytes are worth, and numbers through their bytes and back.
-- Assumes nothing.
use Rattle.std.specs.Prelude.{ℕ, zero, suc, ◌+◌, ◌*◌, ◌/◌, ◌%◌, ◌^◌, ◌≤◌, ◌<◌, ◌≡◌, List, [], ◌∷◌, length}
use Rattle.std.proofs.Math.Path.{refl, ap}
use Rattle.std.proofs.Common.{ap₂, ◌∙◌, arith, pow-suc}
use Rattle.std.proofs.Math.Nat.{pow-le-pow_right}
use Rattle.low_bytes.specs.LowBytes.{Bytes, worth, low_bytes}
use Rattle.low_bytes.specs.Laws.{bytes-tail}

pub worth-below : (l : List ℕ) → Bytes l → worth l < 256 ^ length l
unfolding worth
worth-below [] h = omega arith
worth-below (b ∷ l) h =
    let later = worth-below l (bytes-tail b l h) in
    let first : b < 256 = h 0 in
    omega (arith, pow-suc 256 (length l))

-- eight bytes fit a word of the machine
pub worth-fits : (l : List ℕ) → Bytes l → length l ≤ 8 → worth l < 18446744073709551616
worth-fits l h k =
    let most : 256 ^ length l ≤ 18446744073709551616 = pow-le-pow_right {n = 256} (omega arith) k in
    omega (arith, worth-below l h)

pub worth-low : (w n : ℕ) → n < 256 ^ w → worth (low_bytes w n) ≡ n
unfolding worth low_bytes
worth-low zero n h = omega arith
worth-low (suc w) n h =
    let later = worth-low w (n / 256) (omega (arith, pow-suc 256 w)) in
    omega arith

pub low-worth : (l : List ℕ) → Bytes l → low_bytes (length l) (worth l) ≡ l
unfolding worth low_bytes
low-worth [] h = refl
low-worth (b ∷ l) h =
    let first : b < 256 = h 0 in
    let low : (b + 256 * worth l) % 256 ≡ b = omega arith in
    let high : (b + 256 * worth l) / 256 ≡ worth l = omega arith in
    ap₂ ◌∷◌ low (ap (low_bytes (length l)) high ∙ low-worth l (bytes-tail b l h))
