-- What holds of numbers as bytes, over every width (BEHAVIOUR: Shot lists): a number has its bytes, and no others. Proofs: proofs/Statements.antt.
-- Assumes nothing.
use Rattle.std.specs.Prelude.{ℕ, ◌^◌, ◌<◌, ◌≡◌, List, ℤ}
use Rattle.low_bytes.specs.LowBytes.{Unsigned, Signed, Within, low_bytes, signed_bytes}

-- a number below 256 ^ w has w bytes, and those that are written are they
abbrev pub UnsignedIs : Type 0
UnsignedIs = (w n : ℕ) → n < 256 ^ w → Unsigned w n (low_bytes w n)

-- and it has no others; what w bytes are worth is below 256 ^ w
abbrev pub UnsignedOne : Type 0
UnsignedOne = (w n : ℕ) (l : List ℕ) → Unsigned w n l → (l ≡ low_bytes w n) × (n < 256 ^ w)

-- a signed number that w bytes hold has them, and those that are written are they
abbrev pub SignedIs : Type 0
SignedIs = (w : ℕ) (z : ℤ) → Within w z → Signed w z (signed_bytes w z)

-- and it has no others; what w bytes stand for is within them
abbrev pub SignedOne : Type 0
SignedOne = (w : ℕ) (z : ℤ) (l : List ℕ) → Signed w z l → (l ≡ signed_bytes w z) × Within w z
