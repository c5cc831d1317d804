-- What holds of arithmetic beyond one call (BEHAVIOUR: Arithmetic): each answer is what it is meant to be. With positions: PositionStatements.antt.
-- Assumes nothing.
use Rattle.std.specs.Prelude.{ℕ, ◌≡◌, ◌↔◌, ℤ, pos, negsuc, ◌+ℤ◌, ◌-ℤ◌, ◌*ℤ◌, ◌<ℤ◌, Ok}
use Rattle.std.specs.Int.Signed.{rem_z}
use Rattle.numbers.specs.Nearest.{Nearest}
use Rattle.numbers.specs.Truncate.{Truncated}
use Rattle.numbers.specs.Floor.{Floor}
use Rattle.answers.specs.Refusals.{held}
use Rattle.rates.specs.Rates.{frame_ticks}
use Rattle.timecodes.specs.declared.Timecode.{Timecode}
use Rattle.timecodes.specs.declared.kinds.Kind.TheVariants.{Length}
use Rattle.timecodes.specs.Timecode.{moved_to}
use Rattle.timecodes.specs.Admitted.{Valid}
use Rattle.timecodes.specs.Instant.{instant}
use Rattle.arithmetic.specs.Sum.{add_of, sub_of}
use Rattle.arithmetic.specs.Product.{mul_of}
use Rattle.arithmetic.specs.Truncating.{div_of, rem_of}
use Rattle.arithmetic.specs.Flooring.{divq_of}
use Rattle.arithmetic.specs.Remainder.{remq_of}
use Rattle.arithmetic.specs.Compare.{compare_of}

-- ---- sums and products

-- a sum of two timecodes that is a length is the frame of the left one's rate that is nearest to the exact instant
abbrev pub SumNearest : Type 0
SumNearest =
    (a b end : Timecode) → add_of a b ≡ Ok end → end.kind ≡ Length
    → (end.rate ≡ a.rate) × Nearest (instant a +ℤ instant b) (frame_ticks a.rate) end.count

-- and a difference that is a length likewise, that of two positions too: it is not reduced
abbrev pub DifferenceNearest : Type 0
DifferenceNearest =
    (a b end : Timecode) → sub_of a b ≡ Ok end → end.kind ≡ Length
    → (end.rate ≡ a.rate) × Nearest (instant a -ℤ instant b) (frame_ticks a.rate) end.count

-- at one rate a sum of two lengths is that of the counts
abbrev pub SumExact : Type 0
SumExact =
    (a b : Timecode) → Valid a → Valid b → a.rate ≡ b.rate → a.kind ≡ Length → b.kind ≡ Length
    → add_of a b ≡ moved_to a a.rate (held (a.count +ℤ b.count))

-- and a difference of two lengths that of the counts
abbrev pub DifferenceExact : Type 0
DifferenceExact =
    (a b : Timecode) → Valid a → Valid b → a.rate ≡ b.rate → a.kind ≡ Length → b.kind ≡ Length
    → sub_of a b ≡ moved_to a a.rate (held (a.count -ℤ b.count))

-- a product with p/q is the count nearest to the exact one
abbrev pub ProductNearest : Type 0
ProductNearest = (tc end : Timecode) (p : ℤ) (q : ℕ) → mul_of tc p q ≡ Ok end → Nearest (tc.count *ℤ p) q end.count

-- ---- divisions

-- integer division truncates: quotient times n plus remainder is the count, and the remainder is smaller than n and has the count's sign
abbrev pub QuotientRemainder : Type 0
QuotientRemainder =
    (tc quotient rest : Timecode) (n : ℤ) → div_of tc n ≡ Ok quotient → rem_of tc n ≡ Ok rest
    → Truncated tc.count n quotient.count rest.count

-- division by p/q floors: the answer is the largest count that is not above the exact quotient
abbrev pub QuotientFloor : Type 0
QuotientFloor = (tc end : Timecode) (p : ℤ) (q : ℕ) → divq_of tc p q ≡ Ok end → Floor (tc.count *ℤ pos q) p end.count

-- its remainder is the count nearest to (f x q rem p)/q
abbrev pub RemainderNearest : Type 0
RemainderNearest =
    (tc end : Timecode) (p : ℤ) (q : ℕ) → remq_of tc p q ≡ Ok end → Nearest (rem_z (tc.count *ℤ pos q) p) q end.count

-- ---- comparison

-- o is -1, 0 or 1 exactly as x is below, at or above y
pub record Ordered (x y o : ℤ) : Type 0 where
  pub below : (o ≡ negsuc 0) ↔ (x <ℤ y)
  pub same : (o ≡ pos 0) ↔ (x ≡ y)
  pub above : (o ≡ pos 1) ↔ (y <ℤ x)

-- the order answered is that of the instants
abbrev pub CompareIsOrder : Type 0
CompareIsOrder = (a b : Timecode) (o : ℤ) → compare_of a b ≡ Ok o → Ordered (instant a) (instant b) o
