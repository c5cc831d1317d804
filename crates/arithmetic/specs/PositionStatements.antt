-- What holds of arithmetic with positions (BEHAVIOUR: Positions, Arithmetic): kinds, refusal 15, and the day. Proofs: proofs/Positions.antt.
-- Assumes nothing.
use Rattle.std.specs.Prelude.{ℕ, ◌-◌, ◌<◌, ◌≡◌, ◌↔◌, true, ℤ, pos, neg_ℤ, nat_abs, ◌+ℤ◌, ◌-ℤ◌, Some, Ok}
use Rattle.numbers.specs.Nearest.{Nearest}
use Rattle.answers.specs.Refusals.{held}
use Rattle.rates.specs.Rates.{is_rate, frame_ticks}
use Rattle.rates.specs.Day.{day_frames}
use Rattle.timecodes.specs.declared.Timecode.{Timecode}
use Rattle.timecodes.specs.declared.kinds.Kind.{Kind}
use Rattle.timecodes.specs.declared.kinds.Kind.TheVariants.{Length, Position}
use Rattle.timecodes.specs.declared.kinds.Joining.TheVariants.{Sum, Difference}
use Rattle.timecodes.specs.Kinds.{mixed_kinds}
use Rattle.timecodes.specs.Timecode.{timecode, position, placed, number_of}
use Rattle.timecodes.specs.Made.{OfDay, settled}
use Rattle.timecodes.specs.Admitted.{Valid}
use Rattle.timecodes.specs.Instant.{instant}
use Rattle.arithmetic.specs.Sum.{add_of, sub_of}
use Rattle.arithmetic.specs.Product.{mul_of}
use Rattle.arithmetic.specs.Truncating.{div_of, rem_of}
use Rattle.arithmetic.specs.Flooring.{divq_of}
use Rattle.arithmetic.specs.Remainder.{remq_of}
use Rattle.arithmetic.specs.Compare.{compare_of}
use Rattle.arithmetic.specs.Compare as compare
use Rattle.arithmetic.specs.Count.{neg_of, abs_of, rebase_of}

-- ---- what two come to

-- a sum is a length exactly when both are lengths: a position with a length, either way round, is a position
abbrev pub SumKind : Type 0
SumKind = (a b end : Timecode) → add_of a b ≡ Ok end → (end.kind ≡ Length) ↔ ((a.kind ≡ Length) × (b.kind ≡ Length))

-- a difference is a length exactly when both are of one kind: position minus position is a length, position minus length a position
abbrev pub DifferenceKind : Type 0
DifferenceKind = (a b end : Timecode) → sub_of a b ≡ Ok end → (end.kind ≡ Length) ↔ (a.kind ≡ b.kind)

-- a sum that is a position is the frame nearest to the exact instant, reduced by whole days: rounded first, then reduced
abbrev pub SumInDay : Type 0
SumInDay =
    (a b end : Timecode) → add_of a b ≡ Ok end → end.kind ≡ Position → (z : ℤ) → Nearest (instant a +ℤ instant b) (frame_ticks a.rate) z
    → (end.rate ≡ a.rate) × OfDay a.rate z end.count

-- and a difference that is a position likewise
abbrev pub DifferenceInDay : Type 0
DifferenceInDay =
    (a b end : Timecode) → sub_of a b ≡ Ok end → end.kind ≡ Position → (z : ℤ) → Nearest (instant a -ℤ instant b) (frame_ticks a.rate) z
    → (end.rate ≡ a.rate) × OfDay a.rate z end.count

-- at one rate a sum of any kind is that of the counts, held to a length's bounds and then made of its kind
abbrev pub SumExactAs : Type 0
SumExactAs =
    (a b : Timecode) → Valid a → Valid b → a.rate ≡ b.rate → (kind : Kind) → mixed_kinds Sum a.kind b.kind ≡ Some kind
    → add_of a b ≡ settled kind (placed a.rate (held (a.count +ℤ b.count)))

-- and a difference of any kind likewise
abbrev pub DifferenceExactAs : Type 0
DifferenceExactAs =
    (a b : Timecode) → Valid a → Valid b → a.rate ≡ b.rate → (kind : Kind) → mixed_kinds Difference a.kind b.kind ≡ Some kind
    → sub_of a b ≡ settled kind (placed a.rate (held (a.count -ℤ b.count)))

-- two timecodes that are added are within their bounds, both of them
abbrev pub SumTakes : Type 0
SumTakes = (a b end : Timecode) → add_of a b ≡ Ok end → Valid a × Valid b

-- so are two whose difference is taken
abbrev pub DifferenceTakes : Type 0
DifferenceTakes = (a b end : Timecode) → sub_of a b ≡ Ok end → Valid a × Valid b

-- and two that are compared
abbrev pub CompareTakes : Type 0
CompareTakes = (a b : Timecode) (o : ℤ) → compare_of a b ≡ Ok o → Valid a × Valid b

-- ---- refusal 15, behind 6

-- both rates are ones: 6 comes before 15
abbrev pub BothRates : (a b : Timecode) → Type 0
BothRates a b = (is_rate a.rate ≡ true) × (is_rate b.rate ≡ true)

-- a sum is refused 15 exactly when both rates are ones and both are positions
abbrev pub SumRefused : Type 0
SumRefused = (a b : Timecode) → (number_of (add_of a b) ≡ 15) ↔ (BothRates a b × ((a.kind ≡ Position) × (b.kind ≡ Position)))

-- a difference is refused 15 exactly when both rates are ones and a position is taken from a length
abbrev pub DifferenceRefused : Type 0
DifferenceRefused = (a b : Timecode) → (number_of (sub_of a b) ≡ 15) ↔ (BothRates a b × ((a.kind ≡ Length) × (b.kind ≡ Position)))

-- a comparison is refused 15 exactly when both rates are ones and the two are not of one kind
abbrev pub CompareRefused : Type 0
CompareRefused = (a b : Timecode) → (compare.number_of (compare_of a b) ≡ 15) ↔ (BothRates a b × (¬ (a.kind ≡ b.kind)))

-- a position at a rate
abbrev pub PositionAtRate : Timecode → Type 0
PositionAtRate tc = (is_rate tc.rate ≡ true) × (tc.kind ≡ Position)

-- each operation that is for lengths only refuses 15 exactly a position at a rate; `rebase` exactly one that is to go to a rate
pub record LengthsOnly : Type 0 where
  pub product : (tc : Timecode) (p : ℤ) (q : ℕ) → (number_of (mul_of tc p q) ≡ 15) ↔ PositionAtRate tc
  pub quotient : (tc : Timecode) (n : ℤ) → (number_of (div_of tc n) ≡ 15) ↔ PositionAtRate tc
  pub remainder : (tc : Timecode) (n : ℤ) → (number_of (rem_of tc n) ≡ 15) ↔ PositionAtRate tc
  pub quotient_by : (tc : Timecode) (p : ℤ) (q : ℕ) → (number_of (divq_of tc p q) ≡ 15) ↔ PositionAtRate tc
  pub remainder_by : (tc : Timecode) (p : ℤ) (q : ℕ) → (number_of (remq_of tc p q) ≡ 15) ↔ PositionAtRate tc
  pub negated : (tc : Timecode) → (number_of (neg_of tc) ≡ 15) ↔ PositionAtRate tc
  pub absolute : (tc : Timecode) → (number_of (abs_of tc) ≡ 15) ↔ PositionAtRate tc
  pub rebased : (tc : Timecode) (rate : ℕ) → (number_of (rebase_of tc rate) ≡ 15) ↔ ((is_rate rate ≡ true) × PositionAtRate tc)

-- what is answered is of a length within its bounds, and is the length with this count at this rate
pub record LengthTo (tc end : Timecode) (count : ℤ) (rate : ℕ) : Type 0 where
  pub taken : Valid tc
  pub length : tc.kind ≡ Length
  pub is : end ≡ timecode count rate

-- each of them answers a length: at its own rate, `rebase` at the other; negation, absolute value and `rebase` with the count that they name
pub record LengthsAnswered : Type 0 where
  pub product : (tc end : Timecode) (p : ℤ) (q : ℕ) → mul_of tc p q ≡ Ok end → LengthTo tc end end.count tc.rate
  pub quotient : (tc end : Timecode) (n : ℤ) → div_of tc n ≡ Ok end → LengthTo tc end end.count tc.rate
  pub remainder : (tc end : Timecode) (n : ℤ) → rem_of tc n ≡ Ok end → LengthTo tc end end.count tc.rate
  pub quotient_by : (tc end : Timecode) (p : ℤ) (q : ℕ) → divq_of tc p q ≡ Ok end → LengthTo tc end end.count tc.rate
  pub remainder_by : (tc end : Timecode) (p : ℤ) (q : ℕ) → remq_of tc p q ≡ Ok end → LengthTo tc end end.count tc.rate
  pub negated : (tc end : Timecode) → neg_of tc ≡ Ok end → LengthTo tc end (neg_ℤ tc.count) tc.rate
  pub absolute : (tc end : Timecode) → abs_of tc ≡ Ok end → LengthTo tc end (pos (nat_abs tc.count)) tc.rate
  pub rebased : (tc end : Timecode) (rate : ℕ) → rebase_of tc rate ≡ Ok end → LengthTo tc end tc.count rate

-- ---- the day, at every rate

-- one frame over midnight: the day's last frame plus 1 is frame 0, either way round, and frame 0 minus 1 is the day's last
pub record Midnight : Type 0 where
  pub forth :
      (rate : ℕ) → is_rate rate ≡ true
      → add_of (position (pos (day_frames rate - 1)) rate) (timecode (pos 1) rate) ≡ Ok (position (pos 0) rate)
  pub back :
      (rate : ℕ) → is_rate rate ≡ true
      → sub_of (position (pos 0) rate) (timecode (pos 1) rate) ≡ Ok (position (pos (day_frames rate - 1)) rate)
  pub turned :
      (rate : ℕ) → is_rate rate ≡ true
      → add_of (timecode (pos 1) rate) (position (pos (day_frames rate - 1)) rate) ≡ Ok (position (pos 0) rate)

-- at one rate q plus (p minus q) is p, and p minus q is not the short way round
abbrev pub ThereAgain : Type 0
ThereAgain =
    (rate p q : ℕ) → is_rate rate ≡ true → p < day_frames rate → q < day_frames rate
    → (sub_of (position (pos p) rate) (position (pos q) rate) ≡ Ok (timecode (pos p -ℤ pos q) rate))
    × (add_of (position (pos q) rate) (timecode (pos p -ℤ pos q) rate) ≡ Ok (position (pos p) rate))
