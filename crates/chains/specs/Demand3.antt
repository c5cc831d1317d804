-- Demand 3, a frame's instant carried through any list of rates (BEHAVIOUR: Chains): the statements, in order. Proofs: proofs/Demand3.antt.
-- Assumes nothing.
use Rattle.std.specs.Prelude.{◌≡◌, ◌↔◌, true, List, [], ◌∷◌, ◌++◌, ℕ, ◌*◌, ◌≤◌, pos, nat_abs, ◌-ℤ◌, ◌≤ℤ◌, Ok}
use Rattle.numbers.specs.Nearest.{Nearest}
use Rattle.laws.specs.Every.{every}
use Rattle.rates.specs.Rates.{is_rate, frame_ticks}
use Rattle.timecodes.specs.declared.Timecode.{Timecode}
use Rattle.timecodes.specs.declared.kinds.Kind.TheVariants.{Length, Position}
use Rattle.timecodes.specs.Timecode.{timecode, number_of}
use Rattle.timecodes.specs.Admitted.{Valid}
use Rattle.timecodes.specs.Instant.{instant}
use Rattle.chains.specs.Chain.{convert_of, last_rate, ticks_together}

-- ---- what a conversion is

-- an empty list of rates gives back the start, which is a length
abbrev pub EmptyList : Type 0
EmptyList = (tc : Timecode) → Valid tc → tc.kind ≡ Length → convert_of tc [] ≡ Ok tc

-- through one rate, the end is the nearest frame of that rate, halves away from zero
abbrev pub StepIsNearest : Type 0
StepIsNearest = (tc end : Timecode) (next : ℕ) → convert_of tc (next ∷ []) ≡ Ok end → Nearest (instant tc) (frame_ticks next) end.count

-- through two lists, one after the other, the second starts where the first ended: each listed rate has its turn
abbrev pub InTurn : Type 0
InTurn = (tc middle : Timecode) (list more : List ℕ) → convert_of tc list ≡ Ok middle → convert_of tc (list ++ more) ≡ convert_of middle more

-- the end's rate is the last listed one, and with none listed the start's
abbrev pub ConvertedAt : Type 0
ConvertedAt = (tc end : Timecode) (list : List ℕ) → convert_of tc list ≡ Ok end → end.rate ≡ last_rate tc.rate list

-- 1 at rate 12 carried through rates 2, 12 ends at 0: the last rate alone does not decide
abbrev pub EachTime : Type 0
EachTime = convert_of (timecode (pos 1) 12) (2 ∷ 12 ∷ []) ≡ Ok (timecode (pos 0) 12)

-- ---- how far, and in which order

-- the end lies from the start by at most half the sum of the listed rates' frame lengths, repeats counted
abbrev pub ChainWithin : Type 0
ChainWithin =
    (tc end : Timecode) (list : List ℕ) → convert_of tc list ≡ Ok end
    → 2 * nat_abs (instant end -ℤ instant tc) ≤ ticks_together list

-- two starting frames, of any two rates, never pass each other on their way through one list
abbrev pub ChainOrdered : Type 0
ChainOrdered =
    (tc tc' end end' : Timecode) (list : List ℕ) → convert_of tc list ≡ Ok end → convert_of tc' list ≡ Ok end'
    → instant tc ≤ℤ instant tc' → instant end ≤ℤ instant end'

-- and of two frames of one rate the counts keep their order
abbrev pub CountsOrdered : Type 0
CountsOrdered =
    (tc tc' end end' : Timecode) (list : List ℕ) → convert_of tc list ≡ Ok end → convert_of tc' list ≡ Ok end'
    → tc.rate ≡ tc'.rate → tc.count ≤ℤ tc'.count → end.count ≤ℤ end'.count

-- ---- out and back

-- through a rate whose frame is no longer than one's own, out and back returns the very frame
abbrev pub OutAndBack : Type 0
OutAndBack =
    (tc out : Timecode) (next : ℕ) → frame_ticks next ≤ frame_ticks tc.rate → convert_of tc (next ∷ []) ≡ Ok out
    → convert_of tc (next ∷ tc.rate ∷ []) ≡ Ok tc

-- through any one rate, a second trip out and back moves nothing further
abbrev pub SecondTrip : Type 0
SecondTrip =
    (tc back : Timecode) (next : ℕ) → convert_of tc (next ∷ tc.rate ∷ []) ≡ Ok back
    → convert_of back (next ∷ tc.rate ∷ []) ≡ Ok back

-- ---- lengths only

-- a conversion is refused 15 exactly when all listed numbers are rates and it is of a position at a rate; with an empty list too
abbrev pub PositionRefused : Type 0
PositionRefused =
    (tc : Timecode) (list : List ℕ)
    → (number_of (convert_of tc list) ≡ 15) ↔ ((every is_rate list ≡ true) × ((is_rate tc.rate ≡ true) × (tc.kind ≡ Position)))

-- what a conversion ends at is a length
abbrev pub LengthStays : Type 0
LengthStays = (tc end : Timecode) (list : List ℕ) → convert_of tc list ≡ Ok end → end.kind ≡ Length
