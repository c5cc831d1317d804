-- The steps through a list of any length, by its first step and the rest: where they end, how far from the start, and in which order.
-- Assumes nothing.
use mathlib.Core.Path.{◌≡◌, refl, subst}
use mathlib.Core.Bool.{Bool, true, false, not, ◌||◌, and-eq-true_iff}
use mathlib.Core.List.{List, [], ◌∷◌, ◌++◌}
use Prim.Native.Nat.{ℕ, ◌*◌, ◌≤◌}
use native.Mathlib.Omega.{arith}
use lib.Dec.{T}
use lib.IntN.{nat_abs, ◌-ℤ◌}
use lib.Signed.{◌≤ℤ◌}
use Rattle.laws.specs.Every.{every}
use Rattle.numbers.specs.OrderLaws.{mul-le}
use Rattle.numbers.specs.DistanceLaws.{far-self, triangle}
use Rattle.numbers.specs.NearestSignedLaws.{half_step, monotone}
use Rattle.answers.specs.Refusals.{is_count}
use Rattle.rates.specs.Rates.{is_rate, frame_ticks}
use Rattle.rates.proofs.Sound.{frame_ticks-pos}
use Rattle.timecodes.specs.declared.Timecode.{Timecode}
use Rattle.timecodes.specs.declared.kinds.Kind.TheVariants.{Length}
use Rattle.timecodes.specs.Admitted.{Valid}
use Rattle.timecodes.specs.Instant.{instant}
use Rattle.chains.specs.Chain.{nearest_frame, after, end_of, leaves, last_rate, ticks_together}
use Rattle.chains.specs.ChainLaws.{after-valid}

-- of a list of rates, the first and the others
pub rates-split : (next : ℕ) (list : List ℕ) → every is_rate (next ∷ list) ≡ true → (is_rate next ≡ true) × (every is_rate list ≡ true)
rates-split next list l = (and-eq-true_iff (is_rate next) (every is_rate list)).0 l

-- of steps that stay within the bounds, the first and the others
pub leaves-split : (tc : Timecode) (next : ℕ) (list : List ℕ) → leaves tc (next ∷ list) ≡ false
    → (is_count (nearest_frame tc next) ≡ true) × (leaves (after tc next) list ≡ false)
leaves-split tc next list h = by (is_count (nearest_frame tc next)) refl h
  where
    by : (t : Bool) → is_count (nearest_frame tc next) ≡ t → (not t || leaves (after tc next) list) ≡ false
        → (is_count (nearest_frame tc next) ≡ true) × (leaves (after tc next) list ≡ false)
    by true e h = (e, h)
    by false e h = let z : true ≡ false = h in absurd (subst T z tt)

-- where the steps end, there is a rate and a count within its bounds
pub end_of-valid : (tc : Timecode) (list : List ℕ) → Valid tc → tc.kind ≡ Length → every is_rate list ≡ true → leaves tc list ≡ false
    → Valid (end_of tc list)
end_of-valid tc [] v e l s = v
end_of-valid tc (next ∷ list) v e l s =
    let r = rates-split next list l in
    let k = leaves-split tc next list s in
    end_of-valid (after tc next) list (after-valid tc next e r.0 k.0) e r.1 k.1

-- of the start's kind
pub end_of-kind : (tc : Timecode) (list : List ℕ) → (end_of tc list).kind ≡ tc.kind
end_of-kind tc [] = refl
end_of-kind tc (next ∷ list) = end_of-kind (after tc next) list

-- through two lists, one after the other
pub end_of-append : (tc : Timecode) (list more : List ℕ) → end_of tc (list ++ more) ≡ end_of (end_of tc list) more
end_of-append tc [] more = refl
end_of-append tc (next ∷ list) more = end_of-append (after tc next) list more

pub leaves-append : (tc : Timecode) (list more : List ℕ) → leaves tc list ≡ false → leaves tc (list ++ more) ≡ leaves (end_of tc list) more
leaves-append tc [] more s = refl
leaves-append tc (next ∷ list) more s =
    let k = leaves-split tc next list s in
    rw k.0 (leaves-append (after tc next) list more k.1)

-- the rate is the last one
pub end_of-rate : (tc : Timecode) (list : List ℕ) → (end_of tc list).rate ≡ last_rate tc.rate list
end_of-rate tc [] = refl
end_of-rate tc (next ∷ list) = end_of-rate (after tc next) list

-- how far: half a frame at each step, and the way by each end is no shorter
pub end_of-within : (tc : Timecode) (list : List ℕ) → every is_rate list ≡ true
    → 2 * nat_abs (instant (end_of tc list) -ℤ instant tc) ≤ ticks_together list
unfolding instant
end_of-within tc [] l = omega (arith, far-self (instant tc))
end_of-within tc (next ∷ list) l =
    let there = after tc next in
    let step = half_step (instant tc) (frame_ticks next) (frame_ticks-pos next (rates-split next list l).0) in
    let rest = end_of-within there list (rates-split next list l).1 in
    omega (arith, triangle (instant (end_of there list)) (instant there) (instant tc))

-- in which order: the nearest keeps it
pub end_of-ordered : (tc tc' : Timecode) (list : List ℕ) → every is_rate list ≡ true
    → instant tc ≤ℤ instant tc' → instant (end_of tc list) ≤ℤ instant (end_of tc' list)
unfolding instant
end_of-ordered tc tc' [] l h = h
end_of-ordered tc tc' (next ∷ list) l h =
    let s = rates-split next list l in
    let kept = monotone (instant tc) (instant tc') (frame_ticks next) (frame_ticks-pos next s.0) h in
    end_of-ordered (after tc next) (after tc' next) list s.1 (mul-le (nearest_frame tc next) (nearest_frame tc' next) (frame_ticks next) kept)
