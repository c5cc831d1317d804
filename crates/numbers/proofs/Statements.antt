-- The statements of specs/Statements.antt, proved: on magnitudes, and carried to the other side of zero.
-- Assumes nothing.
use mathlib.Core.Path.{◌≡◌, sym, ◌∙◌, ap}
use Prim.Native.Nat.{ℕ, suc, ◌*◌, ◌<◌}
use native.Mathlib.Nat.{le_antisymm}
use native.Mathlib.Omega.{arith}
use lib.IntN.{ℤ, pos, negsuc, neg_ℤ, nat_abs, neg_ℤ-neg_ℤ}
use Rattle.numbers.specs.OrderLaws.{le-both}
use Rattle.numbers.specs.DistanceLaws.{far, far-across}
use Rattle.numbers.specs.Nearest.{Nearest, nearest_n}
use Rattle.numbers.specs.NearestSignedLaws.{half_step, exact, monotone}
use Rattle.numbers.specs.Floor.{over, floor_z}
use Rattle.numbers.specs.FloorLaws.{down-under, down-largest}
use Rattle.numbers.specs.TruncateLaws.{quot-rem, rem-small, rem-side, quot-one, rem-one}
use Rattle.numbers.specs.ModuloLaws.{reduced-up, reduced-is-one}
use Rattle.numbers.specs.LowestLaws.{num-one, den-one}
use Rattle.numbers.specs.Statements.{NearestIs, NearestOne, WithinHalf, ExactOnMultiples, OrderKept, FloorIs, FloorOne, TruncateIs, TruncateOne, ReducedIs, ReducedOne, LowestOne}
use Rattle.numbers.proofs.Closest.{nearest-pos, mirrored}

pub nearest_is : NearestIs
nearest_is (pos a) n h = nearest-pos a n h
nearest_is (negsuc a) n h = mirrored (nearest-pos (suc a) n h)

-- two nearest numbers are as far from zero
as-far : {x j k : ℤ} {n : ℕ} → Nearest x n j → Nearest x n k → nat_abs j ≡ nat_abs k
as-far {j = j} {k = k} u v =
    let same = le_antisymm (u.closest k) (v.closest j) in
    le_antisymm (v.away j same) (u.away k (sym same))

-- a nearest of a number that is not below zero is not below zero
one-pos : (a n : ℕ) (k : ℤ) → 0 < n → Nearest (pos a) n k → k ≡ pos (nearest_n a n)
one-pos a n (pos b) h u = ap pos (as-far u (nearest-pos a n h))
one-pos a n (negsuc b) h u = absurd (omega (arith, u.closest (pos 0), far (0 * n) a, far-across (suc b * n) a))

pub nearest_one : NearestOne
nearest_one (pos a) n k h u = one-pos a n k h u
nearest_one (negsuc a) n k h u = sym (neg_ℤ-neg_ℤ k) ∙ ap neg_ℤ (one-pos (suc a) n (neg_ℤ k) h (mirrored u))

pub within_half : WithinHalf
within_half = half_step

pub exact_on_multiples : ExactOnMultiples
exact_on_multiples = exact

pub order_kept : OrderKept
order_kept = monotone

pub floor_is : FloorIs
floor_is x d h = record { under = down-under (over x d) (nat_abs d) h; largest = down-largest (over x d) (nat_abs d) h }

pub floor_one : FloorOne
floor_one x d k h u =
    le-both k (floor_z x d) ((floor_is x d h).largest k u.under) (u.largest (floor_z x d) (floor_is x d h).under)

pub truncate_is : TruncateIs
truncate_is x d h = record { whole = quot-rem x d; small = rem-small x d h; side = rem-side x d }

pub truncate_one : TruncateOne
truncate_one x d q r h u = (quot-one u (truncate_is x d h), rem-one u (truncate_is x d h))

pub reduced_is : ReducedIs
reduced_is = reduced-up

pub reduced_one : ReducedOne
reduced_one x n r h p = sym (reduced-is-one x n r h p)

pub lowest_one : LowestOne
lowest_one p q n d n' d' h u v = (num-one h u v, den-one h u v)
