-- The statements of specs/Statements.antt, proved: by what an answer tells of its conditions, and what each rounding is.
-- Assumes nothing.
use Rattle.std.specs.Prelude.{Ok, Err}
use Prim.Native.Nat.{ℕ, ◌<◌}
use mathlib.Core.Path.{◌≡◌, subst, subst₂, ap₂}
use mathlib.Core.Bool.{true, false, not}
use native.Mathlib.Omega.{arith}
use borrow.Author.Tests.{ltb-true}
use lib.IntN.{ℤ, pos, nat_abs, ◌*ℤ◌}
use lib.Signed.{quot_z, rem_z}
use Rattle.numbers.specs.Nearest.{Nearest}
use Rattle.numbers.specs.Truncate.{Truncated}
use Rattle.numbers.specs.Floor.{Floor}
use Rattle.numbers.proofs.Statements.{nearest_is, truncate_is, floor_is}
use Rattle.answers.specs.declared.Refusal.{Refusal}
use Rattle.answers.specs.OrderLaws.{unless-told, not_in}
use Rattle.timecodes.specs.declared.Timecode.{Timecode}
use Rattle.timecodes.specs.declared.kinds.Joining.TheVariants.{Sum, Difference, Comparison}
use Rattle.timecodes.specs.Kinds.{mixed_kinds}
use Rattle.timecodes.specs.Timecode.{recounted}
use Rattle.timecodes.specs.Admitted.{admits_both}
use Rattle.timecodes.specs.AdmittedLaws.{at_told}
use Rattle.timecodes.specs.Instant.{instant}
use Rattle.time.specs.Bounds.{most_factor, is_fraction}
use Rattle.time.specs.BoundsLaws.{is_fraction-told}
use Rattle.arithmetic.specs.Product.{product_of, mul_when, mul_of}
use Rattle.arithmetic.specs.Divisor.{is_divisor}
use Rattle.arithmetic.specs.Truncating.{div_when, div_of, rem_of}
use Rattle.arithmetic.specs.Flooring.{floored_of, divq_when, divq_of}
use Rattle.arithmetic.specs.Remainder.{left_of, remq_when, remq_of}
use Rattle.arithmetic.specs.Compare.{order_of, compare_of}
use Rattle.arithmetic.specs.Statements.{SumNearest, DifferenceNearest, SumExact, DifferenceExact, ProductNearest, QuotientRemainder, QuotientFloor, RemainderNearest, Ordered, CompareIsOrder}
use Rattle.arithmetic.proofs.Orders.{order_is}
use Rattle.arithmetic.proofs.Joining.{joined-nearest, joined-exact}

pub sum_nearest : SumNearest
sum_nearest = joined-nearest false

pub difference_nearest : DifferenceNearest
difference_nearest = joined-nearest true

pub sum_exact : SumExact
sum_exact a b s t e l r = joined-exact false a b s t e (ap₂ (mixed_kinds Sum) l r) l

pub difference_exact : DifferenceExact
difference_exact a b s t e l r = joined-exact true a b s t e (ap₂ (mixed_kinds Difference) l r) l

-- what a factor and a divisor that passed tell
factor-pos : (p : ℤ) (q : ℕ) → not (is_fraction most_factor p q) ≡ false → 0 < q
factor-pos p q h = (is_fraction-told most_factor p q (not_in (is_fraction most_factor p q) h)).least

divisor-pos : (n : ℤ) → not (is_divisor n) ≡ false → 0 < nat_abs n
divisor-pos n h = ltb-true 0 (nat_abs n) (not_in (is_divisor n) h)

pub product_nearest : ProductNearest
unfolding mul_of
product_nearest tc end p q h =
    let told = at_told (mul_when tc p q) (recounted tc (product_of tc.count p q)) end h in
    subst (λ (k : Timecode). Nearest (tc.count *ℤ p) q k.count) told.1
    (nearest_is (tc.count *ℤ p) q (factor-pos p q told.0.1.1.1.0))

pub quotient_remainder : QuotientRemainder
unfolding div_of rem_of
quotient_remainder tc quotient rest n h g =
    let told = at_told (div_when tc n) (recounted tc (quot_z tc.count n)) quotient h in
    let left = at_told (div_when tc n) (recounted tc (rem_z tc.count n)) rest g in
    subst₂ (λ (u v : Timecode). Truncated tc.count n u.count v.count) told.1 left.1
    (truncate_is tc.count n (divisor-pos n told.0.1.1.1.0))

pub quotient_floor : QuotientFloor
unfolding divq_of
quotient_floor tc end p q h =
    let told = at_told (divq_when tc p q) (recounted tc (floored_of tc.count p q)) end h in
    subst (λ (k : Timecode). Floor (tc.count *ℤ pos q) p k.count) told.1
    (floor_is (tc.count *ℤ pos q) p (divisor-pos p told.0.1.1.1.1.0))

pub remainder_nearest : RemainderNearest
unfolding remq_of
remainder_nearest tc end p q h =
    let told = at_told (remq_when tc p q) (recounted tc (left_of tc.count p q)) end h in
    subst (λ (k : Timecode). Nearest (rem_z (tc.count *ℤ pos q) p) q k.count) told.1
    (nearest_is (rem_z (tc.count *ℤ pos q) p) q (factor-pos p q told.0.1.1.1.0))

-- an order is no refusal
order-apart : (o : ℤ) (e : Refusal) → Err e ≡ Ok o → ⊥
order-apart o e h = let clash : ◌≡◌ {A = ℕ} 0 1 = cc in omega arith

pub compare_is_order : CompareIsOrder
unfolding compare_of
compare_is_order a b o h =
    let told = (unless-told Err (admits_both Comparison a b) (Ok (order_of (instant a) (instant b))) (Ok o) (order-apart o) h).1 in
    let same : order_of (instant a) (instant b) ≡ o = cc in
    subst (Ordered (instant a) (instant b)) same (order_is (instant a) (instant b))
