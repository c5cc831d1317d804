-- `time::with_seconds` meets its contract: within the bounds of seconds both terms of the exact value fit.
-- Assumes nothing.
use Rattle.std.specs.Prelude.{Result, Ok, Err}
use Rattle.std.proofs.lemmas.Result.{err_from_is_err_and}
use Prim.Native.Nat.{ℕ, ◌*◌, ◌≤◌}
use mathlib.Core.Path.{◌≡◌, sym, ◌∙◌, ap, ap₂}
use mathlib.Core.Bool.{true}
use native.Mathlib.Nat.{mul-le-mul}
use native.Mathlib.Omega.{arith}
use borrow.Author.Rules.{rules}
use lib.IntN.{ℤ, pos, nat_abs, ◌*ℤ◌}
use mir.Syntax.{w64}
use mir.Val.{to_z, of_z}
use mir.Facts.{to_z-of_z}
use Rattle.numbers.specs.Nearest.{nearest_z}
use Rattle.numbers.specs.Total.{fitted, fitted-in}
use Rattle.answers.specs.declared.Refusal.{Refusal}
use Rattle.answers.specs.Refusals.{held}
use Rattle.rates.specs.declared.Framerate.{Framerate}
use Rattle.rates.specs.Rates.{is_rate, rate_row}
use Rattle.rates.proofs.Sound.{sound}
use Rattle.timecodes.specs.Made.{made}
use Rattle.time.specs.Bounds.{most_seconds, most_denominator, is_fraction}
use Rattle.time.specs.BoundsLaws.{InBounds, is_fraction-told}
use Rattle.time.specs.Frames.{seconds_frame}
use Rattle.time.proofs.Steps.{row-told, row-refused, seconds-out, seconds-beyond, seconds-in}
use Rattle.time.proofs.with_seconds.Goals as goal
use Rattle.time.proofs.with_seconds.Goals.{After-is_fraction, After-product-frames, In_ok-row}

pub returns-in_err-row : goal.returns-in_err-row
returns-in_err-row c =
    let told = row-refused c.args.rate _ (sym c.framerate_at.ensures ∙ c.in_err-row.was) in
    let p = err_from_is_err_and c.from_residual.result c.from_residual.ensures.1 in
    p.1 ∙ ap Err (p.2 ∙ told.1) ∙ seconds-out c.args.kind c.args.rate c.args.p c.args.q told.0

-- the row is that of a rate
rated : (c : In_ok-row) → (is_rate c.args.rate ≡ true) × (c.in_ok-row.row ≡ rate_row c.args.rate)
rated c =
    row-told c.args.rate c.in_ok-row.row (sym c.framerate_at.ensures ∙ c.in_ok-row.was)

-- what the test told is of p itself
told : (c : After-is_fraction) → is_fraction most_seconds c.args.p c.args.q ≡ c.is_fraction.result
told c =
    sym (c.is_fraction.ensures ∙ ap (λ (z : ℤ). is_fraction most_seconds z c.args.q) (to_z-of_z c.ranges.p))

pub returns-then-not-is_fraction : goal.returns-then-not-is_fraction
returns-then-not-is_fraction c =
    ap Err c.into.ensures
    ∙ seconds-beyond c.args.kind c.args.rate c.args.p c.args.q (rated (goal.at.returns-then-not-is_fraction c).In_ok-row).0
    (told (goal.at.returns-then-not-is_fraction c).After-is_fraction ∙ c.if-not-is_fraction.true)

-- behind both tests
rated_at : (c : After-product-frames) → (is_rate c.args.rate ≡ true) × (c.in_ok-row.row ≡ rate_row c.args.rate)
rated_at c =
    row-told c.args.rate c.in_ok-row.row (sym c.framerate_at.ensures ∙ c.in_ok-row.was)

fraction : (c : After-product-frames) → is_fraction most_seconds c.args.p c.args.q ≡ true
fraction c =
    sym (ap (λ (z : ℤ). is_fraction most_seconds z c.args.q) (to_z-of_z c.ranges.p)) ∙ sym c.is_fraction.ensures ∙ c.if-not-is_fraction.false

within : (c : After-product-frames) → InBounds most_seconds c.args.p c.args.q
within c =
    is_fraction-told most_seconds _ _ (fraction c)

numerator-is : (c : After-product-frames) → c.in_ok-row.row.numerator ≡ (rate_row c.args.rate).numerator
numerator-is c =
    ap (λ (r : Framerate). r.numerator) (rated_at c).1

denominator-is : (c : After-product-frames) → c.in_ok-row.row.denominator ≡ (rate_row c.args.rate).denominator
denominator-is c =
    ap (λ (r : Framerate). r.denominator) (rated_at c).1

-- the numerator, as the machine reads it
top-is : (c : After-product-frames) → to_z w64 (of_z w64 c.with_sign.result) ≡ pos (rate_row c.args.rate).numerator
top-is c =
    let n = (rate_row c.args.rate).numerator in
    to_z-of_z {w = w64} (record { sfits = c.with_sign.type_inv })
    ∙ c.with_sign.ensures
    ∙ ap (λ (k : ℕ). fitted k (pos k)) (numerator-is c)
    ∙ fitted-in n (pos n) (omega (arith, (sound _ (rated_at c).0).numerator_most))

-- the exact product
frames-is : (c : After-product-frames) → to_z w64 (of_z w64 c.product-frames.result) ≡ c.args.p *ℤ pos (rate_row c.args.rate).numerator
frames-is c =
    let n = (rate_row c.args.rate).numerator in
    to_z-of_z {w = w64} (record { sfits = c.product-frames.type_inv })
    ∙ c.product-frames.ensures
    ∙ ap₂ (λ (x y : ℤ). fitted (nat_abs x * nat_abs y) (x *ℤ y)) (to_z-of_z c.ranges.p) (top-is c)
    ∙ fitted-in (nat_abs c.args.p * n) (c.args.p *ℤ pos n) (omega (arith, mul-le-mul (within c).top (sound _ (rated_at c).0).numerator_most))

bottom-le : (c : After-product-frames) → c.args.q * c.in_ok-row.row.denominator ≤ most_denominator * 1001
bottom-le c =
    rw (denominator-is c) (mul-le-mul (within c).bottom (sound _ (rated_at c).0).denominator_most)

pub overflow_mul-q : goal.overflow_mul-q
overflow_mul-q c =
    record { fits = omega (arith, bottom-le (goal.at.overflow_mul-q c).After-product-frames) }

-- what was counted is the nearest frame
counted : (c : After-product-frames) (r : Result ℤ Refusal)
    → r ≡ held (nearest_z (to_z w64 (of_z w64 c.product-frames.result)) (c.args.q * c.in_ok-row.row.denominator))
    → held (seconds_frame c.args.p c.args.q c.args.rate) ≡ r
counted c r e =
    sym (e ∙ ap₂ (λ (z : ℤ) (d : ℕ). held (nearest_z z (c.args.q * d))) (frames-is c) (denominator-is c))

pub returns-in_err-nearest : goal.returns-in_err-nearest
returns-in_err-nearest c =
    let there = (goal.at.returns-in_err-nearest c).After-product-frames in
    let p = err_from_is_err_and c.from_residual-in_err-nearest.result c.from_residual-in_err-nearest.ensures.1 in
    p.1 ∙ ap Err p.2
    ∙ seconds-in c.args.kind c.args.rate c.args.p c.args.q (Err _) (rated_at there).0 (fraction there) (counted there _ c.nearest_count.ensures ∙ c.in_err-nearest.was)

pub returns : goal.returns
returns c =
    let there = (goal.at.returns c).After-product-frames in
    let back : to_z w64 (of_z w64 c.in_ok-nearest.nearest) ≡ c.in_ok-nearest.nearest = search rules in
    ap Ok (c.made.ensures ∙ ap (λ (z : ℤ). made c.args.kind z c.args.rate) back)
    ∙ seconds-in c.args.kind c.args.rate c.args.p c.args.q (Ok c.in_ok-nearest.nearest) (rated_at there).0 (fraction there) (counted there _ c.nearest_count.ensures ∙ c.in_ok-nearest.was)
