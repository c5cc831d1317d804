-- Laws of a number held to the bounds of a count (BEHAVIOUR: Refusals): what callers cite in the place of the definition's text.
-- Assumes nothing.
use Rattle.std.specs.Prelude.{◌≡◌, Bool, true, false, not, cond, [], ◌∷◌, ℕ, ◌≤◌, ◌<◌, ℤ, nat_abs, Result, Ok, Err}
use Rattle.std.proofs.Common.{sym, ap, subst, arith, leb-true}
use Rattle.std.proofs.lemmas.Bool.{lt-leb}
use Rattle.numbers.specs.Sign.{signed}
use Rattle.numbers.specs.SignLaws.{abs-signed}
use Rattle.numbers.specs.Nearest.{Nearest, nearest_z}
use Rattle.numbers.proofs.Statements.{nearest_is}
use Rattle.answers.specs.declared.Refusal.{Refusal}
use Rattle.answers.specs.OrderLaws.{unless-told, not_in}
use Rattle.answers.specs.Refusals.{out_of_bounds, most_count, is_count, bad_count, held}

-- a number within the bounds is its own count
pub held_in : (z : ℤ) → is_count z ≡ true → held z ≡ Ok z
unfolding held
held_in z e = ap (λ (t : Bool). cond (not t) (Err out_of_bounds) (Ok z)) e

-- any other is refused 5
pub held_out : (z : ℤ) → is_count z ≡ false → held z ≡ Err out_of_bounds
unfolding held
held_out z e = ap (λ (t : Bool). cond (not t) (Err out_of_bounds) (Ok z)) e

-- a magnitude above the largest count is refused 5 under either sign
pub held-past : (minus : Bool) (m : ℕ) → most_count < m → held (signed minus m) ≡ Err out_of_bounds
held-past minus m h = held_out (signed minus m) (rw (abs-signed minus m) (lt-leb m most_count h))

-- a count is no refusal
pub count-apart : (y : ℤ) (e : Refusal) → ◌≡◌ {A = Result ℤ Refusal} (Err e) (Ok y) → ⊥
count-apart y e h = let clash : ◌≡◌ {A = ℕ} 0 1 = cc in omega arith

-- a count that came of it is the number, and within the bounds
pub held-told : (z y : ℤ) → held z ≡ Ok y → (y ≡ z) × (nat_abs z ≤ most_count)
unfolding held
held-told z y h =
    let told = unless-told Err (bad_count z ∷ []) (Ok z) (Ok y) (count-apart y) h in
    let same = told.1 in
    (cc, leb-true (nat_abs z) most_count (not_in (is_count z) told.0.0))

-- a held nearest is the nearest
pub held-nearest : (x k : ℤ) (n : ℕ) → 0 < n → held (nearest_z x n) ≡ Ok k → Nearest x n k
held-nearest x k n h e = subst (Nearest x n) (sym (held-told (nearest_z x n) k e).0) (nearest_is x n h)
